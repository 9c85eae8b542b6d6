use Rattle.std.proofs.Common.{subst}
use Rattle.kt_words.specs.BitFields.{Unpacks}
use Rattle.kt_words.specs.Words.{IsPair, packed_pair}
use Rattle.kt_tasks.proofs.Calls.{fits_short}
use Rattle.kt_tasks.proofs.Fields.{length_found}
use Rattle.kt_tasks.proofs.hands.length.Goals as goal

pub returns-clause-length : goal.returns-clause-length
returns-clause-length c = let l = c.requires.live in let h = c.field.ensures.field in λ m held.
    length_found m.berth c.field.result c.in-Some.extent (h.says m held)
    (fits_short l.setup.program m.berth.call (h.fits m held.0 l.setup l.told))
    (subst (Unpacks IsPair packed_pair c.field.result) c.in-Some.is c.unpack_pair.ensures.exact)
