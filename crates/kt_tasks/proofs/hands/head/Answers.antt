use Rattle.std.proofs.Common.{subst}
use Rattle.kt_words.specs.BitFields.{Unpacks}
use Rattle.kt_words.specs.Words.{IsHeadWord, packed_head}
use Rattle.kt_tasks.proofs.Fields.{head_there, no_head}
use Rattle.kt_tasks.proofs.hands.head.Goals as goal

pub unreachable-requires : goal.unreachable-requires
unreachable-requires c = let q = c.requires.held in
    no_head q.0.berth c.field.result c.unpack_head.result (c.field.ensures.field.says q.0 q.1) c.unpack_head.ensures c.in-None.is

pub returns-clause-head : goal.returns-clause-head
returns-clause-head c = λ m held. head_there m.berth c.field.result c.in-Some.head (c.field.ensures.field.says m held)
    (subst (Unpacks IsHeadWord packed_head c.field.result) c.in-Some.is c.unpack_head.ensures)

pub returns-clause-fits : goal.returns-clause-fits
returns-clause-fits c = c.field.ensures.field.fits
