use Rattle.std.proofs.Common.{refl}
use Rattle.kt_check.specs.Beyond.{name_of_family}
use Rattle.kt_check.proofs.ByName.{one_before}
use Rattle.kt_check.proofs.beyond.map_families.Goals as goal

pub loop-done-preserved : goal.loop-done-preserved
loop-done-preserved c = one_before name_of_family _ _ _ _ c.as_bytes.result c.loop-done.places c.insert.new.self c.loop-done-test.true refl c.index-families-at.is c.as_bytes.ensures.bytes c.loop-done.invariant c.in_ok-insert.ensures.updates
