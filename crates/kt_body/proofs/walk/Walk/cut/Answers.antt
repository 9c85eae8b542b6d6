use Rattle.kt_body.proofs.Names.{small_take}
use Rattle.kt_body.proofs.walk.Walk.cut.Goals as goal

pub invariant_of-self : goal.invariant_of-self
invariant_of-self c = rw c.truncate.ensures.items (small_take _ _ c.self.invariant)
