use Rattle.kt_body.proofs.Names.{small_snoc}
use Rattle.kt_body.proofs.walk.Walk.give.Goals as goal

pub invariant_of-self : goal.invariant_of-self
invariant_of-self c = rw c.push.ensures.items (small_snoc _ _ c.self.invariant c.requires.small)
