use Rattle.kt_body.proofs.Names.{local_small}
use Rattle.kt_body.proofs.walk.Walk.find.Goals as goal

pub returns-clause-small : goal.returns-clause-small
returns-clause-small c = rw (c.bound_in.ensures, c.as_slice.ensures.value) (local_small _ _ c.self.invariant)
