use Rattle.kt_body.proofs.Names.{length_assign, refill_same, renamed_is, small_assign}
use Rattle.kt_body.proofs.walk.Walk.set.Goals as goal

pub invariant_of-self : goal.invariant_of-self
invariant_of-self c =
    let after = rw c.as_mut_slice.ensures.value at c.set_in.ensures in
    rw (after, refill_same _ _ (length_assign _ _ _)) (small_assign _ _ _ c.self.invariant)

pub returns : goal.returns
returns c =
    let after = rw c.as_mut_slice.ensures.value at c.set_in.ensures in
    rw (← c.self.view_is, after, refill_same _ _ (length_assign c.self.inside.locals.items c.args.name.now c.args.n))
    (renamed_is (record { locals = c.self.inside.locals.items; steps = c.self.inside.steps }) c.args.name.now c.args.n)
