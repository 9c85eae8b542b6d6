use Rattle.std.proofs.Common.{ap, ◌∙◌}
use Rattle.kt_prog.specs.Calls.{CallTree}
use Rattle.kt_body.proofs.Zeros.{can_zero, zeroed, zero_halted}
use Rattle.kt_body.proofs.zero.run_zero.Goals as goal

pub zero_each-requires : goal.zero_each-requires
zero_each-requires g c =
    let same = c.as_slice.ensures.value ∙ ap (λ (k : CallTree). k.accesses) c.call.view_is in
    rw same (can_zero _ _ _ c.args.ops.now c.requires)

pub returns-in-Went : goal.returns-in-Went
returns-in-Went g c =
    let same = c.as_slice.ensures.value ∙ ap (λ (k : CallTree). k.accesses) c.call.view_is in
    zeroed _ _ _ _ c.requires (rw same at c.in-Went.ensures)

pub returns-in-Halt : goal.returns-in-Halt
returns-in-Halt g c =
    let same = c.as_slice.ensures.value ∙ ap (λ (k : CallTree). k.accesses) c.call.view_is in
    zero_halted _ _ _ _ c.requires (rw same at c.in-Halt.ensures)
