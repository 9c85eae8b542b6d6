use Rattle.std.proofs.Common.{ap, ◌∙◌}
use Rattle.kt_prog.specs.Calls.{CallTree}
use Rattle.kt_body.proofs.Steps.{can_first, can_next, ran_err, ran_then}
use Rattle.kt_body.proofs.body.run_whole.Goals as goal

pub zero_each-requires : goal.zero_each-requires
zero_each-requires g c =
    let same = c.as_slice.ensures.value ∙ ap (λ (k : CallTree). k.accesses) c.call.view_is in
    rw same (can_first _ _ c.requires.can)

pub run_call-requires-clause-can : goal.run_call-requires-clause-can
run_call-requires-clause-can g c =
    let same = c.as_slice.ensures.value ∙ ap (λ (k : CallTree). k.accesses) c.call.view_is in
    can_next _ _ c.requires.can (rw same at c.in-Went.ensures)

pub returns-in-Went : goal.returns-in-Went
returns-in-Went g c =
    let same = c.as_slice.ensures.value ∙ ap (λ (k : CallTree). k.accesses) c.call.view_is in
    ran_then _ _ (rw same at c.in-Went.ensures) c.run_call.ensures

pub returns-in-Halt : goal.returns-in-Halt
returns-in-Halt g c =
    let same = c.as_slice.ensures.value ∙ ap (λ (k : CallTree). k.accesses) c.call.view_is in
    ran_err _ _ (rw same at c.in-Halt.ensures)
