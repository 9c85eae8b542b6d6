use Rattle.std.proofs.Common.{ap, refl, ◌∙◌}
use Rattle.kt_prog.specs.Calls.{CallTree}
use Rattle.kt_body.proofs.Steps.{can_first, can_next, ran_err, ran_then, still_here, still_is}
use Rattle.kt_tiles.proofs.Kernels.{kernel_call}
use Rattle.kt_tiles.proofs.kernel.run_zeroed.Goals as goal

pub zero_each-requires : goal.zero_each-requires
zero_each-requires g c =
    let same = c.as_slice-accesses.ensures.value ∙ ap (λ (k : CallTree). k.accesses) c.call.view_is in
    rw same (can_first _ _ c.requires.can)

pub run_numbered-requires : goal.run_numbered-requires
run_numbered-requires g c =
    let ints = c.as_slice-ints.ensures.value ∙ ap (λ (k : CallTree). k.ints) c.call.view_is in
    let same = c.as_slice-accesses.ensures.value ∙ ap (λ (k : CallTree). k.accesses) c.call.view_is in
    let task = ap (λ (k : CallTree). k.task) c.call.view_is in
    let can = can_next _ _ c.requires.can (rw same at c.in-Went.ensures) in
    let s = still_is _ _ _ (still_here _ can) (kernel_call c.args.program.now c.args.call.now _ _ task c.requires.kernel refl) in
    rw (ints, same) s.can

pub returns-in-Went : goal.returns-in-Went
returns-in-Went g c =
    let ints = c.as_slice-ints.ensures.value ∙ ap (λ (k : CallTree). k.ints) c.call.view_is in
    let same = c.as_slice-accesses.ensures.value ∙ ap (λ (k : CallTree). k.accesses) c.call.view_is in
    let task = ap (λ (k : CallTree). k.task) c.call.view_is in
    let can = can_next _ _ c.requires.can (rw same at c.in-Went.ensures) in
    let s = still_is _ _ _ (still_here _ can) (kernel_call c.args.program.now c.args.call.now _ _ task c.requires.kernel refl) in
    ran_then _ _ (rw same at c.in-Went.ensures) (s.ends _ _ (rw (ints, same) at c.run_numbered.ensures))

pub returns-in-Halt : goal.returns-in-Halt
returns-in-Halt g c =
    let same = c.as_slice-accesses.ensures.value ∙ ap (λ (k : CallTree). k.accesses) c.call.view_is in
    ran_err _ _ (rw same at c.in-Halt.ensures)
