use Rattle.std.proofs.Common.{None, refl}
use Rattle.kt_order.specs.Body.{Stop}
use Rattle.kt_prog.specs.Bodies.{job_body}
use Rattle.kt_prog.specs.Calls.{Whole}
use Rattle.kt_body.proofs.Ends.{can_begin, ends_done, ends_fault, ends_halted}
use Rattle.kt_body.proofs.Starting.{script_is}
use Rattle.kt_tiles.proofs.Kernels.{kernel_end}
use Rattle.kt_tiles.proofs.kernel.run_kernel.Goals as goal

pub run_zeroed-requires-clause-can : goal.run_zeroed-requires-clause-can
run_zeroed-requires-clause-can g c =
    can_begin c.args.program.now (Whole c.args.call.now) c.args.ops.now c.args.ops.now (job_body (λ w. w) c.args.program.now (Whole c.args.call.now))
    (λ z. Stop None) c.requires.begins (script_is c.args.program.now c.args.call.now)

pub returns-in-Ok : goal.returns-in-Ok
returns-in-Ok g c =
    ends_done c.args.program.now (Whole c.args.call.now) c.args.ops.now c.run_zeroed.new.ops (job_body (λ w. w) c.args.program.now (Whole c.args.call.now))
    (λ z. Stop None) c.requires.begins (script_is c.args.program.now c.args.call.now) (kernel_end c.args.program.now c.args.call.now c.requires.kernel) refl
    c.in-Ok.ensures

pub returns-in-Err-Fault : goal.returns-in-Err-Fault
returns-in-Err-Fault g c =
    ends_fault c.args.program.now (Whole c.args.call.now) c.args.ops.now c.run_zeroed.new.ops (job_body (λ w. w) c.args.program.now (Whole c.args.call.now))
    (λ z. Stop None) c.requires.begins (script_is c.args.program.now c.args.call.now) _ _ (rw c.in-Err-Fault.field-0-is at c.in-Err-Fault.ensures)

pub returns-in-Err-Halted : goal.returns-in-Err-Halted
returns-in-Err-Halted g c =
    ends_halted c.args.program.now (Whole c.args.call.now) c.args.ops.now c.run_zeroed.new.ops (job_body (λ w. w) c.args.program.now (Whole c.args.call.now))
    (λ z. Stop None) c.requires.begins (script_is c.args.program.now c.args.call.now) (rw c.in-Err-Halted.field-0-is at c.in-Err-Halted.ensures)
