use Rattle.std.proofs.Common.{◌-◌, None, refl}
use Rattle.kt_order.specs.Body.{Stop}
use Rattle.kt_prog.specs.Bodies.{index_body, task_at}
use Rattle.kt_prog.specs.Calls.{Index}
use Rattle.kt_body.proofs.Ends.{can_begin, ends_done, ends_fault, ends_halted}
use Rattle.kt_body.proofs.Starting.{index_script}
use Rattle.kt_body.proofs.index.run_index.Goals as goal

pub run_at-requires-clause-can : goal.run_at-requires-clause-can
run_at-requires-clause-can g c =
    can_begin c.args.program.now (Index c.args.call.now c.args.index) c.args.ops.now c.args.ops.now
    (index_body (λ w. w) c.args.program.now c.args.call.now c.args.index (task_at c.args.program.now.tasks (c.args.call.now.task - 1)))
    (λ z. Stop None) c.requires (index_script c.args.program.now c.args.call.now c.args.index)

pub returns-in-Ok : goal.returns-in-Ok
returns-in-Ok g c =
    ends_done c.args.program.now (Index c.args.call.now c.args.index) c.args.ops.now c.run_at.new.ops
    (index_body (λ w. w) c.args.program.now c.args.call.now c.args.index (task_at c.args.program.now.tasks (c.args.call.now.task - 1)))
    (λ z. Stop None) c.requires (index_script c.args.program.now c.args.call.now c.args.index) refl refl c.in-Ok.ensures

pub returns-in-Err-Fault : goal.returns-in-Err-Fault
returns-in-Err-Fault g c =
    ends_fault c.args.program.now (Index c.args.call.now c.args.index) c.args.ops.now c.run_at.new.ops
    (index_body (λ w. w) c.args.program.now c.args.call.now c.args.index (task_at c.args.program.now.tasks (c.args.call.now.task - 1)))
    (λ z. Stop None) c.requires (index_script c.args.program.now c.args.call.now c.args.index) _ _
    (rw c.in-Err-Fault.field-0-is at c.in-Err-Fault.ensures)

pub returns-in-Err-Halted : goal.returns-in-Err-Halted
returns-in-Err-Halted g c =
    ends_halted c.args.program.now (Index c.args.call.now c.args.index) c.args.ops.now c.run_at.new.ops
    (index_body (λ w. w) c.args.program.now c.args.call.now c.args.index (task_at c.args.program.now.tasks (c.args.call.now.task - 1)))
    (λ z. Stop None) c.requires (index_script c.args.program.now c.args.call.now c.args.index)
    (rw c.in-Err-Halted.field-0-is at c.in-Err-Halted.ensures)
