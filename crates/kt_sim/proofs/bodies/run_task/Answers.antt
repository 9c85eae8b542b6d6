-- A body begins where its task has done nothing.
use Rattle.std.proofs.Common.{◌≡◌, None, Some, refl, ◌∙◌, slice_get}
use Rattle.kt_tables.specs.Tables.{TaskRow}
use Rattle.kt_sim.specs.declared.operations.Simulation.{Simulation}
use Rattle.kt_sim.proofs.Ends.{begins_in, not_loop}
use Rattle.kt_sim.proofs.bodies.run_task.Goals as goal

pub run_loop-requires-clause-begins : goal.run_loop-requires-clause-begins
run_loop-requires-clause-begins c =
    let x = c.args.simulation.now in
    let s : Simulation = record { core = x.core; indexes = x.indexes; task = c.args.task; index = None; stop = None } in
    let same : (r : TaskRow) → slice_get x.core.table.tasks c.args.task ≡ Some r → c.copied-call.result ≡ r.call = λ r e. c.copied-call.ensures ∙ c.call.ensures r e in
    rw c.program-program.ensures (begins_in s c.copied-call.result c.is_lawful.ensures c.requires.calm c.requires.running refl refl same)

pub run_single-requires : goal.run_single-requires
run_single-requires c =
    let x = c.args.simulation.now in
    let s : Simulation = record { core = x.core; indexes = x.indexes; task = c.args.task; index = None; stop = None } in
    let same : (r : TaskRow) → slice_get x.core.table.tasks c.args.task ≡ Some r → c.copied-call.result ≡ r.call = λ r e. c.copied-call.ensures ∙ c.call.ensures r e in
    record {
      begins = rw c.program-program.ensures (begins_in s c.copied-call.result c.is_lawful.ensures c.requires.calm c.requires.running refl refl same);
      single = not_loop c.program-program.result.now c.copied-call.result.task (λ e. c.in_default.not-Loop (c.form.ensures ∙ e));
      counted = c.requires.counted;
    }
