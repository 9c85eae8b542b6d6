-- The least fault, or else the store, is what the law of the core speaks of.
use Rattle.std.proofs.Common.{◌≡◌, ℕ, List, length, Option, ap, sym, ◌∙◌}
use Rattle.kt_prog.specs.Runs.{FaultRun}
use Rattle.kt_prog.specs.declared.runs.Outcome.TheVariants as N
use Rattle.kt_tables.specs.Tables.{count_indexes}
use Rattle.kt_sim.proofs.LeastFaults.{answer_is, or_rows, ran_with}
use Rattle.kt_sim.proofs.run.answer.Goals as goal

pub returns-in-Some-clause-ran : goal.returns-in-Some-clause-ran
returns-in-Some-clause-ran c =
    let o = c.args.core.now in
    ap (λ (n : ℕ). ran_with n c.args.indexes (N.Fault c.in-Some.fault)) c.tasks-tasks.ensures
    ∙ ap (λ (n : ℕ). ran_with (length o.table.tasks) n (N.Fault c.in-Some.fault)) (sym c.requires.counted)
    ∙ ap (λ (f : Option FaultRun). ran_with (length o.table.tasks) (count_indexes o.table.tasks) (or_rows o.table.store f)) (sym c.in-Some.is)
    ∙ answer_is o c.least_fault.result c.requires.calm.few.tasks c.requires.calm.few.indexes c.least_fault.ensures c.gives_outcome.ensures

pub returns-in_ok-from_slice-in-None-clause-ran : goal.returns-in_ok-from_slice-in-None-clause-ran
returns-in_ok-from_slice-in-None-clause-ran c =
    let o = c.args.core.now in
    let rows : c.from_vec-rows.result ≡ o.table.store = c.from_vec-rows.ensures ∙ c.in_ok-from_slice-in-None.ensures.items ∙ c.rows.ensures in
    ap (λ (n : ℕ). ran_with n c.args.indexes (N.Rows c.from_vec-rows.result)) c.tasks-tasks.ensures
    ∙ ap (λ (n : ℕ). ran_with (length o.table.tasks) n (N.Rows c.from_vec-rows.result)) (sym c.requires.counted)
    ∙ ap (λ (xs : List ℕ). ran_with (length o.table.tasks) (count_indexes o.table.tasks) (N.Rows xs)) rows
    ∙ ap (λ (f : Option FaultRun). ran_with (length o.table.tasks) (count_indexes o.table.tasks) (or_rows o.table.store f)) (sym c.in-None.is)
    ∙ answer_is o c.least_fault.result c.requires.calm.few.tasks c.requires.calm.few.indexes c.least_fault.ensures c.gives_outcome.ensures
