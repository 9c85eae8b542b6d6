-- The first of all faults that a seat has met, once its interval was run.
use Rattle.std.proofs.Common.{◌≡◌, List, ◌++◌, Option, Some, sym, subst}
use Rattle.kt_faults.specs.First.{IsFirst}
use Rattle.kt_prog.specs.Runs.{FaultRun}
use Rattle.kt_rule.specs.declared.views.Setup.{Setup}
use Rattle.kt_rule.specs.declared.views.View.{View}
use Rattle.kt_intervals.specs.Drains.{Drains}
use Rattle.kt_intervals.specs.Faults.{faults_met, index_faults, task_faults}
use Rattle.kt_intervals.proofs.Faults.{first_moved, index_faults_join}

pub drained_first : (at : _) (v w : View) (before after : Option FaultRun) → Drains at v w before after → (j : Setup) → v.setup ≡ Some j
    → IsFirst before (faults_met j v) → IsFirst after (faults_met j w)
drained_first at v w before after h j told first =
    subst (λ (x : View). IsFirst after (task_faults j x.tasks.ran ++ index_faults j x.loops.retired)) (sym h.same)
    (subst (λ (xs : List FaultRun). IsFirst after (task_faults j v.tasks.ran ++ xs)) (sym (index_faults_join j h.more v.loops.retired))
    (first_moved after (index_faults j h.more) (task_faults j v.tasks.ran) (index_faults j v.loops.retired) (h.least j told (faults_met j v) first)))
