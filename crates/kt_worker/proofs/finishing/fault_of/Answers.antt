use Rattle.std.proofs.Common.{ap, ◌∙◌, sym, List, ℕ, Some, None}
use Rattle.kt_body.specs.declared.ops.Ended.{Ended}
use Rattle.kt_worker.specs.Faults.{fault_at}
use Rattle.kt_intervals.specs.Indexes.{fault_with}
use Rattle.kt_worker.proofs.finishing.fault_of.Goals as goal

pub returns-in-Fault-clause-fault : goal.returns-in-Fault-clause-fault
returns-in-Fault-clause-fault g c m h =
    ap (λ (p : List ℕ). Some (record { path = p; index = None; fault = c.in-Fault.fault; line = c.in-Fault.line })) (c.path_of-path.ensures.path m h)
    ∙ ap (λ (e : Ended). fault_at m.path (fault_with e)) (sym c.in-Fault.is)
