use Rattle.std.proofs.Common.{ap, ◌∙◌, sym, List, ℕ, Some}
use Rattle.kt_body.specs.declared.ops.Ended.{Ended}
use Rattle.kt_intervals.specs.Indexes.{index_fault, fault_with}
use Rattle.kt_intervals.proofs.indexes.fault_of.Goals as goal

pub returns-in-Fault-clause-fault : goal.returns-in-Fault-clause-fault
returns-in-Fault-clause-fault g c m h =
    ap (λ (p : List ℕ). Some (record { path = p; index = Some c.args.index; fault = c.in-Fault.fault; line = c.in-Fault.line })) (c.path_of-path.ensures.path m h)
    ∙ ap (λ (e : Ended). index_fault m.path c.args.index (fault_with e)) (sym c.in-Fault.is)
