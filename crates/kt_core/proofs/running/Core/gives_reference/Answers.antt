use Rattle.std.proofs.Math.Logic.{∥∥₁_elim, ∥∥₁_map}
use Rattle.std.specs.Coded.{Coded-set, coded_list, coded_ℕ}
use Rattle.kt_core.proofs.running.Core.gives_reference.Goals as goal

pub returns-clause-store : goal.returns-clause-store
returns-clause-store c =
    let s = c.args.self.now in
    ∥∥₁_elim c.is_lawful.ensures.table (Coded-set (coded_list coded_ℕ) _ _)
    (λ lawful. (c.done_table_is_reference.ensures s.program s.input c.is_lawful.ensures.accepted s.table lawful c.requires).store)

pub returns-clause-runs : goal.returns-clause-runs
returns-clause-runs c =
    let s = c.args.self.now in
    ∥∥₁_map c.is_lawful.ensures.table
    (λ lawful. c.done_table_is_reference.ensures s.program s.input c.is_lawful.ensures.accepted s.table lawful c.requires)
