use Rattle.std.proofs.Math.Logic.{∥∥₁_elim}
use Rattle.std.specs.Coded.{le_prop}
use Rattle.kt_core.proofs.running.Core.has_no_more.Goals as goal

pub returns-clause-tasks : goal.returns-clause-tasks
returns-clause-tasks c =
    let s = c.args.self.now in
    ∥∥₁_elim c.is_lawful.ensures.table le_prop (λ lawful. (c.tables_have_no_more.ensures s.program s.input c.is_lawful.ensures.accepted s.table lawful).0)

pub returns-clause-indexes : goal.returns-clause-indexes
returns-clause-indexes c =
    let s = c.args.self.now in
    ∥∥₁_elim c.is_lawful.ensures.table le_prop (λ lawful. (c.tables_have_no_more.ensures s.program s.input c.is_lawful.ensures.accepted s.table lawful).1)
