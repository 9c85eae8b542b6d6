use Rattle.std.proofs.Math.Logic.{∥∥₁_elim}
use Rattle.std.specs.Coded.{Coded-set}
use Rattle.kt_prog.specs.contracts.runs.Ran as ran
use Rattle.kt_core.proofs.running.Core.gives_outcome.Goals as goal

pub returns : goal.returns
returns c =
    let s = c.args.self.now in
    ∥∥₁_elim c.is_lawful.ensures.table (Coded-set ran.the_row.coded _ _)
    (λ lawful. (c.done_table_is_reference.ensures s.program s.input c.is_lawful.ensures.accepted s.table lawful c.requires).outcome)
