use Rattle.std.proofs.Math.Logic.{∥∥₁_map}
use Rattle.kt_core.proofs.running.steps.events_keep_states_lawful.Goals as goal

pub returns : goal.returns
returns c = λ e s goes lawful. record {
  accepted = lawful.accepted;
  input = lawful.input;
  table = ∥∥₁_map lawful.table (c.events_keep_tables_lawful.ensures s.program s.input lawful.accepted e s.table goes.can goes.free);
}
