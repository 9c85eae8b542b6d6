use Rattle.kt_entries.proofs.Readings.{bodies_have_one_list}
use Rattle.kt_entries.proofs.laws.bodies_have_one_list.Goals as goal

pub returns : goal.returns
returns c = bodies_have_one_list c.bodies_keep.ensures
