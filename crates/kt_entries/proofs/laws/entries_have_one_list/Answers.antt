use Rattle.kt_entries.proofs.Readings.{entries_have_one_list}
use Rattle.kt_entries.proofs.laws.entries_have_one_list.Goals as goal

pub returns : goal.returns
returns c = entries_have_one_list c.bodies_keep.ensures
