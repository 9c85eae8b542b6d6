use Rattle.std.proofs.Common.{◌-◌, length}
use Rattle.kt_text.proofs.ItemLists.{IsRead}
use Rattle.kt_text.proofs.data.read_data.Given as goal

abbrev pub invariant-loop-at : goal.invariant-loop-at
invariant-loop-at l = IsRead l.job l.from l.at l.wanted l.read.items

abbrev pub decreases-loop-at : goal.decreases-loop-at
decreases-loop-at l = length l.job - l.at
