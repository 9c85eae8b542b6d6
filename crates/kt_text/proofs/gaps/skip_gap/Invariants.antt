use Rattle.std.proofs.Common.{length, ◌-◌}
use Rattle.kt_text.proofs.GapSteps.{IsPassed}
use Rattle.kt_text.proofs.gaps.skip_gap.Given as goal

abbrev pub invariant-gap : goal.invariant-gap
invariant-gap l = IsPassed l.text l.from l.at l.since l.place

abbrev pub decreases-gap : goal.decreases-gap
decreases-gap l = length l.text - l.at
