use Rattle.std.proofs.Common.{◌≡◌, ◌-◌, ◌<◌, ◌≤◌, drop, get_or}
use Rattle.kt_check.specs.Chains.{hash_of}
use Rattle.kt_check.proofs.Chained.{task_look}
use Rattle.kt_check.proofs.lookups.task_at.Given as goal

abbrev pub invariant-chain : goal.invariant-chain
invariant-chain l =
    (l.at ≤ l.covered)
    × (l.at < l.covered → get_or l.chains l.at 0 ≡ hash_of l.name)
    × (task_look l.name 0 l.tasks ≡ task_look l.name l.at (drop l.at l.tasks))

abbrev pub decreases-chain : goal.decreases-chain
decreases-chain l = l.covered - l.at
