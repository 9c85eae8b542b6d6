use Rattle.std.proofs.Common.{◌≡◌, ◌-◌, ◌<◌, ◌≤◌, drop, get_or}
use Rattle.kt_check.specs.Chains.{hash_of}
use Rattle.kt_check.proofs.Chained.{task_earlier}
use Rattle.kt_check.proofs.lookups.is_task_before.Given as goal

abbrev pub invariant-chain : goal.invariant-chain
invariant-chain l =
    (l.at ≤ l.covered)
    × (l.at < l.covered → get_or l.chains l.at 0 ≡ hash_of l.name)
    × (task_earlier (record { name = l.name; place = l.place }) 0 l.tasks ≡ task_earlier (record { name = l.name; place = l.place }) l.at (drop l.at l.tasks))

abbrev pub decreases-chain : goal.decreases-chain
decreases-chain l = l.covered - l.at
