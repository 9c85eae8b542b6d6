use Rattle.std.proofs.Common.{◌≡◌, length, map, take}
use Rattle.kt_check.specs.Chains.{hash_task}
use Rattle.kt_check.specs.declared.chains.TheConstants.{COVERED}
use Rattle.kt_check.proofs.chains.task_chains.Given as goal

abbrev pub invariant-loop-i : goal.invariant-loop-i
invariant-loop-i l = (length l.hashes ≡ COVERED) × (take l.i l.hashes ≡ map hash_task (take l.i l.tasks))
