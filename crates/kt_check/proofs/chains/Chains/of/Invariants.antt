use Rattle.std.proofs.Common.{◌≡◌, ◌-◌, length, take}
use Rattle.kt_check.specs.Chains.{IsLinked}
use Rattle.kt_check.specs.declared.chains.TheConstants.{COVERED, HASHES}
use Rattle.kt_check.proofs.chains.Chains.of.Given as goal

abbrev pub invariant-loop-done : goal.invariant-loop-done
invariant-loop-done l = (length l.heads ≡ HASHES) × (length l.next ≡ COVERED) × IsLinked (take l.len l.hashes) l.heads l.next (l.len - l.done)
