use Rattle.std.proofs.Common.{◌≡◌, length, map, take}
use Rattle.kt_check.specs.Chains.{hash_family}
use Rattle.kt_check.specs.declared.chains.TheConstants.{COVERED}
use Rattle.kt_check.proofs.chains.family_chains.Given as goal

abbrev pub invariant-loop-i : goal.invariant-loop-i
invariant-loop-i l = (length l.hashes ≡ COVERED) × (take l.i l.hashes ≡ map hash_family (take l.i l.families))
