use Rattle.std.proofs.Common.{◌≡◌, ◌<◌, drop}
use Rattle.kt_check.specs.Chains.{hash_from}
use Rattle.kt_check.specs.declared.chains.TheConstants.{HASHES}
use Rattle.kt_check.proofs.chains.hash.Given as goal

abbrev pub invariant-loop-byte : goal.invariant-loop-byte
invariant-loop-byte l = (l.hash < HASHES) × (hash_from 0 l.bytes ≡ hash_from l.hash (drop l.byte-index l.bytes))
