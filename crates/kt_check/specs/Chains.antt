-- Declarations in reach by a number that is made of their names.
use Rattle.std.specs.Prelude.{◌≡◌, ◌≢◌, ℕ, ◌+◌, ◌*◌, ◌%◌, ◌<◌, ◌≤◌, List, [], ◌∷◌, length, get_or}
use Rattle.kt_prog.specs.declared.programs.Family.{Family}
use Rattle.kt_prog.specs.declared.programs.Task.{Task}
use Rattle.kt_check.specs.declared.chains.TheConstants.{HASHES}

abbrev pub hash_from : ℕ → List ℕ → ℕ
hash_from hash [] = hash
hash_from hash (byte ∷ bytes) = hash_from ((hash * 263 + byte) % HASHES) bytes

abbrev pub hash_of : List ℕ → ℕ
hash_of name = hash_from 0 name

abbrev pub hash_family : Family → ℕ
hash_family f = hash_of f.name

abbrev pub hash_task : Task → ℕ
hash_task t = hash_of t.name

-- from there on none has this number before `at`, and the one at `at` has it, if there is one
pub record IsNext (hashes : List ℕ) (hash from at : ℕ) : Type 0 where
  pub behind : from ≤ at
  pub within : at ≤ length hashes
  pub passed : (k : ℕ) → from ≤ k → k < at → get_or hashes k 0 ≢ hash
  pub same : at < length hashes → get_or hashes at 0 ≡ hash

-- the first with each number, and the next one behind each, of those from `from` on
pub record IsLinked (hashes heads next : List ℕ) (from : ℕ) : Type 0 where
  pub first : (hash : ℕ) → hash < HASHES → IsNext hashes hash from (get_or heads hash 0)
  pub later : (k : ℕ) → from ≤ k → k < length hashes → IsNext hashes (get_or hashes k 0) (k + 1) (get_or next k 0)
