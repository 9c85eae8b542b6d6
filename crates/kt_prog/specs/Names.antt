-- What a name is made of.
use Rattle.std.specs.Prelude.{ℕ, ◌<◌, ◌≤◌, List, length}
use Rattle.std.specs.Str.{IsAscii}
use Rattle.kt_law.specs.declared.limits.TheConstants.{WORD_BYTES}

pub record IsName (text : List ℕ) : Type 0 where
  pub some : 0 < length text
  pub few : length text ≤ WORD_BYTES
  pub ascii : IsAscii text
