-- What calls do to a source and a sink: to the bytes, where they are told, and to the count of faults.
use Rattle.std.specs.Prelude.{◌≡◌, ◌<◌, ◌≤◌, ◌+◌, ◌-◌, ◌^◌, ◌↔◌, ℕ, List, ◌++◌, length, take, min, OnErr, IfOk, MatchResult, None, Some, ⊤, Result}
use Rattle.std.specs.declared.option.Option.{Option}
use Rattle.std.specs.Io.KnownBytes.{Consumes, Keeps, Appends, IsAtEnd}

-- The count rose; at its greatest value it counts as risen.
abbrev pub Rose : ℕ → ℕ → Type 0
Rose before now = min (before + 1) (2 ^ 64 - 1) ≤ now

-- The count doesn't fall, and a failure comes only where it rose.
pub record HasCause {T E : Type 0} (before now : ℕ) (result : Result T E) : Type 0 where
  pub later : before ≤ now
  pub failed : OnErr result (Rose before now)

-- A read into a buffer: its first n bytes are the next ones, and n is 0 only at the end; a failure takes nothing.
abbrev pub Reads : {E : Type 0} → Option (List ℕ) → Option (List ℕ) → Result ℕ E → List ℕ → Type 0
Reads old new result buffer = MatchResult result (λ n. Consumes old new (take n buffer) × (n ≡ 0 → IsAtEnd new)) (λ _. Keeps old new)

-- A write of a piece: its first n bytes were appended; a failure appends nothing.
abbrev pub Writes : {E : Type 0} → Option (List ℕ) → Option (List ℕ) → Result ℕ E → List ℕ → Type 0
Writes old new result piece = MatchResult result (λ n. Appends old new (take n piece)) (λ _. Keeps old new)

-- A count of bytes of the piece, at least one.
abbrev pub IsCountOf : {E : Type 0} → Result ℕ E → List ℕ → Type 0
IsCountOf result piece = IfOk result (λ n. (0 < n) × (n ≤ length piece))

-- These are the bytes, where they are told.
abbrev pub Tells : Option (List ℕ) → List ℕ → Type 0
Tells None bytes = ⊤
Tells (Some xs) bytes = bytes ≡ xs

-- These are all bytes, and they were taken.
pub record TakesAll (old new : Option (List ℕ)) (bytes : List ℕ) : Type 0 where
  pub told : Tells old bytes
  pub at_end : IsAtEnd new

-- There are more bytes than so many.
pub record HasMoreThan (most : ℕ) (left : Option (List ℕ)) : Type 0 where
  pub bytes : List ℕ
  pub told : Tells left bytes
  pub more : most < length bytes

-- Some bytes were taken: one more than so many exactly where they are too many, and else no more.
pub record TakesWithin (most : ℕ) (too_many : Type 0) (old new : Option (List ℕ)) : Type 0 where
  pub bytes : List ℕ
  pub taken : Consumes old new bytes
  pub few : length bytes ≤ most + 1
  pub passed : too_many ↔ (most < length bytes)

-- A front of the bytes was appended, and not all.
pub record AppendsPart (old new : Option (List ℕ)) (bytes : List ℕ) : Type 0 where
  pub front : List ℕ
  pub rest : List ℕ
  pub split : front ++ rest ≡ bytes
  pub more : 0 < length rest
  pub appended : Appends old new front
