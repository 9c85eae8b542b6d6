-- A source and a sink over memory, and what each call does to them.
use Rattle.std.specs.Prelude.{ℕ, List, [], ◌≡◌, ◌+◌, ◌-◌, ◌^◌, ◌≤◌, ◌↔◌, ◌⊎◌, min, length, Result, IsErr, IfOk, Contains}
use Rattle.kt_io.specs.Standard.{CountsFaults}

-- A source: what it has left, the most bytes a call, the numbers of the calls that fail, and how many calls and faults there were.
pub record Reading : Type 0 where
  pub left : List ℕ
  pub piece : ℕ
  pub fails : List ℕ
  pub calls : ℕ
  pub faults : ℕ

-- A sink: what was written to it, and how many bytes it takes in all; the others as at a source.
pub record Writing : Type 0 where
  pub written : List ℕ
  pub room : ℕ
  pub piece : ℕ
  pub fails : List ℕ
  pub calls : ℕ
  pub faults : ℕ

-- Before the first call.
abbrev pub fresh_source : List ℕ → ℕ → List ℕ → Reading
fresh_source bytes piece fails = record { left = bytes; piece = piece; fails = fails; calls = 0; faults = 0 }

abbrev pub fresh_sink : ℕ → ℕ → List ℕ → Writing
fresh_sink room piece fails = record { written = []; room = room; piece = piece; fails = fails; calls = 0; faults = 0 }

-- A read into a buffer of so many bytes: it fails at the listed calls, and else gives all that piece, buffer and source allow.
pub record ReadsInPieces {E : Type 0} (size : ℕ) (old new : Reading) (result : Result ℕ E) : Type 0 where
  pub number : new.calls ≡ min (old.calls + 1) (2 ^ 64 - 1)
  pub fails : IsErr result ↔ Contains old.fails new.calls
  pub count : IfOk result (λ n. n ≡ min (min old.piece size) (length old.left))
  pub faults : CountsFaults old.faults new.faults result
  pub same_piece : new.piece ≡ old.piece
  pub same_fails : new.fails ≡ old.fails

-- A write of so many bytes: it fails where the room is full and at the listed calls, and else takes all that piece, bytes and room allow.
pub record WritesInPieces {E : Type 0} (size : ℕ) (old new : Writing) (result : Result ℕ E) : Type 0 where
  pub number : new.calls ≡ min (old.calls + 1) (2 ^ 64 - 1)
  pub fails : IsErr result ↔ ((old.room ≤ length old.written) ⊎ Contains old.fails new.calls)
  pub count : IfOk result (λ n. n ≡ min (min old.piece size) (old.room - length old.written))
  pub faults : CountsFaults old.faults new.faults result
  pub same_room : new.room ≡ old.room
  pub same_piece : new.piece ≡ old.piece
  pub same_fails : new.fails ≡ old.fails
