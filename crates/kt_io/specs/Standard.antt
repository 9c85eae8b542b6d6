-- A stream over a device of the standard library.
use Rattle.std.specs.Prelude.{ℕ, List, ◌≡◌, ◌+◌, ◌-◌, ◌^◌, min, Result, is_ok, if◌then◌else◌}
use Rattle.std.specs.declared.option.Option.{Option}

-- What the device tells of its bytes, left or written, and how often it has failed.
pub record Device : Type 0 where
  pub bytes : Option (List ℕ)
  pub faults : ℕ

-- The count grows by one at a failure, up to 2^64-1, and else stays.
abbrev pub CountsFaults : {T E : Type 0} → ℕ → ℕ → Result T E → Type 0
CountsFaults before now result = now ≡ (if is_ok result then before else min (before + 1) (2 ^ 64 - 1))
