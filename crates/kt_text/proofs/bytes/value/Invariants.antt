use Rattle.std.proofs.Common.{drop, ◌≡◌}
use Rattle.kt_text.specs.Bytes.{value_of}
use Rattle.kt_text.proofs.Digits.{value_behind}
use Rattle.kt_text.proofs.bytes.value.Given as goal

-- the digits that are left make the whole number of what was read
abbrev pub invariant-loop-digit : goal.invariant-loop-digit
invariant-loop-digit l = value_behind l.n (drop l.digit-index l.digits) ≡ value_of l.digits
