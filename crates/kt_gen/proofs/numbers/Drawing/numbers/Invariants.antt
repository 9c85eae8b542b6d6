use Rattle.std.proofs.Common.{◌≡◌}
use Rattle.std.specs.List.{flat_map, range_with_len}
use Rattle.kt_gen.specs.Numbers.{row_of}
use Rattle.kt_gen.proofs.numbers.Drawing.numbers.Given as goal

-- the rows so far
abbrev pub invariant-loop-member : goal.invariant-loop-member
invariant-loop-member l =
    l.numbers.items ≡ flat_map (λ t. row_of l.self.kind l.self.size l.self.number t) (range_with_len 0 l.member)
