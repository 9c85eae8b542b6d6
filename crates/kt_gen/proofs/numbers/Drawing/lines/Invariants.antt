use Rattle.std.proofs.Common.{◌≡◌, ◌-◌, string_bytes}
use Rattle.std.specs.List.{flat_map, range_with_len}
use Rattle.kt_gen.specs.Numbers.{members_of, row_of, row_text}
use Rattle.kt_gen.proofs.numbers.Drawing.lines.Given as goal

-- the lines so far, and the numbers of the rows that are left
abbrev pub invariant-loop-member : goal.invariant-loop-member
invariant-loop-member l = record {
  text : string_bytes l.text ≡ flat_map (λ t. row_text (row_of l.self.kind l.self.size l.self.number t)) (range_with_len 0 l.member);
  left : l.rest ≡ flat_map (λ t. row_of l.self.kind l.self.size l.self.number t)
      (range_with_len l.member (members_of l.self.kind l.self.size - l.member));
}
