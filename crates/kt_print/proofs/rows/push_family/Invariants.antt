use Rattle.std.proofs.Common.{◌≡◌, ◌++◌, ◌*◌, drop, string_bytes}
use Rattle.std.specs.List.{flat_map, range_with_len}
use Rattle.kt_print.specs.Rows.{line_text, member_row}
use Rattle.kt_print.proofs.rows.push_family.Given as goal

-- the lines so far stand behind what was there, and the other members' elements are left
abbrev pub invariant-loop-member : goal.invariant-loop-member
invariant-loop-member l = record {
  text : string_bytes l.text ≡ string_bytes l.fn.text ++ flat_map (λ k. line_text l.family.name k (member_row l.family l.rows k)) (range_with_len 0 l.member);
  left : l.rest ≡ drop (l.member * l.family.elements) l.rows;
}
