use Rattle.std.proofs.Common.{◌≡◌, ℕ, ap, ◌∙◌, arith}
use Rattle.std.specs.List.{flat_map, range_with_len}
use Rattle.kt_gen.specs.Numbers.{members_of, row_of}
use Rattle.kt_gen.proofs.RowNumbers.{all_numbers, rows_more}
use Rattle.kt_gen.proofs.numbers.Drawing.numbers.Goals as goal

pub loop-member-preserved : goal.loop-member-preserved
loop-member-preserved c =
    rows_more (λ t. row_of c.args.self.kind c.args.self.size c.args.self.number t) c.loop-member.member _ _ c.loop-member.invariant c.in_ok-push_row.ensures

pub returns : goal.returns
returns c =
    let all : c.loop-member.member ≡ members_of c.args.self.kind c.args.self.size = omega (arith, c.members-member-end.ensures.count) in
    c.loop-member.invariant
    ∙ ap (λ (n : ℕ). flat_map (λ t. row_of c.args.self.kind c.args.self.size c.args.self.number t) (range_with_len 0 n)) all
    ∙ all_numbers c.args.self.kind c.args.self.size c.args.self.number
