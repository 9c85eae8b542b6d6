use Rattle.std.proofs.Common.{◌≡◌, ◌<◌, ◌++◌, ℕ, ◌-◌, List, ap, sym, ◌∙◌, arith, string_bytes}
use Rattle.std.specs.List.{flat_map, range_with_len}
use Rattle.kt_gen.specs.Numbers.{members_of, row_of, row_text}
use Rattle.kt_gen.proofs.RowNumbers.{all_lines, all_numbers, next_row, row_length, rows_more}
use Rattle.kt_gen.proofs.numbers.Drawing.lines.Goals as goal

pub loop-member-init : goal.loop-member-init
loop-member-init c =
    let all : members_of c.args.self.kind c.args.self.size ≡ members_of c.args.self.kind c.args.self.size - 0 = omega arith in
    record {
      text = c.new-text.ensures.bytes;
      left = c.requires ∙ sym (all_numbers c.args.self.kind c.args.self.size c.args.self.number)
          ∙ ap (λ (n : ℕ). flat_map (λ t. row_of c.args.self.kind c.args.self.size c.args.self.number t) (range_with_len 0 n)) all;
    }

pub split_at-requires : goal.split_at-requires
split_at-requires c =
    let below : c.loop-member.member < members_of c.args.self.kind c.args.self.size = omega (arith, c.members-member-end.ensures.count) in
    let next = next_row (λ t. row_of c.args.self.kind c.args.self.size c.args.self.number t) c.width.result _ _ _
    (row_length c.args.self.kind c.args.self.size c.args.self.number c.loop-member.member ∙ sym c.width.ensures) below c.loop-member.invariant.left in
    next.enough

pub loop-member-preserved : goal.loop-member-preserved
loop-member-preserved c =
    let below : c.loop-member.member < members_of c.args.self.kind c.args.self.size = omega (arith, c.members-member-end.ensures.count) in
    let next = next_row (λ t. row_of c.args.self.kind c.args.self.size c.args.self.number t) c.width.result _ _ _
    (row_length c.args.self.kind c.args.self.size c.args.self.number c.loop-member.member ∙ sym c.width.ensures) below c.loop-member.invariant.left in
    record {
      text = rows_more (λ t. row_text (row_of c.args.self.kind c.args.self.size c.args.self.number t)) _ _ _ c.loop-member.invariant.text
          (c.in_ok-push_line.ensures ∙ ap (λ (row : List ℕ). string_bytes c.loop-member.text ++ row_text row) (c.split_at.ensures.front ∙ next.own));
      left = c.split_at.ensures.back ∙ next.behind;
    }

pub returns : goal.returns
returns c =
    let all : c.loop-member.member ≡ members_of c.args.self.kind c.args.self.size = omega (arith, c.members-member-end.ensures.count) in
    rw c.into_bytes.ensures.value (c.loop-member.invariant.text
    ∙ ap (λ (n : ℕ). flat_map (λ t. row_text (row_of c.args.self.kind c.args.self.size c.args.self.number t)) (range_with_len 0 n)) all
    ∙ all_lines c.args.self.kind c.args.self.size c.args.self.number)
