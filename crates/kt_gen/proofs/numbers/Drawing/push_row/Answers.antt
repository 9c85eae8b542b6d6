use Rattle.std.proofs.Common.{◌≡◌, ◌++◌, ℕ, map, subst, arith}
use Rattle.std.specs.List.{range_with_len}
use Rattle.kt_gen.specs.Numbers.{element_of, width_of}
use Rattle.kt_gen.proofs.RowNumbers.{row_more}
use Rattle.kt_gen.proofs.numbers.Drawing.push_row.Goals as goal

pub loop-place-preserved : goal.loop-place-preserved
loop-place-preserved c =
    row_more _ _ _ (λ e. element_of c.args.self.kind c.args.self.size c.args.self.number c.args.member e) _ _ c.loop-place.invariant c.in_ok-push.ensures.items c.element.ensures

pub returns : goal.returns
returns c =
    let all : c.loop-place.place ≡ width_of c.args.self.kind = omega arith in
    subst (λ (n : ℕ). c.loop-place.numbers.items
    ≡ c.args.numbers.now.items ++ map (λ e. element_of c.args.self.kind c.args.self.size c.args.self.number c.args.member e) (range_with_len 0 n)) all
    c.loop-place.invariant
