use Rattle.std.proofs.Common.{◌≡◌, ◌≤◌, ◌<◌, ◌+◌, ◌-◌, ◌*◌, ◌++◌, ◌∷◌, [], ℕ, suc, min, List, sym, ap, ◌∙◌, arith, append_assoc}
use Rattle.kt_words.specs.declared.pairs.Pair.{Pair}
use Rattle.kt_split.specs.Dealt.{dealt}
use Rattle.kt_split.proofs.DealtLemmas.{dealt_step}
use Rattle.kt_split.proofs.splits.deal.Goals as goal

one_more : (items items' all : List Pair) (at each count index more extra : ℕ) → index < count → extra ≡ min more 1 → more ≤ count - index
    → items' ≡ items ++ record { low = at; high = at + (each + extra) } ∷ []
    → items ++ dealt at each (count - index) more ≡ all
    → items' ++ dealt (at + (each + extra)) each (count - (index + 1)) (more - extra) ≡ all
one_more items items' all at each count index more extra less is few new old =
    let n = count - (index + 1) in
    let next : count - index ≡ suc n = omega (arith, less) in
    let step = dealt_step at each n more (omega (arith, few, next)) in
    ap (λ xs. xs ++ dealt (at + (each + extra)) each n (more - extra)) new
    ∙ (append_assoc items (record { low = at; high = at + (each + extra) } ∷ []) (dealt (at + (each + extra)) each n (more - extra))
    ∙ (ap (λ (k : ℕ). items ++ record { low = at; high = at + (each + k) } ∷ dealt (at + (each + k)) each n (more - k)) is
    ∙ (ap (λ xs. items ++ xs) (sym step) ∙ (ap (λ (k : ℕ). items ++ dealt at each k more) (sym next) ∙ old))))

more_sum : (at each count index more extra all : ℕ) → index < count → extra ≡ min more 1 → at + ((count - index) * each + more) ≡ all
    → at + (each + extra) + ((count - (index + 1)) * each + (more - extra)) ≡ all
more_sum at each count index more extra all less is sum =
    let n = count - (index + 1) in
    let next : count - index ≡ suc n = omega (arith, less) in
    let product : (count - index) * each ≡ each + n * each = ap (λ k. k * each) next ∙ omega arith in
    omega (arith, product, sum, is)

pub loop-index-preserved : goal.loop-index-preserved
loop-index-preserved c = record {
  items = one_more c.loop-index.pieces.items c.push.new.self.items _ c.loop-index.at c.args.each c.args.count c.loop-index.index c.loop-index.more c.min-extra.result
      c.loop-index-test.true c.min-extra.ensures c.loop-index.invariant.few c.push.ensures.items c.loop-index.invariant.items;
  few = omega (arith, c.loop-index.invariant.few, c.min-extra.ensures);
  sum = more_sum c.loop-index.at c.args.each c.args.count c.loop-index.index c.loop-index.more c.min-extra.result _ c.loop-index-test.true c.min-extra.ensures c.loop-index.invariant.sum;
  many = omega (arith, c.push.ensures.len, c.loop-index.invariant.many);
}
