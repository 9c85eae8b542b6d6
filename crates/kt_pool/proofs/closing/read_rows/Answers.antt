use Rattle.std.proofs.Common.{arith, ◌≡◌, ◌∙◌, ap, suc, ℕ, ◌+◌, List, ◌∷◌, ◌++◌, []}
use Rattle.kt_words.specs.Places.{first_element}
use Rattle.kt_pool.proofs.Rows.{one_more, element_at}
use Rattle.kt_pool.proofs.closing.read_rows.Goals as goal

pub loop-number-preserved : goal.loop-number-preserved
loop-number-preserved c =
    let l = c.args.layout.now in let n = c.loop-number.number in record {
      count = let e = c.loop-number.invariant.count in let more = c.push_reserved.ensures.len in let old = c.loop-number.rows.ok.0 in
          let now = c.push_reserved.new.self.ok.0 in omega arith;
      read = c.push_reserved.ensures.items ∙ (ap (λ (z : List ℕ). z ++ c.word.result ∷ []) c.loop-number.invariant.read
          ∙ one_more (first_element l) l.elements n (n + 1) c.element.result c.word.result _ (omega arith)
          (let e : n + 1 ≡ suc n = omega arith in e)
          (c.element.ensures.value ∙ element_at l n) c.word.ensures);
      room = let r = c.loop-number.invariant.room in let k = c.push_reserved.ensures.capacity in omega arith;
    }
