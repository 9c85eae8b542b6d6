-- Rows that are read one after another.
use Rattle.std.proofs.Common.{◌≡◌, ℕ, zero, suc, ◌+◌, ◌<◌, List, [], ◌∷◌, ◌++◌, take, drop, refl, sym, ap, ◌∙◌, arith}
use mathlib.Core.Option.{some, some-injective, some-ne-none}
use lib.ListN.{get_elem?}
use Rattle.kt_words.specs.Places.{place, element_word, first_element}
use Rattle.kt_words.specs.declared.layouts.Layout.{Layout}

take_one : (n x : ℕ) (xs : List ℕ) → get_elem? xs n ≡ some x → take (suc n) xs ≡ take n xs ++ x ∷ []
take_one n x [] e = absurd (some-ne-none x (sym e))
take_one zero x (y ∷ xs) e = ap (λ (z : ℕ). z ∷ []) (some-injective y x e)
take_one (suc n) x (y ∷ xs) e = ap (λ (z : List ℕ). y ∷ z) (take_one n x xs e)

at_take : (m n : ℕ) (xs : List ℕ) → n < m → get_elem? (take m xs) n ≡ get_elem? xs n
at_take zero n xs less = absurd (omega arith)
at_take (suc m) n [] less = refl
at_take (suc m) zero (x ∷ xs) less = refl
at_take (suc m) (suc n) (x ∷ xs) less = at_take m n xs (omega arith)

at_drop : (f n : ℕ) (xs : List ℕ) → get_elem? (drop f xs) n ≡ get_elem? xs (f + n)
at_drop zero n xs = ap (get_elem? xs) (let e : n ≡ 0 + n = omega arith in e)
at_drop (suc f) n [] = refl
at_drop (suc f) n (x ∷ xs) = at_drop f n xs ∙ ap (get_elem? (x ∷ xs)) (let e : suc (f + n) ≡ suc f + n = omega arith in e)

-- one more of the m from f on
pub one_more : (f m n k at x : ℕ) (ws : List ℕ) → n < m → k ≡ suc n → at ≡ f + n → get_elem? ws at ≡ some x
    → take n (take m (drop f ws)) ++ x ∷ [] ≡ take k (take m (drop f ws))
one_more f m n k at x ws less k_is at_is there =
    sym (ap (λ (z : ℕ). take z (take m (drop f ws))) k_is
    ∙ take_one n x (take m (drop f ws)) (at_take m n (drop f ws) less ∙ (at_drop f n ws ∙ (ap (get_elem? ws) (sym at_is) ∙ there))))

pub element_at : (l : Layout) (n : ℕ) → place l (element_word n) ≡ first_element l + n
unfolding place
element_at l n = refl
