-- One word of a run is set: what the others are, and what the elements are.
use Rattle.std.proofs.Common.{◌≡◌, ◌≢◌, ℕ, zero, suc, ◌+◌, ◌-◌, ◌<◌, ◌≤◌, ◌⊎◌, inl, inr, List, [], ◌∷◌, length, take, drop, set, slice_index, refl, ap, ◌∙◌, arith}
use Rattle.kt_words.specs.Places.{Place, place, total_of, first_element, first_version, IsWithin, shared_word, worker_word, record_word, element_word, version_word, Shared, seats, tasks_drawn, positions_drawn, stop, shared_number, Own, request, post, answer, interval, home, own_number}
use Rattle.kt_words.specs.declared.layouts.Layout.{Layout}
use Rattle.kt_words.proofs.PlaceLaws.{set_is_read, others_stay}
use Rattle.kt_rule.specs.Records.{word_at, elements}

pub here : (l : Layout) (ws : List ℕ) (q : Place) (n : ℕ) → IsWithin l q → total_of l ≤ length ws → word_at l (set ws (place l q) n) q ≡ n
here l ws q n within wide = set_is_read l q ws n within wide

pub else : (l : Layout) (ws : List ℕ) (q r : Place) (n : ℕ) → IsWithin l q → IsWithin l r → r ≢ q
    → word_at l (set ws (place l q) n) r ≡ word_at l ws r
else l ws q r n in_q in_r other = others_stay l q r ws n in_q in_r other

-- a list from the number lo on, of so many
abbrev window : ℕ → ℕ → List ℕ → List ℕ
window lo n ws = take n (drop lo ws)

take_else : (n i x : ℕ) (ws : List ℕ) → n ≤ i → take n (set ws i x) ≡ take n ws
take_else zero i x ws h = refl
take_else (suc n) i x [] h = refl
take_else (suc n) zero x (w ∷ ws) h = absurd (omega arith)
take_else (suc n) (suc i) x (w ∷ ws) h = ap (λ (z : List ℕ). w ∷ z) (take_else n i x ws (omega arith))

take_set : (n i x : ℕ) (ws : List ℕ) → i < n → take n (set ws i x) ≡ set (take n ws) i x
take_set zero i x ws h = absurd (omega arith)
take_set (suc n) i x [] h = refl
take_set (suc n) zero x (w ∷ ws) h = refl
take_set (suc n) (suc i) x (w ∷ ws) h = ap (λ (z : List ℕ). w ∷ z) (take_set n i x ws (omega arith))

take_at : (n i : ℕ) (ws : List ℕ) → i < n → slice_index (take n ws) i ≡ slice_index ws i
take_at zero i ws h = absurd (omega arith)
take_at (suc n) i [] h = refl
take_at (suc n) zero (w ∷ ws) h = refl
take_at (suc n) (suc i) (w ∷ ws) h = take_at n i ws (omega arith)

drop_before : (lo i x : ℕ) (ws : List ℕ) → i < lo → drop lo (set ws i x) ≡ drop lo ws
drop_before zero i x ws h = absurd (omega arith)
drop_before (suc lo) i x [] h = refl
drop_before (suc lo) zero x (w ∷ ws) h = refl
drop_before (suc lo) (suc i) x (w ∷ ws) h = drop_before lo i x ws (omega arith)

drop_set : (lo i x : ℕ) (ws : List ℕ) → drop lo (set ws (lo + i) x) ≡ set (drop lo ws) i x
drop_set zero i x ws = ap (λ (k : ℕ). set ws k x) (let e : 0 + i ≡ i = omega arith in e)
drop_set (suc lo) i x [] = refl
drop_set (suc lo) i x (w ∷ ws) = ap (λ (k : ℕ). drop (suc lo) (set (w ∷ ws) k x)) (let e : suc lo + i ≡ suc (lo + i) = omega arith in e)
    ∙ drop_set lo i x ws

drop_at : (lo i : ℕ) (ws : List ℕ) → slice_index (drop lo ws) i ≡ slice_index ws (lo + i)
drop_at zero i ws = ap (slice_index ws) (let e : i ≡ 0 + i = omega arith in e)
drop_at (suc lo) i [] = refl
drop_at (suc lo) i (w ∷ ws) = drop_at lo i ws ∙ ap (slice_index (w ∷ ws)) (let e : suc (lo + i) ≡ suc lo + i = omega arith in e)

-- which places are those of elements
abbrev pub IsNoElement : Place → Type 0
IsNoElement (shared_word w) = Unit {0}
IsNoElement (worker_word k w) = Unit {0}
IsNoElement (record_word a f) = Unit {0}
IsNoElement (element_word e) = ⊥
IsNoElement (version_word o) = Unit {0}

shared-below : (w : Shared) → shared_number w < 4
shared-below seats = omega arith
shared-below tasks_drawn = omega arith
shared-below positions_drawn = omega arith
shared-below stop = omega arith

own-below : (w : Own) → own_number w < 8
own-below request = omega arith
own-below post = omega arith
own-below answer = omega arith
own-below interval = omega arith
own-below home = omega arith

-- they stand before the elements or behind them
around : (l : Layout) (q : Place) → IsWithin l q → IsNoElement q → (place l q < first_element l) ⊎ (first_version l ≤ place l q)
unfolding place
around l (shared_word w) h k = inl (omega (arith, shared-below w))
around l (worker_word a w) h k = inl (omega (arith, own-below w))
around l (record_word a f) h k = inl (omega arith)
around l (element_word e) h k = absurd k
around l (version_word o) h k = inr (omega arith)

-- a word that is no element leaves the elements
pub elements_else : (l : Layout) (ws : List ℕ) (q : Place) (n : ℕ) → IsWithin l q → IsNoElement q
    → elements l (set ws (place l q) n) ≡ elements l ws
elements_else l ws q n within none = elim (around l q within none) [
  | inl h ↦ ap (take l.elements) (drop_before (first_element l) (place l q) n ws h)
  | inr h ↦ (let lo = first_element l in let i = place l q - lo in let e : place l q ≡ lo + i = omega arith in
      ap (λ (k : ℕ). elements l (set ws k n)) e ∙ (ap (take l.elements) (drop_set lo i n ws) ∙ take_else l.elements i n (drop lo ws)
      (omega arith)))
]

pub elements_set : (l : Layout) (ws : List ℕ) (e n : ℕ) → e < l.elements
    → elements l (set ws (place l (element_word e)) n) ≡ set (elements l ws) e n
unfolding place
elements_set l ws e n h = ap (take l.elements) (drop_set (first_element l) e n ws) ∙ take_set l.elements e n (drop (first_element l) ws) h

pub elements_at : (l : Layout) (ws : List ℕ) (e : ℕ) → e < l.elements → slice_index (elements l ws) e ≡ word_at l ws (element_word e)
unfolding place
elements_at l ws e h = take_at l.elements e (drop (first_element l) ws) h ∙ drop_at (first_element l) e ws
