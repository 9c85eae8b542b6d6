-- The items of the data go one by one.
use Rattle.std.proofs.Common.{◌≡◌, ℕ, zero, suc, ◌+◌, ◌-◌, ◌<◌, ◌≤◌, ◌==◌, ◌⊎◌, Bool, true, false, not, ◌&&◌, ◌||◌, List, [], ◌∷◌, length, drop, get_or, refl, ap, sym, ◌∙◌, arith, inl, inr, eq-eqb}
use Rattle.std.specs.List.{filter, prefix_len, range_with_len}
use Rattle.std.proofs.lemmas.List.{length-drop, get_or-drop}
use Rattle.std.proofs.lemmas.List.Sums.{prefix_len-drop_yes, prefix_len-le-length, prefix_len_passes, prefix_len_stops}
use Rattle.std.proofs.lemmas.Bool.Decides.{nat_tests}
use Rattle.kt_text.specs.Bytes.{is_blank, is_item_byte}
use Rattle.kt_text.specs.Data.{begins_item}

-- where the items from i on begin
abbrev pub starts_behind : List ℕ → ℕ → ℕ → List ℕ
starts_behind job from i = filter (λ k. begins_item job from k) (range_with_len i (length job - i))

range_next : (job : List ℕ) (i : ℕ) → i < length job → range_with_len i (length job - i) ≡ i ∷ range_with_len (i + 1) (length job - (i + 1))
range_next job i h = let e : length job - i ≡ suc (length job - (i + 1)) = omega arith in rw e refl

filter_no : (p : ℕ → Bool) (k : ℕ) (ks : List ℕ) → p k ≡ false → filter p (k ∷ ks) ≡ filter p ks
filter_no p k ks e = rw e refl

filter_yes : (p : ℕ → Bool) (k : ℕ) (ks : List ℕ) → p k ≡ true → filter p (k ∷ ks) ≡ k ∷ filter p ks
filter_yes p k ks e = rw e refl

no_start : (job : List ℕ) (from i : ℕ) → i < length job → begins_item job from i ≡ false → starts_behind job from i ≡ starts_behind job from (i + 1)
no_start job from i h e = ap (λ ks. filter (λ k. begins_item job from k) ks) (range_next job i h) ∙ filter_no (λ k. begins_item job from k) i (range_with_len (i + 1) (length job - (i + 1))) e

a_start : (job : List ℕ) (from i : ℕ) → i < length job → begins_item job from i ≡ true → starts_behind job from i ≡ i ∷ starts_behind job from (i + 1)
a_start job from i h e = ap (λ ks. filter (λ k. begins_item job from k) ks) (range_next job i h) ∙ filter_yes (λ k. begins_item job from k) i (range_with_len (i + 1) (length job - (i + 1))) e

pub starts_behind-end : (job : List ℕ) (from i : ℕ) → length job ≤ i → starts_behind job from i ≡ []
starts_behind-end job from i h = let e : length job - i ≡ 0 = omega arith in rw e refl

no_starts : (job : List ℕ) (from i n : ℕ) → i + n ≤ length job → ((k : ℕ) → k < n → begins_item job from (i + k) ≡ false) → starts_behind job from i ≡ starts_behind job from (i + n)
no_starts job from i zero h none = let e : i + 0 ≡ i = omega arith in rw e refl
no_starts job from i (suc n) h none =
    let e : i + suc n ≡ i + n + 1 = omega arith in
    rw e (no_starts job from i n (omega arith) (λ k below. none k (omega arith)) ∙ no_start job from (i + n) (omega arith) (none n (omega arith)))

and_false : (v w : Bool) → w ≡ false → (v && w) ≡ false
and_false true w e = e
and_false false w e = refl

and_first : (v w : Bool) → (v && w) ≡ true → v ≡ true
and_first true w e = refl
and_first false w e = e

and_both : (v w : Bool) → v ≡ true → w ≡ true → (v && w) ≡ true
and_both v w e f = rw (e, f) refl

or_second : (v w : Bool) → w ≡ true → (v || w) ≡ true
or_second true w e = refl
or_second false w e = e

is_no_blank : (v : Bool) → v ≡ false → not v ≡ true
is_no_blank v e = rw e refl

not_blank : (v : Bool) → not v ≡ true → v ≡ false
not_blank true e = sym e
not_blank false e = refl

is_blank_again : (v : Bool) → not v ≡ false → v ≡ true
is_blank_again true e = refl
is_blank_again false e = sym e

blank_begins_none : (job : List ℕ) (from i : ℕ) → is_blank (get_or job i 0) ≡ true → begins_item job from i ≡ false
blank_begins_none job from i e = rw e refl

inner_begins_none : (job : List ℕ) (from i : ℕ) → from ≤ i → is_item_byte (get_or job i 0) ≡ true → begins_item job from (i + 1) ≡ false
inner_begins_none job from i h e =
    let before : i + 1 - 1 ≡ i = omega arith in
    let other : (i + 1 == from) ≡ false = grind (arith, nat_tests) in
    let blank : is_blank (get_or job i 0) ≡ false = not_blank (is_blank (get_or job i 0)) e in
    and_false (is_item_byte (get_or job (i + 1) 0)) (i + 1 == from || is_blank (get_or job (i + 1 - 1) 0)) (rw (other, before, blank) refl)

-- no item begins in blanks
pub starts_behind-blanks : (job : List ℕ) (from i : ℕ) → i ≤ length job → starts_behind job from i ≡ starts_behind job from (i + prefix_len is_blank (drop i job))
starts_behind-blanks job from i h =
    no_starts job from i (prefix_len is_blank (drop i job)) (omega (arith, prefix_len-le-length is_blank (drop i job), length-drop i job))
    (λ k below. blank_begins_none job from (i + k) (ap (λ b. is_blank b) (sym (get_or-drop i job k 0)) ∙ prefix_len_passes is_blank (drop i job) k 0 below))

-- one item begins in an item
pub starts_behind-item : (job : List ℕ) (from i : ℕ) → from ≤ i → i < length job → begins_item job from i ≡ true →
    starts_behind job from i ≡ i ∷ starts_behind job from (i + prefix_len is_item_byte (drop i job))
starts_behind-item job from i low h e =
    let n : ℕ = prefix_len is_item_byte (drop i job) in
    let m : ℕ = prefix_len is_item_byte (drop (i + 1) job) in
    let first : is_item_byte (get_or job i 0) ≡ true = and_first (is_item_byte (get_or job i 0)) (i == from || is_blank (get_or job (i - 1) 0)) e in
    let more : n ≡ 1 + m = prefix_len-drop_yes is_item_byte job i 0 h first in
    let whole : i + n ≡ i + 1 + m = omega arith in
    a_start job from i h e ∙ ap (λ ks. i ∷ ks) (no_starts job from (i + 1) m (omega (arith, prefix_len-le-length is_item_byte (drop (i + 1) job), length-drop (i + 1) job))
    (λ k below. let at : i + 1 + k ≡ i + k + 1 = omega arith in
    rw at (inner_begins_none job from (i + k) (omega arith) (ap (λ b. is_item_byte b) (sym (get_or-drop i job k 0)) ∙ prefix_len_passes is_item_byte (drop i job) k 0 (omega arith))))
    ∙ ap (λ j. starts_behind job from j) (sym whole))

-- the data begin at i, or a blank stands there, or nothing does
abbrev pub IsEdge : List ℕ → ℕ → ℕ → Type 0
IsEdge job from i = i < length job → (i ≡ from) ⊎ (is_blank (get_or job i 0) ≡ true)

pub edge_behind : (job : List ℕ) (from i : ℕ) → i ≤ length job → IsEdge job from (i + prefix_len is_item_byte (drop i job))
edge_behind job from i low h =
    let stops = prefix_len_stops is_item_byte (drop i job) 0 (omega (arith, length-drop i job)) in
    inr (is_blank_again (is_blank (get_or job (i + prefix_len is_item_byte (drop i job)) 0)) (ap (λ b. is_item_byte b) (sym (get_or-drop i job (prefix_len is_item_byte (drop i job)) 0)) ∙ stops))

before_is_blank : (job : List ℕ) (i n : ℕ) → (k : ℕ) → k < n → n ≤ prefix_len is_blank (drop i job) → is_blank (get_or job (i + k) 0) ≡ true
before_is_blank job i n k below least = ap (λ b. is_blank b) (sym (get_or-drop i job k 0)) ∙ prefix_len_passes is_blank (drop i job) k 0 (omega arith)

-- what stands before the byte at i + n, where i is an edge and n blanks come behind it
begins_there : (job : List ℕ) (from i n : ℕ) → IsEdge job from i → n ≡ prefix_len is_blank (drop i job) → i + n < length job → (i + n == from || is_blank (get_or job (i + n - 1) 0)) ≡ true
begins_there job from i zero edge e h =
    let here : i + 0 ≡ i = omega arith in
    elim (edge (omega arith)) [
      | inl is ↦ (let same : (i + 0 == from) ≡ true = eq-eqb (i + 0) from (here ∙ is) in rw same refl)
      | inr blank ↦ (let more = prefix_len-drop_yes is_blank job i 0 (omega arith) blank in absurd (omega (arith, more, e)))
    ]
begins_there job from i (suc n) edge e h =
    let before : i + suc n - 1 ≡ i + n = omega arith in
    or_second (i + suc n == from) (is_blank (get_or job (i + suc n - 1) 0)) (rw before (before_is_blank job i (suc n) n (omega arith) (omega (arith, e))))

-- behind the blanks at an edge an item begins, or nothing comes
pub begins_item-blanks : (job : List ℕ) (from i : ℕ) → i ≤ length job → IsEdge job from i →
    i + prefix_len is_blank (drop i job) < length job → begins_item job from (i + prefix_len is_blank (drop i job)) ≡ true
begins_item-blanks job from i low edge h =
    let n : ℕ = prefix_len is_blank (drop i job) in
    let stops = prefix_len_stops is_blank (drop i job) 0 (omega (arith, length-drop i job)) in
    let byte : is_item_byte (get_or job (i + n) 0) ≡ true = is_no_blank (is_blank (get_or job (i + n) 0)) (ap (λ b. is_blank b) (sym (get_or-drop i job n 0)) ∙ stops) in
    and_both (is_item_byte (get_or job (i + n) 0)) (i + n == from || is_blank (get_or job (i + n - 1) 0)) byte (begins_there job from i n edge refl h)
