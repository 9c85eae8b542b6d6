-- Takes and cuts of the pieces of a book, as counts of pieces by their positions. In rising order a piece stands once.
use Rattle.std.proofs.Common.{◌≡◌, ◌≢◌, ◌≤◌, ◌<◌, ℕ, zero, suc, ◌+◌, ◌-◌, Bool, true, false, cond, List, [], ◌∷◌, nat_eq, nat_lt, ◌&&◌, ◌⊎◌, inl, inr, refl, sym, ap, subst, arith}
use Rattle.std.proofs.lemmas.Bool.Decides.{nat_tests}
use Rattle.kt_order.specs.Books.{Piece, one_piece, is_inside, cut, left_of_piece, CanTake, take}
use Rattle.kt_words.specs.declared.pairs.Pair.{Pair}
use Rattle.kt_split.specs.Splits.{Fill}
use Rattle.kt_rule.specs.Lists.{weigh, one_if}
use Rattle.kt_rule.specs.LoopFacts.{Rises, count_piece, piece_is}
use Rattle.kt_pieces.specs.Changes.{cut_all}

pub number_or : (k j : ℕ) → ((k ≡ j) × (nat_eq k j ≡ true)) ⊎ ((k ≢ j) × (nat_eq k j ≡ false))
number_or k j = grind (arith, nat_tests)

pub less_or : (k j : ℕ) → ((k < j) × (nat_lt k j ≡ true)) ⊎ ((j ≤ k) × (nat_lt k j ≡ false))
less_or k j = grind (arith, nat_tests)

-- 1 where these are the positions of the pair, else 0
abbrev pub pair_is : ℕ → ℕ → Pair → ℕ
pair_is low high q = one_if (nat_eq low q.low && nat_eq high q.high)

abbrev pub pair : ℕ → ℕ → Pair
pair low high = record { low = low; high = high }

pub pair_or : (low high : ℕ) (q : Pair) → ((low ≡ q.low) × (high ≡ q.high) × (pair_is low high q ≡ 1)) ⊎ (pair_is low high q ≡ 0)
pair_or low high q = go (number_or low q.low) (number_or high q.high)
  where
    go : ((low ≡ q.low) × (nat_eq low q.low ≡ true)) ⊎ ((low ≢ q.low) × (nat_eq low q.low ≡ false))
        → ((high ≡ q.high) × (nat_eq high q.high ≡ true)) ⊎ ((high ≢ q.high) × (nat_eq high q.high ≡ false))
        → ((low ≡ q.low) × (high ≡ q.high) × (pair_is low high q ≡ 1)) ⊎ (pair_is low high q ≡ 0)
    go (inl a) (inl b) = inl (a.0, b.0, rw (a.1, b.1) refl)
    go (inl a) (inr b) = inr (rw (a.1, b.1) refl)
    go (inr a) b = inr (rw a.1 refl)

pub pair_self : (low high : ℕ) → pair_is low high (pair low high) ≡ 1
pair_self low high = rw (is low, is high) refl
  where
    is : (k : ℕ) → nat_eq k k ≡ true
    is k = grind (arith, nat_tests)

pub pair_other : (low high : ℕ) (q : Pair) → low ≢ q.low → pair_is low high q ≡ 0
pair_other low high q ne = elim (pair_or low high q) [ inl h ↦ absurd (ne h.0) | inr h ↦ h ]

-- what is left of a piece: nothing where it is empty
abbrev pub left_is : ℕ → ℕ → Pair → ℕ
left_is low high q = cond (nat_lt low high) (pair_is low high q) 0

pub left_some : (low high : ℕ) (q : Pair) → low < high → left_is low high q ≡ pair_is low high q
left_some low high q less = let e : nat_lt low high ≡ true = grind (arith, nat_tests) in ap (λ (b : Bool). cond b (pair_is low high q) 0) e

pub piece_own : (a low high : ℕ) (q : Pair) → piece_is (suc a) low high a q ≡ left_is low high q
piece_own a low high q = let e : nat_eq (suc a) (suc a) ≡ true = grind (arith, nat_tests) in ap (λ (b : Bool). cond b (left_is low high q) 0) e

-- in rising order no piece stands before where they begin
pub begins_after : (first n : ℕ) (pieces : List Piece) (q : Pair) → Rises n pieces → 1 ≤ count_piece q first pieces → first + n ≤ q.low
begins_after first n [] q r some = absurd (omega (arith, some))
begins_after first n (p ∷ pieces) q r some = elim (pair_or (first + p.from) (first + p.to) q) [
  | inl same ↦ omega (arith, same.0, r.0)
  | inr differ ↦ (let a = begins_after first p.to pieces q r.2 (omega (arith, some, differ)) in omega (arith, a, r.0, r.1))
]

pub can_take : (first n at k to : ℕ) (pieces : List Piece) → Rises n pieces → 1 ≤ count_piece (pair (first + at) (first + to)) first pieces
    → at + k ≤ to → CanTake at k pieces
can_take first n at k to [] r some inside = absurd (omega (arith, some))
can_take first n at k to (p ∷ pieces) r some inside = elim (pair_or (first + p.from) (first + p.to) (pair (first + at) (first + to))) [
  | inl same ↦ inl (omega (arith, same.0), omega (arith, same.1, inside))
  | inr differ ↦ (let more : 1 ≤ count_piece (pair (first + at) (first + to)) first pieces = omega (arith, some, differ) in
      let b = begins_after first p.to pieces (pair (first + at) (first + to)) r.2 more in
      inr ((λ e. let c = r.1 in omega (arith, b, c, e)), can_take first p.to at k to pieces r.2 more inside))
]

rest_count : (first from to : ℕ) (pieces : List Piece) (q : Pair) → count_piece q first (left_of_piece from to pieces)
    ≡ left_is (first + from) (first + to) q + count_piece q first pieces
rest_count first from to pieces q = go (less_or from to)
  where
    go : ((from < to) × (nat_lt from to ≡ true)) ⊎ ((to ≤ from) × (nat_lt from to ≡ false))
        → count_piece q first (left_of_piece from to pieces) ≡ left_is (first + from) (first + to) q + count_piece q first pieces
    go (inl h) = let e : nat_lt (first + from) (first + to) ≡ true = (let l = h.0 in grind (arith, nat_tests)) in rw (h.1, e) refl
    go (inr h) = let e : nat_lt (first + from) (first + to) ≡ false = (let l = h.0 in grind (arith, nat_tests)) in rw (h.1, e) (omega arith)

-- what a take and a cut make of the first piece and of the others
abbrev pub take_parts : ℕ → ℕ → Piece → List Piece → Bool → List Piece
take_parts at k p pieces c = cond c (left_of_piece (at + k) p.to pieces) (p ∷ take at k pieces)

abbrev pub cut_parts : ℕ → Piece → List Piece → Bool → List Piece
cut_parts at p pieces c = cond c (record { from = p.from; to = at } ∷ (record { from = at; to = p.to } ∷ pieces)) (p ∷ cut at pieces)

abbrev IsTaken : ℕ → ℕ → ℕ → ℕ → List Piece → Pair → Type 0
IsTaken first at k to pieces q = count_piece q first (take at k pieces) + pair_is (first + at) (first + to) q
    ≡ count_piece q first pieces + left_is (first + (at + k)) (first + to) q

abbrev IsCutAt : ℕ → ℕ → ℕ → ℕ → List Piece → Pair → Type 0
IsCutAt first at from to pieces q = count_piece q first (cut at pieces) + pair_is (first + from) (first + to) q
    ≡ count_piece q first pieces + (pair_is (first + from) (first + at) q + pair_is (first + at) (first + to) q)

-- a take puts what is left of the piece in its place
pub take_count : (first n at k to : ℕ) (pieces : List Piece) → Rises n pieces → 1 ≤ count_piece (pair (first + at) (first + to)) first pieces
    → (q : Pair) → count_piece q first (take at k pieces) + pair_is (first + at) (first + to) q
    ≡ count_piece q first pieces + left_is (first + (at + k)) (first + to) q
take_count first n at k to [] r some q = absurd (omega (arith, some))
take_count first n at k to (p ∷ pieces) r some q = elim (pair_or (first + p.from) (first + p.to) (pair (first + at) (first + to))) [
  | inl same ↦ is (omega (arith, same.0)) (omega (arith, same.1))
  | inr differ ↦ (let more : 1 ≤ count_piece (pair (first + at) (first + to)) first pieces = omega (arith, some, differ) in
      let b = begins_after first p.to pieces (pair (first + at) (first + to)) r.2 more in
      let ne : p.from ≢ at = (λ e. let c = r.1 in omega (arith, b, c, e)) in
      isnt ne (take_count first p.to at k to pieces r.2 more q))
]
  where
    is : p.from ≡ at → p.to ≡ to → IsTaken first at k to (p ∷ pieces) q
    is a b =
        let e : nat_eq p.from at ≡ true = grind (arith, nat_tests) in
        let d : count_piece q first (take at k (p ∷ pieces)) ≡ count_piece q first (left_of_piece (at + k) p.to pieces) =
        ap (λ (c : Bool). count_piece q first (take_parts at k p pieces c)) e in
        let g = rest_count first (at + k) p.to pieces q in
        let h : pair_is (first + p.from) (first + p.to) q ≡ pair_is (first + at) (first + to) q = λ i. pair_is (first + a i) (first + b i) q in
        let l : left_is (first + (at + k)) (first + p.to) q ≡ left_is (first + (at + k)) (first + to) q = ap (λ m. left_is (first + (at + k)) (first + m) q) b in
        omega (arith, d, g, h, l)

    isnt : p.from ≢ at → count_piece q first (take at k pieces) + pair_is (first + at) (first + to) q
        ≡ count_piece q first pieces + left_is (first + (at + k)) (first + to) q → IsTaken first at k to (p ∷ pieces) q
    isnt ne rest =
        let e : nat_eq p.from at ≡ false = grind (arith, nat_tests) in
        let d : count_piece q first (take at k (p ∷ pieces)) ≡ pair_is (first + p.from) (first + p.to) q + count_piece q first (take at k pieces) =
        ap (λ (c : Bool). count_piece q first (take_parts at k p pieces c)) e in
        omega (arith, d, rest)

pub inside_or : (at : ℕ) (p : Piece) → ((p.from < at) × (at < p.to) × (is_inside at p ≡ true)) ⊎ (((at ≤ p.from) ⊎ (p.to ≤ at)) × (is_inside at p ≡ false))
inside_or at p = go (less_or p.from at) (less_or at p.to)
  where
    go : ((p.from < at) × (nat_lt p.from at ≡ true)) ⊎ ((at ≤ p.from) × (nat_lt p.from at ≡ false))
        → ((at < p.to) × (nat_lt at p.to ≡ true)) ⊎ ((p.to ≤ at) × (nat_lt at p.to ≡ false))
        → ((p.from < at) × (at < p.to) × (is_inside at p ≡ true)) ⊎ (((at ≤ p.from) ⊎ (p.to ≤ at)) × (is_inside at p ≡ false))
    go (inl a) (inl b) = inl (a.0, b.0, rw (a.1, b.1) refl)
    go (inl a) (inr b) = inr (inr b.0, rw (a.1, b.1) refl)
    go (inr a) b = inr (inl a.0, rw a.1 refl)

-- a cut puts two pieces in the place of one
pub cut_count : (first n at from to : ℕ) (pieces : List Piece) → Rises n pieces → 1 ≤ count_piece (pair (first + from) (first + to)) first pieces
    → from < at → at < to → (q : Pair) → count_piece q first (cut at pieces) + pair_is (first + from) (first + to) q
    ≡ count_piece q first pieces + (pair_is (first + from) (first + at) q + pair_is (first + at) (first + to) q)
cut_count first n at from to [] r some low high q = absurd (omega (arith, some))
cut_count first n at from to (p ∷ pieces) r some low high q = elim (pair_or (first + p.from) (first + p.to) (pair (first + from) (first + to))) [
  | inl same ↦ is (omega (arith, same.0)) (omega (arith, same.1)) (inside_or at p)
  | inr differ ↦ (let more : 1 ≤ count_piece (pair (first + from) (first + to)) first pieces = omega (arith, some, differ) in
      let b = begins_after first p.to pieces (pair (first + from) (first + to)) r.2 more in
      isnt (omega (arith, b)) (inside_or at p) (cut_count first p.to at from to pieces r.2 more low high q))
]
  where
    is : p.from ≡ from → p.to ≡ to → ((p.from < at) × (at < p.to) × (is_inside at p ≡ true)) ⊎ (((at ≤ p.from) ⊎ (p.to ≤ at)) × (is_inside at p ≡ false)) → IsCutAt first at from to (p ∷ pieces) q
    is a b (inl h) =
        let d : count_piece q first (cut at (p ∷ pieces)) ≡ pair_is (first + p.from) (first + at) q + (pair_is (first + at) (first + p.to) q + count_piece q first pieces) =
        ap (λ (c : Bool). count_piece q first (cut_parts at p pieces c)) h.2 in
        let e : pair_is (first + p.from) (first + p.to) q ≡ pair_is (first + from) (first + to) q = λ i. pair_is (first + a i) (first + b i) q in
        let g : pair_is (first + p.from) (first + at) q ≡ pair_is (first + from) (first + at) q = ap (λ m. pair_is (first + m) (first + at) q) a in
        let k : pair_is (first + at) (first + p.to) q ≡ pair_is (first + at) (first + to) q = ap (λ m. pair_is (first + at) (first + m) q) b in
        omega (arith, d, e, g, k)
    is a b (inr h) = elim h.0 [ inl x ↦ absurd (omega (arith, x, a, low)) | inr x ↦ absurd (omega (arith, x, b, high)) ]

    isnt : p.to ≤ from → ((p.from < at) × (at < p.to) × (is_inside at p ≡ true)) ⊎ (((at ≤ p.from) ⊎ (p.to ≤ at)) × (is_inside at p ≡ false))
        → count_piece q first (cut at pieces) + pair_is (first + from) (first + to) q
        ≡ count_piece q first pieces + (pair_is (first + from) (first + at) q + pair_is (first + at) (first + to) q) → IsCutAt first at from to (p ∷ pieces) q
    isnt before (inl h) rest = absurd (let c = h.1 in omega (arith, before, c, low))
    isnt before (inr h) rest =
        let d : count_piece q first (cut at (p ∷ pieces)) ≡ pair_is (first + p.from) (first + p.to) q + count_piece q first (cut at pieces) =
        ap (λ (c : Bool). count_piece q first (cut_parts at p pieces c)) h.1 in
        omega (arith, d, rest)

-- THE ORDER STAYS

pub whole_rises : (n : ℕ) → Rises 0 (one_piece n)
whole_rises zero = tt
whole_rises (suc n) = (omega arith, omega arith, tt)

pub rise_from : (n m : ℕ) (pieces : List Piece) → n ≤ m → Rises m pieces → Rises n pieces
rise_from n m [] most r = tt
rise_from n m (p ∷ pieces) most r = (let a = r.0 in omega (arith, a, most), r.1, r.2)

pub cut_rises : (at n : ℕ) (pieces : List Piece) → Rises n pieces → Rises n (cut at pieces)
cut_rises at n [] r = tt
cut_rises at n (p ∷ pieces) r = go (inside_or at p) (cut_rises at p.to pieces r.2)
  where
    go : ((p.from < at) × (at < p.to) × (is_inside at p ≡ true)) ⊎ (((at ≤ p.from) ⊎ (p.to ≤ at)) × (is_inside at p ≡ false))
        → Rises p.to (cut at pieces) → Rises n (cut at (p ∷ pieces))
    go (inl h) rest = subst (λ (c : Bool). Rises n (cut_parts at p pieces c)) (sym h.2) (r.0, h.0, (omega arith, h.1, r.2))
    go (inr h) rest = subst (λ (c : Bool). Rises n (cut_parts at p pieces c)) (sym h.1) (r.0, r.1, rest)

pub take_rises : (at k n : ℕ) (pieces : List Piece) → Rises n pieces → Rises n (take at k pieces)
take_rises at k n [] r = tt
take_rises at k n (p ∷ pieces) r = go (number_or p.from at) (less_or (at + k) p.to) (take_rises at k p.to pieces r.2)
  where
    go : ((p.from ≡ at) × (nat_eq p.from at ≡ true)) ⊎ ((p.from ≢ at) × (nat_eq p.from at ≡ false))
        → ((at + k < p.to) × (nat_lt (at + k) p.to ≡ true)) ⊎ ((p.to ≤ at + k) × (nat_lt (at + k) p.to ≡ false))
        → Rises p.to (take at k pieces) → Rises n (take at k (p ∷ pieces))
    go (inl h) (inl less) rest = subst (λ (c : Bool). Rises n (take_parts at k p pieces c)) (sym h.1)
        (subst (λ (c : Bool). Rises n (cond c (record { from = at + k; to = p.to } ∷ pieces) pieces)) (sym less.1)
        (let a = r.0 in let b = h.0 in omega (arith, a, b), less.0, r.2))
    go (inl h) (inr more) rest = subst (λ (c : Bool). Rises n (take_parts at k p pieces c)) (sym h.1)
        (subst (λ (c : Bool). Rises n (cond c (record { from = at + k; to = p.to } ∷ pieces) pieces)) (sym more.1)
        (rise_from n p.to pieces (let a = r.0 in let b = r.1 in omega (arith, a, b)) r.2))
    go (inr h) less rest = subst (λ (c : Bool). Rises n (take_parts at k p pieces c)) (sym h.1) (r.0, r.1, rest)

-- ALL CUTS OF ONE SPLIT

pub fill_up : (pieces : List Pair) (from to : ℕ) → Fill from pieces to → from ≤ to
fill_up [] from to fill = omega (arith, fill)
fill_up (x ∷ pieces) from to fill = let a = fill_up pieces x.high to fill.2 in omega (arith, fill.0, fill.1, a)

pub all_rises : (first n : ℕ) (xs : List Pair) (pieces : List Piece) → Rises n pieces → Rises n (cut_all first xs pieces)
all_rises first n [] pieces r = r
all_rises first n (x ∷ xs) pieces r = all_rises first n xs (cut (x.low - first) pieces) (cut_rises (x.low - first) n pieces r)

-- the victim keeps the first positions, and each piece that is given stands among the others
pub split_count : (first n low c high : ℕ) (xs : List Pair) (pieces : List Piece) → Rises n pieces → first ≤ low → low < c → Fill c xs high
    → 1 ≤ count_piece (pair low high) first pieces → (q : Pair) → count_piece q first (cut_all first xs pieces) + pair_is low high q
    ≡ count_piece q first pieces + (pair_is low c q + weigh (λ (x : Pair). pair_is x.low x.high q) xs)
split_count first n low c high [] pieces r from less fill some q =
    let e : pair_is low c q ≡ pair_is low high q = ap (λ m. pair_is low m q) fill in omega (arith, e)
split_count first n low c high (x ∷ xs) pieces r from less fill some q =
    let up = fill_up xs x.high high fill.2 in
    let start : first + (low - first) ≡ low = omega (arith, from) in
    let middle : first + (x.low - first) ≡ c = omega (arith, from, less, fill.0) in
    let end : first + (high - first) ≡ high = omega (arith, from, less, fill.0, fill.1, up) in
    let one : (z : Pair) → count_piece z first (cut (x.low - first) pieces) + pair_is low high z
    ≡ count_piece z first pieces + (pair_is low c z + pair_is c high z) = (λ z.
    subst (λ (t : ℕ × ℕ × ℕ). count_piece z first (cut (x.low - first) pieces) + pair_is t.0 t.2 z
    ≡ count_piece z first pieces + (pair_is t.0 t.1 z + pair_is t.1 t.2 z)) (λ i. (start i, middle i, end i))
    (cut_count first n (x.low - first) (low - first) (high - first) pieces r
    (subst (λ (t : ℕ × ℕ). 1 ≤ count_piece (pair t.0 t.1) first pieces) (λ i. (sym start i, sym end i)) some)
    (omega (arith, less, fill.0, from)) (omega (arith, less, fill.0, fill.1, from, up)) z)) in
    let there = one (pair c high) in
    let own = pair_self c high in
    let other = pair_other low high (pair c high) (λ (e : low ≡ c). omega (arith, e, less)) in
    let rest = split_count first n c x.high high xs (cut (x.low - first) pieces) (cut_rises (x.low - first) n pieces r)
    (omega (arith, from, less)) (omega (arith, fill.0, fill.1)) fill.2 (omega (arith, there, own, other)) q in
    let now = one q in
    let same : pair_is x.low x.high q ≡ pair_is c x.high q = ap (λ m. pair_is m x.high q) fill.0 in
    omega (arith, rest, now, same)
