-- How many pieces hold an index, after a cut and after a take.
use Rattle.std.proofs.Common.{◌≡◌, ◌≢◌, ℕ, zero, suc, ◌+◌, ◌-◌, ◌≤◌, ◌<◌, Bool, true, false, cond, nat_eq, nat_lt, ◌&&◌, List, [], ◌∷◌, length, inl, inr, replicate, refl, ap, arith}
use Rattle.std.proofs.lemmas.Bool.Decides.{nat_tests}
use Rattle.kt_order.specs.Forest.{Unclaimed}
use Rattle.kt_order.specs.Books.{Piece, below, holds, holding, NoneEmpty, untaken, NoneEnded, one_piece, is_inside, cut, left_of_piece, CanTake, take}

-- a loop begins: one piece of all its indexes
pub untaken_all : (n i : ℕ) → untaken (replicate n Unclaimed) i ≡ below n i
untaken_all zero i = omega arith
untaken_all (suc n) zero = omega arith
untaken_all (suc n) (suc i) = let h = untaken_all n i in omega arith

pub none_ended_all : (n : ℕ) → NoneEnded (replicate n Unclaimed)
none_ended_all zero = tt
none_ended_all (suc n) = (λ e. cc e, none_ended_all n)

pub length_all : (n : ℕ) → length (replicate n Unclaimed) ≡ n
length_all zero = refl
length_all (suc n) = ap suc (length_all n)

pub begin_pieces : (n : ℕ) → NoneEmpty (one_piece n)
begin_pieces zero = tt
begin_pieces (suc n) = (omega arith, tt)

pub begin_covers : (n i : ℕ) → holding (one_piece n) i ≡ below n i
begin_covers zero i = omega arith
begin_covers (suc n) i = omega arith

-- a split: the two parts hold what the piece held
inside_is : (at : ℕ) (p : Piece) → is_inside at p ≡ true → (p.from < at) × (at < p.to)
inside_is at p e = both (nat_lt p.from at) (nat_lt at p.to) e refl refl
  where
    both : (x y : Bool) → x && y ≡ true → nat_lt p.from at ≡ x → nat_lt at p.to ≡ y → (p.from < at) × (at < p.to)
    both true true e a b = (grind (arith, nat_tests), grind (arith, nat_tests))
    both true false e a b = cc
    both false y e a b = cc

pub cut_holds : (at i : ℕ) (pieces : List Piece) → holding (cut at pieces) i ≡ holding pieces i
cut_holds at i [] = refl
cut_holds at i (p ∷ pieces) = by_inside (is_inside at p) (inside_is at p) (cut_holds at i pieces)
  where
    by_inside : (b : Bool) → (b ≡ true → (p.from < at) × (at < p.to)) → holding (cut at pieces) i ≡ holding pieces i
        → holding (cond b (record { from = p.from; to = at } ∷ (record { from = at; to = p.to } ∷ pieces)) (p ∷ cut at pieces)) i ≡ holding (p ∷ pieces) i
    by_inside true f h = let k = f refl in omega (arith, k.0, k.1)
    by_inside false f h = ap (λ n. holds p i + n) h

pub cut_full : (at : ℕ) (pieces : List Piece) → NoneEmpty pieces → NoneEmpty (cut at pieces)
cut_full at [] full = tt
cut_full at (p ∷ pieces) full = by_inside (is_inside at p) (inside_is at p) (cut_full at pieces full.1)
  where
    by_inside : (b : Bool) → (b ≡ true → (p.from < at) × (at < p.to)) → NoneEmpty (cut at pieces)
        → NoneEmpty (cond b (record { from = p.from; to = at } ∷ (record { from = at; to = p.to } ∷ pieces)) (p ∷ cut at pieces))
    by_inside true f h = let k = f refl in (k.0, (k.1, full.1))
    by_inside false f h = (full.0, h)

-- a take: the piece is shorter by what is taken
eq_is : (a b : ℕ) → a ≡ b → nat_eq a b ≡ true
eq_is a b e = grind (arith, nat_tests)

eq_not : (a b : ℕ) → a ≢ b → nat_eq a b ≡ false
eq_not a b ne = grind (arith, nat_tests)

left_holds : (from to i : ℕ) (pieces : List Piece) → from ≤ to
    → holding (left_of_piece from to pieces) i ≡ (below to i - below from i) + holding pieces i
left_holds from to i pieces le = by_less (nat_lt from to) refl
  where
    by_less : (b : Bool) → nat_lt from to ≡ b
        → holding (cond b (record { from = from; to = to } ∷ pieces) pieces) i ≡ (below to i - below from i) + holding pieces i
    by_less true e = refl
    by_less false e =
        let ge : to ≤ from = grind (arith, nat_tests) in
        omega (arith, ge, le)

left_full : (from to : ℕ) (pieces : List Piece) → NoneEmpty pieces → NoneEmpty (left_of_piece from to pieces)
left_full from to pieces full = by_less (nat_lt from to) refl
  where
    by_less : (b : Bool) → nat_lt from to ≡ b → NoneEmpty (cond b (record { from = from; to = to } ∷ pieces) pieces)
    by_less true e = (grind (arith, nat_tests), full)
    by_less false e = full

pub take_holds : (at n i : ℕ) (pieces : List Piece) → CanTake at n pieces
    → holding (take at n pieces) i + (below (at + n) i - below at i) ≡ holding pieces i
take_holds at n i [] can = absurd can
take_holds at n i (p ∷ pieces) (inl h) =
    let from = h.0 in
    let left = left_holds (at + n) p.to i pieces h.1 in
    rw (eq_is p.from at h.0) (omega (arith, left, h.0, h.1))
take_holds at n i (p ∷ pieces) (inr h) =
    let more = take_holds at n i pieces h.1 in
    rw (eq_not p.from at h.0) (omega (arith, more))

pub take_full : (at n : ℕ) (pieces : List Piece) → NoneEmpty pieces → NoneEmpty (take at n pieces)
take_full at n [] full = tt
take_full at n (p ∷ pieces) full = by_begin (nat_eq p.from at) (take_full at n pieces full.1)
  where
    by_begin : (b : Bool) → NoneEmpty (take at n pieces)
        → NoneEmpty (cond b (left_of_piece (at + n) p.to pieces) (p ∷ take at n pieces))
    by_begin true h = left_full (at + n) p.to pieces full.1
    by_begin false h = (full.0, h)

pub can_holds : (at n i : ℕ) (pieces : List Piece) → CanTake at n pieces → at ≤ i → i < at + n → 1 ≤ holding pieces i
can_holds at n i [] can from less = absurd can
can_holds at n i (p ∷ pieces) (inl h) from less = omega (arith, h.0, h.1, from, less)
can_holds at n i (p ∷ pieces) (inr h) from less = let more = can_holds at n i pieces h.1 from less in omega (arith, more)
