-- What is found in a list of pieces by places.
use Rattle.std.proofs.Common.{◌≡◌, ◌≤◌, ◌<◌, ◌+◌, ℕ, zero, suc, List, [], ◌∷◌, Bool, true, false, cond, Some, ◌||◌, not, nat_lt, nat_eq, length, drop, ◌⊎◌, inl, inr, refl, sym, ap, ◌∙◌, arith}
use Rattle.std.specs.List.{slice_get, slice_set, insert, remove}
use Rattle.std.proofs.lemmas.Bool.Decides.{nat_tests}
use Rattle.kt_order.specs.Books as books
use Rattle.kt_order.specs.Books.{Piece, is_inside, left_of_piece}
use Rattle.kt_tables.specs.LoopRows.{has_inside, can_take}
use Rattle.kt_core.specs.Pieces.{first_place, place_inside, place_from}

-- the search goes on behind a piece that fails the test, and stops at one that passes it
module _ (test : Piece → Bool) where
  pub place_next : (pieces : List Piece) (n : ℕ) (d : Piece) → slice_get pieces n ≡ Some d → test d ≡ false
      → n + first_place test (drop n pieces) ≡ first_place test pieces → suc n + first_place test (drop (suc n) pieces) ≡ first_place test pieces
  place_next pieces n d at fails is =
      let here : first_place test (drop n pieces) ≡ suc (first_place test (drop (suc n) pieces)) = split pieces n d at ∙ ap (λ (b : Bool). cond b 0 (suc (first_place test (drop (suc n) pieces)))) fails in
      omega (arith, here, is)
    where
      split : (pieces : List Piece) (n : ℕ) (d : Piece) → slice_get pieces n ≡ Some d → first_place test (drop n pieces) ≡ cond (test d) 0 (suc (first_place test (drop (suc n) pieces)))
      split [] n d at = cc
      split (p ∷ pieces) zero d at = ap (λ (z : Piece). cond (test z) 0 (suc (first_place test pieces))) (the_some at)
        where
          the_some : Some p ≡ Some d → p ≡ d
          the_some e = cc
      split (p ∷ pieces) (suc n) d at = split pieces n d at

  pub place_here : (pieces : List Piece) (n : ℕ) (d : Piece) → slice_get pieces n ≡ Some d → test d ≡ true
      → n + first_place test (drop n pieces) ≡ first_place test pieces → n ≡ first_place test pieces
  place_here pieces n d at holds is =
      let here : first_place test (drop n pieces) ≡ 0 = split pieces n d at holds in
      omega (arith, here, is)
    where
      split : (pieces : List Piece) (n : ℕ) (d : Piece) → slice_get pieces n ≡ Some d → test d ≡ true → first_place test (drop n pieces) ≡ 0
      split [] n d at holds = cc
      split (p ∷ pieces) zero d at holds = ap (λ (b : Bool). cond b 0 (suc (first_place test pieces))) (ap test (the_some at) ∙ holds)
        where
          the_some : Some p ≡ Some d → p ≡ d
          the_some e = cc
      split (p ∷ pieces) (suc n) d at holds = split pieces n d at holds

  none_at_all : (pieces : List Piece) (n : ℕ) → length pieces ≤ n → first_place test (drop n pieces) ≡ 0
  none_at_all [] zero few = refl
  none_at_all [] (suc n) few = refl
  none_at_all (p ∷ pieces) zero few = absurd (omega (arith, few))
  none_at_all (p ∷ pieces) (suc n) few = none_at_all pieces n (omega (arith, few))

  pub place_none : (pieces : List Piece) (n : ℕ) → n ≡ length pieces → n + first_place test (drop n pieces) ≡ first_place test pieces → n ≡ first_place test pieces
  place_none pieces n all is = let none = none_at_all pieces n (omega (arith, all)) in omega (arith, none, is)

-- a piece has the index inside just where the search finds one
pub inside_found : (at : ℕ) (pieces : List Piece) → has_inside at pieces ≡ nat_lt (place_inside at pieces) (length pieces)
inside_found at [] = refl
inside_found at (p ∷ pieces) = by (is_inside at p) (inside_found at pieces)
  where
    less_suc : (a b : ℕ) → nat_lt a b ≡ nat_lt (suc a) (suc b)
    less_suc a b = grind (arith, nat_tests)

    some_first : (n : ℕ) → true ≡ nat_lt 0 (suc n)
    some_first n = grind (arith, nat_tests)

    by : (b : Bool) → has_inside at pieces ≡ nat_lt (place_inside at pieces) (length pieces)
        → (b || has_inside at pieces) ≡ nat_lt (cond b 0 (suc (place_inside at pieces))) (suc (length pieces))
    by true more = some_first (length pieces)
    by false more = more ∙ less_suc (place_inside at pieces) (length pieces)

-- and can be taken from where the first one that begins there is long enough
pub take_found : (at n : ℕ) (pieces : List Piece) (d : Piece) → slice_get pieces (place_from at pieces) ≡ Some d → can_take at n pieces ≡ not (nat_lt d.to (at + n))
take_found at n [] d e = cc
take_found at n (p ∷ pieces) d e = by (nat_eq p.from at) e (take_found at n pieces d)
  where
    the_some : {x y : Piece} → Some x ≡ Some y → x ≡ y
    the_some h = cc

    by : (b : Bool) → slice_get (p ∷ pieces) (cond b 0 (suc (place_from at pieces))) ≡ Some d
        → (slice_get pieces (place_from at pieces) ≡ Some d → can_take at n pieces ≡ not (nat_lt d.to (at + n)))
        → cond b (not (nat_lt p.to (at + n))) (can_take at n pieces) ≡ not (nat_lt d.to (at + n))
    by true e more = ap (λ (z : Piece). not (nat_lt z.to (at + n))) (the_some e)
    by false e more = more e

pub take_unfound : (at n : ℕ) (pieces : List Piece) → length pieces ≤ place_from at pieces → can_take at n pieces ≡ false
take_unfound at n [] few = refl
take_unfound at n (p ∷ pieces) few = by (nat_eq p.from at) few (take_unfound at n pieces)
  where
    by : (b : Bool) → suc (length pieces) ≤ cond b 0 (suc (place_from at pieces)) → (length pieces ≤ place_from at pieces → can_take at n pieces ≡ false)
        → cond b (not (nat_lt p.to (at + n))) (can_take at n pieces) ≡ false
    by true few more = absurd (omega (arith, few))
    by false few more = more (omega (arith, few))

-- the cut, done by an insertion behind the piece and a change of it
pub cut_done : (at : ℕ) (pieces : List Piece) (d : Piece) → slice_get pieces (place_inside at pieces) ≡ Some d
    → books.cut at pieces ≡ slice_set (insert pieces (suc (place_inside at pieces)) (record { from = at; to = d.to })) (place_inside at pieces) (record { from = d.from; to = at })
cut_done at [] d e = cc
cut_done at (p ∷ pieces) d e = by (is_inside at p) e (cut_done at pieces d)
  where
    the_some : {x y : Piece} → Some x ≡ Some y → x ≡ y
    the_some h = cc

    by : (b : Bool) → slice_get (p ∷ pieces) (cond b 0 (suc (place_inside at pieces))) ≡ Some d
        → (slice_get pieces (place_inside at pieces) ≡ Some d
        → books.cut at pieces ≡ slice_set (insert pieces (suc (place_inside at pieces)) (record { from = at; to = d.to })) (place_inside at pieces) (record { from = d.from; to = at }))
        → cond b (record { from = p.from; to = at } ∷ (record { from = at; to = p.to } ∷ pieces)) (p ∷ books.cut at pieces)
        ≡ slice_set (insert (p ∷ pieces) (suc (cond b 0 (suc (place_inside at pieces)))) (record { from = at; to = d.to })) (cond b 0 (suc (place_inside at pieces))) (record { from = d.from; to = at })
    by true e more = ap (λ (z : Piece). record { from = z.from; to = at } ∷ (record { from = at; to = z.to } ∷ pieces)) (the_some e)
    by false e more = ap (λ ps. p ∷ ps) (more e)

-- the take, by a change of the piece or its removal
pub take_some : (at n : ℕ) (pieces : List Piece) (d : Piece) → slice_get pieces (place_from at pieces) ≡ Some d → at + n < d.to
    → books.take at n pieces ≡ slice_set pieces (place_from at pieces) (record { from = at + n; to = d.to })
take_some at n [] d e less = cc
take_some at n (p ∷ pieces) d e less = by (nat_eq p.from at) e (λ h. take_some at n pieces d h less)
  where
    the_some : {x y : Piece} → Some x ≡ Some y → x ≡ y
    the_some h = cc

    left_so : (a b : ℕ) (ps : List Piece) → a < b → left_of_piece a b ps ≡ record { from = a; to = b } ∷ ps
    left_so a b ps h = let t : nat_lt a b ≡ true = grind (arith, nat_tests) in rw t refl

    by : (b : Bool) → slice_get (p ∷ pieces) (cond b 0 (suc (place_from at pieces))) ≡ Some d
        → (slice_get pieces (place_from at pieces) ≡ Some d → books.take at n pieces ≡ slice_set pieces (place_from at pieces) (record { from = at + n; to = d.to }))
        → cond b (left_of_piece (at + n) p.to pieces) (p ∷ books.take at n pieces) ≡ slice_set (p ∷ pieces) (cond b 0 (suc (place_from at pieces))) (record { from = at + n; to = d.to })
    by true e more = ap (λ (z : Piece). left_of_piece (at + n) z.to pieces) (the_some e) ∙ left_so (at + n) d.to pieces less
    by false e more = ap (λ ps. p ∷ ps) (more e)

pub take_all : (at n : ℕ) (pieces : List Piece) (d : Piece) → slice_get pieces (place_from at pieces) ≡ Some d → d.to ≤ at + n
    → books.take at n pieces ≡ remove pieces (place_from at pieces)
take_all at n [] d e few = cc
take_all at n (p ∷ pieces) d e few = by (nat_eq p.from at) e (λ h. take_all at n pieces d h few)
  where
    the_some : {x y : Piece} → Some x ≡ Some y → x ≡ y
    the_some h = cc

    none_left : (a b : ℕ) (ps : List Piece) → b ≤ a → left_of_piece a b ps ≡ ps
    none_left a b ps h = let t : nat_lt a b ≡ false = grind (arith, nat_tests) in rw t refl

    by : (b : Bool) → slice_get (p ∷ pieces) (cond b 0 (suc (place_from at pieces))) ≡ Some d
        → (slice_get pieces (place_from at pieces) ≡ Some d → books.take at n pieces ≡ remove pieces (place_from at pieces))
        → cond b (left_of_piece (at + n) p.to pieces) (p ∷ books.take at n pieces) ≡ remove (p ∷ pieces) (cond b 0 (suc (place_from at pieces)))
    by true e more = ap (λ (z : Piece). left_of_piece (at + n) z.to pieces) (the_some e) ∙ none_left (at + n) d.to pieces few
    by false e more = ap (λ ps. p ∷ ps) (more e)

less_so : (a b : ℕ) → nat_lt a b ≡ true → a < b
less_so a b e = grind (arith, nat_tests)

pub inside_within : (at : ℕ) (pieces : List Piece) → has_inside at pieces ≡ true → place_inside at pieces < length pieces
inside_within at pieces h = less_so (place_inside at pieces) (length pieces) (sym (inside_found at pieces) ∙ h)

pub take_within : (at n : ℕ) (pieces : List Piece) → can_take at n pieces ≡ true → place_from at pieces < length pieces
take_within at n pieces h = elim (or_not (place_from at pieces) (length pieces)) [
  | inl less ↦ less
  | inr few ↦ absurd (cc (h, take_unfound at n pieces few))
]
  where
    or_not : (a b : ℕ) → (a < b) ⊎ (b ≤ a)
    or_not a b = grind arith

-- the same where the steps are known by equations
insert_behind : (pieces : List Piece) (n : ℕ) (d q : Piece) → slice_get pieces n ≡ Some d → slice_get (insert pieces (suc n) q) n ≡ Some d
insert_behind [] n d q e = cc
insert_behind (p ∷ pieces) zero d q e = e
insert_behind (p ∷ pieces) (suc n) d q e = insert_behind pieces n d q e

pub cut_by : (at : ℕ) (pieces now : List Piece) (place next : ℕ) (d e q f : Piece) → place ≡ place_inside at pieces → next ≡ place + 1 → slice_get pieces place ≡ Some d
    → now ≡ insert pieces next q → q ≡ record { from = at; to = d.to } → slice_get now place ≡ Some e → f ≡ record { from = e.from; to = at }
    → slice_set now place f ≡ books.cut at pieces
cut_by at pieces now place next d e q f here further there made new again changed =
    let one : next ≡ suc place = omega (arith, further) in
    let found : slice_get pieces (place_inside at pieces) ≡ Some d = ap (slice_get pieces) (sym here) ∙ there in
    let same : e ≡ d = the_some (sym again ∙ (ap (λ (ps : List Piece). slice_get ps place) (made ∙ ap (λ (n : ℕ). insert pieces n q) one) ∙ insert_behind pieces place d q there)) in
    ap (λ (ps : List Piece). slice_set ps place f) (made ∙ ap (λ (n : ℕ). insert pieces n q) one)
    ∙ (ap (λ (z : Piece). slice_set (insert pieces (suc place) z) place f) new
    ∙ (ap (λ (z : Piece). slice_set (insert pieces (suc place) (record { from = at; to = d.to })) place z) (changed ∙ ap (λ (z : Piece). record { from = z.from; to = at }) same)
    ∙ (ap (λ (n : ℕ). slice_set (insert pieces (suc n) (record { from = at; to = d.to })) n (record { from = d.from; to = at })) here ∙ sym (cut_done at pieces d found))))
  where
    the_some : {x y : Piece} → Some x ≡ Some y → x ≡ y
    the_some h = cc

pub taken_by : (at n from : ℕ) (pieces : List Piece) (place : ℕ) (d e f : Piece) → place ≡ place_from at pieces → slice_get pieces place ≡ Some d → from ≡ at + n → from < d.to
    → slice_get pieces place ≡ Some e → f ≡ record { from = from; to = e.to } → slice_set pieces place f ≡ books.take at n pieces
taken_by at n from pieces place d e f here there sum less again changed =
    let found : slice_get pieces (place_from at pieces) ≡ Some d = ap (slice_get pieces) (sym here) ∙ there in
    let same : e ≡ d = the_some (sym again ∙ there) in
    ap (slice_set pieces place) (changed ∙ (ap (λ (z : Piece). record { from = from; to = z.to }) same ∙ ap (λ (k : ℕ). record { from = k; to = d.to }) sum))
    ∙ (ap (λ (k : ℕ). slice_set pieces k (record { from = at + n; to = d.to })) here ∙ sym (take_some at n pieces d found (omega (arith, sum, less))))
  where
    the_some : {x y : Piece} → Some x ≡ Some y → x ≡ y
    the_some h = cc

pub taken_all : (at n from : ℕ) (pieces : List Piece) (place : ℕ) (d : Piece) → place ≡ place_from at pieces → slice_get pieces place ≡ Some d → from ≡ at + n → d.to ≤ from
    → remove pieces place ≡ books.take at n pieces
taken_all at n from pieces place d here there sum few =
    let found : slice_get pieces (place_from at pieces) ≡ Some d = ap (slice_get pieces) (sym here) ∙ there in
    ap (remove pieces) here ∙ sym (take_all at n pieces d found (omega (arith, sum, few)))

-- what can be taken ends where the piece does, or before
pub take_fits : (at n : ℕ) (pieces : List Piece) (d : Piece) → slice_get pieces (place_from at pieces) ≡ Some d → can_take at n pieces ≡ true → at + n ≤ d.to
take_fits at n pieces d e can = not_less d.to (at + n) (sym (take_found at n pieces d e) ∙ can)
  where
    not_less : (a b : ℕ) → not (nat_lt a b) ≡ true → b ≤ a
    not_less a b e = grind (arith, nat_tests)
