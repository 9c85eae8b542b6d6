-- Indexes and pieces of a loop after its events.
use Rattle.std.proofs.Common.{◌≡◌, ◌≢◌, ◌≤◌, ◌<◌, ℕ, zero, suc, ◌+◌, ◌-◌, ◌*◌, Bool, true, false, cond, not, ◌||◌, ◌&&◌, nat_eq, nat_lt, List, [], ◌∷◌, length, Option, Some, None, refl, sym, ap, ◌∙◌, subst, arith, slice_get}
use Rattle.std.proofs.lemmas.Bool.Decides.{nat_tests}
use Rattle.kt_order.specs.Books.{Piece, is_inside, cut, take, left_of_piece}
use Rattle.kt_prog.proofs.Lists.{both_hold}
use Rattle.kt_tables.specs.LoopRows.{has_inside, can_take, update, taken_index, take_indexes}
use Rattle.kt_tables.specs.Tables.{IndexRow}
use Rattle.kt_sim.specs.Left.{pieces_left, stand_left, taken_left}
use Rattle.kt_sim.specs.Simulated.{is_over, IsQuiet, AreQuiet}

-- one index changed
pub update_same : (rows : List IndexRow) (i : ℕ) (v : IndexRow) (f : IndexRow → IndexRow) → slice_get rows i ≡ Some v → slice_get (update i f rows) i ≡ Some (f v)
update_same [] i v f e = cc
update_same (u ∷ rows) zero v f e = let same : u ≡ v = cc in ap (λ (w : IndexRow). Some (f w)) same
update_same (u ∷ rows) (suc i) v f e = update_same rows i v f e

pub update_other : (rows : List IndexRow) (i j : ℕ) (f : IndexRow → IndexRow) → j ≢ i → slice_get (update i f rows) j ≡ slice_get rows j
update_other [] i j f d = refl
update_other (u ∷ rows) zero zero f d = absurd (d refl)
update_other (u ∷ rows) zero (suc j) f d = refl
update_other (u ∷ rows) (suc i) zero f d = refl
update_other (u ∷ rows) (suc i) (suc j) f d = update_other rows i j f (λ e. d (ap suc e))

pub update_long : (rows : List IndexRow) (i : ℕ) (f : IndexRow → IndexRow) → length (update i f rows) ≡ length rows
update_long [] i f = refl
update_long (u ∷ rows) zero f = refl
update_long (u ∷ rows) (suc i) f = ap suc (update_long rows i f)

pub update_left : (rows : List IndexRow) (i : ℕ) (v : IndexRow) (f : IndexRow → IndexRow) → slice_get rows i ≡ Some v
    → taken_left (update i f rows) + stand_left v.stand ≡ taken_left rows + stand_left (f v).stand
update_left [] i v f e = cc
update_left (u ∷ rows) zero v f e =
    let same : u ≡ v = cc in
    let one : stand_left u.stand ≡ stand_left v.stand = ap (λ (w : IndexRow). stand_left w.stand) same in
    let two : stand_left (f u).stand ≡ stand_left (f v).stand = ap (λ (w : IndexRow). stand_left (f w).stand) same in
    omega (arith, one, two)
update_left (u ∷ rows) (suc i) v f e = let rest = update_left rows i v f e in omega (arith, rest)

pub update_quiet : (rows : List IndexRow) (i : ℕ) (f : IndexRow → IndexRow) → ((j : ℕ) (v : IndexRow) → slice_get rows j ≡ Some v → j ≢ i → IsQuiet v)
    → ((v : IndexRow) → slice_get rows i ≡ Some v → IsQuiet (f v)) → AreQuiet (update i f rows)
update_quiet [] i f others one k w e = cc
update_quiet (u ∷ rows) zero f others one zero w e = let same : f u ≡ w = cc in subst IsQuiet same (one u refl)
update_quiet (u ∷ rows) zero f others one (suc k) w e = others (suc k) w e (λ x. cc)
update_quiet (u ∷ rows) (suc i) f others one zero w e = others 0 w e (λ x. cc)
update_quiet (u ∷ rows) (suc i) f others one (suc k) w e =
    update_quiet rows i f (λ j v g d. others (suc j) v g (λ x. d (cc))) one k w e

-- a chunk of indexes taken
pub take_long : (n at : ℕ) (rows : List IndexRow) → length (take_indexes at n rows) ≡ length rows
take_long zero at rows = refl
take_long (suc n) at rows = take_long n (suc at) (update at taken_index rows) ∙ update_long rows at taken_index

one_taken : (rows : List IndexRow) (at : ℕ) → taken_left (update at taken_index rows) ≤ taken_left rows + 2
one_taken [] at = omega arith
one_taken (u ∷ rows) zero = omega arith
one_taken (u ∷ rows) (suc at) = let rest = one_taken rows at in omega (arith, rest)

pub indexes_less : (n at : ℕ) (rows : List IndexRow) → taken_left (take_indexes at n rows) ≤ taken_left rows + 2 * n
indexes_less zero at rows = omega arith
indexes_less (suc n) at rows =
    let one = one_taken rows at in
    let rest = indexes_less n (suc at) (update at taken_index rows) in
    omega (arith, one, rest)

-- n indexes from one on have not ended
abbrev pub AreIdle : ℕ → ℕ → List IndexRow → Type 0
AreIdle at n rows = (i : ℕ) (v : IndexRow) → at ≤ i → i < at + n → slice_get rows i ≡ Some v → is_over v.stand ≡ false

not_at : (i at : ℕ) → suc at ≤ i → i ≢ at
not_at i at low same = absurd (omega (arith, low, same))

not_before : (i at : ℕ) → i < at → i ≢ at
not_before i at low same = absurd (omega (arith, low, same))

one_quiet : (rows : List IndexRow) (at : ℕ) → AreQuiet rows → ((v : IndexRow) → slice_get rows at ≡ Some v → is_over v.stand ≡ false)
    → AreQuiet (update at taken_index rows)
one_quiet rows at quiet idle = update_quiet rows at taken_index (λ j v e d. quiet j v e) (λ v e h. quiet at v e (idle v e))

pub take_quiet : (n at : ℕ) (rows : List IndexRow) → AreQuiet rows → AreIdle at n rows → AreQuiet (take_indexes at n rows)
take_quiet zero at rows quiet idle = quiet
take_quiet (suc n) at rows quiet idle =
    take_quiet n (suc at) (update at taken_index rows) (one_quiet rows at quiet (λ v e. idle at v (omega arith) (omega arith) e))
    (λ i v low high e. idle i v (omega (arith, low)) (omega (arith, high)) (sym (update_other rows at i taken_index (not_at i at low)) ∙ e))

-- pieces
is_both : (from at to : ℕ) → (nat_lt from at && nat_lt at to) ≡ true → (from < at) × (at < to)
is_both from at to e =
    let two = both_hold (nat_lt from at) (nat_lt at to) e in
    let low = two.0 in
    let high = two.1 in
    (grind (arith, nat_tests), grind (arith, nat_tests))

pub cut_less : (at : ℕ) (pieces : List Piece) → has_inside at pieces ≡ true → pieces_left (cut at pieces) < pieces_left pieces
cut_less at [] h = cc
cut_less at (p ∷ pieces) h = chosen (is_inside at p) refl h (λ g. cut_less at pieces g)
  where
    chosen : (b : Bool) → is_inside at p ≡ b → (b || has_inside at pieces) ≡ true → (has_inside at pieces ≡ true → pieces_left (cut at pieces) < pieces_left pieces)
        → pieces_left (cond b (record { from = p.from; to = at } ∷ (record { from = at; to = p.to } ∷ pieces)) (p ∷ cut at pieces)) < pieces_left (p ∷ pieces)
    chosen true is g more = let two = is_both p.from at p.to is in let low = two.0 in let high = two.1 in omega (arith, low, high)
    chosen false is g more = let rest = more g in omega (arith, rest)

rest_left : (from to : ℕ) (pieces : List Piece) → pieces_left (left_of_piece from to pieces) ≤ 4 * (to - from) + pieces_left pieces
rest_left from to pieces = chosen (nat_lt from to)
  where
    chosen : (b : Bool) → pieces_left (cond b (record { from = from; to = to } ∷ pieces) pieces) ≤ 4 * (to - from) + pieces_left pieces
    chosen true = omega arith
    chosen false = omega arith

pub not_lt : (m n : ℕ) → not (nat_lt m n) ≡ true → n ≤ m
not_lt m n e = chosen (nat_lt m n) refl e
  where
    chosen : (b : Bool) → nat_lt m n ≡ b → not b ≡ true → n ≤ m
    chosen true is e = cc
    chosen false is e = grind (arith, nat_tests)

pub take_less : (at n : ℕ) (pieces : List Piece) → 1 ≤ n → can_take at n pieces ≡ true → pieces_left (take at n pieces) + 2 * n < pieces_left pieces
take_less at n [] some h = cc
take_less at n (p ∷ pieces) some h = chosen (nat_eq p.from at) refl h (λ g. take_less at n pieces some g)
  where
    chosen : (b : Bool) → nat_eq p.from at ≡ b → cond b (not (nat_lt p.to (at + n))) (can_take at n pieces) ≡ true
        → (can_take at n pieces ≡ true → pieces_left (take at n pieces) + 2 * n < pieces_left pieces)
        → pieces_left (cond b (left_of_piece (at + n) p.to pieces) (p ∷ take at n pieces)) + 2 * n < pieces_left (p ∷ pieces)
    chosen true is g more =
        let from : p.from ≡ at = grind (arith, nat_tests) in
        let within = not_lt p.to (at + n) g in
        let rest = rest_left (at + n) p.to pieces in
        omega (arith, from, within, rest, some)
    chosen false is g more = let rest = more g in omega (arith, rest)
