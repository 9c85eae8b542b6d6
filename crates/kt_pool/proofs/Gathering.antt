-- Seats that the first one takes in.
use Rattle.std.proofs.Common.{◌≡◌, ℕ, zero, suc, ◌+◌, ◌<◌, List, [], ◌∷◌, ◌++◌, length, take, drop, get_or, slice_get, refl, sym, ap, ◌∙◌, subst, arith, Some}
use Rattle.kt_rule.specs.declared.seats.Seat.{Seat}
use Rattle.kt_rule.specs.declared.tables.RunTable.{RunTable}
use Rattle.kt_rule.specs.declared.views.Setup.{Setup}
use Rattle.kt_rule.specs.declared.views.View.{View}
use Rattle.kt_rule.specs.Close.{together}
use Rattle.kt_rule.specs.Records.{layout_of}
use Rattle.kt_pool.specs.Seats.{IsSeatOf, AreSeatsOf, taken_in, all_together, made_by}

-- the seats of the workers from k on are left, and the view stands for the others
pub record AreLeft (j : Setup) (t : RunTable) (v : View) (seats : List Seat) : Type 0 where
  pub told : v.setup ≡ Some j
  pub live : 0 < v.parts
  pub count : v.parts + length seats ≡ j.workers
  pub each : (k : ℕ) (s : Seat) → slice_get seats k ≡ Some s → IsSeatOf j t (v.parts + k) s

-- the first is taken from the front
pub headed : {A : Type 0} (xs ys : List A) (x : A) → 0 < length xs → x ≡ get_or xs 0 x → ys ≡ take 0 xs ++ drop 1 xs → xs ≡ x ∷ ys
headed [] ys x some e f = absurd (omega arith)
headed (z ∷ xs) ys x some e f = λ i. sym e i ∷ sym f i

pub later_made : (j : Setup) (n : ℕ) → 0 < n → made_by j n ≡ 0
later_made j zero some = absurd (omega arith)
later_made j (suc n) some = refl

module _ (j : Setup) (t : RunTable) where
  pub first_left : (xs ys : List Seat) (x : Seat) → xs ≡ x ∷ ys → AreSeatsOf j t xs → AreLeft j t x.token.me.0 ys
  first_left xs ys x e all =
      let now = subst (AreSeatsOf j t) e all in let one = now.each 0 x refl in let p = one.parts in let n = now.count in record {
        told = one.told;
        live = omega arith;
        count = omega arith;
        each = λ k s at. subst (λ (i : ℕ). IsSeatOf j t i s) (let d : suc k ≡ x.token.me.0.parts + k = omega arith in d) (now.each (suc k) s at);
      }

  pub next_seat : (v : View) (xs ys : List Seat) (x : Seat) → xs ≡ x ∷ ys → AreLeft j t v xs → IsSeatOf j t (v.parts + 0) x
  next_seat v xs ys x e left = (subst (AreLeft j t v) e left).each 0 x refl

  pub next_left : (v w : View) (xs ys : List Seat) (x : Seat) → xs ≡ x ∷ ys → w ≡ together v x.token.me.0 → AreLeft j t v xs → AreLeft j t w ys
  next_left v w xs ys x e is left =
      let now = subst (AreLeft j t v) e left in let one = now.each 0 x refl in let p = one.parts in let n = now.count in let l = now.live in
      subst (λ (u : View). AreLeft j t u ys) (sym is) (record {
        told = now.told;
        live = omega arith;
        count = omega arith;
        each = λ k s at. subst (λ (i : ℕ). IsSeatOf j t i s)
            (let d : v.parts + suc k ≡ v.parts + x.token.me.0.parts + k = omega arith in d) (now.each (suc k) s at);
      })

  pub all_in : (v : View) (xs : List Seat) → length xs ≡ 0 → AreLeft j t v xs → (v.setup ≡ Some j) × (v.parts ≡ j.workers)
  all_in v xs none left = let n = left.count in (left.told, omega arith)

-- what is taken in, where nobody is left
pub taken_all : (v : View) (xs : List Seat) → length xs ≡ 0 → taken_in v xs ≡ v
taken_all v [] none = refl
taken_all v (x ∷ xs) none = absurd (omega arith)

pub taken_next : (v w : View) (xs ys : List Seat) (x : Seat) → xs ≡ x ∷ ys → w ≡ together v x.token.me.0 → taken_in w ys ≡ taken_in v xs
taken_next v w xs ys x e is = ap (λ (u : View). taken_in u ys) is ∙ ap (taken_in v) (sym e)

pub all_first : (xs ys : List Seat) (x : Seat) → xs ≡ x ∷ ys → taken_in x.token.me.0 ys ≡ all_together xs
all_first xs ys x e = ap all_together (sym e)

-- there is a first seat, which knows the table's layout
pub seat_layout : (j : Setup) (t : RunTable) (xs : List Seat) → AreSeatsOf j t xs → layout_of j ≡ t.layout
seat_layout j t [] all = let n = all.count in let s = all.some in absurd (omega arith)
seat_layout j t (x ∷ xs) all = (all.each 0 x refl).layout
