-- Sums over all views, and how often a path stands in a list.
use Rattle.std.proofs.Common.{◌≡◌, ◌≢◌, ℕ, zero, suc, ◌+◌, ◌<◌, ◌≤◌, ◌⊎◌, Bool, true, false, List, [], ◌∷◌, ◌++◌, length, set, map, sym, refl, ap, ◌∙◌, subst, inl, inr, arith}
use mathlib.Core.Option.{some, some-injective, some-ne-none}
use lib.ListN.{get_elem?}
use Rattle.kt_order.specs.Paths.{same_path}
use Rattle.kt_runs.specs.ByPath.{Path}
use Rattle.kt_rule.specs.declared.views.View.{View}
use Rattle.kt_rule.specs.Paths.{put}
use Rattle.kt_rule.specs.Lists.{weigh, times, one_if, In, here, there}
use Rattle.kt_rule.specs.Lies.{Stage, Lie, Lies}
use Rattle.kt_rule.specs.Facts.{Tally, tally}
use Rattle.kt_rule.proofs.Puts.{same_self, same_is, same_not, put_cases}

module _ {A : Type 0} (f : A → ℕ) where
  pub weigh_set : (xs : List A) (i : ℕ) (x y : A) → get_elem? xs i ≡ some x → weigh f (set xs i y) + f x ≡ weigh f xs + f y
  weigh_set [] i x y e = absurd (some-ne-none x (sym e))
  weigh_set (a ∷ xs) zero x y e = let h : a ≡ x = some-injective a x e in let k : f a ≡ f x = ap f h in omega arith
  weigh_set (a ∷ xs) (suc i) x y e = let h = weigh_set xs i x y e in omega arith

  pub weigh_snoc : (xs : List A) (y : A) → weigh f (xs ++ y ∷ []) ≡ weigh f xs + f y
  weigh_snoc [] y = omega arith
  weigh_snoc (a ∷ xs) y = let h = weigh_snoc xs y in omega arith

  pub weigh_append : (xs ys : List A) → weigh f (xs ++ ys) ≡ weigh f xs + weigh f ys
  weigh_append [] ys = omega arith
  weigh_append (a ∷ xs) ys = let h = weigh_append xs ys in omega arith

  pub weigh_one : (xs : List A) (i : ℕ) (x : A) → get_elem? xs i ≡ some x → f x ≤ weigh f xs
  weigh_one [] i x e = absurd (some-ne-none x (sym e))
  weigh_one (a ∷ xs) zero x e = let k : f a ≡ f x = ap f (some-injective a x e) in omega arith
  weigh_one (a ∷ xs) (suc i) x e = let h = weigh_one xs i x e in omega arith

  -- two places weigh no more than all
  pub weigh_two : (xs : List A) (i j : ℕ) (x y : A) → i ≢ j → get_elem? xs i ≡ some x → get_elem? xs j ≡ some y → f x + f y ≤ weigh f xs
  weigh_two [] i j x y n e d = absurd (some-ne-none x (sym e))
  weigh_two (a ∷ xs) zero zero x y n e d = absurd (n refl)
  weigh_two (a ∷ xs) zero (suc j) x y n e d = let k : f a ≡ f x = ap f (some-injective a x e) in let h = weigh_one xs j y d in omega arith
  weigh_two (a ∷ xs) (suc i) zero x y n e d = let k : f a ≡ f y = ap f (some-injective a y d) in let h = weigh_one xs i x e in omega arith
  weigh_two (a ∷ xs) (suc i) (suc j) x y n e d = let h = weigh_two xs i j x y (λ s. n (ap suc s)) e d in omega arith

pub times_here : (p : Path) (ps : List Path) → In p ps → 0 < times p ps
times_here p [] h = elim h [ ]
times_here p (q ∷ ps) here = rw (same_self p) (omega arith)
times_here p (q ∷ ps) (there h) = let k = times_here p ps h in omega arith

pub times_in : (p : Path) (ps : List Path) → 0 < times p ps → In p ps
times_in p [] h = absurd (omega arith)
times_in p (q ∷ ps) h = go (same_path p q) refl (times_in p ps)
  where
    go : (b : Bool) → same_path p q ≡ b → (0 < times p ps → In p ps) → In p (q ∷ ps)
    go true e rest = subst (λ (z : Path). In p (z ∷ ps)) (same_is p q e) here
    go false e rest = let a : one_if (same_path p q) ≡ 0 = ap one_if e in there (rest (omega arith))

pub times_snoc : (q p : Path) (ps : List Path) → times q (ps ++ p ∷ []) ≡ times q ps + one_if (same_path q p)
times_snoc q p ps = weigh_snoc (λ r. one_if (same_path q r)) ps p

pub times_append : (q : Path) (ps rs : List Path) → times q (ps ++ rs) ≡ times q ps + times q rs
times_append q ps rs = weigh_append (λ r. one_if (same_path q r)) ps rs

pub one_self : (q p : Path) → p ≡ q → one_if (same_path q p) ≡ 1
one_self q p e = ap (λ (r : Path). one_if (same_path q r)) e ∙ ap one_if (same_self q)

pub one_other : (q p : Path) → p ≢ q → one_if (same_path q p) ≡ 0
one_other q p n = ap one_if (same_not q p (λ e. n (sym e)))

pub in_map : {A B : Type 0} (f : A → B) (xs : List A) (x : A) → In x xs → In (f x) (map f xs)
in_map f [] x h = elim h [ ]
in_map f (y ∷ xs) x here = here
in_map f (y ∷ xs) x (there h) = there (in_map f xs x h)

pub in_cons : {A : Type 0} (x y : A) (xs : List A) → In x (y ∷ xs) → (x ≡ y) ⊎ In x xs
in_cons x y xs here = inl refl
in_cons x y xs (there h) = inr h

pub in_left : {A : Type 0} (xs ys : List A) (x : A) → In x xs → In x (xs ++ ys)
in_left [] ys x h = elim h [ ]
in_left (y ∷ xs) ys x here = here
in_left (y ∷ xs) ys x (there h) = there (in_left xs ys x h)

pub in_right : {A : Type 0} (xs ys : List A) (x : A) → In x ys → In x (xs ++ ys)
in_right [] ys x h = h
in_right (y ∷ xs) ys x h = there (in_right xs ys x h)

pub in_append : {A : Type 0} (xs ys : List A) (x : A) → In x (xs ++ ys) → (In x xs) ⊎ (In x ys)
in_append [] ys x h = inr h
in_append (y ∷ xs) ys x here = inl here
in_append (y ∷ xs) ys x (there h) = elim (in_append xs ys x h) [ inl k ↦ inl (there k) | inr k ↦ inr k ]

-- an element whose path the list does not have is another
pub not_among : {A : Type 0} (f : A → Path) (xs : List A) (p : Path) → times p (map f xs) ≡ 0 → (x : A) → In x xs → f x ≢ p
not_among f xs p none_there x i same =
    let h = times_here p (map f xs) (subst (λ (z : Path). In z (map f xs)) same (in_map f xs x i)) in absurd (omega arith)

pub among : {A : Type 0} (f : A → Path) (xs : List A) (x : A) → In x xs → 0 < times (f x) (map f xs)
among f xs x i = times_here (f x) (map f xs) (in_map f xs x i)

pub map_long : {A B : Type 0} (f : A → B) (xs : List A) → length (map f xs) ≡ length xs
map_long f [] = refl
map_long f (x ∷ xs) = ap suc (map_long f xs)

-- how the lists of one view and one task change together
module _ (g : View → Path → ℕ) (f : Stage → ℕ) (lies : Lies) (v w : View) (p : Path) (t u : Lie) (is : lies p ≡ some t) where
  was : (q : Path) → p ≡ q → tally f (lies q) ≡ f t.stage
  was q e = ap (λ (r : Path). tally f (lies r)) (sym e) ∙ ap (tally f) is

  pub adds : f t.stage ≡ 0 → f u.stage ≡ 1 → ((q : Path) → g w q ≡ g v q + one_if (same_path q p))
      → (q : Path) → g w q + tally f (lies q) ≡ g v q + tally f (put lies p (some u) q)
  adds zero_before one_after more q = let m = more q in elim (put_cases lies p (some u) q) [
    | inl h ↦ (let a = one_self q p h.0 in let b = was q h.0 in
        let c : tally f (put lies p (some u) q) ≡ f u.stage = ap (tally f) h.1 in omega arith)
    | inr h ↦ (let a = one_other q p h.0 in let c : tally f (put lies p (some u) q) ≡ tally f (lies q) = ap (tally f) h.1 in omega arith)
  ]

  pub drops : f t.stage ≡ 1 → f u.stage ≡ 0 → ((q : Path) → g v q ≡ one_if (same_path q p) + g w q)
      → (q : Path) → g w q + tally f (lies q) ≡ g v q + tally f (put lies p (some u) q)
  drops one_before zero_after less q = let m = less q in elim (put_cases lies p (some u) q) [
    | inl h ↦ (let a = one_self q p h.0 in let b = was q h.0 in
        let c : tally f (put lies p (some u) q) ≡ f u.stage = ap (tally f) h.1 in omega arith)
    | inr h ↦ (let a = one_other q p h.0 in let c : tally f (put lies p (some u) q) ≡ tally f (lies q) = ap (tally f) h.1 in omega arith)
  ]

  pub stays : f t.stage ≡ f u.stage → ((q : Path) → g w q ≡ g v q) → (q : Path)
      → g w q + tally f (lies q) ≡ g v q + tally f (put lies p (some u) q)
  stays even equal q = let m = equal q in elim (put_cases lies p (some u) q) [
    | inl h ↦ (let b = was q h.0 in let c : tally f (put lies p (some u) q) ≡ f u.stage = ap (tally f) h.1 in omega arith)
    | inr h ↦ (let c : tally f (put lies p (some u) q) ≡ tally f (lies q) = ap (tally f) h.1 in omega arith)
  ]

module _ (g : View → Path → ℕ) (f : Stage → ℕ) (lies : Lies) (views : List View) (id : ℕ) (v : View) (all : Tally g f lies views)
    (at : get_elem? views id ≡ some v) where
  pub tally_step : (w : View) (lies' : Lies) → ((q : Path) → g w q + tally f (lies q) ≡ g v q + tally f (lies' q))
      → Tally g f lies' (set views id w)
  tally_step w lies' change q = let h = weigh_set (λ (x : View). g x q) views id v w at in let k = all q in
      let n = change q in omega arith

  -- what one seat has, no other has
  pub tally_alone : (p : Path) (j : ℕ) (x : View) → j ≢ id → get_elem? views j ≡ some x → tally f (lies p) ≤ 1 → 0 < g v p → g x p ≡ 0
  tally_alone p j x n e most i = let h = weigh_two (λ (y : View). g y p) views j id x v n e at in let a = all p in omega arith

  pub tally_own : (p : Path) → g v p ≤ tally f (lies p)
  tally_own p = let h = weigh_one (λ (y : View). g y p) views id v at in let a = all p in omega arith
