-- The least breach is the same in whatever order breaches are noted.
use Rattle.std.proofs.Common.{◌≡◌, ℕ, [], ◌∷◌, ◌++◌, Bool, true, false, ◌&&◌, ◌||◌, Option, Some, None, inl, inr, ◌⊎◌, get_or, nat_eq, nat_lt, refl, ap, sym, ◌∙◌, arith, if◌then◌else◌}
use Rattle.std.proofs.lemmas.Bool.Decides.{nat_tests}
use Rattle.kt_law.specs.declared.places.P.{P}
use Rattle.kt_law.specs.declared.places.Refusal.{Refusal}
use Rattle.kt_prog.specs.Rules.{Breaches}
use Rattle.kt_prog.specs.Refusals.{goes_before, least_with, noted, rule_number}
use Rattle.kt_prog.proofs.Lists.{both_hold}
use Rattle.kt_check.proofs.Noted.{noted_append}

-- a place and a rule's number by which breaches are ordered
abbrev before : ℕ → ℕ → ℕ → ℕ → ℕ → ℕ → Bool
before l c n m d k = (nat_lt l m || nat_eq l m && nat_lt c d) || (nat_eq l m && nat_eq c d) && nat_lt n k

places_trans : (l c m d o e : ℕ) → (nat_lt l m || nat_eq l m && nat_lt c d) ≡ true → (nat_lt m o || nat_eq m o && nat_lt d e) ≡ true → (nat_lt l o || nat_eq l o && nat_lt c e) ≡ true
places_trans l c m d o e h g = grind (arith, nat_tests)

place_same : (l c m d o e : ℕ) → (nat_lt l m || nat_eq l m && nat_lt c d) ≡ true → (nat_eq m o && nat_eq d e) ≡ true → (nat_lt l o || nat_eq l o && nat_lt c e) ≡ true
place_same l c m d o e h g = grind (arith, nat_tests)

same_place_before : (l c m d o e : ℕ) → (nat_eq l m && nat_eq c d) ≡ true → (nat_lt m o || nat_eq m o && nat_lt d e) ≡ true → (nat_lt l o || nat_eq l o && nat_lt c e) ≡ true
same_place_before l c m d o e h g = grind (arith, nat_tests)

numbers_trans : (l c n m d k o e p : ℕ) → ((nat_eq l m && nat_eq c d) && nat_lt n k) ≡ true → ((nat_eq m o && nat_eq d e) && nat_lt k p) ≡ true → ((nat_eq l o && nat_eq c e) && nat_lt n p) ≡ true
numbers_trans l c n m d k o e p h g = grind (arith, nat_tests)

either_true : (p q : Bool) → (p || q) ≡ true → (p ≡ true) ⊎ (q ≡ true)
either_true true q h = inl refl
either_true false q h = inr h

left_true : (p q : Bool) → p ≡ true → (p || q) ≡ true
left_true true q h = refl
left_true false q h = cc

right_true : (p q : Bool) → q ≡ true → (p || q) ≡ true
right_true true q h = refl
right_true false q h = h

before_trans : (l c n m d k o e p : ℕ) → before l c n m d k ≡ true → before m d k o e p ≡ true → before l c n o e p ≡ true
before_trans l c n m d k o e p h g = by (either_true _ _ h) (either_true _ _ g)
  where
    by : (((nat_lt l m || nat_eq l m && nat_lt c d) ≡ true) ⊎ (((nat_eq l m && nat_eq c d) && nat_lt n k) ≡ true))
        → (((nat_lt m o || nat_eq m o && nat_lt d e) ≡ true) ⊎ (((nat_eq m o && nat_eq d e) && nat_lt k p) ≡ true)) → before l c n o e p ≡ true
    by (inl x) (inl y) = left_true _ _ (places_trans l c m d o e x y)
    by (inl x) (inr y) = left_true _ _ (place_same l c m d o e x (both_hold (nat_eq m o && nat_eq d e) (nat_lt k p) y).0)
    by (inr x) (inl y) = left_true _ _ (same_place_before l c m d o e (both_hold (nat_eq l m && nat_eq c d) (nat_lt n k) x).0 y)
    by (inr x) (inr y) = right_true _ _ (numbers_trans l c n m d k o e p x y)

before_not : (l c n m d k : ℕ) → before l c n m d k ≡ true → before m d k l c n ≡ false
before_not l c n m d k h = grind (arith, nat_tests)

same_lines : (l c n m d k : ℕ) → before l c n m d k ≡ false → before m d k l c n ≡ false → l ≡ m
same_lines l c n m d k h g = grind (arith, nat_tests)

same_columns : (l c n m d k : ℕ) → before l c n m d k ≡ false → before m d k l c n ≡ false → c ≡ d
same_columns l c n m d k h g = grind (arith, nat_tests)

same_numbers : (l c n m d k : ℕ) → before l c n m d k ≡ false → before m d k l c n ≡ false → n ≡ k
same_numbers l c n m d k h g = grind (arith, nat_tests)

abbrev numbered : ℕ → P
numbered n = get_or (P.P1 ∷ P.P1 ∷ P.P2 ∷ P.P3 ∷ P.P4 ∷ P.P5 ∷ P.P6 ∷ P.P7 ∷ P.P8 ∷ P.P9 ∷ P.P10 ∷ P.P11 ∷ P.P12 ∷ P.P13 ∷ P.P14 ∷ []) n P.P1

numbered_is : (code : P) → numbered (rule_number code) ≡ code
numbered_is P.P1 = refl
numbered_is P.P2 = refl
numbered_is P.P3 = refl
numbered_is P.P4 = refl
numbered_is P.P5 = refl
numbered_is P.P6 = refl
numbered_is P.P7 = refl
numbered_is P.P8 = refl
numbered_is P.P9 = refl
numbered_is P.P10 = refl
numbered_is P.P11 = refl
numbered_is P.P12 = refl
numbered_is P.P13 = refl
numbered_is P.P14 = refl

goes_trans : (a b c : Refusal) → goes_before a b ≡ true → goes_before b c ≡ true → goes_before a c ≡ true
goes_trans a b c h g = before_trans a.place.line a.place.column (rule_number a.code) b.place.line b.place.column (rule_number b.code) c.place.line c.place.column (rule_number c.code) h g

goes_not : (a b : Refusal) → goes_before a b ≡ true → goes_before b a ≡ false
goes_not a b h = before_not a.place.line a.place.column (rule_number a.code) b.place.line b.place.column (rule_number b.code) h

same_breach : (a b : Refusal) → goes_before a b ≡ false → goes_before b a ≡ false → a ≡ b
same_breach a b h g =
    let l : a.place.line ≡ b.place.line = same_lines a.place.line a.place.column (rule_number a.code) b.place.line b.place.column (rule_number b.code) h g in
    let c : a.place.column ≡ b.place.column = same_columns a.place.line a.place.column (rule_number a.code) b.place.line b.place.column (rule_number b.code) h g in
    let n : rule_number a.code ≡ rule_number b.code = same_numbers a.place.line a.place.column (rule_number a.code) b.place.line b.place.column (rule_number b.code) h g in
    let code : a.code ≡ b.code = sym (numbered_is a.code) ∙ ap numbered n ∙ numbered_is b.code in
    let place : a.place ≡ b.place = ap (λ x. record { line = x; column = a.place.column }) l ∙ ap (λ x. record { line = b.place.line; column = x }) c in
    ap (λ x. record { code = x; place = a.place }) code ∙ ap (λ x. record { code = b.code; place = x }) place

-- the least of two
abbrev lesser : Refusal → Refusal → Refusal
lesser a b = if goes_before a b then a else b

lesser_by : (a b : Refusal) (x y : Bool) → goes_before a b ≡ x → goes_before b a ≡ y → (if x then a else b) ≡ (if y then b else a)
lesser_by a b true true h g = absurd (true_not (goes_before b a) g (goes_not a b h))
  where
    true_not : (b : Bool) → b ≡ true → b ≡ false → ⊥
    true_not true h g = cc
    true_not false h g = cc
lesser_by a b true false h g = refl
lesser_by a b false true h g = refl
lesser_by a b false false h g = sym (same_breach a b h g)

lesser_swap : (a b : Refusal) → lesser a b ≡ lesser b a
lesser_swap a b = lesser_by a b (goes_before a b) (goes_before b a) refl refl

not_both : (a b c : Refusal) → goes_before a b ≡ true → goes_before c b ≡ false → goes_before c a ≡ false
not_both a b c h g = none (goes_before c a) refl
  where
    none : (x : Bool) → goes_before c a ≡ x → x ≡ false
    none false e = refl
    none true e = let f : goes_before c b ≡ true = goes_trans c a b e h in cc

-- with one and then another
third : (c x y : Refusal) (p q : Bool) → goes_before x c ≡ p → goes_before y c ≡ q → lesser y (if p then x else c) ≡ lesser x (if q then y else c)
third c x y true true h g = lesser_swap y x
third c x y true false h g = rw (h, not_both x c y h g) refl
third c x y false true h g = rw (g, not_both y c x g h) refl
third c x y false false h g = rw (h, g) refl

least_swap : (b : Option Refusal) (x y : Refusal) → least_with (least_with b x) y ≡ least_with (least_with b y) x
least_swap None x y = ap (λ r. Some r) (lesser_swap y x)
least_swap (Some c) x y = ap (λ r. Some r) (third c x y (goes_before x c) (goes_before y c) refl refl)

with_later : (b : Option Refusal) (x : Refusal) (ys : Breaches) → noted (least_with b x) ys ≡ least_with (noted b ys) x
with_later b x [] = refl
with_later b x (y ∷ ys) = ap (λ f. noted f ys) (least_swap b x y) ∙ with_later (least_with b y) x ys

pub noted_swap : (b : Option Refusal) (xs ys : Breaches) → noted (noted b xs) ys ≡ noted (noted b ys) xs
noted_swap b [] ys = refl
noted_swap b (x ∷ xs) ys = noted_swap (least_with b x) xs ys ∙ ap (λ f. noted f xs) (with_later b x ys)

-- the first of these lists noted behind the three that follow it
pub first_fourth : (b : Option Refusal) (xs ys zs us vs ws : Breaches) → noted (noted (noted (noted (noted (noted b ys) zs) us) xs) vs) ws ≡ noted b (xs ++ ys ++ zs ++ us ++ vs ++ ws)
first_fourth b xs ys zs us vs ws =
    ap (λ f. noted (noted f vs) ws) (noted_swap (noted (noted b ys) zs) us xs ∙ ap (λ f. noted f us) (noted_swap (noted b ys) zs xs ∙ ap (λ f. noted f zs) (noted_swap b ys xs)))
    ∙ sym (noted_append (xs ++ ys ++ zs ++ us ++ vs) ws b
    ∙ ap (λ f. noted f ws) (noted_append (xs ++ ys ++ zs ++ us) vs b
    ∙ ap (λ f. noted f vs) (noted_append (xs ++ ys ++ zs) us b
    ∙ ap (λ f. noted f us) (noted_append (xs ++ ys) zs b
    ∙ ap (λ f. noted f zs) (noted_append xs ys b)))))
