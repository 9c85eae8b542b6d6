-- Rows by name are a store: changes of two elements commute.
use Rattle.std.proofs.Common.{◌≡◌, ℕ, Bool, true, false, cond, nat_eq, ◌&&◌, refl, arith}
use Rattle.std.proofs.lemmas.Bool.Decides.{nat_tests}
use Rattle.kt_rights.specs.Rows.{Rows, row_at, with_row}

not_both_here : (o e o' e' x y : ℕ) → (o ≡ o' → e ≡ e' → ⊥) → (nat_eq x o && nat_eq y e) ≡ true → (nat_eq x o' && nat_eq y e') ≡ true → ⊥
not_both_here o e o' e' x y ne here there =
    let first : x ≡ o = grind (arith, nat_tests) in
    let second : y ≡ e = grind (arith, nat_tests) in
    let third : x ≡ o' = grind (arith, nat_tests) in
    let fourth : y ≡ e' = grind (arith, nat_tests) in
    ne (omega (arith, first, third)) (omega (arith, second, fourth))

two_changes : (a b : Bool) (f g : ℕ → ℕ) (n : ℕ) → (a ≡ true → b ≡ true → ⊥)
    → cond a (f (cond b (g n) n)) (cond b (g n) n) ≡ cond b (g (cond a (f n) n)) (cond a (f n) n)
two_changes true true f g n ne = absurd (ne refl refl)
two_changes true false f g n ne = refl
two_changes false true f g n ne = refl
two_changes false false f g n ne = refl

one_change : (a : Bool) (f g : ℕ → ℕ) (n : ℕ) → f (g n) ≡ g (f n)
    → cond a (f (cond a (g n) n)) (cond a (g n) n) ≡ cond a (g (cond a (f n) n)) (cond a (f n) n)
one_change true f g n swap = swap
one_change false f g n swap = refl

same_either : (a : Bool) (n : ℕ) → cond a n n ≡ n
same_either true n = refl
same_either false n = refl

untouched : (b : Bool) (g : ℕ → ℕ) (n : ℕ) → (b ≡ true → ⊥) → cond b (g n) n ≡ n
untouched true g n ne = absurd (ne refl)
untouched false g n ne = refl

here_is : (o e : ℕ) → (nat_eq o o && nat_eq e e) ≡ true
here_is o e = grind (arith, nat_tests)

pub rows_other : (o e o' e' : ℕ) (f g : ℕ → ℕ) (s : Rows) → (o ≡ o' → e ≡ e' → ⊥)
    → with_row o e f (with_row o' e' g s) ≡ with_row o' e' g (with_row o e f s)
rows_other o e o' e' f g s ne = λ i x y. two_changes (nat_eq x o && nat_eq y e) (nat_eq x o' && nat_eq y e') f g (s x y) (not_both_here o e o' e' x y ne) i

pub rows_same : (o e : ℕ) (f g : ℕ → ℕ) (s : Rows) → ((a : ℕ) → f (g a) ≡ g (f a))
    → with_row o e f (with_row o e g s) ≡ with_row o e g (with_row o e f s)
rows_same o e f g s swap = λ i x y. one_change (nat_eq x o && nat_eq y e) f g (s x y) (swap (s x y)) i

pub rows_look : (o e o' e' : ℕ) (g : ℕ → ℕ) (s : Rows) → (o ≡ o' → e ≡ e' → ⊥) → row_at o e (with_row o' e' g s) ≡ row_at o e s
rows_look o e o' e' g s ne = untouched (nat_eq o o' && nat_eq e e') g (s o e) (λ h. not_both_here o e o' e' o e ne (here_is o e) h)

pub rows_still : (o e : ℕ) (s : Rows) → with_row o e (λ a. a) s ≡ s
rows_still o e s = λ i x y. same_either (nat_eq x o && nat_eq y e) (s x y) i
