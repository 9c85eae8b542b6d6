-- Lists of breaches that are empty, and accesses among others.
use Rattle.std.proofs.Common.{◌≡◌, Bool, true, false, not, ◌&&◌, ◌||◌, List, [], ◌∷◌, ◌++◌, refl, ap}
use Rattle.kt_law.specs.declared.places.P.{P}
use Rattle.kt_law.specs.declared.places.Place.{Place}
use Rattle.kt_law.specs.declared.accesses.Access.{Access}
use Rattle.kt_rights.specs.Rights.{EachOf}
use Rattle.kt_prog.specs.Rules.{denied}

pub left_none : {A : Type 0} (xs ys : List A) → xs ++ ys ≡ [] → xs ≡ []
left_none [] ys h = refl
left_none (x ∷ xs) ys h = cc

pub right_none : {A : Type 0} (xs ys : List A) → xs ++ ys ≡ [] → ys ≡ []
right_none [] ys h = h
right_none (x ∷ xs) ys h = cc

pub append_more : {A : Type 0} (xs ys zs : List A) → xs ++ (ys ++ zs) ≡ xs ++ ys ++ zs
append_more [] ys zs = refl
append_more (x ∷ xs) ys zs = ap (λ l. x ∷ l) (append_more xs ys zs)

pub not_denied : (place : Place) (code : P) (b : Bool) → denied place code b ≡ [] → b ≡ false
not_denied place code true h = cc
not_denied place code false h = refl

pub not_false : (b : Bool) → not b ≡ false → b ≡ true
not_false true h = refl
not_false false h = cc

pub each_snoc : (Q : Access → Type 0) (xs : List Access) (a : Access) → EachOf Q xs → Q a → EachOf Q (xs ++ a ∷ [])
each_snoc Q [] a all q = (q, tt)
each_snoc Q (x ∷ xs) a all q = (all.0, each_snoc Q xs a all.1 q)

pub both_hold : (a b : Bool) → (a && b) ≡ true → (a ≡ true) × (b ≡ true)
both_hold true true h = (refl, refl)
both_hold true false h = cc
both_hold false b h = cc

pub neither : (a b : Bool) → (a || b) ≡ false → (a ≡ false) × (b ≡ false)
neither true b h = cc
neither false true h = cc
neither false false h = (refl, refl)
