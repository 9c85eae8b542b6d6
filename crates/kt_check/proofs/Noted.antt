-- Breaches noted one list after another.
use Rattle.std.proofs.Common.{◌≡◌, [], ◌∷◌, ◌++◌, Option, Some, None, refl, if◌then◌else◌}
use Rattle.kt_law.specs.declared.places.Refusal.{Refusal}
use Rattle.kt_prog.specs.Rules.{Breaches}
use Rattle.kt_prog.specs.Refusals.{goes_before, least_with, noted}

pub noted_append : (xs ys : Breaches) (b : Option Refusal) → noted b (xs ++ ys) ≡ noted (noted b xs) ys
noted_append [] ys b = refl
noted_append (x ∷ xs) ys b = noted_append xs ys (least_with b x)

still_some : (xs : Breaches) (r : Refusal) → noted (Some r) xs ≡ None → ⊥
still_some [] r h = cc
still_some (x ∷ xs) r h = still_some xs (if goes_before x r then x else r) h

-- what was found is never lost
pub none_noted : (xs : Breaches) → noted None xs ≡ None → xs ≡ []
none_noted [] h = refl
none_noted (x ∷ xs) h = absurd (still_some xs x h)
