-- What stands behind a sign, a word, a name or a number completes the whole.
use Rattle.std.proofs.Common.{ℕ, List, [], ◌∷◌, refl}
use Rattle.kt_law.specs.declared.places.Place.{Place}
use Rattle.kt_tokens.specs.declared.tokens.Mark.{Mark}
use Rattle.kt_tokens.specs.declared.tokens.Tok.{Tok}
use Rattle.kt_tokens.specs.Reading.{Sign, sign, AName, a_name, AWord, a_word, ANumber, a_number}
use Rattle.kt_tokens.specs.Tokens.{◌·◌, named, numbered}
use Rattle.kt_read.specs.Residuals.{Then, Done}
use Rattle.kt_read.proofs.Still.{Completes, then_completes}

-- some place
abbrev pub somewhere : Place
somewhere = record { line = 1; column = 1 }

-- nothing is left to complete
pub done_completes : {A : Type 0} (a : A) → Completes (Done a)
done_completes a = (a, [], λ rest. (refl, refl))

-- a sign completes, and what follows it
pub sign_completes : {A : Type 0} (m : Mark) (K : Place → A → List Tok → List Tok → Type 0) → Completes (K somewhere) → Completes (Then (Sign m) K)
sign_completes m K k = then_completes (Sign m) K somewhere (m · somewhere ∷ []) (λ rest. sign) k

pub name_completes : {A : Type 0} (K : List ℕ × Place → A → List Tok → List Tok → Type 0) → Completes (K ([], somewhere)) → Completes (Then AName K)
name_completes K k = then_completes AName K ([], somewhere) (named [] somewhere ∷ []) (λ rest. a_name) k

pub word_completes : {A : Type 0} (n : List ℕ) (K : Place → A → List Tok → List Tok → Type 0) → Completes (K somewhere) → Completes (Then (AWord n) K)
word_completes n K k = then_completes (AWord n) K somewhere (named n somewhere ∷ []) (λ rest. a_word) k

pub number_completes : {A : Type 0} (K : ℕ → A → List Tok → List Tok → Type 0) → Completes (K 0) → Completes (Then ANumber K)
number_completes K k = then_completes ANumber K 0 (numbered 0 somewhere ∷ []) (λ rest. a_number) k
