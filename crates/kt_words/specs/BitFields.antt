-- Words as rows of bit fields, and what it means to unpack one.
use Rattle.std.specs.Prelude.{◌≡◌, ◌≢◌, ℕ, ◌+◌, ◌*◌, ◌/◌, ◌%◌, ◌^◌, ◌<◌, ◌↔◌, List, [], ◌∷◌, Option, Some, IfSome, IsNone}

-- fields from bit 0 on: how many bits each has, and its value
abbrev pub Fields : Type 0
Fields = List (ℕ × ℕ)

-- each value fits its field
abbrev pub AllFit : Fields → Type 0
AllFit [] = Unit {0}
AllFit (field ∷ fields) = (field.1 < 2 ^ field.0) × AllFit fields

-- the word with these fields
abbrev pub packed : Fields → ℕ
packed [] = 0
packed (field ∷ fields) = field.1 + 2 ^ field.0 * packed fields

-- the word has these fields, and 0 above them: the rest by a power of two is the lowest field, the quotient has the others
abbrev pub HasFields : ℕ → Fields → Type 0
HasFields word [] = word ≡ 0
HasFields word (field ∷ fields) = (word % 2 ^ field.0 ≡ field.1) × HasFields (word / 2 ^ field.0) fields

-- what is found in a word: the value that was packed to it, and none exactly where no value in range is
pub record Unpacks {V : Type 0} (InRange : V → Type 0) (pack : V → ℕ) (word : ℕ) (found : Option V) : Type 0 where
  -- a word that is unpacked is packed from what is found
  pub sound : IfSome found (λ v. InRange v × (pack v ≡ word))
  -- what was packed is found
  pub complete : (v : V) → InRange v → pack v ≡ word → found ≡ Some v
  -- nothing is found exactly where nothing was packed
  pub none : IsNone found ↔ ((v : V) → InRange v → pack v ≢ word)
