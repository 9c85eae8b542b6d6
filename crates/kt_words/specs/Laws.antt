-- Statements of the laws of places and of packings.
use Rattle.std.specs.Prelude.{◌≡◌, ◌≢◌, ℕ, ◌^◌, ◌<◌, ◌≤◌, ◌↔◌, List, length, slice_index, slice_set, Option, Some}
use Rattle.kt_law.specs.declared.stands.Stand.TheVariants as S
use Rattle.kt_words.specs.BitFields.{Fields, AllFit, packed, HasFields, Unpacks}
use Rattle.kt_words.specs.Words.{IsStateWord, packed_state}
use Rattle.kt_words.specs.Places.{Place, IsWithin, place, total_of}
use Rattle.kt_words.specs.declared.layouts.Layout.{Layout}
use Rattle.kt_words.specs.declared.states.StateWord.{StateWord}

-- places with one number are one place
abbrev pub PlacesDiffer : Type 0
PlacesDiffer = (l : Layout) (p q : Place) → IsWithin l p → IsWithin l q → place l p ≡ place l q → p ≡ q

-- each place is below the total
abbrev pub PlacesAreInside : Type 0
PlacesAreInside = (l : Layout) (p : Place) → IsWithin l p → place l p < total_of l

-- a word that was set is read at its place
abbrev pub SetIsRead : Type 0
SetIsRead = (l : Layout) (p : Place) (words : List ℕ) (word : ℕ) → IsWithin l p → total_of l ≤ length words
    → slice_index (slice_set words (place l p) word) (place l p) ≡ word

-- and every other place keeps its word
abbrev pub OthersStay : Type 0
OthersStay = (l : Layout) (p q : Place) (words : List ℕ) (word : ℕ) → IsWithin l p → IsWithin l q → q ≢ p
    → slice_index (slice_set words (place l p) word) (place l q) ≡ slice_index words (place l q)

-- a word has fields that fit exactly where it is packed from them
abbrev pub FieldsAreExact : Type 0
FieldsAreExact = (word : ℕ) (fields : Fields) → HasFields word fields ↔ (AllFit fields × (packed fields ≡ word))

-- Values in range have words of 64 bits, and different words. What is packed into a place is found there, and alone;
-- what is found at another place stays.
pub record IsPacking {V : Type 0} (InRange : V → Type 0) (pack : V → ℕ) : Type 0 where
  pub fits : (v : V) → InRange v → pack v < 2 ^ 64
  pub apart : (v w : V) → InRange v → InRange w → pack v ≡ pack w → v ≡ w
  pub here : (l : Layout) (p : Place) (words : List ℕ) (v : V) → IsWithin l p → total_of l ≤ length words → InRange v
      → Unpacks InRange pack (slice_index (slice_set words (place l p) (pack v)) (place l p)) (Some v)
  pub elsewhere : (l : Layout) (p q : Place) (words : List ℕ) (word : ℕ) (found : Option V) → IsWithin l p → IsWithin l q → q ≢ p
      → Unpacks InRange pack (slice_index words (place l q)) found
      → Unpacks InRange pack (slice_index (slice_set words (place l p) word) (place l q)) found

-- a state word is 0 exactly where the record has no task
abbrev pub ZeroIsEmpty : Type 0
ZeroIsEmpty = (v : StateWord) → IsStateWord v → (packed_state v ≡ 0) ↔ (v.stand ≡ S.Empty)
