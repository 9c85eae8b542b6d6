-- The data of a job.
use Rattle.std.specs.Prelude.{ℕ, ◌-◌, ◌^◌, Bool, ◌&&◌, ◌||◌, ◌==◌, nat_lt, is_none, if◌then◌else◌, List, [], ◌∷◌, length, map, filter, find, take, drop, take_while, slice_index, Option, Some, None, Result, Ok, Err}
use Rattle.std.specs.Char.{is_ascii_digit}
use Rattle.std.specs.List.{list_all, range_with_len}
use Rattle.kt_law.specs.declared.places.Place.{Place}
use Rattle.kt_text.specs.declared.data.DataError.{DataError}
use Rattle.kt_text.specs.declared.data.DataError.TheVariants.{BadNumber, TooFew, TooMany}
use Rattle.kt_text.specs.Bytes.{is_blank, is_item_byte, value_of}
use Rattle.kt_text.specs.Places.{place_of}

pub record Item : Type 0 where
  pub place : Place
  pub text : List ℕ

-- whether an item begins with the byte at i, where the data begin at `from`: it is no blank, and none of the data but a
-- blank stands before it
abbrev pub begins_item : List ℕ → ℕ → ℕ → Bool
begins_item job from i = is_item_byte (slice_index job i) && (i == from || is_blank (slice_index job (i - 1)))

-- as many bytes as follow that are no blanks
abbrev pub item_at : List ℕ → ℕ → Item
item_at job i = record { place = place_of job i; text = take_while is_item_byte (drop i job) }

-- the items of the data from `from` on
abbrev pub items_of : List ℕ → ℕ → List Item
items_of job from = map (λ i. item_at job i) (filter (λ i. begins_item job from i) (range_with_len from (length job - from)))

-- the number that an item writes, if it is one
abbrev pub item_number_of : List ℕ → Option ℕ
item_number_of text = if list_all is_ascii_digit text && nat_lt (value_of text) (2 ^ 64) then Some (value_of text) else None

abbrev pub is_bad : Item → Bool
is_bad item = is_none (item_number_of item.text)

-- what is said of the items where none of the first `wanted` is bad; the last list are those past the wanted
abbrev pub counted : List Item → ℕ → List Item → Result (List ℕ) DataError
counted items wanted (item ∷ more) = Err (TooMany item.place)
counted items wanted [] =
    if nat_lt (length items) wanted then Err (TooFew (length items) wanted) else Ok (map (λ (item : Item). value_of item.text) items)

-- what is said of the items, by the first bad one of those that are wanted
abbrev pub answer_of : List Item → ℕ → Option Item → Result (List ℕ) DataError
answer_of items wanted (Some item) = Err (BadNumber item.place)
answer_of items wanted None = counted items wanted (drop wanted items)

-- the numbers from `from` on, of which `wanted` are wanted, or the first fault
abbrev pub numbers : List ℕ → ℕ → ℕ → Result (List ℕ) DataError
numbers job from wanted =
    let items : List Item = items_of job from in answer_of items wanted (find (λ item. is_bad item) (take wanted items))
