-- The plain store: one list of numbers, the elements of all objects in the order of their numbers.
use Rattle.std.specs.Prelude.{ℕ, ◌+◌, List, slice_index, slice_set}
use Rattle.kt_law.specs.Acts.{Act}
use Rattle.kt_rights.specs.Acts.{effect, found}
use Rattle.kt_prog.specs.Objects.{first_element_of}
use Rattle.kt_prog.specs.declared.programs.Family.{Family}

-- the place of the element that an act is done to
abbrev pub place_of : List Family → Act → ℕ
place_of families act = first_element_of families act.object + act.element

-- the number of an object's element
abbrev pub look : List Family → ℕ → ℕ → List ℕ → ℕ
look families object element store = slice_index store (first_element_of families object + element)

-- the store with that number changed
abbrev pub change : List Family → ℕ → ℕ → (ℕ → ℕ) → List ℕ → List ℕ
change families object element f store = let e = first_element_of families object + element in slice_set store e (f (slice_index store e))

-- the store after an act
abbrev pub after : List Family → Act → List ℕ → List ℕ
after families act store = change families act.object act.element (effect act.deed) store

abbrev pub answer : List Family → Act → List ℕ → ℕ
answer families act store = found act.deed (look families act.object act.element store)
