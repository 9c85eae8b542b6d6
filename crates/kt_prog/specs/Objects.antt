-- Objects and elements by their numbers.
use Rattle.std.specs.Prelude.{ℕ, ◌+◌, ◌-◌, ◌*◌, List, [], ◌∷◌, nat_lt, if◌then◌else◌}
use Rattle.kt_prog.specs.declared.programs.Family.{Family}

-- how many objects there are
abbrev pub objects_of : List Family → ℕ
objects_of [] = 0
objects_of (f ∷ families) = f.members + objects_of families

-- how many elements they have
abbrev pub elements_of : List Family → ℕ
elements_of [] = 0
elements_of (f ∷ families) = f.members * f.elements + elements_of families

-- how many of these belong to input families
abbrev pub inputs_of : List Family → ℕ
inputs_of [] = 0
inputs_of (f ∷ families) = (if f.input then f.members * f.elements else 0) + inputs_of families

-- how many elements one object has, 0 past the last object
abbrev pub width_of : List Family → ℕ → ℕ
width_of [] object = 0
width_of (f ∷ families) object =
    if nat_lt object f.members then f.elements else width_of families (object - f.members)

-- how many elements stand before those of the object
abbrev pub first_element_of : List Family → ℕ → ℕ
first_element_of [] object = 0
first_element_of (f ∷ families) object =
    if nat_lt object f.members then object * f.elements
    else f.members * f.elements + first_element_of families (object - f.members)
