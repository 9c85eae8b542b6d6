-- Names looked up and bound while a body runs. Where a rule was broken the body goes astray: `lost` says what then comes of
-- what would follow.
use Rattle.std.specs.Prelude.{ℕ, List, [], ◌∷◌, ◌++◌, Bool, true, false, Option, Some, length, nat_lt, is_some, if◌then◌else◌}
use Rattle.std.specs.Str.{bytes_eq}
use Rattle.kt_prog.specs.Script.{Script, astray, Step, give}
use Rattle.kt_prog.specs.Locals.{local_of}
use Rattle.kt_prog.specs.declared.scope.TheConstants.{NAMES}
use Rattle.kt_prog.specs.declared.scope.Local.{Local}
use Rattle.kt_prog.specs.declared.scope.Bound.{Bound}
use Rattle.kt_prog.specs.declared.scope.Bound.TheVariants.{Number, One, Many}

-- the objects from lo up to hi, hi not included
pub record Range : Type 0 where
  pub lo : ℕ
  pub hi : ℕ

abbrev pub nowhere : Range
nowhere = record { lo = 0; hi = 0 }

-- the first local of this name gets the number
abbrev pub assign : List Local → List ℕ → ℕ → List Local
assign [] name n = []
assign (l ∷ locals) name n =
    if bytes_eq l.name name then record { name = l.name; bound = Number n } ∷ locals else l ∷ assign locals name n

module _ (lost : Script → Script) where
  -- the number, the object or the range that a name stands for
  abbrev pub number_in : Option Bound → Step ℕ
  number_in (Some (Number n)) = give n
  number_in _ = astray lost 0

  abbrev pub object_in : Option Bound → Step ℕ
  object_in (Some (One object)) = give object
  object_in _ = astray lost 0

  abbrev pub range_in : Option Bound → Step Range
  range_in (Some (Many lo hi)) = give (record { lo = lo; hi = hi })
  range_in _ = astray lost nowhere

  -- the second locals where it can be done, or else the first
  abbrev pub where_fine : Bool → List Local → List Local → Step (List Local)
  where_fine true locals after = give after
  where_fine false locals after = astray lost locals

  -- one name more, for which there is room
  abbrev pub with_local : List Local → List ℕ → ℕ → Step (List Local)
  with_local locals name n = where_fine (nat_lt (length locals) NAMES) locals (locals ++ record { name = name; bound = Number n } ∷ [])

  -- another number for a name that is there
  abbrev pub assigned : List Local → List ℕ → ℕ → Step (List Local)
  assigned locals name n = where_fine (is_some (local_of locals name)) locals (assign locals name n)
