-- The widths of some objects.
use Rattle.std.specs.Prelude.{◌≡◌, ℕ, List, [], ◌∷◌, Option, Some, None, nat_eq, if◌then◌else◌}
use Rattle.kt_prog.specs.Objects.{width_of}
use Rattle.kt_prog.specs.declared.programs.Family.{Family}
use Rattle.kt_body.specs.declared.measured.Width.{Width}

-- each of them is the width of its object
abbrev pub AreWidths : List Family → List Width → Type 0
AreWidths families [] = Unit {0}
AreWidths families (w ∷ widths) = (w.elements ≡ width_of families w.object) × AreWidths families widths

-- the width of the object, if it is among them
abbrev pub width_among : List Width → ℕ → Option ℕ
width_among [] object = None
width_among (w ∷ widths) object = if nat_eq w.object object then Some w.elements else width_among widths object
