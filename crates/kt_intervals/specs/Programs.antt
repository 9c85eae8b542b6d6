-- The program of a run, and the table of its first elements.
use Rattle.std.specs.Prelude.{◌≡◌, ◌<◌, ℕ, List, length, slice_index, Some}
use Rattle.kt_prog.specs.Accepted.{IsAccepted}
use Rattle.kt_prog.specs.Objects.{first_element_of, objects_of}
use Rattle.kt_prog.specs.declared.programs.Family.{Family}
use Rattle.kt_prog.specs.declared.programs.Program.{Program}
use Rattle.kt_rule.specs.declared.views.Setup.{Setup}
use Rattle.kt_rule.specs.declared.views.View.{View}

-- the number of each object's element 0
pub record HasFirsts (families : List Family) (firsts : List ℕ) : Type 0 where
  pub count : length firsts ≡ objects_of families
  pub each : (object : ℕ) → object < objects_of families → slice_index firsts object ≡ first_element_of families object

-- the seat is one of a run of this program, which is accepted
pub record IsOfRun (v : View) (p : Program) : Type 0 where
  pub setup : Setup
  pub told : v.setup ≡ Some setup
  pub program : setup.program ≡ p
  pub accepted : IsAccepted p
