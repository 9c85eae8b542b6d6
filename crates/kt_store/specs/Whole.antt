-- A store that has all elements of its program, and where each object's begin.
use Rattle.std.specs.Prelude.{◌≡◌, ◌<◌, ℕ, List, length, slice_index}
use Rattle.kt_prog.specs.Objects.{elements_of, first_element_of, objects_of}
use Rattle.kt_prog.specs.declared.programs.Family.{Family}
use Rattle.kt_store.specs.declared.plain.PlainStore.TheInside.{Inside}

-- the list has the number of each object's element 0
pub record HasFirsts (families : List Family) (firsts : List ℕ) : Type 0 where
  pub count : length firsts ≡ objects_of families
  pub each : (object : ℕ) → object < objects_of families → slice_index firsts object ≡ first_element_of families object

pub record IsWhole (s : Inside) : Type 0 where
  pub firsts : HasFirsts s.program.now.families s.firsts.items
  pub full : length s.elements.items ≡ elements_of s.program.now.families
