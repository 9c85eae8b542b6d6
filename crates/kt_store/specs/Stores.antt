-- What contracts see of the plain store of a run.
use Rattle.std.specs.Prelude.{ℕ, List}
use Rattle.kt_law.specs.Acts.{Act}
use Rattle.kt_prog.specs.Reference.{opened_with}
use Rattle.kt_prog.specs.Store.{after}
use Rattle.kt_prog.specs.declared.programs.Program.{Program}

-- the program of the run, and the elements of all its objects in the order of their numbers
pub record StoreState : Type 0 where
  pub program : Program
  pub elements : List ℕ

-- the input in the elements of the input families, and 0 in all others
abbrev pub opened : Program → List ℕ → StoreState
opened p input = record { program = p; elements = opened_with p.families input }

-- the store after an act
abbrev pub after_act : Act → StoreState → StoreState
after_act act s = record { program = s.program; elements = after s.program.families act s.elements }
