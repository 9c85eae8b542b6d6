-- A program of which some declarations were read.
use Rattle.std.specs.Prelude.{◌≡◌, List, [], ◌∷◌, ◌++◌}
use Rattle.kt_prog.specs.declared.programs.Program.{Program}
use Rattle.kt_tokens.specs.declared.tokens.Tok.{Tok}
use Rattle.kt_read.specs.declared.reader.declarations.Declared.{Declared}
use Rattle.kt_read.specs.declared.reader.declarations.Declared.TheVariants as D
use Rattle.kt_read.specs.declared.reader.programs.Gathered.{Gathered}
use Rattle.kt_read.specs.Programs.{ReadsProgram}

abbrev pub nothing : Gathered
nothing = record { families = []; tasks = []; mains = [] }

abbrev pub added : Gathered → Declared → Gathered
added g (D.Family f) = record { families = g.families ++ f ∷ []; tasks = g.tasks; mains = g.mains }
added g (D.Task t) = record { families = g.families; tasks = g.tasks ++ t ∷ []; mains = g.mains }
added g (D.Main m) = record { families = g.families; tasks = g.tasks; mains = g.mains ++ m ∷ [] }

-- these declarations, and then a program
abbrev pub joined : Gathered → Program → Program
joined g program = record {
  families = g.families ++ program.families;
  tasks = g.tasks ++ program.tasks;
  mains = g.mains ++ program.mains;
  end = program.end;
}

-- what is left of a program behind these declarations
pub record ProgramLeft (g : Gathered) (program : Program) (ts us : List Tok) : Type 0 where
  pub after : Program
  pub reads : ReadsProgram after ts us
  pub is : program ≡ joined g after
