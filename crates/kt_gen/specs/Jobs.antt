-- The generated jobs.
use Rattle.std.specs.Prelude.{◌≡◌, ◌≤◌, ℕ, List, ◌++◌, Ok}
use Rattle.kt_canon.specs.Placeless.{SameButForPlaces}
use Rattle.kt_prog.specs.Objects.{inputs_of}
use Rattle.kt_prog.specs.declared.programs.Program.{Program}
use Rattle.kt_read.specs.Jobs.{IsJob}
use Rattle.kt_text.specs.Data.{numbers}
use Rattle.kt_text.specs.Words.{largest_of}
use Rattle.kt_text.specs.declared.commands.Kind.{Kind}
use Rattle.kt_gen.specs.Texts.{program_text}
use Rattle.kt_gen.specs.Numbers.{lines_text, rows_of}

-- there is a job of this kind and size
abbrev pub IsSize : Kind → ℕ → Type 0
IsSize kind size = (1 ≤ size) × (size ≤ largest_of kind)

-- the bytes of a generated job: the text of its program, and the lines of its numbers
abbrev pub job_text : Kind → ℕ → ℕ → List ℕ
job_text kind size number = program_text kind size ++ lines_text (rows_of kind size number)

-- these bytes are a job of the program, but for places, and their data are the numbers that it wants
pub record IsReadAs (job : List ℕ) (p : Program) (input : List ℕ) : Type 0 where
  pub program : Program
  pub from : ℕ
  pub read : IsJob job program from
  pub same : SameButForPlaces p program
  pub data_given : numbers job from (inputs_of p.families) ≡ Ok input
