-- What `demo` runs, and what it tells of the run.
use Rattle.std.specs.Prelude.{◌≡◌, ℕ, ◌*◌, ◌^◌, ◌%◌, List, [], ◌∷◌, ◌++◌, length, take, drop, if◌then◌else◌}
use Rattle.std.specs.List.{sum}
use Rattle.kt_gen.specs.Jobs.{IsReadAs, job_text}
use Rattle.kt_gen.specs.Numbers.{numbers_of}
use Rattle.kt_gen.specs.Trees.{program_of}
use Rattle.kt_print.specs.declared.lines.Line.{Line}
use Rattle.kt_print.specs.declared.lines.Line.TheVariants.{Totals}
use Rattle.kt_prog.specs.Entries.{indexes_of, tasks_of}
use Rattle.kt_prog.specs.Reference.{reference}
use Rattle.kt_prog.specs.declared.programs.Family.{Family}
use Rattle.kt_prog.specs.declared.programs.Program.{Program}
use Rattle.kt_text.specs.declared.commands.Kind.{Kind}

-- the program of a generated job and its numbers: the bytes of the job are read as these, but for places
pub record IsGenerated (kind : Kind) (size number : ℕ) (program : Program) (input : List ℕ) : Type 0 where
  pub tree : program ≡ program_of kind size
  pub numbers : input ≡ numbers_of kind size number
  pub read : IsReadAs (job_text kind size number) program input

-- the elements of the output families, of those of all families
abbrev pub outputs_of : List Family → List ℕ → List ℕ
outputs_of [] rows = []
outputs_of (f ∷ families) rows =
    let n = f.members * f.elements in
    (if f.output then take n rows else []) ++ outputs_of families (drop n rows)

-- of the reference run: how many tasks it has, `main` among them, how many indexes, and the sum of these elements modulo 2^64
abbrev pub totals_of : Program → List ℕ → Line
totals_of p input =
    let run = reference p input in
    Totals (length (tasks_of p run.entries)) (length (indexes_of p run.entries)) (sum (outputs_of p.families run.store) % 2 ^ 64)
