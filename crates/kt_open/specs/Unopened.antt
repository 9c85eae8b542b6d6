-- Why a job was not opened.
use Rattle.std.specs.Prelude.{◌≡◌, ℕ, List}
use Rattle.kt_law.specs.declared.places.Refusal.{Refusal}
use Rattle.kt_print.specs.declared.lines.Line.{Line}
use Rattle.kt_print.specs.declared.lines.Line.TheVariants as L
use Rattle.kt_open.specs.Answers.{IsRefused, Unopens}
use Rattle.kt_open.specs.declared.opening.Unopened.{Unopened}
use Rattle.kt_open.specs.declared.opening.Unopened.TheVariants as U

-- the line is that of a job with no run
abbrev pub IsUnopened : List ℕ → Unopened → Type 0
IsUnopened bytes (U.Line line) = (status : ℕ) × Unopens bytes status line
IsUnopened bytes U.NoMemory = Unit {0}

-- the line is that of a job whose program is refused
abbrev pub IsNoProgram : List ℕ → Unopened → Type 0
IsNoProgram bytes (U.Line line) = (r : Refusal) × (line ≡ L.Refused r) × IsRefused bytes r
IsNoProgram bytes U.NoMemory = Unit {0}
