-- What the runs of the generated jobs come to, and how many tasks and indexes they have.
use Rattle.std.specs.Prelude.{◌≡◌, ◌≤◌, ℕ, ◌+◌, ◌*◌, List}
use Rattle.kt_law.specs.declared.limits.TheConstants.{INDEXES, TASKS}
use Rattle.kt_prog.specs.Outcome.{outcome_of}
use Rattle.kt_prog.specs.Reference.{reference}
use Rattle.kt_prog.specs.declared.programs.Program.{Program}
use Rattle.kt_prog.specs.declared.runs.Outcome.TheVariants.{Rows}
use Rattle.kt_text.specs.declared.commands.Kind.{Kind}
use Rattle.kt_text.specs.declared.commands.Kind.TheVariants.{Mul, Walks, Stencil, Scan}
use Rattle.kt_gen.specs.Jobs.{IsSize}
use Rattle.kt_gen.specs.Texts.{rounds_of}
use Rattle.kt_gen.specs.Trees.{program_of}

-- main, and what it forks: a product of tiles for each i, j and k; copies and products, there and back, in each round; a row there
-- and back, twice; the sums and the scan of each object
abbrev pub tasks_of : Kind → ℕ → ℕ
tasks_of Mul size = size * size * size + 1
tasks_of Walks size = 2 * rounds_of size * (size * size + size * size * size) + 1
tasks_of Stencil size = 4 * size + 1
tasks_of Scan size = 2 * size + 1

-- only the sums of a scan are loops, of 16 indexes each
abbrev pub indexes_of : Kind → ℕ → ℕ
indexes_of Mul size = 0
indexes_of Walks size = 0
indexes_of Stencil size = 0
indexes_of Scan size = 16 * size

-- the run has no fault and keeps the limits: it comes to the rows of its last store, with so many tasks and indexes
abbrev pub Completes : Program → List ℕ → ℕ → ℕ → Type 0
Completes p input tasks indexes =
    outcome_of p input ≡ record { outcome = Rows (reference p input).store; tasks = tasks; indexes = indexes }

-- each generated program of this kind completes, whatever its numbers are
abbrev pub KindCompletes : Kind → Type 0
KindCompletes kind = (size : ℕ) → IsSize kind size → (input : List ℕ)
    → Completes (program_of kind size) input (tasks_of kind size) (indexes_of kind size)

abbrev pub KeepsLimits : Kind → ℕ → Type 0
KeepsLimits kind size = (tasks_of kind size ≤ TASKS) × (indexes_of kind size ≤ INDEXES)

-- each generated program of each kind completes, with counts within the limits
abbrev pub GeneratedJobsComplete : Type 0
GeneratedJobsComplete = (kind : Kind) → KindCompletes kind × ((size : ℕ) → IsSize kind size → KeepsLimits kind size)
