-- What a worker takes along for a program.
use Rattle.std.specs.Prelude.{◌≡◌, ◌≤◌, ◌+◌}
use Rattle.kt_law.specs.declared.limits.TheConstants.{TASKS, WORKERS}
use Rattle.kt_prog.specs.Objects.{objects_of}
use Rattle.kt_prog.specs.declared.programs.Program.{Program}
use Rattle.kt_words.specs.declared.layouts.TheConstants.{RECORDS}
use Rattle.kt_worker.specs.declared.scratch.Tools.{Tools}

-- room for all frames that may be under way, and for a scan of any region
pub record HasRoom (p : Program) (tools : Tools) : Type 0 where
  pub stack : tools.stack.room ≡ TASKS + WORKERS
  pub objects : objects_of p.families ≤ tools.scan.objects
  pub entries : RECORDS ≤ tools.scan.entries
