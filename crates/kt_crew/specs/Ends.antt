-- What a run comes to.
use Rattle.std.specs.Prelude.{List, [], ◌∷◌, Option, if◌then◌else◌}
use Rattle.kt_faults.specs.First.{earlier, fault_else_rows}
use Rattle.kt_prog.specs.Runs.{FaultRun}
use Rattle.kt_prog.specs.declared.runs.Outcome.TheVariants as O
use Rattle.kt_prog.specs.declared.runs.Ran.{Ran}
use Rattle.kt_pool.specs.declared.closing.Closed.{Closed}
use Rattle.kt_crew.specs.declared.jobs.Done.{Done}

-- the least of this fault and of those that the workers met
abbrev pub first_with : Option FaultRun → List Done → Option FaultRun
first_with least [] = least
first_with least (d ∷ done) = first_with (earlier least d.fault) done

-- the limit, or the least fault, or the rows
abbrev pub comes_to : Closed → Option FaultRun → Ran
comes_to c least = if c.limit then record { outcome = O.Limit; tasks = 0; indexes = 0 }
    else record { outcome = fault_else_rows c.rows.items least; tasks = c.tasks; indexes = c.indexes }
