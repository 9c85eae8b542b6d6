-- The answer of a run from its table.
use Rattle.std.specs.Prelude.{List, [], ◌∷◌, Option, Some}
use Rattle.kt_prog.specs.Runs.{FaultRun}
use Rattle.kt_faults.specs.First.{earlier}

-- the least of all faults and one that there may be
abbrev pub least_among : Option FaultRun → List FaultRun → Option FaultRun
least_among least [] = least
least_among least (f ∷ faults) = least_among (earlier least (Some f)) faults
