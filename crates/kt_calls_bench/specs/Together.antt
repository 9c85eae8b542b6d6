-- A seat that has made no step, with the room of its worker.
use Rattle.kt_prog.specs.declared.programs.Program.{Program}
use Rattle.kt_rule.specs.declared.tables.RunTable.{RunTable}
use Rattle.kt_calls_bench.specs.Asking.{IsAtStart, IsReady}
use Rattle.kt_calls_bench.specs.declared.together.Place.{Place}

pub record IsPlace (t : RunTable) (p : Program) (place : Place) : Type 0 where
  pub seat : IsAtStart t p place.seat
  pub ready : IsReady p place.scratch
