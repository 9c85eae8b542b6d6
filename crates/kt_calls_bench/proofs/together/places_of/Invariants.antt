use Rattle.std.specs.Prelude.{vec_len}
use Rattle.std.specs.List.{All}
use Rattle.kt_rule.specs.declared.tables.RunTable.{RunTable}
use Rattle.kt_calls_bench.specs.Asking.{IsAtStart}
use Rattle.kt_calls_bench.specs.Together.{IsPlace}
use Rattle.kt_calls_bench.proofs.together.places_of.Given as goal

-- what was placed and what is left
abbrev pub invariant-loop-seat : goal.invariant-loop-seat
invariant-loop-seat l = (t : RunTable) → All (IsAtStart t l.program) l.fn.seats.items → All (IsAtStart t l.program) l.seats.items × All (IsPlace t l.program) l.places.items

abbrev pub decreases-loop-seat : goal.decreases-loop-seat
decreases-loop-seat l = vec_len l.seats
