use Rattle.std.proofs.Common.{◌≡◌, ◌+◌, ◌-◌}
use Rattle.kt_tables.specs.LoopRows.{take_indexes}
use Rattle.kt_core.proofs.parts.take_indexes.Given as goal

abbrev pub invariant-loop-turn : goal.invariant-loop-turn
invariant-loop-turn l = take_indexes (l.at + l.turn) (l.count - l.turn) l.indexes.items ≡ take_indexes l.at l.count l.initial.indexes.items
