use Rattle.std.proofs.Common.{◌≡◌, replicate}
use Rattle.kt_tables.specs.Tables.{untaken_index}
use Rattle.kt_core.proofs.parts.untaken_indexes.Given as goal

abbrev pub invariant-loop-turn : goal.invariant-loop-turn
invariant-loop-turn l = l.indexes.items ≡ replicate l.turn untaken_index
