-- How much is left of a run, at most: a number that falls with each turn.
use Rattle.std.specs.Prelude.{ℕ, suc, ◌+◌, ◌-◌, ◌*◌, List, [], ◌∷◌, length}
use Rattle.kt_law.specs.declared.limits.TheConstants.{LENGTH, TASKS}
use Rattle.kt_order.specs.Books.{Piece}
use Rattle.kt_tables.specs.Tables.{IndexRow, LoopPart, TaskRow, CoreState}
use Rattle.kt_tables.specs.declared.events.Phase.{Phase}
use Rattle.kt_tables.specs.declared.events.Phase.TheVariants as P
use Rattle.kt_tables.specs.declared.events.Stand.{Stand}
use Rattle.kt_tables.specs.declared.events.Stand.TheVariants as I

-- a piece can be cut until each part has one index, and each index is still to be taken, to end and to be retired
abbrev pub pieces_left : List Piece → ℕ
pieces_left [] = 0
pieces_left (piece ∷ pieces) = (4 * (piece.to - piece.from) - 1) + pieces_left pieces

-- an index that is taken is to end and to be retired
abbrev pub stand_left : Stand → ℕ
stand_left I.Taken = 2
stand_left _ = 0

abbrev pub taken_left : List IndexRow → ℕ
taken_left [] = 0
taken_left (v ∷ rows) = stand_left v.stand + taken_left rows

abbrev pub loop_left : LoopPart → ℕ
loop_left part = pieces_left part.pieces + taken_left part.indexes + part.ended

-- a claim, an end or a beginning with so many indexes, and a finish
abbrev pub phase_left : Phase → ℕ → ℕ
phase_left P.Unclaimed n = 3 + 4 * n
phase_left P.Running n = 2 + 4 * n
phase_left P.Looping n = 1
phase_left P.Ended n = 1
phase_left P.Finished n = 0

abbrev pub row_left : TaskRow → ℕ
row_left r = phase_left r.phase r.call.length + loop_left r.loop

abbrev pub rows_left : List TaskRow → ℕ
rows_left [] = 0
rows_left (r ∷ rows) = row_left r + rows_left rows

-- of a task that is not there yet
abbrev pub fresh_left : ℕ
fresh_left = 3 + 4 * LENGTH

abbrev pub room_left : ℕ → ℕ
room_left tasks = (suc TASKS - tasks) * fresh_left

abbrev pub left_in : CoreState → ℕ
left_in c = room_left (length c.table.tasks) + rows_left c.table.tasks
