-- What the events of a loop ask of its row, and what they make of it.
use Rattle.std.specs.Prelude.{ℕ, zero, suc, ◌+◌, ◌-◌, List, [], ◌∷◌, ◌++◌, length, Bool, true, false, cond, Option, Some, None, ◌||◌, not, nat_eq, nat_lt}
use Rattle.kt_order.specs.Books.{Piece, is_inside, cut, take}
use Rattle.kt_prog.specs.Operations.{heard}
use Rattle.kt_prog.specs.declared.runs.Operation.{Operation}
use Rattle.kt_prog.specs.declared.runs.Operation.TheVariants as O
use Rattle.kt_tables.specs.Tables.{IndexRow, LoopPart, TaskRow, whole_loop}
use Rattle.kt_tables.specs.declared.events.Phase.TheVariants as P
use Rattle.kt_tables.specs.declared.events.Stand.{Stand}
use Rattle.kt_tables.specs.declared.events.Stand.TheVariants as S

-- a piece has the index strictly inside
abbrev pub has_inside : ℕ → List Piece → Bool
has_inside at [] = false
has_inside at (piece ∷ pieces) = is_inside at piece || has_inside at pieces

-- the first piece that begins at the index has at least so many
abbrev pub can_take : ℕ → ℕ → List Piece → Bool
can_take at n [] = false
can_take at n (piece ∷ pieces) = cond (nat_eq piece.from at) (not (nat_lt piece.to (at + n))) (can_take at n pieces)

abbrev pub is_taken : Stand → Bool
is_taken S.Taken = true
is_taken _ = false

-- the index is there, is taken, and its body has not ended
abbrev pub is_under_way : Option IndexRow → Bool
is_under_way None = false
is_under_way (Some v) = is_taken v.stand

-- 1 where the operation ends its body
abbrev pub ends : Operation → ℕ
ends O.End = 1
ends (O.Fault law line) = 1
ends _ = 0

-- one index changed
abbrev pub update : ℕ → (IndexRow → IndexRow) → List IndexRow → List IndexRow
update i f [] = []
update zero f (v ∷ rows) = f v ∷ rows
update (suc i) f (v ∷ rows) = v ∷ update i f rows

abbrev pub taken_index : IndexRow → IndexRow
taken_index v = record { stand = S.Taken; answers = v.answers; done = v.done; fault = v.fault }

-- n indexes are taken, from one on
abbrev pub take_indexes : ℕ → ℕ → List IndexRow → List IndexRow
take_indexes at zero rows = rows
take_indexes at (suc n) rows = take_indexes (suc at) n (update at taken_index rows)

-- one operation more, with what it heard
abbrev pub index_went_on : List ℕ → IndexRow → IndexRow
index_went_on answers v = record { stand = v.stand; answers = v.answers ++ answers; done = suc v.done; fault = v.fault }

-- an index after an operation of its body
abbrev pub index_after : Operation → IndexRow → IndexRow
index_after O.End v = record { stand = S.Over; answers = v.answers; done = suc v.done; fault = v.fault }
index_after (O.Fault law line) v = record { stand = S.Over; answers = v.answers; done = suc v.done; fault = Some (record { law = law; line = line }) }
index_after operation v = index_went_on (heard operation) v

-- the loop part after each of the events
abbrev pub part_split : ℕ → LoopPart → LoopPart
part_split at part = record { indexes = part.indexes; pieces = cut at part.pieces; unretired = part.unretired; ended = part.ended }

abbrev pub part_taken : ℕ → ℕ → LoopPart → LoopPart
part_taken at n part = record { indexes = take_indexes at n part.indexes; pieces = take at n part.pieces; unretired = part.unretired; ended = part.ended }

abbrev pub part_indexed : ℕ → Operation → LoopPart → LoopPart
part_indexed i operation part =
    record { indexes = update i (index_after operation) part.indexes; pieces = part.pieces; unretired = part.unretired; ended = part.ended + ends operation }

abbrev pub part_retired : ℕ → LoopPart → LoopPart
part_retired n part = record { indexes = part.indexes; pieces = part.pieces; unretired = part.unretired - n; ended = part.ended - n }

abbrev pub with_loop : LoopPart → TaskRow → TaskRow
with_loop part r = record { path = r.path; call = r.call; phase = r.phase; answers = r.answers; done = r.done; fault = r.fault; loop = part }

-- and the row: a loop begins with one piece of all its indexes, none of them retired
abbrev pub row_begun : TaskRow → TaskRow
row_begun r =
    record { path = r.path; call = r.call; phase = P.Looping; answers = r.answers; done = r.done; fault = r.fault; loop = whole_loop r.call.length }

abbrev pub row_split : ℕ → TaskRow → TaskRow
row_split at r = with_loop (part_split at r.loop) r

abbrev pub row_taken : ℕ → ℕ → TaskRow → TaskRow
row_taken at n r = with_loop (part_taken at n r.loop) r

abbrev pub row_indexed : ℕ → Operation → TaskRow → TaskRow
row_indexed i operation r = with_loop (part_indexed i operation r.loop) r

abbrev pub row_retired : ℕ → TaskRow → TaskRow
row_retired n r = with_loop (part_retired n r.loop) r
