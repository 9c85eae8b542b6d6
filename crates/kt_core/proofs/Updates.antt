-- The indexes of a loop by their numbers.
use Rattle.std.proofs.Common.{◌≡◌, ◌≤◌, ◌<◌, ◌+◌, ◌-◌, ℕ, zero, suc, List, [], ◌∷◌, ◌++◌, Some, length, replicate, true, refl, ap, arith}
use Rattle.std.specs.List.{slice_get, slice_set}
use Rattle.kt_prog.specs.declared.runs.Operation.{Operation}
use Rattle.kt_tables.specs.LoopRows.{is_under_way, ends, update, taken_index, take_indexes, index_after, part_indexed}
use Rattle.kt_tables.specs.Tables.{IndexRow, LoopPart}

pub update_there : (i : ℕ) (f : IndexRow → IndexRow) (rows : List IndexRow) (v : IndexRow) → slice_get rows i ≡ Some v → update i f rows ≡ slice_set rows i (f v)
update_there i f [] v e = refl
update_there zero f (w ∷ rows) v e = ap (λ (z : IndexRow). f z ∷ rows) (the_some e)
  where
    the_some : Some w ≡ Some v → w ≡ v
    the_some h = cc
update_there (suc i) f (w ∷ rows) v e = ap (λ xs. w ∷ xs) (update_there i f rows v e)

pub update_past : (i : ℕ) (f : IndexRow → IndexRow) (rows : List IndexRow) → length rows ≤ i → update i f rows ≡ rows
update_past i f [] few = refl
update_past zero f (w ∷ rows) few = absurd (omega (arith, few))
update_past (suc i) f (w ∷ rows) few = ap (λ xs. w ∷ xs) (update_past i f rows (omega (arith, few)))

-- a loop part once one of its indexes has gone on
pub part_went : (part : LoopPart) (i : ℕ) (op : Operation) (row r : IndexRow) (n : ℕ) → slice_get part.indexes i ≡ Some r → row ≡ index_after op r → n ≡ ends op
    → (let new : LoopPart = record { indexes = slice_set part.indexes i row; pieces = part.pieces; unretired = part.unretired; ended = part.ended + n } in new) ≡ part_indexed i op part
part_went part i op row r n at is over =
    let there = update_there i (index_after op) part.indexes r at in
    rw (is, over, there) refl

pub under_way_there : (rows : List IndexRow) (i : ℕ) → is_under_way (slice_get rows i) ≡ true → i < length rows
under_way_there [] i e = cc
under_way_there (v ∷ rows) zero e = omega arith
under_way_there (v ∷ rows) (suc i) e = let more = under_way_there rows i e in omega (arith, more)

-- one index of those that are to be taken, and the others
pub take_next : (rows next : List IndexRow) (at turn count place : ℕ) → turn < count → place ≡ at + turn → next ≡ update place taken_index rows
    → take_indexes (at + (turn + 1)) (count - (turn + 1)) next ≡ take_indexes (at + turn) (count - turn) rows
take_next rows next at turn count place less is same =
    let more : count - turn ≡ suc (count - (turn + 1)) = omega (arith, less) in
    let further : at + (turn + 1) ≡ suc (at + turn) = omega arith in
    rw (more, further, same, is) refl

-- n more
pub replicate_last : {X : Type 0} → (n : ℕ) (x : X) → replicate n x ++ x ∷ [] ≡ replicate (suc n) x
replicate_last zero x = refl
replicate_last (suc n) x = ap (λ xs. x ∷ xs) (replicate_last n x)
