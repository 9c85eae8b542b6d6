-- One index more is taken, if there is one.
use Rattle.std.proofs.Common.{◌≡◌, ◌<◌, ◌≤◌, ◌+◌, ◌∙◌, ap, sym, refl, length, Some, arith}
use Rattle.std.specs.List.{slice_get, slice_set}
use Rattle.std.proofs.lemmas.Option.{slice_get_read}
use Rattle.kt_tables.specs.LoopRows.{taken_index}
use Rattle.kt_core.proofs.Updates.{take_next, update_there, update_past}
use Rattle.kt_core.proofs.parts.take_indexes.Goals.{then-place-len, else-place-len}
use Rattle.kt_core.proofs.parts.take_indexes.Goals as goal

pub loop-turn-preserved : goal.loop-turn-preserved
loop-turn-preserved c = elim c.if-place-len.branch [
  | then-place-len w ↦
      (let rows = c.loop-turn.indexes.items in
      let place = c.args.at + c.loop-turn.turn in
      let r = w.index_mut.result.now in
      let few : place < length rows = omega (arith, w.if-place-len.true, c.len.ensures, c.loop-turn.indexes.ok.0) in
      let at : slice_get rows place ≡ Some r = slice_get_read rows (length rows) place r refl few w.index_mut.ensures.value in
      let next = ap (λ v. v.items) w.indexes-is in
      take_next rows _ c.args.at c.loop-turn.turn c.args.count place (omega arith) refl (next ∙ (ap (slice_set rows place) w.take.ensures ∙ sym (update_there place taken_index rows r at))) ∙ c.loop-turn.invariant)
  | else-place-len w ↦
      (let rows = c.loop-turn.indexes.items in
      let place = c.args.at + c.loop-turn.turn in
      let past : length rows ≤ place = omega (arith, w.if-place-len.false, c.len.ensures, c.loop-turn.indexes.ok.0) in
      take_next rows _ c.args.at c.loop-turn.turn c.args.count place (omega arith) refl (ap (λ v. v.items) w.indexes-is ∙ sym (update_past place taken_index rows past)) ∙ c.loop-turn.invariant)
]
