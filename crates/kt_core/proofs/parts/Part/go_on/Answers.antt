-- The index has gone on, and is counted where it ended.
use Rattle.std.proofs.Common.{◌≡◌, ◌∙◌, ap, sym, refl, subst, length, Some, true}
use Rattle.std.specs.List.{slice_get}
use Rattle.std.proofs.lemmas.Option.{slice_get_read}
use Rattle.kt_tables.specs.LoopRows.{is_under_way, part_indexed}
use Rattle.kt_tables.specs.Tables.{LoopPart}
use Rattle.kt_core.proofs.Updates.{part_went, under_way_there}
use Rattle.kt_core.proofs.parts.Part.go_on.Goals as goal

pub returns-clause-done : goal.returns-clause-done
returns-clause-done c =
    let rows = c.self.inside.indexes.items in
    let r = c.index_mut.result.now in
    let under = subst (λ (l : LoopPart). is_under_way (slice_get l.indexes c.args.index) ≡ true) (sym c.self.view_is) c.requires in
    let few = under_way_there rows c.args.index under in
    let at : slice_get rows c.args.index ≡ Some r = slice_get_read rows (length rows) c.args.index r refl few c.index_mut.ensures.value in
    part_went (record { indexes = rows; pieces = c.self.inside.pieces.items; unretired = c.self.inside.unretired; ended = c.self.inside.ended }) c.args.index c.args.operation.now c.go_on.new.self r c.ends.result at c.in_ok-go_on.ensures.done c.ends.ensures
    ∙ ap (part_indexed c.args.index c.args.operation.now) c.self.view_is
