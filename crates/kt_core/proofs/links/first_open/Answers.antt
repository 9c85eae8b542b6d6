-- A turn of the search: the number is past the bound, or that of a task that is not finished, or the search goes on behind it.
use Rattle.std.proofs.Common.{◌≡◌, ◌<◌, ◌∙◌, refl, sym, ap, not, true, false, arith, length, get_or}
use Rattle.std.proofs.lemmas.Option.{slice_get_read}
use Rattle.kt_tables.specs.Tables.{is_finished, is_open}
use Rattle.kt_core.proofs.Searches.{first_below_past, first_below_found, first_below_next}
use Rattle.kt_core.proofs.links.first_open.Goals as goal

pub returns-then-number-bound : goal.returns-then-number-bound
returns-then-number-bound c =
    sym (sym c.loop-number.invariant
    ∙ first_below_past is_open c.args.bound c.args.tasks.now c.args.numbers.now c.loop-number.number-index _ (omega arith) refl (omega arith))

pub returns-then-not-is_finished : goal.returns-then-not-is_finished
returns-then-not-is_finished c =
    let rows = c.args.tasks.now in
    let numbers = c.args.numbers.now in
    let r = c.index-tasks-number.result in
    let stays : is_open r ≡ true = ap not (ap is_finished (sym c.phase.ensures) ∙ sym c.is_finished.ensures ∙ c.if-not-is_finished.true) in
    let within : c.loop-number.number-index < length numbers = omega arith in
    let below : get_or numbers c.loop-number.number-index 0 < c.args.bound = omega arith in
    let there = slice_get_read rows (length rows) (get_or numbers c.loop-number.number-index 0) r refl (c.requires c.loop-number.number-index 0 within) c.index-tasks-number.is in
    sym (sym c.loop-number.invariant ∙ first_below_found is_open c.args.bound rows numbers c.loop-number.number-index _ r within refl below there stays)

pub loop-number-preserved : goal.loop-number-preserved
loop-number-preserved c =
    let rows = c.args.tasks.now in
    let numbers = c.args.numbers.now in
    let r = c.index-tasks-number.result in
    let ends : is_open r ≡ false = ap not (ap is_finished (sym c.phase.ensures) ∙ sym c.is_finished.ensures ∙ c.if-not-is_finished.false) in
    let within : c.loop-number.number-index < length numbers = omega arith in
    let below : get_or numbers c.loop-number.number-index 0 < c.args.bound = omega arith in
    let there = slice_get_read rows (length rows) (get_or numbers c.loop-number.number-index 0) r refl (c.requires c.loop-number.number-index 0 within) c.index-tasks-number.is in
    first_below_next is_open c.args.bound rows numbers c.loop-number.number-index _ r within refl below there ends ∙ c.loop-number.invariant
