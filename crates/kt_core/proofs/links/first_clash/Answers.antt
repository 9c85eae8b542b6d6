-- A turn of the search: the number is past the bound, or that of a task that is in the way, or the search goes on behind it.
use Rattle.std.proofs.Common.{◌≡◌, ◌<◌, ◌∙◌, refl, sym, true, false, arith, length, get_or}
use Rattle.std.proofs.lemmas.Option.{slice_get_read}
use Rattle.kt_core.specs.Links.{is_in_the_way}
use Rattle.kt_core.proofs.Searches.{first_below_past, first_below_found, first_below_next}
use Rattle.kt_core.proofs.links.first_clash.Goals as goal

pub returns-then-number-bound : goal.returns-then-number-bound
returns-then-number-bound c =
    sym (sym c.loop-number.invariant
    ∙ first_below_past (is_in_the_way c.args.call.now) c.args.bound c.args.tasks.now c.args.numbers.now c.loop-number.number-index _ (omega arith) refl (omega arith))

pub returns-then-is_in_the_way : goal.returns-then-is_in_the_way
returns-then-is_in_the_way c =
    let rows = c.args.tasks.now in
    let numbers = c.args.numbers.now in
    let r = c.index-tasks-number.result in
    let stays : is_in_the_way c.args.call.now r ≡ true = sym c.is_in_the_way.ensures ∙ c.if-is_in_the_way.true in
    let within : c.loop-number.number-index < length numbers = omega arith in
    let below : get_or numbers c.loop-number.number-index 0 < c.args.bound = omega arith in
    let there = slice_get_read rows (length rows) (get_or numbers c.loop-number.number-index 0) r refl (c.requires c.loop-number.number-index 0 within) c.index-tasks-number.is in
    sym (sym c.loop-number.invariant ∙ first_below_found (is_in_the_way c.args.call.now) c.args.bound rows numbers c.loop-number.number-index _ r within refl below there stays)

pub loop-number-preserved : goal.loop-number-preserved
loop-number-preserved c =
    let rows = c.args.tasks.now in
    let numbers = c.args.numbers.now in
    let r = c.index-tasks-number.result in
    let ends : is_in_the_way c.args.call.now r ≡ false = sym c.is_in_the_way.ensures ∙ c.if-is_in_the_way.false in
    let within : c.loop-number.number-index < length numbers = omega arith in
    let below : get_or numbers c.loop-number.number-index 0 < c.args.bound = omega arith in
    let there = slice_get_read rows (length rows) (get_or numbers c.loop-number.number-index 0) r refl (c.requires c.loop-number.number-index 0 within) c.index-tasks-number.is in
    first_below_next (is_in_the_way c.args.call.now) c.args.bound rows numbers c.loop-number.number-index _ r within refl below there ends ∙ c.loop-number.invariant
