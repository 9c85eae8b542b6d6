-- The piece is changed where it stands, and what was cut off comes behind it.
use Rattle.std.proofs.Common.{◌<◌, ◌∙◌, ap, refl, length, arith}
use Rattle.std.proofs.lemmas.Option.{slice_get_read}
use Rattle.kt_core.specs.Pieces.{place_inside}
use Rattle.kt_core.proofs.Cuts.{cut_by, inside_within}
use Rattle.kt_core.proofs.pieces.cut.Goals as goal

pub index-requires : goal.index-requires
index-requires c =
    let place = c.place_inside-place.ensures ∙ ap (place_inside c.args.at) c.as_slice.ensures.value in
    omega (arith, place, inside_within c.args.at c.args.pieces.now.items c.requires, c.args.pieces.now.ok.0)

pub overflow_add-place : goal.overflow_add-place
overflow_add-place c =
    let place = c.place_inside-place.ensures ∙ ap (place_inside c.args.at) c.as_slice.ensures.value in
    omega (arith, place, inside_within c.args.at c.args.pieces.now.items c.requires, c.args.pieces.now.ok.0)

pub insert-requires : goal.insert-requires
insert-requires c =
    let place = c.place_inside-place.ensures ∙ ap (place_inside c.args.at) c.as_slice.ensures.value in
    omega (arith, place, inside_within c.args.at c.args.pieces.now.items c.requires, c.args.pieces.now.ok.0)

pub index_mut-requires : goal.index_mut-requires
index_mut-requires c =
    let place = c.place_inside-place.ensures ∙ ap (place_inside c.args.at) c.as_slice.ensures.value in
    omega (arith, place, inside_within c.args.at c.args.pieces.now.items c.requires, c.args.pieces.now.ok.0, c.in_ok-insert.ensures.len)

pub returns-clause-done : goal.returns-clause-done
returns-clause-done c =
    let ps = c.args.pieces.now.items in
    let place = c.place_inside-place.ensures ∙ ap (place_inside c.args.at) c.as_slice.ensures.value in
    let within = inside_within c.args.at c.args.pieces.now.items c.requires in
    let few : c.place_inside-place.result < length ps = omega (arith, place, within) in
    let there = slice_get_read ps (length ps) c.place_inside-place.result c.index.result.now refl few c.index.ensures in
    let now = c.insert.new.self.items in
    let more : c.place_inside-place.result < length now = omega (arith, few, c.in_ok-insert.ensures.len, c.args.pieces.now.ok.0, c.insert.new.self.ok.0) in
    let again = slice_get_read now (length now) c.place_inside-place.result c.index_mut.result.now refl more c.index_mut.ensures.value in
    cut_by c.args.at ps now c.place_inside-place.result _ c.index.result.now c.index_mut.result.now _ c.set_to.new.self place refl there c.in_ok-insert.ensures.items
    (ap (λ n. record { from = c.args.at; to = n }) c.to-to.ensures) again c.set_to.ensures
