-- The piece loses its first indexes, or is gone.
use Rattle.std.proofs.Common.{◌<◌, ◌∙◌, ap, sym, refl, length, arith}
use Rattle.std.specs.List.{slice_get}
use Rattle.std.proofs.lemmas.Option.{slice_get_read}
use Rattle.kt_core.specs.Pieces.{place_from}
use Rattle.kt_core.proofs.Cuts.{take_within, take_fits, taken_by, taken_all}
use Rattle.kt_core.proofs.pieces.take.Goals as goal

pub index-requires : goal.index-requires
index-requires c =
    let place = c.place_from-place.ensures ∙ ap (place_from c.args.at) c.as_slice.ensures.value in
    omega (arith, place, take_within c.args.at c.args.count c.args.pieces.now.items c.requires, c.args.pieces.now.ok.0)

pub index_mut-requires : goal.index_mut-requires
index_mut-requires c =
    let place = c.place_from-place.ensures ∙ ap (place_from c.args.at) c.as_slice.ensures.value in
    omega (arith, place, take_within c.args.at c.args.count c.args.pieces.now.items c.requires, c.args.pieces.now.ok.0)

pub remove-requires : goal.remove-requires
remove-requires c =
    let place = c.place_from-place.ensures ∙ ap (place_from c.args.at) c.as_slice.ensures.value in
    omega (arith, place, take_within c.args.at c.args.count c.args.pieces.now.items c.requires, c.args.pieces.now.ok.0)

pub overflow_add-from : goal.overflow_add-from
overflow_add-from c =
    let ps = c.args.pieces.now.items in
    let place = c.place_from-place.ensures ∙ ap (place_from c.args.at) c.as_slice.ensures.value in
    let within = take_within c.args.at c.args.count c.args.pieces.now.items c.requires in
    let few : c.place_from-place.result < length ps = omega (arith, place, within) in
    let there = slice_get_read ps (length ps) c.place_from-place.result c.index.result.now refl few c.index.ensures in
    let fits = take_fits c.args.at c.args.count ps c.index.result.now (ap (slice_get ps) (sym place) ∙ there) c.requires in
    omega (arith, fits, c.to-to.ensures)

pub returns-then-from-to : goal.returns-then-from-to
returns-then-from-to c =
    let ps = c.args.pieces.now.items in
    let place = c.place_from-place.ensures ∙ ap (place_from c.args.at) c.as_slice.ensures.value in
    let within = take_within c.args.at c.args.count c.args.pieces.now.items c.requires in
    let few : c.place_from-place.result < length ps = omega (arith, place, within) in
    let there = slice_get_read ps (length ps) c.place_from-place.result c.index.result.now refl few c.index.ensures in
    let again = slice_get_read ps (length ps) c.place_from-place.result c.index_mut.result.now refl few c.index_mut.ensures.value in
    taken_by c.args.at c.args.count _ ps c.place_from-place.result c.index.result.now c.index_mut.result.now c.set_from.new.self place there refl (omega (arith, c.to-to.ensures)) again c.set_from.ensures

pub returns-else-from-to : goal.returns-else-from-to
returns-else-from-to c =
    let ps = c.args.pieces.now.items in
    let place = c.place_from-place.ensures ∙ ap (place_from c.args.at) c.as_slice.ensures.value in
    let within = take_within c.args.at c.args.count c.args.pieces.now.items c.requires in
    let few : c.place_from-place.result < length ps = omega (arith, place, within) in
    let there = slice_get_read ps (length ps) c.place_from-place.result c.index.result.now refl few c.index.ensures in
    c.remove.ensures.items ∙ taken_all c.args.at c.args.count _ ps c.place_from-place.result c.index.result.now place there refl (omega (arith, c.to-to.ensures))
