use Rattle.std.proofs.Common.{◌<◌, ◌∙◌, ap, sym, refl, length, arith}
use Rattle.std.specs.List.{slice_get}
use Rattle.std.proofs.lemmas.Bool.Decides.{nat_tests}
use Rattle.std.proofs.lemmas.Option.{slice_get_read}
use Rattle.kt_core.proofs.Cuts.{take_found, take_unfound}
use Rattle.kt_core.proofs.pieces.can_take.Goals as goal

pub returns-then-place-pieces : goal.returns-then-place-pieces
returns-then-place-pieces c =
    let ps = c.args.pieces.now in
    let place = c.place_from-place.ensures in
    let few : c.place_from-place.result < length ps = omega arith in
    let there = slice_get_read ps (length ps) c.place_from-place.result c.index-pieces-place.result refl few c.index-pieces-place.is in
    let found = take_found c.args.at c.args.count ps c.index-pieces-place.result (ap (slice_get ps) (sym place) ∙ there) in
    grind (arith, nat_tests, found, c.from.ensures, c.from-then-place-pieces.ensures, c.from-then-place-pieces-2.ensures, c.to.ensures)

pub returns-else-place-pieces : goal.returns-else-place-pieces
returns-else-place-pieces c =
    let ps = c.args.pieces.now in
    let place = c.place_from-place.ensures in
    let none = take_unfound c.args.at c.args.count ps (omega (arith, place)) in
    grind (arith, nat_tests, none)
