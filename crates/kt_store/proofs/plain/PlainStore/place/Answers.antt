-- An element's number is below the number of all elements.
use Rattle.std.proofs.Common.{◌≡◌, ◌<◌, ◌+◌, length, slice_index, refl, sym, subst, arith}
use Rattle.std.proofs.lemmas.Option.{slice_get_read, get_or_from_slice_get}
use Rattle.kt_prog.specs.Objects.{objects_of, width_of}
use Rattle.kt_prog.proofs.LastWriter.{place_below}
use Rattle.kt_store.specs.Stores.{StoreState}
use Rattle.kt_store.proofs.plain.PlainStore.place.Goals as goal

pub returns-clause-there : goal.returns-clause-there
returns-clause-there c =
    let f = c.self.inside in
    let families = f.program.now.families in
    let object : c.args.object < objects_of families =
    subst (λ (s : StoreState). c.args.object < objects_of s.program.families) (sym c.self.view_is) c.requires.object in
    let element : c.args.element < width_of families c.args.object =
    subst (λ (s : StoreState). c.args.element < width_of s.program.families c.args.object) (sym c.self.view_is) c.requires.element in
    let below = place_below families c.args.object c.args.element element in
    let first = c.self.invariant.firsts.each c.args.object object in
    let full = c.self.invariant.full in
    let count = c.self.invariant.firsts.count in
    let listed : c.args.object < length f.firsts.items = omega arith in
    let read = slice_get_read f.firsts.items (length f.firsts.items) c.args.object c.index.result.now refl listed c.index.ensures in
    let is : slice_index f.firsts.items c.args.object ≡ c.index.result.now =
    get_or_from_slice_get f.firsts.items c.args.object c.index.result.now 0 read in
    subst (λ (s : StoreState). c.index.result.now + c.args.element < length s.elements) c.self.view_is (omega arith)
