-- The row has gone on, and the store has what the operation did.
use Rattle.std.proofs.Common.{◌≡◌, ap, sym, refl, subst, length, Some, arith}
use Rattle.std.specs.List.{slice_get}
use Rattle.std.proofs.lemmas.Option.{slice_get_read}
use Rattle.kt_core.specs.Sound.{seen}
use Rattle.kt_core.specs.Steps.{Goes}
use Rattle.kt_tables.specs.Tables.{CoreState}
use Rattle.kt_tables.specs.declared.events.Event.TheVariants as E
use Rattle.kt_core.proofs.Changes.{moved_is, moved_sound, on_element}
use Rattle.kt_core.proofs.running.Core.go_on.Goals as goal

pub act-requires : goal.act-requires
act-requires c =
    let rows = c.self.inside.tasks.items in
    let same : length rows ≡ length c.args.self.now.table.tasks = ap (λ (s : CoreState). length s.table.tasks) c.self.view_is in
    let r = c.index_mut.result.now in
    let at : slice_get rows c.args.task ≡ Some r = slice_get_read rows (length rows) c.args.task r refl (omega (arith, same, c.requires.goes.can.there)) c.index_mut.ensures.value in
    let goes = subst (Goes (E.Body c.args.task c.args.operation.now)) (sym c.self.view_is) c.requires.goes in
    on_element c.next_is_on_element.ensures (seen c.self.inside) c.self.inside.links.items c.args.task c.args.operation.now r c.self.invariant goes at

pub invariant_of-self : goal.invariant_of-self
invariant_of-self c =
    let rows = c.self.inside.tasks.items in
    let same : length rows ≡ length c.args.self.now.table.tasks = ap (λ (s : CoreState). length s.table.tasks) c.self.view_is in
    let r = c.index_mut.result.now in
    let at : slice_get rows c.args.task ≡ Some r = slice_get_read rows (length rows) c.args.task r refl (omega (arith, same, c.requires.goes.can.there)) c.index_mut.ensures.value in
    let goes = subst (Goes (E.Body c.args.task c.args.operation.now)) (sym c.self.view_is) c.requires.goes in
    moved_sound c.events_keep_states_lawful.ensures (seen c.self.inside) c.self.inside.links.items c.args.task c.args.operation.now r c.go_on.new.self c.act.new.store at
    c.requires.no_fork c.in-Ok.ensures.done c.act.ensures goes c.self.invariant

pub returns-in-Ok : goal.returns-in-Ok
returns-in-Ok c =
    let rows = c.self.inside.tasks.items in
    let same : length rows ≡ length c.args.self.now.table.tasks = ap (λ (s : CoreState). length s.table.tasks) c.self.view_is in
    let r = c.index_mut.result.now in
    let at : slice_get rows c.args.task ≡ Some r = slice_get_read rows (length rows) c.args.task r refl (omega (arith, same, c.requires.goes.can.there)) c.index_mut.ensures.value in
    record {
      reply = c.requires.goes.free;
      done = moved_is (seen c.self.inside) c.args.self.now c.args.task c.args.operation.now r c.go_on.new.self c.act.new.store c.self.view_is at c.requires.no_fork c.in-Ok.ensures.done c.act.ensures;
      same = tt;
    }
