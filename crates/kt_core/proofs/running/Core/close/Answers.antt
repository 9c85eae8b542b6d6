-- No child is open, and no index is left.
use Rattle.std.proofs.Common.{◌≡◌, ◌<◌, ◌∙◌, ap, sym, refl, subst, length, Some, None, true, arith}
use Rattle.std.specs.List.{slice_get}
use Rattle.std.proofs.lemmas.Option.{slice_get_read}
use Rattle.kt_tables.specs.Tables.{CoreState}
use Rattle.kt_tables.specs.TableEvents.{refusal}
use Rattle.kt_tables.specs.TableLaws.{IsLawfulState}
use Rattle.kt_tables.specs.declared.events.Event.TheVariants as E
use Rattle.kt_core.proofs.Rephasing.{finish_is, left_refusal, none_left}
use Rattle.kt_core.proofs.running.Core.close.Goals as goal

pub put_phase-requires-clause-lawful : goal.put_phase-requires-clause-lawful
put_phase-requires-clause-lawful c =
    let now = c.args.self.now in
    let t = c.args.task in
    let rows = c.self.inside.tasks.items in
    let same : length rows ≡ length now.table.tasks = ap (λ (s : CoreState). length s.table.tasks) c.self.view_is in
    let few : t < length rows = omega (arith, same, c.requires.can.there) in
    let r = c.index.result.now in
    let at : slice_get rows t ≡ Some r = slice_get_read rows (length rows) t r refl few c.index.ensures in
    let was : slice_get now.table.tasks t ≡ Some r = ap (λ (s : CoreState). slice_get s.table.tasks t) (sym c.self.view_is) ∙ at in
    let closed = c.requires.closed r was in
    let none = none_left r.loop.unretired (omega (arith, c.unretired-left.ensures, c.if-left-gt0.false)) in
    let free : refusal (E.Finish t) now.table ≡ None = left_refusal now t r true was closed.0 closed.1 none in
    subst IsLawfulState (sym (finish_is now t)) (c.events_keep_states_lawful.ensures (E.Finish t) now (record { can = c.requires.can; free = free }) c.is_lawful.ensures)

pub returns : goal.returns
returns c =
    let now = c.args.self.now in
    let t = c.args.task in
    let rows = c.self.inside.tasks.items in
    let same : length rows ≡ length now.table.tasks = ap (λ (s : CoreState). length s.table.tasks) c.self.view_is in
    let few : t < length rows = omega (arith, same, c.requires.can.there) in
    let r = c.index.result.now in
    let at : slice_get rows t ≡ Some r = slice_get_read rows (length rows) t r refl few c.index.ensures in
    let was : slice_get now.table.tasks t ≡ Some r = ap (λ (s : CoreState). slice_get s.table.tasks t) (sym c.self.view_is) ∙ at in
    let closed = c.requires.closed r was in
    let none = none_left r.loop.unretired (omega (arith, c.unretired-left.ensures, c.if-left-gt0.false)) in
    let free : refusal (E.Finish t) now.table ≡ None = left_refusal now t r true was closed.0 closed.1 none in
    record { reply = free; done = c.settle.ensures ∙ c.put_phase.ensures ∙ finish_is now t; same = tt }
