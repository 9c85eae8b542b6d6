-- A piece loses its first indexes, which are taken.
use Rattle.std.proofs.Common.{◌≡◌, ◌<◌, ◌∙◌, ap, sym, refl, subst, length, Some, None, true, arith}
use Rattle.std.specs.List.{slice_get}
use Rattle.std.proofs.lemmas.Option.{slice_get_read, same_Some}
use Rattle.kt_core.specs.Sound.{seen}
use Rattle.kt_core.specs.Steps.{Goes}
use Rattle.kt_tables.specs.Tables.{CoreState, TaskRow}
use Rattle.kt_tables.specs.TableEvents.{is_looping, refusal}
use Rattle.kt_tables.specs.declared.events.Event.TheVariants as E
use Rattle.kt_core.proofs.Looping.{looping_stays, row_sound, take_refusal, taken_is}
use Rattle.kt_tables.specs.LoopRows.{can_take}
use Rattle.kt_core.proofs.running.Core.take.Goals as goal

pub invariant_of-self : goal.invariant_of-self
invariant_of-self c =
    let s = seen c.self.inside in
    let now = c.args.self.now in
    let t = c.args.task in
    let rows = c.self.inside.tasks.items in
    let same : length rows ≡ length now.table.tasks = ap (λ (s : CoreState). length s.table.tasks) c.self.view_is in
    let few : t < length rows = omega (arith, same, c.requires.there) in
    let r = c.index_mut.result.now in
    let at : slice_get rows t ≡ Some r = slice_get_read rows (length rows) t r refl few c.index_mut.ensures.value in
    let was : slice_get now.table.tasks t ≡ Some r = ap (λ (s : CoreState). slice_get s.table.tasks t) (sym c.self.view_is) ∙ at in
    let read = slice_get_read rows (length rows) t c.index.result.now refl few c.index.ensures in
    let row : c.index.result.now ≡ r = same_Some c.index.result.now r (sym read ∙ at) in
    let phase : is_looping r.phase ≡ true = ap is_looping (sym (c.phase-phase.ensures r was)) ∙ sym c.is_looping.ensures ∙ c.if-not-is_looping.false in
    let can = sym c.can_take.ensures ∙ c.if-not-can_take.false in
    let free : refusal (E.Take t c.args.at c.args.count) now.table ≡ None = take_refusal now t r was c.args.at c.args.count true phase (omega arith) (ap (λ (u : TaskRow). can_take c.args.at c.args.count u.loop.pieces) (sym row) ∙ can) in
    let goes = subst (Goes (E.Take t c.args.at c.args.count)) (sym c.self.view_is) (record { can = c.requires; free = free }) in
    row_sound c.events_keep_states_lawful.ensures s c.self.inside.links.items (E.Take t c.args.at c.args.count) s.table.store t r c.take.new.self at (taken_is s s t c.args.at c.args.count r c.take.new.self refl at c.take.ensures)
    (ap (λ (u : TaskRow). u.path) c.take.ensures) (ap (λ (u : TaskRow). u.call) c.take.ensures) (looping_stays r.phase c.take.new.self.phase phase) goes c.self.invariant

pub returns : goal.returns
returns c =
    let s = seen c.self.inside in
    let now = c.args.self.now in
    let t = c.args.task in
    let rows = c.self.inside.tasks.items in
    let same : length rows ≡ length now.table.tasks = ap (λ (s : CoreState). length s.table.tasks) c.self.view_is in
    let few : t < length rows = omega (arith, same, c.requires.there) in
    let r = c.index_mut.result.now in
    let at : slice_get rows t ≡ Some r = slice_get_read rows (length rows) t r refl few c.index_mut.ensures.value in
    let was : slice_get now.table.tasks t ≡ Some r = ap (λ (s : CoreState). slice_get s.table.tasks t) (sym c.self.view_is) ∙ at in
    let read = slice_get_read rows (length rows) t c.index.result.now refl few c.index.ensures in
    let row : c.index.result.now ≡ r = same_Some c.index.result.now r (sym read ∙ at) in
    let phase : is_looping r.phase ≡ true = ap is_looping (sym (c.phase-phase.ensures r was)) ∙ sym c.is_looping.ensures ∙ c.if-not-is_looping.false in
    let can = sym c.can_take.ensures ∙ c.if-not-can_take.false in
    let free : refusal (E.Take t c.args.at c.args.count) now.table ≡ None = take_refusal now t r was c.args.at c.args.count true phase (omega arith) (ap (λ (u : TaskRow). can_take c.args.at c.args.count u.loop.pieces) (sym row) ∙ can) in
    record { reply = free; done = taken_is s now t c.args.at c.args.count r c.take.new.self c.self.view_is at c.take.ensures; same = tt }
