-- The loop has all its indexes, unless there is no memory.
use Rattle.std.proofs.Common.{◌≡◌, ◌<◌, ◌∙◌, ap, sym, refl, subst, length, Some, None, true, arith}
use Rattle.std.specs.List.{slice_get}
use Rattle.std.proofs.lemmas.Option.{slice_get_read}
use Rattle.kt_core.specs.Sound.{seen}
use Rattle.kt_core.specs.Steps.{Goes}
use Rattle.kt_tables.specs.Tables.{CoreState, TaskRow}
use Rattle.kt_tables.specs.TableEvents.{is_running, refusal}
use Rattle.kt_tables.specs.declared.events.Event.TheVariants as E
use Rattle.kt_core.proofs.Looping.{begin_refusal, begun_is, row_sound, running_stays}
use Rattle.kt_core.proofs.running.Core.begin.Goals as goal

pub invariant_of-self : goal.invariant_of-self
invariant_of-self c =
    let s = seen c.self.inside in
    let now = c.args.self.now in
    let t = c.args.task in
    let rows = c.self.inside.tasks.items in
    let same : length rows ≡ length now.table.tasks = ap (λ (s : CoreState). length s.table.tasks) c.self.view_is in
    let few : t < length rows = omega (arith, same, c.requires.there) in
    let r = c.index_mut.result.now in
    let at : slice_get rows t ≡ Some r = slice_get_read rows (length rows) t r refl few c.index_mut.ensures.value in
    let was : slice_get now.table.tasks t ≡ Some r = ap (λ (s : CoreState). slice_get s.table.tasks t) (sym c.self.view_is) ∙ at in
    let phase : is_running r.phase ≡ true = ap is_running (sym (c.phase-phase.ensures r was)) ∙ sym c.is_running.ensures ∙ c.if-not-is_running.false in
    let free : refusal (E.Begin t) now.table ≡ None = begin_refusal now t r was phase in
    let goes = subst (Goes (E.Begin t)) (sym c.self.view_is) (record { can = c.requires; free = free }) in
    row_sound c.events_keep_states_lawful.ensures s c.self.inside.links.items (E.Begin t) s.table.store t r c.begin.new.self at (begun_is s s t r c.begin.new.self refl at c.begin.ensures)
    (ap (λ (u : TaskRow). u.path) c.begin.ensures) (ap (λ (u : TaskRow). u.call) c.begin.ensures) (running_stays r.phase c.begin.new.self.phase phase) goes c.self.invariant

pub returns-in-Ok : goal.returns-in-Ok
returns-in-Ok c =
    let s = seen c.self.inside in
    let now = c.args.self.now in
    let t = c.args.task in
    let rows = c.self.inside.tasks.items in
    let same : length rows ≡ length now.table.tasks = ap (λ (s : CoreState). length s.table.tasks) c.self.view_is in
    let few : t < length rows = omega (arith, same, c.requires.there) in
    let r = c.index_mut.result.now in
    let at : slice_get rows t ≡ Some r = slice_get_read rows (length rows) t r refl few c.index_mut.ensures.value in
    let was : slice_get now.table.tasks t ≡ Some r = ap (λ (s : CoreState). slice_get s.table.tasks t) (sym c.self.view_is) ∙ at in
    let phase : is_running r.phase ≡ true = ap is_running (sym (c.phase-phase.ensures r was)) ∙ sym c.is_running.ensures ∙ c.if-not-is_running.false in
    let free : refusal (E.Begin t) now.table ≡ None = begin_refusal now t r was phase in
    record { reply = free; done = begun_is s now t r c.begin.new.self c.self.view_is at c.begin.ensures; same = tt }
