-- The index has gone on, and the store has what the operation did.
use Rattle.std.proofs.Common.{◌≡◌, ◌<◌, ◌∙◌, ap, sym, refl, subst, length, Some, None, true, arith}
use Rattle.std.specs.List.{slice_get}
use Rattle.std.proofs.lemmas.Option.{slice_get_read, same_Some}
use Rattle.kt_core.specs.Sound.{seen}
use Rattle.kt_core.specs.Steps.{Goes}
use Rattle.kt_tables.specs.Tables.{CoreState, TaskRow}
use Rattle.kt_tables.specs.TableEvents.{is_looping, refusal}
use Rattle.kt_tables.specs.declared.events.Event.TheVariants as E
use Rattle.kt_tables.specs.LoopRows.{is_under_way}
use Rattle.kt_core.proofs.Looping.{index_on_element, index_refusal, indexed_is, indexed_sound, kept_is}
use Rattle.kt_core.proofs.running.Core.index.Goals as goal

pub act-requires : goal.act-requires
act-requires c =
    let s = seen c.self.inside in
    let now = c.args.self.now in
    let t = c.args.task in
    let rows = c.self.inside.tasks.items in
    let same : length rows ≡ length now.table.tasks = ap (λ (s : CoreState). length s.table.tasks) c.self.view_is in
    let few : t < length rows = omega (arith, same, c.requires.there) in
    let r = c.index_mut.result.now in
    let at : slice_get rows t ≡ Some r = slice_get_read rows (length rows) t r refl few c.index_mut.ensures.value in
    let was : slice_get now.table.tasks t ≡ Some r = ap (λ (s : CoreState). slice_get s.table.tasks t) (sym c.self.view_is) ∙ at in
    let phase : is_looping r.phase ≡ true = ap is_looping (sym (c.phase-phase.ensures r was)) ∙ sym c.is_looping.ensures ∙ c.if-not-is_looping.false in
    let read = slice_get_read rows (length rows) t c.index.result.now refl few c.index.ensures in
    let row : c.index.result.now ≡ r = same_Some c.index.result.now r (sym read ∙ at) in
    let under = ap (λ (u : TaskRow). is_under_way (slice_get u.loop.indexes c.args.index)) (sym row) ∙ sym c.is_under_way.ensures ∙ c.if-not-is_under_way.false in
    let free : refusal (E.Index t c.args.index c.args.operation.now) now.table ≡ None = index_refusal now t r was c.args.index c.args.operation.now true phase under in
    let goes = subst (Goes (E.Index t c.args.index c.args.operation.now)) (sym c.self.view_is) (record { can = c.requires; free = free }) in
    index_on_element c.next_is_on_element.ensures s c.self.inside.links.items t c.args.index c.args.operation.now r c.self.invariant goes at phase under

pub invariant_of-self : goal.invariant_of-self
invariant_of-self c =
    let s = seen c.self.inside in
    let now = c.args.self.now in
    let t = c.args.task in
    let rows = c.self.inside.tasks.items in
    let same : length rows ≡ length now.table.tasks = ap (λ (s : CoreState). length s.table.tasks) c.self.view_is in
    let few : t < length rows = omega (arith, same, c.requires.there) in
    let r = c.index_mut.result.now in
    let at : slice_get rows t ≡ Some r = slice_get_read rows (length rows) t r refl few c.index_mut.ensures.value in
    let was : slice_get now.table.tasks t ≡ Some r = ap (λ (s : CoreState). slice_get s.table.tasks t) (sym c.self.view_is) ∙ at in
    let phase : is_looping r.phase ≡ true = ap is_looping (sym (c.phase-phase.ensures r was)) ∙ sym c.is_looping.ensures ∙ c.if-not-is_looping.false in
    let read = slice_get_read rows (length rows) t c.index.result.now refl few c.index.ensures in
    let row : c.index.result.now ≡ r = same_Some c.index.result.now r (sym read ∙ at) in
    let under = ap (λ (u : TaskRow). is_under_way (slice_get u.loop.indexes c.args.index)) (sym row) ∙ sym c.is_under_way.ensures ∙ c.if-not-is_under_way.false in
    let free : refusal (E.Index t c.args.index c.args.operation.now) now.table ≡ None = index_refusal now t r was c.args.index c.args.operation.now true phase under in
    let goes = subst (Goes (E.Index t c.args.index c.args.operation.now)) (sym c.self.view_is) (record { can = c.requires; free = free }) in
    indexed_sound c.events_keep_states_lawful.ensures s c.self.inside.links.items t c.args.index c.args.operation.now r c.go_on_index.new.self c.act.new.store at
    c.in-Ok.ensures.done c.act.ensures phase goes c.self.invariant

pub returns-in-Ok : goal.returns-in-Ok
returns-in-Ok c =
    let s = seen c.self.inside in
    let now = c.args.self.now in
    let t = c.args.task in
    let rows = c.self.inside.tasks.items in
    let same : length rows ≡ length now.table.tasks = ap (λ (s : CoreState). length s.table.tasks) c.self.view_is in
    let few : t < length rows = omega (arith, same, c.requires.there) in
    let r = c.index_mut.result.now in
    let at : slice_get rows t ≡ Some r = slice_get_read rows (length rows) t r refl few c.index_mut.ensures.value in
    let was : slice_get now.table.tasks t ≡ Some r = ap (λ (s : CoreState). slice_get s.table.tasks t) (sym c.self.view_is) ∙ at in
    let phase : is_looping r.phase ≡ true = ap is_looping (sym (c.phase-phase.ensures r was)) ∙ sym c.is_looping.ensures ∙ c.if-not-is_looping.false in
    let read = slice_get_read rows (length rows) t c.index.result.now refl few c.index.ensures in
    let row : c.index.result.now ≡ r = same_Some c.index.result.now r (sym read ∙ at) in
    let under = ap (λ (u : TaskRow). is_under_way (slice_get u.loop.indexes c.args.index)) (sym row) ∙ sym c.is_under_way.ensures ∙ c.if-not-is_under_way.false in
    let free : refusal (E.Index t c.args.index c.args.operation.now) now.table ≡ None = index_refusal now t r was c.args.index c.args.operation.now true phase under in
    record { reply = free; done = indexed_is s now t c.args.index c.args.operation.now r c.go_on_index.new.self c.act.new.store c.self.view_is at c.in-Ok.ensures.done c.act.ensures; same = tt }

pub returns-in-Err : goal.returns-in-Err
returns-in-Err c =
    let s = seen c.self.inside in
    let now = c.args.self.now in
    let t = c.args.task in
    let rows = c.self.inside.tasks.items in
    let same : length rows ≡ length now.table.tasks = ap (λ (s : CoreState). length s.table.tasks) c.self.view_is in
    let few : t < length rows = omega (arith, same, c.requires.there) in
    let r = c.index_mut.result.now in
    let at : slice_get rows t ≡ Some r = slice_get_read rows (length rows) t r refl few c.index_mut.ensures.value in
    let was : slice_get now.table.tasks t ≡ Some r = ap (λ (s : CoreState). slice_get s.table.tasks t) (sym c.self.view_is) ∙ at in
    let phase : is_looping r.phase ≡ true = ap is_looping (sym (c.phase-phase.ensures r was)) ∙ sym c.is_looping.ensures ∙ c.if-not-is_looping.false in
    let read = slice_get_read rows (length rows) t c.index.result.now refl few c.index.ensures in
    let row : c.index.result.now ≡ r = same_Some c.index.result.now r (sym read ∙ at) in
    let under = ap (λ (u : TaskRow). is_under_way (slice_get u.loop.indexes c.args.index)) (sym row) ∙ sym c.is_under_way.ensures ∙ c.if-not-is_under_way.false in
    let free : refusal (E.Index t c.args.index c.args.operation.now) now.table ≡ None = index_refusal now t r was c.args.index c.args.operation.now true phase under in
    record { reply = free; done = tt; same = kept_is s now t r c.go_on_index.new.self c.self.view_is at c.in-Err.ensures.same }
