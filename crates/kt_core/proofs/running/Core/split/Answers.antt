-- A piece is cut in two, unless there is no memory.
use Rattle.std.proofs.Common.{◌≡◌, ◌<◌, ◌∙◌, ap, sym, refl, subst, length, Some, None, true, arith}
use Rattle.std.specs.List.{slice_get}
use Rattle.std.proofs.lemmas.Option.{slice_get_read, same_Some}
use Rattle.kt_core.specs.Sound.{seen}
use Rattle.kt_core.specs.Steps.{Goes}
use Rattle.kt_tables.specs.Tables.{CoreState, TaskRow}
use Rattle.kt_tables.specs.TableEvents.{is_looping, refusal}
use Rattle.kt_tables.specs.declared.events.Event.TheVariants as E
use Rattle.kt_tables.specs.LoopRows.{has_inside}
use Rattle.kt_core.proofs.Looping.{kept_is, looping_stays, row_sound, split_is, split_refusal}
use Rattle.kt_core.proofs.running.Core.split.Goals as goal

pub invariant_of-self-2 : goal.invariant_of-self-2
invariant_of-self-2 c =
    let s = seen c.self.inside in
    let now = c.args.self.now in
    let t = c.args.task in
    let rows = c.self.inside.tasks.items in
    let same : length rows ≡ length now.table.tasks = ap (λ (s : CoreState). length s.table.tasks) c.self.view_is in
    let few : t < length rows = omega (arith, same, c.requires.there) in
    let r = c.index_mut.result.now in
    let at : slice_get rows t ≡ Some r = slice_get_read rows (length rows) t r refl few c.index_mut.ensures.value in
    let was : slice_get now.table.tasks t ≡ Some r = ap (λ (s : CoreState). slice_get s.table.tasks t) (sym c.self.view_is) ∙ at in
    let phase : is_looping r.phase ≡ true = ap is_looping (sym (c.phase-phase.ensures r was)) ∙ sym c.is_looping.ensures ∙ c.if-not-is_looping.false in
    let read = slice_get_read rows (length rows) t c.index.result.now refl few c.index.ensures in
    let row : c.index.result.now ≡ r = same_Some c.index.result.now r (sym read ∙ at) in
    let can = sym c.has_inside.ensures ∙ c.if-not-has_inside.false in
    let free : refusal (E.Split t c.args.at) now.table ≡ None = split_refusal now t r was c.args.at true phase (ap (λ (u : TaskRow). has_inside c.args.at u.loop.pieces) (sym row) ∙ can) in
    let goes = subst (Goes (E.Split t c.args.at)) (sym c.self.view_is) (record { can = c.requires; free = free }) in
    row_sound c.events_keep_states_lawful.ensures s c.self.inside.links.items (E.Split t c.args.at) s.table.store t r c.split.new.self at (split_is s s t c.args.at r c.split.new.self refl at c.in-Ok.ensures.done)
    (ap (λ (u : TaskRow). u.path) c.in-Ok.ensures.done) (ap (λ (u : TaskRow). u.call) c.in-Ok.ensures.done) (looping_stays r.phase c.split.new.self.phase phase) goes c.self.invariant

pub returns-in-Err : goal.returns-in-Err
returns-in-Err c =
    let s = seen c.self.inside in
    let now = c.args.self.now in
    let t = c.args.task in
    let rows = c.self.inside.tasks.items in
    let same : length rows ≡ length now.table.tasks = ap (λ (s : CoreState). length s.table.tasks) c.self.view_is in
    let few : t < length rows = omega (arith, same, c.requires.there) in
    let r = c.index_mut.result.now in
    let at : slice_get rows t ≡ Some r = slice_get_read rows (length rows) t r refl few c.index_mut.ensures.value in
    let was : slice_get now.table.tasks t ≡ Some r = ap (λ (s : CoreState). slice_get s.table.tasks t) (sym c.self.view_is) ∙ at in
    let phase : is_looping r.phase ≡ true = ap is_looping (sym (c.phase-phase.ensures r was)) ∙ sym c.is_looping.ensures ∙ c.if-not-is_looping.false in
    let read = slice_get_read rows (length rows) t c.index.result.now refl few c.index.ensures in
    let row : c.index.result.now ≡ r = same_Some c.index.result.now r (sym read ∙ at) in
    let can = sym c.has_inside.ensures ∙ c.if-not-has_inside.false in
    let free : refusal (E.Split t c.args.at) now.table ≡ None = split_refusal now t r was c.args.at true phase (ap (λ (u : TaskRow). has_inside c.args.at u.loop.pieces) (sym row) ∙ can) in
    record { reply = free; done = tt; same = kept_is s now t r c.split.new.self c.self.view_is at c.in-Err.ensures.same }

pub returns : goal.returns
returns c =
    let s = seen c.self.inside in
    let now = c.args.self.now in
    let t = c.args.task in
    let rows = c.self.inside.tasks.items in
    let same : length rows ≡ length now.table.tasks = ap (λ (s : CoreState). length s.table.tasks) c.self.view_is in
    let few : t < length rows = omega (arith, same, c.requires.there) in
    let r = c.index_mut.result.now in
    let at : slice_get rows t ≡ Some r = slice_get_read rows (length rows) t r refl few c.index_mut.ensures.value in
    let was : slice_get now.table.tasks t ≡ Some r = ap (λ (s : CoreState). slice_get s.table.tasks t) (sym c.self.view_is) ∙ at in
    let phase : is_looping r.phase ≡ true = ap is_looping (sym (c.phase-phase.ensures r was)) ∙ sym c.is_looping.ensures ∙ c.if-not-is_looping.false in
    let read = slice_get_read rows (length rows) t c.index.result.now refl few c.index.ensures in
    let row : c.index.result.now ≡ r = same_Some c.index.result.now r (sym read ∙ at) in
    let can = sym c.has_inside.ensures ∙ c.if-not-has_inside.false in
    let free : refusal (E.Split t c.args.at) now.table ≡ None = split_refusal now t r was c.args.at true phase (ap (λ (u : TaskRow). has_inside c.args.at u.loop.pieces) (sym row) ∙ can) in
    record { reply = free; done = split_is s now t c.args.at r c.split.new.self c.self.view_is at c.in-Ok.ensures.done; same = tt }
