-- One row is in another phase.
use Rattle.std.proofs.Common.{◌≡◌, ◌∙◌, true, ap, sym, refl, subst, length, Some, arith}
use Rattle.std.specs.List.{slice_get}
use Rattle.std.proofs.lemmas.Option.{slice_get_read}
use Rattle.kt_core.specs.Sound.{seen}
use Rattle.kt_tables.specs.Tables.{CoreState, TaskRow, is_finished}
use Rattle.kt_tables.specs.TableLaws.{IsLawfulState}
use Rattle.kt_core.proofs.Changes.{changed_sound, rephased_is}
use Rattle.kt_core.proofs.running.Core.put_phase.Goals as goal

pub invariant_of-self : goal.invariant_of-self
invariant_of-self c =
    let rows = c.self.inside.tasks.items in
    let same : length rows ≡ length c.args.self.now.table.tasks = ap (λ (s : CoreState). length s.table.tasks) c.self.view_is in
    let r = c.index_mut.result.now in
    let at : slice_get rows c.args.task ≡ Some r = slice_get_read rows (length rows) c.args.task r refl (omega (arith, same, c.requires.there)) c.index_mut.ensures.value in
    let after = rephased_is (seen c.self.inside) c.args.self.now c.args.task c.args.phase r c.set_phase.new.self c.self.view_is at c.set_phase.ensures in
    let here : slice_get c.args.self.now.table.tasks c.args.task ≡ Some r = ap (λ (s : CoreState). slice_get s.table.tasks c.args.task) (sym c.self.view_is) ∙ at in
    let stays : is_finished r.phase ≡ true → is_finished c.set_phase.new.self.phase ≡ true =
    (λ h. ap (λ (u : TaskRow). is_finished u.phase) c.set_phase.ensures ∙ c.requires.stays r here h) in
    changed_sound (seen c.self.inside) c.self.inside.links.items c.self.inside.store.elements c.args.task r c.set_phase.new.self at
    (ap (λ (u : TaskRow). u.path) c.set_phase.ensures) (ap (λ (u : TaskRow). u.call) c.set_phase.ensures) stays c.self.invariant (subst IsLawfulState (sym after) c.requires.lawful)

pub returns : goal.returns
returns c =
    let rows = c.self.inside.tasks.items in
    let same : length rows ≡ length c.args.self.now.table.tasks = ap (λ (s : CoreState). length s.table.tasks) c.self.view_is in
    let r = c.index_mut.result.now in
    let at : slice_get rows c.args.task ≡ Some r = slice_get_read rows (length rows) c.args.task r refl (omega (arith, same, c.requires.there)) c.index_mut.ensures.value in
    rephased_is (seen c.self.inside) c.args.self.now c.args.task c.args.phase r c.set_phase.new.self c.self.view_is at c.set_phase.ensures
