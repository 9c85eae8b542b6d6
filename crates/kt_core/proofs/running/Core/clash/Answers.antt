-- The search goes through the tasks of the frame.
use Rattle.std.proofs.Common.{◌≡◌, ◌<◌, ◌∙◌, ap, sym, subst, length, List, ℕ, Some, refl}
use Rattle.std.specs.List.{All, slice_get}
use Rattle.std.proofs.lemmas.Option.{slice_get_read, slice_get_within, same_Some}
use Rattle.kt_tables.specs.Tables.{CoreState, TaskRow}
use Rattle.kt_core.specs.Links.{first_below, is_in_the_way, siblings_of}
use Rattle.kt_prog.specs.Calls.{CallTree}
use Rattle.kt_core.proofs.Settling.{way_ends}
use Rattle.kt_core.proofs.Frames.{first_clash_before}
use Rattle.kt_core.proofs.running.Core.clash.Goals as goal

pub first_clash-requires : goal.first_clash-requires
first_clash-requires c =
    let tasks = c.args.self.now.table.tasks in
    let rows : c.as_slice.result.now ≡ tasks = c.as_slice.ensures.value ∙ ap (λ (s : CoreState). s.table.tasks) c.self.view_is in
    subst (λ (n : ℕ). All (λ k. k < n) c.siblings.result.now) (ap length (sym rows)) c.siblings.ensures.there

pub returns : goal.returns
returns c = λ r at.
    let tasks = c.args.self.now.table.tasks in
    let rows : c.as_slice.result.now ≡ tasks = c.as_slice.ensures.value ∙ ap (λ (s : CoreState). s.table.tasks) c.self.view_is in
    let within = slice_get_within tasks c.args.task r at in
    let here : slice_get c.self.inside.tasks.items c.args.task ≡ Some r = ap (λ (s : CoreState). slice_get s.table.tasks c.args.task) c.self.view_is ∙ at in
    let short = slice_get_within c.self.inside.tasks.items c.args.task r here in
    let read = slice_get_read c.self.inside.tasks.items (length c.self.inside.tasks.items) c.args.task c.index.result.now refl short c.index.ensures in
    let call : c.behind-self.inside.call ≡ r.call = ap (λ (u : TaskRow). u.call) (c.behind-self.view_is ∙ same_Some c.index.result.now r (sym read ∙ here)) in
    c.first_clash.ensures
    ∙ ap (λ (xs : List TaskRow). first_below c.args.task (is_in_the_way c.behind-self.inside.call) xs c.siblings.result.now) rows
    ∙ c.siblings.ensures.alike r at c.args.task (is_in_the_way c.behind-self.inside.call) (way_ends c.behind-self.inside.call)
    ∙ ap (λ (w : CallTree). first_below c.args.task (is_in_the_way w) tasks (siblings_of r tasks)) call
    ∙ first_clash_before c.args.task r tasks
