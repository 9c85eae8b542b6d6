-- The search goes through the tasks of the frame.
use Rattle.std.proofs.Common.{◌≡◌, ◌<◌, ◌∙◌, ap, sym, subst, length, List, ℕ}
use Rattle.std.specs.List.{All}
use Rattle.kt_tables.specs.Tables.{CoreState, TaskRow, is_open}
use Rattle.kt_core.specs.Links.{first_below}
use Rattle.kt_core.proofs.Settling.{open_ends}
use Rattle.kt_core.proofs.Frames.{first_open_before}
use Rattle.kt_core.proofs.running.Core.earlier.Goals as goal

pub first_open-requires : goal.first_open-requires
first_open-requires c =
    let tasks = c.args.self.now.table.tasks in
    let rows : c.as_slice.result.now ≡ tasks = c.as_slice.ensures.value ∙ ap (λ (s : CoreState). s.table.tasks) c.self.view_is in
    subst (λ (n : ℕ). All (λ k. k < n) c.siblings.result.now) (ap length (sym rows)) c.siblings.ensures.there

pub returns : goal.returns
returns c = λ r at.
    let tasks = c.args.self.now.table.tasks in
    let rows : c.as_slice.result.now ≡ tasks = c.as_slice.ensures.value ∙ ap (λ (s : CoreState). s.table.tasks) c.self.view_is in
    c.first_open.ensures
    ∙ ap (λ (xs : List TaskRow). first_below c.args.task is_open xs c.siblings.result.now) rows
    ∙ c.siblings.ensures.alike r at c.args.task is_open open_ends
    ∙ first_open_before c.args.task r tasks
