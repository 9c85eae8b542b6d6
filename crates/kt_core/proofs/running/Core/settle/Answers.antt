-- The parent is a task.
use Rattle.std.proofs.Common.{◌≡◌, ◌<◌, ◌∙◌, ap, sym, refl, length, arith}
use Rattle.std.proofs.lemmas.Option.{slice_get_read}
use Rattle.kt_tables.specs.Tables.{CoreState}
use Rattle.kt_core.proofs.Linking.{links_as_rows, parent_within}
use Rattle.kt_core.proofs.running.Core.settle.Goals as goal

pub settle_children-requires : goal.settle_children-requires
settle_children-requires c =
    let rows = c.self.inside.tasks.items in
    let links = c.self.inside.links.items in
    let size = links_as_rows rows links c.self.invariant.linked in
    let same : length rows ≡ length c.args.self.now.table.tasks = ap (λ (s : CoreState). length s.table.tasks) c.self.view_is in
    let there : c.args.task < length links = omega (arith, c.requires, same, size) in
    let l = slice_get_read links (length links) c.args.task c.index.result.now refl there c.index.ensures in
    let short = parent_within rows links c.self.invariant.linked c.args.task c.in-Some.parent c.index.result.now l (sym c.parent.ensures ∙ c.in-Some.is) in
    omega (arith, short, same, size)
