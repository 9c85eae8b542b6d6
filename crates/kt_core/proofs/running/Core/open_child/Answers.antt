-- The search goes through the children.
use Rattle.std.proofs.Common.{◌≡◌, ◌<◌, ◌∙◌, ap, sym, refl, subst, length, List, ℕ, Some, arith}
use Rattle.std.specs.List.{All, slice_get}
use Rattle.std.proofs.lemmas.Option.{slice_get_read}
use Rattle.std.proofs.lemmas.List.Elements.{All-drop}
use Rattle.kt_tables.specs.Tables.{CoreState, TaskRow, is_child, is_open, open_child}
use Rattle.kt_core.specs.Links.{first_below}
use Rattle.kt_core.proofs.Linking.{get_there, links_as_rows, children_by_links}
use Rattle.kt_core.proofs.Searches.{numbers_of_rows}
use Rattle.kt_core.proofs.Settling.{left_finds, open_ends}
use Rattle.kt_core.proofs.Frames.{first_open_child}
use Rattle.kt_core.proofs.running.Core.open_child.Goals as goal

pub left-children-requires : goal.left-children-requires
left-children-requires c =
    let rows = c.self.inside.tasks.items in
    let links = c.self.inside.links.items in
    let size = links_as_rows rows links c.self.invariant.linked in
    let same : length rows ≡ length c.args.self.now.table.tasks = ap (λ (s : CoreState). length s.table.tasks) c.self.view_is in
    let there : c.args.task < length links = omega (arith, c.requires, same, size) in
    let l = slice_get_read links (length links) c.args.task c.index.result.now refl there c.index.ensures in
    (c.self.invariant.settled c.args.task c.index.result.now l).within

pub first_open-requires : goal.first_open-requires
first_open-requires c =
    let rows = c.self.inside.tasks.items in
    let links = c.self.inside.links.items in
    let size = links_as_rows rows links c.self.invariant.linked in
    let same : length rows ≡ length c.args.self.now.table.tasks = ap (λ (s : CoreState). length s.table.tasks) c.self.view_is in
    let there : c.args.task < length links = omega (arith, c.requires, same, size) in
    let l = slice_get_read links (length links) c.args.task c.index.result.now refl there c.index.ensures in
    let r = get_there rows c.args.task (omega (arith, there, size)) in
    let children = children_by_links rows links c.self.invariant.linked c.args.task c.index.result.now l r.0 r.1 in
    let all = subst (λ (numbers : List ℕ). All (λ k. k < length rows) numbers) (sym children) (numbers_of_rows (is_child r.0.path) rows) in
    subst (λ (n : ℕ). All (λ k. k < n) c.left-children.result.now) (ap length (sym c.as_slice.ensures.value))
    (subst (λ (numbers : List ℕ). All (λ k. k < length rows) numbers) (sym c.left-children.ensures)
    (All-drop (λ k. k < length rows) c.index.result.now.settled c.index.result.now.children all))

pub returns : goal.returns
returns c =
    let rows = c.self.inside.tasks.items in
    let links = c.self.inside.links.items in
    let size = links_as_rows rows links c.self.invariant.linked in
    let same : length rows ≡ length c.args.self.now.table.tasks = ap (λ (s : CoreState). length s.table.tasks) c.self.view_is in
    let there : c.args.task < length links = omega (arith, c.requires, same, size) in
    let l = slice_get_read links (length links) c.args.task c.index.result.now refl there c.index.ensures in
    subst (λ (s : CoreState). (r : TaskRow) → slice_get s.table.tasks c.args.task ≡ Some r → c.first_open.result ≡ open_child r s.table.tasks) c.self.view_is
    (λ r at.
    let children = children_by_links rows links c.self.invariant.linked c.args.task c.index.result.now l r at in
    c.first_open.ensures
    ∙ ap (λ (n : ℕ). first_below n is_open c.as_slice.result.now c.left-children.result.now) (c.tasks.ensures ∙ sym same)
    ∙ ap (λ (xs : List TaskRow). first_below (length rows) is_open xs c.left-children.result.now) c.as_slice.ensures.value
    ∙ ap (first_below (length rows) is_open rows) c.left-children.ensures
    ∙ left_finds (is_child r.path) rows c.index.result.now children (c.self.invariant.settled c.args.task c.index.result.now l) (length rows) is_open open_ends
    ∙ first_open_child r rows)
