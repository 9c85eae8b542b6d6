-- The count goes on from what was known, and nothing else changes.
use Rattle.std.proofs.Common.{◌≡◌, ◌≤◌, ◌<◌, ◌∙◌, ap, sym, refl, subst, length, List, ℕ, arith}
use Rattle.std.specs.List.{All}
use Rattle.std.proofs.lemmas.Option.{slice_get_read}
use Rattle.kt_core.specs.Sound.{seen}
use Rattle.kt_tables.specs.Tables.{CoreState, TaskRow, is_child}
use Rattle.kt_core.specs.Links.{AreDone}
use Rattle.kt_core.proofs.Linking.{get_there, links_as_rows, children_by_links}
use Rattle.kt_core.proofs.Searches.{numbers_of_rows}
use Rattle.kt_core.proofs.Settling.{settled_anew}
use Rattle.kt_core.proofs.running.Core.settle_children.Goals as goal

pub count_settled-settled-requires-clause-there : goal.count_settled-settled-requires-clause-there
count_settled-settled-requires-clause-there c =
    let rows = c.self.inside.tasks.items in
    let links = c.self.inside.links.items in
    let size = links_as_rows rows links c.self.invariant.linked in
    let same : length rows ≡ length c.args.self.now.table.tasks = ap (λ (s : CoreState). length s.table.tasks) c.self.view_is in
    let there : c.args.task < length links = omega (arith, c.requires, same, size) in
    let l = slice_get_read links (length links) c.args.task c.index-link.result.now refl there c.index-link.ensures in
    let r = get_there rows c.args.task (omega (arith, there, size)) in
    let children = c.children.ensures ∙ children_by_links rows links c.self.invariant.linked c.args.task c.index-link.result.now l r.0 r.1 in
    subst (λ (n : ℕ). All (λ k. k < n) c.children.result.now) (ap length (sym c.as_slice.ensures.value))
    (subst (λ (numbers : List ℕ). All (λ k. k < length rows) numbers) (sym children) (numbers_of_rows (is_child r.0.path) rows))

pub count_settled-settled-requires-clause-within : goal.count_settled-settled-requires-clause-within
count_settled-settled-requires-clause-within c =
    let rows = c.self.inside.tasks.items in
    let links = c.self.inside.links.items in
    let size = links_as_rows rows links c.self.invariant.linked in
    let same : length rows ≡ length c.args.self.now.table.tasks = ap (λ (s : CoreState). length s.table.tasks) c.self.view_is in
    let there : c.args.task < length links = omega (arith, c.requires, same, size) in
    let l = slice_get_read links (length links) c.args.task c.index-link.result.now refl there c.index-link.ensures in
    let within = (c.self.invariant.settled c.args.task c.index-link.result.now l).within in
    subst (λ (n : ℕ). n ≤ length c.children.result.now) (sym c.settled.ensures)
    (subst (λ (numbers : List ℕ). c.index-link.result.now.settled ≤ length numbers) (sym c.children.ensures) within)

pub count_settled-settled-requires-clause-done : goal.count_settled-settled-requires-clause-done
count_settled-settled-requires-clause-done c =
    let rows = c.self.inside.tasks.items in
    let links = c.self.inside.links.items in
    let size = links_as_rows rows links c.self.invariant.linked in
    let same : length rows ≡ length c.args.self.now.table.tasks = ap (λ (s : CoreState). length s.table.tasks) c.self.view_is in
    let there : c.args.task < length links = omega (arith, c.requires, same, size) in
    let l = slice_get_read links (length links) c.args.task c.index-link.result.now refl there c.index-link.ensures in
    let done = (c.self.invariant.settled c.args.task c.index-link.result.now l).done in
    subst (λ (us : List TaskRow). AreDone us c.children.result.now c.settled.result) (sym c.as_slice.ensures.value)
    (subst (λ (n : ℕ). AreDone rows c.children.result.now n) (sym c.settled.ensures)
    (subst (λ (numbers : List ℕ). AreDone rows numbers c.index-link.result.now.settled) (sym c.children.ensures) done))

pub invariant_of-self : goal.invariant_of-self
invariant_of-self c =
    let rows = c.self.inside.tasks.items in
    let links = c.self.inside.links.items in
    let size = links_as_rows rows links c.self.invariant.linked in
    let same : length rows ≡ length c.args.self.now.table.tasks = ap (λ (s : CoreState). length s.table.tasks) c.self.view_is in
    let there : c.args.task < length links = omega (arith, c.requires, same, size) in
    let l = slice_get_read links (length links) c.args.task c.index-link.result.now refl there c.index-link.ensures in
    let again = slice_get_read links (length links) c.args.task c.index_mut.result.now refl there c.index_mut.ensures.value in
    settled_anew (seen c.self.inside) links c.args.task c.index-link.result.now c.index_mut.result.now c.set_settled.new.self c.count_settled-settled.result
    c.children.result.now c.as_slice.result.now l again c.children.ensures c.as_slice.ensures.value c.count_settled-settled.ensures.within
    c.count_settled-settled.ensures.done c.set_settled.ensures c.self.invariant
