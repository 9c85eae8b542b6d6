-- The siblings are the children of the parent, and main has none.
use Rattle.std.proofs.Common.{◌≡◌, ◌<◌, ◌∙◌, ap, sym, refl, subst, length, ℕ, List, Some, arith, []}
use Rattle.std.specs.List.{slice_get}
use Rattle.std.proofs.lemmas.Option.{slice_get_read}
use Rattle.kt_tables.specs.Tables.{CoreState, TaskRow, are_siblings}
use Rattle.kt_core.specs.Links.{FindsAlike, first_below, siblings_of}
use Rattle.kt_core.proofs.Linking.{get_there, links_as_rows, parent_within, siblings_by_parent, siblings_of_root}
use Rattle.kt_core.proofs.Settling.{left_finds, left_there}
use Rattle.kt_core.proofs.Frames.{siblings_there}
use Rattle.kt_core.proofs.running.Core.siblings.Goals as goal

pub index-requires-in-Some : goal.index-requires-in-Some
index-requires-in-Some c =
    let rows = c.self.inside.tasks.items in
    let links = c.self.inside.links.items in
    let size = links_as_rows rows links c.self.invariant.linked in
    let same : length rows ≡ length c.args.self.now.table.tasks = ap (λ (s : CoreState). length s.table.tasks) c.self.view_is in
    let there : c.args.task < length links = omega (arith, c.requires, same, size) in
    let l = slice_get_read links (length links) c.args.task c.index.result.now refl there c.index.ensures in
    let short = parent_within rows links c.self.invariant.linked c.args.task c.in-Some.parent c.index.result.now l (sym c.parent.ensures ∙ c.in-Some.is) in
    omega (arith, short, c.self.inside.links.ok.0)

pub left-requires : goal.left-requires
left-requires c =
    let rows = c.self.inside.tasks.items in
    let links = c.self.inside.links.items in
    let size = links_as_rows rows links c.self.invariant.linked in
    let same : length rows ≡ length c.args.self.now.table.tasks = ap (λ (s : CoreState). length s.table.tasks) c.self.view_is in
    let there : c.args.task < length links = omega (arith, c.requires, same, size) in
    let l = slice_get_read links (length links) c.args.task c.index.result.now refl there c.index.ensures in
    let short = parent_within rows links c.self.invariant.linked c.args.task c.in-Some.parent c.index.result.now l (sym c.parent.ensures ∙ c.in-Some.is) in
    let above = slice_get_read links (length links) c.in-Some.parent c.index-in-Some.result.now refl short c.index-in-Some.ensures in
    (c.self.invariant.settled c.in-Some.parent c.index-in-Some.result.now above).within

pub returns-in-Some-clause-there : goal.returns-in-Some-clause-there
returns-in-Some-clause-there c =
    let rows = c.self.inside.tasks.items in
    let links = c.self.inside.links.items in
    let size = links_as_rows rows links c.self.invariant.linked in
    let same : length rows ≡ length c.args.self.now.table.tasks = ap (λ (s : CoreState). length s.table.tasks) c.self.view_is in
    let there : c.args.task < length links = omega (arith, c.requires, same, size) in
    let l = slice_get_read links (length links) c.args.task c.index.result.now refl there c.index.ensures in
    let parent = sym c.parent.ensures ∙ c.in-Some.is in
    let short = parent_within rows links c.self.invariant.linked c.args.task c.in-Some.parent c.index.result.now l parent in
    let above = slice_get_read links (length links) c.in-Some.parent c.index-in-Some.result.now refl short c.index-in-Some.ensures in
    let r = get_there rows c.args.task (omega (arith, there, size)) in
    let all = siblings_by_parent rows links c.self.invariant.linked c.args.task c.in-Some.parent c.index.result.now c.index-in-Some.result.now l parent above r.0 r.1 in
    left_there rows c.index-in-Some.result.now (siblings_of r.0 rows) c.left.result.now (length c.args.self.now.table.tasks) all c.left.ensures same (siblings_there r.0 rows)

pub returns-in-Some-clause-alike : goal.returns-in-Some-clause-alike
returns-in-Some-clause-alike c =
    let rows = c.self.inside.tasks.items in
    let links = c.self.inside.links.items in
    let size = links_as_rows rows links c.self.invariant.linked in
    let same : length rows ≡ length c.args.self.now.table.tasks = ap (λ (s : CoreState). length s.table.tasks) c.self.view_is in
    let there : c.args.task < length links = omega (arith, c.requires, same, size) in
    let l = slice_get_read links (length links) c.args.task c.index.result.now refl there c.index.ensures in
    let parent = sym c.parent.ensures ∙ c.in-Some.is in
    let short = parent_within rows links c.self.invariant.linked c.args.task c.in-Some.parent c.index.result.now l parent in
    let above = slice_get_read links (length links) c.in-Some.parent c.index-in-Some.result.now refl short c.index-in-Some.ensures in
    let settled = c.self.invariant.settled c.in-Some.parent c.index-in-Some.result.now above in
    subst (λ (s : CoreState). (r : TaskRow) → slice_get s.table.tasks c.args.task ≡ Some r → FindsAlike s.table.tasks c.left.result.now (siblings_of r s.table.tasks))
    c.self.view_is
    (λ r at.
    let all = siblings_by_parent rows links c.self.invariant.linked c.args.task c.in-Some.parent c.index.result.now c.index-in-Some.result.now l parent above r at in
    subst (λ (numbers : List ℕ). FindsAlike rows numbers (siblings_of r rows)) (sym c.left.ensures)
    (left_finds (λ path. are_siblings path r.path) rows c.index-in-Some.result.now all settled))

pub returns-in-None-clause-alike : goal.returns-in-None-clause-alike
returns-in-None-clause-alike c =
    let rows = c.self.inside.tasks.items in
    let links = c.self.inside.links.items in
    let size = links_as_rows rows links c.self.invariant.linked in
    let same : length rows ≡ length c.args.self.now.table.tasks = ap (λ (s : CoreState). length s.table.tasks) c.self.view_is in
    let there : c.args.task < length links = omega (arith, c.requires, same, size) in
    let l = slice_get_read links (length links) c.args.task c.index.result.now refl there c.index.ensures in
    subst (λ (s : CoreState). (r : TaskRow) → slice_get s.table.tasks c.args.task ≡ Some r → FindsAlike s.table.tasks [] (siblings_of r s.table.tasks)) c.self.view_is
    (λ r at.
    let none = siblings_of_root rows links c.self.invariant.linked c.args.task c.index.result.now l (sym c.parent.ensures ∙ c.in-None.is) r at in
    λ bound test closed. ap (first_below bound test rows) none)
