-- A task more, its number with its parent, and the parent gone on.
use Rattle.std.proofs.Common.{◌≡◌, ◌<◌, ◌∙◌, ap, sym, refl, subst, length, List, [], ◌∷◌, ◌++◌, Some, arith}
use Rattle.std.specs.List.{slice_get}
use Rattle.std.proofs.lemmas.Option.{slice_get_read, slice_get_within, same_Some}
use Rattle.kt_prog.specs.declared.runs.Operation.TheVariants as O
use Rattle.kt_core.specs.Sound.{seen}
use Rattle.kt_core.specs.Steps.{Goes}
use Rattle.kt_tables.specs.Tables.{CoreState, TaskRow}
use Rattle.kt_tables.specs.TableEvents.{went_on}
use Rattle.kt_tables.specs.declared.events.Event.TheVariants as E
use Rattle.kt_core.proofs.Changes.{child_is, few_children, grown_is, grown_sound, path_short}
use Rattle.kt_core.proofs.Linking.{children_by_links, get_front, links_as_rows}
use Rattle.kt_core.proofs.running.Core.fork.Goals as goal

pub overflow_cast-number : goal.overflow_cast-number
overflow_cast-number c =
    let s = seen c.self.inside in
    let rows = c.self.inside.tasks.items in
    let links = c.self.inside.links.items in
    let same : length rows ≡ length c.args.self.now.table.tasks = ap (λ (s : CoreState). length s.table.tasks) c.self.view_is in
    let r = c.index.result.now in
    let at : slice_get rows c.args.task ≡ Some r = slice_get_read rows (length rows) c.args.task r refl (omega (arith, same, c.requires.can.there)) c.index.ensures in
    let size = links_as_rows rows links c.self.invariant.linked in
    let l = slice_get_read links (length links) c.args.task c.index-2.result.now refl (omega (arith, same, size, c.requires.can.there)) c.index-2.ensures in
    let children = c.children.ensures ∙ children_by_links rows links c.self.invariant.linked c.args.task c.index-2.result.now l r at in
    let goes = subst (Goes (E.Body c.args.task (O.Fork c.args.call.now))) (sym c.self.view_is) c.requires in
    let few = few_children s c.args.task c.args.call.now r c.children.result.now goes at children in
    omega (arith, few)

pub overflow_add-number : goal.overflow_add-number
overflow_add-number c =
    let s = seen c.self.inside in
    let rows = c.self.inside.tasks.items in
    let links = c.self.inside.links.items in
    let same : length rows ≡ length c.args.self.now.table.tasks = ap (λ (s : CoreState). length s.table.tasks) c.self.view_is in
    let r = c.index.result.now in
    let at : slice_get rows c.args.task ≡ Some r = slice_get_read rows (length rows) c.args.task r refl (omega (arith, same, c.requires.can.there)) c.index.ensures in
    let size = links_as_rows rows links c.self.invariant.linked in
    let l = slice_get_read links (length links) c.args.task c.index-2.result.now refl (omega (arith, same, size, c.requires.can.there)) c.index-2.ensures in
    let children = c.children.ensures ∙ children_by_links rows links c.self.invariant.linked c.args.task c.index-2.result.now l r at in
    let goes = subst (Goes (E.Body c.args.task (O.Fork c.args.call.now))) (sym c.self.view_is) c.requires in
    let few = few_children s c.args.task c.args.call.now r c.children.result.now goes at children in
    omega (arith, few)

pub child_path-path-requires : goal.child_path-path-requires
child_path-path-requires c =
    let s = seen c.self.inside in
    let rows = c.self.inside.tasks.items in
    let same : length rows ≡ length c.args.self.now.table.tasks = ap (λ (s : CoreState). length s.table.tasks) c.self.view_is in
    let r = c.index-3.result.now in
    let at : slice_get rows c.args.task ≡ Some r = slice_get_read rows (length rows) c.args.task r refl (omega (arith, same, c.requires.can.there)) c.index-3.ensures in
    let goes = subst (Goes (E.Body c.args.task (O.Fork c.args.call.now))) (sym c.self.view_is) c.requires in
    path_short c.next_is_rightful.ensures s c.self.inside.links.items c.args.task c.args.call.now r c.self.invariant goes at

pub count-requires : goal.count-requires
count-requires c =
    let rows = c.self.inside.tasks.items in
    let same : length rows ≡ length c.args.self.now.table.tasks = ap (λ (s : CoreState). length s.table.tasks) c.self.view_is in
    let within : c.args.task < length rows = omega (arith, same, c.requires.can.there) in
    let r = c.index.result.now in
    let at : slice_get rows c.args.task ≡ Some r = slice_get_read rows (length rows) c.args.task r refl within c.index.ensures in
    let more = c.add_child.new.tasks.items in
    let is : more ≡ rows ++ c.new-row.result ∷ [] = c.in-Ok.ensures.tasks in
    let front : slice_get more c.args.task ≡ Some r = ap (λ (xs : List TaskRow). slice_get xs c.args.task) is ∙ get_front rows (c.new-row.result ∷ []) c.args.task within ∙ at in
    let short = slice_get_within more c.args.task r front in
    let again = slice_get_read more (length more) c.args.task c.index_mut.result.now refl short c.index_mut.ensures.value in
    let is_r : c.index_mut.result.now ≡ r = same_Some c.index_mut.result.now r (sym again ∙ front) in
    subst (λ (u : TaskRow). u.done < 18446744073709551615) (sym is_r) (c.can_go_on.ensures.0 c.if-not-can_go_on.false)

pub invariant_of-self : goal.invariant_of-self
invariant_of-self c =
    let s = seen c.self.inside in
    let rows = c.self.inside.tasks.items in
    let links = c.self.inside.links.items in
    let same : length rows ≡ length c.args.self.now.table.tasks = ap (λ (s : CoreState). length s.table.tasks) c.self.view_is in
    let within : c.args.task < length rows = omega (arith, same, c.requires.can.there) in
    let r = c.index.result.now in
    let at : slice_get rows c.args.task ≡ Some r = slice_get_read rows (length rows) c.args.task r refl within c.index.ensures in
    let at3 = slice_get_read rows (length rows) c.args.task c.index-3.result.now refl within c.index-3.ensures in
    let is_3 : c.index-3.result.now ≡ r = same_Some c.index-3.result.now r (sym at3 ∙ at) in
    let size = links_as_rows rows links c.self.invariant.linked in
    let l = slice_get_read links (length links) c.args.task c.index-2.result.now refl (omega (arith, within, size)) c.index-2.ensures in
    let children = c.children.ensures ∙ children_by_links rows links c.self.invariant.linked c.args.task c.index-2.result.now l r at in
    let goes = subst (Goes (E.Body c.args.task (O.Fork c.args.call.now))) (sym c.self.view_is) c.requires in
    let more = c.add_child.new.tasks.items in
    let is : more ≡ rows ++ c.new-row.result ∷ [] = c.in-Ok.ensures.tasks in
    let front : slice_get more c.args.task ≡ Some r = ap (λ (xs : List TaskRow). slice_get xs c.args.task) is ∙ get_front rows (c.new-row.result ∷ []) c.args.task within ∙ at in
    let short = slice_get_within more c.args.task r front in
    let again = slice_get_read more (length more) c.args.task c.index_mut.result.now refl short c.index_mut.ensures.value in
    let is_r : c.index_mut.result.now ≡ r = same_Some c.index_mut.result.now r (sym again ∙ front) in
    let counted = c.count.ensures ∙ ap (went_on []) is_r in
    let child = child_is s r c.index-3.result.now c.new-row.result c.children.result.now c.child_path-path.result.items c.copied.result c.args.call.now is_3 children c.child_path-path.ensures c.copied.ensures c.new-row.ensures in
    grown_sound c.events_keep_states_lawful.ensures c.next_is_rightful.ensures s more links c.add_child.new.links.items c.args.task c.args.call.now r c.count.new.self
    c.new-row.result is c.in-Ok.ensures.links at counted child goes c.self.invariant

pub returns-in-Ok : goal.returns-in-Ok
returns-in-Ok c =
    let s = seen c.self.inside in
    let rows = c.self.inside.tasks.items in
    let links = c.self.inside.links.items in
    let same : length rows ≡ length c.args.self.now.table.tasks = ap (λ (s : CoreState). length s.table.tasks) c.self.view_is in
    let within : c.args.task < length rows = omega (arith, same, c.requires.can.there) in
    let r = c.index.result.now in
    let at : slice_get rows c.args.task ≡ Some r = slice_get_read rows (length rows) c.args.task r refl within c.index.ensures in
    let at3 = slice_get_read rows (length rows) c.args.task c.index-3.result.now refl within c.index-3.ensures in
    let is_3 : c.index-3.result.now ≡ r = same_Some c.index-3.result.now r (sym at3 ∙ at) in
    let size = links_as_rows rows links c.self.invariant.linked in
    let l = slice_get_read links (length links) c.args.task c.index-2.result.now refl (omega (arith, within, size)) c.index-2.ensures in
    let children = c.children.ensures ∙ children_by_links rows links c.self.invariant.linked c.args.task c.index-2.result.now l r at in
    let more = c.add_child.new.tasks.items in
    let is : more ≡ rows ++ c.new-row.result ∷ [] = c.in-Ok.ensures.tasks in
    let front : slice_get more c.args.task ≡ Some r = ap (λ (xs : List TaskRow). slice_get xs c.args.task) is ∙ get_front rows (c.new-row.result ∷ []) c.args.task within ∙ at in
    let short = slice_get_within more c.args.task r front in
    let again = slice_get_read more (length more) c.args.task c.index_mut.result.now refl short c.index_mut.ensures.value in
    let is_r : c.index_mut.result.now ≡ r = same_Some c.index_mut.result.now r (sym again ∙ front) in
    let counted = c.count.ensures ∙ ap (went_on []) is_r in
    let child = child_is s r c.index-3.result.now c.new-row.result c.children.result.now c.child_path-path.result.items c.copied.result c.args.call.now is_3 children c.child_path-path.ensures c.copied.ensures c.new-row.ensures in
    record {
      reply = c.requires.free;
      done = grown_is s c.args.self.now more c.args.task c.args.call.now r c.count.new.self c.new-row.result is c.self.view_is at counted child;
      same = tt;
    }
