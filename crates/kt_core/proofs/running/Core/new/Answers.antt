-- One task, main, without parent and children.
use Rattle.std.proofs.Common.{◌≡◌, ◌∙◌, ap, sym, subst, ℕ, List, [], ◌∷◌, ◌++◌, None}
use Rattle.kt_prog.specs.Calls.{main_call}
use Rattle.kt_core.specs.Links.{IsSound, LinkState, fresh_links}
use Rattle.kt_tables.specs.Tables.{CoreState, TaskRow, fresh_row, opening_state}
use Rattle.kt_core.proofs.Opening.{opened_is, opening_sound}
use Rattle.kt_core.proofs.running.Core.new.Goals as goal

pub invariant_of-result : goal.invariant_of-result
invariant_of-result c =
    let row : c.new-2.result ≡ fresh_row [] main_call =
    c.new-2.ensures ∙ ap (λ (q : List ℕ). fresh_row q c.of_main.result) c.new.ensures ∙ ap (fresh_row []) c.of_main.ensures in
    let rows : c.push.new.self.items ≡ fresh_row [] main_call ∷ [] =
    c.in_ok-push.ensures.items ∙ ap (λ (xs : List TaskRow). xs ++ c.new-2.result ∷ []) c.new-tasks.ensures.items ∙ ap (λ (r : TaskRow). r ∷ []) row in
    let links : c.push-2.new.self.items ≡ fresh_links None ∷ [] =
    c.in_ok-push-2.ensures.items ∙ ap (λ (xs : List LinkState). xs ++ c.new-3.result ∷ []) c.new-links.ensures.items ∙ ap (λ (l : LinkState). l ∷ []) c.new-3.ensures in
    let is = opened_is c.args.program.now c.args.input.now c.in_ok-store.store c.push.new.self.items c.in_ok-store.ensures rows in
    let sound = opening_sound c.opening_table_is_lawful.ensures c.args.program.now c.args.input.now c.requires.accepted c.requires.whole in
    subst (λ (s : CoreState). IsSound s c.push-2.new.self.items) (sym is)
    (subst (IsSound (opening_state c.args.program.now c.args.input.now)) (sym links) sound)

pub returns : goal.returns
returns c =
    let row : c.new-2.result ≡ fresh_row [] main_call =
    c.new-2.ensures ∙ ap (λ (q : List ℕ). fresh_row q c.of_main.result) c.new.ensures ∙ ap (fresh_row []) c.of_main.ensures in
    let rows : c.push.new.self.items ≡ fresh_row [] main_call ∷ [] =
    c.in_ok-push.ensures.items ∙ ap (λ (xs : List TaskRow). xs ++ c.new-2.result ∷ []) c.new-tasks.ensures.items ∙ ap (λ (r : TaskRow). r ∷ []) row in
    opened_is c.args.program.now c.args.input.now c.in_ok-store.store c.push.new.self.items c.in_ok-store.ensures rows
