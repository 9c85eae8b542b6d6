-- The rules of statements.
use Rattle.std.specs.Prelude.{List, [], ◌∷◌, ◌++◌}
use Rattle.kt_law.specs.declared.places.P.TheVariants.{P11}
use Rattle.kt_law.specs.declared.places.Place.{Place}
use Rattle.kt_prog.specs.Scope.{Scope, kind_of, with_name}
use Rattle.kt_prog.specs.Targets.{target_of}
use Rattle.kt_prog.specs.Rules.{Breaches, denied, new_name, set_rule, element_rule, store_rule, fold_rule, rules_of, breaches_in}
use Rattle.kt_prog.specs.ForkRules.{fork_rule}
use Rattle.kt_prog.specs.declared.sight.Kind.TheVariants.{Number, Variable}
use Rattle.kt_prog.specs.declared.programs.What.{What, What-F, fold-What}
use Rattle.kt_prog.specs.declared.programs.What.TheOpen as W
use Rattle.kt_prog.specs.declared.programs.Stmt.{Stmt, Stmt-F, fold-Stmt}

-- the breaches of a statement, and what is in sight behind it
pub record Ruled : Type 0 where
  pub breaches : Breaches
  pub after : Scope

abbrev pub StmtRules : Type 0
StmtRules = Scope → Ruled

-- a statement that leaves in sight what was
abbrev pub plainly : Scope → Breaches → Ruled
plainly s breaches = record { breaches = breaches; after = s }

-- each statement with what is in sight behind the one before it
abbrev pub block_rules : List StmtRules → Scope → Breaches
block_rules [] s = []
block_rules (r ∷ rules) s = (r s).breaches ++ block_rules rules (r s).after

-- A `let` name is visible behind its statement, a `for` name in its block alone.
-- P11: a `fork` in a loop's body, at the word `fork`, which is the statement's place.
abbrev pub what_rules : What-F (Place → StmtRules) StmtRules → Place → StmtRules
what_rules (W.Let name place e) at s = record { breaches = new_name s name place ++ breaches_in e s; after = with_name s name Variable }
what_rules (W.Set name place e) at s = plainly s (set_rule (kind_of s name) place ++ breaches_in e s)
what_rules (W.Store name place i e) at s =
    plainly s (element_rule (store_rule s (rules_of i).bare place) (kind_of s name) place ++ breaches_in i s ++ breaches_in e s)
what_rules (W.Fold name place i op e) at s =
    plainly s (element_rule (fold_rule op place) (kind_of s name) place ++ breaches_in i s ++ breaches_in e s)
what_rules (W.If test then_do else_do) at s = plainly s (breaches_in test s ++ block_rules then_do s ++ block_rules else_do s)
what_rules (W.For name place a b body) at s =
    plainly s (new_name s name place ++ breaches_in a s ++ breaches_in b s ++ block_rules body (with_name s name Number))
what_rules (W.Fork name place len args) at s = plainly s (denied at P11 s.in_loop ++ fork_rule (target_of s.tasks name) place s len args)

abbrev pub stmt_rules : Stmt-F (Place → StmtRules) StmtRules → StmtRules
stmt_rules x = x.what x.place

abbrev pub rules_of_what : What → Place → StmtRules
rules_of_what = fold-What (Place → StmtRules) StmtRules what_rules stmt_rules

abbrev pub rules_of_stmt : Stmt → StmtRules
rules_of_stmt = fold-Stmt (Place → StmtRules) StmtRules what_rules stmt_rules
