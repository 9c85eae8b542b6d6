-- The rules at what a `match` finds, and at the items of a list one after another.
use Rattle.std.proofs.Common.{◌≡◌, ℕ, List, ◌++◌, map, Option, refl, ap, sym, ◌∙◌}
use Rattle.kt_law.specs.declared.operators.BinOp.{BinOp}
use Rattle.kt_law.specs.declared.operators.Op.{Op}
use Rattle.kt_law.specs.declared.places.P.TheVariants.{P11}
use Rattle.kt_law.specs.declared.places.Place.{Place}
use Rattle.kt_prog.specs.Scope.{Scope, kind_of, with_name}
use Rattle.kt_prog.specs.Targets.{target_of}
use Rattle.kt_prog.specs.Rules.{Breaches, ExprRules, breaches_in, denied, element_rule, expr_rules, fold_rule, new_name, rules_of, set_rule, store_rule, unknown_in}
use Rattle.kt_prog.specs.ForkRules.{argument_rule, fork_rule}
use Rattle.kt_prog.specs.StatementRules.{StmtRules, block_rules, rules_of_stmt, rules_of_what, stmt_rules, what_rules}
use Rattle.kt_check.specs.Sights.{wants_span}
use Rattle.kt_prog.specs.declared.sight.Kind.TheVariants.{Number}
use Rattle.kt_prog.specs.declared.programs.Expr.{Expr, Bin, fold-roll-Expr}
use Rattle.kt_prog.specs.declared.programs.Expr.TheVariants.{rolls-Bin}
use Rattle.kt_prog.specs.declared.programs.Expr.TheOpen as E
use Rattle.kt_prog.specs.declared.programs.Arg.{Arg}
use Rattle.kt_prog.specs.declared.programs.ArgWhat.TheVariants as A
use Rattle.kt_prog.specs.declared.programs.Sort.{Sort}
use Rattle.kt_prog.specs.declared.programs.Sort.TheVariants as S
use Rattle.kt_prog.specs.declared.programs.Stmt.{Stmt, fold_out-Stmt}
use Rattle.kt_prog.specs.declared.programs.What.{fold-roll-What}
use Rattle.kt_prog.specs.declared.programs.What.TheVariants as W
use Rattle.kt_prog.specs.declared.programs.What.TheOpen as F

pub rules_bin : (op : BinOp) (a b : Expr) (s : Scope) → breaches_in (Bin op a b) s ≡ breaches_in a s ++ breaches_in b s
rules_bin op a b s = ap (λ e. (rules_of e).breaches s) (sym (rolls-Bin op a b)) ∙ ap (λ (r : ExprRules). r.breaches s) (fold-roll-Expr ExprRules expr_rules (E.Bin op a b))

pub unknown_bin : (op : BinOp) (a b : Expr) (s : Scope) → unknown_in (Bin op a b) s ≡ unknown_in a s ++ unknown_in b s
unknown_bin op a b s = ap (λ e. (rules_of e).unknown s) (sym (rolls-Bin op a b)) ∙ ap (λ (r : ExprRules). r.unknown s) (fold-roll-Expr ExprRules expr_rules (E.Bin op a b))

pub rules_span : (at : Place) (sort : Sort) (s : Scope) (name : List ℕ) (place : Place) (a b : Expr) → argument_rule at sort s (A.Span name place a b) ≡ wants_span at sort (kind_of s name) place ++ breaches_in a s ++ breaches_in b s
rules_span at S.Int s name place a b = refl
rules_span at (S.One want) s name place a b = refl
rules_span at (S.Many want) s name place a b = refl

module _ (at : Place) (s : Scope) where
  abbrev seen : (Place → StmtRules) → Breaches
  seen m = (m at s).breaches

  pub what_let : (name : List ℕ) (p : Place) (e : Expr) → (rules_of_what (W.Let name p e) at s).breaches ≡ new_name s name p ++ breaches_in e s
  what_let name p e = ap (λ w. seen (rules_of_what w)) (sym (W.rolls-Let name p e)) ∙ ap seen (fold-roll-What (Place → StmtRules) StmtRules what_rules stmt_rules (F.Let name p e))

  pub what_set : (name : List ℕ) (p : Place) (e : Expr) → (rules_of_what (W.Set name p e) at s).breaches ≡ set_rule (kind_of s name) p ++ breaches_in e s
  what_set name p e = ap (λ w. seen (rules_of_what w)) (sym (W.rolls-Set name p e)) ∙ ap seen (fold-roll-What (Place → StmtRules) StmtRules what_rules stmt_rules (F.Set name p e))

  pub what_store : (name : List ℕ) (p : Place) (i e : Expr) → (rules_of_what (W.Store name p i e) at s).breaches ≡ element_rule (store_rule s (rules_of i).bare p) (kind_of s name) p ++ breaches_in i s ++ breaches_in e s
  what_store name p i e = ap (λ w. seen (rules_of_what w)) (sym (W.rolls-Store name p i e)) ∙ ap seen (fold-roll-What (Place → StmtRules) StmtRules what_rules stmt_rules (F.Store name p i e))

  pub what_fold : (name : List ℕ) (p : Place) (i : Expr) (op : Op) (e : Expr) → (rules_of_what (W.Fold name p i op e) at s).breaches ≡ element_rule (fold_rule op p) (kind_of s name) p ++ breaches_in i s ++ breaches_in e s
  what_fold name p i op e = ap (λ w. seen (rules_of_what w)) (sym (W.rolls-Fold name p i op e)) ∙ ap seen (fold-roll-What (Place → StmtRules) StmtRules what_rules stmt_rules (F.Fold name p i op e))

  pub what_if : (e : Expr) (xs ys : List Stmt) → (rules_of_what (W.If e xs ys) at s).breaches ≡ breaches_in e s ++ block_rules (map rules_of_stmt xs) s ++ block_rules (map rules_of_stmt ys) s
  what_if e xs ys = ap (λ w. seen (rules_of_what w)) (sym (W.rolls-If e xs ys)) ∙ ap seen (fold-roll-What (Place → StmtRules) StmtRules what_rules stmt_rules (F.If e xs ys))

  pub what_for : (name : List ℕ) (p : Place) (a b : Expr) (body : List Stmt) → (rules_of_what (W.For name p a b body) at s).breaches ≡ new_name s name p ++ breaches_in a s ++ breaches_in b s ++ block_rules (map rules_of_stmt body) (with_name s name Number)
  what_for name p a b body = ap (λ w. seen (rules_of_what w)) (sym (W.rolls-For name p a b body)) ∙ ap seen (fold-roll-What (Place → StmtRules) StmtRules what_rules stmt_rules (F.For name p a b body))

  pub what_fork : (name : List ℕ) (p : Place) (len : Option Expr) (args : List Arg) → (rules_of_what (W.Fork name p len args) at s).breaches ≡ denied at P11 s.in_loop ++ fork_rule (target_of s.tasks name) p s len args
  what_fork name p len args = ap (λ w. seen (rules_of_what w)) (sym (W.rolls-Fork name p len args)) ∙ ap seen (fold-roll-What (Place → StmtRules) StmtRules what_rules stmt_rules (F.Fork name p len args))

pub stmt_is : (s : Scope) (x : Stmt) → rules_of_stmt x s ≡ rules_of_what x.what x.place s
stmt_is s x = ap (λ (m : StmtRules). m s) (fold_out-Stmt (Place → StmtRules) StmtRules what_rules stmt_rules x)
