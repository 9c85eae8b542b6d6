use Rattle.std.proofs.Common.{[], ap, sym, length, map, refl, ◌∙◌}
use Rattle.kt_check.specs.Lets.{lets_at}
use Rattle.kt_prog.specs.StatementRules.{rules_of_stmt}
use Rattle.kt_prog.specs.Refusals.{noted}
use Rattle.kt_prog.specs.Rules.{breaches_in, new_name}
use Rattle.kt_prog.specs.Scope.{with_name}
use Rattle.kt_check.specs.Sights.{behind, scope_of}
use Rattle.kt_prog.specs.declared.sight.Kind.TheVariants.{Number}
use Rattle.kt_check.proofs.Noted.{noted_append}
use Rattle.kt_check.proofs.Equations.{what_let, what_set, what_store, what_fold, what_if, what_for, what_fork}
use Rattle.kt_check.proofs.Blocks.{behind_none, block_none, block_step, kept_next, all_next, noted_at}
use Rattle.kt_check.proofs.Sighting.{block_scope, turn_scope}
use Rattle.kt_check.proofs.statements.+statements.Goals as goal

pub check_what-returns-in-Let : goal.check_what-returns-in-Let
check_what-returns-in-Let t c = rw (c.in-Let.is, what_let, noted_append, c.check_expr.ensures, c.check_new_name.ensures) refl

pub check_what-returns-in-Set : goal.check_what-returns-in-Set
check_what-returns-in-Set t c = rw (c.in-Set.is, what_set, noted_append, c.check_expr-in-Set.ensures, c.check_set.ensures) refl

pub check_what-returns-in-Store : goal.check_what-returns-in-Store
check_what-returns-in-Store t c = rw (c.in-Store.is, what_store, noted_append, noted_append, c.check_expr-in-Store-2.ensures, c.check_expr-in-Store.ensures, c.check_store.ensures) refl

pub check_what-returns-in-Fold : goal.check_what-returns-in-Fold
check_what-returns-in-Fold t c = rw (c.in-Fold.is, what_fold, noted_append, noted_append, c.check_expr-in-Fold-2.ensures, c.check_expr-in-Fold.ensures, c.check_fold.ensures) refl

pub check_what-returns-in-If : goal.check_what-returns-in-If
check_what-returns-in-If t c = rw (c.in-If.is, what_if, noted_append, noted_append, c.check_block-in-If.ensures, c.check_block.ensures, c.check_expr-in-If.ensures, c.as_slice.ensures, c.as_slice-in-If.ensures) refl

pub check_what-returns-in-For : goal.check_what-returns-in-For
check_what-returns-in-For t c = rw (c.in-For.is, what_for, noted_append, noted_append, noted_append, c.check_block-in-For.ensures, c.check_expr-in-For-2.ensures, c.check_expr-in-For.ensures, c.check_new_name-in-For.ensures, c.as_slice-in-For.ensures) (
    noted_at (noted (noted (noted c.args.found.now (new_name (scope_of c.args.sight.now) c.in-For.name c.in-For.place)) (breaches_in c.in-For.a (scope_of c.args.sight.now))) (breaches_in c.in-For.b (scope_of c.args.sight.now)))
    (map rules_of_stmt c.in-For.body) _ (with_name (scope_of c.args.sight.now) c.in-For.name Number) (turn_scope c.args.sight.now _))

pub check_what-returns-in-Fork : goal.check_what-returns-in-Fork
check_what-returns-in-Fork t c = rw (c.in-Fork.is, what_fork, noted_append, c.check_fork.ensures, c.note_if.ensures, c.as_slice-in-Fork.ensures) refl

pub check_block-loop-i-init : goal.check_block-loop-i-init
check_block-loop-i-init t c = (
  λ _. ap (lets_at c.args.stmts.now) c.new-lets.ensures,
  λ _. ap length c.new-lets.ensures,
  noted_at c.args.found.now (map rules_of_stmt c.args.stmts.now) (scope_of c.args.sight.now) (behind (scope_of c.args.sight.now) []) (sym (behind_none (scope_of c.args.sight.now))),
)

pub check_block-loop-i-preserved : goal.check_block-loop-i-preserved
check_block-loop-i-preserved t c = (
  kept_next _ _ _ _ _ _ c.loop-i-test.true c.index-stmts-i.is c.keep.ensures c.loop-i.invariant.0,
  all_next _ _ _ _ _ _ c.loop-i-test.true c.index-stmts-i.is c.keep.ensures c.loop-i.invariant.1,
  c.loop-i.invariant.2 ∙ block_step _ _ _ _ _ _ _ c.loop-i-test.true c.index-stmts-i.is (block_scope c.args.sight.now _ _ c.names_behind-names.ensures.names c.names_behind-names.ensures.lets) c.check_what.ensures,
)

pub check_block-returns : goal.check_block-returns
check_block-returns t c = sym (c.loop-i.invariant.2 ∙ ap (noted c.loop-i.found) (block_none _ _ _ c.loop-i-test.false))
