use Rattle.std.proofs.Common.{◌≡◌, ◌<◌, drop, length, map, take}
use Rattle.kt_check.specs.Lets.{let_names, lets_at}
use Rattle.kt_prog.specs.StatementRules.{block_rules, rules_of_stmt}
use Rattle.kt_prog.specs.Refusals.{noted}
use Rattle.kt_check.specs.Sights.{behind, scope_of}
use Rattle.kt_check.specs.declared.lets.TheConstants.{ROOM}
use Rattle.kt_check.proofs.statements.+statements.Given as goal

abbrev pub invariant-check_block-loop-i : goal.invariant-check_block-loop-i
invariant-check_block-loop-i l =
    (length l.lets < ROOM → lets_at l.stmts l.lets ≡ let_names (take l.i l.stmts))
    × (length l.lets < ROOM → length l.lets ≡ length (let_names (take l.i l.stmts)))
    × (noted l.fn.found (block_rules (map rules_of_stmt l.stmts) (scope_of l.sight)) ≡ noted l.found (block_rules (map rules_of_stmt (drop l.i l.stmts)) (behind (scope_of l.sight) (take l.i l.stmts))))
