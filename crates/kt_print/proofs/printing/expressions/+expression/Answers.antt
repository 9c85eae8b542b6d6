use Rattle.kt_print.proofs.PrintedTexts.{infix_joined}
use Rattle.kt_print.proofs.printing.expressions.+expression.Goals as goal

pub push_expr-returns-in_ok-push_infix_sign-in_default : goal.push_expr-returns-in_ok-push_infix_sign-in_default
push_expr-returns-in_ok-push_infix_sign-in_default t c =
    infix_joined _ _ _ _ _ _ _ _ _ _ _ _ _ _ _ _ c.in-Bin.is c.in_default.not-Atom c.operator_level.ensures c.get-left.ensures c.get-right.ensures
    c.expr_level.ensures c.expr_level-in_default.ensures c.is_left_grouped.ensures c.is_right_grouped.ensures c.in_ok-push_operand-in_default.ensures
    c.in_ok-push_infix_sign-in_default.ensures c.push_operand-in_default.ensures
