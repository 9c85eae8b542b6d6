use Rattle.std.proofs.Common.{sym, ◌∙◌, ap}
use Rattle.std.proofs.lemmas.Result.{err_from_is_err_and}
use Rattle.kt_read.specs.Follows.{after_expression}
use Rattle.kt_read.proofs.ArgumentSteps.{arg_here, arg_name_completes, arg_fails, arg_reads}
use Rattle.kt_read.proofs.Still.{answers, next_any, fails_any}
use Rattle.kt_read.proofs.reader.arguments.argument.Goals as goal

pub returns-in_err-name-in-Name : goal.returns-in_err-name-in-Name
returns-in_err-name-in-Name c =
    let e = ap (λ u. u.symbol) (sym c.next-token.ensures) ∙ c.in-Name.is in
    let p = err_from_is_err_and c.from_residual.result c.from_residual.ensures.1 in
    rw (p.1, p.2) (fails_any _ _ (arg_here _ _ e) c.in_err-name-in-Name.ensures (λ x. arg_name_completes x.0 x.1))

pub returns-in_ok-name-in-Name : goal.returns-in_ok-name-in-Name
returns-in_ok-name-in-Name c =
    let e = ap (λ u. u.symbol) (sym c.next-token.ensures) ∙ c.in-Name.is in
    answers after_expression _ _ (next_any (arg_here _ _ e) c.in_ok-name-in-Name.ensures) c.argument_behind_name.ensures (λ us h. h)

pub returns-in_err-value-in_default : goal.returns-in_err-value-in_default
returns-in_err-value-in_default c =
    let p = err_from_is_err_and c.from_residual-in_err-value-in_default.result c.from_residual-in_err-value-in_default.ensures.1 in
    rw (p.1, p.2) (arg_fails after_expression _ _ _ (λ n e. c.in_default.not-Name n (ap (λ u. u.symbol) c.next-token.ensures ∙ e)) c.in_err-value-in_default.ensures)

pub returns-in_ok-value-in_default : goal.returns-in_ok-value-in_default
returns-in_ok-value-in_default c =
    rw c.next-token.ensures (arg_reads (λ n e. c.in_default.not-Name n (ap (λ u. u.symbol) c.next-token.ensures ∙ e)) c.in_ok-value-in_default.ensures)
