use Rattle.std.proofs.Common.{sym, ◌∙◌}
use Rattle.std.proofs.lemmas.Result.{err_from_is_err_and}
use Rattle.kt_law.specs.declared.operators.Op.TheVariants as O
use Rattle.kt_read.specs.Operators.{op_of}
use Rattle.kt_read.specs.Statements.{ReadsOp}
use Rattle.kt_read.proofs.OneTokens.{named_token, token_deep, token_read, token_refused}
use Rattle.kt_read.proofs.OperationSteps.{add_there, add_word, op_none, op_only, op_there}
use Rattle.kt_read.proofs.reader.operations.operation.Goals as goal

pub returns-in_err-advance-in-Some : goal.returns-in_err-advance-in-Some
returns-in_err-advance-in-Some c =
    let p = err_from_is_err_and c.from_residual.result c.from_residual.ensures.1 in
    let q = c.in_err-advance-in-Some.ensures in
    let e = sym c.next_op.ensures ∙ c.in-Some.is in
    rw (p.1, p.2, q.0, q.1) (token_deep ReadsOp _ _ (op_there _ _ e) (named_token op_of _ _ e) q.2)

pub returns-in_ok-advance-in-Some : goal.returns-in_ok-advance-in-Some
returns-in_ok-advance-in-Some c =
    let q = c.in_ok-advance-in-Some.ensures in
    let e = sym c.next_op.ensures ∙ c.in-Some.is in
    token_read ReadsOp _ _ _ (record { behind = q.0; is_token = named_token op_of _ _ e; fits = q.1 }) (op_there _ _ e) (λ b more rest x. op_only x e)

pub returns-in-None : goal.returns-in-None
returns-in-None c =
    let e = sym c.next_op.ensures ∙ c.in-None.is in
    token_refused ReadsOp _ O.Add add_word add_there (λ b more rest x. op_none x e)
