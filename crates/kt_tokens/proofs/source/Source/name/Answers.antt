use Rattle.std.proofs.Common.{ap, ◌∙◌}
use Rattle.std.proofs.lemmas.Result.{err_from_is_err_and}
use Rattle.kt_tokens.specs.declared.tokens.Tok.{Tok}
use Rattle.kt_tokens.proofs.Signs.{name_is_token, name_read, name_refused, name_deep}
use Rattle.kt_tokens.proofs.source.Source.name.Goals as goal

pub returns-in_default : goal.returns-in_default
returns-in_default c = name_refused _ (λ n e. c.in_default.not-Name n (ap (λ (t : Tok). t.symbol) c.next-token.ensures ∙ e))

pub returns-in_err-advance : goal.returns-in_err-advance
returns-in_err-advance c =
    let p = err_from_is_err_and c.from_residual.result c.from_residual.ensures.1 in
    let q = c.in_err-advance.ensures in
    let e = rw c.next-token.ensures at c.in-Name.is in
    rw (p.1, p.2, q.0, q.1) (name_deep _ _ e q.2)

pub returns : goal.returns
returns c =
    let q = c.in_ok-advance.ensures in
    let e = rw c.next-token.ensures at c.in-Name.is in
    rw (c.name-name.ensures, c.next-token.ensures) (name_read _ _ _ e (record { behind = q.0; is_token = name_is_token _ _ e; fits = q.1 }))
