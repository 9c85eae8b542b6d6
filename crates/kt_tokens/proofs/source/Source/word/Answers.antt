use Rattle.std.proofs.lemmas.Result.{err_from_is_err_and}
use Rattle.kt_tokens.proofs.Signs.{name_is_token}
use Rattle.kt_tokens.proofs.WordSigns.{word_read, word_refused, word_deep}
use Rattle.kt_tokens.proofs.source.Source.word.Goals as goal

pub returns-then-not-is_word : goal.returns-then-not-is_word
returns-then-not-is_word c = word_refused _ _ (λ e. cc (c.is_word.ensures.1 e, c.if-not-is_word.true))

pub returns-in_err-advance : goal.returns-in_err-advance
returns-in_err-advance c =
    let p = err_from_is_err_and c.from_residual.result c.from_residual.ensures.1 in
    let q = c.in_err-advance.ensures in
    rw (p.1, p.2, q.0, q.1) (word_deep _ _ (c.is_word.ensures.0 c.if-not-is_word.false) q.2)

pub returns : goal.returns
returns c =
    let q = c.in_ok-advance.ensures in
    let e = c.is_word.ensures.0 c.if-not-is_word.false in
    rw c.next.ensures (word_read _ _ _ e (record { behind = q.0; is_token = name_is_token _ _ e; fits = q.1 }))
