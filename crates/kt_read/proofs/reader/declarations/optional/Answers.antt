use Rattle.std.proofs.lemmas.Result.{err_from_is_err_and}
use Rattle.std.proofs.Common.{true}
use Rattle.kt_read.proofs.DeclarationSteps.{maybe_here, no_word_read}
use Rattle.kt_read.proofs.Completing.{done_completes}
use Rattle.kt_read.proofs.Still.{done, fails_any, next_any}
use Rattle.kt_read.proofs.reader.declarations.optional.Goals as goal

pub returns-then-not-is_word : goal.returns-then-not-is_word
returns-then-not-is_word c = no_word_read _ _ (λ e. cc (c.is_word.ensures.1 e, c.if-not-is_word.true))

pub returns-in_err-word : goal.returns-in_err-word
returns-in_err-word c =
    let s = maybe_here _ _ (c.is_word.ensures.0 c.if-not-is_word.false) in
    let p = err_from_is_err_and c.from_residual.result c.from_residual.ensures.1 in
    rw (p.1, p.2) (fails_any _ _ s c.in_err-word.ensures (λ _. done_completes true))

pub returns : goal.returns
returns c = done (next_any (maybe_here _ _ (c.is_word.ensures.0 c.if-not-is_word.false)) c.in_ok-word.ensures)
