use Rattle.std.proofs.Common.{refl}
use Rattle.std.proofs.lemmas.Result.{err_from_is_err_and}
use Rattle.kt_tokens.specs.declared.tokens.Mark.TheVariants as T
use Rattle.kt_read.specs.ArgumentResiduals.{after_arguments}
use Rattle.kt_read.proofs.StatementSteps.{fork_end_completes, fork_rest_completes, fork_completes}
use Rattle.kt_read.proofs.ExpressionSteps.{sign_follows, closing_completes}
use Rattle.kt_read.proofs.Completing.{done_completes}
use Rattle.kt_read.proofs.Still.{here, next, done, fails, next_any, fails_any}
use Rattle.kt_read.proofs.reader.statements.fork_statement.Goals as goal

pub returns-in_err-place : goal.returns-in_err-place
returns-in_err-place c =
    let p = err_from_is_err_and c.from_residual.result c.from_residual.ensures.1 in
    rw (p.1, p.2) (fails_any _ _ (here _) c.in_err-place.ensures fork_completes)

pub returns-in_err-name : goal.returns-in_err-name
returns-in_err-name c =
    let s1 = next_any (here _) c.in_ok-place.ensures in
    let p = err_from_is_err_and c.from_residual-in_err-name.result c.from_residual-in_err-name.ensures.1 in
    rw (p.1, p.2) (fails_any _ _ s1 c.in_err-name.ensures (fork_rest_completes c.in_ok-place.place))

pub returns-in_err-length : goal.returns-in_err-length
returns-in_err-length c =
    let s1 = next_any (here _) c.in_ok-place.ensures in
    let s2 = next_any s1 c.in_ok-name.ensures in
    let p = err_from_is_err_and c.from_residual-in_err-length.result c.from_residual-in_err-length.ensures.1 in
    rw (p.1, p.2) (fails after_arguments _ _ s2 c.in_err-length.ensures (λ f a vs us k h. sign_follows after_arguments T.ParenClose refl k.0 vs k.1 k.2) (λ f. fork_end_completes _ _ f))

pub returns-in_err-expect : goal.returns-in_err-expect
returns-in_err-expect c =
    let s1 = next_any (here _) c.in_ok-place.ensures in
    let s2 = next_any s1 c.in_ok-name.ensures in
    let s3 = next s2 c.in_ok-length.ensures (λ f a vs us k h. sign_follows after_arguments T.ParenClose refl k.0 vs k.1 k.2) in
    let p = err_from_is_err_and c.from_residual-in_err-expect.result c.from_residual-in_err-expect.ensures.1 in
    rw (p.1, p.2) (fails_any _ _ s3 c.in_err-expect.ensures (λ x. closing_completes T.Semicolon _))

pub returns-in_err-expect-2 : goal.returns-in_err-expect-2
returns-in_err-expect-2 c =
    let s1 = next_any (here _) c.in_ok-place.ensures in
    let s2 = next_any s1 c.in_ok-name.ensures in
    let s3 = next s2 c.in_ok-length.ensures (λ f a vs us k h. sign_follows after_arguments T.ParenClose refl k.0 vs k.1 k.2) in
    let s4 = next_any s3 c.in_ok-expect.ensures in
    let p = err_from_is_err_and c.from_residual-in_err-expect-2.result c.from_residual-in_err-expect-2.ensures.1 in
    rw (p.1, p.2) (fails_any _ _ s4 c.in_err-expect-2.ensures (λ x. done_completes _))

pub returns : goal.returns
returns c =
    let s1 = next_any (here _) c.in_ok-place.ensures in
    let s2 = next_any s1 c.in_ok-name.ensures in
    let s3 = next s2 c.in_ok-length.ensures (λ f a vs us k h. sign_follows after_arguments T.ParenClose refl k.0 vs k.1 k.2) in
    let s4 = next_any s3 c.in_ok-expect.ensures in
    (_, c.in_ok-add.ensures, done (next_any s4 c.in_ok-expect-2.ensures))
