use Rattle.std.proofs.Common.{arith, [], ◌∷◌, ◌++◌, sym, subst, ◌∙◌}
use Rattle.std.proofs.lemmas.List.{append-nil}
use Rattle.std.proofs.lemmas.Result.{err_from_is_err_and}
use Rattle.kt_tokens.specs.Reading.{any}
use Rattle.kt_read.specs.Follows.{after_expression}
use Rattle.kt_prog.specs.declared.programs.What.{If}
use Rattle.kt_tokens.specs.Reading.{Reads}
use Rattle.kt_read.specs.StatementResiduals.{after_statement}
use Rattle.kt_read.specs.Statements.{ReadsBlock}
use Rattle.kt_read.proofs.StatementSteps.{stmt, done_follows, if_else_completes, if_blocks_complete, if_completes, block_follows, no_else_read, else_here, block_end, for_body_completes, for_end_completes, for_bounds_complete, for_completes, let_here, if_here, for_here, fork_here, NoWord, named_here, more_follow, no_tokens, block_here, more_complete, stmt_left, end_left, one_behind, begins_within, own_behind, others_before}
use Rattle.kt_read.proofs.Shrinking.{reads_left, reads_falls, sign_falls}
use Rattle.kt_read.proofs.Completing.{done_completes}
use Rattle.kt_read.proofs.Still.{here, next, done, fails, answers, adds, any_follows, next_any, fails_any}
use Rattle.kt_read.proofs.reader.statements.+statement.Goals as goal

pub if_statement-returns-in_err-place : goal.if_statement-returns-in_err-place
if_statement-returns-in_err-place t c =
    let p = err_from_is_err_and c.from_residual.result c.from_residual.ensures.1 in
    rw (p.1, p.2) (fails_any _ _ (here _) c.in_err-place.ensures if_completes)

pub if_statement-returns-in_err-test : goal.if_statement-returns-in_err-test
if_statement-returns-in_err-test t c =
    let s1 = next_any (here _) c.in_ok-place.ensures in
    let p = err_from_is_err_and c.from_residual-in_err-test.result c.from_residual-in_err-test.ensures.1 in
    rw (p.1, p.2) (fails after_expression _ _ s1 c.in_err-test.ensures (λ e a vs us k h. block_follows k.0 vs k.1 k.2) (if_blocks_complete c.in_ok-place.place))

pub if_statement-block-requires : goal.if_statement-block-requires
if_statement-block-requires t c =
    let f = sign_falls c.in_ok-place.ensures in
    let g = reads_left c.in_ok-test.ensures in
    omega (arith, f, g)

pub if_statement-returns-in_err-then_do : goal.if_statement-returns-in_err-then_do
if_statement-returns-in_err-then_do t c =
    let s1 = next_any (here _) c.in_ok-place.ensures in
    let s2 = next s1 c.in_ok-test.ensures (λ e a vs us k h. block_follows k.0 vs k.1 k.2) in
    let p = err_from_is_err_and c.from_residual-in_err-then_do.result c.from_residual-in_err-then_do.ensures.1 in
    rw (p.1, p.2) (fails_any _ _ s2 c.in_err-then_do.ensures.answers (if_else_completes c.in_ok-place.place c.in_ok-test.test))

pub if_statement-otherwise-requires : goal.if_statement-otherwise-requires
if_statement-otherwise-requires t c =
    let f = sign_falls c.in_ok-place.ensures in
    let g = reads_left c.in_ok-test.ensures in
    let h = reads_left c.in_ok-then_do.ensures.answers in
    omega (arith, f, g, h)

pub if_statement-returns-in_err-else_do : goal.if_statement-returns-in_err-else_do
if_statement-returns-in_err-else_do t c =
    let s1 = next_any (here _) c.in_ok-place.ensures in
    let s2 = next s1 c.in_ok-test.ensures (λ e a vs us k h. block_follows k.0 vs k.1 k.2) in
    let s3 = next_any s2 c.in_ok-then_do.ensures.answers in
    let p = err_from_is_err_and c.from_residual-in_err-else_do.result c.from_residual-in_err-else_do.ensures.1 in
    rw (p.1, p.2) (fails after_statement _ _ s3 c.in_err-else_do.ensures.answers (λ b. done_follows after_statement (stmt c.in_ok-place.place (If c.in_ok-test.test c.in_ok-then_do.then_do b))) (λ b. done_completes _))

pub if_statement-returns : goal.if_statement-returns
if_statement-returns t c =
    let s1 = next_any (here _) c.in_ok-place.ensures in
    let s2 = next s1 c.in_ok-test.ensures (λ e a vs us k h. block_follows k.0 vs k.1 k.2) in
    let s3 = next_any s2 c.in_ok-then_do.ensures.answers in
    (_, rw (c.in_ok-else_do.ensures.kept, c.in_ok-then_do.ensures.kept) at c.in_ok-add.ensures, done (next s3 c.in_ok-else_do.ensures.answers (λ b. done_follows after_statement (stmt c.in_ok-place.place (If c.in_ok-test.test c.in_ok-then_do.then_do b)))))

pub otherwise-returns-then-not-is-clause-answers : goal.otherwise-returns-then-not-is-clause-answers
otherwise-returns-then-not-is-clause-answers t c =
    rw c.new.ensures (no_else_read _ (λ e. cc (c.is.ensures.1 e, c.if-not-is.true)))

pub otherwise-returns-in_err-expect-clause-answers : goal.otherwise-returns-in_err-expect-clause-answers
otherwise-returns-in_err-expect-clause-answers t c =
    let s0 = else_here _ (c.is.ensures.0 c.if-not-is.false) in
    let p = err_from_is_err_and c.from_residual.result c.from_residual.ensures.1 in
    rw (p.1, p.2) (fails_any _ _ s0 c.in_err-expect.ensures (λ x. block_end))

pub otherwise-block-requires : goal.otherwise-block-requires
otherwise-block-requires t c =
    let f = sign_falls c.in_ok-expect.ensures in
    omega (arith, f)

pub otherwise-returns-clause-answers : goal.otherwise-returns-clause-answers
otherwise-returns-clause-answers t c =
    let s0 = else_here _ (c.is.ensures.0 c.if-not-is.false) in
    answers any _ _ (next_any s0 c.in_ok-expect.ensures) c.block.ensures.answers (λ us h. any_follows us)

pub for_statement-returns-in_err-place : goal.for_statement-returns-in_err-place
for_statement-returns-in_err-place t c =
    let p = err_from_is_err_and c.from_residual.result c.from_residual.ensures.1 in
    rw (p.1, p.2) (fails_any _ _ (here _) c.in_err-place.ensures for_completes)

pub for_statement-returns-in_err-name : goal.for_statement-returns-in_err-name
for_statement-returns-in_err-name t c =
    let s1 = next_any (here _) c.in_ok-place.ensures in
    let p = err_from_is_err_and c.from_residual-in_err-name.result c.from_residual-in_err-name.ensures.1 in
    rw (p.1, p.2) (fails_any _ _ s1 c.in_err-name.ensures (for_bounds_complete c.in_ok-place.place))

pub for_statement-returns-in_err-first : goal.for_statement-returns-in_err-first
for_statement-returns-in_err-first t c =
    let s1 = next_any (here _) c.in_ok-place.ensures in
    let s2 = next_any s1 c.in_ok-name.ensures in
    let p = err_from_is_err_and c.from_residual-in_err-first.result c.from_residual-in_err-first.ensures.1 in
    rw (p.1, p.2) (fails_any _ _ s2 c.in_err-first.ensures (λ a. for_end_completes _ _ a))

pub for_statement-returns-in_err-end : goal.for_statement-returns-in_err-end
for_statement-returns-in_err-end t c =
    let s1 = next_any (here _) c.in_ok-place.ensures in
    let s2 = next_any s1 c.in_ok-name.ensures in
    let s3 = next_any s2 c.in_ok-first.ensures in
    let p = err_from_is_err_and c.from_residual-in_err-end.result c.from_residual-in_err-end.ensures.1 in
    rw (p.1, p.2) (fails after_expression _ _ s3 c.in_err-end.ensures (λ b a vs us k h. block_follows k.0 vs k.1 k.2) (λ b. for_body_completes _ _ _ b))

pub for_statement-block-requires : goal.for_statement-block-requires
for_statement-block-requires t c =
    let f = sign_falls c.in_ok-place.ensures in
    let g = reads_left c.in_ok-name.ensures in
    let h = reads_left c.in_ok-first.ensures in
    let k = reads_left c.in_ok-end.ensures in
    omega (arith, f, g, h, k)

pub for_statement-returns-in_err-body : goal.for_statement-returns-in_err-body
for_statement-returns-in_err-body t c =
    let s1 = next_any (here _) c.in_ok-place.ensures in
    let s2 = next_any s1 c.in_ok-name.ensures in
    let s3 = next_any s2 c.in_ok-first.ensures in
    let s4 = next s3 c.in_ok-end.ensures (λ b a vs us k h. block_follows k.0 vs k.1 k.2) in
    let p = err_from_is_err_and c.from_residual-in_err-body.result c.from_residual-in_err-body.ensures.1 in
    rw (p.1, p.2) (fails_any _ _ s4 c.in_err-body.ensures.answers (λ b. done_completes _))

pub for_statement-returns : goal.for_statement-returns
for_statement-returns t c =
    let s1 = next_any (here _) c.in_ok-place.ensures in
    let s2 = next_any s1 c.in_ok-name.ensures in
    let s3 = next_any s2 c.in_ok-first.ensures in
    let s4 = next s3 c.in_ok-end.ensures (λ b a vs us k h. block_follows k.0 vs k.1 k.2) in
    (_, rw c.in_ok-body.ensures.kept at c.in_ok-add.ensures, done (next_any s4 c.in_ok-body.ensures.answers))

pub statement-returns-then-is : goal.statement-returns-then-is
statement-returns-then-is t c =
    adds any _ _ _ _ (let_here _ (c.is.ensures.0 c.if-is.true)) c.let_statement.ensures (λ us h. any_follows us)

pub statement-if_statement-requires : goal.statement-if_statement-requires
statement-if_statement-requires t c =
    omega arith

pub statement-returns-then-is-2 : goal.statement-returns-then-is-2
statement-returns-then-is-2 t c =
    adds after_statement _ _ _ _ (if_here _ (c.is-2.ensures.0 c.if-is-2.true)) c.if_statement.ensures (λ us h. h)

pub statement-for_statement-requires : goal.statement-for_statement-requires
statement-for_statement-requires t c =
    omega arith

pub statement-returns-then-is-3 : goal.statement-returns-then-is-3
statement-returns-then-is-3 t c =
    adds any _ _ _ _ (for_here _ (c.is-3.ensures.0 c.if-is-3.true)) c.for_statement.ensures (λ us h. any_follows us)

pub statement-returns-then-is-4 : goal.statement-returns-then-is-4
statement-returns-then-is-4 t c =
    adds any _ _ _ _ (fork_here _ (c.is-4.ensures.0 c.if-is-4.true)) c.fork_statement.ensures (λ us h. any_follows us)

pub statement-returns : goal.statement-returns
statement-returns t c =
    let no : NoWord _ = record { no_let = λ e. cc (c.is.ensures.1 e, c.if-is.false); no_if = λ e. cc (c.is-2.ensures.1 e, c.if-is-2.false); no_for = λ e. cc (c.is-3.ensures.1 e, c.if-is-3.false); no_fork = λ e. cc (c.is-4.ensures.1 e, c.if-is-4.false) } in
    adds any _ _ _ _ (named_here _ no) c.named_statement.ensures (λ us h. any_follows us)

pub block-returns-in_err-expect-clause-answers : goal.block-returns-in_err-expect-clause-answers
block-returns-in_err-expect-clause-answers t c =
    let p = err_from_is_err_and c.from_residual.result c.from_residual.ensures.1 in
    rw (p.1, p.2) (fails_any _ _ (block_here _) c.in_err-expect.ensures (λ x. more_complete []))

pub block-each-init : goal.block-each-init
block-each-init t c =
    let f = sign_falls c.in_ok-expect.ensures in
    ([], sym (append-nil _), next_any (block_here _) c.in_ok-expect.ensures, f)

pub block-statement-requires : goal.block-statement-requires
block-statement-requires t c =
    let f = c.each.invariant.3 in
    omega (arith, f)

pub block-returns-in_err-statement-clause-answers : goal.block-returns-in_err-statement-clause-answers
block-returns-in_err-statement-clause-answers t c =
    let s0 = stmt_left _ c.each.invariant.2 (λ e. cc (c.is.ensures.1 e, c.each-test.true)) in
    let p = err_from_is_err_and c.from_residual-in_err-statement.result c.from_residual-in_err-statement.ensures.1 in
    rw (p.1, p.2) (fails after_statement _ _ s0 c.in_err-statement.ensures (λ s all vs us k h. more_follow (c.each.invariant.0 ++ s ∷ []) all vs us k) (λ s. more_complete (c.each.invariant.0 ++ s ∷ [])))

pub block-each-smaller : goal.block-each-smaller
block-each-smaller t c =
    let f = reads_falls c.in_ok-statement.ensures.2 (no_tokens _) in
    omega (arith, f)

pub block-each-preserved : goal.block-each-preserved
block-each-preserved t c =
    let s0 = stmt_left _ c.each.invariant.2 (λ e. cc (c.is.ensures.1 e, c.each-test.true)) in
    let r = c.in_ok-statement.ensures in
    let f = reads_left r.2 in
    let g = c.each.invariant.3 in
    (c.each.invariant.0 ++ r.0 ∷ [], one_behind _ _ _ _ r.0 c.each.invariant.1 r.1, next s0 r.2 (λ s all vs us k h. more_follow (c.each.invariant.0 ++ s ∷ []) all vs us k), omega (arith, f, g))

pub block-returns-in_err-expect-2-clause-answers : goal.block-returns-in_err-expect-2-clause-answers
block-returns-in_err-expect-2-clause-answers t c =
    let s0 = end_left _ c.each.invariant.2 (c.is.ensures.0 c.each-test.false) in
    let p = err_from_is_err_and c.from_residual-in_err-expect-2.result c.from_residual-in_err-expect-2.ensures.1 in
    rw (p.1, p.2) (fails_any _ _ s0 c.in_err-expect-2.ensures (λ x. done_completes _))

pub block-taken-requires : goal.block-taken-requires
block-taken-requires t c =
    begins_within _ _ _ _ c.each.invariant.1 (c.len-begin.ensures ∙ c.args.stmts.now.ok.0)

pub block-returns-clause-answers : goal.block-returns-clause-answers
block-returns-clause-answers t c =
    let s0 = end_left _ c.each.invariant.2 (c.is.ensures.0 c.each-test.false) in
    let own = own_behind _ _ _ _ c.each.invariant.1 (c.len-begin.ensures ∙ c.args.stmts.now.ok.0) in
    subst (λ x. Reads ReadsBlock any c.args.source.now c.expect-2.new.self x) (sym (c.from_vec.ensures ∙ c.in_ok-own.ensures.taken ∙ own)) (done (next_any s0 c.in_ok-expect-2.ensures))

pub block-returns-clause-kept : goal.block-returns-clause-kept
block-returns-clause-kept t c =
    c.in_ok-own.ensures.kept ∙ others_before _ _ _ _ c.each.invariant.1 (c.len-begin.ensures ∙ c.args.stmts.now.ok.0)
