use Rattle.std.proofs.Common.{sym, ◌∙◌, refl, ap, arith, subst, Err}
use Rattle.std.proofs.lemmas.Result.{err_from_is_err_and}
use Rattle.kt_prog.specs.declared.programs.Expr.{Num, Elem, Bin}
use Rattle.kt_tokens.specs.declared.tokens.Mark.TheVariants as T
use Rattle.kt_tokens.specs.Reading.{any, Answers}
use Rattle.kt_tokens.proofs.Moves.{Advanced}
use Rattle.kt_read.specs.Follows.{after_atom, after_expression, after_product, after_sum}
use Rattle.kt_read.specs.Expressions.{ReadsFactors}
use Rattle.kt_read.specs.Residuals.{Done, Closing}
use Rattle.kt_read.proofs.ExpressionSteps.{closing_follows, closing_completes, expression_completes, expression_then_completes, terms_follow, sum_here, terms_step, terms_end, terms_go_on, terms_complete, factors_follow, product_here, factors_step, factors_end, factors_go_on, factors_complete, after_sum_follow, sums_follow, sums_complete, expression_here, atom_end, after_atom_follows, after_atom_completes, comparison_step, comparison_end, comparison_goes_on, after_sum_completes, compared_follows, number_here, name_here, group_here, after_name_completes, square_here, call_here, bare_reads, in_call_completes}
use Rattle.kt_read.proofs.Operators.{additive_is_token, multiplicative_is_token, comparison_is_token}
use Rattle.kt_read.proofs.Shrinking.{moved_left, advanced_falls, reads_left, sign_falls, name_falls}
use Rattle.kt_read.proofs.Completing.{done_completes}
use Rattle.kt_read.proofs.Still.{here, next, done, fails, answers, made, deep_at, any_follows, next_any, fails_any}
use Rattle.kt_read.proofs.reader.expressions.+expression.Goals as goal

pub after_name-returns-in_err-expect : goal.after_name-returns-in_err-expect
after_name-returns-in_err-expect t c =
    let s0 = square_here _ _ _ (c.is.ensures.0 c.if-is.true) in
    let p = err_from_is_err_and c.from_residual.result c.from_residual.ensures.1 in
    rw (p.1, p.2) (fails_any _ _ s0 c.in_err-expect.ensures (λ x. expression_then_completes T.SquareClose (λ e. Done (Elem c.args.name c.args.place e)) (done_completes (Elem c.args.name c.args.place (Num 0)))))

pub after_name-expression_then-requires : goal.after_name-expression_then-requires
after_name-expression_then-requires t c =
    let f = sign_falls c.in_ok-expect.ensures in
    (omega (arith, f), refl)

pub after_name-returns-in_err-at : goal.after_name-returns-in_err-at
after_name-returns-in_err-at t c =
    let s0 = square_here _ _ _ (c.is.ensures.0 c.if-is.true) in
    let s1 = next_any s0 c.in_ok-expect.ensures in
    let p = err_from_is_err_and c.from_residual-in_err-at.result c.from_residual-in_err-at.ensures.1 in
    rw (p.1, p.2) (fails_any _ _ s1 c.in_err-at.ensures (λ x. done_completes (Elem c.args.name c.args.place x)))

pub after_name-returns-then-is : goal.after_name-returns-then-is
after_name-returns-then-is t c =
    let s0 = square_here _ _ _ (c.is.ensures.0 c.if-is.true) in
    let s1 = next_any s0 c.in_ok-expect.ensures in
    made _ c.element.ensures (done (next_any s1 c.in_ok-at.ensures))

pub after_name-returns-in_default : goal.after_name-returns-in_default
after_name-returns-in_default t c =
    bare_reads _ _ _ (λ e. cc (c.is.ensures.1 e, c.if-is.false)) (λ e. sym c.function.ensures ∙ c.in_default.is)

pub after_name-returns-then-not-is : goal.after_name-returns-then-not-is
after_name-returns-then-not-is t c =
    bare_reads _ _ _ (λ e. cc (c.is.ensures.1 e, c.if-is.false)) (λ e. cc (c.is-2.ensures.1 e, c.if-not-is.true))

pub after_name-returns-in_err-expect-2 : goal.after_name-returns-in_err-expect-2
after_name-returns-in_err-expect-2 t c =
    let s0 = call_here _ _ c.in-Some.op _ (sym c.function.ensures ∙ c.in-Some.is) (c.is-2.ensures.0 c.if-not-is.false) in
    let p = err_from_is_err_and c.from_residual-in_err-expect-2.result c.from_residual-in_err-expect-2.ensures.1 in
    rw (p.1, p.2) (fails_any _ _ s0 c.in_err-expect-2.ensures (λ x. in_call_completes c.in-Some.op))

pub after_name-expression_then-requires-2 : goal.after_name-expression_then-requires-2
after_name-expression_then-requires-2 t c =
    let f = sign_falls c.in_ok-expect-2.ensures in
    (omega (arith, f), refl)

pub after_name-returns-in_err-left : goal.after_name-returns-in_err-left
after_name-returns-in_err-left t c =
    let s0 = call_here _ _ c.in-Some.op _ (sym c.function.ensures ∙ c.in-Some.is) (c.is-2.ensures.0 c.if-not-is.false) in
    let s1 = next_any s0 c.in_ok-expect-2.ensures in
    let p = err_from_is_err_and c.from_residual-in_err-left.result c.from_residual-in_err-left.ensures.1 in
    rw (p.1, p.2) (fails_any _ _ s1 c.in_err-left.ensures (λ x. expression_then_completes T.ParenClose (λ b. Done (Bin c.in-Some.op x b)) (done_completes (Bin c.in-Some.op x (Num 0)))))

pub after_name-expression_then-requires-3 : goal.after_name-expression_then-requires-3
after_name-expression_then-requires-3 t c =
    let f = sign_falls c.in_ok-expect-2.ensures in
    let g = reads_left c.in_ok-left.ensures in
    (omega (arith, f, g), refl)

pub after_name-returns-in_err-right : goal.after_name-returns-in_err-right
after_name-returns-in_err-right t c =
    let s0 = call_here _ _ c.in-Some.op _ (sym c.function.ensures ∙ c.in-Some.is) (c.is-2.ensures.0 c.if-not-is.false) in
    let s1 = next_any s0 c.in_ok-expect-2.ensures in
    let s2 = next_any s1 c.in_ok-left.ensures in
    let p = err_from_is_err_and c.from_residual-in_err-right.result c.from_residual-in_err-right.ensures.1 in
    rw (p.1, p.2) (fails_any _ _ s2 c.in_err-right.ensures (λ x. done_completes (Bin c.in-Some.op c.in_ok-left.left x)))

pub after_name-returns : goal.after_name-returns
after_name-returns t c =
    let s0 = call_here _ _ c.in-Some.op _ (sym c.function.ensures ∙ c.in-Some.is) (c.is-2.ensures.0 c.if-not-is.false) in
    let s1 = next_any s0 c.in_ok-expect-2.ensures in
    let s2 = next_any s1 c.in_ok-left.ensures in
    made _ c.call.ensures (done (next_any s2 c.in_ok-right.ensures))

pub atom-returns-in_err-number-in-Number : goal.atom-returns-in_err-number-in-Number
atom-returns-in_err-number-in-Number t c =
    let e = ap (λ u. u.symbol) (sym c.next.ensures) ∙ c.in-Number.is in
    let p = err_from_is_err_and c.from_residual.result c.from_residual.ensures.1 in
    rw (p.1, p.2) (fails_any _ _ (number_here _ _ e) c.in_err-number-in-Number.ensures (λ x. done_completes (Num x)))

pub atom-returns-in_ok-number-in-Number : goal.atom-returns-in_ok-number-in-Number
atom-returns-in_ok-number-in-Number t c =
    let e = ap (λ u. u.symbol) (sym c.next.ensures) ∙ c.in-Number.is in
    done (next_any (number_here _ _ e) c.in_ok-number-in-Number.ensures)

pub atom-returns-in_err-name-in-Name : goal.atom-returns-in_err-name-in-Name
atom-returns-in_err-name-in-Name t c =
    let e = ap (λ u. u.symbol) (sym c.next.ensures) ∙ c.in-Name.is in
    let p = err_from_is_err_and c.from_residual-in_err-name-in-Name.result c.from_residual-in_err-name-in-Name.ensures.1 in
    rw (p.1, p.2) (fails_any _ _ (name_here _ _ e) c.in_err-name-in-Name.ensures (λ x. after_name_completes x.0 x.1))

pub atom-after_name-requires : goal.atom-after_name-requires
atom-after_name-requires t c =
    let f = name_falls c.in_ok-name-in-Name.ensures in
    omega (arith, f)

pub atom-returns-in_ok-name-in-Name : goal.atom-returns-in_ok-name-in-Name
atom-returns-in_ok-name-in-Name t c =
    let e = ap (λ u. u.symbol) (sym c.next.ensures) ∙ c.in-Name.is in
    answers after_atom _ _ (next_any (name_here _ _ e) c.in_ok-name-in-Name.ensures) c.after_name.ensures (λ us h. h)

pub atom-returns-in_err-expect-in_default : goal.atom-returns-in_err-expect-in_default
atom-returns-in_err-expect-in_default t c =
    let s0 = group_here _ (λ n e. c.in_default.not-Number n (ap (λ u. u.symbol) c.next.ensures ∙ e)) (λ n e. c.in_default.not-Name n (ap (λ u. u.symbol) c.next.ensures ∙ e)) in
    let p = err_from_is_err_and c.from_residual-in_err-expect-in_default.result c.from_residual-in_err-expect-in_default.ensures.1 in
    rw (p.1, p.2) (fails_any _ _ s0 c.in_err-expect-in_default.ensures (λ x. expression_completes (λ e. Closing T.ParenClose e) (closing_completes T.ParenClose (Num 0))))

pub atom-expression_then-requires : goal.atom-expression_then-requires
atom-expression_then-requires t c =
    let f = sign_falls c.in_ok-expect-in_default.ensures in
    (omega (arith, f), refl)

pub atom-returns-in_ok-expect-in_default : goal.atom-returns-in_ok-expect-in_default
atom-returns-in_ok-expect-in_default t c =
    let s0 = group_here _ (λ n e. c.in_default.not-Number n (ap (λ u. u.symbol) c.next.ensures ∙ e)) (λ n e. c.in_default.not-Name n (ap (λ u. u.symbol) c.next.ensures ∙ e)) in
    answers any _ _ (next_any s0 c.in_ok-expect-in_default.ensures) c.expression_then.ensures (λ us h. any_follows us)

pub compared-returns-in_default : goal.compared-returns-in_default
compared-returns-in_default t c =
    rw c.into_inner.ensures (comparison_end _ _ (sym c.comparison.ensures ∙ c.in_default.is))

pub compared-returns-in_err-advance : goal.compared-returns-in_err-advance
compared-returns-in_err-advance t c =
    let o = sym c.comparison.ensures ∙ c.in-Some.is in
    let p = err_from_is_err_and c.from_residual.result c.from_residual.ensures.1 in
    rw (p.1, p.2) (deep_at (here c.args.source.now) _ _ c.in_err-advance.ensures (comparison_is_token _ _ o) (comparison_goes_on _ _ _ o))

pub compared-sum-requires : goal.compared-sum-requires
compared-sum-requires t c =
    let o = sym c.comparison.ensures ∙ c.in-Some.is in
    let a : Advanced _ _ = record { behind = c.in_ok-advance.ensures.0; is_token = comparison_is_token _ _ o; fits = c.in_ok-advance.ensures.1 } in
    let f = advanced_falls a in
    omega (arith, f)

pub compared-returns-in_err-right : goal.compared-returns-in_err-right
compared-returns-in_err-right t c =
    let o = sym c.comparison.ensures ∙ c.in-Some.is in
    let a : Advanced _ _ = record { behind = c.in_ok-advance.ensures.0; is_token = comparison_is_token _ _ o; fits = c.in_ok-advance.ensures.1 } in
    let s = comparison_step _ _ o a in
    let p = err_from_is_err_and c.from_residual-in_err-right.result c.from_residual-in_err-right.ensures.1 in
    rw (p.1, p.2) (fails after_sum _ _ s c.in_err-right.ensures (λ b. compared_follows (Bin c.in-Some.op c.args.left b)) (λ b. done_completes (Bin c.in-Some.op c.args.left b)))

pub compared-returns : goal.compared-returns
compared-returns t c =
    let o = sym c.comparison.ensures ∙ c.in-Some.is in
    let a : Advanced _ _ = record { behind = c.in_ok-advance.ensures.0; is_token = comparison_is_token _ _ o; fits = c.in_ok-advance.ensures.1 } in
    let s = comparison_step _ _ o a in
    done (next s c.in_ok-right.ensures (λ b. compared_follows (Bin c.in-Some.op c.args.left b)))

pub expression-returns-in_err-first : goal.expression-returns-in_err-first
expression-returns-in_err-first t c =
    let p = err_from_is_err_and c.from_residual.result c.from_residual.ensures.1 in
    rw (p.1, p.2) (fails after_atom _ _ (expression_here _) c.in_err-first.ensures after_atom_follows after_atom_completes)

pub expression-expression_behind-requires : goal.expression-expression_behind-requires
expression-expression_behind-requires t c =
    let f = reads_left c.in_ok-first.ensures in
    omega (arith, f)

pub expression-returns : goal.expression-returns
expression-returns t c =
    answers after_expression _ _ (next (expression_here _) c.in_ok-first.ensures after_atom_follows) c.expression_behind.ensures (λ us h. h)

pub expression_behind-returns-then-ends_expression : goal.expression_behind-returns-then-ends_expression
expression_behind-returns-then-ends_expression t c =
    atom_end _ _ (sym c.ends_expression.ensures ∙ c.if-ends_expression.true)

pub expression_behind-returns-in_err-product : goal.expression_behind-returns-in_err-product
expression_behind-returns-in_err-product t c =
    let h = subst (λ x. Answers (ReadsFactors x) after_product c.args.source.now c.factors.new.source (Err c.in_err-product.field-0.0)) c.in_ok-operand.ensures c.in_err-product.ensures in
    let p = err_from_is_err_and c.from_residual-in_err-product.result c.from_residual-in_err-product.ensures.1 in
    rw (p.1, p.2) (fails after_product _ _ (here _) h (λ b. sums_follow b) sums_complete)

pub expression_behind-terms-requires : goal.expression_behind-terms-requires
expression_behind-terms-requires t c =
    let f = reads_left c.in_ok-product.ensures in
    omega (arith, f)

pub expression_behind-returns-in_err-sum : goal.expression_behind-returns-in_err-sum
expression_behind-returns-in_err-sum t c =
    let h = rw c.in_ok-operand.ensures at c.in_ok-product.ensures in
    let s1 = next (here _) h (λ b. sums_follow b) in
    let p = err_from_is_err_and c.from_residual-in_err-sum.result c.from_residual-in_err-sum.ensures.1 in
    rw (p.1, p.2) (fails after_sum _ _ s1 c.in_err-sum.ensures after_sum_follow after_sum_completes)

pub expression_behind-compared-requires : goal.expression_behind-compared-requires
expression_behind-compared-requires t c =
    let f = reads_left c.in_ok-product.ensures in
    let g = reads_left c.in_ok-sum.ensures in
    omega (arith, f, g)

pub expression_behind-returns : goal.expression_behind-returns
expression_behind-returns t c =
    let h = rw c.in_ok-operand.ensures at c.in_ok-product.ensures in
    let s1 = next (here _) h (λ b. sums_follow b) in
    answers after_expression _ _ (next s1 c.in_ok-sum.ensures after_sum_follow) c.compared.ensures (λ us h. h)

pub expression_then-returns-in_err-inner : goal.expression_then-returns-in_err-inner
expression_then-returns-in_err-inner t c =
    let p = err_from_is_err_and c.from_residual.result c.from_residual.ensures.1 in
    rw (p.1, p.2) (fails after_expression _ _ (here _) c.in_err-inner.ensures (λ x a vs us k h. closing_follows after_expression c.args.mark c.requires x a vs us k) (λ x. closing_completes c.args.mark x))

pub expression_then-returns-in_err-expect : goal.expression_then-returns-in_err-expect
expression_then-returns-in_err-expect t c =
    let p = err_from_is_err_and c.from_residual-in_err-expect.result c.from_residual-in_err-expect.ensures.1 in
    rw (p.1, p.2) (fails_any _ _ (next (here _) c.in_ok-inner.ensures (λ x a vs us k h. closing_follows after_expression c.args.mark c.requires x a vs us k)) c.in_err-expect.ensures (λ x. done_completes c.in_ok-inner.inner))

pub expression_then-returns : goal.expression_then-returns
expression_then-returns t c =
    done (next_any (next (here _) c.in_ok-inner.ensures (λ x a vs us k h. closing_follows after_expression c.args.mark c.requires x a vs us k)) c.in_ok-expect.ensures)

pub factors-factors-init : goal.factors-factors-init
factors-factors-init t c =
    here _

pub factors-returns-in_err-advance : goal.factors-returns-in_err-advance
factors-returns-in_err-advance t c =
    let o = sym c.multiplicative.ensures ∙ c.in-Some.is in
    let p = err_from_is_err_and c.from_residual.result c.from_residual.ensures.1 in
    rw (p.1, p.2) (deep_at c.factors.invariant _ _ c.in_err-advance.ensures (multiplicative_is_token _ _ o) (factors_go_on _ _ _ o))

pub factors-operand-requires : goal.factors-operand-requires
factors-operand-requires t c =
    let o = sym c.multiplicative.ensures ∙ c.in-Some.is in
    let a : Advanced _ _ = record { behind = c.in_ok-advance.ensures.0; is_token = multiplicative_is_token _ _ o; fits = c.in_ok-advance.ensures.1 } in
    let f = advanced_falls a in
    let g = moved_left c.factors.invariant.moved in
    omega (arith, f, g)

pub factors-returns-in_err-right : goal.factors-returns-in_err-right
factors-returns-in_err-right t c =
    let o = sym c.multiplicative.ensures ∙ c.in-Some.is in
    let a : Advanced _ _ = record { behind = c.in_ok-advance.ensures.0; is_token = multiplicative_is_token _ _ o; fits = c.in_ok-advance.ensures.1 } in
    let s = factors_step _ _ o c.factors.invariant a in
    let p = err_from_is_err_and c.from_residual-in_err-right.result c.from_residual-in_err-right.ensures.1 in
    rw (p.1, p.2) (fails after_atom _ _ s c.in_err-right.ensures (λ b. factors_follow (Bin c.in-Some.op c.factors.left b)) (λ b. factors_complete (Bin c.in-Some.op c.factors.left b)))

pub factors-factors-smaller : goal.factors-factors-smaller
factors-factors-smaller t c =
    let o = sym c.multiplicative.ensures ∙ c.in-Some.is in
    let a : Advanced _ _ = record { behind = c.in_ok-advance.ensures.0; is_token = multiplicative_is_token _ _ o; fits = c.in_ok-advance.ensures.1 } in
    let f = advanced_falls a in
    let g = reads_left c.in_ok-right.ensures in
    omega (arith, f, g)

pub factors-factors-preserved : goal.factors-factors-preserved
factors-factors-preserved t c =
    let o = sym c.multiplicative.ensures ∙ c.in-Some.is in
    let a : Advanced _ _ = record { behind = c.in_ok-advance.ensures.0; is_token = multiplicative_is_token _ _ o; fits = c.in_ok-advance.ensures.1 } in
    let s = factors_step _ _ o c.factors.invariant a in
    rw c.in_ok-left.ensures (next s c.in_ok-right.ensures (λ b. factors_follow (Bin c.in-Some.op c.factors.left b)))

pub factors-returns : goal.factors-returns
factors-returns t c =
    factors_end _ (sym c.multiplicative.ensures ∙ c.in_default.is) c.factors.invariant

pub terms-terms-init : goal.terms-terms-init
terms-terms-init t c =
    here _

pub terms-returns-in_err-advance : goal.terms-returns-in_err-advance
terms-returns-in_err-advance t c =
    let o = sym c.additive.ensures ∙ c.in-Some.is in
    let p = err_from_is_err_and c.from_residual.result c.from_residual.ensures.1 in
    rw (p.1, p.2) (deep_at c.terms.invariant _ _ c.in_err-advance.ensures (additive_is_token _ _ o) (terms_go_on _ _ _ o))

pub terms-product-requires : goal.terms-product-requires
terms-product-requires t c =
    let o = sym c.additive.ensures ∙ c.in-Some.is in
    let a : Advanced _ _ = record { behind = c.in_ok-advance.ensures.0; is_token = additive_is_token _ _ o; fits = c.in_ok-advance.ensures.1 } in
    let f = advanced_falls a in
    let g = moved_left c.terms.invariant.moved in
    omega (arith, f, g)

pub terms-returns-in_err-right : goal.terms-returns-in_err-right
terms-returns-in_err-right t c =
    let o = sym c.additive.ensures ∙ c.in-Some.is in
    let a : Advanced _ _ = record { behind = c.in_ok-advance.ensures.0; is_token = additive_is_token _ _ o; fits = c.in_ok-advance.ensures.1 } in
    let s = terms_step _ _ o c.terms.invariant a in
    let p = err_from_is_err_and c.from_residual-in_err-right.result c.from_residual-in_err-right.ensures.1 in
    rw (p.1, p.2) (fails after_product _ _ s c.in_err-right.ensures (λ b. terms_follow (Bin c.in-Some.op c.terms.left b)) (λ b. terms_complete (Bin c.in-Some.op c.terms.left b)))

pub terms-terms-smaller : goal.terms-terms-smaller
terms-terms-smaller t c =
    let o = sym c.additive.ensures ∙ c.in-Some.is in
    let a : Advanced _ _ = record { behind = c.in_ok-advance.ensures.0; is_token = additive_is_token _ _ o; fits = c.in_ok-advance.ensures.1 } in
    let f = advanced_falls a in
    let g = reads_left c.in_ok-right.ensures in
    omega (arith, f, g)

pub terms-terms-preserved : goal.terms-terms-preserved
terms-terms-preserved t c =
    let o = sym c.additive.ensures ∙ c.in-Some.is in
    let a : Advanced _ _ = record { behind = c.in_ok-advance.ensures.0; is_token = additive_is_token _ _ o; fits = c.in_ok-advance.ensures.1 } in
    let s = terms_step _ _ o c.terms.invariant a in
    rw c.in_ok-left.ensures (next s c.in_ok-right.ensures (λ b. terms_follow (Bin c.in-Some.op c.terms.left b)))

pub terms-returns : goal.terms-returns
terms-returns t c =
    terms_end _ (sym c.additive.ensures ∙ c.in_default.is) c.terms.invariant

pub product-returns-in_err-first : goal.product-returns-in_err-first
product-returns-in_err-first t c =
    let p = err_from_is_err_and c.from_residual.result c.from_residual.ensures.1 in
    rw (p.1, p.2) (fails after_atom _ _ (product_here _) c.in_err-first.ensures factors_follow factors_complete)

pub product-factors-requires : goal.product-factors-requires
product-factors-requires t c =
    let f = reads_left c.in_ok-first.ensures in
    omega (arith, f)

pub product-returns : goal.product-returns
product-returns t c =
    answers after_product _ _ (next (product_here _) c.in_ok-first.ensures factors_follow) c.factors.ensures (λ us h. h)

pub sum-returns-in_err-first : goal.sum-returns-in_err-first
sum-returns-in_err-first t c =
    let p = err_from_is_err_and c.from_residual.result c.from_residual.ensures.1 in
    rw (p.1, p.2) (fails after_product _ _ (sum_here _) c.in_err-first.ensures terms_follow terms_complete)

pub sum-terms-requires : goal.sum-terms-requires
sum-terms-requires t c =
    let f = reads_left c.in_ok-first.ensures in
    omega (arith, f)

pub sum-returns : goal.sum-returns
sum-returns t c =
    answers after_sum _ _ (next (sum_here _) c.in_ok-first.ensures terms_follow) c.terms.ensures (λ us h. h)

pub operand-returns-in_err-read : goal.operand-returns-in_err-read
operand-returns-in_err-read t c =
    let p = err_from_is_err_and c.from_residual.result c.from_residual.ensures.1 in
    rw (p.1, p.2) c.in_err-read.ensures

pub operand-returns : goal.operand-returns
operand-returns t c =
    made _ c.boxed.ensures c.in_ok-read.ensures
