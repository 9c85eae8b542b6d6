use Rattle.std.proofs.Common.{◌∙◌}
use Rattle.std.proofs.lemmas.Result.{err_from_is_err_and}
use Rattle.kt_body.proofs.Steps.{can_small, ran_same, still_can, still_err, still_here, still_is, still_next}
use Rattle.kt_body.proofs.Objects.{ran_comes}
use Rattle.kt_body.proofs.Passing.{at_range}
use Rattle.kt_body.proofs.forks.range_arg.Goals as goal

pub range_expr-requires : goal.range_expr-requires
range_expr-requires g c =
    (can_small _ c.requires).0

pub range_at-range-requires : goal.range_at-range-requires
range_at-range-requires g c =
    (can_small _ c.requires).0

pub eval-requires : goal.eval-requires
eval-requires g c =
    let s0 = still_is _ _ _ (still_here _ c.requires) (at_range _ _ _ c.in-Span.is) in
    let s1 = still_next _ _ _ s0 (ran_same _ _ _ c.range_at-range.ensures) in
    still_can _ _ _ s1

pub returns-in_err-from-in-Span : goal.returns-in_err-from-in-Span
returns-in_err-from-in-Span g c =
    let s0 = still_is _ _ _ (still_here _ c.requires) (at_range _ _ _ c.in-Span.is) in
    let s1 = still_next _ _ _ s0 (ran_same _ _ _ c.range_at-range.ensures) in
    let p = err_from_is_err_and c.from_residual.result c.from_residual.ensures.1 in
    rw (p.1, p.2) (still_err _ _ _ s1 c.in_err-from-in-Span.ensures)

pub eval-requires-in-Span : goal.eval-requires-in-Span
eval-requires-in-Span g c =
    let s0 = still_is _ _ _ (still_here _ c.requires) (at_range _ _ _ c.in-Span.is) in
    let s1 = still_next _ _ _ s0 (ran_same _ _ _ c.range_at-range.ensures) in
    let s2 = still_next _ _ _ s1 c.in_ok-from-in-Span.ensures in
    still_can _ _ _ s2

pub returns-in_err-to-in-Span : goal.returns-in_err-to-in-Span
returns-in_err-to-in-Span g c =
    let s0 = still_is _ _ _ (still_here _ c.requires) (at_range _ _ _ c.in-Span.is) in
    let s1 = still_next _ _ _ s0 (ran_same _ _ _ c.range_at-range.ensures) in
    let s2 = still_next _ _ _ s1 c.in_ok-from-in-Span.ensures in
    let p = err_from_is_err_and c.from_residual-in_err-to-in-Span.result c.from_residual-in_err-to-in-Span.ensures.1 in
    rw (p.1, p.2) (still_err _ _ _ s2 c.in_err-to-in-Span.ensures)

pub returns-in-Value : goal.returns-in-Value
returns-in-Value g c =
    ran_same _ _ _ (at_range _ _ _ c.in-Value.is ∙ c.range_expr.ensures)

pub returns-in_ok-to-in-Span : goal.returns-in_ok-to-in-Span
returns-in_ok-to-in-Span g c =
    let s0 = still_is _ _ _ (still_here _ c.requires) (at_range _ _ _ c.in-Span.is) in
    let s1 = still_next _ _ _ s0 (ran_same _ _ _ c.range_at-range.ensures) in
    let s2 = still_next _ _ _ s1 c.in_ok-from-in-Span.ensures in
    let s3 = still_next _ _ _ s2 c.in_ok-to-in-Span.ensures in
    s3.ends _ _ (ran_comes _ _ _ _ _ _ c.members.ensures)
