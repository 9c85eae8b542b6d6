use Rattle.std.proofs.Common.{◌≤◌, ◌<◌}
use Rattle.kt_law.specs.declared.limits.TheConstants.{LENGTH}
use Rattle.std.proofs.lemmas.Result.{err_from_is_err_and}
use Rattle.kt_body.proofs.Steps.{ran_give, still_can, still_err, still_here, still_is, still_next}
use Rattle.kt_body.proofs.Values.{at_most, not_at_most, ran_denied, ran_tested}
use Rattle.kt_body.proofs.Passing.{at_length}
use Rattle.kt_body.proofs.forks.length_of.Goals as goal

pub eval-requires : goal.eval-requires
eval-requires g c =
    let s0 = still_is _ _ _ (still_here _ c.requires) (at_length _ _ _ c.in-Some.is) in
    still_can _ _ _ s0

pub returns-in_err-n-in-Some : goal.returns-in_err-n-in-Some
returns-in_err-n-in-Some g c =
    let s0 = still_is _ _ _ (still_here _ c.requires) (at_length _ _ _ c.in-Some.is) in
    let p = err_from_is_err_and c.from_residual.result c.from_residual.ensures.1 in
    rw (p.1, p.2) (still_err _ _ _ s0 c.in_err-n-in-Some.ensures)

pub returns-then-n-from : goal.returns-then-n-from
returns-then-n-from g c =
    let s0 = still_is _ _ _ (still_here _ c.requires) (at_length _ _ _ c.in-Some.is) in
    let s1 = still_next _ _ _ s0 c.in_ok-n-in-Some.ensures in
    let long : LENGTH < c.in_ok-n-in-Some.n = rw c.from.ensures at c.if-n-from.true in
    still_err _ _ _ s1 (ran_denied _ _ _ _ (not_at_most _ _ long))

pub returns-in-None : goal.returns-in-None
returns-in-None g c =
    (still_is _ _ _ (still_here _ c.requires) (at_length _ _ _ c.in-None.is)).ends _ _ (ran_give _ _)

pub returns-else-n-from : goal.returns-else-n-from
returns-else-n-from g c =
    let s0 = still_is _ _ _ (still_here _ c.requires) (at_length _ _ _ c.in-Some.is) in
    let s1 = still_next _ _ _ s0 c.in_ok-n-in-Some.ensures in
    let fine : c.in_ok-n-in-Some.n ≤ LENGTH = rw (← c.from.ensures) c.if-n-from.false in
    let s2 = still_next _ _ _ s1 (ran_tested _ _ _ _ (at_most _ _ fine)) in
    s2.ends _ _ (ran_give _ _)
