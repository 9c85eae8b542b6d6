use Rattle.std.proofs.Common.{◌∙◌}
use Rattle.std.proofs.lemmas.Result.{err_from_is_err_and}
use Rattle.kt_body.proofs.Steps.{can_small, ran_same, still_can, still_err, still_here, still_is, still_next}
use Rattle.kt_body.proofs.Objects.{at_bin, at_elem, at_num, at_var, ran_comes}
use Rattle.kt_body.proofs.forks.object_expr.Goals as goal

pub object_at-requires : goal.object_at-requires
object_at-requires g c =
    (can_small _ c.requires).0

pub range_at-range-requires : goal.range_at-range-requires
range_at-range-requires g c =
    (can_small _ c.requires).0

pub eval-requires : goal.eval-requires
eval-requires g c =
    let s0 = still_is _ _ _ (still_here _ c.requires) (at_elem _ _ _ _ _ c.in-Elem.is) in
    let s1 = still_next _ _ _ s0 (ran_same _ _ _ c.range_at-range.ensures) in
    rw c.get.ensures (still_can _ _ _ s1)

pub returns-in_err-i-in-Elem-clause-value : goal.returns-in_err-i-in-Elem-clause-value
returns-in_err-i-in-Elem-clause-value g c =
    let s0 = still_is _ _ _ (still_here _ c.requires) (at_elem _ _ _ _ _ c.in-Elem.is) in
    let s1 = still_next _ _ _ s0 (ran_same _ _ _ c.range_at-range.ensures) in
    let p = err_from_is_err_and c.from_residual.result c.from_residual.ensures.1 in
    rw (p.1, p.2) (still_err _ _ _ s1 (rw c.get.ensures at c.in_err-i-in-Elem.ensures))

pub returns-in-Num-clause-value : goal.returns-in-Num-clause-value
returns-in-Num-clause-value g c =
    ran_same _ _ _ (at_num _ _ _ c.in-Num.is)

pub returns-in-Var-clause-value : goal.returns-in-Var-clause-value
returns-in-Var-clause-value g c =
    ran_same _ _ _ (at_var _ _ _ _ c.in-Var.is ∙ c.object_at.ensures.object)

pub returns-in_ok-i-in-Elem-clause-value : goal.returns-in_ok-i-in-Elem-clause-value
returns-in_ok-i-in-Elem-clause-value g c =
    let s0 = still_is _ _ _ (still_here _ c.requires) (at_elem _ _ _ _ _ c.in-Elem.is) in
    let s1 = still_next _ _ _ s0 (ran_same _ _ _ c.range_at-range.ensures) in
    let s2 = still_next _ _ _ s1 (rw c.get.ensures at c.in_ok-i-in-Elem.ensures) in
    s2.ends _ _ (ran_comes _ _ _ _ _ _ c.member.ensures.value)

pub returns-in-Bin-clause-value : goal.returns-in-Bin-clause-value
returns-in-Bin-clause-value g c =
    ran_same _ _ _ (at_bin _ _ _ _ _ c.in-Bin.is)
