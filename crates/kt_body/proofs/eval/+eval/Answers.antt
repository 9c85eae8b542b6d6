use Rattle.std.proofs.Common.{rules}
use Rattle.std.proofs.lemmas.Result.{err_from_is_err_and}
use Rattle.kt_body.proofs.Steps.{can_small, ran_give, ran_same, ran_stop, still_can, still_err, still_here, still_is, still_next}
use Rattle.kt_body.proofs.Values.{at_value, value_num, value_var, value_elem, value_bin}
use Rattle.kt_prog.specs.declared.programs.Expr.TheViews.{the_lemmas, sized-Elem, sized-Bin}
use Rattle.kt_body.proofs.eval.+eval.Goals as goal

pub number_at-requires : goal.number_at-requires
number_at-requires g t c = (can_small _ c.requires).0

pub object_at-object-requires : goal.object_at-object-requires
object_at-object-requires g t c = (can_small _ c.requires).0

pub eval-requires : goal.eval-requires
eval-requires g t c κs within =
    let s0 = still_is _ _ _ (still_here _ c.requires) (at_value _ _ _ _ c.in-Elem.is (value_elem _ _ _ _)) in
    let s1 = still_next _ _ _ s0 (ran_same _ _ _ c.object_at-object.ensures.object) in
    let can = rw (← c.get.ensures) at (still_can _ _ _ s1) in
    search (rules, the_lemmas, sized-Elem)

pub returns-in_err-i-in-Elem : goal.returns-in_err-i-in-Elem
returns-in_err-i-in-Elem g t c =
    let s0 = still_is _ _ _ (still_here _ c.requires) (at_value _ _ _ _ c.in-Elem.is (value_elem _ _ _ _)) in
    let s1 = still_next _ _ _ s0 (ran_same _ _ _ c.object_at-object.ensures.object) in
    let p = err_from_is_err_and c.from_residual.result c.from_residual.ensures.1 in
    rw (p.1, p.2) (still_err _ _ _ s1 (rw c.get.ensures at c.in_err-i-in-Elem.ensures))

pub load_element-requires : goal.load_element-requires
load_element-requires g t c =
    let s0 = still_is _ _ _ (still_here _ c.requires) (at_value _ _ _ _ c.in-Elem.is (value_elem _ _ _ _)) in
    let s1 = still_next _ _ _ s0 (ran_same _ _ _ c.object_at-object.ensures.object) in
    let s2 = still_next _ _ _ s1 (rw c.get.ensures at c.in_ok-i-in-Elem.ensures) in
    s2.can

pub returns-in_ok-i-in-Elem : goal.returns-in_ok-i-in-Elem
returns-in_ok-i-in-Elem g t c =
    let s0 = still_is _ _ _ (still_here _ c.requires) (at_value _ _ _ _ c.in-Elem.is (value_elem _ _ _ _)) in
    let s1 = still_next _ _ _ s0 (ran_same _ _ _ c.object_at-object.ensures.object) in
    let s2 = still_next _ _ _ s1 (rw c.get.ensures at c.in_ok-i-in-Elem.ensures) in
    s2.ends _ _ c.load_element.ensures

pub eval-requires-in-Bin : goal.eval-requires-in-Bin
eval-requires-in-Bin g t c κs within =
    let s0 = still_is _ _ _ (still_here _ c.requires) (at_value _ _ _ _ c.in-Bin.is (value_bin _ _ _ _)) in
    let can = rw (← c.get-in-Bin.ensures) at (still_can _ _ _ s0) in
    search (rules, the_lemmas, sized-Bin)

pub returns-in_err-x-in-Bin : goal.returns-in_err-x-in-Bin
returns-in_err-x-in-Bin g t c =
    let s0 = still_is _ _ _ (still_here _ c.requires) (at_value _ _ _ _ c.in-Bin.is (value_bin _ _ _ _)) in
    let p = err_from_is_err_and c.from_residual-in_err-x-in-Bin.result c.from_residual-in_err-x-in-Bin.ensures.1 in
    rw (p.1, p.2) (still_err _ _ _ s0 (rw c.get-in-Bin.ensures at c.in_err-x-in-Bin.ensures))

pub eval-requires-in-Bin-2 : goal.eval-requires-in-Bin-2
eval-requires-in-Bin-2 g t c κs within =
    let s0 = still_is _ _ _ (still_here _ c.requires) (at_value _ _ _ _ c.in-Bin.is (value_bin _ _ _ _)) in
    let s1 = still_next _ _ _ s0 (rw c.get-in-Bin.ensures at c.in_ok-x-in-Bin.ensures) in
    let can = rw (← c.get-in-Bin-2.ensures) at (still_can _ _ _ s1) in
    search (rules, the_lemmas, sized-Bin)

pub returns-in_err-y-in-Bin : goal.returns-in_err-y-in-Bin
returns-in_err-y-in-Bin g t c =
    let s0 = still_is _ _ _ (still_here _ c.requires) (at_value _ _ _ _ c.in-Bin.is (value_bin _ _ _ _)) in
    let s1 = still_next _ _ _ s0 (rw c.get-in-Bin.ensures at c.in_ok-x-in-Bin.ensures) in
    let p = err_from_is_err_and c.from_residual-in_err-y-in-Bin.result c.from_residual-in_err-y-in-Bin.ensures.1 in
    rw (p.1, p.2) (still_err _ _ _ s1 (rw c.get-in-Bin-2.ensures at c.in_err-y-in-Bin.ensures))

pub returns-in-Num : goal.returns-in-Num
returns-in-Num g t c = ran_same _ _ _ (at_value _ _ _ _ c.in-Num.is (value_num _ _))

pub returns-in-Var : goal.returns-in-Var
returns-in-Var g t c =
    (still_is _ _ _ (still_here _ c.requires) (at_value _ _ _ _ c.in-Var.is (value_var _ _ _))).ends _ _ (ran_same _ _ _ c.number_at.ensures)

pub returns-in-Some : goal.returns-in-Some
returns-in-Some g t c =
    let s0 = still_is _ _ _ (still_here _ c.requires) (at_value _ _ _ _ c.in-Bin.is (value_bin _ _ _ _)) in
    let s1 = still_next _ _ _ s0 (rw c.get-in-Bin.ensures at c.in_ok-x-in-Bin.ensures) in
    let s2 = still_next _ _ _ s1 (rw c.get-in-Bin-2.ensures at c.in_ok-y-in-Bin.ensures) in
    s2.ends _ _ (rw (← c.in-Some.ensures.value) (ran_give _ _))

pub returns-in-None : goal.returns-in-None
returns-in-None g t c =
    let s0 = still_is _ _ _ (still_here _ c.requires) (at_value _ _ _ _ c.in-Bin.is (value_bin _ _ _ _)) in
    let s1 = still_next _ _ _ s0 (rw c.get-in-Bin.ensures at c.in_ok-x-in-Bin.ensures) in
    let s2 = still_next _ _ _ s1 (rw c.get-in-Bin-2.ensures at c.in_ok-y-in-Bin.ensures) in
    s2.ends _ _ (rw (← c.in-None.ensures.value) (ran_stop _ _ _))
