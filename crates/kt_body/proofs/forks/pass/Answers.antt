use Rattle.std.proofs.lemmas.Result.{err_from_is_err_and}
use Rattle.kt_body.proofs.Steps.{ran_give, still_can, still_err, still_here, still_is, still_next}
use Rattle.kt_body.proofs.Passing.{at_argument}
use Rattle.kt_body.proofs.forks.pass.Goals as goal

pub number_arg-requires : goal.number_arg-requires
number_arg-requires g c =
    let s0 = still_is _ _ _ (still_here _ c.requires.can) (at_argument _ _ _ _ _ c.in-Int.is) in
    still_can _ _ _ s0

pub object_arg-requires : goal.object_arg-requires
object_arg-requires g c =
    let s0 = still_is _ _ _ (still_here _ c.requires.can) (at_argument _ _ _ _ _ c.in-One.is) in
    still_can _ _ _ s0

pub range_arg-requires : goal.range_arg-requires
range_arg-requires g c =
    let s0 = still_is _ _ _ (still_here _ c.requires.can) (at_argument _ _ _ _ _ c.in-Many.is) in
    still_can _ _ _ s0

pub returns-in_err-n-in-Int-clause-ran : goal.returns-in_err-n-in-Int-clause-ran
returns-in_err-n-in-Int-clause-ran g c =
    let s0 = still_is _ _ _ (still_here _ c.requires.can) (at_argument _ _ _ _ _ c.in-Int.is) in
    let p = err_from_is_err_and c.from_residual.result c.from_residual.ensures.1 in
    rw (p.1, p.2) (still_err _ _ _ s0 c.in_err-n-in-Int.ensures)

pub returns-in_err-object-in-One-clause-ran : goal.returns-in_err-object-in-One-clause-ran
returns-in_err-object-in-One-clause-ran g c =
    let s0 = still_is _ _ _ (still_here _ c.requires.can) (at_argument _ _ _ _ _ c.in-One.is) in
    let p = err_from_is_err_and c.from_residual-in_err-object-in-One.result c.from_residual-in_err-object-in-One.ensures.1 in
    rw (p.1, p.2) (still_err _ _ _ s0 c.in_err-object-in-One.ensures.value)

pub returns-in_err-range-in-Many-clause-ran : goal.returns-in_err-range-in-Many-clause-ran
returns-in_err-range-in-Many-clause-ran g c =
    let s0 = still_is _ _ _ (still_here _ c.requires.can) (at_argument _ _ _ _ _ c.in-Many.is) in
    let p = err_from_is_err_and c.from_residual-in_err-range-in-Many.result c.from_residual-in_err-range-in-Many.ensures.1 in
    rw (p.1, p.2) (still_err _ _ _ s0 c.in_err-range-in-Many.ensures)

pub returns-in_ok-n-in-Int-clause-ran : goal.returns-in_ok-n-in-Int-clause-ran
returns-in_ok-n-in-Int-clause-ran g c =
    let s0 = still_is _ _ _ (still_here _ c.requires.can) (at_argument _ _ _ _ _ c.in-Int.is) in
    let s1 = still_next _ _ _ s0 c.in_ok-n-in-Int.ensures in
    rw c.add_int.ensures (s1.ends _ _ (ran_give _ _))

pub returns-in_ok-object-in-One-clause-ran : goal.returns-in_ok-object-in-One-clause-ran
returns-in_ok-object-in-One-clause-ran g c =
    let s0 = still_is _ _ _ (still_here _ c.requires.can) (at_argument _ _ _ _ _ c.in-One.is) in
    let s1 = still_next _ _ _ s0 c.in_ok-object-in-One.ensures.value in
    rw c.add_access.ensures (s1.ends _ _ (ran_give _ _))

pub returns-in_ok-range-in-Many-clause-ran : goal.returns-in_ok-range-in-Many-clause-ran
returns-in_ok-range-in-Many-clause-ran g c =
    let s0 = still_is _ _ _ (still_here _ c.requires.can) (at_argument _ _ _ _ _ c.in-Many.is) in
    let s1 = still_next _ _ _ s0 (rw (← c.range.view_is) at c.in_ok-range-in-Many.ensures) in
    rw c.add_access-in-Many.ensures (s1.ends _ _ (ran_give _ _))
