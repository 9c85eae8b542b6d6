use Rattle.std.proofs.lemmas.Result.{err_from_is_err_and}
use Rattle.kt_body.proofs.Steps.{can_first, ran_err, ran_same, ran_then}
use Rattle.kt_body.proofs.exec.change.Goals as goal

pub eval-requires : goal.eval-requires
eval-requires g c = can_first _ _ c.requires

pub returns-in_err-n : goal.returns-in_err-n
returns-in_err-n g c =
    let p = err_from_is_err_and c.from_residual.result c.from_residual.ensures.1 in
    rw (p.1, p.2) (ran_err _ _ c.in_err-n.ensures)

pub returns : goal.returns
returns g c = ran_then _ _ c.in_ok-n.ensures (ran_same _ _ _ c.set.ensures)
