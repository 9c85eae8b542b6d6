use Rattle.kt_body.proofs.Steps.{can_first}
use Rattle.kt_body.proofs.Starting.{ran_behind, started}
use Rattle.kt_body.proofs.body.run_statements.Goals as goal

pub exec_all-requires : goal.exec_all-requires
exec_all-requires g c =
    rw (started c.args.walk.now c.requires.steps) at (can_first _ _ c.requires.can)

pub returns : goal.returns
returns g c =
    rw (← started c.args.walk.now c.requires.steps) at (ran_behind _ _ _ _ _ _ c.exec_all.new.walk _ c.exec_all.ensures)
