use Rattle.kt_body.proofs.Steps.{ran_same}
use Rattle.kt_body.proofs.Starting.{no_mains}
use Rattle.kt_body.proofs.body.run_main.Goals as goal

pub returns-then-mains-eq0 : goal.returns-then-mains-eq0
returns-then-mains-eq0 g c =
    ran_same _ _ _ (no_mains c.args.program.now c.args.program.now.mains (rw c.as_slice-mains.ensures at c.if-mains-eq0.true))
