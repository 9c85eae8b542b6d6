use Rattle.kt_body.proofs.Steps.{ran_same}
use Rattle.kt_body.proofs.Zeros.{access_none}
use Rattle.kt_body.proofs.zero.zero_one.Goals as goal

pub returns-in_default : goal.returns-in_default
returns-in_default g c = ran_same _ _ _ (access_none _ _ c.in_default.not-W)
