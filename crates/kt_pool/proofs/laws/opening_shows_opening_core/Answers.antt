use Rattle.kt_pool.proofs.FirstStep.{shows_opening}
use Rattle.kt_pool.proofs.laws.opening_shows_opening_core.Goals as goal

pub returns : goal.returns
returns c = λ j ws ok some_workers few op. shows_opening j ok (c.programs_meet_laws.ensures j.program ok) ws some_workers few op
