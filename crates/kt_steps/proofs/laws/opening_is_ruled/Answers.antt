use Rattle.kt_steps.proofs.Seats.{lies, opens}
use Rattle.kt_steps.proofs.laws.opening_is_ruled.Goals as goal

pub returns : goal.returns
returns c = λ j ws ok some_workers few op. (
  lies j ok (c.programs_meet_laws.ensures j.program ok) ws some_workers few op,
  opens j ok
      (c.programs_meet_laws.ensures j.program ok) ws some_workers few op,
)
