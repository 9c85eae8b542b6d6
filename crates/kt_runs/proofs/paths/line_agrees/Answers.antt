use Rattle.kt_runs.proofs.PathLines.{line_agrees}
use Rattle.kt_runs.proofs.paths.line_agrees.Goals as goal

pub returns : goal.returns
returns c = λ p input ok x h a k q there call is none.
    line_agrees p input (c.programs_meet_laws.ensures p ok) x h c.bodies_keep.ensures ok c.agreement_is_symmetric.ensures c.hands_on_less.ensures (c.programs_obey.ensures p ok) a k call is none q there
