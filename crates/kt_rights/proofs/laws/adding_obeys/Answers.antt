use Rattle.kt_rights.proofs.Adding.{adding_obeys}
use Rattle.kt_rights.proofs.laws.adding_obeys.Goals as goal

pub returns : goal.returns
returns c = adding_obeys
