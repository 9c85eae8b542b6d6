use Rattle.kt_prog.proofs.Plain.{few_objects}
use Rattle.kt_prog.proofs.laws.few_objects.Goals as goal

pub returns : goal.returns
returns c = few_objects
