use Rattle.kt_prog.proofs.OnElements.{next_is_on_element}
use Rattle.kt_prog.proofs.laws.next_is_on_element.Goals as goal

pub returns : goal.returns
returns c = next_is_on_element
