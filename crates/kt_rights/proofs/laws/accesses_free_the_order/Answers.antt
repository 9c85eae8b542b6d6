use Rattle.kt_order.proofs.Kept.{any_order}
use Rattle.kt_rights.specs.Plan.{machine}
use Rattle.kt_rights.specs.Rights.{rights}
use Rattle.kt_rights.proofs.laws.accesses_free_the_order.Goals as goal

pub returns : goal.returns
returns g c = λ obeys root s es fits follows finished. any_order (machine g.S.Source.plan) (rights g.S.Source.plan) (c.tables_give_laws.ensures obeys) root s fits es follows finished
