use Rattle.kt_order.proofs.Agree.{side_by_side}
use Rattle.kt_rights.specs.Plan.{machine}
use Rattle.kt_rights.specs.Rights.{rights}
use Rattle.kt_rights.proofs.Agree.{modes_agree}
use Rattle.kt_rights.proofs.laws.side_by_side_agree.Goals as goal

pub returns : goal.returns
returns g c = λ obeys root s x lawful a b u v apart x1 x2 wu wv. modes_agree c.agreement_is_symmetric.ensures c.clash_is_symmetric.ensures c.hands_on_less.ensures g.S.Source.plan obeys u.call v.call (side_by_side (machine g.S.Source.plan) (rights g.S.Source.plan) (c.tables_give_laws.ensures obeys) (c.tables_give_apart_laws.ensures obeys) x.forest lawful.shape a b u v apart x1 x2 wu wv)
