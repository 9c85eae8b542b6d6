use Rattle.kt_rights.proofs.Agree.{apart_laws}
use Rattle.kt_rights.proofs.laws.tables_give_apart_laws.Goals as goal

pub returns : goal.returns
returns g c = λ obeys. apart_laws c.agreement_is_symmetric.ensures c.clash_is_symmetric.ensures c.hands_on_less.ensures g.S.Source.plan obeys
