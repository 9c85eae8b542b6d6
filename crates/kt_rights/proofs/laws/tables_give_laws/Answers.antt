use Rattle.kt_rights.proofs.Tables.{laws}
use Rattle.kt_rights.proofs.laws.tables_give_laws.Goals as goal

pub returns : goal.returns
returns g c = λ obeys. laws c.fold_associates.ensures c.fold_commutes.ensures g.S.Source.plan obeys
