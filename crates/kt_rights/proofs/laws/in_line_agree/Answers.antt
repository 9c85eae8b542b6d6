use Rattle.kt_rights.proofs.Lines.{in_line}
use Rattle.kt_rights.proofs.laws.in_line_agree.Goals as goal

pub returns : goal.returns
returns g c = λ obeys root s x lawful a b u v above x1 x2 calls. in_line c.agreement_is_symmetric.ensures c.hands_on_less.ensures g.S.Source.plan obeys (c.tables_give_laws.ensures obeys) x.forest lawful.shape a b u v above x1 x2 calls
