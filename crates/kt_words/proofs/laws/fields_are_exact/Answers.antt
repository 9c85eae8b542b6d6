use Rattle.kt_words.proofs.FieldLaws.{fields_are_exact}
use Rattle.kt_words.proofs.laws.fields_are_exact.Goals as goal

pub returns : goal.returns
returns c = fields_are_exact
