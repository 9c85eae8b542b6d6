use Rattle.kt_words.proofs.FieldLaws.{masked_is}
use Rattle.kt_words.proofs.bits.split.Goals as goal

pub returns-clause-low : goal.returns-clause-low
returns-clause-low c = masked_is c.args.word c.args.width c.requires
