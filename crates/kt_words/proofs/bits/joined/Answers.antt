use Rattle.kt_words.proofs.FieldLaws.{joined_is}
use Rattle.kt_words.proofs.bits.joined.Goals as goal

pub returns : goal.returns
returns c = joined_is c.args.low c.args.width c.args.high c.requires.low_fits c.requires.word_fits
