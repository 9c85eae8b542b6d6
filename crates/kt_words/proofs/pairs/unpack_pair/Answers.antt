use Rattle.kt_words.proofs.PairLaws.{pair_found}
use Rattle.kt_words.proofs.pairs.unpack_pair.Goals as goal

pub returns-clause-exact : goal.returns-clause-exact
returns-clause-exact c = pair_found _ _ _ c.ranges.word.fits c.split-low.ensures.low c.split-low.ensures.high
