use Rattle.std.proofs.Common.{◌+◌, ◌*◌}
use Rattle.kt_read.specs.Expressions.{ReadsFactors, ReadsTerms}
use Rattle.kt_read.specs.Follows.{after_product, after_sum}
use Rattle.kt_read.proofs.Shrinking.{left}
use Rattle.kt_read.proofs.Still.{Still}
use Rattle.kt_read.proofs.reader.expressions.+expression.Given as goal

-- each level calls the one below it before the next token, and any level behind it
abbrev pub decreases-factors : goal.decreases-factors
decreases-factors l = 8 * left l.source.now + 1

abbrev pub decreases-terms : goal.decreases-terms
decreases-terms l = 8 * left l.source.now + 1

abbrev pub decreases-compared : goal.decreases-compared
decreases-compared l = 8 * left l.source.now + 1

abbrev pub decreases-after_name : goal.decreases-after_name
decreases-after_name l = 8 * left l.source.now + 1

abbrev pub decreases-atom : goal.decreases-atom
decreases-atom l = 8 * left l.source.now + 1

abbrev pub decreases-operand : goal.decreases-operand
decreases-operand l = 8 * left l.source.now + 2

abbrev pub decreases-product : goal.decreases-product
decreases-product l = 8 * left l.source.now + 3

abbrev pub decreases-sum : goal.decreases-sum
decreases-sum l = 8 * left l.source.now + 4

abbrev pub decreases-expression_behind : goal.decreases-expression_behind
decreases-expression_behind l = 8 * left l.source.now + 2

abbrev pub decreases-expression : goal.decreases-expression
decreases-expression l = 8 * left l.source.now + 4

abbrev pub decreases-expression_then : goal.decreases-expression_then
decreases-expression_then l = 8 * left l.source.now + 5

abbrev pub invariant-factors-factors : goal.invariant-factors-factors
invariant-factors-factors l = Still (ReadsFactors l.fn.first) after_product l.fn.source l.source (ReadsFactors l.left)

abbrev pub decreases-factors-factors : goal.decreases-factors-factors
decreases-factors-factors l = left l.source

abbrev pub invariant-terms-terms : goal.invariant-terms-terms
invariant-terms-terms l = Still (ReadsTerms l.fn.first) after_sum l.fn.source l.source (ReadsTerms l.left)

abbrev pub decreases-terms-terms : goal.decreases-terms-terms
decreases-terms-terms l = left l.source
