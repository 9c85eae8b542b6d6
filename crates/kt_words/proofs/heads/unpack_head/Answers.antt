use Rattle.std.proofs.Common.{arith}
use Rattle.kt_words.proofs.HeadLaws.{head_found, no_head}
use Rattle.kt_words.proofs.heads.unpack_head.Goals as goal

pub returns-then-ints : goal.returns-then-ints
returns-then-ints c =
    no_head _ _ _ _ _ _ c.split-task.ensures.high c.split-depth.ensures.high c.split-number.ensures.high
    c.split-ints.ensures.low c.split-ints.ensures.high (λ few_ints few_accesses. omega (arith, c.then-ints.either))

pub returns : goal.returns
returns c =
    head_found _ _ _ _ _ _ _ _ _ c.ranges.word.fits c.split-task.ensures.low c.split-task.ensures.high
    c.split-depth.ensures.low c.split-depth.ensures.high c.split-number.ensures.low c.split-number.ensures.high
    c.split-ints.ensures.low c.split-ints.ensures.high c.if-ints.false c.if-accesses.false
