use Rattle.std.proofs.Common.{arith}
use Rattle.kt_words.proofs.PostLaws.{post_found, no_post}
use Rattle.kt_words.proofs.posts.unpack_post.Goals as goal

pub returns-then-rest-from : goal.returns-then-rest-from
returns-then-rest-from c = no_post _ _ c.split-kind.ensures.high (omega arith)

pub returns : goal.returns
returns c =
    post_found _ _ _ _ c.ranges.word.fits c.split-kind.ensures.low c.split-kind.ensures.high (omega arith)
    c.post_with.ensures.found c.post_with.ensures.none
