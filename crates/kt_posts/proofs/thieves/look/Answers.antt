use Rattle.kt_posts.proofs.Settling.{settled_word}
use Rattle.kt_posts.proofs.thieves.look.Goals as goal

pub returns-clause-looked : goal.returns-clause-looked
returns-clause-looked c = let h = c.settle.ensures.settled c.args.s.now.token.me.0 c.peek-found.ensures.seen in
    (c.peek-found.result, c.peek-found.ensures.found.0, settled_word _ _ c.peek-found.result _ h, h)
