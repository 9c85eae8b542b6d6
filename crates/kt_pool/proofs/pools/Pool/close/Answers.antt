use Rattle.std.proofs.Common.{◌∙◌, sym, subst}
use Rattle.kt_pool.specs.Closing.{IsOfAll, KnowsMain}
use Rattle.kt_pool.proofs.AtEnd.{limits_so}
use Rattle.kt_pool.proofs.Together.{all_know_main, is_of_all}
use Rattle.kt_pool.proofs.Gathering.{seat_layout}
use Rattle.kt_pool.proofs.pools.Pool.close.Goals as goal

pub of-requires-clause-told : goal.of-requires-clause-told
of-requires-clause-told c = let q = c.requires in let told = c.gather-token.ensures.told q.0 q.1 in
    (q.0, told.0, seat_layout q.0 _ _ q.1, told.1, q.1.some)

pub returns-clause-closes : goal.returns-clause-closes
returns-clause-closes c = λ j all. c.of.ensures.closes j (c.gather-token.ensures.told j all).0

pub returns-clause-limited : goal.returns-clause-limited
returns-clause-limited c = λ j all. limits_so j _ _ c.args.seats.items (c.of.ensures.joined ∙ c.gather-token.ensures.joined) (c.of.ensures.closes j (c.gather-token.ensures.told j all).0)

pub returns-clause-whole : goal.returns-clause-whole
returns-clause-whole c = λ j all known. let h = c.of.ensures.closes j (c.gather-token.ensures.told j all).0 in
    h.whole (h.close.known (subst KnowsMain (sym (c.of.ensures.joined ∙ c.gather-token.ensures.joined)) (all_know_main c.args.seats.items known)))

pub returns-clause-lists : goal.returns-clause-lists
returns-clause-lists c = subst (λ v. IsOfAll v c.args.seats.items) (sym (c.of.ensures.joined ∙ c.gather-token.ensures.joined)) (is_of_all c.args.seats.items)
