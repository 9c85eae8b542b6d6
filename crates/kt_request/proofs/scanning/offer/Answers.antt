use Rattle.std.proofs.Common.{arith, sym, ap, subst, slice_index, List, ℕ}
use Rattle.kt_words.specs.Words.{packed_state}
use Rattle.kt_request.specs.Serving.{Dealt}
use Rattle.kt_request.proofs.Turning.{dealt_full, dealt_won, dealt_lost}
use Rattle.kt_request.proofs.scanning.offer.Goals as goal

pub returns-then-len-held-clause-dealt : goal.returns-then-len-held-clause-dealt
returns-then-len-held-clause-dealt c first ns n earlier last h given_is ps = let a = c.if-len-held.true in let b = c.len.ensures.value in
    dealt_full c.args.s.now.token.me.0 c.args.scan.now first ns n earlier last c.args.at _ h c.args.held.now c.args.given.now.items
    given_is ps (omega arith)

pub returns-then-claim-clause-dealt : goal.returns-then-claim-clause-dealt
returns-then-claim-clause-dealt c first ns n earlier last h given_is ps = let a = c.if-len-held.false in let b = c.len.ensures.value in
    subst (λ (z : List ℕ). Dealt c.args.s.now.token.me.0 c.claim.new.s.token.me.0 c.claim.new.scan ns c.args.held.now z c.args.at
    (packed_state c.args.state)) (sym c.push.ensures.items)
    (dealt_won c.args.s.now.token.me.0 c.args.scan.now first ns n earlier last c.args.at _ h c.args.held.now c.args.given.now.items
    given_is ps c.claim.new.s.token.me.0 c.claim.new.scan (slice_index c.args.held.now c.len-2.result) (omega arith)
    (ap (slice_index c.args.held.now) c.len-2.ensures.value) (c.if-claim.ensures.claimed first ns n earlier last h))

pub returns-else-claim-clause-dealt : goal.returns-else-claim-clause-dealt
returns-else-claim-clause-dealt c first ns n earlier last h given_is ps = dealt_lost c.args.s.now.token.me.0 c.args.scan.now first ns n
    earlier last c.args.at _ h c.args.held.now c.args.given.now.items given_is ps c.claim.new.s.token.me.0 c.claim.new.scan
    (slice_index c.args.held.now c.len-2.result) (c.if-claim.ensures.claimed first ns n earlier last h)
