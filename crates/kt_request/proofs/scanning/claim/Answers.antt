use Rattle.std.proofs.Common.{refl}
use Rattle.kt_request.proofs.Claiming.{noted_ready, ends_ready, lost_claimed}
use Rattle.kt_request.proofs.scanning.claim.Goals as goal

pub claim_for-requires-clause-noted : goal.claim_for-requires-clause-noted
claim_for-requires-clause-noted c = let h = c.requires.claims in noted_ready c.ready_clashes_with_none.ensures
    c.clash_is_symmetric.ensures c.args.s.now.token.me.0 c.args.scan.now h.0 h.1 h.2 h.3 h.4 c.args.at _ h.5 c.args.state
    c.requires.state refl

pub lost-requires : goal.lost-requires
lost-requires c = let h = c.requires.claims in
    ends_ready c.args.s.now.token.me.0 c.args.scan.now h.0 h.1 h.2 h.3 h.4 c.args.at _ h.5

pub returns-in-Lost-clause-claimed : goal.returns-in-Lost-clause-claimed
returns-in-Lost-clause-claimed c first ns n earlier last h = let o = c.in-Lost.ensures.claimed in
    lost_claimed c.args.s.now.token.me.0 c.claim_for.new.s.token.me.0 c.args.scan.now c.lost.new.self first ns n earlier last c.args.at _
    c.args.thief c.in-Lost.found c.stand_of-stand.result h o.0 o.1 o.2 c.stand_of-stand.ensures c.lost.ensures.notes c.lost.ensures.frame
