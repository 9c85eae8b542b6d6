use Rattle.std.proofs.Common.{[]}
use Rattle.kt_worker.proofs.Begun.{extends_same}
use Rattle.kt_worker.proofs.Turning.{begun_main, calm_crew, calm_stands, main_inside, may_claim_main, turns_after}
use Rattle.kt_worker.proofs.working.first_turn.Goals as goal

pub claim_own-requires : goal.claim_own-requires
claim_own-requires g c = record {
  crew = calm_crew _ _ _ _ c.requires.calm;
  inside = main_inside _ _ _ c.requires.calm c.requires.fresh c.if-worker-ne0.false;
  mine = may_claim_main _ _ _ c.requires.calm c.requires.fresh c.if-worker-ne0.false;
}

pub run_begun-requires-clause-begun : goal.run_begun-requires-clause-begun
run_begun-requires-clause-begun g c =
    let h = (c.in-Won.ensures {u = tt}) in
    rw c.requires.empty (begun_main _ _ _ c.requires.calm c.requires.fresh c.if-worker-ne0.false _ h.claimed h.few).0

pub returns-then-worker-ne0-clause-turns : goal.returns-then-worker-ne0-clause-turns
returns-then-worker-ne0-clause-turns g c = rw c.requires.empty (c.requires.calm, extends_same _)

pub returns-in-Stolen-clause-turns : goal.returns-in-Stolen-clause-turns
returns-in-Stolen-clause-turns g c =
    let h = (c.in-Stolen.ensures {u = tt}).claimed in
    let main = may_claim_main _ _ _ c.requires.calm c.requires.fresh c.if-worker-ne0.false in
    rw c.requires.empty (calm_stands _ _ _ _ [] 0 _ (h.2 main.0 main.1).1 c.requires.calm)

pub returns-in-Won-clause-turns : goal.returns-in-Won-clause-turns
returns-in-Won-clause-turns g c =
    let h = (c.in-Won.ensures {u = tt}) in
    turns_after (g.R.Run.view c.args.worker.run) (g.R.Run.view c.claim_own.new.self) _ _ _ _ _
    (begun_main _ _ _ c.requires.calm c.requires.fresh c.if-worker-ne0.false _ h.claimed h.few).1 c.run_begun.ensures.turns
