use Rattle.std.proofs.Common.{refl, arith}
use Rattle.kt_worker.proofs.Stands.{may_publish, forked_at, overran_at}
use Rattle.kt_worker.proofs.hands.HandsOps.fork.Goals as goal

pub publish-requires : goal.publish-requires
publish-requires g c =
    let r = c.requires in
    let w = c.worker.ensures in
    record {
      crew = r.stands.crew;
      inside = r.stands.inside;
      may = may_publish _ _ r.program r.job r.answers r.count r.stands _ _ c.args.child.now (omega (arith, w)) refl r.accepted (r.next 0) r.running;
    }

pub returns-in-Published : goal.returns-in-Published
returns-in-Published g c =
    let h = (c.in-Published.ensures {u = tt}).published in
    record {
      went = tt;
      stands = λ p job answers count s next. forked_at _ _ p job answers count s _ c.args.child.now _ next (let w = c.worker.ensures in omega (arith, w)) h.1 h.0;
      running = c.requires.running;
    }

pub returns-in-Limit : goal.returns-in-Limit
returns-in-Limit g c = record {
  stands = λ p job answers count s. overran_at _ _ p job answers count s _ (c.in-Limit.ensures {u = tt}).published.0;
  at_halt = refl;
}
