use Rattle.std.proofs.Common.{Option, refl, subst}
use Rattle.kt_prog.specs.Runs.{FaultRun}
use Rattle.kt_intervals.specs.Drains.{Drains}
use Rattle.kt_pool_trials.proofs.Intervals.{chunk_inside, chunk_run, interval_then}
use Rattle.kt_pool_trials.proofs.looping.retires_now.Goals as goal

pub run_taken-run-requires : goal.run_taken-run-requires
run_taken-run-requires g c = record {
  inside = chunk_inside _ _ _ _ _ _ c.requires.taken;
  program = chunk_run _ _ _ _ _ _ c.requires.taken c.requires.equipped.accepted;
  firsts = c.requires.equipped.firsts;
  taken = c.requires.taken.taken;
}

pub stands-requires : goal.stands-requires
stands-requires g c =
    let r = c.run_taken-run in
    let w = c.args.worker.run.hand.seat.token.me.0 in
    let z = r.result.run.hand.seat.token.me.0 in
    record {
      equipped = c.requires.equipped;
      stands = interval_then _ _ _ _ _ _ c.requires.taken z _
          (subst (λ (f : Option FaultRun). Drains c.args.at w z f r.result.fault) c.take-fault.ensures.value r.ensures) refl;
    }
