use Rattle.std.proofs.Common.{◌≡◌, sym, subst}
use Rattle.kt_prog.specs.declared.programs.Program.{Program}
use Rattle.kt_worker.specs.Levels.{Turns}
use Rattle.kt_pool_trials.proofs.driven.begins.Goals as goal

pub turned-requires-clause-turns : goal.turned-requires-clause-turns
turned-requires-clause-turns g c =
    let r = c.first_turn-worker in
    let v = c.args.driven.worker.run.hand.seat.token.me.0 in (
      v,
      subst (λ (p : Program). Turns v r.result.0.run.hand.seat.token.me.0 p r.result.0.tally r.new.tools.stack.levels r.result.1)
          (sym r.ensures.program.0) r.ensures.turns,
    )
