use Rattle.std.proofs.Common.{◌≡◌, sym, subst}
use Rattle.kt_prog.specs.declared.programs.Program.{Program}
use Rattle.kt_intervals.specs.Programs.{IsOfRun}
use Rattle.kt_worker.proofs.Intervals.{interval_crew, interval_none_taken, interval_run, not_opened, opened_interval, ran_own}
use Rattle.kt_worker.proofs.Turning.{turns_after}
use Rattle.kt_worker.proofs.looping.run_loop.Goals as goal

pub run_own-requires : goal.run_own-requires
run_own-requires g c =
    let o = c.open_loop-worker in
    let h = (opened_interval _ _ _ _ _ _ _ c.if-opened.true o.ensures.opened).0 in
    record {
      crew = interval_crew _ _ _ _ _ h;
      inside = h.inside;
      program = subst (λ (p : Program). IsOfRun (g.R.Run.view o.result.0.run) p) (sym o.ensures.program.0) (interval_run _ _ _ _ _ h c.requires.accepted);
      firsts = rw (o.ensures.program.0, o.ensures.program.1) c.requires.firsts;
      home = h.home;
      none_taken = interval_none_taken _ _ _ _ _ h;
    }

pub returns-then-opened-clause-turns : goal.returns-then-opened-clause-turns
returns-then-opened-clause-turns g c =
    let o = c.open_loop-worker in
    let h = opened_interval _ _ _ _ _ _ _ c.if-opened.true o.ensures.opened in
    turns_after (g.R.Run.view c.args.worker.run) (g.R.Run.view o.result.0.run) _ _ _ _ _ h.1 (ran_own _ _ _ _ _ h.0 _ _ _ c.run_own.ensures.ran)

pub returns-clause-turns : goal.returns-clause-turns
returns-clause-turns g c = not_opened _ _ _ _ _ _ _ c.if-opened.false c.open_loop-worker.ensures.opened
