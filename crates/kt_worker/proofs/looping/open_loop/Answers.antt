use Rattle.std.proofs.Common.{sym, ◌∙◌, subst, arith}
use Rattle.kt_prog.specs.Fits.{Fits}
use Rattle.kt_prog.specs.declared.programs.Program.{Program}
use Rattle.kt_worker.proofs.Begun.{begun_small, begins, fits_zeroed, goes_loop, in_hand_now, stopped_zeroed}
use Rattle.kt_worker.proofs.Intervals.{opens_after}
use Rattle.kt_worker.proofs.looping.open_loop.Goals as goal

pub overflow_add-begun : goal.overflow_add-begun
overflow_add-begun g c = let small = begun_small _ _ _ _ _ _ c.requires.begun in omega (arith, small)

pub zero-run-requires : goal.zero-run-requires
zero-run-requires g c =
    let h = c.requires.begun in
    let call = c.requires.call.0 h.e.spot (in_hand_now _ _ _ _ _ _ h) in
    record {
      accepted = c.requires.accepted;
      fits = subst (λ (p : Program). Fits p c.args.call.now) h.quiet.program (c.requires.call.1 h.quiet.setup h.quiet.told);
      loops = c.requires.loops;
      stands = begins _ _ _ _ _ _ h c.args.worker.firsts.now c.args.call.now c.requires.firsts call;
    }

pub overflow_add-used : goal.overflow_add-used
overflow_add-used g c =
    let few = fits_zeroed _ _ _ _ _ _ c.requires.begun _ _ _ (sym c.is_halted.ensures ∙ c.if-is_halted.false) c.zero-run.ensures in
    omega (arith, few)

pub begin-requires-clause-may : goal.begin-requires-clause-may
begin-requires-clause-may g c =
    (goes_loop _ _ _ _ _ _ c.requires.begun _ _ _ (sym c.is_halted.ensures ∙ c.if-is_halted.false) c.zero-run.ensures).0

pub returns-clause-opened : goal.returns-clause-opened
returns-clause-opened g c =
    opens_after (g.R.Run.view c.args.worker.run) (g.R.Run.view c.zero-run.result.run) _ _ _ _ _ _
    (goes_loop _ _ _ _ _ _ c.requires.begun _ _ _ (sym c.is_halted.ensures ∙ c.if-is_halted.false) c.zero-run.ensures).1 c.begin.ensures.opened

pub returns-then-is_halted-clause-opened : goal.returns-then-is_halted-clause-opened
returns-then-is_halted-clause-opened g c =
    stopped_zeroed _ _ _ _ _ _ c.requires.begun _ c.zero-run.result.forks _ (sym c.is_halted.ensures ∙ c.if-is_halted.true) c.zero-run.ensures
