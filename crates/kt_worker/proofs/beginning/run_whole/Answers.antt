use Rattle.std.proofs.Common.{sym, ap, ◌∙◌, subst, arith}
use Rattle.kt_prog.specs.Fits.{Fits}
use Rattle.kt_prog.specs.declared.programs.Program.{Program}
use Rattle.kt_worker.specs.Stacks.{Frames}
use Rattle.kt_worker.proofs.Begun.{begun_small, begins, fits, in_hand_now, room_left, stopped, turned}
use Rattle.kt_worker.proofs.beginning.run_whole.Goals as goal

pub overflow_add-begun : goal.overflow_add-begun
overflow_add-begun g c = let small = begun_small _ _ _ _ _ _ c.requires.begun in omega (arith, small)

pub go-run-requires : goal.go-run-requires
go-run-requires g c =
    let h = c.requires.begun in
    let call = c.requires.call.0 h.e.spot (in_hand_now _ _ _ _ _ _ h) in
    record {
      accepted = c.requires.accepted;
      fits = subst (λ (p : Program). Fits p c.args.call.now) h.quiet.program (c.requires.call.1 h.quiet.setup h.quiet.told);
      plain = c.requires.plain;
      stands = begins _ _ _ _ _ _ h c.args.worker.firsts.now c.args.call.now c.requires.firsts call;
    }

pub push-requires : goal.push-requires
push-requires g c = let few = room_left _ _ _ _ _ _ c.requires.begun in rw c.requires.room.stack few

pub overflow_add-used : goal.overflow_add-used
overflow_add-used g c =
    let few = fits _ _ _ _ _ _ c.requires.begun _ _ _ (sym c.is_halted.ensures ∙ c.if-is_halted.false) c.go-run.ensures in
    omega (arith, few)

pub returns-clause-turns : goal.returns-clause-turns
returns-clause-turns g c =
    rw (ap (λ (f : Frames). f.levels) c.push.ensures) (turned _ _ _ _ _ _ c.requires.begun _ _ _ (sym c.is_halted.ensures ∙ c.if-is_halted.false) c.go-run.ensures)

pub returns-then-is_halted-clause-turns : goal.returns-then-is_halted-clause-turns
returns-then-is_halted-clause-turns g c =
    stopped _ _ _ _ _ _ c.requires.begun _ c.go-run.result.forks _ (sym c.is_halted.ensures ∙ c.if-is_halted.true) c.go-run.ensures
