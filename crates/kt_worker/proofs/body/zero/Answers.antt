use Rattle.kt_worker.proofs.Stands.{gone_zeroed}
use Rattle.kt_worker.proofs.body.zero.Goals as goal

pub run_zero-ended-requires : goal.run_zero-ended-requires
run_zero-ended-requires g c = record {
  accepted = c.requires.accepted;
  fits = c.requires.fits;
  stands = c.requires.stands;
  running = λ e. cc;
}

pub returns : goal.returns
returns g c =
    rw (c.taken_apart-run.ensures.0, c.taken_apart-run.ensures.1)
    (gone_zeroed (λ h. record { view = g.R.Run.view h.run; program = h.program.now; firsts = h.firsts.now; parent = h.parent; first = h.first; forks = h.forks; frame = h.frame; limit = h.limit }) _ g.B.Began.view
    c.args.start.program.now c.args.start.call.now _ c.run_zero-ended.new.ops c.run_zero-ended.result c.requires.loops c.run_zero-ended.ensures)
