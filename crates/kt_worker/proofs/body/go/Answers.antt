use Rattle.kt_prog.specs.Calls.{Whole}
use Rattle.kt_worker.proofs.Stands.{gone}
use Rattle.kt_worker.proofs.body.go.Goals as goal

pub run_call-ended-requires-clause-begins : goal.run_call-ended-requires-clause-begins
run_call-ended-requires-clause-begins g c = record {
  accepted = c.requires.accepted;
  fits = c.requires.fits;
  stands = c.requires.stands;
  running = λ e. cc;
}

pub returns : goal.returns
returns g c =
    rw (c.taken_apart-run.ensures.0, c.taken_apart-run.ensures.1)
    (gone (λ h. record { view = g.R.Run.view h.run; program = h.program.now; firsts = h.firsts.now; parent = h.parent; first = h.first; forks = h.forks; frame = h.frame; limit = h.limit }) _ g.B.Began.view
    c.args.start.program.now (Whole c.args.start.call.now) _ c.run_call-ended.new.ops c.run_call-ended.result c.run_call-ended.ensures)
