use Rattle.kt_prog.specs.Calls.{Index}
use Rattle.kt_intervals.proofs.Stands.{gone}
use Rattle.kt_intervals.proofs.indexes.go.Goals as goal

pub run_index-ended-requires : goal.run_index-ended-requires
run_index-ended-requires g c = record {
  accepted = c.requires.accepted;
  fits = c.requires.fits;
  stands = c.requires.stands;
  running = λ h. h;
}

pub returns : goal.returns
returns g c =
    rw c.into_run-run.ensures
    (gone (λ h. record { view = g.R.Run.view h.run; program = h.program.now; firsts = h.firsts.now }) _ g.B.Began.start
    c.args.chunk.program.now (Index c.args.chunk.call.now c.args.index) _ c.run_index-ended.new.ops c.run_index-ended.result c.run_index-ended.ensures)
