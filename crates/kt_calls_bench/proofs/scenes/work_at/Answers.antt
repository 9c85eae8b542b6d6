use Rattle.kt_calls_bench.proofs.Requests.{ended_asks, fresh}
use Rattle.kt_calls_bench.proofs.scenes.work_at.Goals as goal

pub work-run-requires-clause-fresh : goal.work-run-requires-clause-fresh
work-run-requires-clause-fresh g c = fresh _ _ _ c.requires.first

pub ask_often-asked-requires : goal.ask_often-asked-requires
ask_often-asked-requires g c =
    let h = c.work-run.ensures in record { may = ended_asks _ _ _ _ _ (fresh _ _ _ c.requires.first) h.seat h.ends c.requires.room }
