use Rattle.kt_calls_bench.proofs.Requests.{again}
use Rattle.kt_calls_bench.proofs.asking.ask_often.Goals as goal

pub loop-failed-preserved : goal.loop-failed-preserved
loop-failed-preserved g c =
    let h = c.in-Failed.ensures {u = tt} in again _ _ _ _ c.loop-failed.invariant h.room h.tried.0 h.tried.1
