use Rattle.std.proofs.Common.{[]}
use Rattle.kt_worker.proofs.Requests.{crew_learnt}
use Rattle.kt_calls_bench.proofs.Requests.{again, begun}
use Rattle.kt_calls_bench.proofs.asking.start_one.Goals as goal

pub start-requires : goal.start-requires
start-requires g c =
    let h = (c.in-Task.ensures {u = tt}).tried in
    record { crew = crew_learnt _ _ h.0.learnt c.requires.may.crew; inside = h.1.inside; given = (h.1.task, [], h.1.is, h.1.lies) }

pub returns-in-Failed : goal.returns-in-Failed
returns-in-Failed g c =
    let h = c.in-Failed.ensures {u = tt} in record { may = λ e. again _ _ _ _ c.requires.may h.room h.tried.0 h.tried.1 }

pub returns-in-Task : goal.returns-in-Task
returns-in-Task g c =
    let h = c.in-Task.ensures {u = tt} in
    record { may = λ e. begun _ _ _ _ _ h.tried.1.task c.requires.may h.room h.tried.0 (c.start.ensures.started h.tried.1.task [] h.tried.1.is) }
