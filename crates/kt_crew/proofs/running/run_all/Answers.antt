use Rattle.std.proofs.Common.{arith, ◌<◌, ◌∙◌, ap, refl, sym, subst}
use Rattle.kt_rule.specs.declared.tables.RunTable.{RunTable}
use Rattle.kt_prog.specs.declared.runs.Ran.{Ran}
use Rattle.kt_pool.specs.Exact.{joined_view}
use Rattle.kt_pool.specs.Seats.{AreSeatsOf, run_table, setup_of}
use Rattle.kt_crew.specs.Crews.{AreDone, AreJobs}
use Rattle.kt_crew.specs.Ends.{comes_to}
use Rattle.kt_crew.proofs.Ending.{closed_so, is_exact, is_outcome}
use Rattle.kt_crew.proofs.Together.{all_back, all_jobs}
use Rattle.kt_crew.proofs.running.run_all.Goals as goal

pub send_out-requires-after_bounds : goal.send_out-requires-after_bounds
send_out-requires-after_bounds g c κs within =
    let j = setup_of c.args.program.now c.args.input.now c.args.workers in let p = c.args.program.now in let pool = c.in_ok-pool.ensures in (
      j,
      record { program = refl; accepted = c.requires.accepted; few = c.requires.few },
      subst (λ (t : RunTable). AreJobs j t p c.in_ok-jobs.jobs.items) (sym c.table.ensures)
          (all_jobs j (run_table c.in_ok-pool.pool) p c.in_ok-pool.seats.items c.in_ok-jobs.jobs.items c.in_ok-jobs.ensures.seats c.in_ok-jobs.ensures.ready pool.seats pool.views),
    )

pub gather-seats-requires : goal.gather-seats-requires
gather-seats-requires g c =
    let j = setup_of c.args.program.now c.args.input.now c.args.workers in let p = c.args.program.now in let pool = c.in_ok-pool.ensures in
    let jobs = all_jobs j (run_table c.in_ok-pool.pool) p c.in_ok-pool.seats.items c.in_ok-jobs.jobs.items c.in_ok-jobs.ensures.seats c.in_ok-jobs.ensures.ready pool.seats pool.views in
    let done = c.in_ok-done.ensures j (subst (λ (t : RunTable). AreJobs j t p c.in_ok-jobs.jobs.items) (sym c.table.ensures) jobs) in
    let n = done.count in let cap = c.in_ok-room.ensures.capacity in (c.in_ok-room.ensures.items, omega arith)

pub close-closed-requires : goal.close-closed-requires
close-closed-requires g c =
    let j = setup_of c.args.program.now c.args.input.now c.args.workers in let p = c.args.program.now in let pool = c.in_ok-pool.ensures in
    let jobs = all_jobs j (run_table c.in_ok-pool.pool) p c.in_ok-pool.seats.items c.in_ok-jobs.jobs.items c.in_ok-jobs.ensures.seats c.in_ok-jobs.ensures.ready pool.seats pool.views in
    let done = c.in_ok-done.ensures j (subst (λ (t : RunTable). AreJobs j t p c.in_ok-jobs.jobs.items) (sym c.table.ensures) jobs) in
    let some = c.requires.some in (
      j,
      subst (AreSeatsOf j (run_table c.in_ok-pool.pool)) (sym c.gather-seats.ensures.seats)
          (all_back j (run_table c.in_ok-pool.pool) p c.in_ok-done.done.items (omega arith)
          (subst (λ (t : RunTable). AreDone j t p c.in_ok-done.done.items) c.table.ensures done)),
    )

pub returns-clause-ran : goal.returns-clause-ran
returns-clause-ran g c =
    let j = setup_of c.args.program.now c.args.input.now c.args.workers in let p = c.args.program.now in let pool = c.in_ok-pool.ensures in
    let t = run_table c.in_ok-pool.pool in let done = c.in_ok-done.done.items in let closed = c.close-closed.result.0 in let v = joined_view c.close-closed.result.1 in
    let jobs = all_jobs j t p c.in_ok-pool.seats.items c.in_ok-jobs.jobs.items c.in_ok-jobs.ensures.seats c.in_ok-jobs.ensures.ready pool.seats pool.views in
    let all = subst (λ (t : RunTable). AreDone j t p done) c.table.ensures
    (c.in_ok-done.ensures j (subst (λ (t : RunTable). AreJobs j t p c.in_ok-jobs.jobs.items) (sym c.table.ensures) jobs)) in
    let some = c.requires.some in let live : 0 < j.workers = omega arith in
    let back = subst (AreSeatsOf j t) (sym c.gather-seats.ensures.seats) (all_back j t p done live all) in
    let h = closed_so j t p done c.gather-seats.result.0.items closed v c.gather-seats.ensures.seats refl c.requires.accepted live all c.close-closed.ensures.lists
    (c.close-closed.ensures.limited j back) (c.close-closed.ensures.whole j back) in
    c.ran_of.ensures ∙ (ap (comes_to closed) c.gather-seats.ensures.fault ∙ is_outcome c.earlier_is_first.ensures c.first_is_answer.ensures j t p done closed v h)

pub returns-clause-once : goal.returns-clause-once
returns-clause-once g c = λ ne.
    let j = setup_of c.args.program.now c.args.input.now c.args.workers in let p = c.args.program.now in let pool = c.in_ok-pool.ensures in
    let t = run_table c.in_ok-pool.pool in let done = c.in_ok-done.done.items in let closed = c.close-closed.result.0 in let v = joined_view c.close-closed.result.1 in
    let jobs = all_jobs j t p c.in_ok-pool.seats.items c.in_ok-jobs.jobs.items c.in_ok-jobs.ensures.seats c.in_ok-jobs.ensures.ready pool.seats pool.views in
    let all = subst (λ (t : RunTable). AreDone j t p done) c.table.ensures
    (c.in_ok-done.ensures j (subst (λ (t : RunTable). AreJobs j t p c.in_ok-jobs.jobs.items) (sym c.table.ensures) jobs)) in
    let some = c.requires.some in let live : 0 < j.workers = omega arith in
    let back = subst (AreSeatsOf j t) (sym c.gather-seats.ensures.seats) (all_back j t p done live all) in
    let h = closed_so j t p done c.gather-seats.result.0.items closed v c.gather-seats.ensures.seats refl c.requires.accepted live all c.close-closed.ensures.lists
    (c.close-closed.ensures.limited j back) (c.close-closed.ensures.whole j back) in
    is_exact c.earlier_is_first.ensures c.first_is_answer.ensures j t p done closed v h
    (λ e. ne (ap (λ (r : Ran). r.outcome) (c.ran_of.ensures ∙ ap (comes_to closed) c.gather-seats.ensures.fault) ∙ e))
