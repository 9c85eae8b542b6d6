use Rattle.std.proofs.Common.{refl, sym, subst}
use Rattle.kt_rule.specs.declared.tables.RunTable.{RunTable}
use Rattle.kt_pool.specs.Seats.{run_table, setup_of}
use Rattle.kt_calls_bench.specs.Asking.{IsAtStart}
use Rattle.kt_calls_bench.proofs.Requests.{first}
use Rattle.kt_calls_bench.proofs.scenes.finished.Goals as goal

pub work_on-requires-clause-first : goal.work_on-requires-clause-first
work_on-requires-clause-first g c =
    let p = c.args.program.now in let pool = c.in_ok-pool.ensures in
    subst (λ (t : RunTable). IsAtStart t p c.remove-seat.result) (sym c.table.ensures)
    (first (setup_of p c.args.input.now c.args.workers) (run_table c.in_ok-pool.pool) p c.in_ok-pool.seats.items c.remove-seat.result
    pool.seats pool.views c.requires.few refl c.remove-seat.ensures.value)
