use Rattle.std.proofs.Common.{refl, sym, subst}
use Rattle.std.specs.List.{All}
use Rattle.kt_rule.specs.declared.tables.RunTable.{RunTable}
use Rattle.kt_pool.specs.Seats.{run_table, setup_of}
use Rattle.kt_calls_bench.specs.Together.{IsPlace}
use Rattle.kt_calls_bench.proofs.Requests.{all_at_start}
use Rattle.kt_calls_bench.proofs.together.together.Goals as goal

pub send_out-requires-clause-places : goal.send_out-requires-clause-places
send_out-requires-clause-places g c κs within =
    let p = c.args.program.now in let pool = c.in_ok-pool.ensures in
    subst (λ (t : RunTable). All (IsPlace t p) c.in_ok-places.places.items) (sym c.table.ensures)
    (c.in_ok-places.ensures.places (run_table c.in_ok-pool.pool)
    (all_at_start (setup_of p c.args.input.now c.args.workers) (run_table c.in_ok-pool.pool) p c.in_ok-pool.seats.items pool.seats pool.views c.requires.few refl))
