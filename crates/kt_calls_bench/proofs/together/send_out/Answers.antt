use Rattle.std.proofs.Common.{sym, subst}
use denote.Param.Send.{sendable}
use Rattle.kt_crew.proofs.Crossing.{program, table}
use Rattle.kt_calls_bench.specs.Together.{IsPlace}
use Rattle.kt_calls_bench.proofs.together.send_out.Goals as goal

pub map_vec-requires-sync-F : goal.map_vec-requires-sync-F
map_vec-requires-sync-F g c κs within = let r = c.type_bounds.sync-C in search (sendable, program, table) depth 30

pub map_vec-requires-after_bounds : goal.map_vec-requires-after_bounds
map_vec-requires-after_bounds g c κs within = λ i x less is.
    (c.requires.accepted, subst (IsPlace c.args.table.now c.args.program.now) (sym is) (c.requires.places i x less))
