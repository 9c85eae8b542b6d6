use Rattle.std.proofs.Common.{sym, subst}
use Rattle.kt_pool.specs.Seats.{AreSeatsOf}
use Rattle.kt_seat_trials.proofs.seats.tried_and_closed.Goals as goal

pub tried-seats-requires : goal.tried-seats-requires
tried-seats-requires c = let q = c.requires in
    (q.0, subst (λ t. AreSeatsOf q.0 t c.args.seats.items) (sym c.table.ensures) q.1, q.2, q.3)

pub close-closed-requires : goal.close-closed-requires
close-closed-requires c = let q = c.requires in (
  q.0,
  subst (λ t. AreSeatsOf q.0 t c.tried-seats.result.0.items) c.table.ensures
      (c.tried-seats.ensures q.0 (subst (λ t. AreSeatsOf q.0 t c.args.seats.items) (sym c.table.ensures) q.1)),
)
