use Rattle.std.proofs.Common.{◌≡◌, [], vec_len}
use Rattle.kt_rule.specs.declared.views.Setup.{Setup}
use Rattle.kt_pool.specs.Seats.{AreSeatsOf, all_together, taken_in}
use Rattle.kt_pool.proofs.Gathering.{AreLeft}
use Rattle.kt_pool.proofs.crews.gather.Given as goal

-- what was taken in and what is left are all
abbrev pub invariant-loop-seats : goal.invariant-loop-seats
invariant-loop-seats l = record {
  joined : taken_in l.first.me.0 l.seats.items ≡ all_together l.fn.seats.items;
  seat : (l.first.table_id ≡ l.t.table.shared.table_id) × (l.first.me.1 ≡ []);
  left : (j : Setup) → AreSeatsOf j l.t l.fn.seats.items → AreLeft j l.t l.first.me.0 l.seats.items;
}

abbrev pub decreases-loop-seats : goal.decreases-loop-seats
decreases-loop-seats l = vec_len l.seats
