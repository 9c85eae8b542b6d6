use Rattle.std.proofs.Common.{◌≡◌, ℕ, suc, ◌+◌, [], length, slice_get, vec_capacity, Some}
use Rattle.kt_rule.specs.declared.seats.Seat.{Seat}
use Rattle.kt_rule.specs.declared.views.Setup.{Setup}
use Rattle.kt_rule.specs.Close.{first_view}
use Rattle.kt_rule.specs.Records.{layout_of}
use Rattle.kt_pool.proofs.Dealing.{dealt, IsNew}
use Rattle.kt_pool.proofs.crews.seats_of.Given as goal

-- the seats of the workers from 1 on, and what is left to the first
abbrev pub invariant-loop-worker : goal.invariant-loop-worker
invariant-loop-worker l = record {
  count : length l.seats.items + 1 ≡ l.worker;
  room : vec_capacity l.seats ≡ vec_capacity l.fn.seats;
  seat : (l.first.table_id ≡ l.fn.first.table_id) × (l.first.me.1 ≡ []);
  view : (j : Setup) → l.fn.first.me.0 ≡ first_view j → l.first.me.0 ≡ dealt j l.worker;
  each : (j : Setup) → l.fn.first.me.0 ≡ first_view j → layout_of j ≡ l.t.layout → (k : ℕ) (s : Seat) → slice_get l.seats.items k ≡ Some s
      → IsNew j l.t (suc k) s;
}
