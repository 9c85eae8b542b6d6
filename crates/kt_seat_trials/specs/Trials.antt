-- What the trials ask of a seat.
use Rattle.std.specs.Prelude.{◌≡◌, ℕ, ◌<◌}
use mathlib.Core.Option.{some}
use lib.ListN.{get_elem?}
use Rattle.kt_rule.specs.declared.seats.Seat.{Seat}
use Rattle.kt_rule.specs.declared.tables.RunTable.{RunTable}
use Rattle.kt_rule.specs.declared.views.Setup.{Setup}
use Rattle.kt_rule.specs.declared.views.View.{View}
use Rattle.kt_rule.specs.Views.{main_spot}
use Rattle.kt_pool.specs.Seats.{IsSeatOf}

-- main lies in the seat's region
abbrev pub HasMain : View → Type 0
HasMain v = (a : ℕ) × (get_elem? v.region.spots a ≡ some main_spot)

-- it is the seat of worker 0, where main lies
abbrev pub IsMainsSeat : Setup → RunTable → Seat → Type 0
IsMainsSeat j t s = IsSeatOf j t 0 s × (0 < j.workers) × HasMain s.token.me.0
