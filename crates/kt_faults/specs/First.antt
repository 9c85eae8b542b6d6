-- Which of some faults is the answer of a run: the first in the order of paths and indexes.
use Rattle.std.specs.Prelude.{◌≡◌, ◌↔◌, ℕ, List, [], ◌∷◌, false, Option, Some, None, if◌then◌else◌}
use Rattle.kt_order.specs.Lists.{AllOf, SomeOf}
use Rattle.kt_prog.specs.Outcome.{fault_before}
use Rattle.kt_prog.specs.Runs.{FaultRun}
use Rattle.kt_prog.specs.declared.runs.Outcome.{Outcome}
use Rattle.kt_prog.specs.declared.runs.Outcome.TheVariants as O

-- the earlier one of two faults that there may be
abbrev pub earlier : Option FaultRun → Option FaultRun → Option FaultRun
earlier one None = one
earlier None (Some g) = Some g
earlier (Some f) (Some g) = Some (if fault_before g f then g else f)

abbrev pub IsAmong : FaultRun → List FaultRun → Type 0
IsAmong f faults = SomeOf (λ g. f ≡ g) faults

-- it is one of them and none is before it, or there is none
abbrev pub IsFirst : Option FaultRun → List FaultRun → Type 0
IsFirst None faults = faults ≡ []
IsFirst (Some f) faults = IsAmong f faults × AllOf (λ g. fault_before g f ≡ false) faults

-- at most one at each path and index
abbrev pub AtMostOne : List FaultRun → Type 0
AtMostOne faults = (f g : FaultRun) → IsAmong f faults → IsAmong g faults → f.path ≡ g.path → f.index ≡ g.index → f ≡ g

abbrev pub AreSame : List FaultRun → List FaultRun → Type 0
AreSame fs gs = (f : FaultRun) → IsAmong f fs ↔ IsAmong f gs

-- what a run comes to with this store, where this is the first of its faults
abbrev pub fault_else_rows : List ℕ → Option FaultRun → Outcome
fault_else_rows store None = O.Rows store
fault_else_rows store (Some f) = O.Fault f
