-- The law of the opening.
use Rattle.std.specs.Prelude.{◌≡◌, ℕ, ◌<◌, ◌≤◌, List, [], ◌∷◌}
use Rattle.kt_prog.specs.Accepted.{IsAccepted}
use Rattle.kt_runs.specs.ByPath.{core_of}
use Rattle.kt_runs.specs.States.{opening_core}
use Rattle.kt_rule.specs.declared.views.Setup.{Setup}
use Rattle.kt_rule.specs.Close.{IsOpening, first_view}
use Rattle.kt_rule.specs.Shown.{shown}

-- the words of an opening and the first view show the core in which a run begins
abbrev pub OpeningShowsOpeningCore : Type 0
OpeningShowsOpeningCore = (j : Setup) (ws : List ℕ) → IsAccepted j.program → 0 < j.workers → j.workers ≤ 8 → IsOpening j ws
    → core_of j.program (shown j (record { words = ws; homes = []; views = first_view j ∷ [] })) ≡ opening_core j.program j.input
