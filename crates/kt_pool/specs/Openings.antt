-- What the first step tells.
use Rattle.std.specs.Prelude.{◌≡◌, ℕ, Option, Some}
use Rattle.atomic_table.specs.Table.{Step}
use Rattle.kt_rule.specs.declared.views.Setup.{Setup}
use Rattle.kt_rule.specs.declared.views.View.{View}
use Rattle.kt_rule.specs.Rule.{Slots}
use Rattle.kt_rule.specs.Close.{Opens}

-- the setup that the call picked
abbrev pub OpensWith : Option Setup → Step Slots → View → ℕ → View → Type 0
OpensWith o st v n w = (j : Setup) → o ≡ Some j → Opens j st v n w
