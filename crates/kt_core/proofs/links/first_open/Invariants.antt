use Rattle.std.proofs.Common.{◌≡◌, drop}
use Rattle.kt_tables.specs.Tables.{is_open}
use Rattle.kt_core.specs.Links.{first_below}
use Rattle.kt_core.proofs.links.first_open.Given as goal

abbrev pub invariant-loop-number : goal.invariant-loop-number
invariant-loop-number l = first_below l.bound is_open l.tasks (drop l.number-index l.numbers) ≡ first_below l.bound is_open l.tasks l.numbers
