-- The fields of a core, and what holds of them.
use Rattle.kt_tables.specs.Tables.{CoreState}
use Rattle.kt_core.specs.Links.{IsSound}
use Rattle.kt_core.specs.declared.running.Core.TheInside.{Inside}

abbrev pub seen : Inside → CoreState
seen c = record { program = c.store.program; input = c.input.now; table = record { store = c.store.elements; tasks = c.tasks.items } }

abbrev pub IsSoundInside : Inside → Type 0
IsSoundInside c = IsSound (seen c) c.links.items
