use Rattle.std.proofs.Common.{◌≡◌, ℕ, ◌+◌, ◌<◌}
use mathlib.Core.Option.{some}
use lib.ListN.{get_elem?}
use Rattle.kt_rule.specs.Lists.{In}
use Rattle.kt_tasks.specs.Fields.{AreClear, HasFilled}
use Rattle.kt_tasks.proofs.records.write_ints.Given as goal

abbrev pub invariant-loop-i : goal.invariant-loop-i
invariant-loop-i l = (l.s.token.table_id ≡ l.fn.s.token.table_id) × (l.s.token.me.1 ≡ l.fn.s.token.me.1) × (l.s.worker ≡ l.fn.s.worker)
    × (l.s.word ≡ l.fn.s.word) × HasFilled l.fn.s.token.me.0 l.s.token.me.0 × AreClear (5 + l.i) l.s.token.me.0
    × ((k n : ℕ) → k < l.i → get_elem? l.fn.ints k ≡ some n → In (record { field = 5 + k; word = n }) l.s.token.me.0.region.built)
