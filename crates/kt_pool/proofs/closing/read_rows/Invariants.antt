use Rattle.std.proofs.Common.{◌≡◌, ◌≤◌, length, take, vec_capacity}
use Rattle.std.specs.Mem.Slots.{slots_items}
use Rattle.kt_rule.specs.Records.{elements}
use Rattle.kt_pool.proofs.closing.read_rows.Given as goal

-- as many rows as were read
abbrev pub invariant-loop-number : goal.invariant-loop-number
invariant-loop-number l = record {
  count : length l.rows.items ≡ l.number;
  read : l.rows.items ≡ take l.number (elements l.layout (slots_items l.words.words));
  room : l.layout.elements ≤ vec_capacity l.rows;
}
