use Rattle.std.proofs.Common.{◌≡◌, ◌*◌, ◌<◌}
use Rattle.kt_words.specs.declared.layouts.TheConstants.{RECORDS}
use Rattle.kt_tasks.proofs.Trail.{Way}
use Rattle.kt_tasks.proofs.paths.path_of.Given as goal

abbrev pub invariant-loop : goal.invariant-loop
invariant-loop l = Way l.fn.s.token.me.0 l.s.token.me.0 l.fn.at l.record l.counter l.path.items
    × (l.record < RECORDS * l.t.layout.workers) × (l.s.token.table_id ≡ l.fn.s.token.table_id)
    × (l.s.token.me.1 ≡ l.fn.s.token.me.1) × (l.s.worker ≡ l.fn.s.worker) × (l.s.word ≡ l.fn.s.word)
