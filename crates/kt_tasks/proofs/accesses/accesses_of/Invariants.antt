use Rattle.std.proofs.Common.{◌≡◌, All, length}
use Rattle.kt_tasks.specs.Accesses.{IsAmong}
use Rattle.kt_tasks.proofs.Scanning.{Finding}
use Rattle.kt_tasks.proofs.accesses.accesses_of.Given as goal

abbrev pub invariant-loop-k : goal.invariant-loop-k
invariant-loop-k l = Finding l.at l.count l.fn.s.token.me.0 l.s.token.me.0 l.found.items × (length l.found.items ≡ l.k)
    × All (IsAmong l.t.layout.objects) l.found.items × (l.s.token.table_id ≡ l.fn.s.token.table_id)
    × (l.s.token.me.1 ≡ l.fn.s.token.me.1) × (l.s.worker ≡ l.fn.s.worker) × (l.s.word ≡ l.fn.s.word)
