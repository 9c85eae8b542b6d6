use Rattle.std.proofs.Common.{◌≡◌, length, List}
use Rattle.kt_rule.specs.declared.views.Note.{Note}
use Rattle.kt_request.specs.Serving.{Scanned, IsLast}
use Rattle.kt_request.proofs.scanning.scan_all.Given as goal

abbrev pub invariant-loop-i : goal.invariant-loop-i
invariant-loop-i l = (ns : List Note) × Scanned l.first l.held l.fn.s.token.me.0 ns l.s.token.me.0 l.scan l.given.items
    × (length ns ≡ l.i) × IsLast l.last ns × (l.s.token.table_id ≡ l.fn.s.token.table_id) × (l.s.token.me.1 ≡ l.fn.s.token.me.1)
    × (l.s.worker ≡ l.fn.s.worker) × (l.scan.entries ≡ l.fn.scan.entries) × (l.scan.objects ≡ l.fn.scan.objects)
