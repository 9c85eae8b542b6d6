use Rattle.std.proofs.Common.{◌≡◌}
use Rattle.kt_request.proofs.Dealing.{Holding}
use Rattle.kt_request.proofs.holding.hold_all.Given as goal

abbrev pub invariant-loop-thief : goal.invariant-loop-thief
invariant-loop-thief l = Holding l.victim l.thief l.fn.s.token.me.0 l.s.token.me.0 l.held.items
    × (l.s.token.table_id ≡ l.fn.s.token.table_id) × (l.s.token.me.1 ≡ l.fn.s.token.me.1) × (l.s.worker ≡ l.fn.s.worker)
