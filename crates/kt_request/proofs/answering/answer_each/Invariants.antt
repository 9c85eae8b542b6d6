use Rattle.std.proofs.Common.{◌≡◌, ◌++◌, ◌-◌, length, drop, List}
use Rattle.kt_rule.specs.declared.views.Share.{Share}
use Rattle.kt_request.specs.Reports.{deal}
use Rattle.kt_request.specs.Serving.{Answering}
use Rattle.kt_request.proofs.answering.answer_each.Given as goal

abbrev pub invariant-loop-i : goal.invariant-loop-i
invariant-loop-i l = ((others : List Share) → Answering l.held l.given l.at l.pieces others l.fn.s.token.me.0 0 l.fn.s.token.me.0
    → Answering l.held l.given l.at l.pieces others l.fn.s.token.me.0 l.i l.s.token.me.0)
    × (l.answers.items ++ deal (drop l.i l.held) (drop l.i l.given) l.at (drop (l.i - length l.given) l.pieces)
    ≡ deal l.held l.given l.at l.pieces)
    × (l.s.token.table_id ≡ l.fn.s.token.table_id) × (l.s.token.me.1 ≡ l.fn.s.token.me.1) × (l.s.worker ≡ l.fn.s.worker)
    × (length l.answers.items ≡ l.i)
