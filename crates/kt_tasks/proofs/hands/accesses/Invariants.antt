use Rattle.std.proofs.Common.{◌≡◌, take}
use Rattle.arrayvec.specs.ArrayVec.{array_vec_len}
use Rattle.kt_rule.specs.declared.views.Spot.{Spot}
use Rattle.kt_tasks.specs.Hands.{IsHeld}
use Rattle.kt_tasks.proofs.hands.accesses.Given as goal

abbrev pub invariant-loop-i : goal.invariant-loop-i
invariant-loop-i l = (l.s.token.table_id ≡ l.fn.s.token.table_id) × (l.s.token.me ≡ l.fn.s.token.me) × (l.s.worker ≡ l.fn.s.worker)
    × (l.s.word ≡ l.fn.s.word) × (array_vec_len l.accesses ≡ l.i)
    × ((m : Spot) → IsHeld l.fn.s.token.me.0 l.fn.at m → l.accesses.items ≡ take l.i m.berth.call.accesses)
