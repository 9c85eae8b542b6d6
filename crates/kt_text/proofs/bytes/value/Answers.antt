use Rattle.std.proofs.Common.{arith}
use Rattle.kt_text.proofs.Digits.{at_least}
use Rattle.kt_text.proofs.bytes.value.Goals as goal

pub returns-in_err-checked_mul : goal.returns-in_err-checked_mul
returns-in_err-checked_mul c =
    let large = at_least c.loop-digit.n c.args.digits.now c.loop-digit.digit-index (omega arith) in
    rw c.from_residual.ensures (omega (arith, large, c.loop-digit.invariant, c.in_err-checked_mul.ensures))

pub returns-in_err-n : goal.returns-in_err-n
returns-in_err-n c =
    let large = at_least c.loop-digit.n c.args.digits.now c.loop-digit.digit-index (omega arith) in
    rw c.from_residual-in_err-n.ensures (omega (arith, large, c.loop-digit.invariant, c.in_ok-checked_mul.ensures.1, c.from.ensures, c.saturating_sub.ensures, c.in_err-n.ensures))
