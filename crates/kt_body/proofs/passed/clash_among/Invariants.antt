use Rattle.std.proofs.Common.{◌≡◌, drop}
use Rattle.kt_law.specs.Accesses.{clashes}
use Rattle.kt_body.proofs.passed.clash_among.Given as goal

abbrev pub invariant-loop-i : goal.invariant-loop-i
invariant-loop-i l = clashes l.fn.accesses ≡ clashes (drop l.i l.fn.accesses)
