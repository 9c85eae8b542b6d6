use Rattle.std.proofs.Common.{◌≡◌, drop}
use Rattle.kt_law.specs.Accesses.{any_clash}
use Rattle.kt_body.proofs.passed.clashes_with.Given as goal

abbrev pub invariant-loop-other : goal.invariant-loop-other
invariant-loop-other l = any_clash l.fn.access l.fn.others ≡ any_clash l.fn.access (drop l.other-index l.fn.others)
