use Rattle.std.proofs.Common.{◌≡◌, ◌++◌, drop}
use Rattle.kt_prog.specs.Locals.{given}
use Rattle.kt_body.specs.Starts.{IsPart, whole_start}
use Rattle.kt_body.proofs.start.name_params.Given as goal

abbrev pub invariant-loop-param : goal.invariant-loop-param
invariant-loop-param l =
    IsPart l.walk.locals l.used l.fn.ints l.fn.accesses
    × (l.walk.steps ≡ l.fn.walk.steps)
    × (l.fn.walk.locals ++ given l.fn.params l.fn.ints l.fn.accesses
    ≡ whole_start l.walk.locals l.used (drop l.param-index l.fn.params) l.fn.ints l.fn.accesses)
