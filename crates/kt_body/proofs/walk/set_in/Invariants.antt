use Rattle.std.proofs.Common.{◌≡◌, take, drop, ◌++◌}
use Rattle.kt_prog.specs.Lookups.{assign}
use Rattle.kt_body.proofs.walk.set_in.Given as goal

abbrev pub invariant-loop-i : goal.invariant-loop-i
invariant-loop-i l = assign l.fn.locals l.name l.n ≡ take l.i l.locals ++ assign (drop l.i l.locals) l.name l.n
