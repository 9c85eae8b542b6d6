use Rattle.std.proofs.Common.{◌≡◌, drop}
use Rattle.kt_prog.specs.Locals.{local_of}
use Rattle.kt_body.proofs.walk.bound_in.Given as goal

abbrev pub invariant-loop-local : goal.invariant-loop-local
invariant-loop-local l = local_of l.locals l.name ≡ local_of (drop l.local-index l.locals) l.name
