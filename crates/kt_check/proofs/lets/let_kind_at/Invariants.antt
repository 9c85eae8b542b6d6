use Rattle.std.proofs.Common.{◌≡◌, drop}
use Rattle.kt_prog.specs.Scope.{known_of}
use Rattle.kt_check.specs.Lets.{lets_at}
use Rattle.kt_check.proofs.lets.let_kind_at.Given as goal

abbrev pub invariant-loop-place : goal.invariant-loop-place
invariant-loop-place l = known_of (lets_at l.stmts l.places) l.name ≡ known_of (lets_at l.stmts (drop l.place-index l.places)) l.name
