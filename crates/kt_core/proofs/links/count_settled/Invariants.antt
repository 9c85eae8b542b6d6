use Rattle.kt_core.specs.Links.{AreDone}
use Rattle.kt_core.proofs.links.count_settled.Given as goal

abbrev pub invariant-loop-place : goal.invariant-loop-place
invariant-loop-place l = AreDone l.tasks l.numbers l.place
