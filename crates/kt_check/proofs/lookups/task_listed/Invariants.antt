use Rattle.std.proofs.Common.{◌≡◌, suc, drop}
use Rattle.kt_prog.specs.Targets.{task_named}
use Rattle.kt_check.proofs.lookups.task_listed.Given as goal

abbrev pub invariant-loop-i : goal.invariant-loop-i
invariant-loop-i l = task_named (suc l.from) (drop l.from l.tasks) l.name ≡ task_named (suc l.i) (drop l.i l.tasks) l.name
