use Rattle.std.proofs.Common.{◌≡◌, ◌++◌, take, string_bytes}
use Rattle.std.specs.List.{flat_map}
use Rattle.kt_print.specs.CanonicalText.{task_text}
use Rattle.kt_print.proofs.printing.declarations.push_tasks.Given as goal

abbrev pub invariant-loop-task : goal.invariant-loop-task
invariant-loop-task l = string_bytes l.text ≡ string_bytes l.initial.text ++ flat_map task_text (take l.task-index l.tasks)
