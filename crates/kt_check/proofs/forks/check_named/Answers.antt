use Rattle.std.proofs.Common.{◌≤◌, ap, length, sym, ◌∙◌}
use Rattle.kt_prog.specs.ForkRules.{fork_rule}
use Rattle.kt_prog.specs.Refusals.{noted}
use Rattle.kt_check.specs.Sights.{scope_of}
use Rattle.kt_check.proofs.Noting.{named_nowhere}
use Rattle.kt_check.proofs.forks.check_named.Goals as goal

pub returns : goal.returns
returns c =
    let nowhere : length c.args.sight.now.program.now.tasks ≤ c.task_at-at.result = rw c.tasks-tasks.ensures at c.if-at-tasks.false in
    rw (c.check_all_names.ensures, c.check_length.ensures, c.note.ensures)
    (sym (ap (λ m. noted c.args.found.now (fork_rule m c.args.place (scope_of c.args.sight.now) c.args.len.now c.args.args.now)) c.task_at-at.ensures.passed ∙ named_nowhere _ _ _ _ _ _ _ nowhere _))
