use Rattle.std.proofs.Common.{sym, ◌∙◌}
use Rattle.kt_check.proofs.Passing.{no_family, no_task}
use Rattle.kt_check.proofs.directories.Directory.is_declared_before.Goals as goal

pub is_family_before-requires-clause-reached : goal.is_family_before-requires-clause-reached
is_family_before-requires-clause-reached c = λ h.
    rw c.as_slice.ensures (no_family c.self.inside.is_from c.self.inside.from c.args.place c.args.name.now (sym c.is_reached-reached.ensures ∙ h) _ c.self.invariant.4)

pub is_task_before-requires-clause-reached : goal.is_task_before-requires-clause-reached
is_task_before-requires-clause-reached c = λ h.
    rw c.as_slice-else-is_family_before.ensures (no_task c.self.inside.is_from c.self.inside.from c.args.place c.args.name.now (sym c.is_reached-reached.ensures ∙ h) _ c.self.invariant.5)
