use Rattle.kt_body.proofs.targets.sort_at.Goals as goal

pub returns-in-Task : goal.returns-in-Task
returns-in-Task c =
    rw c.in-Task.is c.param_sort.ensures
