-- Nothing is next in a loop that has nothing to zero.
use Rattle.kt_trials.proofs.Driving.{can_begin}
use Rattle.kt_trials.proofs.driven.is_bare_loop.Goals as goal

pub returns-in-Loop : goal.returns-in-Loop
returns-in-Loop c bare =
    can_begin c.args.core.now c.args.task c.program.result.now c.call-call.result.now c.form.result c.loop_is_zeroing.ensures c.requires
    c.call-call.ensures c.program.ensures c.form.ensures c.in-Loop.is (c.has_no_access.ensures bare)
