-- main runs and has done nothing; behind its body its end is due.
use Rattle.std.proofs.Common.{◌∙◌, ap}
use Rattle.kt_prog.specs.Calls.{Whole}
use Rattle.kt_prog.specs.Fits.{is_main}
use Rattle.kt_prog.specs.declared.runs.Operation.TheVariants as O
use Rattle.kt_tables.specs.TableEvents.{state_after}
use Rattle.kt_tables.specs.declared.events.Event.TheVariants as E
use Rattle.kt_trials.proofs.Driving.{can_ask_body, end_due, main_stands}
use Rattle.kt_trials.proofs.driven.main_has_run.Goals as goal

pub run_body-requires-clause-begins : goal.run_body-requires-clause-begins
run_body-requires-clause-begins c = record {
  accepted = c.requires.accepted;
  fits = is_main c.of_main.ensures;
  stands = main_stands c.args.program.now c.step.new.self c.of_main.result (c.in-Ok.ensures.done ∙ ap (state_after (E.ClaimInOrder 0)) c.requires.opening) c.of_main.ensures;
  running = λ h. cc;
}

pub step-requires-2 : goal.step-requires-2
step-requires-2 c =
    let d = c.run_body.new.ops in
    let e = c.in-Done.ensures in
    can_ask_body d.core d.task O.End (end_due d.core d.task c.args.program.now (Whole c.of_main.result) e.0 e.1 e.2.stands)
