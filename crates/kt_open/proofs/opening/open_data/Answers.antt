use Rattle.std.proofs.Common.{Err, ap, ◌∙◌}
use Rattle.kt_open.specs.Answers.{Opens}
use Rattle.kt_open.specs.Answers.Unopens.{bad_number, too_few, too_many}
use Rattle.kt_open.proofs.opening.open_data.Goals as goal

pub returns-in-Err-BadNumber-clause-unopened : goal.returns-in-Err-BadNumber-clause-unopened
returns-in-Err-BadNumber-clause-unopened c =
    let opens : Opens c.args.job.now c.args.program.now c.args.from c.inputs.result =
    record { job = c.requires.opens.job; accepted = c.requires.opens.accepted; wants = c.inputs.ensures } in
    (6, bad_number opens (c.in-Err-BadNumber.ensures.refused (λ e. cc) ∙ ap Err c.in-Err-BadNumber.field-0-is))

pub returns-in-Err-TooFew-clause-unopened : goal.returns-in-Err-TooFew-clause-unopened
returns-in-Err-TooFew-clause-unopened c =
    let opens : Opens c.args.job.now c.args.program.now c.args.from c.inputs.result =
    record { job = c.requires.opens.job; accepted = c.requires.opens.accepted; wants = c.inputs.ensures } in
    (6, too_few opens (c.in-Err-TooFew.ensures.refused (λ e. cc) ∙ ap Err c.in-Err-TooFew.field-0-is))

pub returns-in-Err-TooMany-clause-unopened : goal.returns-in-Err-TooMany-clause-unopened
returns-in-Err-TooMany-clause-unopened c =
    let opens : Opens c.args.job.now c.args.program.now c.args.from c.inputs.result =
    record { job = c.requires.opens.job; accepted = c.requires.opens.accepted; wants = c.inputs.ensures } in
    (6, too_many opens (c.in-Err-TooMany.ensures.refused (λ e. cc) ∙ ap Err c.in-Err-TooMany.field-0-is))
