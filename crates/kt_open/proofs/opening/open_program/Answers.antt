use Rattle.std.proofs.Common.{refl}
use Rattle.kt_open.specs.Answers.IsRefused.{unread, broken}
use Rattle.kt_open.proofs.opening.open_program.Goals as goal

pub returns-in-Err-Refused-clause-unopened : goal.returns-in-Err-Refused-clause-unopened
returns-in-Err-Refused-clause-unopened c =
    let h = rw c.in-Err-Refused.field-0-is at c.in-Err-Refused.ensures.refused in
    rw c.in-Err-Refused.refusal-is (_, refl, unread h)

pub returns-in-Err-Refused-check_indexed-clause-unopened : goal.returns-in-Err-Refused-check_indexed-clause-unopened
returns-in-Err-Refused-check_indexed-clause-unopened c =
    let h = rw c.in-Err-Refused-check_indexed.field-0-is at c.in-Err-Refused-check_indexed.ensures.refused in
    rw c.in-Err-Refused-check_indexed.refusal-is (_, refl, broken c.in-Ok.ensures.job h)
