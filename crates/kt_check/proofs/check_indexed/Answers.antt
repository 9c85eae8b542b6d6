use Rattle.std.proofs.Common.{refl, sym, ap, ◌∙◌}
use Rattle.kt_prog.specs.Accepted.{broken}
use Rattle.kt_prog.specs.Refusals.{refusal_of}
use Rattle.kt_check.proofs.ByName.{all_reached}
use Rattle.kt_check.proofs.Noted.{none_noted}
use Rattle.kt_check.proofs.check_indexed.Goals as goal

pub returns-in-Err-clause-ok : goal.returns-in-Err-clause-ok
returns-in-Err-clause-ok c = (λ e. cc, λ h. absurd (all_reached c.args.program.now h c.in-Err.ensures.beyond))

pub returns-in-None-clause-ok : goal.returns-in-None-clause-ok
returns-in-None-clause-ok c = (λ _. none_noted (broken c.args.program.now) (ap refusal_of (sym c.in-Ok.ensures.exact) ∙ sym c.first_breach.ensures ∙ c.in-None.is), λ _. refl)
