use Rattle.std.proofs.Common.{refl, sym, ap, ◌∙◌}
use Rattle.kt_prog.specs.Accepted.{broken}
use Rattle.kt_prog.specs.Refusals.{refusal_of}
use Rattle.kt_check.proofs.Noted.{none_noted}
use Rattle.kt_check.proofs.check.Goals as goal

pub returns-in-None-clause-ok : goal.returns-in-None-clause-ok
returns-in-None-clause-ok c = (λ _. none_noted (broken c.args.program.now) (ap refusal_of (sym c.of-directory.ensures) ∙ sym c.first_breach.ensures ∙ c.in-None.is), λ _. refl)
