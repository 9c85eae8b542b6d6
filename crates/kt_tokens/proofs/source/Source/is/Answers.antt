use Rattle.std.proofs.Common.{◌≡◌, true, sym, ◌∙◌, ap, subst, rules, Some}
use denote.Enum.Bare.{same_true, sameb}
use Rattle.kt_tokens.specs.contracts.tokens.Mark.{the_type}
use Rattle.kt_tokens.proofs.Signs.{mark_same}
use Rattle.kt_tokens.proofs.source.Source.is.Goals as goal

pub returns-in-Some : goal.returns-in-Some
returns-in-Some c = (
  (λ h. let e = same_true the_type (search rules) c.in-Some.found c.args.mark (sym (sym h ∙ c.eq.ensures)) in sym c.mark.ensures ∙ c.in-Some.is ∙ ap Some e),
  (λ e.
      let f : Some c.in-Some.found ≡ Some c.args.mark = sym c.in-Some.is ∙ c.mark.ensures ∙ e in
      let g : c.in-Some.found ≡ c.args.mark = cc in
      c.eq.ensures ∙ subst (λ m. sameb the_type m c.args.mark ≡ true) (sym g) (mark_same c.args.mark)),
)
