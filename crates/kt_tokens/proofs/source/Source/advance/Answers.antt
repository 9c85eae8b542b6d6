use Rattle.std.proofs.Common.{refl, sym, ◌∙◌}
use Rattle.kt_tokens.proofs.Places.{brackets_fit, next_is, over_is, rest_is}
use Rattle.kt_tokens.proofs.source.Source.advance.Goals as goal

pub returns-then-is_over : goal.returns-then-is_over
returns-then-is_over c =
    let next = next_is c.self.inside.job.now c.self.inside.at c.self.inside.gauge c.self.inside.next.tok c.args.self.now c.self.view_is c.self.invariant.2 in
    (refl, refl, over_is c.self.inside.job.now c.self.inside.at c.self.inside.gauge c.self.inside.next.tok c.args.self.now c.self.view_is next (sym c.is_over.ensures ∙ c.if-is_over.true))

pub invariant_of-self : goal.invariant_of-self
invariant_of-self c =
    let e = c.find.ensures in (
      e.moved,
      e.stop,
      e.tok,
      e.refusal,
      c.self.invariant.5,
      e.within,
      brackets_fit c.self.inside.gauge c.pass.new.self c.self.inside.next.tok.symbol c.pass.ensures (sym c.is_over.ensures ∙ c.if-is_over.false) c.self.invariant.6,
    )

pub returns : goal.returns
returns c =
    let next = next_is c.self.inside.job.now c.self.inside.at c.self.inside.gauge c.self.inside.next.tok c.args.self.now c.self.view_is c.self.invariant.2 in (
      rest_is c.self.inside.job.now c.self.inside.at c.self.inside.next.stop c.self.inside.gauge c.pass.new.self c.self.inside.next.tok c.args.self.now c.self.view_is next
          c.self.invariant.1 c.pass.ensures,
      over_is c.self.inside.job.now c.self.inside.at c.self.inside.gauge c.self.inside.next.tok c.args.self.now c.self.view_is next (sym c.is_over.ensures ∙ c.if-is_over.false),
    )
