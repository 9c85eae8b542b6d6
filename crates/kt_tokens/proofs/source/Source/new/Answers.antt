use Rattle.std.proofs.Common.{◌≤◌, sym, subst, arith}
use Rattle.kt_law.specs.declared.limits.TheConstants.{BRACKETS}
use Rattle.kt_tokens.specs.declared.gauge.Gauge.{Gauge}
use Rattle.kt_tokens.proofs.source.Source.new.Goals as goal

pub invariant_of-result : goal.invariant_of-result
invariant_of-result c =
    let e = c.find.ensures in
    (e.moved, e.stop, e.tok, e.refusal, omega arith, e.within, subst (λ (g : Gauge). g.brackets ≤ BRACKETS) (sym c.new.ensures) (omega arith))
