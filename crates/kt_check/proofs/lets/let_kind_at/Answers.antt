use Rattle.std.proofs.Common.{refl, sym, ◌∙◌}
use Rattle.kt_check.proofs.Sighting.{place_next}
use Rattle.kt_check.proofs.lets.let_kind_at.Goals as goal

pub loop-place-preserved : goal.loop-place-preserved
loop-place-preserved c = c.loop-place.invariant ∙ place_next _ _ _ _ _ _ c.loop-place-test.true refl (sym c.is_let_at.ensures ∙ c.if-is_let_at.false)
