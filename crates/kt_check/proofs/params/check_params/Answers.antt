use Rattle.std.proofs.Common.{arith, refl, ◌∙◌}
use Rattle.kt_check.proofs.Sighting.{param_step}
use Rattle.kt_check.proofs.params.check_params.Goals as goal

pub loop-i-preserved : goal.loop-i-preserved
loop-i-preserved c = (
  omega arith,
  omega arith,
  c.loop-i.invariant.2,
  c.loop-i.invariant.3 ∙ param_step _ _ _ _ _ _ _ _ _ _ _ _ _ c.loop-i-test.true c.index-params-i.is refl c.with_int-ints.ensures.exact c.with_object-objects.ensures.exact c.check_sort.ensures c.check_name.ensures,
)
