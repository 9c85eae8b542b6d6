use Rattle.std.proofs.Common.{refl}
use Rattle.kt_gen.proofs.Built.{made_as}
use Rattle.kt_gen.proofs.programs.product.Goals as goal

pub returns : goal.returns
returns c =
    made_as _ _ _ (rw (
      c.in_ok-inner-2.ensures,
      c.in_ok-inner.ensures,
      c.fork_of-inner.ensures,
      c.in_ok-args.ensures,
      c.first_of-3.ensures,
      c.first_of-2.ensures,
      c.first_of.ensures,
      c.first_of-at.ensures,
    ) refl) c.for_below-3.ensures
