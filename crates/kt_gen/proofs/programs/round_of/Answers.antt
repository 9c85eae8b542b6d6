use Rattle.std.proofs.Common.{refl}
use Rattle.kt_gen.proofs.programs.round_of.Goals as goal

pub returns : goal.returns
returns c = rw (
  c.in_ok-push-2.ensures.ok,
  c.in_ok-push.ensures.ok,
  c.in_ok-body.ensures,
  c.in_ok-copied.ensures,
  c.in_ok-walked.ensures,
  c.in_ok-copy_all.ensures,
  c.in_ok-product.ensures,
) refl
