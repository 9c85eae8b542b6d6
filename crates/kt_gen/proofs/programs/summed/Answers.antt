use Rattle.std.proofs.Common.{refl}
use Rattle.kt_gen.proofs.Built.{made_as}
use Rattle.kt_gen.proofs.programs.summed.Goals as goal

pub returns : goal.returns
returns c =
    made_as _ _ _ (rw (
      c.fork_of-inner.ensures,
      c.in_ok-push-2.ensures.ok,
      c.in_ok-push.ensures.ok,
      c.in_ok-args.ensures,
      c.numeral.ensures,
      c.bare_name.ensures,
      c.bare_name-2.ensures,
      c.in_ok-member_at.ensures,
      c.variable.ensures,
      c.first_of.ensures,
      c.first_of-at.ensures,
    ) refl) c.for_below.ensures
