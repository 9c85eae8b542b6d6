use Rattle.std.proofs.Common.{refl, ◌∙◌}
use Rattle.kt_gen.proofs.programs.smoothed.Goals as goal

pub returns : goal.returns
returns c =
    c.for_each.ensures
    ∙ rw (c.in_ok-inner.ensures, c.fork_of.ensures, c.in_ok-args.ensures, c.first_of.ensures, c.first_of-at.ensures) refl
