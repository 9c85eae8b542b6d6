use Rattle.std.proofs.Common.{◌≡◌, Some, sym, ◌∙◌}
use Rattle.kt_body.specs.Widths.{width_among}
use Rattle.kt_body.proofs.Widths.{among_is}
use Rattle.kt_body.proofs.measured.Measured.width.Goals as goal

pub returns-in-Some : goal.returns-in-Some
returns-in-Some c =
    let there : width_among c.self.inside.widths.items c.args.object ≡ Some c.in-Some.elements = rw (← c.as_slice.ensures.value) (sym c.found.ensures ∙ c.in-Some.is) in
    rw (← c.self.view_is) (among_is _ _ _ _ c.self.invariant there)
