use Rattle.std.proofs.Common.{◌≡◌, drop}
use Rattle.kt_body.specs.Widths.{width_among}
use Rattle.kt_body.proofs.measured.found.Given as goal

abbrev pub invariant-loop-width : goal.invariant-loop-width
invariant-loop-width l = width_among l.widths l.object ≡ width_among (drop l.width-index l.widths) l.object
