use Rattle.kt_body.proofs.Widths.{widths_snoc}
use Rattle.kt_body.proofs.measured.Measured.note.Goals as goal

pub invariant_of-self : goal.invariant_of-self
invariant_of-self c = rw c.push.ensures.items (widths_snoc _ _ _ c.self.invariant c.width_at-elements.ensures)
