use Rattle.std.proofs.Common.{sym, ap, ◌∙◌}
use Rattle.kt_request.specs.Notes.{stand_said}
use Rattle.kt_request.proofs.Words.{said}
use Rattle.kt_request.proofs.records.stand_of.Goals as goal

pub returns : goal.returns
returns c = let h = c.in-Some.ensures.sound in sym (said c.in-Some.state h.0) ∙ ap stand_said h.1
