use Rattle.std.proofs.Common.{length}
use Rattle.kt_frames.specs.Rest.{Finishes}
use Rattle.kt_frames.proofs.turn.claim.Given as goal

abbrev pub invariant-frames : goal.invariant-frames
invariant-frames l = Finishes l.initial.frames l.frames

abbrev pub decreases-frames : goal.decreases-frames
decreases-frames l = length l.frames.below
