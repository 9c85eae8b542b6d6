use Rattle.std.proofs.Common.{◌≡◌, ◌≤◌}
use Rattle.kt_frames.specs.Loops.{IsLooping, left_in}
use Rattle.kt_frames.proofs.loops.run_indexes.Given as goal

abbrev pub invariant-loop-index : goal.invariant-loop-index
invariant-loop-index l = (l.index ≤ l.call.length) × IsLooping l.program l.owner l.call × (l.owner.frames ≡ l.fn.owner.frames)
    × (left_in l.program l.owner l.call l.index l.least ≡ left_in l.program l.fn.owner l.call 0 l.fn.least)
