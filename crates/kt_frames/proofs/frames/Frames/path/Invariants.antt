use Rattle.std.proofs.Common.{◌≡◌, drop, map, take}
use Rattle.kt_frames.proofs.Layouts.{number_of}
use Rattle.kt_frames.proofs.frames.Frames.path.Given as goal

abbrev pub invariant-loop-i : goal.invariant-loop-i
invariant-loop-i l = l.path.items ≡ drop 1 (map number_of (take l.i l.self-inside.below.items))
