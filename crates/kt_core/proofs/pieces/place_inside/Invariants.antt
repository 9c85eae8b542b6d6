use Rattle.std.proofs.Common.{◌≡◌, ◌+◌, drop}
use Rattle.kt_core.specs.Pieces.{place_inside}
use Rattle.kt_core.proofs.pieces.place_inside.Given as goal

abbrev pub invariant-loop-place : goal.invariant-loop-place
invariant-loop-place l = l.place + place_inside l.at (drop l.place l.pieces) ≡ place_inside l.at l.pieces
