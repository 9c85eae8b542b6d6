use Rattle.std.proofs.Common.{◌≡◌, ◌+◌, drop}
use Rattle.kt_core.specs.Pieces.{place_from}
use Rattle.kt_core.proofs.pieces.place_from.Given as goal

abbrev pub invariant-loop-place : goal.invariant-loop-place
invariant-loop-place l = l.place + place_from l.at (drop l.place l.pieces) ≡ place_from l.at l.pieces
