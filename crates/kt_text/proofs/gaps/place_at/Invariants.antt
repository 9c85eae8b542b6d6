use Rattle.std.proofs.Common.{◌≡◌}
use Rattle.kt_text.specs.Places.{place_of}
use Rattle.kt_text.proofs.gaps.place_at.Given as goal

abbrev pub invariant-loop-byte : goal.invariant-loop-byte
invariant-loop-byte l = l.place ≡ place_of l.byte-items l.byte-index
