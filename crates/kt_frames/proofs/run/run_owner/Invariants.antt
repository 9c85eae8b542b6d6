use Rattle.std.proofs.Common.{◌≡◌}
use Rattle.kt_prog.specs.Outcome.{outcome_of}
use Rattle.kt_frames.specs.Rest.{IsLive, left, to_do}
use Rattle.kt_frames.proofs.run.run_owner.Given as goal

abbrev pub invariant-turns : goal.invariant-turns
invariant-turns l = record {
  live : IsLive l.program l.owner;
  whole : left l.program l.owner l.least ≡ outcome_of l.program l.input;
}

abbrev pub decreases-turns : goal.decreases-turns
decreases-turns l = to_do l.owner
