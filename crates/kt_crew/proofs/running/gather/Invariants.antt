use Rattle.std.proofs.Common.{◌≡◌, ◌≤◌, ◌+◌, None, ◌++◌, length, vec_len, vec_capacity}
use Rattle.kt_crew.specs.Crews.{seats_back}
use Rattle.kt_crew.specs.Ends.{first_with}
use Rattle.kt_crew.proofs.running.gather.Given as goal

-- what was gathered and what is left are all
abbrev pub invariant-loop-all : goal.invariant-loop-all
invariant-loop-all l = record {
  back : l.seats.items ++ seats_back l.all.items ≡ seats_back l.fn.all.items;
  least : first_with l.least l.all.items ≡ first_with None l.fn.all.items;
  room : length l.seats.items + length l.all.items ≤ vec_capacity l.seats;
}

abbrev pub decreases-loop-all : goal.decreases-loop-all
decreases-loop-all l = vec_len l.all
