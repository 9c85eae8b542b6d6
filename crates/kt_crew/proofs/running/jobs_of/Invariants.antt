use Rattle.std.proofs.Common.{◌≡◌, ◌≤◌, ◌+◌, ◌++◌, length, vec_len, vec_capacity}
use Rattle.kt_crew.specs.Crews.{AreReady, seats_in}
use Rattle.kt_crew.proofs.running.jobs_of.Given as goal

-- the jobs so far and the seats that are left
abbrev pub invariant-loop-alloc : goal.invariant-loop-alloc
invariant-loop-alloc l = record {
  seats : seats_in l.jobs.items ++ l.seats.items ≡ l.fn.seats.items;
  ready : AreReady l.program l.jobs.items;
  room : length l.jobs.items + length l.seats.items ≤ vec_capacity l.jobs;
}

abbrev pub decreases-loop-alloc : goal.decreases-loop-alloc
decreases-loop-alloc l = vec_len l.seats
