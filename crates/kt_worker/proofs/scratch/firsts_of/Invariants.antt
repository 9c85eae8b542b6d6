use Rattle.std.proofs.Common.{◌≡◌, ◌<◌, ℕ, length, vec_capacity}
use Rattle.std.specs.List.{slice_index}
use Rattle.kt_prog.specs.Objects.{first_element_of}
use Rattle.kt_worker.proofs.scratch.firsts_of.Given as goal

abbrev pub invariant-loop-object : goal.invariant-loop-object
invariant-loop-object l = record {
  count : length l.firsts.items ≡ l.object;
  each : (k : ℕ) → k < l.object → slice_index l.firsts.items k ≡ first_element_of l.program.families k;
  room : vec_capacity l.firsts ≡ l.count;
}
