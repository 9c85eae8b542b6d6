use Rattle.std.proofs.Common.{◌≡◌, ◌+◌, ◌<◌, ◌^◌, ◌%◌, drop, length}
use Rattle.std.specs.List.{sum}
use Rattle.kt_prog.specs.Objects.{elements_of}
use Rattle.kaapi.specs.Totals.{outputs_of}
use Rattle.kaapi.proofs.totals.output_sum.Given as goal

-- the sum so far and that of what is left are the sum of all
abbrev pub invariant-loop-family : goal.invariant-loop-family
invariant-loop-family l = record {
  total : (l.total + sum (outputs_of (drop l.family-index l.family-items) l.rest)) % 2 ^ 64 ≡ sum (outputs_of l.program.families l.rows) % 2 ^ 64;
  all : length l.rest ≡ elements_of (drop l.family-index l.family-items);
  few : length l.rest < 2 ^ 32;
}
