use Rattle.std.proofs.Common.{◌≡◌, ◌^◌, ◌%◌, take}
use Rattle.std.specs.List.{sum}
use Rattle.kaapi.proofs.totals.sum_of.Given as goal

abbrev pub invariant-loop-value : goal.invariant-loop-value
invariant-loop-value l = l.total ≡ sum (take l.value-index l.values) % 2 ^ 64
