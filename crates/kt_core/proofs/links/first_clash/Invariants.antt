use Rattle.std.proofs.Common.{◌≡◌, drop}
use Rattle.kt_core.specs.Links.{first_below, is_in_the_way}
use Rattle.kt_core.proofs.links.first_clash.Given as goal

abbrev pub invariant-loop-number : goal.invariant-loop-number
invariant-loop-number l =
    first_below l.bound (is_in_the_way l.call) l.tasks (drop l.number-index l.numbers) ≡ first_below l.bound (is_in_the_way l.call) l.tasks l.numbers
