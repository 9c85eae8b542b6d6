use Rattle.std.proofs.Common.{◌≡◌, ◌++◌, map}
use Rattle.std.specs.List.{range_with_len}
use Rattle.kt_gen.specs.Numbers.{element_of}
use Rattle.kt_gen.proofs.numbers.Drawing.push_row.Given as goal

-- the elements so far stand behind what was there
abbrev pub invariant-loop-place : goal.invariant-loop-place
invariant-loop-place l =
    l.numbers.items ≡ l.fn.numbers.items ++ map (λ e. element_of l.self.kind l.self.size l.self.number l.member e) (range_with_len 0 l.place)
