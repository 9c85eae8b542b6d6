use Rattle.std.proofs.Common.{◌≡◌, ◌≤◌, ◌+◌, ◌-◌, ◌*◌, ◌++◌, length}
use Rattle.kt_split.specs.Dealt.{dealt}
use Rattle.kt_split.proofs.splits.deal.Given as goal

abbrev pub invariant-loop-index : goal.invariant-loop-index
invariant-loop-index l = record {
  items : l.pieces.items ++ dealt l.at l.each (l.count - l.index) l.more ≡ dealt l.from l.each l.count l.longer;
  few : l.more ≤ l.count - l.index;
  sum : l.at + ((l.count - l.index) * l.each + l.more) ≡ l.from + (l.count * l.each + l.longer);
  many : length l.pieces.items ≡ l.index;
}
