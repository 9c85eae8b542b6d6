use Rattle.kt_body.proofs.Objects.{range_bin, range_elem, range_num}
use Rattle.kt_body.proofs.forks.range_expr.Goals as goal

pub returns-in-Num : goal.returns-in-Num
returns-in-Num c =
    rw c.nowhere.ensures (range_num _ _ _ c.in-Num.is)

pub returns-in-Elem : goal.returns-in-Elem
returns-in-Elem c =
    rw c.nowhere-in-Elem.ensures (range_elem _ _ _ _ _ c.in-Elem.is)

pub returns-in-Bin : goal.returns-in-Bin
returns-in-Bin c =
    rw c.nowhere-in-Bin.ensures (range_bin _ _ _ _ _ c.in-Bin.is)
