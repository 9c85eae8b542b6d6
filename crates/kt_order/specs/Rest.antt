-- What is left to do in a state, in the order of the sequential run.
use Rattle.std.specs.Prelude.{ℕ, ◌+◌, ◌++◌, Option, Some, None}
use Rattle.kt_order.specs.Body.{Stop}
use Rattle.kt_order.specs.Machine.{Machine, Code}
use Rattle.kt_order.specs.Sequential.{Run, alone, each, noted, joined, still_at, whole}
use Rattle.kt_order.specs.Stand.{Standing, stand}
use Rattle.kt_order.specs.Forest.{Phase, Unclaimed, Running, Ended, Finished, Task, Forest, Nil, Node}

module _ (m : Machine) where
  -- where the task's body stands
  abbrev pub standing : Task m → Option (Standing m)
  standing u = stand m (m.tree u.call) u.answers u.done

  abbrev pub left_of : Option (Standing m) → Code m
  left_of None = Stop None
  left_of (Some st) = st.left

  -- what is left of the task's body
  abbrev pub left : Task m → Code m
  left u = left_of (standing u)

  -- how many of so many operations are left: none where the end was done
  abbrev pub still : Phase → ℕ → ℕ
  still Unclaimed n = n
  still Running n = n
  still Ended n = 0
  still Finished n = 0

  -- what is left of the task's body, then of its children, then the calls that it forks on the way
  abbrev pub rest_of_one : Task m → (m.Store → Run m) → m.Store → Run m
  rest_of_one u children s =
      let a = alone m (left u) s in
      let b = children a.store in
      noted m u.call (u.answers ++ a.answers) a.fault (u.done + still u.phase a.steps) (joined m b (each m (whole m) a.forks b.store))

  -- what is left of a frame, with the entries of all that was done
  abbrev pub rest : Forest m → m.Store → Run m
  rest Nil s = still_at m s
  rest (Node u kids later) s =
      let x = rest_of_one u (rest kids) s in
      joined m x (rest later x.store)
