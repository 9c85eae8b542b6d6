-- The bodies of a run, weighed by their calls.
use Rattle.std.specs.Prelude.{ℕ, ◌+◌, List, [], ◌∷◌}
use Rattle.kt_order.specs.Body.{Stop, Do, Fork}
use Rattle.kt_order.specs.Machine.{Machine, Code}
use Rattle.kt_order.specs.Sequential.{Entry}
use Rattle.kt_prog.specs.Calls.{Job, Whole, Index}
use Rattle.kt_prog.specs.Reference.{Placed}

module _ (m : Machine) (g : m.Call → ℕ) where
  -- the weight of the call that is forked next
  abbrev pub next_weight : Code m → ℕ
  next_weight (Stop f) = 0
  next_weight (Do p k) = 0
  next_weight (Fork c w) = g c

  -- the weights of all calls that are forked before anything else is done
  abbrev pub forks_ahead : Code m → ℕ
  forks_ahead (Stop f) = 0
  forks_ahead (Do p k) = 0
  forks_ahead (Fork c w) = g c + forks_ahead w

  -- the weights of all entries
  abbrev pub weight_of : List (Entry m) → ℕ
  weight_of [] = 0
  weight_of (e ∷ es) = g e.call + weight_of es

abbrev pub one_if_whole : Job → ℕ
one_if_whole (Whole call) = 1
one_if_whole (Index call i) = 0

-- 1 for a task, 0 for an index of a loop
abbrev pub is_task : Placed → ℕ
is_task c = one_if_whole c.job

abbrev pub one_if_index : Job → ℕ
one_if_index (Whole call) = 0
one_if_index (Index call i) = 1

-- 1 for an index of a loop, 0 for a task
abbrev pub is_index : Placed → ℕ
is_index c = one_if_index c.job
