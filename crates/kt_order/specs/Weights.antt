-- How much bodies do, where each call and each act has a weight.
use Rattle.std.specs.Prelude.{ℕ, zero, suc, ◌+◌, cond, List, [], ◌∷◌}
use Rattle.kt_order.specs.Body.{Stop, Do, Fork}
use Rattle.kt_order.specs.Machine.{Machine, Code}
use Rattle.kt_order.specs.Sequential.{Entry}
use Rattle.kt_order.specs.Trace.{hearing}
use Rattle.kt_order.specs.Forest.{Task, Forest, Nil, Node}
use Rattle.kt_order.specs.Rest.{left}

module _ (m : Machine) (of_call : m.Call → ℕ) (of_act : m.Act → ℕ) where
  -- all acts of a body with these answers
  abbrev pub acts_weigh : Code m → List m.Answer → ℕ
  acts_weigh (Stop f) answers = 0
  acts_weigh (Do p k) answers = hearing m (m.asks p) 0 (λ a more. of_act p + acts_weigh (k a) more) answers
  acts_weigh (Fork c w) answers = acts_weigh w answers

  -- the acts among the first so many operations
  abbrev pub first_weigh : ℕ → Code m → List m.Answer → ℕ
  first_weigh zero w answers = 0
  first_weigh (suc n) (Stop f) answers = 0
  first_weigh (suc n) (Do p k) answers = hearing m (m.asks p) 0 (λ a more. of_act p + first_weigh n (k a) more) answers
  first_weigh (suc n) (Fork c w) answers = first_weigh n w answers

  -- the acts and the forked calls that come next, up to the first act that asks, and this act
  abbrev pub at_hand : Code m → ℕ
  at_hand (Stop f) = 0
  at_hand (Do p k) = of_act p + cond (m.asks p) 0 (at_hand (k m.none))
  at_hand (Fork c w) = of_call c + at_hand w

  -- a task with the acts that it has done, and what it has at hand
  abbrev pub task_weighs : Task m → ℕ
  task_weighs u = of_call u.call + first_weigh u.done (m.tree u.call) u.answers + at_hand (left m u)

  abbrev pub tasks_weigh : Forest m → ℕ
  tasks_weigh Nil = 0
  tasks_weigh (Node u kids later) = task_weighs u + (tasks_weigh kids + tasks_weigh later)

  -- the bodies of a run, each with all its acts
  abbrev pub entries_weigh : List (Entry m) → ℕ
  entries_weigh [] = 0
  entries_weigh (e ∷ es) = of_call e.call + acts_weigh (m.tree e.call) e.answers + entries_weigh es
