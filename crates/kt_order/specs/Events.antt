-- The events of a state, where each is enabled, and what it does.
use Rattle.std.specs.Prelude.{◌≡◌, suc, List, [], ◌∷◌, ◌++◌, ℕ, None, ◌⊎◌}
use Rattle.kt_order.specs.Body.{Stop, Do, Fork}
use Rattle.kt_order.specs.Machine.{Machine, Code}
use Rattle.kt_order.specs.Sequential.{keeps}
use Rattle.kt_order.specs.Laws.{Rights}
use Rattle.kt_order.specs.Forest.{Phase, Unclaimed, Running, Ended, Finished, Place, Here, Down, Later, Task, Forest, Nil, Node, AllTasks, At, Before, change, add_last, fresh}
use Rattle.kt_order.specs.Rest.{left}

pub data Event : Type 0 where
  -- a claim of the first task of a frame that is not finished
  ClaimInOrder : Place → Event
  -- a claim ahead of tasks from which it is apart
  ClaimReady : Place → Event
  -- the next operation of a body
  Step : Place → Event
  Finish : Place → Event

module _ (m : Machine) where
  pub record State : Type 0 where
    pub forest : Forest m
    pub store : m.Store

  -- the root alone, unclaimed
  abbrev pub opening : m.Call → m.Store → State
  opening c s = record { forest = Node (fresh m c) Nil Nil; store = s }

  -- what an event changes of a task
  pub record Now : Type 0 where
    pub phase : Phase
    pub answers : List m.Answer
    pub done : ℕ

  abbrev pub put : (Task m → Now) → Task m → Task m
  put h u = record { call = u.call; phase = (h u).phase; answers = (h u).answers; done = (h u).done }

  abbrev pub in_phase : Phase → Task m → Now
  in_phase ph u = record { phase = ph; answers = u.answers; done = u.done }

  abbrev pub did : m.Act → m.Answer → Task m → Now
  did p a u = record { phase = u.phase; answers = u.answers ++ keeps m p a; done = suc u.done }

  abbrev pub forked : Task m → Now
  forked u = record { phase = u.phase; answers = u.answers; done = suc u.done }

  abbrev pub ended : Task m → Now
  ended u = record { phase = Ended; answers = u.answers; done = suc u.done }

  abbrev pub same_frame : Forest m → Forest m
  same_frame F = F

  -- what is left of the body at a place
  abbrev pub left_at : Place → Forest m → Code m
  left_at q Nil = Stop None
  left_at Here (Node u kids later) = left m u
  left_at (Down q) (Node u kids later) = left_at q kids
  left_at (Later q) (Node u kids later) = left_at q later

  -- the next operation of a body at a place: an act answers from the store, a fork adds an unclaimed child
  abbrev pub operate : Code m → Place → State → State
  operate (Stop f) q x = record { forest = change m (put ended) same_frame q x.forest; store = x.store }
  operate (Do p k) q x = record { forest = change m (put (did p (m.answer p x.store))) same_frame q x.forest; store = m.after p x.store }
  operate (Fork c w) q x = record { forest = change m (put forked) (add_last m (fresh m c)) q x.forest; store = x.store }

  abbrev pub enter : Phase → Place → State → State
  enter ph q x = record { forest = change m (put (in_phase ph)) same_frame q x.forest; store = x.store }

  -- what an event does
  abbrev pub step : Event → State → State
  step (ClaimInOrder q) x = enter Running q x
  step (ClaimReady q) x = enter Running q x
  step (Step q) x = operate (left_at q x.forest) q x
  step (Finish q) x = enter Finished q x

  abbrev pub run : List Event → State → State
  run [] x = x
  run (e ∷ es) x = run es (step e x)

  -- the tasks of the frame are finished; the frame of the root has the root alone
  abbrev pub IsFinished : Task m → Type 0
  IsFinished u = u.phase ≡ Finished

  abbrev pub AllFinished : Forest m → Type 0
  AllFinished F = AllTasks m IsFinished F

  module _ (r : Rights m) where
    -- v may be claimed though the earlier task u stands before it
    abbrev pub MayPass : Task m → Task m → Type 0
    MayPass u v = IsFinished u ⊎ r.Apart u.call v.call

    abbrev pub Enabled : Event → State → Type 0
    Enabled (ClaimInOrder q) x = At m (λ u kids. u.phase ≡ Unclaimed) q x.forest × Before m (λ u v. IsFinished u) q x.forest
    Enabled (ClaimReady q) x = At m (λ u kids. u.phase ≡ Unclaimed) q x.forest × Before m MayPass q x.forest
    Enabled (Step q) x = At m (λ u kids. u.phase ≡ Running) q x.forest
    Enabled (Finish q) x = At m (λ u kids. (u.phase ≡ Ended) × AllFinished kids) q x.forest

    -- each event is enabled where the earlier ones lead
    abbrev pub Follows : List Event → State → Type 0
    Follows [] x = Unit {0}
    Follows (e ∷ es) x = Enabled e x × Follows es (step e x)
