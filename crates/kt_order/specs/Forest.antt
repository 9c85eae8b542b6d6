-- The tasks of a state: a forest, in the order of forks.
use Rattle.std.specs.Prelude.{ℕ, List, [], ◌∷◌}
use Rattle.kt_order.specs.Machine.{Machine}

pub data Phase : Type 0 where
  Unclaimed Running Ended Finished : Phase
  deriving IsSet as Phase-set

-- where a task stands in the forest
pub data Place : Type 0 where
  Here : Place
  Down : Place → Place
  Later : Place → Place

module _ (m : Machine) where
  pub record Task : Type 0 where
    pub call : m.Call
    pub phase : Phase
    -- the answers that its body has heard, and how many operations it has done
    pub answers : List m.Answer
    pub done : ℕ
    deriving IsSet as Task-set

  -- the tasks of a frame in order, each with the frame of its children
  pub data Forest : Type 0 where
    Nil : Forest
    Node : (task : Task) → (children : Forest) → (later : Forest) → Forest
    deriving IsSet as Forest-set

  -- each task of the frame
  abbrev pub AllTasks : (Task → Type 0) → Forest → Type 0
  AllTasks P Nil = Unit {0}
  AllTasks P (Node u kids later) = P u × AllTasks P later

  abbrev pub calls : Forest → List m.Call
  calls Nil = []
  calls (Node u kids later) = u.call ∷ calls later

  -- there is a task at the place, and P holds of it and its children
  abbrev pub At : (Task → Forest → Type 0) → Place → Forest → Type 0
  At P q Nil = ⊥
  At P Here (Node u kids later) = P u kids
  At P (Down q) (Node u kids later) = At P q kids
  At P (Later q) (Node u kids later) = At P q later

  -- if the place is in this frame, P holds of the task there
  abbrev pub AtFrame : (Task → Type 0) → Place → Forest → Type 0
  AtFrame P q Nil = Unit {0}
  AtFrame P Here (Node u kids later) = P u
  AtFrame P (Down q) (Node u kids later) = Unit {0}
  AtFrame P (Later q) (Node u kids later) = AtFrame P q later

  -- each earlier task of its frame has R with the task at the place
  abbrev pub Before : (Task → Task → Type 0) → Place → Forest → Type 0
  Before R q Nil = Unit {0}
  Before R Here (Node u kids later) = Unit {0}
  Before R (Down q) (Node u kids later) = Before R q kids
  Before R (Later q) (Node u kids later) = AtFrame (R u) q later × Before R q later

  -- the task at the place changed by f, and its children by g
  abbrev pub change : (Task → Task) → (Forest → Forest) → Place → Forest → Forest
  change f g q Nil = Nil
  change f g Here (Node u kids later) = Node (f u) (g kids) later
  change f g (Down q) (Node u kids later) = Node u (change f g q kids) later
  change f g (Later q) (Node u kids later) = Node u kids (change f g q later)

  -- one more task at the end of a frame
  abbrev pub add_last : Task → Forest → Forest
  add_last v Nil = Node v Nil Nil
  add_last v (Node u kids later) = Node u kids (add_last v later)

  -- a task that nobody has claimed
  abbrev pub fresh : m.Call → Task
  fresh c = record { call = c; phase = Unclaimed; answers = []; done = 0 }
