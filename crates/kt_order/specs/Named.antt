-- A state whose tasks are named by path, and its events by paths.
use Rattle.std.specs.Prelude.{ℕ, List, [], ◌∷◌, ◌++◌, length, Option, Some, None}
use Rattle.kt_order.specs.Body.{Stop, Do, Fork}
use Rattle.kt_order.specs.Machine.{Machine, Code}
use Rattle.kt_order.specs.Stand.{Standing}
use Rattle.kt_order.specs.Forest.{Phase, fresh}
use Rattle.kt_order.specs.Rest.{standing}
use Rattle.kt_order.specs.Events.{State, put, in_phase, did, forked, ended}
use Rattle.kt_order.specs.Paths.{set_at, Known, tree_of}

module _ (m : Machine) where
  abbrev pub forks_in : Option (Standing m) → List m.Call
  forks_in None = []
  forks_in (Some st) = st.forks

  -- how many children the task at each path has: as many as it has forked
  abbrev pub count_of : Known m → List ℕ → ℕ
  count_of get = λ p. length (forks_in (standing m (get p)))

  pub record Named : Type 0 where
    pub get : Known m
    pub store : m.Store

  -- as a state of the theory
  abbrev pub named : ℕ → Named → State m
  named depth x = record { forest = tree_of m depth x.get (count_of x.get); store = x.store }

  abbrev pub enter_at : Phase → List ℕ → Named → Named
  enter_at ph p x = record { get = set_at p (put m (in_phase m ph) (x.get p)) x.get; store = x.store }

  -- the next operation of the body at a path
  abbrev pub operate_at : Code m → List ℕ → Named → Named
  operate_at (Stop f) p x = record { get = set_at p (put m (ended m) (x.get p)) x.get; store = x.store }
  operate_at (Do q k) p x = record { get = set_at p (put m (did m q (m.answer q x.store)) (x.get p)) x.get; store = m.after q x.store }
  operate_at (Fork c w) p x = record { get = set_at (p ++ count_of x.get p ∷ []) (fresh m c) (set_at p (put m (forked m) (x.get p)) x.get); store = x.store }
