-- The statements of the theory for tasks that are named by path.
use Rattle.std.specs.Prelude.{◌≡◌, ℕ, ◌≤◌, List, [], ◌∷◌, ◌++◌, map, Option, ◌⊎◌}
use Rattle.kt_order.specs.Lists.{SomeOf}
use Rattle.kt_order.specs.Body.{Stop, Do, Fork}
use Rattle.kt_order.specs.Machine.{Machine, Code}
use Rattle.kt_order.specs.Sequential.{Entry, whole}
use Rattle.kt_order.specs.Laws.{Rights, Laws}
use Rattle.kt_order.specs.Forest.{Unclaimed, Running, Ended, Finished}
use Rattle.kt_order.specs.Rest.{standing, left}
use Rattle.kt_order.specs.Events.{IsFinished, AllFinished, MayPass}
use Rattle.kt_order.specs.Lawful.{Lawful}
use Rattle.kt_order.specs.Shown.{entry_of, Begins}
use Rattle.kt_order.specs.Paths.{HasRoom, IsThere, children_at, Earlier}
use Rattle.kt_order.specs.Named.{forks_in, count_of, Named, named, enter_at, operate_at}
use Rattle.kt_order.specs.Weights.{task_weighs, entries_weigh}
use Rattle.kt_order.specs.Listed.{all_paths, sum_over}

module _ (m : Machine) (r : Rights m) where
  -- of a depth, a root and a store
  abbrev pub IsLawfulAt : ℕ → m.Call → m.Store → Named m → Type 0
  IsLawfulAt depth root s x = Lawful m r root s (named m depth x)

  abbrev pub IsTask : ℕ → Named m → List ℕ → Type 0
  IsTask depth x p = IsThere depth (count_of m x.get) p

  -- a claim, in order or ahead of tasks from which it is apart
  abbrev pub ClaimAtPath : Type 0
  ClaimAtPath = Laws m r → (depth : ℕ) (root : m.Call) (s : m.Store) (p : List ℕ) (x : Named m) → IsTask depth x p
      → (x.get p).phase ≡ Unclaimed → Earlier m (MayPass m r) p x.get → IsLawfulAt depth root s x
      → IsLawfulAt depth root s (enter_at m Running p x)

  abbrev pub FinishAtPath : Type 0
  FinishAtPath = Laws m r → (depth : ℕ) (root : m.Call) (s : m.Store) (p : List ℕ) (x : Named m) → IsTask depth x p
      → (x.get p).phase ≡ Ended → AllFinished m (children_at m depth p x.get (count_of m x.get)) → IsLawfulAt depth root s x
      → IsLawfulAt depth root s (enter_at m Finished p x)

  abbrev pub EndAtPath : Type 0
  EndAtPath = Laws m r → (depth : ℕ) (root : m.Call) (s : m.Store) (f : Option m.Fault) (p : List ℕ) (x : Named m)
      → IsTask depth x p → (x.get p).phase ≡ Running → left m (x.get p) ≡ Stop f → IsLawfulAt depth root s x
      → IsLawfulAt depth root s (operate_at m (Stop f) p x)

  abbrev pub ActAtPath : Type 0
  ActAtPath = Laws m r → (depth : ℕ) (root : m.Call) (s : m.Store) (q : m.Act) (k : m.Answer → Code m) (p : List ℕ) (x : Named m)
      → IsTask depth x p → (x.get p).phase ≡ Running → left m (x.get p) ≡ Do q k → IsLawfulAt depth root s x
      → IsLawfulAt depth root s (operate_at m (Do q k) p x)

  -- a fork needs room below the path, and that its child is not there yet
  abbrev pub ForkAtPath : Type 0
  ForkAtPath = Laws m r → (depth : ℕ) (root : m.Call) (s : m.Store) (c : m.Call) (w : Code m) (p : List ℕ) (x : Named m)
      → IsTask depth x p → HasRoom depth p → forks_in m (standing m (x.get (p ++ count_of m x.get p ∷ []))) ≡ []
      → (x.get p).phase ≡ Running → left m (x.get p) ≡ Fork c w → IsLawfulAt depth root s x
      → IsLawfulAt depth root s (operate_at m (Fork c w) p x)

  -- the task at the path can be claimed in order, goes on, or can finish
  abbrev pub CanGo : ℕ → Named m → List ℕ → Type 0
  CanGo depth x p = ((x.get p).phase ≡ Unclaimed) × Earlier m (λ u v. IsFinished m u) p x.get
      ⊎ (((x.get p).phase ≡ Running)
      ⊎ ((x.get p).phase ≡ Ended) × AllFinished m (children_at m depth p x.get (count_of m x.get)))

  -- the root is finished, or an event is enabled at some path
  abbrev pub SomePathGoes : Type 0
  SomePathGoes = (depth : ℕ) (x : Named m) → IsFinished m (x.get []) ⊎ (p : List ℕ) × IsTask depth x p × CanGo depth x p

  -- the entries of the tasks in the order of their paths
  abbrev pub entries_of : ℕ → Named m → List (Entry m)
  entries_of depth x = map (λ p. entry_of m (x.get p)) (all_paths depth (count_of m x.get))

  -- with the root finished, the run is that of the tasks in their order, and each task is finished
  abbrev pub FinishedByPaths : Type 0
  FinishedByPaths = Laws m r → (depth : ℕ) (root : m.Call) (s : m.Store) (x : Named m) → IsLawfulAt depth root s x → IsFinished m (x.get [])
      → (whole m root s ≡ record { store = x.store; entries = entries_of depth x }) × ((p : List ℕ) → IsTask depth x p → IsFinished m (x.get p))

  -- what the task at a path has done is the beginning of what it does in the sequential run
  abbrev pub PathBeginsEntry : Type 0
  PathBeginsEntry = (depth : ℕ) (root : m.Call) (s : m.Store) (x : Named m) → IsLawfulAt depth root s x → (p : List ℕ)
      → IsTask depth x p → SomeOf (Begins m (x.get p)) (whole m root s).entries

  -- what the tasks weigh, each with what it has at hand, is no more than what the sequential run weighs
  abbrev pub PathsWeighNoMore : Type 0
  PathsWeighNoMore = Laws m r → (of_call : m.Call → ℕ) (of_act : m.Act → ℕ) (depth : ℕ) (root : m.Call) (s : m.Store) (x : Named m)
      → IsLawfulAt depth root s x → sum_over (λ p. task_weighs m of_call of_act (x.get p)) (all_paths depth (count_of m x.get))
      ≤ entries_weigh m of_call of_act (whole m root s).entries
