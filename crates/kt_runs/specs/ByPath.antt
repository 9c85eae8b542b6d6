-- A core as a function from paths to tasks, and what its events do. A path has the numbers of the forks that lead from main to a
-- task, counted from 0 as in the theory of reordering; the path of a call has the same numbers counted from 1. An index of a loop
-- stands as a child of its loop.
use Rattle.std.specs.Prelude.{◌≡◌, ℕ, suc, ◌<◌, true, false, List, [], ◌∷◌, ◌++◌, length, map, Option, None, Some}
use Rattle.kt_law.specs.Acts.{Act, Load, Store, Fold}
use Rattle.kt_law.specs.declared.limits.TheConstants.{DEPTH}
use Rattle.kt_order.specs.Lists.{SomeOf}
use Rattle.kt_order.specs.Body.{Stop, Do, Fork}
use Rattle.kt_order.specs.Machine.{Code}
use Rattle.kt_order.specs.Sequential.{Entry}
use Rattle.kt_order.specs.Forest.{Task, Running, Finished, fresh}
use Rattle.kt_order.specs.Rest.{left}
use Rattle.kt_order.specs.Shown.{entry_of}
use Rattle.kt_order.specs.Events.{put, in_phase, did, forked, ended}
use Rattle.kt_order.specs.Paths.{set_at, IsThere}
use Rattle.kt_order.specs.Named.{Named, named, count_of, enter_at}
use Rattle.kt_order.specs.Listed.{all_paths}
use Rattle.kt_order.specs.Weights.{at_hand}
use Rattle.kt_prog.specs.Calls.{CallTree, Job, Whole, Index}
use Rattle.kt_prog.specs.Script.{Fault}
use Rattle.kt_prog.specs.Operations.{is_loop_at}
use Rattle.kt_prog.specs.Fits.{Fits}
use Rattle.kt_prog.specs.Entries.{tasks_of, indexes_of, faults_of}
use Rattle.kt_prog.specs.Reference.{Placed, machine_of, reference}
use Rattle.kt_prog.specs.declared.programs.Program.{Program}
use Rattle.kt_prog.specs.declared.runs.Operation.{Operation}
use Rattle.kt_prog.specs.declared.runs.Operation.TheVariants as O
use Rattle.kt_runs.specs.Clash.{calls_clash}
use Rattle.kt_runs.specs.States.{Core, IsLawful}
use Rattle.kt_runs.specs.Theorems.{whole_at}

abbrev pub Path : Type 0
Path = List ℕ

-- the path of a child
abbrev pub child : Path → ℕ → Path
child q k = q ++ k ∷ []

-- no path is longer: an index of a loop lies one deeper than its loop
abbrev pub levels : ℕ
levels = suc DEPTH

-- no two members of the list are the same
abbrev pub NoTwice : {X : Type 0} → List X → Type 0
NoTwice [] = Unit {0}
NoTwice (x ∷ xs) = (SomeOf (λ y. x ≡ y) xs → ⊥) × NoTwice xs

-- what holds of the path of each earlier child of the same parent
abbrev pub EachEarlier : (Path → Type 0) → Path → Type 0
EachEarlier P q = (z : Path) (k : ℕ) → q ≡ child z k → (i : ℕ) → i < k → P (child z i)

-- 1 for a task, 0 for an index
abbrev pub one_task : Placed → ℕ
one_task c = of_job c.job
  where
    of_job : Job → ℕ
    of_job (Whole call) = 1
    of_job (Index call i) = 0

-- 1 for an index, 0 for a task
abbrev pub one_index : Placed → ℕ
one_index c = of_job c.job
  where
    of_job : Job → ℕ
    of_job (Whole call) = 0
    of_job (Index call i) = 1

abbrev pub no_act : Act → ℕ
no_act a = 0

module _ (p : Program) where
  -- a task for each path, and the store; what stands at a path that leads to no task says nothing
  abbrev pub ByPath : Type 0
  ByPath = Named (machine_of p)

  abbrev pub core_of : ByPath → Core p
  core_of x = named (machine_of p) levels x

  abbrev pub IsLawfulByPath : List ℕ → ByPath → Type 0
  IsLawfulByPath input x = IsLawful p input (core_of x)

  -- how many children the task at each path has: as many as its body has forked
  abbrev pub counts : ByPath → Path → ℕ
  counts x = count_of (machine_of p) x.get

  -- the path leads to a task
  abbrev pub IsTask : ByPath → Path → Type 0
  IsTask x q = IsThere levels (counts x) q

  -- the paths that lead to tasks, in the order of the reference run
  abbrev pub paths_of : ByPath → List Path
  paths_of x = all_paths levels (counts x)

  -- what comes next in a task's body: an act, a fork, or its end or a fault
  abbrev pub ActsNext : Act → Task (machine_of p) → Type 0
  ActsNext a u = (next : ℕ → Code (machine_of p)) × (left (machine_of p) u ≡ Do a next)

  abbrev pub ForksNext : Placed → Task (machine_of p) → Type 0
  ForksNext c u = (next : Code (machine_of p)) × (left (machine_of p) u ≡ Fork c next)

  abbrev pub EndsNext : Task (machine_of p) → Type 0
  EndsNext u = (f : Option Fault) × (left (machine_of p) u ≡ Stop f)

  -- the same said of an operation; what a load finds is the store's to say
  abbrev pub GoesOnBy : Operation → Task (machine_of p) → Type 0
  GoesOnBy (O.Load object element a) u = ActsNext (record { object = object; element = element; deed = Load }) u
  GoesOnBy (O.Store object element v) u = ActsNext (record { object = object; element = element; deed = Store v }) u
  GoesOnBy (O.Fold object element op v) u = ActsNext (record { object = object; element = element; deed = Fold op v }) u
  GoesOnBy (O.Fork call) u = (c : Placed) × ForksNext c u × (c.job ≡ Whole call)
  GoesOnBy O.End u = left (machine_of p) u ≡ Stop None
  GoesOnBy (O.Fault law line) u = left (machine_of p) u ≡ Stop (Some (record { law = law; line = line }))

  -- the events
  abbrev pub after_claim : Path → ByPath → ByPath
  after_claim q x = enter_at (machine_of p) Running q x

  abbrev pub after_act : Act → Path → ByPath → ByPath
  after_act a q x = record {
    get = set_at q (put (machine_of p) (did (machine_of p) a ((machine_of p).answer a x.store)) (x.get q)) x.get;
    store = (machine_of p).after a x.store;
  }

  abbrev pub after_end : Path → ByPath → ByPath
  after_end q x = record { get = set_at q (put (machine_of p) (ended (machine_of p)) (x.get q)) x.get; store = x.store }

  abbrev pub after_fork : Placed → Path → ByPath → ByPath
  after_fork c q x = record {
    get = set_at (child q (counts x q)) (fresh (machine_of p) c) (set_at q (put (machine_of p) (forked (machine_of p)) (x.get q)) x.get);
    store = x.store;
  }

  abbrev pub after_finish : Path → ByPath → ByPath
  after_finish q x = enter_at (machine_of p) Finished q x

  -- an end, and the finish at once
  abbrev pub after_end_and_finish : Path → ByPath → ByPath
  after_end_and_finish q x = record {
    get = set_at q (put (machine_of p) (in_phase (machine_of p) Finished) (put (machine_of p) (ended (machine_of p)) (x.get q))) x.get;
    store = x.store;
  }

  -- what an event leaves is lawful, and no task has come
  pub record StaysLawful (input : List ℕ) (x y : ByPath) : Type 0 where
    pub lawful : IsLawfulByPath input y
    pub same : counts y ≡ counts x

  -- two calls that do not clash
  abbrev pub NoClash : Task (machine_of p) → Task (machine_of p) → Type 0
  NoClash u v = (c : CallTree) × (d : CallTree) × (u.call.job ≡ Whole c) × (v.call.job ≡ Whole d) × (calls_clash c d ≡ false)

  -- the call fits the path: a task's has the path and its length, and an index is that one of the loop above it
  abbrev pub IsPlacedAt : ByPath → Path → Placed → Type 0
  IsPlacedAt x q c = of_job c.job
    where
      of_job : Job → Type 0
      of_job (Whole call) = (c.path ≡ map suc q) × (call.depth ≡ length q) × Fits p call
      of_job (Index call i) = (z : Path) × (q ≡ child z i) × (c.path ≡ map suc z) × ((x.get z).call ≡ whole_at (map suc z) call)
          × (is_loop_at p call.task ≡ true) × (i < call.length)

  -- the entries of the tasks in the order of their paths
  abbrev pub entries_by_path : ByPath → List (Entry (machine_of p))
  entries_by_path x = map (λ q. entry_of (machine_of p) (x.get q)) (paths_of x)

  -- the core has what the reference run has
  pub record GivesReferenceByPath (input : List ℕ) (x : ByPath) : Type 0 where
    pub store : x.store ≡ (reference p input).store
    pub entries : entries_by_path x ≡ (reference p input).entries
    pub tasks : tasks_of p (entries_by_path x) ≡ tasks_of p (reference p input).entries
    pub indexes : indexes_of p (entries_by_path x) ≡ indexes_of p (reference p input).entries
    pub faults : faults_of p (entries_by_path x) ≡ faults_of p (reference p input).entries
    -- each task is finished, and its entry is one of the reference run
    pub finished : (q : Path) → IsTask x q → (x.get q).phase ≡ Finished
    pub entry : (q : Path) → IsTask x q → SomeOf (λ e. entry_of (machine_of p) (x.get q) ≡ e) (reference p input).entries

  -- how many tasks, and how many indexes, a body forks next, up to the first load
  abbrev pub tasks_at_hand : Code (machine_of p) → ℕ
  tasks_at_hand = at_hand (machine_of p) one_task no_act

  abbrev pub indexes_at_hand : Code (machine_of p) → ℕ
  indexes_at_hand = at_hand (machine_of p) one_index no_act
