-- The links of the tasks of a core: the number of each task's parent, and those of its children in order. A search through the
-- tasks of a frame goes by these, and not through all tasks.
use Rattle.std.specs.Prelude.{◌≡◌, ◌≤◌, ◌<◌, ℕ, suc, List, [], ◌∷◌, ◌++◌, length, map, Bool, true, false, cond, Option, Some, None, nat_lt, slice_get, slice_set, ◌&&◌}
use Rattle.kt_prog.specs.Fits.{Fits}
use Rattle.kt_runs.specs.States.{most_tasks}
use Rattle.kt_tables.specs.Tables.{TaskRow, CoreState, is_root, is_child, are_siblings, parent_of, is_finished, is_open}
use Rattle.kt_tables.specs.TableLaws.{IsLawfulState}
use Rattle.kt_runs.specs.Clash.{calls_clash}
use Rattle.kt_prog.specs.Calls.{CallTree}
use Rattle.kt_prog.specs.declared.programs.Program.{Program}

-- what contracts see of the links of a task; main has no parent. So many of the children, the first ones, are known to be finished.
pub record LinkState : Type 0 where
  pub parent : Option ℕ
  pub children : List ℕ
  pub settled : ℕ

abbrev pub paths_of : List TaskRow → List (List ℕ)
paths_of tasks = map (λ (r : TaskRow). r.path) tasks

-- the numbers of the paths of which the test holds, where the first of the list has this number
abbrev pub numbers_from : ℕ → (List ℕ → Bool) → List (List ℕ) → List ℕ
numbers_from n test [] = []
numbers_from n test (path ∷ paths) = cond (test path) (n ∷ numbers_from (suc n) test paths) (numbers_from (suc n) test paths)

abbrev pub numbers_of : (List ℕ → Bool) → List (List ℕ) → List ℕ
numbers_of test paths = numbers_from 0 test paths

-- the number is that of the parent of the task at the path
abbrev pub IsParent : List (List ℕ) → List ℕ → Option ℕ → Type 0
IsParent paths path None = is_root path ≡ true
IsParent paths path (Some k) = (is_root path ≡ false) × (slice_get paths k ≡ Some (parent_of path))

pub record AreLinked (paths : List (List ℕ)) (links : List LinkState) : Type 0 where
  pub count : length links ≡ length paths
  pub children : (t : ℕ) (path : List ℕ) (l : LinkState) → slice_get paths t ≡ Some path → slice_get links t ≡ Some l
      → l.children ≡ numbers_of (is_child path) paths
  pub parent : (t : ℕ) (path : List ℕ) (l : LinkState) → slice_get paths t ≡ Some path → slice_get links t ≡ Some l → IsParent paths path l.parent

abbrev pub calls_of : List TaskRow → List CallTree
calls_of tasks = map (λ (r : TaskRow). r.call) tasks

-- each call fits the program
abbrev pub AllFit : Program → List CallTree → Type 0
AllFit p calls = (t : ℕ) (call : CallTree) → slice_get calls t ≡ Some call → Fits p call

abbrev pub holds_of : (TaskRow → Bool) → Option TaskRow → Bool
holds_of test None = false
holds_of test (Some r) = test r

-- the task of this number is finished
abbrev pub is_done : List TaskRow → ℕ → Bool
is_done tasks k = holds_of (λ (u : TaskRow). is_finished u.phase) (slice_get tasks k)

-- so many of the numbers, the first ones, are those of tasks that are finished
abbrev pub AreDone : List TaskRow → List ℕ → ℕ → Type 0
AreDone tasks numbers n = (i k : ℕ) → i < n → slice_get numbers i ≡ Some k → is_done tasks k ≡ true

pub record IsSettled (tasks : List TaskRow) (l : LinkState) : Type 0 where
  pub within : l.settled ≤ length l.children
  pub done : AreDone tasks l.children l.settled

abbrev pub AreSettled : List TaskRow → List LinkState → Type 0
AreSettled tasks links = (t : ℕ) (l : LinkState) → slice_get links t ≡ Some l → IsSettled tasks l

pub record IsSound (c : CoreState) (links : List LinkState) : Type 0 where
  pub lawful : IsLawfulState c
  pub linked : AreLinked (paths_of c.table.tasks) links
  pub settled : AreSettled c.table.tasks links
  pub fit : AllFit c.program (calls_of c.table.tasks)
  pub few : length c.table.tasks ≤ most_tasks

-- the first of the numbers below a bound that is the number of a task of which the test holds
abbrev pub first_below : ℕ → (TaskRow → Bool) → List TaskRow → List ℕ → Option ℕ
first_below bound test tasks [] = None
first_below bound test tasks (k ∷ numbers) =
    cond (nat_lt k bound) (cond (holds_of test (slice_get tasks k)) (Some k) (first_below bound test tasks numbers)) None

-- a search for a task that is not finished finds the same among the numbers that are left as among all
abbrev pub FindsAlike : List TaskRow → List ℕ → List ℕ → Type 0
FindsAlike tasks left all =
    (bound : ℕ) (test : TaskRow → Bool) → ((u : TaskRow) → is_finished u.phase ≡ true → test u ≡ false)
    → first_below bound test tasks left ≡ first_below bound test tasks all

-- the task is not finished and clashes with the call
abbrev pub is_in_the_way : CallTree → TaskRow → Bool
is_in_the_way call u = is_open u && calls_clash u.call call

-- a child more behind the others
abbrev pub with_child : ℕ → LinkState → LinkState
with_child n l = record { parent = l.parent; children = l.children ++ n ∷ []; settled = l.settled }

-- the links of a task that the task at this number forked
abbrev pub fresh_links : Option ℕ → LinkState
fresh_links parent = record { parent = parent; children = []; settled = 0 }

-- so many children are known to be finished
abbrev pub with_settled : ℕ → LinkState → LinkState
with_settled n l = record { parent = l.parent; children = l.children; settled = n }

abbrev pub with_child_at : ℕ → ℕ → Option LinkState → List LinkState → List LinkState
with_child_at n t None links = links
with_child_at n t (Some l) links = slice_set links t (with_child n l)

-- the links once task t has forked the task of number n
abbrev pub with_link : ℕ → ℕ → List LinkState → List LinkState
with_link n t links = with_child_at n t (slice_get links t) links ++ fresh_links (Some t) ∷ []

-- the numbers of the tasks of the frame of r, its own among them
abbrev pub siblings_of : TaskRow → List TaskRow → List ℕ
siblings_of r tasks = numbers_of (λ path. are_siblings path r.path) (paths_of tasks)
