-- The statements for accepted programs over cores as functions from paths to tasks.
use Rattle.std.specs.Prelude.{◌≡◌, false, ◌↔◌, ℕ, ◌+◌, ◌≤◌, ◌<◌, List, [], ◌∷◌, ◌++◌, length, ◌⊎◌}
use Rattle.kt_law.specs.Acts.{Act}
use Rattle.kt_order.specs.Lists.{SomeOf}
use Rattle.kt_order.specs.Forest.{Unclaimed, Running, Ended, Finished, fresh}
use Rattle.kt_order.specs.Rest.{left}
use Rattle.kt_order.specs.Shown.{Begins}
use Rattle.kt_order.specs.Weights.{task_weighs, entries_weigh}
use Rattle.kt_order.specs.Places.{IsUnderWay}
use Rattle.kt_order.specs.Paths.{bump}
use Rattle.kt_order.specs.Prefixes.{AreSeparate}
use Rattle.kt_order.specs.Listed.{sum_over}
use Rattle.kt_prog.specs.Calls.{CallTree, Whole, Index}
use Rattle.kt_prog.specs.Operations.{is_loop_at, IsNext}
use Rattle.kt_prog.specs.Accepted.{IsAccepted}
use Rattle.kt_prog.specs.Entries.{tasks_of, indexes_of}
use Rattle.kt_prog.specs.Reference.{Placed, machine_of, main_placed, opened_with, reference}
use Rattle.kt_prog.specs.declared.programs.Program.{Program}
use Rattle.kt_prog.specs.declared.runs.Operation.{Operation}
use Rattle.kt_rights.specs.Theorems.{ModesAgree, DirectModesAgree}
use Rattle.kt_runs.specs.Plans.{plan_of}
use Rattle.kt_runs.specs.ByPath.{Path, child, NoTwice, EachEarlier, one_task, one_index, ByPath, IsLawfulByPath, counts, IsTask, paths_of, ActsNext, ForksNext, EndsNext, GoesOnBy, after_claim, after_act, after_end, after_fork, after_finish, after_end_and_finish, StaysLawful, NoClash, IsPlacedAt, GivesReferenceByPath, tasks_at_hand, indexes_at_hand}

-- with main unclaimed and the input in the store a core is lawful, and main is its only task
abbrev pub OpensByPath : Type 0
OpensByPath = (p : Program) (input : List ℕ) → IsAccepted p → (x : ByPath p) → x.get [] ≡ fresh (machine_of p) main_placed
    → x.store ≡ opened_with p.families input → IsLawfulByPath p input x × ((q : Path) → IsTask p x q → q ≡ [])

-- the calls of a lawful core fit their paths
abbrev pub CallsFitPaths : Type 0
CallsFitPaths = (p : Program) (input : List ℕ) → IsAccepted p → (x : ByPath p) → IsLawfulByPath p input x → (q : Path) → IsTask p x q
    → IsPlacedAt p x q (x.get q).call

-- the children of a task have the numbers below its count
abbrev pub ChildrenAreTasks : Type 0
ChildrenAreTasks = (p : Program) (input : List ℕ) → IsAccepted p → (x : ByPath p) → IsLawfulByPath p input x → (q : Path) (k : ℕ)
    → IsTask p x (child q k) ↔ (IsTask p x q × (k < counts p x q))

-- the list of paths has each path that leads to a task once, and no other
abbrev pub TasksAreListed : Type 0
TasksAreListed = (p : Program) (x : ByPath p) → NoTwice (paths_of p x) × ((q : Path) → IsTask p x q ↔ SomeOf (λ r. q ≡ r) (paths_of p x))

-- the next operation of a task is what its body goes on by
abbrev pub NextGoesOn : Type 0
NextGoesOn = (p : Program) (input : List ℕ) (x : ByPath p) → IsLawfulByPath p input x → (q : Path) → IsTask p x q → (op : Operation)
    → IsNext p (x.get q).call.job (x.get q).answers (x.get q).done op → GoesOnBy p op (x.get q)

-- a claim of a task, where each earlier child of its parent is finished
abbrev pub ClaimInOrderByPath : Type 0
ClaimInOrderByPath = (p : Program) (input : List ℕ) → IsAccepted p → (x : ByPath p) → IsLawfulByPath p input x → (q : Path)
    → IsTask p x q → (x.get q).phase ≡ Unclaimed → EachEarlier (λ e. (x.get e).phase ≡ Finished) q
    → StaysLawful p input x (after_claim p q x)

-- or where none that is not finished clashes with it
abbrev pub ClaimReadyByPath : Type 0
ClaimReadyByPath = (p : Program) (input : List ℕ) → IsAccepted p → (x : ByPath p) → IsLawfulByPath p input x → (q : Path)
    → IsTask p x q → (x.get q).phase ≡ Unclaimed
    → EachEarlier (λ e. ((x.get e).phase ≡ Finished) ⊎ NoClash p (x.get e) (x.get q)) q
    → StaysLawful p input x (after_claim p q x)

-- an index of a loop may be claimed whenever it is there
abbrev pub IndexClaimByPath : Type 0
IndexClaimByPath = (p : Program) (input : List ℕ) → IsAccepted p → (x : ByPath p) → IsLawfulByPath p input x → (q : Path) → IsTask p x q
    → (call : CallTree) (i : ℕ) → (x.get q).call.job ≡ Index call i → (x.get q).phase ≡ Unclaimed
    → StaysLawful p input x (after_claim p q x)

-- an act of a running task
abbrev pub ActByPath : Type 0
ActByPath = (p : Program) (input : List ℕ) → IsAccepted p → (x : ByPath p) → IsLawfulByPath p input x → (q : Path) → IsTask p x q
    → (x.get q).phase ≡ Running → (a : Act) → ActsNext p a (x.get q) → StaysLawful p input x (after_act p a q x)

-- its end, or a fault
abbrev pub EndByPath : Type 0
EndByPath = (p : Program) (input : List ℕ) → IsAccepted p → (x : ByPath p) → IsLawfulByPath p input x → (q : Path) → IsTask p x q
    → (x.get q).phase ≡ Running → EndsNext p (x.get q) → StaysLawful p input x (after_end p q x)

-- the call that it forks fits the path of its next child
abbrev pub ForkedCallByPath : Type 0
ForkedCallByPath = (p : Program) (input : List ℕ) → IsAccepted p → (x : ByPath p) → IsLawfulByPath p input x → (q : Path) → IsTask p x q
    → (c : Placed) → ForksNext p c (x.get q) → IsPlacedAt p x (child q (counts p x q)) c

-- a fork adds that child unclaimed, where what stands at its path has no children
abbrev pub ForkByPath : Type 0
ForkByPath = (p : Program) (input : List ℕ) → IsAccepted p → (x : ByPath p) → IsLawfulByPath p input x → (q : Path) → IsTask p x q
    → (x.get q).phase ≡ Running → (c : Placed) → ForksNext p c (x.get q) → counts p x (child q (counts p x q)) ≡ 0
    → IsLawfulByPath p input (after_fork p c q x) × (counts p (after_fork p c q x) ≡ bump q (counts p x))

-- a finish of a task that has ended, where each child is finished
abbrev pub FinishByPath : Type 0
FinishByPath = (p : Program) (input : List ℕ) → IsAccepted p → (x : ByPath p) → IsLawfulByPath p input x → (q : Path) → IsTask p x q
    → (x.get q).phase ≡ Ended → ((k : ℕ) → k < counts p x q → (x.get (child q k)).phase ≡ Finished)
    → StaysLawful p input x (after_finish p q x)

-- a task whose body ends with each child finished may finish at once
abbrev pub EndAndFinishByPath : Type 0
EndAndFinishByPath = (p : Program) (input : List ℕ) → IsAccepted p → (x : ByPath p) → IsLawfulByPath p input x → (q : Path) → IsTask p x q
    → (x.get q).phase ≡ Running → EndsNext p (x.get q) → ((k : ℕ) → k < counts p x q → (x.get (child q k)).phase ≡ Finished)
    → StaysLawful p input x (after_end_and_finish p q x)

-- an index has no children
abbrev pub IndexHasNoChildren : Type 0
IndexHasNoChildren = (p : Program) (input : List ℕ) → IsAccepted p → (x : ByPath p) → IsLawfulByPath p input x → (q : Path) → IsTask p x q
    → (call : CallTree) (i : ℕ) → (x.get q).call.job ≡ Index call i → counts p x q ≡ 0

-- with main finished a lawful core has what the reference run has
abbrev pub DoneByPath : Type 0
DoneByPath = (p : Program) (input : List ℕ) → IsAccepted p → (x : ByPath p) → IsLawfulByPath p input x → (x.get []).phase ≡ Finished
    → GivesReferenceByPath p input x

-- what a task or an index has done is the beginning of its entry of the reference run
abbrev pub BeginsReferenceByPath : Type 0
BeginsReferenceByPath = (p : Program) (input : List ℕ) (x : ByPath p) → IsLawfulByPath p input x → (q : Path) → IsTask p x q
    → SomeOf (Begins (machine_of p) (x.get q)) (reference p input).entries

-- with any weights of calls and acts, the tasks with what each has at hand weigh no more than the reference run
abbrev pub WeighsNoMoreByPath : Type 0
WeighsNoMoreByPath = (p : Program) (input : List ℕ) → IsAccepted p → (of_call : Placed → ℕ) (of_act : Act → ℕ) (x : ByPath p)
    → IsLawfulByPath p input x → sum_over (λ q. task_weighs (machine_of p) of_call of_act (x.get q)) (paths_of p x)
    ≤ entries_weigh (machine_of p) of_call of_act (reference p input).entries

-- so the tasks with those at hand are no more than those of the reference run
abbrev pub NoMoreTasksByPath : Type 0
NoMoreTasksByPath = (p : Program) (input : List ℕ) → IsAccepted p → (x : ByPath p) → IsLawfulByPath p input x
    → sum_over (λ q. one_task (x.get q).call + tasks_at_hand p (left (machine_of p) (x.get q))) (paths_of p x)
    ≤ length (tasks_of p (reference p input).entries)

-- nor the indexes
abbrev pub NoMoreIndexesByPath : Type 0
NoMoreIndexesByPath = (p : Program) (input : List ℕ) → IsAccepted p → (x : ByPath p) → IsLawfulByPath p input x
    → sum_over (λ q. one_index (x.get q).call + indexes_at_hand p (left (machine_of p) (x.get q))) (paths_of p x)
    ≤ length (indexes_of p (reference p input).entries)

-- of two tasks under way, neither path beginning with the other, the modes agree wherever both may touch one element
abbrev pub SeparateAgreeByPath : Type 0
SeparateAgreeByPath = (p : Program) (input : List ℕ) → IsAccepted p → (x : ByPath p) → IsLawfulByPath p input x → (a b : Path)
    → AreSeparate a b → IsTask p x a → IsTask p x b → IsUnderWay (machine_of p) (x.get a) → IsUnderWay (machine_of p) (x.get b)
    → ModesAgree (plan_of p) (x.get a).call (x.get b).call

-- of two tasks in one line, the upper one no loop and no index, the direct modes of the upper agree with the modes of the lower
abbrev pub LineAgreesByPath : Type 0
LineAgreesByPath = (p : Program) (input : List ℕ) → IsAccepted p → (x : ByPath p) → IsLawfulByPath p input x → (a : Path) (k : ℕ) (q : Path)
    → IsTask p x (a ++ k ∷ q) → (call : CallTree) → (x.get a).call.job ≡ Whole call → is_loop_at p call.task ≡ false
    → DirectModesAgree (plan_of p) (x.get a).call (x.get (a ++ k ∷ q)).call
