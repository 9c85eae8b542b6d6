-- The tasks and the indexes of a lawful core, with those at hand, are no more than those of the reference run.
use Rattle.std.proofs.Common.{◌≡◌, ◌≤◌, ◌+◌, ℕ, Bool, true, false, List, [], ◌∷◌, length, refl, arith, length-append}
use Rattle.std.specs.List.{flat_map}
use Rattle.kt_law.specs.Acts.{Act}
use Rattle.kt_order.specs.Body.{Stop, Do, Fork}
use Rattle.kt_order.specs.Machine.{Code}
use Rattle.kt_order.specs.Sequential.{Entry}
use Rattle.kt_order.specs.Trace.{hearing}
use Rattle.kt_order.specs.Laws.{Laws}
use Rattle.kt_order.specs.Rest.{left}
use Rattle.kt_order.specs.Weights.{acts_weigh, task_weighs, entries_weigh}
use Rattle.kt_order.specs.Listed.{sum_over}
use Rattle.kt_order.proofs.PathWeights.{paths_weigh}
use Rattle.kt_prog.specs.Calls.{Job, Whole, Index}
use Rattle.kt_prog.specs.Entries.{task_in, index_in, tasks_of, indexes_of}
use Rattle.kt_prog.specs.Reference.{Placed, machine_of, main_placed, opened_with, reference}
use Rattle.kt_prog.specs.declared.programs.Program.{Program}
use Rattle.kt_runs.specs.Rights.{rights_in}
use Rattle.kt_runs.specs.ByPath.{Path, levels, one_task, one_index, no_act, ByPath, IsLawfulByPath, paths_of, tasks_at_hand, indexes_at_hand}

sum_less : (f g : Path → ℕ) (qs : List Path) → ((q : Path) → f q ≤ g q) → sum_over f qs ≤ sum_over g qs
sum_less f g [] h = omega arith
sum_less f g (q ∷ qs) h = let more = sum_less f g qs h in let one = h q in omega (arith, more, one)

task_one : (path : List ℕ) (job : Job) (answers : List ℕ) → length (task_in path job answers) ≡ one_task (record { path = path; job = job })
task_one path (Whole call) answers = refl
task_one path (Index call i) answers = refl

index_one : (path : List ℕ) (job : Job) (answers : List ℕ) → length (index_in path job answers) ≡ one_index (record { path = path; job = job })
index_one path (Whole call) answers = refl
index_one path (Index call i) answers = refl

module _ (p : Program) where
  -- acts of no weight
  acts_none : (of_call : Placed → ℕ) (w : Code (machine_of p)) (answers : List ℕ) → acts_weigh (machine_of p) of_call no_act w answers ≡ 0
  acts_none of_call (Stop f) answers = refl
  acts_none of_call (Do q k) answers = heard ((machine_of p).asks q) answers (λ a more. acts_none of_call (k a) more)
    where
      heard : (b : Bool) (answers : List ℕ) → ((a : ℕ) (more : List ℕ) → acts_weigh (machine_of p) of_call no_act (k a) more ≡ 0)
          → hearing (machine_of p) b 0 (λ a more. no_act q + acts_weigh (machine_of p) of_call no_act (k a) more) answers ≡ 0
      heard true [] f = refl
      heard true (a ∷ more) f = let none = f a more in omega (arith, none)
      heard false answers f = let none = f 0 answers in omega (arith, none)
  acts_none of_call (Fork c w) answers = acts_none of_call w answers

  entries_number : (X : Type 0) (f : Entry (machine_of p) → List X) (of_call : Placed → ℕ) → ((e : Entry (machine_of p)) → length (f e) ≡ of_call e.call)
      → (es : List (Entry (machine_of p))) → entries_weigh (machine_of p) of_call no_act es ≡ length (flat_map f es)
  entries_number X f of_call one [] = refl
  entries_number X f of_call one (e ∷ es) =
      let more = entries_number X f of_call one es in
      let here = one e in
      let both = length-append (f e) (flat_map f es) in
      let none = acts_none of_call ((machine_of p).tree e.call) e.answers in
      omega (arith, more, here, both, none)

  module _ (input : List ℕ) (l : Laws (machine_of p) (rights_in p)) (x : ByPath p) (h : IsLawfulByPath p input x) where
    pub weigh_less : (of_call : Placed → ℕ) (of_act : Act → ℕ)
        → sum_over (λ q. task_weighs (machine_of p) of_call of_act (x.get q)) (paths_of p x) ≤ entries_weigh (machine_of p) of_call of_act (reference p input).entries
    unfolding reference
    weigh_less of_call of_act = paths_weigh (machine_of p) of_call of_act (rights_in p) l levels main_placed (opened_with p.families input) x h

    pub tasks_less : sum_over (λ q. one_task (x.get q).call + tasks_at_hand p (left (machine_of p) (x.get q))) (paths_of p x) ≤ length (tasks_of p (reference p input).entries)
    tasks_less =
        let all = weigh_less one_task no_act in
        let number = entries_number _ (λ e. task_in e.call.path e.call.job e.answers) one_task (λ e. task_one e.call.path e.call.job e.answers) (reference p input).entries in
        let less = sum_less (λ q. one_task (x.get q).call + tasks_at_hand p (left (machine_of p) (x.get q))) (λ q. task_weighs (machine_of p) one_task no_act (x.get q)) (paths_of p x) (λ q. omega arith) in
        omega (arith, all, number, less)

    pub indexes_less : sum_over (λ q. one_index (x.get q).call + indexes_at_hand p (left (machine_of p) (x.get q))) (paths_of p x) ≤ length (indexes_of p (reference p input).entries)
    indexes_less =
        let all = weigh_less one_index no_act in
        let number = entries_number _ (λ e. index_in e.call.path e.call.job e.answers) one_index (λ e. index_one e.call.path e.call.job e.answers) (reference p input).entries in
        let less = sum_less (λ q. one_index (x.get q).call + indexes_at_hand p (left (machine_of p) (x.get q))) (λ q. task_weighs (machine_of p) one_index no_act (x.get q)) (paths_of p x) (λ q. omega arith) in
        omega (arith, all, number, less)
