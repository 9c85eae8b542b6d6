-- What is summed over the tasks of a tree is summed over their paths.
use Rattle.std.proofs.Common.{◌≡◌, ◌≤◌, ◌+◌, ℕ, zero, suc, List, [], ◌∷◌, ◌++◌, map, refl, arith}
use Rattle.kt_order.specs.Machine.{Machine}
use Rattle.kt_order.specs.Sequential.{whole}
use Rattle.kt_order.specs.Laws.{Rights, Laws}
use Rattle.kt_order.specs.Forest.{Forest}
use Rattle.kt_order.specs.Lawful.{Lawful}
use Rattle.kt_order.specs.Weights.{task_weighs, tasks_weigh, entries_weigh}
use Rattle.kt_order.specs.Paths.{shift, Known, children_from, grown}
use Rattle.kt_order.specs.Named.{count_of, Named, named}
use Rattle.kt_order.specs.Listed.{each_from, listed, all_paths, sum_over}
use Rattle.kt_order.proofs.Weights.{weigh_no_more}

pub sum_append : (f : List ℕ → ℕ) (xs ys : List (List ℕ)) → sum_over f (xs ++ ys) ≡ sum_over f xs + sum_over f ys
sum_append f [] ys = omega arith
sum_append f (x ∷ xs) ys = let h = sum_append f xs ys in omega arith

pub sum_map : (f : List ℕ → ℕ) (g : List ℕ → List ℕ) (xs : List (List ℕ)) → sum_over f (map g xs) ≡ sum_over (λ x. f (g x)) xs
sum_map f g [] = refl
sum_map f g (x ∷ xs) = let h = sum_map f g xs in omega arith

module _ (m : Machine) (of_call : m.Call → ℕ) (of_act : m.Act → ℕ) where
  abbrev total : Forest m → ℕ
  total = tasks_weigh m of_call of_act

  abbrev at : Known m → List ℕ → ℕ
  at get = λ p. task_weighs m of_call of_act (get p)

  children_sum : (depth : ℕ)
      → ((get : Known m) (count : List ℕ → ℕ) → total (grown m depth get count) ≡ sum_over (at get) (listed depth count))
      → (get : Known m) (count : List ℕ → ℕ) (k n : ℕ)
      → total (children_from m (grown m depth) get count k n) ≡ sum_over (at get) (each_from (listed depth) count k n)
  children_sum depth deeper get count k zero = refl
  children_sum depth deeper get count k (suc n) =
      let a = deeper (shift k get) (shift k count) in let b = children_sum depth deeper get count (suc k) n in
      let c = sum_append (at get) (map (λ p. k ∷ p) (listed depth (shift k count))) (each_from (listed depth) count (suc k) n) in
      let d = sum_map (at get) (λ p. k ∷ p) (listed depth (shift k count)) in omega arith

  grown_sum : (depth : ℕ) (get : Known m) (count : List ℕ → ℕ) → total (grown m depth get count) ≡ sum_over (at get) (listed depth count)
  grown_sum zero get count = refl
  grown_sum (suc depth) get count = children_sum depth (grown_sum depth) get count 0 (count [])

  pub paths_weigh : (r : Rights m) → Laws m r → (depth : ℕ) (root : m.Call) (s : m.Store) (x : Named m) → Lawful m r root s (named m depth x)
      → sum_over (at x.get) (all_paths depth (count_of m x.get)) ≤ entries_weigh m of_call of_act (whole m root s).entries
  paths_weigh r laws depth root s x h =
      let a = grown_sum depth x.get (count_of m x.get) in
      let b = weigh_no_more m of_call of_act r laws root s (named m depth x) h in
      omega (arith, a, b)
