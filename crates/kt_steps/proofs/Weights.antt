-- The sequential run weighs at least what the tasks of a lawful state weigh, each with the calls that it forks next.
use Rattle.std.proofs.Common.{◌≡◌, ◌≤◌, ◌+◌, ℕ, zero, suc, List, [], ◌∷◌, ◌++◌, map, length, refl, ap, arith, length-append}
use Rattle.kt_order.specs.Body.{Stop, Do, Fork}
use Rattle.kt_order.specs.Machine.{Machine, Code}
use Rattle.kt_order.specs.Sequential.{Run, Entry, alone, each, whole, whole_within}
use Rattle.kt_order.specs.Laws.{Rights}
use Rattle.kt_order.specs.Forest.{Forest, Nil, Node}
use Rattle.kt_order.specs.Rest.{left, rest}
use Rattle.kt_order.specs.Lawful.{Lawful}
use Rattle.kt_order.specs.Paths.{shift, Known, children_from, grown, tree_of}
use Rattle.kt_order.specs.Named.{count_of, Named, named}
use Rattle.kt_order.specs.Listed.{each_from, listed, all_paths, sum_over}
use Rattle.kt_prog.specs.Calls.{Job, Whole, Index}
use Rattle.kt_prog.specs.Entries.{tasks_of, indexes_of, task_in, index_in}
use Rattle.kt_prog.specs.Reference.{machine_of}
use Rattle.kt_prog.specs.declared.programs.Program.{Program}
use Rattle.kt_rule.specs.Weights.{next_weight, forks_ahead, weight_of, is_task, is_index, one_if_whole, one_if_index}

sum_append : (f : List ℕ → ℕ) (xs ys : List (List ℕ)) → sum_over f (xs ++ ys) ≡ sum_over f xs + sum_over f ys
sum_append f [] ys = omega arith
sum_append f (x ∷ xs) ys = let h = sum_append f xs ys in omega arith

sum_map : (f : List ℕ → ℕ) (g : List ℕ → List ℕ) (xs : List (List ℕ)) → sum_over f (map g xs) ≡ sum_over (λ x. f (g x)) xs
sum_map f g [] = refl
sum_map f g (x ∷ xs) = let h = sum_map f g xs in omega arith

module _ (m : Machine) (g : m.Call → ℕ) where
  weight_append : (xs ys : List (Entry m)) → weight_of m g (xs ++ ys) ≡ weight_of m g xs + weight_of m g ys
  weight_append [] ys = omega arith
  weight_append (x ∷ xs) ys = let h = weight_append xs ys in omega arith

  -- each task, and the forks that are next
  abbrev load : Forest m → ℕ
  load Nil = 0
  load (Node u kids later) = (g u.call + forks_ahead m g (left m u)) + (load kids + load later)

  some_within : (n : ℕ) (c : m.Call) (s : m.Store) → g c ≤ weight_of m g (whole_within m n c s).entries
  some_within zero c s = omega arith
  some_within (suc n) c s = omega arith

  each_first : (w : Code m) (s t : m.Store) → forks_ahead m g w ≤ weight_of m g (each m (whole m) (alone m w s).forks t).entries
  each_first (Stop f) s t = omega arith
  each_first (Do p k) s t = omega arith
  each_first (Fork c w) s t =
      let r = whole m c t in let h = some_within (m.height c) c t in let k = each_first w s r.store in
      let e = weight_append r.entries (each m (whole m) (alone m w s).forks r.store).entries in omega arith

  rest_more : (F : Forest m) (s : m.Store) → load F ≤ weight_of m g (rest m F s).entries
  rest_more Nil s = omega arith
  rest_more (Node u kids later) s =
      let a = alone m (left m u) s in
      let b = rest m kids a.store in
      let c = each m (whole m) a.forks b.store in
      let d = rest m later c.store in
      let h = each_first (left m u) s b.store in
      omega (
        arith,
        h,
        rest_more kids a.store,
        rest_more later c.store,
        weight_append
            (b.entries ++ c.entries) d.entries,
        weight_append b.entries c.entries,
      )

  abbrev pub weight : Known m → List ℕ → ℕ
  weight get = λ p. g (get p).call + forks_ahead m g (left m (get p))

  -- with the first of these forks alone
  abbrev pub first_weight : Known m → List ℕ → ℕ
  first_weight get = λ p. g (get p).call + next_weight m g (left m (get p))

  first_least : (w : Code m) → next_weight m g w ≤ forks_ahead m g w
  first_least (Stop f) = omega arith
  first_least (Do p k) = omega arith
  first_least (Fork c w) = omega arith

  first_less : (get : Known m) (ps : List (List ℕ)) → sum_over (first_weight get) ps ≤ sum_over (weight get) ps
  first_less get [] = omega arith
  first_less get (p ∷ ps) = let h = first_less get ps in let a = first_least (left m (get p)) in omega arith

  children_load : (depth : ℕ)
      → ((get : Known m) (count : List ℕ → ℕ) → load (grown m depth get count) ≡ sum_over (weight get) (listed depth count))
      → (get : Known m) (count : List ℕ → ℕ) (k n : ℕ)
      → load (children_from m (grown m depth) get count k n) ≡ sum_over (weight get) (each_from (listed depth) count k n)
  children_load depth deeper get count k zero = refl
  children_load depth deeper get count k (suc n) =
      let a = deeper (shift k get) (shift k count) in let b = children_load depth deeper get count (suc k) n in
      let c = sum_append (weight get) (map (λ p. k ∷ p) (listed depth (shift k count))) (each_from (listed depth) count (suc k) n) in
      let d = sum_map (weight get) (λ p. k ∷ p) (listed depth (shift k count)) in omega arith

  grown_load : (depth : ℕ) (get : Known m) (count : List ℕ → ℕ)
      → load (grown m depth get count) ≡ sum_over (weight get) (listed depth count)
  grown_load zero get count = refl
  grown_load (suc depth) get count = children_load depth (grown_load depth) get count 0 (count [])

  pub run_weighs_all : (rights : Rights m) (depth : ℕ) (root : m.Call) (s : m.Store) (x : Named m)
      → Lawful m rights root s (named m depth x)
      → sum_over (weight x.get) (all_paths depth (count_of m x.get)) ≤ weight_of m g (whole m root s).entries
  run_weighs_all rights depth root s x h =
      let a = grown_load depth x.get (count_of m x.get) in
      let b = rest_more (tree_of m depth x.get (count_of m x.get)) x.store in
      let c = ap (λ (r : Run m). weight_of m g r.entries) h.rest in omega arith

  pub run_weighs : (rights : Rights m) (depth : ℕ) (root : m.Call) (s : m.Store) (x : Named m)
      → Lawful m rights root s (named m depth x)
      → sum_over (first_weight x.get) (all_paths depth (count_of m x.get)) ≤ weight_of m g (whole m root s).entries
  run_weighs rights depth root s x h = let a = run_weighs_all rights depth root s x h in
      let b = first_less x.get (all_paths depth (count_of m x.get)) in omega arith

  pub weight_mapped : (h : List ℕ → Entry m) (ps : List (List ℕ)) → weight_of m g (map h ps) ≡ sum_over (λ p. g (h p).call) ps
  weight_mapped h [] = refl
  weight_mapped h (p ∷ ps) = let a = weight_mapped h ps in omega arith

-- the weight of the tasks is their number
pub tasks_weigh : (p : Program) (es : List (Entry (machine_of p))) → weight_of (machine_of p) is_task es ≡ length (tasks_of p es)
tasks_weigh p [] = refl
tasks_weigh p (e ∷ es) =
    let h = tasks_weigh p es in let a = length-append (task_in e.call.path e.call.job e.answers) (tasks_of p es) in
    let b = one e.call.path e.call.job e.answers in omega arith
  where
    one : (path : List ℕ) (j : Job) (answers : List ℕ) → one_if_whole j ≡ length (task_in path j answers)
    one path (Whole call) answers = refl
    one path (Index call i) answers = refl

-- and that of the indexes is theirs
pub indexes_weigh : (p : Program) (es : List (Entry (machine_of p))) → weight_of (machine_of p) is_index es ≡ length (indexes_of p es)
indexes_weigh p [] = refl
indexes_weigh p (e ∷ es) =
    let h = indexes_weigh p es in let a = length-append (index_in e.call.path e.call.job e.answers) (indexes_of p es) in
    let b = one e.call.path e.call.job e.answers in omega arith
  where
    one : (path : List ℕ) (j : Job) (answers : List ℕ) → one_if_index j ≡ length (index_in path j answers)
    one path (Whole call) answers = refl
    one path (Index call i) answers = refl
