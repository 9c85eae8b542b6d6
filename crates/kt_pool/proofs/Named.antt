-- The entries of a run that are named by paths, by kind: those of tasks by their path, those of indexes by the path of the loop and a number.
use Rattle.std.proofs.Common.{◌≡◌, ℕ, zero, suc, ◌+◌, ◌*◌, ◌<◌, ◌⊎◌, ◌&&◌, nat_eq, Bool, true, false, List, [], ◌∷◌, ◌++◌, map, inl, inr, refl, sym, ap, ◌∙◌, arith}
use Rattle.std.specs.List.{flat_map}
use Rattle.std.proofs.lemmas.List.{map-append}
use Rattle.kt_order.specs.Machine.{Machine}
use Rattle.kt_order.specs.Paths.{same_path}
use Rattle.kt_order.specs.Sequential.{Entry, whole_within}
use Rattle.kt_prog.specs.Calls.{CallTree, Job, Whole, Index}
use Rattle.kt_prog.specs.Entries.{task_in, index_in, tasks_of, indexes_of}
use Rattle.kt_prog.specs.Reference.{Placed, machine_of}
use Rattle.kt_runs.specs.ByPath.{Path, child}
use Rattle.kt_rule.specs.declared.views.Setup.{Setup}
use Rattle.kt_rule.specs.declared.views.IndexRun.{IndexRun}
use Rattle.kt_rule.specs.Lists.{times, one_if, In, here, there}
use Rattle.kt_rule.specs.LoopFacts.{index_times}
use Rattle.kt_rule.specs.Paths.{parent_of, number_of}
use Rattle.kt_rule.specs.Weights.{one_if_whole, one_if_index, is_task, is_index}
use Rattle.kt_rule.proofs.Puts.{same_is, parent_is, number_is}
use Rattle.kt_rule.proofs.Sums.{times_append, weigh_append}
use Rattle.kt_pool.specs.Exact.{pair_times, name_of, named_so}

-- PRODUCTS WITH 0 AND 1

pub zero_by : (a n : ℕ) → a ≡ 0 → a * n ≡ 0
zero_by a n e = ap (λ (z : ℕ). z * n) e ∙ (let h : 0 * n ≡ 0 = omega arith in h)

pub one_by : (a n : ℕ) → a ≡ 1 → a * n ≡ n
one_by a n e = ap (λ (z : ℕ). z * n) e ∙ (let h : 1 * n ≡ n = omega arith in h)

by_zero : (a n : ℕ) → n ≡ 0 → a * n ≡ 0
by_zero a n e = ap (λ (z : ℕ). a * z) e ∙ (let h : a * 0 ≡ 0 = omega arith in h)

-- each body is a task's or an index's
job_kind : (job : Job) → ((one_if_whole job ≡ 1) × (one_if_index job ≡ 0)) ⊎ ((one_if_whole job ≡ 0) × (one_if_index job ≡ 1))
job_kind (Whole call) = inl (refl, refl)
job_kind (Index call i) = inr (refl, refl)

pub kind : (c : Placed) → ((is_task c ≡ 1) × (is_index c ≡ 0)) ⊎ ((is_task c ≡ 0) × (is_index c ≡ 1))
kind c = job_kind c.job

pub both_kinds : (c : Placed) (n : ℕ) → is_task c * n + is_index c * n ≡ n
both_kinds c n = elim (kind c) [
  | inl h ↦ (let a = one_by (is_task c) n h.0 in let b = zero_by (is_index c) n h.1 in omega arith)
  | inr h ↦ (let a = zero_by (is_task c) n h.0 in let b = one_by (is_index c) n h.1 in omega arith)
]

-- PATHS OF CHILDREN

and_true : (a : Bool) → (a && true) ≡ (true && a)
and_true true = refl
and_true false = refl

and_false : (a b : Bool) → b ≡ false → (a && b) ≡ false
and_false true b e = e
and_false false b e = refl

and_both : (a b c : Bool) → (a && (b && c)) ≡ ((a && b) && c)
and_both true b c = refl
and_both false b c = refl

no_child : (z : Path) (k : ℕ) → same_path [] (child z k) ≡ false
no_child [] k = refl
no_child (x ∷ z) k = refl

child_no : (z : Path) (k : ℕ) → same_path (child z k) [] ≡ false
child_no [] k = refl
child_no (x ∷ z) k = refl

pub same_child : (p z : Path) (i k : ℕ) → same_path (child p i) (child z k) ≡ (same_path p z && nat_eq i k)
same_child [] [] i k = and_true (nat_eq i k)
same_child [] (y ∷ z) i k = and_false (nat_eq i y) (same_path [] (child z k)) (no_child z k)
same_child (x ∷ p) [] i k = and_false (nat_eq x k) (same_path (child p i) []) (child_no p i)
same_child (x ∷ p) (y ∷ z) i k = ap (λ (b : Bool). nat_eq x y && b) (same_child p z i k) ∙ and_both (nat_eq x y) (same_path p z) (nat_eq i k)

-- where an index stands in a run named by paths
abbrev pub index_path : IndexRun → Path
index_path e = child e.spot.path e.index

pub index_path_times : (p : Path) (i : ℕ) (es : List IndexRun) → times (child p i) (map index_path es) ≡ index_times p i es
index_path_times p i [] = refl
index_path_times p i (e ∷ es) =
    let a = ap one_if (same_child p e.spot.path i e.index) in let b = index_path_times p i es in omega arith

pub no_root_index : (es : List IndexRun) → times [] (map index_path es) ≡ 0
no_root_index [] = refl
no_root_index (e ∷ es) = let a = ap one_if (no_child e.spot.path e.index) in let b = no_root_index es in omega arith

nat_is : (a b : ℕ) → nat_eq a b ≡ true → a ≡ b
nat_is a b e = grind arith

-- what stands there is a member
pub index_member : (p : Path) (i : ℕ) (es : List IndexRun) → 0 < index_times p i es
    → (e : IndexRun) × In e es × (e.spot.path ≡ p) × (e.index ≡ i)
index_member p i [] some_times = absurd (omega arith)
index_member p i (e ∷ es) some_times = go (same_path p e.spot.path) (nat_eq i e.index) refl refl (index_member p i es)
  where
    go : (a b : Bool) → same_path p e.spot.path ≡ a → nat_eq i e.index ≡ b
        → (0 < index_times p i es → (x : IndexRun) × In x es × (x.spot.path ≡ p) × (x.index ≡ i))
        → (x : IndexRun) × In x (e ∷ es) × (x.spot.path ≡ p) × (x.index ≡ i)
    go true true path number rest = (e, here, sym (same_is p e.spot.path path), sym (nat_is i e.index number))
    go true false path number rest =
        let none : one_if (same_path p e.spot.path && nat_eq i e.index) ≡ 0 = λ k. one_if (path k && number k) in
        let r = rest (omega arith) in (r.0, there r.1, r.2, r.3)
    go false b path number rest =
        let none : one_if (same_path p e.spot.path && nat_eq i e.index) ≡ 0 = ap (λ (z : Bool). one_if (z && nat_eq i e.index)) path in
        let r = rest (omega arith) in (r.0, there r.1, r.2, r.3)

-- THE FIRST BODY OF A RUN IS THAT OF ITS ROOT

pub first_is : (m : Machine) (n : ℕ) (c : m.Call) (s : m.Store)
    → (e : Entry m) × (es : List (Entry m)) × ((whole_within m n c s).entries ≡ e ∷ es) × (e.call ≡ c)
first_is m zero c s = (_, _, refl, refl)
first_is m (suc n) c s = (_, _, refl, refl)

-- BY KIND

abbrev pub if_task : {A : Type 0} → Job → A → List A
if_task (Whole call) x = x ∷ []
if_task (Index call i) x = []

abbrev pub if_index : {A : Type 0} → Job → A → List A
if_index (Whole call) x = []
if_index (Index call i) x = x ∷ []

task_named : (job : Job) (path : List ℕ) (answers : List ℕ) (q : Path) → (one_if_whole job ≡ 1 → path ≡ map suc q)
    → map (λ t. t.path) (task_in path job answers) ≡ map (map suc) (if_task job q)
task_named (Whole call) path answers q h = ap (λ (z : List ℕ). z ∷ []) (h refl)
task_named (Index call i) path answers q h = refl

index_named : (job : Job) (path : List ℕ) (answers : List ℕ) (q : Path × ℕ)
    → ((call : CallTree) (i : ℕ) → job ≡ Index call i → (path ≡ map suc q.0) × (i ≡ q.1))
    → map name_of (index_in path job answers) ≡ map named_so (if_index job q)
index_named (Whole call) path answers q h = refl
index_named (Index call i) path answers q h = let e = h call i refl in λ k. (e.0 k, e.1 k) ∷ []

module _ (j : Setup) (entry : Path → Entry (machine_of j.program)) where
  -- the paths of tasks
  abbrev pub task_paths : List Path → List Path
  task_paths = flat_map (λ (q : Path). if_task (entry q).call.job q)

  -- and the loops and numbers of indexes
  abbrev pub index_pairs : List Path → List (Path × ℕ)
  index_pairs = flat_map (λ (q : Path). if_index (entry q).call.job (parent_of q, number_of q))

  one_task : (p q : Path) → times p (if_task (entry q).call.job q) ≡ is_task (entry p).call * one_if (same_path p q)
  one_task p q = go (same_path p q) refl
    where
      of : (job : Job) → times p (if_task job q) ≡ one_if_whole job * one_if (same_path p q)
      of (Whole call) = let h = one_by 1 (one_if (same_path p q)) refl in omega arith
      of (Index call i) = let h = zero_by 0 (one_if (same_path p q)) refl in omega arith

      go : (b : Bool) → same_path p q ≡ b → times p (if_task (entry q).call.job q) ≡ is_task (entry p).call * one_if (same_path p q)
      go true is = of (entry q).call.job ∙ ap (λ (z : Path). is_task (entry z).call * one_if (same_path p q)) (sym (same_is p q is))
      go false is = of (entry q).call.job ∙ (by_zero (is_task (entry q).call) (one_if (same_path p q)) (ap one_if is)
          ∙ sym (by_zero (is_task (entry p).call) (one_if (same_path p q)) (ap one_if is)))

  product : (a x y : ℕ) → (a ≡ 0) ⊎ (a ≡ 1) → a * x + a * y ≡ a * (x + y)
  product a x y (inl e) = let h = zero_by a x e in let k = zero_by a y e in let l = zero_by a (x + y) e in omega arith
  product a x y (inr e) = let h = one_by a x e in let k = one_by a y e in let l = one_by a (x + y) e in omega arith

  task_small : (c : Placed) → (is_task c ≡ 0) ⊎ (is_task c ≡ 1)
  task_small c = elim (kind c) [ inl h ↦ inr h.0 | inr h ↦ inl h.0 ]

  index_small : (c : Placed) → (is_index c ≡ 0) ⊎ (is_index c ≡ 1)
  index_small c = elim (kind c) [ inl h ↦ inl h.1 | inr h ↦ inr h.1 ]

  pub task_times : (p : Path) (qs : List Path) → times p (task_paths qs) ≡ is_task (entry p).call * times p qs
  task_times p [] = sym (by_zero (is_task (entry p).call) 0 refl)
  task_times p (q ∷ qs) =
      let a = times_append p (if_task (entry q).call.job q) (task_paths qs) in let b = one_task p q in let c = task_times p qs in
      let d = product (is_task (entry p).call) (one_if (same_path p q)) (times p qs) (task_small (entry p).call) in omega arith

  pub tasks_named : (qs : List Path) → ((q : Path) → In q qs → is_task (entry q).call ≡ 1 → (entry q).call.path ≡ map suc q)
      → map (λ t. t.path) (tasks_of j.program (map entry qs)) ≡ map (map suc) (task_paths qs)
  tasks_named [] h = refl
  tasks_named (q ∷ qs) h =
      map-append (λ t. t.path) (task_in (entry q).call.path (entry q).call.job (entry q).answers) (tasks_of j.program (map entry qs))
      ∙ ((λ k. task_named (entry q).call.job (entry q).call.path (entry q).answers q (h q here) k ++ tasks_named qs (λ z i. h z (there i)) k)
      ∙ sym (map-append (map suc) (if_task (entry q).call.job q) (task_paths qs)))

  -- an index stands at the path of a child
  abbrev IsChild : Path → Type 0
  IsChild q = (z : Path) × (k : ℕ) × (q ≡ child z k)

  one_index : (p : Path) (i : ℕ) (q : Path) → (is_index (entry q).call ≡ 1 → IsChild q)
      → pair_times p i (if_index (entry q).call.job (parent_of q, number_of q)) ≡ is_index (entry (child p i)).call * one_if (same_path (child p i) q)
  one_index p i q child_there = go (same_path (child p i) q) refl
    where
      of : (job : Job) → (one_if_index job ≡ 1 → IsChild q)
          → pair_times p i (if_index job (parent_of q, number_of q)) ≡ one_if_index job * one_if (same_path (child p i) q)
      of (Whole call) there_is = let h = zero_by 0 (one_if (same_path (child p i) q)) refl in omega arith
      of (Index call n) there_is =
          let c = there_is refl in let h = one_by 1 (one_if (same_path (child p i) q)) refl in
          let a : one_if (same_path p (parent_of q) && nat_eq i (number_of q)) ≡ one_if (same_path (child p i) q) =
          (λ k. one_if (same_path p ((ap parent_of c.2 ∙ parent_is c.0 c.1) k) && nat_eq i ((ap number_of c.2 ∙ number_is c.0 c.1) k)))
          ∙ (ap one_if (sym (same_child p c.0 i c.1)) ∙ ap (λ (z : Path). one_if (same_path (child p i) z)) (sym c.2)) in omega arith

      go : (b : Bool) → same_path (child p i) q ≡ b
          → pair_times p i (if_index (entry q).call.job (parent_of q, number_of q)) ≡ is_index (entry (child p i)).call * one_if (same_path (child p i) q)
      go true is = of (entry q).call.job child_there
          ∙ ap (λ (z : Path). is_index (entry z).call * one_if (same_path (child p i) q)) (sym (same_is (child p i) q is))
      go false is = of (entry q).call.job child_there ∙ (by_zero (is_index (entry q).call) (one_if (same_path (child p i) q)) (ap one_if is)
          ∙ sym (by_zero (is_index (entry (child p i)).call) (one_if (same_path (child p i) q)) (ap one_if is)))

  pub pairs_times : (p : Path) (i : ℕ) (qs : List Path) → ((q : Path) → In q qs → is_index (entry q).call ≡ 1 → IsChild q)
      → pair_times p i (index_pairs qs) ≡ is_index (entry (child p i)).call * times (child p i) qs
  pairs_times p i [] h = sym (by_zero (is_index (entry (child p i)).call) 0 refl)
  pairs_times p i (q ∷ qs) h =
      let a = weigh_append (λ (x : Path × ℕ). one_if (same_path p x.0 && nat_eq i x.1)) (if_index (entry q).call.job (parent_of q, number_of q)) (index_pairs qs) in
      let b = one_index p i q (h q here) in let c = pairs_times p i qs (λ z m. h z (there m)) in
      let d = product (is_index (entry (child p i)).call) (one_if (same_path (child p i) q)) (times (child p i) qs)
      (index_small (entry (child p i)).call) in omega arith

  pub indexes_named : (qs : List Path)
      → ((q : Path) → In q qs → (call : CallTree) (i : ℕ) → (entry q).call.job ≡ Index call i → ((entry q).call.path ≡ map suc (parent_of q)) × (i ≡ number_of q))
      → map name_of (indexes_of j.program (map entry qs)) ≡ map named_so (index_pairs qs)
  indexes_named [] h = refl
  indexes_named (q ∷ qs) h =
      map-append name_of (index_in (entry q).call.path (entry q).call.job (entry q).answers) (indexes_of j.program (map entry qs))
      ∙ ((λ k. index_named (entry q).call.job (entry q).call.path (entry q).answers (parent_of q, number_of q) (h q here) k
      ++ indexes_named qs (λ z m. h z (there m)) k)
      ∙ sym (map-append named_so (if_index (entry q).call.job (parent_of q, number_of q)) (index_pairs qs)))
