-- What a table shows once the row of a loop has changed.
use Rattle.std.proofs.Common.{◌≡◌, ◌≢◌, ◌<◌, ◌+◌, ℕ, zero, suc, Bool, true, false, cond, List, [], ◌∷◌, ◌++◌, map, length, Option, Some, None, refl, sym, ap, subst, ◌∙◌, arith, slice_get, slice_set}
use Rattle.kt_law.specs.declared.limits.TheConstants.{DEPTH}
use Rattle.kt_order.specs.Lists.{AllOf}
use Rattle.kt_order.specs.Body.{Stop, Do, Fork}
use Rattle.kt_order.specs.Machine.{Code}
use Rattle.kt_order.specs.Stand.{Standing}
use Rattle.kt_order.specs.Forest.{Task, Forest, At, change}
use Rattle.kt_order.specs.Rest.{standing}
use Rattle.kt_order.specs.Loops.{ForksNothing}
use Rattle.kt_order.specs.Paths.{same_path, HasRoom, place_of, Known, tree_of, children_at}
use Rattle.kt_order.specs.Named.{count_of, forks_in}
use Rattle.kt_order.proofs.PathChanges.{eq_self}
use Rattle.kt_order.proofs.PathsAt.{tree_at}
use Rattle.kt_prog.specs.Calls.{CallTree, Index}
use Rattle.kt_prog.specs.Laws.{BodiesKeep, LoopsAreDirect}
use Rattle.kt_prog.specs.Accepted.{IsAccepted}
use Rattle.kt_prog.specs.Fits.{Fits}
use Rattle.kt_prog.specs.Reference.{Placed, machine_of}
use Rattle.kt_prog.specs.declared.programs.Program.{Program}
use Rattle.kt_runs.specs.Loops.{index_calls}
use Rattle.kt_runs.proofs.Indexes.{are_indexes}
use Rattle.kt_tables.specs.Tables.{parent_of, is_child}
use Rattle.kt_order.specs.Leaves.{is_below, leaves}
use Rattle.kt_tables.specs.Tables.{IndexRow, TaskRow}
use Rattle.kt_tables.specs.TableLaws.{row_at, last_of, as_task, as_index, index_or_fresh, index_of_row, child_or_fresh, task_or_child, tasks_by_path, Leads}
use Rattle.kt_tables.proofs.TableRows.{same_self, not_same, map_snoc, mapped_is, parent_snoc, child_snoc, row_found, row_where, row_set, Once}
use Rattle.kt_order.proofs.Replaced.{Off, tree_replaced, children_leaves}
use Rattle.kt_runs.proofs.Forked.{Each, stand_each}

-- a path begins with itself, and with its parent
below_self : (q : List ℕ) → is_below q q ≡ true
below_self [] = refl
below_self (k ∷ q) = rw (eq_self k) (below_self q)

below_parent : (q : List ℕ) → is_below (parent_of q) q ≡ true
below_parent [] = refl
below_parent (k ∷ []) = refl
below_parent (k ∷ (j ∷ q)) = rw (eq_self k) (below_parent (j ∷ q))

off_self : (q r : List ℕ) → is_below q r ≡ false → q ≢ r
off_self q r off e = absurd (cc (off, subst (λ (s : List ℕ). is_below q s ≡ true) e (below_self q)))

off_parent : (q r : List ℕ) → is_below q r ≡ false → q ≢ parent_of r
off_parent q r off e = absurd (cc (off, subst (λ (s : List ℕ). is_below s r ≡ true) (sym e) (below_parent r)))

pub last_snoc : (q : List ℕ) (k : ℕ) → last_of (q ++ k ∷ []) ≡ k
last_snoc [] k = refl
last_snoc (i ∷ []) k = refl
last_snoc (i ∷ (j ∷ q)) k = last_snoc (j ∷ q) k

pub has_room : (depth : ℕ) (q : List ℕ) → length q < depth → HasRoom depth q
has_room zero q lt = absurd (omega (arith, lt))
has_room (suc depth) [] lt = tt
has_room (suc depth) (k ∷ q) lt = has_room depth q (omega (arith, lt))

module _ (p : Program) where
  -- an index has forked nothing
  no_forks : (fs : List Placed) → AllOf (λ c. ⊥) fs → fs ≡ []
  no_forks [] all = refl
  no_forks (c ∷ fs) all = absurd all.0

  leaf_forks : (o : Option (Standing (machine_of p))) → ((st : Standing (machine_of p)) → o ≡ Some st → st.forks ≡ []) → forks_in (machine_of p) o ≡ []
  leaf_forks None h = refl
  leaf_forks (Some st) h = h st refl

  each_none : (w : Code (machine_of p)) → ForksNothing (machine_of p) w → Each p (λ c. ⊥) w
  each_none (Stop f) h = tt
  each_none (Do q k) h = λ a. each_none (k a) (h a)
  each_none (Fork c w) h = absurd h

  pub leaf_has_none : (u : Task (machine_of p)) → ForksNothing (machine_of p) ((machine_of p).tree u.call) → forks_in (machine_of p) (standing (machine_of p) u) ≡ []
  leaf_has_none u leaf = leaf_forks (standing (machine_of p) u) (λ st e. no_forks st.forks (stand_each p (λ c. ⊥) ((machine_of p).tree u.call) u.answers u.done st e (each_none ((machine_of p).tree u.call) leaf)))

  -- the indexes of a loop of an accepted program fork nothing
  pub nth_leaf : (path : List ℕ) (c : CallTree) (n k i : ℕ) → AllOf (λ (d : Placed). ForksNothing (machine_of p) ((machine_of p).tree d)) (index_calls path c k n) → i < n
      → ForksNothing (machine_of p) ((machine_of p).tree (record { path = path; job = Index c (k + i) }))
  nth_leaf path c zero k i all lt = absurd (omega (arith, lt))
  nth_leaf path c (suc n) k zero all lt = subst (λ (j : ℕ). ForksNothing (machine_of p) ((machine_of p).tree (record { path = path; job = Index c j }))) (omega arith) all.0
  nth_leaf path c (suc n) k (suc i) all lt = subst (λ (j : ℕ). ForksNothing (machine_of p) ((machine_of p).tree (record { path = path; job = Index c j }))) (omega arith) (nth_leaf path c n (suc k) i all.1 (omega (arith, lt)))

  pub got_less : (xs : List IndexRow) (i : ℕ) (v : IndexRow) → slice_get xs i ≡ Some v → i < length xs
  got_less [] i v e = absurd (cc e)
  got_less (x ∷ xs) zero v e = omega arith
  got_less (x ∷ xs) (suc i) v e = let lt = got_less xs i v e in omega (arith, lt)

  module _ (bodies : BodiesKeep) (direct : LoopsAreDirect) (ok : IsAccepted p) where
    pub index_forks : (r : TaskRow) → Fits p r.call → length r.loop.indexes ≡ r.call.length → (i : ℕ) → forks_in (machine_of p) (standing (machine_of p) (index_of_row p r i)) ≡ []
    index_forks r fits many i = by (slice_get r.loop.indexes i) refl
      where
        by : (o : Option IndexRow) → slice_get r.loop.indexes i ≡ o → forks_in (machine_of p) (standing (machine_of p) (index_or_fresh p r i o)) ≡ []
        by None e = refl
        by (Some v) e =
            let lt = got_less r.loop.indexes i v e in
            let leaf = nth_leaf r.path r.call r.call.length 0 i (are_indexes p bodies direct ok r.path r.call fits).leaves (omega (arith, lt, many)) in
            let same : 0 + i ≡ i = omega arith in
            leaf_has_none (as_index p r i v) (subst (λ (j : ℕ). ForksNothing (machine_of p) ((machine_of p).tree (record { path = r.path; job = Index r.call j }))) same leaf)

    module _ (tasks : List TaskRow) (once : Once tasks) (t : ℕ) (r r' : TaskRow) (at : slice_get tasks t ≡ Some r) (path : r'.path ≡ r.path) (q : List ℕ) (is : r.path ≡ map suc q)
        (childless : (u : ℕ) (s : TaskRow) → slice_get tasks u ≡ Some s → is_child r.path s.path ≡ false) where
      abbrev Get : Known (machine_of p)
      Get = tasks_by_path p tasks

      abbrev Get' : Known (machine_of p)
      Get' = tasks_by_path p (slice_set tasks t r')

      row_else : (s : List ℕ) → q ≢ s → row_at (slice_set tasks t r') (map suc s) ≡ row_at tasks (map suc s)
      row_else s ne = row_set tasks once t r r' at path (map suc s) ∙ ap (λ (b : Bool). cond b (Some r') (row_at tasks (map suc s))) (not_same r.path (map suc s) (λ e. ne (mapped_is q s (sym is ∙ e))))

      pub else_same : (s : List ℕ) → q ≢ s → q ≢ parent_of s → Get' s ≡ Get s
      else_same s ne parent-ne =
          ap (task_or_child p (slice_set tasks t r') s) (row_else s ne)
          ∙ by (row_at tasks (map suc s))
        where
          by : (o : Option TaskRow) → task_or_child p (slice_set tasks t r') s o ≡ task_or_child p tasks s o
          by None = ap (child_or_fresh p (last_of s)) (row_else (parent_of s) parent-ne)
          by (Some v) = refl

      pub off : Off q Get Get'
      off s far = else_same s (off_self q s far) (off_parent q s far)

      row_here : row_at (slice_set tasks t r') (map suc q) ≡ Some r'
      row_here = row_set tasks once t r r' at path (map suc q) ∙ ap (λ (b : Bool). cond b (Some r') (row_at tasks (map suc q))) (subst (λ (l : List ℕ). same_path r.path l ≡ true) is (same_self r.path))

      pub task_here : Get' q ≡ as_task p r'
      task_here = ap (task_or_child p (slice_set tasks t r') q) row_here

      pub task_was : Get q ≡ as_task p r
      task_was = ap (task_or_child p tasks q) (subst (λ (l : List ℕ). row_at tasks l ≡ Some r) is (row_found tasks once t r at))

      -- no row is a child of the loop
      no_child : (i : ℕ) → row_at tasks (map suc (q ++ i ∷ [])) ≡ None
      no_child i = by (row_at tasks (map suc (q ++ i ∷ []))) refl
        where
          by : (o : Option TaskRow) → row_at tasks (map suc (q ++ i ∷ [])) ≡ o → o ≡ None
          by None e = refl
          by (Some s) e =
              let w = row_where tasks (map suc (q ++ i ∷ [])) s e in
              let child : is_child r.path s.path ≡ true = ap (is_child r.path) (w.2 ∙ map_snoc q i) ∙ (ap (λ (l : List ℕ). is_child r.path (l ++ suc i ∷ [])) (sym is) ∙ child_snoc r.path (suc i)) in
              absurd (cc (child, childless w.0 s w.1))

      snoc_ne : (s : List ℕ) (i : ℕ) → s ≢ s ++ i ∷ []
      snoc_ne [] i e = cc
      snoc_ne (k ∷ s) i e = snoc_ne s i (tail_same e)
        where
          tail_same : k ∷ s ≡ k ∷ (s ++ i ∷ []) → s ≡ s ++ i ∷ []
          tail_same h = cc

      pub index_here : (i : ℕ) → Get' (q ++ i ∷ []) ≡ index_of_row p r' i
      index_here i =
          ap (task_or_child p (slice_set tasks t r') (q ++ i ∷ [])) (row_else (q ++ i ∷ []) (snoc_ne q i) ∙ no_child i)
          ∙ (ap (λ (l : List ℕ). child_or_fresh p (last_of (q ++ i ∷ [])) (row_at (slice_set tasks t r') (map suc l))) (parent_snoc q i)
          ∙ (ap (child_or_fresh p (last_of (q ++ i ∷ []))) row_here ∙ ap (index_of_row p r') (last_snoc q i)))

      pub index_was : (i : ℕ) → Get (q ++ i ∷ []) ≡ index_of_row p r i
      index_was i =
          ap (task_or_child p tasks (q ++ i ∷ [])) (no_child i)
          ∙ (ap (λ (l : List ℕ). child_or_fresh p (last_of (q ++ i ∷ [])) (row_at tasks (map suc l))) (parent_snoc q i)
          ∙ (ap (child_or_fresh p (last_of (q ++ i ∷ []))) (subst (λ (l : List ℕ). row_at tasks l ≡ Some r) is (row_found tasks once t r at)) ∙ ap (index_of_row p r) (last_snoc q i)))

      -- the forest that the table shows then
      pub forest_after : Fits p r'.call → length r'.loop.indexes ≡ r'.call.length → length q < suc DEPTH → Leads p tasks q
          → length (forks_in (machine_of p) (standing (machine_of p) (as_task p r'))) ≡ r'.call.length
          → tree_of (machine_of p) (suc DEPTH) Get' (count_of (machine_of p) Get')
          ≡ change (machine_of p) (λ u. as_task p r') (λ K. leaves (machine_of p) (index_of_row p r') 0 r'.call.length) (place_of q) (tree_of (machine_of p) (suc DEPTH) Get (count_of (machine_of p) Get))
      forest_after fits many shallow there forks =
          let kids = children_leaves (machine_of p) (suc DEPTH) q (index_of_row p r') Get' (count_of (machine_of p) Get') r'.call.length (has_room (suc DEPTH) q shallow)
          (ap (λ (u : Task (machine_of p)). length (forks_in (machine_of p) (standing (machine_of p) u))) task_here ∙ forks) index_here
          (λ i. ap (λ (u : Task (machine_of p)). length (forks_in (machine_of p) (standing (machine_of p) u))) (index_here i) ∙ ap length (index_forks r' fits many i)) in
          tree_replaced (machine_of p) (suc DEPTH) Get Get' (count_of (machine_of p) Get) (count_of (machine_of p) Get') q there off
          (λ s far. ap (λ (u : Task (machine_of p)). length (forks_in (machine_of p) (standing (machine_of p) u))) (off s far))
          ∙ (ap (λ (u : Task (machine_of p)). change (machine_of p) (λ _. u) (λ K. children_at (machine_of p) (suc DEPTH) q Get' (count_of (machine_of p) Get')) (place_of q) (tree_of (machine_of p) (suc DEPTH) Get (count_of (machine_of p) Get))) task_here
          ∙ ap (λ (L : Forest (machine_of p)). change (machine_of p) (λ _. as_task p r') (λ K. L) (place_of q) (tree_of (machine_of p) (suc DEPTH) Get (count_of (machine_of p) Get))) kids)

      -- and what stood at the place, of a loop that had begun
      pub forest_was : Fits p r.call → length r.loop.indexes ≡ r.call.length → length q < suc DEPTH → Leads p tasks q
          → length (forks_in (machine_of p) (standing (machine_of p) (as_task p r))) ≡ r.call.length
          → At (machine_of p) (λ u kids. (u ≡ as_task p r) × (kids ≡ leaves (machine_of p) (index_of_row p r) 0 r.call.length)) (place_of q) (tree_of (machine_of p) (suc DEPTH) Get (count_of (machine_of p) Get))
      forest_was fits many shallow there forks =
          let kids = children_leaves (machine_of p) (suc DEPTH) q (index_of_row p r) Get (count_of (machine_of p) Get) r.call.length (has_room (suc DEPTH) q shallow)
          (ap (λ (u : Task (machine_of p)). length (forks_in (machine_of p) (standing (machine_of p) u))) task_was ∙ forks) index_was
          (λ i. ap (λ (u : Task (machine_of p)). length (forks_in (machine_of p) (standing (machine_of p) u))) (index_was i) ∙ ap length (index_forks r fits many i)) in
          tree_at (machine_of p) (λ u K. (u ≡ as_task p r) × (K ≡ leaves (machine_of p) (index_of_row p r) 0 r.call.length)) (suc DEPTH) Get (count_of (machine_of p) Get) q there (task_was, kids)
