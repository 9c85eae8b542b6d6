-- The rows of tasks and of indexes of a lawful table are the tasks of the state that it shows, in another order.
use Rattle.std.proofs.Common.{◌≡◌, ◌<◌, ◌≤◌, ◌+◌, ℕ, zero, suc, true, List, [], ◌∷◌, ◌++◌, map, length, Some, inl, inr, refl, sym, ap, subst, ◌∙◌, arith, slice_get}
use Rattle.std.specs.List.{flat_map}
use Rattle.std.specs.List.Sorted.{IsPermutation}
use Rattle.std.proofs.lemmas.List.Concat.{flat_map-append}
use Rattle.kt_law.specs.declared.limits.TheConstants.{DEPTH}
use Rattle.kt_order.specs.Sequential.{Entry}
use Rattle.kt_order.specs.Laws.{Laws}
use Rattle.kt_order.specs.Forest.{Task}
use Rattle.kt_order.specs.Shown.{entry_of}
use Rattle.kt_order.specs.Named.{count_of}
use Rattle.kt_order.specs.Listed.{all_paths}
use Rattle.kt_order.proofs.PathThere.{child_there}
use Rattle.kt_prog.specs.Laws.{BodiesKeep, LoopsAreDirect}
use Rattle.kt_prog.specs.Accepted.{IsAccepted}
use Rattle.kt_prog.specs.Reference.{machine_of}
use Rattle.kt_prog.specs.declared.programs.Program.{Program}
use Rattle.kt_runs.specs.ByPath.{NoTwice}
use Rattle.kt_runs.specs.Rights.{rights_in}
use Rattle.kt_runs.proofs.PathsListed.{In, paths_once, there_in, in_there}
use Rattle.kt_tables.specs.Tables.{is_child}
use Rattle.kt_tables.proofs.TablePermutes.{in_either, members_permute, in_get, get_in, places_once, in_flat, in_flattened}
use Rattle.kt_tables.specs.Tables.{IndexRow, TaskRow, TaskTable}
use Rattle.kt_tables.specs.TableLaws.{row_at, has_begun, as_task, as_index, index_or_fresh, index_of_row, task_or_child, tasks_by_path, Leads, IsLawfulTable, Stands, as_row, as_child}
use Rattle.kt_tables.proofs.TableRows.{the_some, row_found, map_snoc, snoc_same, child_snoc}
use Rattle.kt_tables.proofs.Indexed.{got_row}
use Rattle.kt_tables.proofs.LoopShown.{has_room, got_less}
use Rattle.kt_tables.proofs.LoopKept.{shallow, child_was}
use Rattle.kt_tables.proofs.Full.{row_leads, begun_by, loop_of, count_row}

abbrev pub lower : ℕ → ℕ
lower zero = 0
lower (suc n) = n

abbrev pub lowered : List ℕ → List ℕ
lowered [] = []
lowered (k ∷ q) = lower k ∷ lowered q

lowered_is : (q : List ℕ) → lowered (map suc q) ≡ q
lowered_is [] = refl
lowered_is (k ∷ q) = ap (λ l. k ∷ l) (lowered_is q)

-- n children of a path, from this one on
abbrev pub children_of : List ℕ → ℕ → ℕ → List (List ℕ)
children_of q k zero = []
children_of q k (suc n) = (q ++ k ∷ []) ∷ children_of q (suc k) n

abbrev pub spots_of : TaskRow → List (List ℕ)
spots_of r = lowered r.path ∷ children_of (lowered r.path) 0 (length r.loop.indexes)

in_children : (q s : List ℕ) (n k : ℕ) → In s (children_of q k n) → (i : ℕ) × (k ≤ i) × (i < k + n) × (s ≡ q ++ i ∷ [])
in_children q s zero k i = absurd i
in_children q s (suc n) k (inl e) = (k, omega arith, omega arith, e)
in_children q s (suc n) k (inr i) = let r = in_children q s n (suc k) i in let a = r.1 in let b = r.2 in (r.0, omega (arith, a), omega (arith, b), r.3)

pub child_in : (q : List ℕ) (n k i j : ℕ) → k + i ≡ j → i < n → In (q ++ j ∷ []) (children_of q k n)
child_in q zero k i j e lt = absurd (omega (arith, lt))
child_in q (suc n) k zero j e lt = inl (ap (λ (z : ℕ). q ++ z ∷ []) (omega (arith, e)))
child_in q (suc n) k (suc i) j e lt = inr (child_in q n (suc k) i j (omega (arith, e)) (omega (arith, lt)))

children_once : (q : List ℕ) (n k : ℕ) → NoTwice (children_of q k n)
children_once q zero k = tt
children_once q (suc n) k = ((λ i. let r = in_children q (q ++ k ∷ []) n (suc k) i in let a = r.1 in let b = (snoc_same q q k r.0 r.3).1 in omega (arith, a, b)), children_once q n (suc k))

snoc_ne : (s : List ℕ) (i : ℕ) → s ≡ s ++ i ∷ [] → ⊥
snoc_ne [] i e = cc
snoc_ne (k ∷ s) i e = snoc_ne s i (tail_same e)
  where
    tail_same : k ∷ s ≡ k ∷ (s ++ i ∷ []) → s ≡ s ++ i ∷ []
    tail_same h = cc

append_once : {X : Type 0} → (a b : List X) → NoTwice a → NoTwice b → ((z : X) → In z a → In z b → ⊥) → NoTwice (a ++ b)
append_once [] b oa ob apart = ob
append_once (x ∷ a) b oa ob apart =
    ((λ i. elim (in_either x a b i) [ inl j ↦ oa.0 j | inr j ↦ apart x (inl refl) j ]), append_once a b oa.1 ob (λ z i j. apart z (inr i) j))

flat_once : {X Y : Type 0} → (f : X → List Y) (xs : List X) → ((x : X) → In x xs → NoTwice (f x))
    → ((x y : X) (z : Y) → In x xs → In y xs → In z (f x) → In z (f y) → x ≡ y) → NoTwice xs → NoTwice (flat_map f xs)
flat_once f [] each apart once = tt
flat_once f (x ∷ xs) each apart once =
    append_once (f x) (flat_map f xs) (each x (inl refl)) (flat_once f xs (λ y i. each y (inr i)) (λ y z w i j a b. apart y z w (inr i) (inr j) a b) once.1)
    (λ z i j. (let m = in_flattened f z xs j in let same = apart x m.0 z (inl refl) (inr m.1) i m.2 in absurd (once.0 (member xs x m.0 same m.1))))
  where
    member : {X : Type 0} → (xs : List X) (x y : X) → x ≡ y → In y xs → In x xs
    member {X = X} xs x y e i = subst (λ (w : X). In w xs) (sym e) i

flat_mapped : {X Y Z : Type 0} → (f : Y → List Z) (g : X → Y) (xs : List X) → flat_map f (map g xs) ≡ flat_map (λ x. f (g x)) xs
flat_mapped f g [] = refl
flat_mapped f g (x ∷ xs) = ap (λ l. f (g x) ++ l) (flat_mapped f g xs)

module _ (p : Program) where
  -- what the bodies of these indexes have done, from this one on
  abbrev pub index_entries : TaskRow → ℕ → List IndexRow → List (Entry (machine_of p))
  index_entries r i [] = []
  index_entries r i (v ∷ rows) = entry_of (machine_of p) (as_index p r i v) ∷ index_entries r (suc i) rows

  -- what the bodies of the task and of its indexes have done
  abbrev pub row_entries : TaskRow → List (Entry (machine_of p))
  row_entries r = entry_of (machine_of p) (as_task p r) ∷ index_entries r 0 r.loop.indexes

  abbrev pub entries_in : List TaskRow → List (Entry (machine_of p))
  entries_in tasks = flat_map row_entries tasks

module _ (p : Program) (input : List ℕ) (l : Laws (machine_of p) (rights_in p)) (bodies : BodiesKeep) (direct : LoopsAreDirect) (ok : IsAccepted p)
    (x : TaskTable) (h : IsLawfulTable p input x) where
  abbrev pub Get : List ℕ → Task (machine_of p)
  Get = tasks_by_path p x.tasks

  abbrev pub Paths : List (List ℕ)
  Paths = all_paths (suc DEPTH) (count_of (machine_of p) Get)

  pub path_back : (t : ℕ) (r : TaskRow) → slice_get x.tasks t ≡ Some r → map suc (lowered r.path) ≡ r.path
  path_back t r at = let e = (h.rows.there t r at).1 in ap (λ (z : List ℕ). map suc (lowered z)) e ∙ (ap (map suc) (lowered_is (h.rows.there t r at).0) ∙ sym e)

  pub spot_own : (t : ℕ) (r : TaskRow) → slice_get x.tasks t ≡ Some r → Get (lowered r.path) ≡ as_task p r
  spot_own t r at = ap (task_or_child p x.tasks (lowered r.path)) (subst (λ (z : List ℕ). row_at x.tasks z ≡ Some r) (sym (path_back t r at)) (row_found x.tasks h.rows.once t r at))

  pub has_index : (t : ℕ) (r : TaskRow) → slice_get x.tasks t ≡ Some r → (i : ℕ) → i < length r.loop.indexes → has_begun p r ≡ true
  has_index t r at i less = let g = got_row r.loop.indexes i less in begun_by p input l bodies direct ok x h.rows t r at i g.0 g.1

  pub spot_child : (t : ℕ) (r : TaskRow) (at : slice_get x.tasks t ≡ Some r) → has_begun p r ≡ true → (i : ℕ) → Get (lowered r.path ++ i ∷ []) ≡ index_of_row p r i
  spot_child t r at b i =
      subst (λ (z : List ℕ). Get (z ++ i ∷ []) ≡ index_of_row p r i) (sym (ap lowered (h.rows.there t r at).1 ∙ lowered_is (h.rows.there t r at).0))
      (child_was p input l bodies direct ok x h.rows t r at (loop_of p input l bodies direct ok x h.rows t r b) i)

  rows_once : NoTwice x.tasks
  rows_once = places_once x.tasks (λ t u r a b. h.rows.once t u r r a b refl)

  -- a row that stands at the path of an index
  no_row : (t u : ℕ) (r s : TaskRow) → slice_get x.tasks t ≡ Some r → slice_get x.tasks u ≡ Some s → (i : ℕ) → i < length s.loop.indexes → lowered r.path ≡ lowered s.path ++ i ∷ [] → ⊥
  no_row t u r s at au i less e =
      let loop = loop_of p input l bodies direct ok x h.rows u s (has_index u s au i less) in
      let is : r.path ≡ s.path ++ suc i ∷ [] = sym (path_back t r at) ∙ (ap (map suc) e ∙ (map_snoc (lowered s.path) i ∙ ap (λ (z : List ℕ). z ++ suc i ∷ []) (path_back u s au))) in
      let child : is_child s.path r.path ≡ true = ap (is_child s.path) is ∙ child_snoc s.path (suc i) in
      cc (child, h.rows.childless u s au loop t r at)

  spots_apart : (r s : TaskRow) (z : List ℕ) → In r x.tasks → In s x.tasks → In z (spots_of r) → In z (spots_of s) → r ≡ s
  spots_apart r s z ir is zr zs =
      let a = in_get r x.tasks ir in
      let b = in_get s x.tasks is in
      by a.0 b.0 a.1 b.1 zr zs
    where
      same_row : (t u : ℕ) → slice_get x.tasks t ≡ Some r → slice_get x.tasks u ≡ Some s → lowered r.path ≡ lowered s.path → r ≡ s
      same_row t u at au e =
          let paths : r.path ≡ s.path = sym (path_back t r at) ∙ (ap (map suc) e ∙ path_back u s au) in
          let place = h.rows.once t u r s at au paths in
          the_some (sym at ∙ (ap (slice_get x.tasks) place ∙ au))

      by : (t u : ℕ) → slice_get x.tasks t ≡ Some r → slice_get x.tasks u ≡ Some s → In z (spots_of r) → In z (spots_of s) → r ≡ s
      by t u at au (inl e) (inl g) = same_row t u at au (sym e ∙ g)
      by t u at au (inl e) (inr j) = let c = in_children (lowered s.path) z (length s.loop.indexes) 0 j in let less = c.2 in absurd (no_row t u r s at au c.0 (omega (arith, less)) (sym e ∙ c.3))
      by t u at au (inr i) (inl g) = let c = in_children (lowered r.path) z (length r.loop.indexes) 0 i in let less = c.2 in absurd (no_row u t s r au at c.0 (omega (arith, less)) (sym g ∙ c.3))
      by t u at au (inr i) (inr j) =
          let c = in_children (lowered r.path) z (length r.loop.indexes) 0 i in
          let d = in_children (lowered s.path) z (length s.loop.indexes) 0 j in
          same_row t u at au (snoc_same (lowered r.path) (lowered s.path) c.0 d.0 (sym c.3 ∙ d.3)).0

  spots_once : NoTwice (flat_map spots_of x.tasks)
  spots_once = flat_once spots_of x.tasks
      (λ r i. ((λ j. let c = in_children (lowered r.path) (lowered r.path) (length r.loop.indexes) 0 j in snoc_ne (lowered r.path) c.0 c.3), children_once (lowered r.path) (length r.loop.indexes) 0))
      spots_apart rows_once

  pub spots_to : (z : List ℕ) → In z (flat_map spots_of x.tasks) → In z Paths
  spots_to z i =
      let m = in_flattened spots_of z x.tasks i in
      let g = in_get m.0 x.tasks m.1 in
      there_in (suc DEPTH) (count_of (machine_of p) Get) z (by g.0 m.0 g.1 m.2)
    where
      by : (t : ℕ) (r : TaskRow) → slice_get x.tasks t ≡ Some r → In z (spots_of r) → Leads p x.tasks z
      by t r at (inl e) = subst (Leads p x.tasks) (sym e) (row_leads p input l bodies direct ok x h.rows t r at (lowered r.path) (sym (path_back t r at)))
      by t r at (inr j) =
          let c = in_children (lowered r.path) z (length r.loop.indexes) 0 j in
          let less = c.2 in
          let b = has_index t r at c.0 (omega (arith, less)) in
          let loop = loop_of p input l bodies direct ok x h.rows t r b in
          let same : (h.rows.there t r at).0 ≡ lowered r.path = sym (ap lowered (h.rows.there t r at).1 ∙ lowered_is (h.rows.there t r at).0) in
          let room = subst (λ (q : List ℕ). length q < suc DEPTH) same (shallow p input l bodies direct ok x h.rows t r at loop) in
          let many = count_row p input l bodies direct ok x h.rows t r at b (lowered r.path) (sym (path_back t r at)) in
          subst (Leads p x.tasks) (sym c.3)
          (child_there (suc DEPTH) (count_of (machine_of p) Get) (lowered r.path) c.0 (row_leads p input l bodies direct ok x h.rows t r at (lowered r.path) (sym (path_back t r at)))
          (omega (arith, less, many)) (has_room (suc DEPTH) (lowered r.path) room))

  pub spots_from : (z : List ℕ) → In z Paths → In z (flat_map spots_of x.tasks)
  spots_from z i = by (h.all z (in_there (suc DEPTH) (count_of (machine_of p) Get) z i))
    where
      by : Stands p x.tasks z → In z (flat_map spots_of x.tasks)
      by (as_row t r got is) = in_flat spots_of r z x.tasks (get_in r x.tasks t got) (inl (sym (ap lowered is ∙ lowered_is z)))
      by (as_child t r home i v got is child index) =
          let low : lowered r.path ≡ home = ap lowered is ∙ lowered_is home in
          let less = got_less p r.loop.indexes i v index in
          in_flat spots_of r z x.tasks (get_in r x.tasks t got)
          (inr (subst (λ (w : List ℕ). In w (children_of (lowered r.path) 0 (length r.loop.indexes))) (ap (λ (w : List ℕ). w ++ i ∷ []) low ∙ sym child)
          (child_in (lowered r.path) (length r.loop.indexes) 0 i i (omega arith) less)))

  module _ {Y : Type 0} (f : Entry (machine_of p) → List Y) where
    abbrev pub F : List ℕ → List Y
    F q = f (entry_of (machine_of p) (Get q))

    -- the entries of one row
    of_children : (r : TaskRow) (q : List ℕ) (rows : List IndexRow) (k : ℕ) → ((i j : ℕ) → k + i ≡ j → Get (q ++ j ∷ []) ≡ index_or_fresh p r j (slice_get rows i))
        → flat_map F (children_of q k (length rows)) ≡ flat_map f (index_entries p r k rows)
    of_children r q [] k is = refl
    of_children r q (v ∷ rows) k is =
        ap (λ (u : Task (machine_of p)). f (entry_of (machine_of p) u) ++ flat_map F (children_of q (suc k) (length rows))) (is 0 k (omega arith))
        ∙ ap (λ ys. f (entry_of (machine_of p) (as_index p r k v)) ++ ys) (of_children r q rows (suc k) (λ i j e. is (suc i) j (omega (arith, e))))

    of_row : (t : ℕ) (r : TaskRow) → slice_get x.tasks t ≡ Some r → flat_map F (spots_of r) ≡ flat_map f (row_entries p r)
    of_row t r at =
        ap (λ (u : Task (machine_of p)). f (entry_of (machine_of p) u) ++ flat_map F (children_of (lowered r.path) 0 (length r.loop.indexes))) (spot_own t r at)
        ∙ ap (λ ys. f (entry_of (machine_of p) (as_task p r)) ++ ys) (rest (length r.loop.indexes) refl)
      where
        rest : (n : ℕ) → length r.loop.indexes ≡ n → flat_map F (children_of (lowered r.path) 0 (length r.loop.indexes)) ≡ flat_map f (index_entries p r 0 r.loop.indexes)
        rest zero e = none r.loop.indexes e
          where
            none : (rows : List IndexRow) → length rows ≡ 0 → flat_map F (children_of (lowered r.path) 0 (length rows)) ≡ flat_map f (index_entries p r 0 rows)
            none [] e = refl
            none (v ∷ rows) e = absurd (omega (arith, e))
        rest (suc n) e = of_children r (lowered r.path) r.loop.indexes 0 (λ i j is.
            spot_child t r at (has_index t r at 0 (omega (arith, e))) j ∙ ap (λ (k : ℕ). index_or_fresh p r j (slice_get r.loop.indexes k)) (let same : 0 + i ≡ j = is in omega (arith, same)))

    pub of_rows : (rows : List TaskRow) → ((r : TaskRow) → In r rows → (t : ℕ) × (slice_get x.tasks t ≡ Some r)) → flat_map F (flat_map spots_of rows) ≡ flat_map f (flat_map (row_entries p) rows)
    of_rows [] there = refl
    of_rows (r ∷ rows) there =
        let g = there r (inl refl) in
        flat_map-append F (spots_of r) (flat_map spots_of rows)
        ∙ (ap (λ ys. ys ++ flat_map F (flat_map spots_of rows)) (of_row g.0 r g.1)
        ∙ (ap (λ ys. flat_map f (row_entries p r) ++ ys) (of_rows rows (λ s i. there s (inr i)))
        ∙ sym (flat_map-append f (row_entries p r) (flat_map (row_entries p) rows))))

    pub permutes : IsPermutation (flat_map f (entries_in p x.tasks)) (flat_map f (map (λ q. entry_of (machine_of p) (Get q)) Paths))
    permutes =
        subst (λ ys. IsPermutation ys (flat_map f (map (λ q. entry_of (machine_of p) (Get q)) Paths))) (of_rows x.tasks (λ r i. in_get r x.tasks i))
        (subst (λ ys. IsPermutation (flat_map F (flat_map spots_of x.tasks)) ys) (sym (flat_mapped f (λ q. entry_of (machine_of p) (Get q)) Paths))
        (members_permute F Paths (flat_map spots_of x.tasks) spots_once (paths_once (suc DEPTH) (count_of (machine_of p) Get)) spots_to spots_from))
