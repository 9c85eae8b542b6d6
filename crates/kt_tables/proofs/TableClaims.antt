-- What a refusal that does not come says in the theory.
use Rattle.std.proofs.Common.{◌≡◌, ◌<◌, ◌≤◌, ℕ, zero, suc, Bool, true, false, List, [], ◌∷◌, ◌++◌, length, take, map, Some, None, inl, inr, ◌&&◌, ◌||◌, not, refl, sym, ap, subst, ◌∙◌, arith, slice_get}
use Rattle.kt_law.specs.declared.limits.TheConstants.{DEPTH}
use Rattle.kt_order.specs.Machine.{Machine}
use Rattle.kt_order.specs.Laws.{Laws}
use Rattle.kt_order.specs.Forest as order
use Rattle.kt_order.specs.Forest.{Task, AllTasks}
use Rattle.kt_order.specs.Events.{IsFinished, AllFinished, MayPass}
use Rattle.kt_order.specs.Paths.{shift, HasRoom, Known, children_at, Earlier}
use Rattle.kt_order.specs.Named.{count_of}
use Rattle.kt_order.proofs.PathThere.{there_child, child_there, earlier_by, below_by}
use Rattle.kt_prog.specs.Fits.{Fits}
use Rattle.kt_prog.specs.Operations.{is_loop_at}
use Rattle.kt_prog.specs.Reference.{machine_of}
use Rattle.kt_prog.specs.declared.programs.Program.{Program}
use Rattle.kt_runs.specs.Clash.{calls_clash}
use Rattle.kt_runs.specs.Rights.{rights_in}
use Rattle.kt_tables.specs.Tables.{IndexRow, LoopPart, TaskRow, TaskTable, is_root, is_child, are_siblings, is_finished, is_open, open_before, clash_before, open_child}
use Rattle.kt_tables.specs.TableEvents.{is_looping}
use Rattle.kt_tables.specs.TableLaws.{phase_of, has_begun, as_task, tasks_by_path, Leads, Stands, as_row, as_child, IsLawfulTable}
use Rattle.kt_tables.specs.declared.events.Phase.{Phase}
use Rattle.kt_tables.specs.declared.events.Phase.TheVariants as P
use Rattle.kt_runs.proofs.Clashes.{apart_is_no_clash}
use Rattle.kt_tables.proofs.TableRows.{the_some, both_true, second_false, first_none, get_take, snoc_view, snoc_same, map_snoc, siblings_snoc, child_snoc}
use Rattle.kt_tables.proofs.TablePaths.{get_row, row_ok}

closed : (ph : Phase) → not (is_finished ph) ≡ false → phase_of ph ≡ order.Finished
closed P.Unclaimed e = cc
closed P.Running e = cc
closed P.Looping e = cc
closed P.Ended e = cc
closed P.Finished e = refl

not_root : (z : List ℕ) → is_root z ≡ false → 1 ≤ length z
not_root [] e = cc
not_root (k ∷ z) e = omega arith

not_false : (b : Bool) → not b ≡ true → b ≡ false
not_false true e = cc
not_false false e = refl

-- siblings lie below the root
below_root : (a b : List ℕ) → are_siblings a b ≡ true → (1 ≤ length a) × (1 ≤ length b)
below_root a b e =
    let one = both_true (not (is_root a)) _ e in
    let two = both_true (not (is_root b)) _ one.1 in
    (not_root a (not_false (is_root a) one.0), not_root b (not_false (is_root b) two.0))

-- where there's no room below, there are no children
below_where : (m : Machine) (P : Task m → Type 0) (depth : ℕ) (q : List ℕ) (get : Known m) (count : List ℕ → ℕ)
    → (HasRoom depth q → (k : ℕ) → k < count q → P (get (q ++ k ∷ []))) → AllTasks m P (children_at m depth q get count)
below_where m P zero [] get count h = tt
below_where m P (suc depth) [] get count h = below_by m P (suc depth) [] get count (h tt)
below_where m P zero (k ∷ q) get count h = tt
below_where m P (suc depth) (k ∷ q) get count h = below_where m P depth q (shift k get) (shift k count) h

module _ (p : Program) (input : List ℕ) (l : Laws (machine_of p) (rights_in p)) (x : TaskTable) (h : IsLawfulTable p input x) where
  abbrev Get : Known (machine_of p)
  Get = tasks_by_path p x.tasks

  -- a path below one that is no loop's has a row of its own
  row_below : (home : List ℕ) (k : ℕ) → Stands p x.tasks (home ++ k ∷ [])
      → ((u : ℕ) (s : TaskRow) → slice_get x.tasks u ≡ Some s → s.path ≡ map suc home → has_begun p s ≡ true → ⊥)
      → (t : ℕ) × (r : TaskRow) × (slice_get x.tasks t ≡ Some r) × (r.path ≡ map suc (home ++ k ∷ []))
  row_below home k (as_row t r at e) none = (t, r, at, e)
  row_below home k (as_child u s over i v at e child index) none =
      let same = snoc_same home over k i child in
      absurd (none u s at (e ∙ ap (map suc) (sym same.0)) (has_index u s at i v index))
    where
      has_index : (u : ℕ) (s : TaskRow) → slice_get x.tasks u ≡ Some s → (i : ℕ) (v : IndexRow) → slice_get s.loop.indexes i ≡ Some v → has_begun p s ≡ true
      has_index u s at i v index = by (has_begun p s) refl
        where
          nothing : None ≡ Some v → ⊥
          nothing e = cc

          by : (b : Bool) → has_begun p s ≡ b → b ≡ true
          by true e = refl
          by false e = absurd (nothing (sym (ap (λ (k : LoopPart). slice_get k.indexes i) ((h.rows.loops u s at).other e)) ∙ index))

  -- what holds of each earlier row of the frame holds of each earlier task
  earlier : (R : Task (machine_of p) → Task (machine_of p) → Type 0) (t : ℕ) (r : TaskRow) → slice_get x.tasks t ≡ Some r
      → (q : List ℕ) → r.path ≡ map suc q → Leads p x.tasks q
      → ((u : ℕ) (s : TaskRow) → slice_get x.tasks u ≡ Some s → u < t → are_siblings s.path r.path ≡ true → R (as_task p s) (as_task p r))
      → Earlier (machine_of p) R q Get
  earlier R t r at q e there f = elim (snoc_view q) [
    | inl none ↦ subst (λ (z : List ℕ). Earlier (machine_of p) R z Get) (sym none) tt
    | inr v ↦ subst (λ (z : List ℕ). Earlier (machine_of p) R z Get) (sym v.2) (earlier_by (machine_of p) R v.0 v.1 Get (one v.0 v.1 v.2))
  ]
    where
      one : (z : List ℕ) (k : ℕ) → q ≡ z ++ k ∷ [] → (i : ℕ) → i < k → R (Get (z ++ i ∷ [])) (Get (z ++ k ∷ []))
      one z k is i less =
          let count = count_of (machine_of p) Get in
          let a = there_child (suc DEPTH) count z k (subst (λ (y : List ℕ). Leads p x.tasks y) is there) in
          let low = a.1 in
          let whole : r.path ≡ map suc (z ++ k ∷ []) = e ∙ ap (map suc) is in
          let second : r.path ≡ map suc z ++ suc k ∷ [] = whole ∙ map_snoc z k in
          let w = row_below z i (h.all (z ++ i ∷ []) (child_there (suc DEPTH) count z i a.0 (omega arith) a.2)) (λ u s got at_z begun.
          (let below : is_child s.path r.path ≡ true = ap (is_child s.path) (second ∙ ap (λ (y : List ℕ). y ++ suc k ∷ []) (sym at_z)) ∙ child_snoc s.path (suc k) in
          absurd (cc (below, h.rows.childless u s got (both_true (is_looping s.phase || is_finished s.phase) (is_loop_at p s.call.task) begun).1 t r at)))) in
          let first : w.1.path ≡ map suc z ++ suc i ∷ [] = w.3 ∙ map_snoc z i in
          let before = h.order w.0 t w.1 r w.2 at (map suc z) (suc i) (suc k) first second (omega arith) in
          let siblings : are_siblings w.1.path r.path ≡ true = ap (λ (y : List ℕ). are_siblings y r.path) first ∙ (ap (are_siblings (map suc z ++ suc i ∷ [])) second ∙ siblings_snoc (map suc z) (suc i) (suc k)) in
          let R-there = f w.0 w.1 w.2 before siblings in
          subst (λ (v : Task (machine_of p)). R (Get (z ++ i ∷ [])) v) (sym (get_row p input l x h.rows t r at (z ++ k ∷ []) whole))
          (subst (λ (u : Task (machine_of p)). R u (as_task p r)) (sym (get_row p input l x h.rows w.0 w.1 w.2 (z ++ i ∷ []) w.3)) R-there)

  pub in_order : (t : ℕ) (r : TaskRow) → slice_get x.tasks t ≡ Some r → (q : List ℕ) → r.path ≡ map suc q → Leads p x.tasks q
      → open_before t r x.tasks ≡ None → Earlier (machine_of p) (MayPass (machine_of p) (rights_in p)) q Get
  in_order t r at q e there none = earlier (MayPass (machine_of p) (rights_in p)) t r at q e there (λ u s ats less siblings.
      inl (closed s.phase (second_false (are_siblings s.path r.path) (is_open s) siblings
      (first_none 0 (λ (v : TaskRow). are_siblings v.path r.path && is_open v) (take t x.tasks) none u s (get_take x.tasks t u less ∙ ats)))))

  -- in order the earlier tasks are finished
  pub all_before : (t : ℕ) (r : TaskRow) → slice_get x.tasks t ≡ Some r → (q : List ℕ) → r.path ≡ map suc q → Leads p x.tasks q
      → open_before t r x.tasks ≡ None → Earlier (machine_of p) (λ a b. IsFinished (machine_of p) a) q Get
  all_before t r at q e there none = earlier (λ a b. IsFinished (machine_of p) a) t r at q e there (λ u s ats less siblings.
      closed s.phase (second_false (are_siblings s.path r.path) (is_open s) siblings
      (first_none 0 (λ (v : TaskRow). are_siblings v.path r.path && is_open v) (take t x.tasks) none u s (get_take x.tasks t u less ∙ ats))))

  fits_of : (t : ℕ) (r : TaskRow) → slice_get x.tasks t ≡ Some r → Fits p r.call
  fits_of t r at = row_ok p input l x h.rows (Fits p r.call) t r at (λ kids ok. ok.fits)

  pub when_ready : (t : ℕ) (r : TaskRow) → slice_get x.tasks t ≡ Some r → (q : List ℕ) → r.path ≡ map suc q → Leads p x.tasks q
      → clash_before t r x.tasks ≡ None → Earlier (machine_of p) (MayPass (machine_of p) (rights_in p)) q Get
  when_ready t r at q e there none = earlier (MayPass (machine_of p) (rights_in p)) t r at q e there (λ u s ats less siblings.
      by_open u s ats siblings (is_open s) refl
      (second_false (are_siblings s.path r.path) (is_open s && calls_clash s.call r.call) siblings
      (first_none 0 (λ (v : TaskRow). are_siblings v.path r.path && (is_open v && calls_clash v.call r.call)) (take t x.tasks) none u s (get_take x.tasks t u less ∙ ats))))
    where
      by_open : (u : ℕ) (s : TaskRow) → slice_get x.tasks u ≡ Some s → are_siblings s.path r.path ≡ true
          → (b : Bool) → is_open s ≡ b → b && calls_clash s.call r.call ≡ false → MayPass (machine_of p) (rights_in p) (as_task p s) (as_task p r)
      by_open u s ats siblings false is c = inl (closed s.phase is)
      by_open u s ats siblings true is c =
          let low = below_root s.path r.path siblings in
          let a = low.0 in
          let b = low.1 in
          inr ((apart_is_no_clash p s.path r.path s.call r.call (fits_of u s ats) (fits_of t r at) (omega (arith, h.rows.deep u s ats)) (omega (arith, h.rows.deep t r at))).1 c)

  pub all_children : (t : ℕ) (r : TaskRow) → slice_get x.tasks t ≡ Some r → (q : List ℕ) → r.path ≡ map suc q → Leads p x.tasks q
      → has_begun p r ≡ false → open_child r x.tasks ≡ None → AllFinished (machine_of p) (children_at (machine_of p) (suc DEPTH) q Get (count_of (machine_of p) Get))
  all_children t r at q e there plain none = below_where (machine_of p) (IsFinished (machine_of p)) (suc DEPTH) q Get (count_of (machine_of p) Get) (λ room k less.
      let w = row_below q k (h.all (q ++ k ∷ []) (child_there (suc DEPTH) (count_of (machine_of p) Get) q k there less room)) (λ u s got at_q begun.
      (let place = h.rows.once u t s r got at (at_q ∙ sym e) in
      let row : s ≡ r = the_some (sym got ∙ (ap (slice_get x.tasks) place ∙ at)) in
      absurd (cc (begun, ap (has_begun p) row ∙ plain)))) in
      let is : w.1.path ≡ r.path ++ suc k ∷ [] = w.3 ∙ (map_snoc q k ∙ ap (λ (z : List ℕ). z ++ suc k ∷ []) (sym e)) in
      let child : is_child r.path w.1.path ≡ true = ap (is_child r.path) is ∙ child_snoc r.path (suc k) in
      subst (IsFinished (machine_of p)) (sym (get_row p input l x h.rows w.0 w.1 w.2 (q ++ k ∷ []) w.3))
      (closed w.1.phase (second_false (is_child r.path w.1.path) (is_open w.1) child
      (first_none 0 (λ (v : TaskRow). is_child r.path v.path && is_open v) x.tasks none w.0 w.1 w.2))))
