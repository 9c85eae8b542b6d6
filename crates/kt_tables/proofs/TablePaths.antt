-- What a table shows by paths, and what each of its rows is in the theory.
use Rattle.std.proofs.Common.{◌≡◌, ◌≢◌, ℕ, suc, Bool, true, false, cond, List, [], ◌∷◌, ◌++◌, map, Option, Some, None, refl, sym, ap, subst, ◌∙◌, slice_get, slice_set}
use mathlib.Core.Path.{fun_ext}
use Rattle.kt_law.specs.declared.limits.TheConstants.{DEPTH}
use Rattle.kt_order.specs.Laws.{Laws}
use Rattle.kt_order.specs.Forest.{Task, Forest}
use Rattle.kt_order.specs.Lawful.{TaskOk}
use Rattle.kt_order.specs.Paths.{same_path, set_at}
use Rattle.kt_order.proofs.Squares.{same_is}
use Rattle.kt_order.proofs.ByPaths.{at_path}
use Rattle.kt_prog.specs.Calls.{CallTree}
use Rattle.kt_prog.specs.Reference.{machine_of, main_placed, opened_with}
use Rattle.kt_prog.specs.declared.programs.Program.{Program}
use Rattle.kt_runs.specs.Rights.{rights_in}
use Rattle.kt_tables.specs.Tables.{LoopPart, TaskRow, TaskTable, no_loop, parent_of}
use Rattle.kt_tables.specs.TableLaws.{row_at, last_of, as_task, index_or_fresh, index_of_row, child_or_fresh, task_or_child, tasks_by_path, by_path, ShowsLawful}
use Rattle.kt_tables.proofs.TableRows.{same_self, not_same, mapped_is, Once, row_found, row_set, row_front, row_last}

module _ (p : Program) where
  pub get_is : (rows : List TaskRow) → Once rows → (t : ℕ) (r : TaskRow) → slice_get rows t ≡ Some r → (q : List ℕ) → r.path ≡ map suc q
      → tasks_by_path p rows q ≡ as_task p r
  get_is rows once t r at q e = ap (task_or_child p rows q) (ap (row_at rows) (sym e) ∙ row_found rows once t r at)

  -- with the same place, call and indexes a row shows the same indexes
  same_index : (r r' : TaskRow) → r'.path ≡ r.path → r'.call ≡ r.call → r'.loop ≡ r.loop → (i : ℕ) → index_of_row p r' i ≡ index_of_row p r i
  same_index r r' path call loop i =
      ap (λ (k : LoopPart). index_or_fresh p r' i (slice_get k.indexes i)) loop
      ∙ (ap (λ (z : List ℕ). index_or_fresh p (record { path = z; call = r'.call; phase = r'.phase; answers = r'.answers; done = r'.done; fault = r'.fault; loop = r'.loop }) i (slice_get r.loop.indexes i)) path
      ∙ ap (λ (c : CallTree). index_or_fresh p (record { path = r.path; call = c; phase = r'.phase; answers = r'.answers; done = r'.done; fault = r'.fault; loop = r'.loop }) i (slice_get r.loop.indexes i)) call)

  -- one row is changed, and keeps its place, its call and its indexes
  pub set_is : (rows : List TaskRow) → Once rows → (t : ℕ) (r r' : TaskRow) → slice_get rows t ≡ Some r → r'.path ≡ r.path → r'.call ≡ r.call → r'.loop ≡ r.loop
      → (q : List ℕ) → r.path ≡ map suc q → tasks_by_path p (slice_set rows t r') ≡ set_at q (as_task p r') (tasks_by_path p rows)
  set_is rows once t r r' at path call loop q e = fun_ext (λ (z : List ℕ). by z (same_path z q) refl)
    where
      found : (z : List ℕ) → z ≡ q → row_at (slice_set rows t r') (map suc z) ≡ Some r'
      found z same = row_set rows once t r r' at path (map suc z) ∙ ap (λ (b : Bool). cond b (Some r') (row_at rows (map suc z))) (subst (λ (l : List ℕ). same_path r.path l ≡ true) (e ∙ ap (map suc) (sym same)) (same_self r.path))

      was : (z : List ℕ) → z ≡ q → row_at rows (map suc z) ≡ Some r
      was z same = subst (λ (l : List ℕ). row_at rows l ≡ Some r) (e ∙ ap (map suc) (sym same)) (row_found rows once t r at)

      other : (z : List ℕ) → z ≢ q → row_at (slice_set rows t r') (map suc z) ≡ row_at rows (map suc z)
      other z ne = row_set rows once t r r' at path (map suc z) ∙ ap (λ (b : Bool). cond b (Some r') (row_at rows (map suc z))) (not_same r.path (map suc z) (λ same. ne (sym (mapped_is q z (sym e ∙ same)))))

      child : (z : List ℕ) (b : Bool) → same_path (parent_of z) q ≡ b
          → child_or_fresh p (last_of z) (row_at (slice_set rows t r') (map suc (parent_of z))) ≡ child_or_fresh p (last_of z) (row_at rows (map suc (parent_of z)))
      child z true same =
          let is = same_is (parent_of z) q same in
          ap (child_or_fresh p (last_of z)) (found (parent_of z) is) ∙ (same_index r r' path call loop (last_of z) ∙ ap (child_or_fresh p (last_of z)) (sym (was (parent_of z) is)))
      child z false differ = ap (child_or_fresh p (last_of z)) (other (parent_of z) (λ same. absurd (cc (differ, ap (λ (y : List ℕ). same_path y q) same ∙ same_self q))))

      elsewhere : (z : List ℕ) (o : Option TaskRow) → task_or_child p (slice_set rows t r') z o ≡ task_or_child p rows z o
      elsewhere z None = child z (same_path (parent_of z) q) refl
      elsewhere z (Some s) = refl

      by : (z : List ℕ) (b : Bool) → same_path z q ≡ b → tasks_by_path p (slice_set rows t r') z ≡ cond b (as_task p r') (tasks_by_path p rows z)
      by z true same = ap (task_or_child p (slice_set rows t r') z) (found z (same_is z q same))
      by z false differ =
          ap (task_or_child p (slice_set rows t r') z) (other z (λ same. absurd (cc (differ, ap (λ (y : List ℕ). same_path y q) same ∙ same_self q))))
          ∙ elsewhere z (row_at rows (map suc z))

  -- one row comes in addition
  pub add_is : (rows : List TaskRow) (y : TaskRow) (q : List ℕ) → y.path ≡ map suc q → y.loop ≡ no_loop → row_at rows y.path ≡ None
      → tasks_by_path p (rows ++ y ∷ []) ≡ set_at q (as_task p y) (tasks_by_path p rows)
  add_is rows y q e bare free = fun_ext (λ (z : List ℕ). by z (same_path z q) refl)
    where
      test : (z : List ℕ) → z ≡ q → same_path y.path (map suc z) ≡ true
      test z same = subst (λ (l : List ℕ). same_path y.path l ≡ true) (e ∙ ap (map suc) (sym same)) (same_self y.path)

      none_at : (z : List ℕ) → z ≡ q → row_at rows (map suc z) ≡ None
      none_at z same = subst (λ (l : List ℕ). row_at rows l ≡ None) (e ∙ ap (map suc) (sym same)) free

      found : (z : List ℕ) → z ≡ q → row_at (rows ++ y ∷ []) (map suc z) ≡ Some y
      found z same = row_last rows y (map suc z) (test z same) (none_at z same)

      other : (z : List ℕ) → z ≢ q → row_at (rows ++ y ∷ []) (map suc z) ≡ row_at rows (map suc z)
      other z ne = row_front rows y (map suc z) (not_same y.path (map suc z) (λ same. ne (sym (mapped_is q z (sym e ∙ same)))))

      child : (z : List ℕ) (b : Bool) → same_path (parent_of z) q ≡ b
          → child_or_fresh p (last_of z) (row_at (rows ++ y ∷ []) (map suc (parent_of z))) ≡ child_or_fresh p (last_of z) (row_at rows (map suc (parent_of z)))
      child z true same =
          let is = same_is (parent_of z) q same in
          ap (child_or_fresh p (last_of z)) (found (parent_of z) is)
          ∙ (ap (λ (k : LoopPart). index_or_fresh p y (last_of z) (slice_get k.indexes (last_of z))) bare
          ∙ ap (child_or_fresh p (last_of z)) (sym (none_at (parent_of z) is)))
      child z false differ = ap (child_or_fresh p (last_of z)) (other (parent_of z) (λ same. absurd (cc (differ, ap (λ (w : List ℕ). same_path w q) same ∙ same_self q))))

      elsewhere : (z : List ℕ) (o : Option TaskRow) → task_or_child p (rows ++ y ∷ []) z o ≡ task_or_child p rows z o
      elsewhere z None = child z (same_path (parent_of z) q) refl
      elsewhere z (Some s) = refl

      by : (z : List ℕ) (b : Bool) → same_path z q ≡ b → tasks_by_path p (rows ++ y ∷ []) z ≡ cond b (as_task p y) (tasks_by_path p rows z)
      by z true same = ap (task_or_child p (rows ++ y ∷ []) z) (found z (same_is z q same))
      by z false differ =
          ap (task_or_child p (rows ++ y ∷ []) z) (other z (λ same. absurd (cc (differ, ap (λ (w : List ℕ). same_path w q) same ∙ same_self q))))
          ∙ elsewhere z (row_at rows (map suc z))

  module _ (input : List ℕ) (l : Laws (machine_of p) (rights_in p)) (x : TaskTable) (h : ShowsLawful p input x) where
    abbrev pub Get : List ℕ → Task (machine_of p)
    Get = tasks_by_path p x.tasks

    pub get_row : (t : ℕ) (r : TaskRow) → slice_get x.tasks t ≡ Some r → (q : List ℕ) → r.path ≡ map suc q → Get q ≡ as_task p r
    get_row t r at q e = get_is x.tasks h.once t r at q e

    -- the law of the task of a row
    pub row_ok : (X : Type 0) (t : ℕ) (r : TaskRow) → slice_get x.tasks t ≡ Some r
        → ((kids : Forest (machine_of p)) → TaskOk (machine_of p) (rights_in p) (as_task p r) kids → X) → X
    row_ok X t r at f =
        let w = h.there t r at in
        at_path (machine_of p) (suc DEPTH) (rights_in p) l main_placed (opened_with p.families input) X w.0 (by_path p x) w.2 h.lawful
        (λ kids ok. f kids (subst (λ (u : Task (machine_of p)). TaskOk (machine_of p) (rights_in p) u kids) (get_row t r at w.0 w.1) ok))
