-- A lawful table with main finished has what the reference run has, and no lawful table has more.
use Rattle.std.proofs.Common.{◌≡◌, ◌≤◌, ◌+◌, ℕ, suc, List, [], ◌∷◌, ◌++◌, map, length, Option, Some, None, ◌⊎◌, inl, inr, refl, sym, ap, subst, ◌∙◌, arith, slice_get, length-append}
use Rattle.std.proofs.lemmas.List.{length-map}
use Rattle.std.specs.List.{flat_map}
use Rattle.std.specs.List.Sorted.{IsPermutation}
use Rattle.std.proofs.lemmas.List.Concat.{flat_map_single, flat_map-append}
use Rattle.std.proofs.lemmas.List.Sorted.{length_permutation}
use Rattle.kt_law.specs.declared.limits.TheConstants.{DEPTH}
use Rattle.kt_order.specs.Forest as order
use Rattle.kt_order.specs.Forest.{Task}
use Rattle.kt_order.specs.Laws.{Laws}
use Rattle.kt_order.specs.Sequential.{Entry, Run}
use Rattle.kt_order.specs.Shown.{entry_of}
use Rattle.kt_order.specs.Named.{count_of}
use Rattle.kt_order.proofs.PathDone.{run_is, done_there, tree_settled}
use Rattle.kt_prog.specs.Calls.{CallTree, Index}
use Rattle.kt_prog.specs.Laws.{BodiesKeep, LoopsAreDirect}
use Rattle.kt_prog.specs.Script.{Fault}
use Rattle.kt_prog.specs.Runs.{TaskRun, IndexRun, FaultRun}
use Rattle.kt_prog.specs.Entries.{task_in, index_in, fault_in, tasks_of, indexes_of, faults_of}
use Rattle.kt_prog.specs.Accepted.{IsAccepted}
use Rattle.kt_prog.specs.Outcome.{answered, fault_or_rows}
use Rattle.kt_prog.specs.Reference.{machine_of, main_placed, opened_with, reference}
use Rattle.kt_prog.specs.declared.programs.Program.{Program}
use Rattle.kt_runs.specs.Rights.{rights_in}
use Rattle.kt_runs.specs.Theorems.{whole_at}
use Rattle.kt_runs.proofs.Counts.{no_more}
use Rattle.kt_runs.proofs.PathsListed.{In, in_there}
use Rattle.kt_tables.specs.Tables.{IndexRow, TaskRow, TaskTable, count_indexes, MainIsFinished}
use Rattle.kt_tables.specs.TableLaws.{phase_of, phase_of_stand, as_task, as_index, index_or_fresh, by_path, tasks_by_path, shown, fault_left, shown_fault, shown_index_fault, as_row, as_child, runs_in, index_runs_from, index_runs_in, index_faults_from, faults_at, faults_in, IsLawfulTable, TableGivesReference}
use Rattle.kt_tables.specs.declared.events.Phase.{Phase}
use Rattle.kt_tables.specs.declared.events.Phase.TheVariants as P
use Rattle.kt_tables.specs.declared.events.Stand.{Stand}
use Rattle.kt_tables.specs.declared.events.Stand.TheVariants as S
use Rattle.kt_tables.proofs.TableRows.{the_some}
use Rattle.kt_tables.proofs.TablePermutes.{in_either, in_get, get_in, in_flat, in_flattened}
use Rattle.kt_faults.specs.Laws.{SameFaultsSameAnswer}
use Rattle.kt_tables.proofs.LoopShown.{got_less}
use Rattle.kt_tables.proofs.TableEntries.{lowered, spots_of, child_in, index_entries, row_entries, entries_in, Paths, F, spot_own, spot_child, has_index, spots_to, spots_from, of_rows, permutes}

pub phase_finished : (ph : Phase) → phase_of ph ≡ order.Finished → ph ≡ P.Finished
phase_finished P.Unclaimed e = absurd (cc e)
phase_finished P.Running e = absurd (cc e)
phase_finished P.Looping e = absurd (cc e)
phase_finished P.Ended e = absurd (cc e)
phase_finished P.Finished e = refl

pub stand_finished : (s : Stand) → phase_of_stand s ≡ order.Finished → s ≡ S.Over
stand_finished S.Untaken e = absurd (cc e)
stand_finished S.Taken e = absurd (cc e)
stand_finished S.Over e = refl

module _ (p : Program) where
  abbrev run_of : TaskRow → TaskRun
  run_of r = record { path = r.path; call = r.call; answers = r.answers }

  abbrev task_entry : Entry (machine_of p) → List TaskRun
  task_entry e = task_in e.call.path e.call.job e.answers

  abbrev index_entry : Entry (machine_of p) → List IndexRun
  index_entry e = index_in e.call.path e.call.job e.answers

  abbrev fault_entry : Entry (machine_of p) → List FaultRun
  fault_entry e = fault_in e.call e.fault

  -- the entries of all rows, by those of each
  rows_are : {Y : Type 0} → (f : Entry (machine_of p) → List Y) (g : TaskRow → List Y) (rows : List TaskRow) → ((r : TaskRow) → In r rows → flat_map f (row_entries p r) ≡ g r)
      → flat_map f (entries_in p rows) ≡ flat_map g rows
  rows_are f g [] is = refl
  rows_are f g (r ∷ rows) is =
      flat_map-append f (row_entries p r) (entries_in p rows)
      ∙ (ap (λ ys. ys ++ flat_map f (entries_in p rows)) (is r (inl refl)) ∙ ap (λ ys. g r ++ ys) (rows_are f g rows (λ s i. is s (inr i))))

  no_tasks : (r : TaskRow) (i : ℕ) (rows : List IndexRow) → flat_map task_entry (index_entries p r i rows) ≡ []
  no_tasks r i [] = refl
  no_tasks r i (v ∷ rows) = no_tasks r (suc i) rows

  tasks_in_row : (r : TaskRow) → flat_map task_entry (row_entries p r) ≡ run_of r ∷ []
  tasks_in_row r = ap (λ ys. run_of r ∷ ys) (no_tasks r 0 r.loop.indexes)

  indexes_in_row : (r : TaskRow) (i : ℕ) (rows : List IndexRow) → flat_map index_entry (index_entries p r i rows) ≡ index_runs_from p r.path i rows
  indexes_in_row r i [] = refl
  indexes_in_row r i (v ∷ rows) = ap (λ ys. record { path = r.path; index = i; answers = v.answers } ∷ ys) (indexes_in_row r (suc i) rows)

  faults_from : (r : TaskRow) (rows : List IndexRow) (i : ℕ) → ((k j : ℕ) (v : IndexRow) → i + k ≡ j → slice_get rows k ≡ Some v → v.fault ≡ fault_left p (as_index p r j v))
      → flat_map fault_entry (index_entries p r i rows) ≡ index_faults_from p r.path r.call i rows
  faults_from r [] i is = refl
  faults_from r (v ∷ rows) i is =
      ap (λ (f : Option Fault). fault_in (record { path = r.path; job = Index r.call i }) f ++ flat_map fault_entry (index_entries p r (suc i) rows)) (sym (is 0 i v (omega arith) refl))
      ∙ ap (λ ys. fault_in (record { path = r.path; job = Index r.call i }) v.fault ++ ys) (faults_from r rows (suc i) (λ k j w e got. is (suc k) j w (omega (arith, e)) got))

  -- a fault of a row has the row's path, and its index tells which of them it is
  in_own : (path : List ℕ) (call : CallTree) (f : Option Fault) (g : FaultRun) → In g (fault_in (whole_at path call) f)
      → (w : Fault) × (f ≡ Some w) × (g ≡ record { path = path; index = None; fault = w.law; line = w.line })
  in_own path call None g h = absurd h
  in_own path call (Some w) g (inl e) = (w, refl, e)
  in_own path call (Some w) g (inr h) = absurd h

  in_index : (path : List ℕ) (call : CallTree) (i : ℕ) (f : Option Fault) (g : FaultRun) → In g (fault_in (record { path = path; job = Index call i }) f)
      → (w : Fault) × (f ≡ Some w) × (g ≡ record { path = path; index = Some i; fault = w.law; line = w.line })
  in_index path call i None g h = absurd h
  in_index path call i (Some w) g (inl e) = (w, refl, e)
  in_index path call i (Some w) g (inr h) = absurd h

  -- the fault of an index
  record OfIndex (path : List ℕ) (i : ℕ) (rows : List IndexRow) (g : FaultRun) : Type 0 where
    at : ℕ
    number : ℕ
    is_number : i + at ≡ number
    row : IndexRow
    there : slice_get rows at ≡ Some row
    fault : Fault
    has : row.fault ≡ Some fault
    is : g ≡ record { path = path; index = Some number; fault = fault.law; line = fault.line }

  of_index : (path : List ℕ) (call : CallTree) (rows : List IndexRow) (i : ℕ) (g : FaultRun) → In g (index_faults_from p path call i rows) → OfIndex path i rows g
  of_index path call [] i g h = absurd h
  of_index path call (v ∷ rows) i g h = elim (in_either g (fault_in (record { path = path; job = Index call i }) v.fault) (index_faults_from p path call (suc i) rows) h) [
    | inl one ↦ (let w = in_index path call i v.fault g one in record { at = 0; number = i; is_number = omega arith; row = v; there = refl; fault = w.0; has = w.1; is = w.2 })
    | inr more ↦
        (let o = of_index path call rows (suc i) g more in let n = o.is_number in
        record { at = suc o.at; number = o.number; is_number = omega (arith, n); row = o.row; there = o.there; fault = o.fault; has = o.has; is = o.is })
  ]

  fault_path : (r : TaskRow) (g : FaultRun) → In g (faults_at p r) → g.path ≡ r.path
  fault_path r g h = elim (in_either g (fault_in (whole_at r.path r.call) r.fault) (index_faults_from p r.path r.call 0 r.loop.indexes) h) [
    | inl own ↦ ap (λ (z : FaultRun). z.path) (in_own r.path r.call r.fault g own).2
    | inr one ↦ ap (λ (z : FaultRun). z.path) (of_index r.path r.call r.loop.indexes 0 g one).is
  ]

  same_number : {a b : ℕ} → Some a ≡ Some b → a ≡ b
  same_number e = cc

  fault_alone : (r : TaskRow) (g h : FaultRun) → In g (faults_at p r) → In h (faults_at p r) → g.index ≡ h.index → g ≡ h
  fault_alone r g h i j same =
      by (in_either g (fault_in (whole_at r.path r.call) r.fault) (index_faults_from p r.path r.call 0 r.loop.indexes) i) (in_either h (fault_in (whole_at r.path r.call) r.fault) (index_faults_from p r.path r.call 0 r.loop.indexes) j)
    where
      alike : (a b : Fault) → Some a ≡ Some b → a ≡ b
      alike a b e = cc

      differ : (k : ℕ) → None ≡ Some k → ⊥
      differ k e = cc

      by : In g (fault_in (whole_at r.path r.call) r.fault) ⊎ In g (index_faults_from p r.path r.call 0 r.loop.indexes)
          → In h (fault_in (whole_at r.path r.call) r.fault) ⊎ In h (index_faults_from p r.path r.call 0 r.loop.indexes) → g ≡ h
      by (inl a) (inl b) =
          let v = in_own r.path r.call r.fault g a in
          let w = in_own r.path r.call r.fault h b in
          v.2 ∙ (ap (λ (z : Fault). record { path = r.path; index = None; fault = z.law; line = z.line }) (alike v.0 w.0 (sym v.1 ∙ w.1)) ∙ sym w.2)
      by (inl a) (inr b) =
          let v = in_own r.path r.call r.fault g a in
          let w = of_index r.path r.call r.loop.indexes 0 h b in
          absurd (differ w.number (sym (ap (λ (z : FaultRun). z.index) v.2) ∙ (same ∙ ap (λ (z : FaultRun). z.index) w.is)))
      by (inr a) (inl b) =
          let v = of_index r.path r.call r.loop.indexes 0 g a in
          let w = in_own r.path r.call r.fault h b in
          absurd (differ v.number (sym (ap (λ (z : FaultRun). z.index) w.2) ∙ (sym same ∙ ap (λ (z : FaultRun). z.index) v.is)))
      by (inr a) (inr b) =
          let v = of_index r.path r.call r.loop.indexes 0 g a in
          let w = of_index r.path r.call r.loop.indexes 0 h b in
          let numbers : v.number ≡ w.number = same_number (sym (ap (λ (z : FaultRun). z.index) v.is) ∙ (same ∙ ap (λ (z : FaultRun). z.index) w.is)) in
          let vn = v.is_number in
          let wn = w.is_number in
          let places : v.at ≡ w.at = omega (arith, numbers, vn, wn) in
          let rows : v.row ≡ w.row = the_some (sym v.there ∙ (ap (slice_get r.loop.indexes) places ∙ w.there)) in
          let faults = alike v.fault w.fault (sym v.has ∙ (ap (λ (z : IndexRow). z.fault) rows ∙ w.has)) in
          v.is ∙ (ap (λ (z : Fault). record { path = r.path; index = Some v.number; fault = z.law; line = z.line }) faults
          ∙ (ap (λ (n : ℕ). record { path = r.path; index = Some n; fault = w.fault.law; line = w.fault.line }) numbers ∙ sym w.is))

  -- as many indexes as their runs
  many_indexes : (path : List ℕ) (i : ℕ) (rows : List IndexRow) → length (index_runs_from p path i rows) ≡ length rows
  many_indexes path i [] = refl
  many_indexes path i (v ∷ rows) = ap suc (many_indexes path (suc i) rows)

  all_indexes : (tasks : List TaskRow) → count_indexes tasks ≡ length (index_runs_in p tasks)
  all_indexes [] = refl
  all_indexes (r ∷ tasks) =
      ap (λ (n : ℕ). n + count_indexes tasks) (sym (many_indexes r.path 0 r.loop.indexes))
      ∙ (ap (λ (n : ℕ). length (index_runs_from p r.path 0 r.loop.indexes) + n) (all_indexes tasks)
      ∙ sym (length-append (index_runs_from p r.path 0 r.loop.indexes) (index_runs_in p tasks)))

  module _ (input : List ℕ) (l : Laws (machine_of p) (rights_in p)) (bodies : BodiesKeep) (direct : LoopsAreDirect) (ok : IsAccepted p) (x : TaskTable) (h : IsLawfulTable p input x) where
    abbrev Entries : List (Entry (machine_of p))
    Entries = map (λ q. entry_of (machine_of p) (tasks_by_path p x.tasks q)) (Paths p input l bodies direct ok x h)

    tasks_are : flat_map task_entry (entries_in p x.tasks) ≡ runs_in p x.tasks
    tasks_are = rows_are task_entry (λ r. run_of r ∷ []) x.tasks (λ r i. tasks_in_row r) ∙ flat_map_single run_of x.tasks

    indexes_are : flat_map index_entry (entries_in p x.tasks) ≡ index_runs_in p x.tasks
    indexes_are = rows_are index_entry (λ r. index_runs_from p r.path 0 r.loop.indexes) x.tasks (λ r i. indexes_in_row r 0 r.loop.indexes)

    tasks_permute : IsPermutation (runs_in p x.tasks) (tasks_of p Entries)
    tasks_permute = subst (λ ys. IsPermutation ys (tasks_of p Entries)) tasks_are (permutes p input l bodies direct ok x h task_entry)

    indexes_permute : IsPermutation (index_runs_in p x.tasks) (indexes_of p Entries)
    indexes_permute = subst (λ ys. IsPermutation ys (indexes_of p Entries)) indexes_are (permutes p input l bodies direct ok x h index_entry)

    many_tasks : length x.tasks ≡ length (tasks_of p Entries)
    many_tasks = sym (length-map x.tasks run_of) ∙ sym (length_permutation (runs_in p x.tasks) (tasks_of p Entries) tasks_permute)

    many_index_runs : count_indexes x.tasks ≡ length (indexes_of p Entries)
    many_index_runs = all_indexes x.tasks ∙ sym (length_permutation (index_runs_in p x.tasks) (indexes_of p Entries) indexes_permute)

    pub have_no_more : (length x.tasks ≤ length (tasks_of p (reference p input).entries)) × (count_indexes x.tasks ≤ length (indexes_of p (reference p input).entries))
    have_no_more =
        let less = no_more p input (shown p x) h.rows.lawful in
        let same = tree_settled (machine_of p) (suc DEPTH) (tasks_by_path p x.tasks) (count_of (machine_of p) (tasks_by_path p x.tasks)) in (
          subst (λ (n : ℕ). n ≤ length (tasks_of p (reference p input).entries)) (ap (λ es. length (tasks_of p es)) same ∙ sym many_tasks) less.0,
          subst (λ (n : ℕ). n ≤ length (indexes_of p (reference p input).entries)) (ap (λ es. length (indexes_of p es)) same ∙ sym many_index_runs) less.1,
        )

    module _ (main : MainIsFinished x.tasks) (same : SameFaultsSameAnswer) where
      root_finished : (tasks_by_path p x.tasks []).phase ≡ order.Finished
      root_finished = elim (h.all [] tt) as (λ _. (tasks_by_path p x.tasks []).phase ≡ order.Finished) [
        | as_row t r at is ↦ root t r at is
        | as_child t r home i v at is child index ↦ absurd (no_end home i child)
      ]
        where
          no_end : (home : List ℕ) (i : ℕ) → [] ≡ home ++ i ∷ [] → ⊥
          no_end [] i e = cc
          no_end (k ∷ home) i e = cc

          at_zero : (rows : List TaskRow) (t : ℕ) (r : TaskRow) → slice_get rows t ≡ Some r → (s : TaskRow) × (slice_get rows 0 ≡ Some s)
          at_zero [] t r e = absurd (cc e)
          at_zero (s ∷ rows) t r e = (s, refl)

          root : (t : ℕ) (r : TaskRow) → slice_get x.tasks t ≡ Some r → r.path ≡ [] → (tasks_by_path p x.tasks []).phase ≡ order.Finished
          root t r at is =
              let first = at_zero x.tasks t r at in
              let same = h.rows.once t 0 r first.0 at first.1 (is ∙ sym (h.main first.0 first.1)) in
              let fin = main r (subst (λ (u : ℕ). slice_get x.tasks u ≡ Some r) same at) in
              ap (λ (u : Task (machine_of p)). u.phase) (ap (λ (z : List ℕ). tasks_by_path p x.tasks (lowered z)) (sym is) ∙ spot_own p input l bodies direct ok x h t r at) ∙ ap phase_of fin

      spot_finished : (z : List ℕ) → In z (flat_map spots_of x.tasks) → (tasks_by_path p x.tasks z).phase ≡ order.Finished
      spot_finished z i = done_there (machine_of p) (rights_in p) l (suc DEPTH) main_placed (opened_with p.families input) (by_path p x) h.rows.lawful root_finished z
          (in_there (suc DEPTH) (count_of (machine_of p) (tasks_by_path p x.tasks)) z (spots_to p input l bodies direct ok x h z i))

      row_fault : (t : ℕ) (r : TaskRow) → slice_get x.tasks t ≡ Some r → r.fault ≡ fault_left p (as_task p r)
      row_fault t r at =
          let fin = spot_finished (lowered r.path) (in_flat spots_of r (lowered r.path) x.tasks (get_in r x.tasks t at) (inl refl)) in
          let done = phase_finished r.phase (sym (ap (λ (u : Task (machine_of p)). u.phase) (spot_own p input l bodies direct ok x h t r at)) ∙ fin) in
          h.faults t r at ∙ over r done
        where
          over : (s : TaskRow) → s.phase ≡ P.Finished → shown_fault p s ≡ fault_left p (as_task p s)
          over s e = rw e refl

      index_fault : (t : ℕ) (r : TaskRow) → slice_get x.tasks t ≡ Some r → (i : ℕ) (v : IndexRow) → slice_get r.loop.indexes i ≡ Some v → v.fault ≡ fault_left p (as_index p r i v)
      index_fault t r at i v got =
          let less = got_less p r.loop.indexes i v got in
          let fin = spot_finished (lowered r.path ++ i ∷ []) (in_flat spots_of r (lowered r.path ++ i ∷ []) x.tasks (get_in r x.tasks t at) (inr (child_in (lowered r.path) (length r.loop.indexes) 0 i i (omega arith) less))) in
          let is = spot_child p input l bodies direct ok x h t r at (has_index p input l bodies direct ok x h t r at i less) i ∙ ap (index_or_fresh p r i) got in
          let done = stand_finished v.stand (sym (ap (λ (u : Task (machine_of p)). u.phase) is) ∙ fin) in
          h.index_faults t r at i v got ∙ over v done
        where
          over : (w : IndexRow) → w.stand ≡ S.Over → shown_index_fault p r i w ≡ fault_left p (as_index p r i w)
          over w e = rw e refl

      faults_in_row : (r : TaskRow) → In r x.tasks → flat_map fault_entry (row_entries p r) ≡ faults_at p r
      faults_in_row r i =
          let g = in_get r x.tasks i in
          ap (λ (f : Option Fault). fault_in (whole_at r.path r.call) f ++ flat_map fault_entry (index_entries p r 0 r.loop.indexes)) (sym (row_fault g.0 r g.1))
          ∙ ap (λ ys. fault_in (whole_at r.path r.call) r.fault ++ ys) (faults_from r r.loop.indexes 0 (λ k j v e got.
          (let z : 0 + k ≡ j = e in let same : k ≡ j = omega (arith, z) in subst (λ (n : ℕ). v.fault ≡ fault_left p (as_index p r n v)) same (index_fault g.0 r g.1 k v got))))

      faults_are : flat_map fault_entry (entries_in p x.tasks) ≡ faults_in p x.tasks
      faults_are = rows_are fault_entry (faults_at p) x.tasks faults_in_row

      faults_permute : IsPermutation (faults_in p x.tasks) (faults_of p Entries)
      faults_permute = subst (λ ys. IsPermutation ys (faults_of p Entries)) faults_are (permutes p input l bodies direct ok x h fault_entry)

      -- at most one fault has a path and an index
      one_fault : (f g : FaultRun) → In f (faults_in p x.tasks) → In g (faults_in p x.tasks) → f.path ≡ g.path → f.index ≡ g.index → f ≡ g
      one_fault f g i j path index =
          let a = in_flattened (faults_at p) f x.tasks i in
          let b = in_flattened (faults_at p) g x.tasks j in
          let t = in_get a.0 x.tasks a.1 in
          let u = in_get b.0 x.tasks b.1 in
          let place = h.rows.once t.0 u.0 a.0 b.0 t.1 u.1 (sym (fault_path a.0 f a.2) ∙ (path ∙ fault_path b.0 g b.2)) in
          let row : a.0 ≡ b.0 = the_some (sym t.1 ∙ (ap (slice_get x.tasks) place ∙ u.1)) in
          fault_alone b.0 f g (subst (λ (r : TaskRow). In f (faults_at p r)) row a.2) b.2 index

      -- the faults by spots and by paths
      by_spots : flat_map (F p input l bodies direct ok x h fault_entry) (flat_map spots_of x.tasks) ≡ faults_in p x.tasks
      by_spots = of_rows p input l bodies direct ok x h fault_entry x.tasks (λ r i. in_get r x.tasks i) ∙ faults_are

      by_paths : faults_of p Entries ≡ flat_map (F p input l bodies direct ok x h fault_entry) (Paths p input l bodies direct ok x h)
      by_paths = mapped fault_entry (λ q. entry_of (machine_of p) (tasks_by_path p x.tasks q)) (Paths p input l bodies direct ok x h)
        where
          mapped : {X Y Z : Type 0} → (f : Y → List Z) (g : X → Y) (xs : List X) → flat_map f (map g xs) ≡ flat_map (λ x. f (g x)) xs
          mapped f g [] = refl
          mapped f g (x ∷ xs) = ap (λ l. f (g x) ++ l) (mapped f g xs)

      fault_same : fault_or_rows x.store (faults_in p x.tasks) ≡ fault_or_rows x.store (faults_of p Entries)
      fault_same =
          let G = F p input l bodies direct ok x h fault_entry in
          let paths = Paths p input l bodies direct ok x h in
          same (faults_in p x.tasks) (faults_of p Entries) one_fault (λ f. (
            (λ i. (let a = in_flattened G f (flat_map spots_of x.tasks) (subst (In f) (sym by_spots) i) in subst (In f) (sym by_paths) (in_flat G a.0 f paths (spots_to p input l bodies direct ok x h a.0 a.1) a.2))),
            (λ i. (let a = in_flattened G f paths (subst (In f) by_paths i) in subst (In f) by_spots (in_flat G a.0 f (flat_map spots_of x.tasks) (spots_from p input l bodies direct ok x h a.0 a.1) a.2))),
          )) x.store

      run_entries : reference p input ≡ record { store = x.store; entries = Entries }
      unfolding reference
      run_entries = run_is (machine_of p) (rights_in p) l (suc DEPTH) main_placed (opened_with p.families input) (by_path p x) h.rows.lawful root_finished

      answer_same : (tasks other indexes more : ℕ) (fs gs : List FaultRun) → tasks ≡ other → indexes ≡ more → fault_or_rows x.store fs ≡ fault_or_rows x.store gs
          → answered tasks indexes fs x.store ≡ answered other more gs x.store
      answer_same tasks other indexes more fs gs e g f = rw (e, g, f) refl

      pub gives_reference : TableGivesReference p input x
      gives_reference = record {
        store = sym (ap (λ (r : Run (machine_of p)). r.store) run_entries);
        tasks = subst (λ (r : Run (machine_of p)). IsPermutation (runs_in p x.tasks) (tasks_of p r.entries)) (sym run_entries) tasks_permute;
        indexes = subst (λ (r : Run (machine_of p)). IsPermutation (index_runs_in p x.tasks) (indexes_of p r.entries)) (sym run_entries) indexes_permute;
        faults = subst (λ (r : Run (machine_of p)). IsPermutation (faults_in p x.tasks) (faults_of p r.entries)) (sym run_entries) faults_permute;
        outcome =
            subst (λ (r : Run (machine_of p)). answered (length x.tasks) (count_indexes x.tasks) (faults_in p x.tasks) x.store ≡ answered (length (tasks_of p r.entries)) (length (indexes_of p r.entries)) (faults_of p r.entries) r.store) (sym run_entries)
            (answer_same (length x.tasks) (length (tasks_of p Entries)) (count_indexes x.tasks) (length (indexes_of p Entries)) (faults_in p x.tasks) (faults_of p Entries) many_tasks many_index_runs fault_same);
      }
