-- Where the last words and the joined view are the reference run, what was done is what that run does.
use Rattle.std.proofs.Common.{◌≡◌, ℕ, suc, ◌*◌, ◌<◌, ◌≤◌, ◌⊎◌, ◌||◌, Bool, true, false, List, [], ◌∷◌, ◌++◌, map, length, refl, sym, ap, ◌∙◌, subst, inl, inr, arith, nat_lt, if◌then◌else◌}
use Rattle.std.specs.List.{flat_map}
use Rattle.std.specs.List.Sorted.{IsPermutation}
use Rattle.std.proofs.lemmas.Bool.Decides.{nat_tests}
use Rattle.std.proofs.lemmas.List.{map-append}
use Rattle.kt_law.specs.declared.limits.TheConstants.{TASKS, INDEXES}
use Rattle.kt_order.specs.Machine.{Machine}
use Rattle.kt_order.specs.Sequential.{Run, Entry}
use Rattle.kt_prog.specs.Calls.{CallTree, Job, Whole, Index}
use Rattle.kt_prog.specs.Entries.{fault_in, tasks_of, indexes_of, faults_of}
use Rattle.kt_prog.specs.Outcome.{answered, fault_or_rows}
use Rattle.kt_prog.specs.Reference.{Placed, machine_of, main_placed, opened_with, reference}
use Rattle.kt_prog.specs.Runs.{FaultRun}
use Rattle.kt_prog.specs.declared.runs.Outcome.TheVariants as O
use Rattle.kt_runs.specs.ByPath.{Path, child}
use Rattle.kt_rule.specs.declared.views.Setup.{Setup}
use Rattle.kt_rule.specs.declared.views.Execution.{Execution}
use Rattle.kt_rule.specs.declared.views.IndexRun.{IndexRun}
use Rattle.kt_rule.specs.declared.views.View.{View}
use Rattle.kt_rule.specs.Lists.{times, In, here}
use Rattle.kt_rule.specs.Paths.{parent_of, number_of}
use Rattle.kt_rule.specs.Views.{path_of, executions}
use Rattle.kt_rule.specs.Weights.{one_if_whole, one_if_index, is_task, is_index}
use Rattle.kt_rule.specs.Close.{the_run, run_entry, index_entry, IsRun}
use Rattle.kt_rule.proofs.Cores.{last_of}
use Rattle.kt_rule.proofs.Puts.{parent_is, number_is}
use Rattle.kt_rule.proofs.Sums.{times_append}
use Rattle.kt_pool.specs.declared.closing.Closed.{Closed}
use Rattle.kt_pool.specs.Exact.{reference_of, ran_in, name_of, done_entries, TasksOnce, IndexesOnce}
use Rattle.kt_pool.specs.Closing.{IsReferenceRun}
use Rattle.kt_pool.proofs.Named.{kind, both_kinds, zero_by, one_by, index_path, index_path_times, no_root_index, index_member, first_is, task_paths, index_pairs, task_times, tasks_named, pairs_times, indexes_named}
use Rattle.kt_pool.proofs.Paths.{permutes_map, flat_self, in_times, times_in, map_same, map_map}

pub run_is_reference : (j : Setup) → the_run j ≡ reference_of j
unfolding reference
run_is_reference j = refl

-- THE ANSWER

pub answered_many : (n m : ℕ) (faults : List FaultRun) (store : List ℕ) → (TASKS < n) ⊎ (INDEXES < m)
    → answered n m faults store ≡ record { outcome = O.Limit; tasks = 0; indexes = 0 }
answered_many n m faults store more =
    ap (λ (b : Bool). if b then record { outcome = O.Limit; tasks = 0; indexes = 0 }
    else record { outcome = fault_or_rows store faults; tasks = n; indexes = m }) (test more)
  where
    test : (TASKS < n) ⊎ (INDEXES < m) → (nat_lt TASKS n || nat_lt INDEXES m) ≡ true
    test (inl h) = grind (arith, nat_tests)
    test (inr h) = grind (arith, nat_tests)

answered_few : (n m : ℕ) (faults : List FaultRun) (store : List ℕ) → n ≤ TASKS → m ≤ INDEXES
    → answered n m faults store ≡ record { outcome = fault_or_rows store faults; tasks = n; indexes = m }
answered_few n m faults store few few_indexes =
    let test : (nat_lt TASKS n || nat_lt INDEXES m) ≡ false = grind (arith, nat_tests) in
    ap (λ (b : Bool). if b then record { outcome = O.Limit; tasks = 0; indexes = 0 }
    else record { outcome = fault_or_rows store faults; tasks = n; indexes = m }) test

-- WHAT WAS DONE

whole_is_one : (job : Job) → (call : CallTree) → job ≡ Whole call → one_if_whole job ≡ 1
whole_is_one job call e = ap one_if_whole e

index_parts : (a b : CallTree) (i k : ℕ) → Index a i ≡ Index b k → i ≡ k
index_parts a b i k e = cc e

module _ (j : Setup) (rows : List ℕ) (v : View) (r : IsRun j rows v)
    (quiet : (v.tasks.running ≡ []) × (v.tasks.halted ≡ []) × (v.loops.taken ≡ [])) where
  abbrev machine : Machine
  machine = machine_of j.program

  all_ran : executions v ≡ v.tasks.ran
  all_ran = λ i. quiet.0 i ++ (quiet.1 i ++ v.tasks.ran)

  each_ran : (e : Execution) → In e v.tasks.ran → r.entry e.spot.path ≡ run_entry j e
  each_ran e i = r.each e (subst (In e) (sym all_ran) i)

  ran_times : (p : Path) → ran_in v p ≡ is_task (r.entry p).call * times p r.paths
  ran_times p =
      let a = r.begun p in let b : times p (map path_of v.tasks.running) ≡ 0 = ap (λ (es : List Execution). times p (map path_of es)) quiet.0 in
      let c : times p (map path_of v.tasks.halted) ≡ 0 = ap (λ (es : List Execution). times p (map path_of es)) quiet.1 in omega arith

  -- the entry of a path of a task is that of what ran there
  found : (p : Path) → In p r.paths → is_task (r.entry p).call ≡ 1 → (e : Execution) × In e v.tasks.ran × (path_of e ≡ p)
  found p i task = let a = in_times p r.paths i in let b = ran_times p in let c = one_by (is_task (r.entry p).call) (times p r.paths) task in
      times_in path_of p v.tasks.ran (omega arith)

  path_is : (p : Path) → In p r.paths → is_task (r.entry p).call ≡ 1 → (r.entry p).call.path ≡ map suc p
  path_is p i task = let h = found p i task in
      ap (λ (q : Path). (r.entry q).call.path) (sym h.2) ∙ (ap (λ (x : Entry machine). x.call.path) (each_ran h.0 h.1) ∙ ap (map suc) h.2)

  -- main is a task
  root_task : is_task (r.entry []).call ≡ 1
  root_task = go r.paths refl
    where
      head : (e : Entry machine) × (es : List (Entry machine)) × ((the_run j).entries ≡ e ∷ es) × (e.call ≡ main_placed)
      head = first_is machine (machine.height main_placed) main_placed (opened_with j.program.families j.input)

      heads : {A : Type 0} → {x y : A} → {xs ys : List A} → x ∷ xs ≡ y ∷ ys → x ≡ y
      heads e = cc e

      no_path : (q : Path) → map suc q ≡ [] → q ≡ []
      no_path [] e = refl
      no_path (x ∷ q) e = absurd (cc e)

      go : (qs : List Path) → r.paths ≡ qs → is_task (r.entry []).call ≡ 1
      go [] is =
          let none : head.0 ∷ head.1 ≡ [] = sym head.2 ∙ (r.entries ∙ ap (map r.entry) is) in absurd (cc none)
      go (q ∷ qs) is =
          let all : head.0 ∷ head.1 ≡ r.entry q ∷ map r.entry qs = sym head.2 ∙ (r.entries ∙ ap (map r.entry) is) in
          let call : (r.entry q).call ≡ main_placed = ap (λ (x : Entry machine). x.call) (sym (heads all)) ∙ head.3 in
          let task : is_task (r.entry q).call ≡ 1 = ap is_task call in
          let path = path_is q (subst (In q) (sym is) here) task in
          let root = no_path q (sym path ∙ ap (λ (c : Placed). c.path) call) in
          ap (λ (z : Path). is_task (r.entry z).call) (sym root) ∙ task

  -- an index stands below its loop
  child_is : (q : Path) → is_index (r.entry q).call ≡ 1 → (p : Path) × (i : ℕ) × (q ≡ child p i)
  child_is q index = elim (last_of q) [
    | inl e ↦ (let a = root_task in let b = ap (λ (z : Path). is_index (r.entry z).call) (sym e) ∙ index in elim (kind (r.entry []).call) [
      | inl h ↦ absurd (let c = h.1 in omega arith)
      | inr h ↦ absurd (let c = h.0 in omega arith)
    ])
    | inr h ↦ h
  ]

  -- its entry is that of what was retired there
  found_index : (p : Path) (i : ℕ) → In (child p i) r.paths → is_index (r.entry (child p i)).call ≡ 1
      → (e : IndexRun) × In e v.loops.retired × (e.spot.path ≡ p) × (e.index ≡ i)
  found_index p i m index = let a = in_times (child p i) r.paths m in let b = r.retired p i in
      let c = one_by (is_index (r.entry (child p i)).call) (times (child p i) r.paths) index in
      index_member p i v.loops.retired (omega arith)

  index_entry_is : (p : Path) (i : ℕ) → In (child p i) r.paths → is_index (r.entry (child p i)).call ≡ 1
      → (e : IndexRun) × (e.spot.path ≡ p) × (e.index ≡ i) × (r.entry (child p i) ≡ index_entry j e)
  index_entry_is p i m index = let h = found_index p i m index in
      (h.0, h.2, h.3, (λ k. r.entry (child (sym h.2 k) (sym h.3 k))) ∙ r.each_index h.0 h.1)

  index_says : (q : Path) → In q r.paths → (call : CallTree) (i : ℕ) → (r.entry q).call.job ≡ Index call i
      → ((r.entry q).call.path ≡ map suc (parent_of q)) × (i ≡ number_of q)
  index_says q m call i job =
      let index : is_index (r.entry q).call ≡ 1 = ap one_if_index job in
      let c = child_is q index in
      let h = index_entry_is c.0 c.1 (subst (λ (z : Path). In z r.paths) c.2 m) (ap (λ (z : Path). is_index (r.entry z).call) (sym c.2) ∙ index) in
      let entry : r.entry q ≡ index_entry j h.0 = ap r.entry c.2 ∙ h.3 in (
        ap (λ (x : Entry machine). x.call.path) entry ∙ ap (map suc) (h.1 ∙ (sym (parent_is c.0 c.1) ∙ ap parent_of (sym c.2))),
        index_parts call h.0.spot.berth.call i h.0.index (sym job ∙ ap (λ (x : Entry machine). x.call.job) entry)
            ∙ (h.2 ∙ (sym (number_is c.0 c.1) ∙ ap number_of (sym c.2))),
      )

  entries_are : (reference_of j).entries ≡ map r.entry r.paths
  entries_are = ap (λ (x : Run machine). x.entries) (sym (run_is_reference j)) ∙ r.entries

  tasks_once : TasksOnce j v
  tasks_once = record {
    paths = task_paths j r.entry r.paths;
    named = ap (λ (es : List (Entry machine)). map (λ t. t.path) (tasks_of j.program es)) entries_are ∙ tasks_named j r.entry r.paths path_is;
    once = λ p. let a = task_times j r.entry p r.paths in let b = both_kinds (r.entry p).call (times p r.paths) in let c = r.once p in omega arith;
    claimed = λ p. r.claimed p ∙ sym (task_times j r.entry p r.paths);
    ran = λ p. ran_times p ∙ sym (task_times j r.entry p r.paths);
  }

  indexes_once : IndexesOnce j v
  indexes_once = record {
    pairs = index_pairs j r.entry r.paths;
    named = ap (λ (es : List (Entry machine)). map name_of (indexes_of j.program es)) entries_are
        ∙ indexes_named j r.entry r.paths index_says;
    once = λ p i. let a = pairs_times j r.entry p i r.paths (λ q m. child_is q) in
        let b = both_kinds (r.entry (child p i)).call (times (child p i) r.paths) in let c = r.once (child p i) in omega arith;
    retired = λ p i. r.retired p i ∙ sym (pairs_times j r.entry p i r.paths (λ q m. child_is q));
  }

  -- the paths of what was done
  abbrev done_paths : List Path
  done_paths = map path_of v.tasks.ran ++ map index_path v.loops.retired

  done_times : (p : Path) → times p done_paths ≡ times p r.paths
  done_times p =
      let a = times_append p (map path_of v.tasks.ran) (map index_path v.loops.retired) in let b = ran_times p in
      let c = both_kinds (r.entry p).call (times p r.paths) in
      let d : times p (map index_path v.loops.retired) ≡ is_index (r.entry p).call * times p r.paths = elim (last_of p) [
        | inl e ↦ ap (λ (z : Path). times z (map index_path v.loops.retired)) e ∙ (no_root_index v.loops.retired
            ∙ sym (zero_by (is_index (r.entry p).call) (times p r.paths) (ap (λ (z : Path). is_index (r.entry z).call) e ∙ root_is)))
        | inr (q, i, e) ↦ ap (λ (z : Path). times z (map index_path v.loops.retired)) e ∙ (index_path_times q i v.loops.retired
            ∙ (r.retired q i ∙ ap (λ (z : Path). is_index (r.entry z).call * times z r.paths) (sym e)))
      ] in omega arith
    where
      root_is : is_index (r.entry []).call ≡ 0
      root_is = elim (kind (r.entry []).call) [
        | inl h ↦ h.1
        | inr h ↦ absurd (let a = root_task in let b = h.0 in omega arith)
      ]

  done_are : map r.entry done_paths ≡ done_entries j v
  done_are = map-append r.entry (map path_of v.tasks.ran) (map index_path v.loops.retired) ∙ (λ k.
      (map_map path_of r.entry v.tasks.ran ∙ map_same (λ e. r.entry (path_of e)) (run_entry j) v.tasks.ran each_ran) k
      ++ (map_map index_path r.entry v.loops.retired ∙ map_same (λ e. r.entry (index_path e)) (index_entry j) v.loops.retired r.each_index) k)

  -- what is listed of the entries is listed of what was done
  permuted : {B : Type 0} (g : Entry machine → List B) → IsPermutation (flat_map g (reference_of j).entries) (flat_map g (done_entries j v))
  permuted g = subst (λ (z : List (Entry machine) × List (Entry machine)). IsPermutation (flat_map g z.0) (flat_map g z.1))
      (λ i. (sym entries_are i, done_are i)) (permutes_map r.entry g r.paths done_paths (λ p. sym (done_times p)))

  entries_permute : IsPermutation (reference_of j).entries (done_entries j v)
  entries_permute = subst (λ (z : List (Entry machine) × List (Entry machine)). IsPermutation z.0 z.1)
      (λ i. (flat_self (reference_of j).entries i, flat_self (done_entries j v) i)) (permuted (λ x. x ∷ []))

  pub is_reference : (c : Closed) → c.rows.items ≡ rows → c.tasks ≡ length (tasks_of j.program (the_run j).entries) → c.tasks ≤ TASKS
      → c.indexes ≡ length (indexes_of j.program (the_run j).entries) → c.indexes ≤ INDEXES → IsReferenceRun j c v
  is_reference c rows_are tasks_are few indexes_are few_indexes =
      let run = run_is_reference j in
      let rows_now = rows_are ∙ (sym r.rows ∙ ap (λ (x : Run machine). x.store) run) in
      let tasks_now = tasks_are ∙ ap (λ (x : Run machine). length (tasks_of j.program x.entries)) run in
      let indexes_now = indexes_are ∙ ap (λ (x : Run machine). length (indexes_of j.program x.entries)) run in record {
        rows = rows_now;
        tasks = tasks_now;
        indexes = indexes_now;
        within = (few, few_indexes);
        outcome = ap (λ (n : ℕ × ℕ × List ℕ). answered n.0 n.1 (faults_of j.program (reference_of j).entries) n.2)
            (λ i. (sym tasks_now i, sym indexes_now i, sym rows_now i))
            ∙ answered_few c.tasks c.indexes (faults_of j.program (reference_of j).entries) c.rows.items few few_indexes;
        exact = record { tasks = tasks_once; indexes = indexes_once; entries = entries_permute; idle = quiet };
        faults = permuted (λ e. fault_in e.call e.fault);
      }
