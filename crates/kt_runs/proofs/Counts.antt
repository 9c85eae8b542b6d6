-- A lawful core has no more tasks and indexes than the reference run.
use Rattle.std.proofs.Common.{◌≡◌, ◌≤◌, ℕ, ◌+◌, List, [], ◌∷◌, ◌++◌, length, inl, inr, refl, ap, arith, length-append}
use Rattle.std.specs.List.{flat_map}
use Rattle.kt_order.specs.Sequential.{Entry}
use Rattle.kt_order.specs.Forest.{Task, Forest, Nil, Node}
use Rattle.kt_order.specs.Shown.{tasks, settled, Embeds}
use Rattle.kt_prog.specs.Calls.{Job, Whole, Index}
use Rattle.kt_prog.specs.Runs.{TaskRun, IndexRun}
use Rattle.kt_prog.specs.Entries.{task_in, index_in, tasks_of, indexes_of}
use Rattle.kt_prog.specs.Reference.{Placed, machine_of, reference}
use Rattle.kt_prog.specs.declared.programs.Program.{Program}
use Rattle.kt_runs.specs.States.{Core, task_count, IsLawful}
use Rattle.kt_runs.proofs.Runs.{begins}

module _ (p : Program) where
  abbrev EntryOf : Type 0
  EntryOf = Entry (machine_of p)

  abbrev TaskOf : Type 0
  TaskOf = Task (machine_of p)

  -- lists of which each entry gives as many parts as its call says
  module _ (X : Type 0) (f : EntryOf → List X) (size : Placed → ℕ) (sized : (e : EntryOf) → length (f e) ≡ size e.call) where
    abbrev in_entries : List EntryOf → ℕ
    in_entries [] = 0
    in_entries (e ∷ es) = size e.call + in_entries es

    abbrev in_tasks : List TaskOf → ℕ
    in_tasks [] = 0
    in_tasks (u ∷ us) = size u.call + in_tasks us

    counted : (es : List EntryOf) → length (flat_map f es) ≡ in_entries es
    counted [] = refl
    counted (e ∷ es) = let more = counted es in let one = sized e in let both = length-append (f e) (flat_map f es) in omega (arith, more, one, both)

    entries_append : (xs ys : List EntryOf) → in_entries (xs ++ ys) ≡ in_entries xs + in_entries ys
    entries_append [] ys = omega arith
    entries_append (e ∷ xs) ys = let more = entries_append xs ys in omega (arith, more)

    tasks_append : (us vs : List TaskOf) → in_tasks (us ++ vs) ≡ in_tasks us + in_tasks vs
    tasks_append [] vs = omega arith
    tasks_append (u ∷ us) vs = let more = tasks_append us vs in omega (arith, more)

    settled_counted : (F : Forest (machine_of p)) → in_entries (settled (machine_of p) F) ≡ in_tasks (tasks (machine_of p) F)
    settled_counted Nil = refl
    settled_counted (Node u kids later) =
        let below = settled_counted kids in
        let beside = settled_counted later in
        let entries = entries_append (settled (machine_of p) kids) (settled (machine_of p) later) in
        let both = tasks_append (tasks (machine_of p) kids) (tasks (machine_of p) later) in
        omega (arith, below, beside, entries, both)

    embeds_counted : (us : List TaskOf) (es : List EntryOf) → Embeds (machine_of p) us es → in_tasks us ≤ in_entries es
    embeds_counted [] es h = omega arith
    embeds_counted (u ∷ us) [] h = absurd h
    embeds_counted (u ∷ us) (e ∷ es) (inl h) =
        let more = embeds_counted us es h.1 in
        let same : size e.call ≡ size u.call = ap size h.0.call in
        omega (arith, more, same)
    embeds_counted (u ∷ us) (e ∷ es) (inr h) = let more = embeds_counted (u ∷ us) es h in omega (arith, more)

    pub no_more_of : (F : Forest (machine_of p)) (es : List EntryOf) → Embeds (machine_of p) (tasks (machine_of p) F) es
        → length (flat_map f (settled (machine_of p) F)) ≤ length (flat_map f es)
    no_more_of F es h =
        let mine = counted (settled (machine_of p) F) in
        let all = counted es in
        let same = settled_counted F in
        let less = embeds_counted (tasks (machine_of p) F) es h in
        omega (arith, mine, all, same, less)

  abbrev calls_in : Job → ℕ
  calls_in (Whole call) = 1
  calls_in (Index call i) = 0

  abbrev indexes_in : Job → ℕ
  indexes_in (Whole call) = 0
  indexes_in (Index call i) = 1

  one_task : (path : List ℕ) (job : Job) (answers : List ℕ) → length (task_in path job answers) ≡ calls_in job
  one_task path (Whole call) answers = refl
  one_task path (Index call i) answers = refl

  one_index : (path : List ℕ) (job : Job) (answers : List ℕ) → length (index_in path job answers) ≡ indexes_in job
  one_index path (Whole call) answers = refl
  one_index path (Index call i) answers = refl

  pub no_more : (input : List ℕ) (x : Core p) → IsLawful p input x
      → (task_count p x ≤ length (tasks_of p (reference p input).entries))
      × (length (indexes_of p (settled (machine_of p) x.forest)) ≤ length (indexes_of p (reference p input).entries))
  no_more input x lawful =
      let embeds = begins p input x lawful in (
        no_more_of TaskRun (λ e. task_in e.call.path e.call.job e.answers) (λ c. calls_in c.job) (λ e. one_task e.call.path e.call.job e.answers) x.forest (reference p input).entries embeds,
        no_more_of IndexRun (λ e. index_in e.call.path e.call.job e.answers) (λ c. indexes_in c.job) (λ e. one_index e.call.path e.call.job e.answers) x.forest (reference p input).entries embeds,
      )
