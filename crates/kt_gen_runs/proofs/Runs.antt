-- Runs of bodies without a fault: how many tasks and indexes they have.
use Rattle.std.proofs.Common.{◌≡◌, ℕ, zero, suc, ◌+◌, List, [], ◌∷◌, ◌++◌, length, Option, None, false, nat_lt, ◌≤◌, refl, sym, ap, ◌∙◌, arith}
use Rattle.std.specs.List.{flat_map}
use Rattle.std.proofs.lemmas.Bool.Decides.{nat_tests}
use Rattle.std.proofs.lemmas.Grind.{flat_map-append}
use Rattle.std.proofs.lemmas.List.{length-append}
use Rattle.kt_law.specs.declared.limits.TheConstants.{INDEXES, TASKS}
use Rattle.kt_order.specs.Body.{Stop, Do, Fork}
use Rattle.kt_order.specs.Machine.{Machine}
use Rattle.kt_order.specs.Sequential.{Alone, Entry, Run, alone, each, joined, noted, still_at, whole, whole_within}
use Rattle.kt_prog.specs.Calls.{Job, Whole, Index, main_call}
use Rattle.kt_prog.specs.Script.{Fault, Script}
use Rattle.kt_prog.specs.Bodies.{script_of}
use Rattle.kt_prog.specs.Entries.{tasks_of, indexes_of, faults_of, task_in, index_in, fault_in}
use Rattle.kt_prog.specs.Outcome.{answered}
use Rattle.kt_prog.specs.Reference.{Placed, machine_of, main_placed, opened_with, placed, reference}
use Rattle.kt_prog.specs.Runs.{FaultRun}
use Rattle.kt_prog.specs.declared.programs.Program.{Program}
use Rattle.kt_prog.specs.declared.runs.Outcome.TheVariants.{Rows}
use Rattle.kt_gen_runs.specs.Completes.{Completes}
use Rattle.kt_gen_runs.proofs.Quiet.{Quiet, tasks_in, indexes_in}

module _ (p : Program) where
  abbrev M : Machine
  M = machine_of p

  -- so many tasks, so many indexes and no fault
  record Counted (t i : ℕ) (r : Run M) : Type 0 where
    tasks : length (tasks_of p r.entries) ≡ t
    indexes : length (indexes_of p r.entries) ≡ i
    faults : faults_of p r.entries ≡ []

  longer : {X A : Type 0} (f : X → List A) (xs ys : List X) (m n k : ℕ) → length (flat_map f xs) ≡ m → length (flat_map f ys) ≡ n → k ≡ m + n
      → length (flat_map f (xs ++ ys)) ≡ k
  longer f xs ys m n k e g h = rw (flat_map-append f xs ys, length-append (flat_map f xs) (flat_map f ys), e, g) (sym h)

  joined_counted : (t i n j T I : ℕ) (x y : Run M) → T ≡ t + n → I ≡ i + j → Counted t i x → Counted n j y → Counted T I (joined M x y)
  joined_counted t i n j T I x y e f a b = record {
    tasks = longer (λ (e : Entry M). task_in e.call.path e.call.job e.answers) x.entries y.entries t n T a.tasks b.tasks e;
    indexes = longer (λ (e : Entry M). index_in e.call.path e.call.job e.answers) x.entries y.entries i j I a.indexes b.indexes f;
    faults = flat_map-append (λ (e : Entry M). fault_in e.call e.fault) x.entries y.entries
        ∙ (ap (λ (fs : List FaultRun). fs ++ faults_of p y.entries) a.faults ∙ b.faults);
  }

  -- the calls that were forked have Q, and so many tasks and indexes
  abbrev Sum : (Job → Type 0) → ℕ → ℕ → List Placed → Type 0
  Sum Q t i [] = (t ≡ 0) × (i ≡ 0)
  Sum Q t i (c ∷ cs) = (n : ℕ) × (j : ℕ) × (t ≡ tasks_in c.job + n) × (i ≡ indexes_in c.job + j) × Q c.job × Sum Q n j cs

  abbrev Leaves : (Job → Type 0) → ℕ → ℕ → Alone M → Type 0
  Leaves Q t i a = (a.fault ≡ None) × Sum Q t i a.forks

  alone_quiet : (Q : Job → Type 0) (t i : ℕ) (path : List ℕ) (k : ℕ) (w : Script) (s : List ℕ) → Quiet Q t i w → Leaves Q t i (alone M (placed path k w) s)
  alone_quiet Q t i path k (Stop f) s h = (h.0, (h.1, h.2))
  alone_quiet Q t i path k (Do act next) s h = alone_quiet Q t i path k (next (M.answer act s)) (M.after act s) (h (M.answer act s))
  alone_quiet Q t i path k (Fork (Whole call) next) s h =
      let rest = alone_quiet Q h.0 h.1 path (suc k) next s h.5 in
      (rest.0, (h.0, h.1, h.2, h.3, h.4, rest.1))
  alone_quiet Q t i path k (Fork (Index call x) next) s h =
      let rest = alone_quiet Q h.0 h.1 path (suc k) next s h.5 in
      (rest.0, (h.0, h.1, h.2, h.3, h.4, rest.1))

  each_counted : (Q : Job → Type 0) (f : Placed → List ℕ → Run M) → ((c : Placed) (s : List ℕ) → Q c.job → Counted (tasks_in c.job) (indexes_in c.job) (f c s))
      → (t i : ℕ) (cs : List Placed) (s : List ℕ) → Sum Q t i cs → Counted t i (each M f cs s)
  each_counted Q f all t i [] s h = record { tasks = sym h.0; indexes = sym h.1; faults = refl }
  each_counted Q f all t i (c ∷ cs) s h =
      joined_counted (tasks_in c.job) (indexes_in c.job) h.0 h.1 t i (f c s) (each M f cs (f c s).store) h.2 h.3
      (all c s h.4) (each_counted Q f all h.0 h.1 cs (f c s).store h.5)

  -- the tasks and the indexes that a body counts for by itself
  abbrev own_tasks : Job → ℕ
  own_tasks (Whole call) = 1
  own_tasks (Index call i) = 0

  abbrev own_indexes : Job → ℕ
  own_indexes (Whole call) = 0
  own_indexes (Index call i) = 1

  fault_none : (c : Placed) (fault : Option Fault) (more : List FaultRun) → fault ≡ None → more ≡ [] → fault_in c fault ++ more ≡ []
  fault_none c fault more e h = ap (λ (o : Option Fault). fault_in c o ++ more) e ∙ h

  noted_counted : (path : List ℕ) (job : Job) (answers : List ℕ) (fault : Option Fault) (steps t i T I : ℕ) (r : Run M) → fault ≡ None → Counted t i r
      → T ≡ own_tasks job + t → I ≡ own_indexes job + i → Counted T I (noted M (record { path = path; job = job }) answers fault steps r)
  noted_counted path (Whole call) answers fault steps t i T I r f k e g = record {
    tasks = let a : suc (length (tasks_of p r.entries)) ≡ T = omega (arith, k.tasks, e) in a;
    indexes = let b : length (indexes_of p r.entries) ≡ I = omega (arith, k.indexes, g) in b;
    faults = fault_none (record { path = path; job = Whole call }) fault (faults_of p r.entries) f k.faults;
  }
  noted_counted path (Index call x) answers fault steps t i T I r f k e g = record {
    tasks = let a : length (tasks_of p r.entries) ≡ T = omega (arith, k.tasks, e) in a;
    indexes = let b : suc (length (indexes_of p r.entries)) ≡ I = omega (arith, k.indexes, g) in b;
    faults = fault_none (record { path = path; job = Index call x }) fault (faults_of p r.entries) f k.faults;
  }

  -- ---- an index, which forks nothing; a call that forks its indexes; main, which forks such calls

  abbrev pub Nothing : Job → Type 0
  Nothing job = ⊥

  abbrev pub IsLeaf : Job → Type 0
  IsLeaf (Whole call) = ⊥
  IsLeaf (Index call i) = Quiet Nothing 0 0 (script_of p (Index call i))

  abbrev pub IsChild : Job → Type 0
  IsChild (Whole call) = Quiet IsLeaf 0 call.length (script_of p (Whole call))
  IsChild (Index call i) = ⊥

  still_counted : (s : List ℕ) → Counted 0 0 (still_at M s)
  still_counted s = record { tasks = refl; indexes = refl; faults = refl }

  leaf_counted : (fuel : ℕ) (path : List ℕ) (job : Job) (s : List ℕ) → IsLeaf job
      → Counted (tasks_in job) (indexes_in job) (whole_within M fuel (record { path = path; job = job }) s)
  leaf_counted fuel path (Whole call) s h = absurd h
  leaf_counted zero path (Index call x) s h =
      let a = alone M (placed path 1 (script_of p (Index call x))) s in
      let q = alone_quiet Nothing 0 0 path 1 (script_of p (Index call x)) s h in
      noted_counted path (Index call x) a.answers a.fault a.steps 0 0 0 1 (still_at M a.store) q.0 (still_counted a.store) refl refl
  leaf_counted (suc fuel) path (Index call x) s h =
      let a = alone M (placed path 1 (script_of p (Index call x))) s in
      let q = alone_quiet Nothing 0 0 path 1 (script_of p (Index call x)) s h in
      noted_counted path (Index call x) a.answers a.fault a.steps 0 0 0 1 (each M (whole_within M fuel) a.forks a.store) q.0
      (each_counted Nothing (whole_within M fuel) (λ c s n. absurd n) 0 0 a.forks a.store q.1) refl refl

  child_counted : (fuel : ℕ) (path : List ℕ) (job : Job) (s : List ℕ) → IsChild job
      → Counted (tasks_in job) (indexes_in job) (whole_within M (suc fuel) (record { path = path; job = job }) s)
  child_counted fuel path (Index call x) s h = absurd h
  child_counted fuel path (Whole call) s h =
      let a = alone M (placed path 1 (script_of p (Whole call))) s in
      let q = alone_quiet IsLeaf 0 call.length path 1 (script_of p (Whole call)) s h in
      noted_counted path (Whole call) a.answers a.fault a.steps 0 call.length 1 call.length (each M (whole_within M fuel) a.forks a.store) q.0
      (each_counted IsLeaf (whole_within M fuel) (λ c s n. leaf_counted fuel c.path c.job s n) 0 call.length a.forks a.store q.1) refl (omega arith)

  main_counted : (fuel t i : ℕ) (s : List ℕ) → Quiet IsChild t i (script_of p (Whole main_call))
      → Counted (t + 1) i (whole_within M (suc (suc fuel)) main_placed s)
  main_counted fuel t i s h =
      let a = alone M (placed [] 1 (script_of p (Whole main_call))) s in
      let q = alone_quiet IsChild t i [] 1 (script_of p (Whole main_call)) s h in
      noted_counted [] (Whole main_call) a.answers a.fault a.steps t i (t + 1) i (each M (whole_within M (suc fuel)) a.forks a.store) q.0
      (each_counted IsChild (whole_within M (suc fuel)) (λ c s n. child_counted fuel c.path c.job s n) t i a.forks a.store q.1) (omega arith) (omega arith)

  within : (t i n j : ℕ) (faults : List FaultRun) (store : List ℕ) → n ≡ t → j ≡ i → faults ≡ [] → t ≤ TASKS → i ≤ INDEXES
      → answered n j faults store ≡ record { outcome = Rows store; tasks = t; indexes = i }
  within t i n j faults store e g f few some =
      let a : nat_lt TASKS t ≡ false = grind (arith, nat_tests) in
      let b : nat_lt INDEXES i ≡ false = grind (arith, nat_tests) in
      rw (e, g, f, a, b) refl

  pub completes : (t i T I : ℕ) → Quiet IsChild t i (script_of p (Whole main_call)) → T ≡ t + 1 → I ≡ i → T ≤ TASKS → I ≤ INDEXES → (input : List ℕ)
      → Completes p input T I
  unfolding reference
  completes t i T I h e g few some input =
      let s = opened_with p.families input in
      let r = whole M main_placed s in
      let k = main_counted 31 t i s h in
      within T I (length (tasks_of p r.entries)) (length (indexes_of p r.entries)) (faults_of p r.entries) r.store
      (k.tasks ∙ sym e) (k.indexes ∙ sym g) k.faults few some
