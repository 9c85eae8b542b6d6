-- The answer of a simulated run.
use Rattle.std.proofs.Common.{◌≡◌, ◌≤◌, ◌<◌, ◌+◌, ◌⊎◌, inl, inr, ℕ, zero, suc, Bool, true, false, nat_lt, ◌||◌, if◌then◌else◌, List, [], ◌∷◌, ◌++◌, length, drop, Option, Some, None, refl, sym, ap, ◌∙◌, subst, arith, slice_get, option_map}
use Rattle.std.proofs.lemmas.Bool.Decides.{nat_tests}
use Rattle.kt_law.specs.declared.limits.TheConstants.{INDEXES, TASKS}
use Rattle.kt_prog.specs.Calls.{CallTree, Index}
use Rattle.kt_prog.specs.Script.{Fault}
use Rattle.kt_prog.specs.Runs.{FaultRun}
use Rattle.kt_prog.specs.Entries.{tasks_of, indexes_of, faults_of, fault_in}
use Rattle.kt_prog.specs.Outcome.{answered, fault_before, fault_or_rows, first_fault, outcome_of}
use Rattle.kt_prog.specs.Reference.{Placed, reference}
use Rattle.kt_prog.specs.declared.programs.Program.{Program}
use Rattle.kt_prog.specs.declared.runs.Outcome.{Outcome}
use Rattle.kt_prog.specs.declared.runs.Outcome.TheVariants as N
use Rattle.kt_prog.specs.declared.runs.Ran.{Ran}
use Rattle.kt_core.specs.Reads.{fault_of_index}
use Rattle.kt_runs.specs.Theorems.{whole_at}
use Rattle.kt_tables.specs.Tables.{IndexRow, TaskRow, CoreState, count_indexes, fault_of_row, fault_run}
use Rattle.kt_tables.specs.TableLaws.{index_faults_from, faults_at, faults_in}
use Rattle.kt_faults.specs.First.{earlier}
use Rattle.kt_frames.specs.Rest.{limit_ran}
use Rattle.kt_sim.specs.Answering.{least_among}
use Rattle.kt_sim.specs.Simulated.{IsOver}

drop_row : (tasks : List TaskRow) (k : ℕ) (r : TaskRow) → slice_get tasks k ≡ Some r → drop k tasks ≡ r ∷ drop (suc k) tasks
drop_row [] k r e = cc
drop_row (u ∷ tasks) zero r e = cc
drop_row (u ∷ tasks) (suc k) r e = drop_row tasks k r e

pub least_more : (least : Option FaultRun) (one two : List FaultRun) → least_among least (one ++ two) ≡ least_among (least_among least one) two
least_more least [] two = refl
least_more least (f ∷ one) two = least_more (earlier least (Some f)) one two

earlier_none : (least : Option FaultRun) → earlier least None ≡ least
earlier_none None = refl
earlier_none (Some f) = refl

-- one task more
pub least_step : (p : Program) (tasks : List TaskRow) (k n : ℕ) (r : TaskRow) (least : Option FaultRun) → n ≡ suc k → slice_get tasks k ≡ Some r
    → least_among (least_among least (faults_at p r)) (faults_in p (drop n tasks)) ≡ least_among least (faults_in p (drop k tasks))
least_step p tasks k n r least next there =
    ap (λ (m : ℕ). least_among (least_among least (faults_at p r)) (faults_in p (drop m tasks))) next
    ∙ sym (ap (λ (rows : List TaskRow). least_among least (faults_in p rows)) (drop_row tasks k r there)
    ∙ least_more least (faults_at p r) (faults_in p (drop (suc k) tasks)))

-- the fault of the task itself
pub least_task : (p : Program) (least : Option FaultRun) (r : TaskRow)
    → least_among (earlier least (fault_of_row r)) (index_faults_from p r.path r.call 0 r.loop.indexes) ≡ least_among least (faults_at p r)
least_task p least r = plain least r.fault
  where
    plain : (least : Option FaultRun) (f : Option Fault)
        → least_among (earlier least (option_map (fault_run r) f)) (index_faults_from p r.path r.call 0 r.loop.indexes)
        ≡ least_among least (fault_in (whole_at r.path r.call) f ++ index_faults_from p r.path r.call 0 r.loop.indexes)
    plain None None = refl
    plain (Some l) None = refl
    plain None (Some f) = refl
    plain (Some l) (Some f) = refl

-- one index more
one_index : (p : Program) (path : List ℕ) (call : CallTree) (i : ℕ) (least : Option FaultRun) (v : IndexRow) (more : List FaultRun)
    → least_among (earlier least (fault_of_index path i (Some v))) more ≡ least_among least (fault_in (record { path = path; job = Index call i }) v.fault ++ more)
one_index p path call i least v more = plain least v.fault
  where
    plain : (least : Option FaultRun) (f : Option Fault)
        → least_among (earlier least (fault_of_index path i (Some (record { stand = v.stand; answers = v.answers; done = v.done; fault = f })))) more
        ≡ least_among least (fault_in (record { path = path; job = Index call i }) f ++ more)
    plain None None = refl
    plain (Some l) None = refl
    plain None (Some f) = refl
    plain (Some l) (Some f) = refl

module _ (p : Program) (path : List ℕ) (call : CallTree) where
  pub index_step : (rows : List IndexRow) (at k : ℕ) (least : Option FaultRun)
      → least_among (earlier least (fault_of_index path (at + k) (slice_get rows k))) (index_faults_from p path call (suc (at + k)) (drop (suc k) rows))
      ≡ least_among least (index_faults_from p path call (at + k) (drop k rows))
  index_step [] at zero least = earlier_none least
  index_step [] at (suc k) least = earlier_none least
  index_step (v ∷ rows) at zero least = one_index p path call (at + 0) least v (index_faults_from p path call (suc (at + 0)) rows)
  index_step (v ∷ rows) at (suc k) least =
      let same : suc at + k ≡ at + suc k = omega arith in
      subst (λ (n : ℕ). least_among (earlier least (fault_of_index path n (slice_get rows k))) (index_faults_from p path call (suc n) (drop (suc k) rows))
      ≡ least_among least (index_faults_from p path call n (drop k rows))) same (index_step rows (suc at) k least)

  pub least_index : (rows : List IndexRow) (k n : ℕ) (least : Option FaultRun) → n ≡ suc k
      → least_among (earlier least (fault_of_index path k (slice_get rows k))) (index_faults_from p path call n (drop n rows))
      ≡ least_among least (index_faults_from p path call k (drop k rows))
  least_index rows k n least next =
      ap (λ (m : ℕ). least_among (earlier least (fault_of_index path k (slice_get rows k))) (index_faults_from p path call m (drop m rows))) next
      ∙ subst (λ (m : ℕ). least_among (earlier least (fault_of_index path m (slice_get rows k))) (index_faults_from p path call (suc m) (drop (suc k) rows))
      ≡ least_among least (index_faults_from p path call m (drop k rows))) zero_is (index_step rows 0 k least)
    where
      zero_is : 0 + k ≡ k
      zero_is = omega arith

  pub least_past : (rows : List IndexRow) (k n : ℕ) (least : Option FaultRun) → length rows ≤ k → least_among least (index_faults_from p path call n (drop k rows)) ≡ least
  least_past [] k n least long = past_end k
    where
      past_end : (k : ℕ) → least_among least (index_faults_from p path call n (drop k [])) ≡ least
      past_end zero = refl
      past_end (suc k) = refl
  least_past (v ∷ rows) zero n least long = absurd (omega (arith, long))
  least_past (v ∷ rows) (suc k) n least long = least_past rows k n least (omega (arith, long))

least_first : (f : FaultRun) (faults : List FaultRun) → least_among (Some f) faults ≡ Some (first_fault f faults)
least_first f [] = refl
least_first f (g ∷ faults) = least_first (if fault_before g f then g else f) faults

abbrev pub or_rows : List ℕ → Option FaultRun → Outcome
or_rows store None = N.Rows store
or_rows store (Some f) = N.Fault f

pub rows_or_fault : (store : List ℕ) (faults : List FaultRun) → fault_or_rows store faults ≡ or_rows store (least_among None faults)
rows_or_fault store [] = refl
rows_or_fault store (f ∷ faults) = ap (or_rows store) (sym (least_first f faults))

abbrev pub ran_with : ℕ → ℕ → Outcome → Ran
ran_with tasks indexes outcome = record { outcome = outcome; tasks = tasks; indexes = indexes }

answered_few : (n m : ℕ) (faults : List FaultRun) (store : List ℕ) → n ≤ TASKS → m ≤ INDEXES → answered n m faults store ≡ ran_with n m (fault_or_rows store faults)
answered_few n m faults store le few =
    let one : nat_lt TASKS n ≡ false = grind (arith, nat_tests) in
    let two : nat_lt INDEXES m ≡ false = grind (arith, nat_tests) in
    ap (λ (b : Bool). if b || nat_lt INDEXES m then limit_ran else ran_with n m (fault_or_rows store faults)) one
    ∙ ap (λ (b : Bool). if b then limit_ran else ran_with n m (fault_or_rows store faults)) two

answered_many : (n m : ℕ) (faults : List FaultRun) (store : List ℕ) → (TASKS < n) ⊎ (INDEXES < m) → answered n m faults store ≡ limit_ran
answered_many n m faults store (inl lt) =
    let test : nat_lt TASKS n ≡ true = grind (arith, nat_tests) in
    ap (λ (b : Bool). if b || nat_lt INDEXES m then limit_ran else ran_with n m (fault_or_rows store faults)) test
answered_many n m faults store (inr lt) =
    let test : nat_lt INDEXES m ≡ true = grind (arith, nat_tests) in
    ap (λ (b : Bool). if nat_lt TASKS n || b then limit_ran else ran_with n m (fault_or_rows store faults)) test ∙ either (nat_lt TASKS n)
  where
    either : (b : Bool) → (if b || true then limit_ran else ran_with n m (fault_or_rows store faults)) ≡ limit_ran
    either true = refl
    either false = refl

-- a run with main finished
pub answer_is : (c : CoreState) (least : Option FaultRun) → length c.table.tasks ≤ TASKS → count_indexes c.table.tasks ≤ INDEXES
    → least ≡ least_among None (faults_in c.program c.table.tasks)
    → answered (length c.table.tasks) (count_indexes c.table.tasks) (faults_in c.program c.table.tasks) c.table.store ≡ outcome_of c.program c.input
    → ran_with (length c.table.tasks) (count_indexes c.table.tasks) (or_rows c.table.store least) ≡ outcome_of c.program c.input
answer_is c least few low is law =
    ap (λ (o : Option FaultRun). ran_with (length c.table.tasks) (count_indexes c.table.tasks) (or_rows c.table.store o)) is
    ∙ ap (ran_with (length c.table.tasks) (count_indexes c.table.tasks)) (sym (rows_or_fault c.table.store (faults_in c.program c.table.tasks)))
    ∙ sym (answered_few (length c.table.tasks) (count_indexes c.table.tasks) (faults_in c.program c.table.tasks) c.table.store few low)
    ∙ law

-- a run with a task or an index too many
pub over_is : (c : CoreState) → IsOver c → length c.table.tasks ≤ length (tasks_of c.program (reference c.program c.input).entries)
    → count_indexes c.table.tasks ≤ length (indexes_of c.program (reference c.program c.input).entries) → limit_ran ≡ outcome_of c.program c.input
over_is c many tasks indexes =
    let r = reference c.program c.input in
    sym (answered_many (length (tasks_of c.program r.entries)) (length (indexes_of c.program r.entries)) (faults_of c.program r.entries) r.store (more many))
  where
    more : IsOver c → (TASKS < length (tasks_of c.program (reference c.program c.input).entries)) ⊎ (INDEXES < length (indexes_of c.program (reference c.program c.input).entries))
    more (inl lt) = inl (omega (arith, lt, tasks))
    more (inr lt) = inr (omega (arith, lt, indexes))
