-- What a body does in its tree is the list of its operations.
use Rattle.std.proofs.Common.{◌≡◌, ◌<◌, ℕ, zero, suc, Bool, true, false, List, [], ◌∷◌, ◌++◌, Some, None, flat_map, refl, sym, ap, ◌∙◌, subst, arith, append-nil, if◌then◌else◌}
use Rattle.kt_law.specs.Acts.{Deed, Load, Store, Fold}
use Rattle.kt_order.specs.Lists.{AllOf}
use Rattle.kt_order.specs.Body.{Stop, Do, Fork, Keeps}
use Rattle.kt_order.specs.Machine.{Machine}
use Rattle.kt_order.specs.Sequential.{Run, Entry, alone, each, whole_within}
use Rattle.kt_order.specs.Trace as T
use Rattle.kt_prog.specs.Accepted.{IsAccepted}
use Rattle.kt_prog.specs.Bodies.{call_body, indexes, script_of, script_with}
use Rattle.kt_prog.specs.Calls.{CallTree, Job, Whole, Index}
use Rattle.kt_prog.specs.Fits.{Fits, is_main, FitsJob}
use Rattle.kt_prog.specs.Laws.{BodiesKeep}
use Rattle.kt_prog.specs.Operations.{end_of, is_loop_at, trace}
use Rattle.kt_prog.specs.Reference.{Placed, main_placed, opened_with, placed, placed_fork, machine_of, reference}
use Rattle.kt_prog.specs.Rights as K
use Rattle.kt_prog.specs.Rights.{Forks}
use Rattle.kt_prog.specs.Script.{Script, Step, ◌>>=◌, fork, give}
use Rattle.kt_prog.specs.declared.programs.Program.{Program}
use Rattle.kt_prog.specs.declared.runs.Operation.{Operation}
use Rattle.kt_prog.specs.declared.runs.Operation.TheVariants as O
use Rattle.kt_runs.proofs.Forked.{no_length}
use Rattle.kt_runs.proofs.Indexes.{loop_does}
use Rattle.kt_runs.proofs.Zeroes.{behind_zeroing}
use Rattle.kt_entries.specs.Entries.{BodiesHaveOneList, EntriesHaveOneList, HasOneList, read_as}

module _ (p : Program) where
  abbrev m : Machine
  m = machine_of p

  -- behind the fork of an index come only such forks, and the end of a body that has no End
  abbrev Rest : Job → Script → Type 0
  Rest job (Stop None) = end_of p job ≡ []
  Rest job (Stop (Some f)) = ⊥
  Rest job (Do q next) = ⊥
  Rest job (Fork (Whole c) w) = ⊥
  Rest job (Fork (Index c i) w) = Rest job w

  -- so it is wherever an index is forked
  abbrev Fine : Job → Script → Type 0
  Fine job (Stop f) = Unit {0}
  Fine job (Do q next) = (a : ℕ) → Fine job (next a)
  Fine job (Fork (Whole c) w) = Fine job w
  Fine job (Fork (Index c i) w) = Rest job w

  module _ (job : Job) (path : List ℕ) where
    abbrev readings : ℕ → Script → List ℕ → List Operation
    readings k w answers = flat_map (read_as p job) (T.trace m (placed path k w) answers)

    rest_is : (k : ℕ) (w : Script) → Rest job w → (answers : List ℕ) → readings k w answers ≡ []
    rest_is k (Stop None) h answers = append-nil (end_of p job) ∙ h
    rest_is k (Stop (Some f)) h answers = absurd h
    rest_is k (Do q next) h answers = absurd h
    rest_is k (Fork (Whole c) w) h answers = absurd h
    rest_is k (Fork (Index c i) w) h answers = rest_is (suc k) w h answers

    act_is : (k o e : ℕ) (deed : Deed) (next : ℕ → Script)
        → ((a : ℕ) (answers : List ℕ) → trace (end_of p job) (next a) answers ≡ readings k (next a) answers) → (answers : List ℕ)
        → let w = Do (record { object = o; element = e; deed = deed }) next in
        trace (end_of p job) w answers ≡ readings k w answers
    act_is k o e Load next h [] = refl
    act_is k o e Load next h (a ∷ answers) = ap (λ l. O.Load o e a ∷ l) (h a answers)
    act_is k o e (Store v) next h answers = ap (λ l. O.Store o e v ∷ l) (h 0 answers)
    act_is k o e (Fold op v) next h answers = ap (λ l. O.Fold o e op v ∷ l) (h 0 answers)

    reads : (k : ℕ) (w : Script) → Fine job w → (answers : List ℕ) → trace (end_of p job) w answers ≡ readings k w answers
    reads k (Stop None) fine answers = sym (append-nil (end_of p job))
    reads k (Stop (Some f)) fine answers = refl
    reads k (Do act next) fine answers = act_is k act.object act.element act.deed next (λ a more. reads k (next a) (fine a) more) answers
    reads k (Fork (Whole c) w) fine answers = ap (λ l. O.Fork c ∷ l) (reads (suc k) w fine answers)
    reads k (Fork (Index c i) w) fine answers = sym (rest_is (suc k) w fine answers)

  no_end : (c : CallTree) → is_loop_at p c.task ≡ true → end_of p (Whole c) ≡ []
  no_end c loop = ap (λ b. if b then [] else O.End ∷ []) loop

  indexes_rest : (c : CallTree) → is_loop_at p c.task ≡ true → (i n : ℕ) → Rest (Whole c) (indexes c i n (λ _. Stop None))
  unfolding ◌>>=◌ fork give
  indexes_rest c loop i zero = no_end c loop
  indexes_rest c loop i (suc n) = indexes_rest c loop (suc i) n

  indexes_fine : (c : CallTree) → is_loop_at p c.task ≡ true → (i n : ℕ) → Fine (Whole c) (indexes c i n (λ _. Stop None))
  unfolding ◌>>=◌ fork give
  indexes_fine c loop i zero = tt
  indexes_fine c loop i (suc n) = indexes_rest c loop (suc i) n

  loop_fine : (c : CallTree) → is_loop_at p c.task ≡ true → Fine (Whole c) (script_of p (Whole c))
  unfolding script_with
  loop_fine c loop =
      behind_zeroing p (λ w. Fine (Whole c) w) (λ q next h. h) c.accesses (call_body (λ w. w) p c c.task)
      (subst (λ (s : Step (Unit {0})). Fine (Whole c) (s (λ _. Stop None))) (sym (loop_does p c c.task loop)) (indexes_fine c loop 0 c.length))

  -- a body that forks no index
  call_fine : (c : CallTree) → c.length ≡ 0 → (w : Script) → Keeps (K.Directly p (Whole c)) (Forks p (Whole c)) w → Fine (Whole c) w
  call_fine c none (Stop f) keeps = tt
  call_fine c none (Do q next) keeps = λ a. call_fine c none (next a) (keeps.1 a)
  call_fine c none (Fork (Whole d) w) keeps = call_fine c none w keeps.1
  call_fine c none (Fork (Index d i) w) keeps = let lt : i < c.length = keeps.0.1 in absurd (omega (arith, lt, none))

  index_fine : (c : CallTree) (i : ℕ) (w : Script) → Keeps (K.Directly p (Index c i)) (Forks p (Index c i)) w → Fine (Index c i) w
  index_fine c i (Stop f) keeps = tt
  index_fine c i (Do q next) keeps = λ a. index_fine c i (next a) (keeps.1 a)
  index_fine c i (Fork child w) keeps = absurd keeps.0

  -- what a body forks fits where the body does
  child_fits : (job child : Job) → FitsJob p job → Forks p job child → FitsJob p child
  child_fits (Whole call) (Whole child) fits h = h.fits
  child_fits (Whole call) (Index loop i) fits h = subst (λ (c : CallTree). Fits p c × (i < c.length)) (sym h.0) (fits, h.1)
  child_fits (Index call i) child fits h = absurd h

  fork_fits : (path : List ℕ) (k : ℕ) (child : Job) → FitsJob p child → FitsJob p (placed_fork path k child).job
  fork_fits path k (Whole call) fits = fits
  fork_fits path k (Index call i) fits = fits

  abbrev FitsPlaced : Placed → Type 0
  FitsPlaced c = FitsJob p c.job

  forks_fit : (job : Job) (path : List ℕ) (k : ℕ) (w : Script) (s : List ℕ) → Keeps (K.Directly p job) (Forks p job) w
      → ((child : Job) → Forks p job child → FitsJob p child) → AllOf FitsPlaced (alone m (placed path k w) s).forks
  forks_fit job path k (Stop f) s keeps fits = tt
  forks_fit job path k (Do act next) s keeps fits = forks_fit job path k (next (m.answer act s)) (m.after act s) (keeps.1 (m.answer act s)) fits
  forks_fit job path k (Fork c w) s keeps fits = (fork_fits path k c (fits c keeps.0), forks_fit job path (suc k) w s keeps.1 fits)

  abbrev One : Entry m → Type 0
  One e = HasOneList p e.call e.answers

  all_both : (xs ys : List (Entry m)) → AllOf One xs → AllOf One ys → AllOf One (xs ++ ys)
  all_both [] ys h k = k
  all_both (x ∷ xs) ys h k = (h.0, all_both xs ys h.1 k)

  abbrev AllOne : (Placed → List ℕ → Run m) → Type 0
  AllOne f = (c : Placed) (s : List ℕ) → FitsPlaced c → AllOf One (f c s).entries

  each_one : (f : Placed → List ℕ → Run m) → AllOne f → (cs : List Placed) → AllOf FitsPlaced cs → (s : List ℕ) → AllOf One (each m f cs s).entries
  each_one f all [] fits s = tt
  each_one f all (c ∷ cs) fits s =
      let x = f c s in
      all_both x.entries (each m f cs x.store).entries (all c s fits.0) (each_one f all cs fits.1 x.store)

  module _ (bodies : BodiesKeep) (ok : IsAccepted p) where
    kept : (job : Job) → FitsJob p job → Keeps (K.Directly p job) (Forks p job) (script_of p job)
    kept job fits = bodies (λ w. w) p ok job fits

    job_fine : (job : Job) → FitsJob p job → Fine job (script_of p job)
    job_fine (Whole c) fits = by_form (is_loop_at p c.task) refl
      where
        by_form : (b : Bool) → is_loop_at p c.task ≡ b → Fine (Whole c) (script_of p (Whole c))
        by_form true loop = loop_fine c loop
        by_form false none = call_fine c (no_length p c fits none) (script_of p (Whole c)) (kept (Whole c) fits)
    job_fine (Index c i) fits = index_fine c i (script_of p (Index c i)) (kept (Index c i) fits)

    pub body_one : (body : Placed) → FitsPlaced body → (answers : List ℕ) → HasOneList p body answers
    body_one body fits answers = reads body.job body.path 1 (script_of p body.job) (job_fine body.job fits) answers

    pub whole_one : (n : ℕ) → AllOne (whole_within m n)
    whole_one zero c s fits = (body_one c fits (alone m (m.tree c) s).answers, tt)
    whole_one (suc n) c s fits =
        let a = alone m (m.tree c) s in
        let more = forks_fit c.job c.path 1 (script_of p c.job) s (kept c.job fits) (λ child h. child_fits c.job child fits h) in
        (body_one c fits a.answers, each_one (whole_within m n) (whole_one n) a.forks more a.store)

pub bodies_have_one_list : BodiesKeep → BodiesHaveOneList
bodies_have_one_list bodies p ok body fits answers = body_one p bodies ok body fits answers

pub entries_have_one_list : BodiesKeep → EntriesHaveOneList
unfolding reference
entries_have_one_list bodies p ok input =
    whole_one p bodies ok ((machine_of p).height main_placed) main_placed (opened_with p.families input) (is_main refl)
