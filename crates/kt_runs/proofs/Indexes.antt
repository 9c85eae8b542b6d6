-- The indexes of a loop are apart, fork nothing, and are all that the loop forks.
use Rattle.std.proofs.Common.{◌≡◌, ◌≢◌, ◌<◌, ◌≤◌, ℕ, zero, suc, ◌+◌, ◌-◌, Bool, true, false, List, [], ◌∷◌, length, Option, Some, None, inr, refl, sym, ap, subst, ◌∙◌, arith, nat_lt, is_some, if◌then◌else◌}
use Rattle.kt_law.specs.declared.limits.TheConstants.{DEFINITIONS}
use Rattle.kt_order.specs.Lists.{AllOf}
use Rattle.kt_order.specs.Body.{Keeps, Stop, Do, Fork}
use Rattle.kt_order.specs.Machine.{Code}
use Rattle.kt_order.specs.Trace.{hearing}
use Rattle.kt_order.specs.Stand.{Standing, stand, fork_first}
use Rattle.kt_order.specs.Loops.{forks_then, ForksNothing, Pairwise, AreIndexes}
use Rattle.kt_prog.specs.Calls.{CallTree, Whole, Index}
use Rattle.kt_prog.specs.Script.{Script, Step, ◌>>=◌, give, fork}
use Rattle.kt_prog.specs.Bodies.{script_with, script_of, indexes, task_at, index_in, task_or_loop, call_body}
use Rattle.kt_prog.specs.Kernels.{kernel_body}
use Rattle.kt_prog.specs.Operations.{is_loop_at}
use Rattle.kt_prog.specs.Laws.{BodiesKeep, LoopsAreDirect, IsDirect}
use Rattle.kt_prog.specs.Accepted.{IsAccepted}
use Rattle.kt_prog.specs.Fits.{Fits, is_main, is_call}
use Rattle.kt_prog.specs.Rights as K
use Rattle.kt_prog.specs.Rights.{rights_of, Forks}
use Rattle.kt_prog.specs.Reference.{Placed, placed, machine_of}
use Rattle.kt_prog.specs.declared.programs.Program.{Program}
use Rattle.kt_prog.specs.declared.programs.Index as I
use Rattle.kt_rights.specs.Rights.{EachOf, Apart}
use Rattle.kt_runs.specs.Plans.{plan_of}
use Rattle.kt_runs.specs.Rights.{rights_in}
use Rattle.kt_runs.specs.Loops.{index_calls}
use Rattle.kt_runs.proofs.Zeroes.{behind_zeroing}
use Rattle.kt_runs.proofs.Keeping.{numbered_rights, unalike}
use Rattle.kt_prog.specs.Objects.{width_of}

pub calls_length : (path : List ℕ) (call : CallTree) (i n : ℕ) → length (index_calls path call i n) ≡ n
calls_length path call i zero = refl
calls_length path call i (suc n) = ap suc (calls_length path call (suc i) n)

module _ (p : Program) where
  -- each way through the body forks n calls
  abbrev pub Forking : ℕ → Code (machine_of p) → Type 0
  Forking n (Stop f) = n ≡ 0
  Forking n (Do q k) = (a : ℕ) → Forking n (k a)
  Forking n (Fork c w) = (m : ℕ) × (n ≡ suc m) × Forking m w

  abbrev LeftForking : ℕ → Standing (machine_of p) → Type 0
  LeftForking n st = (k : ℕ) × (length st.forks + k ≡ n) × Forking k st.left

  -- what was forked and what is left to fork are n together
  pub stand_forking : (w : Code (machine_of p)) (answers : List ℕ) (done : ℕ) (st : Standing (machine_of p)) (n : ℕ)
      → stand (machine_of p) w answers done ≡ Some st → Forking n w → LeftForking n st
  stand_forking w [] zero st n h forks = subst (LeftForking n) (the_same h) (n, omega arith, forks)
    where
      the_same : {X : Type 0} → {x y : X} → Some x ≡ Some y → x ≡ y
      the_same e = cc
  stand_forking w (a ∷ more) zero st n h forks = cc
  stand_forking (Stop f) [] (suc zero) st n h forks = subst (LeftForking n) (the_same h) (n, omega arith, forks)
    where
      the_same : {X : Type 0} → {x y : X} → Some x ≡ Some y → x ≡ y
      the_same e = cc
  stand_forking (Stop f) [] (suc (suc d)) st n h forks = cc
  stand_forking (Stop f) (a ∷ more) (suc d) st n h forks = cc
  stand_forking (Do q k) answers (suc d) st n h forks =
      heard ((machine_of p).asks q) answers h (λ a more e. stand_forking (k a) more d st n e (forks a))
    where
      heard : (asks : Bool) (answers : List ℕ) → hearing (machine_of p) asks None (λ a more. stand (machine_of p) (k a) more d) answers ≡ Some st
          → ((a : ℕ) (more : List ℕ) → stand (machine_of p) (k a) more d ≡ Some st → LeftForking n st) → LeftForking n st
      heard true [] e f = cc
      heard true (a ∷ more) e f = f a more e
      heard false answers e f = f 0 answers e
  stand_forking (Fork c w) answers (suc d) st n h forks =
      first (stand (machine_of p) w answers d) h (λ s e. stand_forking w answers d s forks.0 e forks.2)
    where
      first : (o : Option (Standing (machine_of p))) → fork_first (machine_of p) c o ≡ Some st
          → ((s : Standing (machine_of p)) → o ≡ Some s → LeftForking forks.0 s) → LeftForking n st
      first None e f = cc
      first (Some s) e f =
          let below = f s refl in
          let more : n ≡ suc forks.0 = forks.1 in
          let same : length s.forks + below.0 ≡ forks.0 = below.1 in
          subst (LeftForking n) (the_same e) (below.0, omega (arith, more, same), below.2)
        where
          the_same : {X : Type 0} → {x y : X} → Some x ≡ Some y → x ≡ y
          the_same e = cc

  pub forks_forking : (cs : List Placed) (k : ℕ) → Forking k (forks_then (machine_of p) cs None) → k ≡ length cs
  forks_forking [] k h = h
  forks_forking (c ∷ cs) k h = h.1 ∙ ap suc (forks_forking cs h.0 h.2)

  -- the body of a loop's call forks its indexes behind its zeroing
  pub loop_does : (c : CallTree) (n : ℕ) → is_loop_at p n ≡ true → call_body (λ w. w) p c n ≡ indexes c 0 c.length
  loop_does c zero h = cc
  loop_does c (suc k) h = chosen (nat_lt k DEFINITIONS) (index_in (task_at p.tasks k)) h
    where
      chosen : (b : Bool) (z : Option I.Index) → (if b then is_some z else false) ≡ true
          → (if b then task_or_loop (λ w. w) p c (task_at p.tasks k) z else kernel_body (width_of p.families) (k - DEFINITIONS) c.ints c.accesses)
          ≡ indexes c 0 c.length
      chosen true None e = cc
      chosen true (Some x) e = refl
      chosen false z e = cc

  indexes_forking : (c : CallTree) (path : List ℕ) (k i n : ℕ) → Forking n (placed path k (indexes c i n (λ _. Stop None)))
  unfolding ◌>>=◌ fork give
  indexes_forking c path k i zero = refl
  indexes_forking c path k i (suc n) = (n, refl, indexes_forking c path (suc k) (suc i) n)

  pub loop_forking : (c : CallTree) (path : List ℕ) → is_loop_at p c.task ≡ true → Forking c.length (placed path 1 (script_of p (Whole c)))
  unfolding script_with
  loop_forking c path loop =
      behind_zeroing p (λ w. Forking c.length (placed path 1 w)) (λ q next h. h) c.accesses (call_body (λ w. w) p c c.task)
      (subst (λ (s : Step (Unit {0})). Forking c.length (placed path 1 (s (λ _. Stop None)))) (sym (loop_does c c.task loop)) (indexes_forking c path 1 0 c.length))

  module _ (bodies : BodiesKeep) (direct : LoopsAreDirect) (ok : IsAccepted p) where
    nothing_forked : (c : CallTree) (i : ℕ) (path : List ℕ) (k : ℕ) (w : Script) → Keeps (K.Directly p (Index c i)) (Forks p (Index c i)) w
        → ForksNothing (machine_of p) (placed path k w)
    nothing_forked c i path k (Stop f) keeps = tt
    nothing_forked c i path k (Do q next) keeps = λ a. nothing_forked c i path k (next a) (keeps.1 a)
    nothing_forked c i path k (Fork child w) keeps = absurd keeps.0

    leaves : (path : List ℕ) (c : CallTree) (i n : ℕ) → Fits p c → i + n ≤ c.length
        → AllOf (λ (d : Placed). ForksNothing (machine_of p) ((machine_of p).tree d)) (index_calls path c i n)
    leaves path c i zero fits le = tt
    leaves path c i (suc n) fits le =
        let lt : i < c.length = omega (arith, le) in
        (nothing_forked c i path 1 (script_of p (Index c i)) (bodies (λ w. w) p ok (Index c i) (fits, lt)), leaves path c (suc i) n fits (omega (arith, le)))

    index_rights : (c : CallTree) (i : ℕ) → Fits p c → i < c.length → rights_of p c ≡ c.accesses
    index_rights c i (is_main main) lt = let none : c.length ≡ 0 = ap (λ (x : CallTree). x.length) main in absurd (omega (arith, none, lt))
    index_rights c i (is_call t is f) lt = numbered_rights p c t c.task refl is

    -- two indexes of the loop
    pub two_apart : (path : List ℕ) (c : CallTree) (i j : ℕ) → Fits p c → i < c.length → i ≢ j
        → Apart (plan_of p) (record { path = path; job = Index c i }) (record { path = path; job = Index c j })
    two_apart path c i j fits lt differ = inr (record {
      first = i;
      second = j;
      is_first = refl;
      is_second = refl;
      differ = differ;
      same = refl;
      direct = subst (EachOf IsDirect) (sym (index_rights c i fits lt)) (direct p ok c i (fits, lt));
      unalike = unalike p (Whole c) fits;
    })

    one_apart : (path : List ℕ) (c : CallTree) (i j n : ℕ) → Fits p c → i < c.length → i < j
        → AllOf (Apart (plan_of p) (record { path = path; job = Index c i })) (index_calls path c j n)
    one_apart path c i j zero fits lt less = tt
    one_apart path c i j (suc n) fits lt less =
        (two_apart path c i j fits lt (λ e. omega (arith, e, less)), one_apart path c i (suc j) n fits lt (omega (arith, less)))

    pairwise : (path : List ℕ) (c : CallTree) (i n : ℕ) → Fits p c → i + n ≤ c.length
        → Pairwise (machine_of p) (rights_in p) (index_calls path c i n)
    pairwise path c i zero fits le = tt
    pairwise path c i (suc n) fits le =
        (one_apart path c i (suc i) n fits (omega (arith, le)) (omega arith), pairwise path c (suc i) n fits (omega (arith, le)))

    pub are_indexes : (path : List ℕ) (c : CallTree) → Fits p c → AreIndexes (machine_of p) (rights_in p) (index_calls path c 0 c.length)
    are_indexes path c fits = record { apart = pairwise path c 0 c.length fits (omega arith); leaves = leaves path c 0 c.length fits (omega arith) }
