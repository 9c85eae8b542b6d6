-- The bodies of an accepted program keep to the rights of their calls.
use Rattle.std.proofs.Common.{◌≡◌, ◌≤◌, ◌<◌, ℕ, zero, suc, ◌+◌, ◌-◌, Bool, true, false, List, [], ◌∷◌, ◌++◌, length, map, Option, Some, None, refl, sym, ap, subst, arith, nat_lt, if◌then◌else◌}
use Rattle.kt_order.specs.Body.{Keeps, Stop}
use Rattle.kt_law.specs.declared.limits.TheConstants.{ACCESSES, DEFINITIONS, ELEMENTS, INTS, OBJECTS, STEPS}
use Rattle.kt_law.specs.Acts.{Act}
use Rattle.kt_law.specs.declared.accesses.Access.{Access}
use Rattle.kt_prog.specs.Calls.{CallTree, Job, Whole, Index}
use Rattle.kt_prog.specs.Script.{Script}
use Rattle.kt_prog.specs.Locals.{given}
use Rattle.kt_prog.specs.Objects.{objects_of, elements_of, width_of}
use Rattle.kt_prog.specs.Targets.{Target, target, target_of, is_loop_of}
use Rattle.kt_prog.specs.Bodies.{statements, site_of, task_body, main_body, with_index, index_body, task_at, indexes, task_or_loop, index_in, call_body, job_body, script_with}
use Rattle.kt_prog.specs.Kernels.{kernel_body}
use Rattle.kt_prog.specs.Scope.{Scope, known_param, known_index}
use Rattle.kt_prog.specs.declared.sight.Known.{Known}
use Rattle.kt_prog.specs.StatementRules.{block_rules, rules_of_stmt}
use Rattle.kt_prog.specs.Declarations.{no_params, declared_in, names_twice, main_rules, family_rules, count_rules, param_rules}
use Rattle.kt_prog.specs.Accepted.{task_scope, main_scope, task_rules, mains_rules, broken, IsAccepted}
use Rattle.kt_prog.specs.Laws.{IsDirect, LoopsAreDirect}
use Rattle.kt_rights.specs.Rights.{SomeOf, EachOf, Covers, Allowed}
use Rattle.kt_prog.specs.Rights.{MayFork, rights_at, rights_of, Directly, Forks}
use Rattle.kt_prog.specs.Fits.{Inside, FitsTarget, target_at, task_target, kernel_at, Fits, is_main, is_call, FitsJob}
use Rattle.kt_prog.specs.declared.scope.Local.{Local}
use Rattle.kt_prog.specs.declared.programs.Program.{Program}
use Rattle.kt_prog.specs.declared.programs.Task.{Task}
use Rattle.kt_prog.specs.declared.programs.Main.{Main}
use Rattle.kt_prog.specs.declared.programs.Param.{Param}
use Rattle.kt_prog.specs.declared.programs.Index as I
use Rattle.kt_prog.specs.declared.programs.Stmt.{Stmt}
use Rattle.kt_prog.proofs.Good.{Good, good_give, good_then, good_fork}
use Rattle.kt_prog.proofs.Lists.{left_none, right_none}
use Rattle.kt_prog.proofs.Matches.{FamiliesMatch, Agrees, Matches}
use Rattle.kt_prog.proofs.Statements.{body_keeps, Ends}
use Rattle.kt_prog.proofs.Targets.{few_tasks, target_is, task_of}
use Rattle.kt_prog.proofs.Params.{params_given, params_room, params_direct}
use Rattle.kt_prog.proofs.Families.{AllThere, all_there, limits_kept, families_found}
use Rattle.kt_prog.proofs.Zeros.{zeros_all}
use Rattle.kt_prog.proofs.Kernels.{kernel_good}

-- the breaches of an accepted program's parts
pub record Parts (p : Program) : Type 0 where
  pub families : AllThere p.families
  pub small : (objects_of p.families ≤ OBJECTS) × (elements_of p.families ≤ ELEMENTS)
  pub few : length p.tasks ≤ DEFINITIONS
  pub tasks : task_rules p p.tasks ≡ []
  pub mains : mains_rules p p.mains ≡ []
  pub main : main_rules p.end p.mains ≡ []

pub parts : (p : Program) → IsAccepted p → Parts p
unfolding broken
parts p h =
    let twice = names_twice (declared_in p) (declared_in p) in
    let main = main_rules p.end p.mains in
    let families = family_rules 0 0 p.families in
    let counts = count_rules 0 p.tasks in
    let tasks = task_rules p p.tasks in
    let mains = mains_rules p p.mains in
    let e5 : twice ++ main ++ families ++ counts ++ tasks ≡ [] = left_none (twice ++ main ++ families ++ counts ++ tasks) mains h in
    let e4 : twice ++ main ++ families ++ counts ≡ [] = left_none (twice ++ main ++ families ++ counts) tasks e5 in
    let e3 : twice ++ main ++ families ≡ [] = left_none (twice ++ main ++ families) counts e4 in
    let limits = limits_kept p.families 0 0 (right_none (twice ++ main) families e3) (omega arith) (omega arith) in
    let objects : 0 + objects_of p.families ≤ OBJECTS = limits.0 in
    let elements : 0 + elements_of p.families ≤ ELEMENTS = limits.1 in
    record {
      small = (omega arith, omega arith);
      families = all_there p.families 0 0 (right_none (twice ++ main) families e3);
      few = omega (arith, few_tasks p.tasks 0 (right_none (twice ++ main ++ families) counts e4) (omega arith));
      tasks = right_none (twice ++ main ++ families ++ counts) tasks e5;
      mains = right_none (twice ++ main ++ families ++ counts ++ tasks) mains h;
      main = right_none twice main (left_none (twice ++ main) families e3);
    }

same_target : {x t : Target} → Some x ≡ Some t → x ≡ t
same_target e = cc

abbrev Nothing : Unit {0} → Type 0
Nothing x = Unit {0}

module _ (lost : Script → Script) (p : Program) (ok : Parts p) where
  -- a fork hands a call on that fits
  handed : (rights : List Access) (depth : ℕ) (own : Option ℕ) (H : Job → Type 0)
      → ((call : CallTree) → own ≡ None → MayFork p rights depth call → H (Whole call))
      → own ≡ None → (name : List ℕ) (t : Target) → target_of p.tasks name ≡ Some t → (call : CallTree)
      → FitsTarget (objects_of p.families) call t → call.depth ≡ suc depth → EachOf (λ b. SomeOf (Covers b) rights) call.accesses
      → H (Whole call)
  handed rights depth own H on none name t is call fits deeper covered =
      on call none (record {
        fits = is_call t (subst (λ (n : ℕ). target_at p.tasks n ≡ Some t) (sym fits.number)
            (target_is p.tasks name t ok.few is)) fits;
        deeper = deeper;
        covered = covered;
      })

  -- the rules of one task
  pub record RulesOf (t : Task) : Type 0 where
    pub params : param_rules (is_loop_of t.index) (known_index t.index) (record { ints = 0; objects = 0 }) t.params ≡ []
    pub body : block_rules (map rules_of_stmt t.body) (task_scope p t) ≡ []

  rules_at : (tasks : List Task) (k : ℕ) (t : Task) → task_rules p tasks ≡ [] → task_at tasks k ≡ Some t → RulesOf t
  rules_at [] k t h e = cc
  rules_at (u ∷ tasks) zero t h e =
      let params = param_rules (is_loop_of u.index) (known_index u.index) (record { ints = 0; objects = 0 }) u.params in
      let body = block_rules (map rules_of_stmt u.body) (task_scope p u) in
      let first = left_none (params ++ body) (task_rules p tasks) h in
      let same : u ≡ t = cc in
      subst RulesOf same (record { params = left_none params body first; body = right_none params body first })
  rules_at (u ∷ tasks) (suc k) t h e =
      let params = param_rules (is_loop_of u.index) (known_index u.index) (record { ints = 0; objects = 0 }) u.params in
      let body = block_rules (map rules_of_stmt u.body) (task_scope p u) in
      rules_at tasks k t (right_none (params ++ body) (task_rules p tasks) h) e

  length-known : (params : List Param) → length (map known_param params) ≡ length params
  length-known [] = refl
  length-known (q ∷ params) = ap suc (length-known params)

  -- statements of a task or of an index
  module _ (rights : List Access) (depth : ℕ) (own : Option ℕ) (H : Job → Type 0)
      (on : (call : CallTree) → own ≡ None → MayFork p rights depth call → H (Whole call))
      (room : EachOf (Inside (objects_of p.families)) rights) where
    statements_good : (in_main : Bool) (fam : in_main ≡ true → FamiliesMatch (site_of p in_main depth) rights own) (s : Scope)
        (locals : List Local) (body : List Stmt)
        → Agrees (site_of p in_main depth) rights own s locals → block_rules (map rules_of_stmt body) s ≡ []
        → Good (Allowed (width_of p.families) rights own) H Nothing (statements lost (site_of p in_main depth) locals body)
    statements_good in_main fam s locals body a h =
        good_then _ H (Ends lost (site_of p in_main depth) rights own H fam (objects_of p.families) room (handed rights depth own H on) s) Nothing _ _
        (body_keeps lost (site_of p in_main depth) rights own H fam (objects_of p.families) room (handed rights depth own H on) body s
        (record { locals = locals; steps = STEPS }) a h)
        (λ st e. good_give _ H Nothing tt tt)

  pub task_good : (call : CallTree) (t : Task) (n : ℕ) (H : Job → Type 0) → RulesOf t → t.index ≡ None
      → FitsTarget (objects_of p.families) call (target n t)
      → ((child : CallTree) → MayFork p call.accesses call.depth child → H (Whole child))
      → Good (Allowed (width_of p.families) call.accesses None) H Nothing (task_body lost p call (Some t))
  task_good call t n H r none fits on =
      let site = site_of p false call.depth in
      let few = params_room (is_loop_of t.index) (known_index t.index) (record { ints = 0; objects = 0 }) t.params r.params (omega arith) (omega arith) in
      let count : length (map known_param t.params) ≡ length t.params = length-known t.params in
      let names = params_given site call.accesses None t.params call.ints call.accesses (λ P x. x) fits.given in
      let start = known_index t.index ++ map known_param t.params in
      let same : start ≡ map known_param t.params = ap (λ (i : Option I.Index). known_index i ++ map known_param t.params) none in
      let room : length (map known_param t.params) ≤ 1 + INTS + ACCESSES + 0 = omega (arith, few, count) in
      statements_good call.accesses call.depth None H (λ child _ h. on child h) fits.inside false (λ e. cc) (task_scope p t)
      (given t.params call.ints call.accesses) t.body
      (record {
        families = refl;
        tasks = refl;
        in_main = refl;
        loop = tt;
        names = subst (λ (names : List Known). Matches site call.accesses None names (given t.params call.ints call.accesses)) (sym same) names;
        room = subst (λ (names : List Known). length names ≤ 1 + INTS + ACCESSES + 0) (sym same) room;
      }) r.body

  loop_index : (index : Option I.Index) (length : ℕ) (i : ℕ) → i < length → (is_loop_of index ≡ false → length ≡ 0)
      → (x : I.Index) × (index ≡ Some x)
  loop_index None length i lt formed = let e : length ≡ 0 = formed refl in absurd (omega arith)
  loop_index (Some x) length i lt formed = (x, refl)

  pub index_good : (call : CallTree) (t : Task) (n i : ℕ) (H : Job → Type 0) → RulesOf t
      → FitsTarget (objects_of p.families) call (target n t) → i < call.length
      → Good (Allowed (width_of p.families) call.accesses (Some i)) H Nothing (index_body lost p call i (Some t))
  index_good call t n i H r fits lt =
      let site = site_of p false call.depth in
      let loop = loop_index t.index call.length i lt fits.formed in
      let few = params_room (is_loop_of t.index) (known_index t.index) (record { ints = 0; objects = 0 }) t.params r.params (omega arith) (omega arith) in
      let count : length (map known_param t.params) ≡ length t.params = length-known t.params in
      let names = params_given site call.accesses (Some i) t.params call.ints call.accesses (λ P x. x) fits.given in
      let start = given t.params call.ints call.accesses in
      let locals = with_index t.index i start in
      let begun : Matches site call.accesses (Some i) (known_index (Some loop.0) ++ map known_param t.params)
      (with_index (Some loop.0) i start) = (refl, refl, names) in
      let room : suc (length (map known_param t.params)) ≤ 1 + INTS + ACCESSES + 0 = omega (arith, few, count) in
      statements_good call.accesses call.depth (Some i) H (λ child none h. cc) fits.inside false (λ e. cc) (task_scope p t) locals t.body
      (record {
        families = refl;
        tasks = refl;
        in_main = refl;
        loop = ap is_loop_of loop.1;
        names = subst (λ (x : Option I.Index). Matches site call.accesses (Some i) (known_index x ++ map known_param t.params)
            (with_index x i start)) (sym loop.1) begun;
        room = subst (λ (x : Option I.Index). length (known_index x ++ map known_param t.params) ≤ 1 + INTS + ACCESSES + 0) (sym loop.1) room;
      }) r.body

  main_good : (mains : List Main) (H : Job → Type 0) → main_rules p.end mains ≡ [] → mains_rules p mains ≡ []
      → ((child : CallTree) → MayFork p (rights_at (objects_of p.families) [] 0) 0 child → H (Whole child))
      → Good (Allowed (width_of p.families) (rights_at (objects_of p.families) [] 0) None) H Nothing (main_body lost p mains)
  main_good [] H there h on = cc
  main_good (m ∷ mains) H there h on =
      let rights = rights_at (objects_of p.families) [] 0 in
      statements_good rights 0 None H (λ child _ x. on child x) (omega arith, tt) true
      (λ e name. families_found (site_of p true 0) (objects_of p.families) p.families 0 name ok.families (omega arith)) (main_scope p) [] m.body
      (record { families = refl; tasks = refl; in_main = refl; loop = tt; names = tt; room = omega arith })
      (left_none (block_rules (map rules_of_stmt m.body) (main_scope p)) (mains_rules p mains) h)

  indexes_good : (call : CallTree) (D : Act → Type 0) (i n : ℕ) → i + n ≤ call.length
      → Good D (Forks p (Whole call)) Nothing (indexes call i n)
  indexes_good call D i zero le = good_give D (Forks p (Whole call)) Nothing tt tt
  indexes_good call D i (suc n) le =
      let lt : i < call.length = omega arith in
      good_then D (Forks p (Whole call)) Nothing Nothing _ _ (good_fork D (Forks p (Whole call)) (Index call i) (refl, lt))
      (λ _ _. indexes_good call D (suc i) n (omega arith))

  -- a call of the task or loop t
  body_good : (call : CallTree) (t : Task) (n : ℕ) (x : Option I.Index) → t.index ≡ x → RulesOf t
      → FitsTarget (objects_of p.families) call (target n t) → rights_of p call ≡ call.accesses
      → Good (Allowed (width_of p.families) call.accesses None) (Forks p (Whole call)) Nothing (task_or_loop lost p call (Some t) x)
  body_good call t n None e r fits same =
      task_good call t n (Forks p (Whole call)) r e fits (λ child h. subst (λ (rights : List Access). MayFork p rights call.depth child) (sym same) h)
  body_good call t n (Some index) e r fits same = indexes_good call (Allowed (width_of p.families) call.accesses None) 0 call.length (omega arith)

  numbered_good : (call : CallTree) (k : ℕ) (t : Target) → call.task ≡ suc k → target_at p.tasks (suc k) ≡ Some t
      → FitsTarget (objects_of p.families) call t
      → Good (Allowed (width_of p.families) call.accesses None) (Forks p (Whole call)) Nothing (call_body lost p call (suc k))
  numbered_good call k t e is fits = chosen (nat_lt k DEFINITIONS) (task_target p.tasks 1 k) (kernel_at (k - DEFINITIONS)) is
      (λ f. let u = task_of p.tasks 1 k t f in
      subst (λ (y : Option Task). Good (Allowed (width_of p.families) call.accesses None) (Forks p (Whole call)) Nothing
      (task_or_loop lost p call y (index_in y))) (sym u.at)
      (body_good call u.task (1 + k) u.task.index refl (rules_at p.tasks k u.task ok.tasks u.at)
      (subst (λ (y : Target). FitsTarget (objects_of p.families) call y) u.is fits) (ap (rights_at (objects_of p.families) call.accesses) e)))
      (λ f. kernel_good (width_of p.families) (Forks p (Whole call)) (k - DEFINITIONS) call.ints call.accesses t f fits.given)
    where
      chosen : (b : Bool) (x y : Option Target) → (if b then x else y) ≡ Some t
          → (x ≡ Some t → Good (Allowed (width_of p.families) call.accesses None) (Forks p (Whole call)) Nothing
          (task_or_loop lost p call (task_at p.tasks k) (index_in (task_at p.tasks k))))
          → (y ≡ Some t → Good (Allowed (width_of p.families) call.accesses None) (Forks p (Whole call)) Nothing
          (kernel_body (width_of p.families) (k - DEFINITIONS) call.ints call.accesses))
          → Good (Allowed (width_of p.families) call.accesses None) (Forks p (Whole call)) Nothing
          (if b then task_or_loop lost p call (task_at p.tasks k) (index_in (task_at p.tasks k)) else kernel_body (width_of p.families)
          (k - DEFINITIONS) call.ints call.accesses)
      chosen true x y h f g = f h
      chosen false x y h f g = g h

  -- after the zeroing
  after_good : (call : CallTree) (n : ℕ) → call.task ≡ n → Fits p call
      → Good (Directly p (Whole call)) (Forks p (Whole call)) Nothing (call_body lost p call n)
  after_good call zero e (is_main main) =
      let deep : call.depth ≡ 0 = ap (λ (c : CallTree). c.depth) main in
      let same : rights_of p call ≡ rights_at (objects_of p.families) [] 0 = ap (rights_at (objects_of p.families) call.accesses) e in
      subst (λ (rights : List Access). Good (Allowed (width_of p.families) rights None) (Forks p (Whole call)) Nothing (main_body lost p p.mains)) (sym same)
      (main_good p.mains (Forks p (Whole call)) ok.main ok.mains
      (λ child h. subst (λ (rights : List Access). MayFork p rights call.depth child) (sym same)
      (subst (λ (d : ℕ). MayFork p (rights_at (objects_of p.families) [] 0) d child) (sym deep) h)))
  after_good call zero e (is_call t is fits) = absurd (no_target (subst (λ (n : ℕ). target_at p.tasks n ≡ Some t) e is))
    where
      no_target : target_at p.tasks 0 ≡ Some t → ⊥
      no_target h = cc
  after_good call (suc k) e (is_main main) = let task : call.task ≡ 0 = ap (λ (c : CallTree). c.task) main in absurd (omega (arith, e, task))
  after_good call (suc k) e (is_call t is fits) =
      subst (λ (rights : List Access). Good (Allowed (width_of p.families) rights None) (Forks p (Whole call)) Nothing (call_body lost p call (suc k)))
      (sym (ap (rights_at (objects_of p.families) call.accesses) e))
      (numbered_good call k t e (subst (λ (n : ℕ). target_at p.tasks n ≡ Some t) e is) fits)

  -- the accesses of a call are among its rights
  among : (call : CallTree) (n : ℕ) → call.task ≡ n → Fits p call → (P : Access → Type 0) → SomeOf P call.accesses
      → SomeOf P (rights_of p call)
  among call zero e (is_main main) P s = absurd (subst (λ (c : CallTree). SomeOf P c.accesses) main s)
  among call zero e (is_call t is fits) P s = absurd (no_target (subst (λ (n : ℕ). target_at p.tasks n ≡ Some t) e is))
    where
      no_target : target_at p.tasks 0 ≡ Some t → ⊥
      no_target h = cc
  among call (suc k) e fits P s = subst (λ (xs : List Access). SomeOf P xs) (sym (ap (rights_at (objects_of p.families) call.accesses) e)) s

  kernel_no_loop : (k : ℕ) (t : Target) → kernel_at k ≡ Some t → t.is_loop ≡ false
  kernel_no_loop zero t h = sym (ap (λ (y : Target). y.is_loop) (same_target h))
  kernel_no_loop (suc zero) t h = sym (ap (λ (y : Target). y.is_loop) (same_target h))
  kernel_no_loop (suc (suc zero)) t h = sym (ap (λ (y : Target). y.is_loop) (same_target h))
  kernel_no_loop (suc (suc (suc zero))) t h = sym (ap (λ (y : Target). y.is_loop) (same_target h))
  kernel_no_loop (suc (suc (suc (suc k)))) t h = cc

  indexed_good : (call : CallTree) (i k : ℕ) (t : Target) → target_at p.tasks (suc k) ≡ Some t → FitsTarget (objects_of p.families) call t
      → i < call.length
      → Good (Allowed (width_of p.families) call.accesses (Some i)) (Forks p (Index call i)) Nothing (index_body lost p call i (task_at p.tasks k))
  indexed_good call i k t is fits lt = chosen (nat_lt k DEFINITIONS) (task_target p.tasks 1 k) (kernel_at (k - DEFINITIONS)) is
      (λ f. let u = task_of p.tasks 1 k t f in
      subst (λ (y : Option Task). Good (Allowed (width_of p.families) call.accesses (Some i)) (Forks p (Index call i)) Nothing (index_body lost p call i y)) (sym u.at)
      (index_good call u.task (1 + k) i (Forks p (Index call i)) (rules_at p.tasks k u.task ok.tasks u.at)
      (subst (λ (y : Target). FitsTarget (objects_of p.families) call y) u.is fits) lt))
      (λ f. let none : call.length ≡ 0 = fits.formed (kernel_no_loop (k - DEFINITIONS) t f) in absurd (omega arith))
    where
      chosen : (b : Bool) (x y : Option Target) → (if b then x else y) ≡ Some t
          → (x ≡ Some t → Good (Allowed (width_of p.families) call.accesses (Some i)) (Forks p (Index call i)) Nothing (index_body lost p call i (task_at p.tasks k)))
          → (y ≡ Some t → Good (Allowed (width_of p.families) call.accesses (Some i)) (Forks p (Index call i)) Nothing (index_body lost p call i (task_at p.tasks k)))
          → Good (Allowed (width_of p.families) call.accesses (Some i)) (Forks p (Index call i)) Nothing (index_body lost p call i (task_at p.tasks k))
      chosen true x y h f g = f h
      chosen false x y h f g = g h

  of_index_good : (call : CallTree) (i n : ℕ) → call.task ≡ n → Fits p call → i < call.length
      → Good (Directly p (Index call i)) (Forks p (Index call i)) Nothing (index_body lost p call i (task_at p.tasks (call.task - 1)))
  of_index_good call i n e (is_main main) lt = let long : call.length ≡ 0 = ap (λ (c : CallTree). c.length) main in absurd (omega (arith, long, lt))
  of_index_good call i zero e (is_call t is f) lt = absurd (no_target (subst (λ (n : ℕ). target_at p.tasks n ≡ Some t) e is))
    where
      no_target : target_at p.tasks 0 ≡ Some t → ⊥
      no_target h = cc
  of_index_good call i (suc k) e (is_call t is f) lt =
      let less : call.task - 1 ≡ k = omega (arith, e) in
      subst (λ (rights : List Access). Good (Allowed (width_of p.families) rights (Some i)) (Forks p (Index call i)) Nothing
      (index_body lost p call i (task_at p.tasks (call.task - 1)))) (sym (ap (rights_at (objects_of p.families) call.accesses) e))
      (subst (λ (m : ℕ). Good (Allowed (width_of p.families) call.accesses (Some i)) (Forks p (Index call i)) Nothing
      (index_body lost p call i (task_at p.tasks m))) (sym less)
      (indexed_good call i k t (subst (λ (n : ℕ). target_at p.tasks n ≡ Some t) e is) f lt))

  job_good : (job : Job) → FitsJob p job → Good (Directly p job) (Forks p job) Nothing (job_body lost p job)
  job_good (Whole call) fits =
      good_then (Directly p (Whole call)) (Forks p (Whole call)) Nothing Nothing _ _
      (zeros_all (width_of p.families) (rights_of p call) (Forks p (Whole call)) call.accesses (among call call.task refl fits))
      (λ _ _. after_good call call.task refl fits)
  job_good (Index call i) fits = of_index_good call i call.task refl fits.0 fits.1

  -- the operations of a job lie in its rights, and what it forks fits and is handed on
  pub keeps : (job : Job) → FitsJob p job → Keeps (Directly p job) (Forks p job) (script_with lost p job)
  unfolding script_with
  keeps job fits = (job_good job fits).keeps (λ _. Stop None) (λ x h. tt)

  -- the accesses of the task or loop t, if it is a loop, are direct
  loop_direct : (call : CallTree) (t : Task) (n i : ℕ) → RulesOf t → FitsTarget (objects_of p.families) call (target n t) → i < call.length
      → EachOf IsDirect call.accesses
  loop_direct call t n i r fits lt =
      let loop = loop_index t.index call.length i lt fits.formed in
      let rules = subst (λ (b : Bool). param_rules b (known_index t.index) no_params t.params ≡ []) (ap is_loop_of loop.1) r.params in
      params_direct t.params (known_index t.index) no_params call.ints call.accesses rules fits.given

  numbered_direct : (call : CallTree) (i k : ℕ) (t : Target) → target_at p.tasks (suc k) ≡ Some t → FitsTarget (objects_of p.families) call t
      → i < call.length → EachOf IsDirect call.accesses
  numbered_direct call i k t is fits lt = chosen (nat_lt k DEFINITIONS) (task_target p.tasks 1 k) (kernel_at (k - DEFINITIONS)) is
      (λ f. let u = task_of p.tasks 1 k t f in
      loop_direct call u.task (1 + k) i (rules_at p.tasks k u.task ok.tasks u.at) (subst (FitsTarget (objects_of p.families) call) u.is fits) lt)
      (λ f. let none : call.length ≡ 0 = fits.formed (kernel_no_loop (k - DEFINITIONS) t f) in absurd (omega arith))
    where
      chosen : (b : Bool) (x y : Option Target) → (if b then x else y) ≡ Some t → (x ≡ Some t → EachOf IsDirect call.accesses)
          → (y ≡ Some t → EachOf IsDirect call.accesses) → EachOf IsDirect call.accesses
      chosen true x y h f g = f h
      chosen false x y h f g = g h

  indexes_direct : (call : CallTree) (i n : ℕ) → call.task ≡ n → Fits p call → i < call.length → EachOf IsDirect call.accesses
  indexes_direct call i n e (is_main main) lt = let long : call.length ≡ 0 = ap (λ (c : CallTree). c.length) main in absurd (omega (arith, long, lt))
  indexes_direct call i zero e (is_call t is f) lt = absurd (no_target (subst (λ (n : ℕ). target_at p.tasks n ≡ Some t) e is))
    where
      no_target : target_at p.tasks 0 ≡ Some t → ⊥
      no_target h = cc
  indexes_direct call i (suc k) e (is_call t is f) lt = numbered_direct call i k t (subst (λ (n : ℕ). target_at p.tasks n ≡ Some t) e is) f lt

  pub loops_direct : (call : CallTree) (i : ℕ) → FitsJob p (Index call i) → EachOf IsDirect call.accesses
  loops_direct call i fits = indexes_direct call i call.task refl fits.0 fits.1

-- The law: whatever is done where a rule was broken, the bodies of an accepted program keep to the rights of their calls.
-- So at no place a rule was broken, since what is done there might be an act that no right lets a body do.
pub plain : (lost : Script → Script) (p : Program) → IsAccepted p → (job : Job) → FitsJob p job
    → Keeps (Directly p job) (Forks p job) (script_with lost p job)
plain lost p h = keeps lost p (parts p h)

pub few_objects : (p : Program) → IsAccepted p → (objects_of p.families ≤ OBJECTS) × (elements_of p.families ≤ ELEMENTS)
few_objects p h = (parts p h).small

-- a loop that has an index has direct modes alone
pub loops_are_direct : LoopsAreDirect
loops_are_direct p h call i fits = loops_direct (λ w. w) p (parts p h) call i fits
