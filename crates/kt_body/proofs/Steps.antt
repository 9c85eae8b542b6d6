-- How moves follow one another.
use Rattle.std.proofs.Common.{◌≡◌, ℕ, List, [], ◌∷◌, ◌++◌, length, Some, ◌≤◌, Result, Ok, Err, refl, sym, ap, subst, ◌∙◌, append-nil}
use Rattle.std.specs.List.{slice_get}
use Rattle.std.proofs.lemmas.List.{append_assoc, length-append}
use Rattle.std.proofs.lemmas.Grind.{flat_map-append}
use Rattle.kt_law.specs.declared.faults.F.{F}
use Rattle.kt_law.specs.declared.limits.TheConstants.{ELEMENTS, OBJECTS}
use Rattle.kt_law.specs.Acts.{Store, Fold}
use Rattle.kt_law.specs.declared.operators.Op.{Op}
use Rattle.kt_prog.specs.Calls.{CallTree, Job, Whole}
use Rattle.kt_prog.specs.Objects.{objects_of, elements_of}
use Rattle.kt_prog.specs.Operations.{trace, end_of, operations, heard, IsNext}
use Rattle.kt_prog.specs.Script.{Script, Step, ◌>>=◌, give, stop, load, perform, fork}
use Rattle.kt_prog.specs.declared.programs.Program.{Program}
use Rattle.kt_prog.specs.declared.runs.Operation.{Operation}
use Rattle.kt_prog.specs.declared.runs.Operation.TheVariants as O
use Rattle.kt_prog.proofs.Plain.{few_objects}
use Rattle.kt_body.specs.Doing.{CanDo, Did, Refused, Found, Followed}
use Rattle.kt_body.specs.Endings.{IsCalled, WentThrough, answers_of}
use Rattle.kt_body.specs.Moves.{Ready, Waits, Moves, Halts, Can, Ran, RanGot, RanWent, RanTo, Still, gave, faulted, halted_in}
use Rattle.kt_body.specs.declared.ops.Early.{Early}
use Rattle.kt_body.specs.declared.ops.Early.TheVariants as early
use Rattle.kt_body.specs.declared.ops.Got.{Got}
use Rattle.kt_body.specs.declared.ops.Got.TheVariants as got
use Rattle.kt_body.specs.declared.ops.Went.{Went}
use Rattle.kt_body.specs.declared.ops.Went.TheVariants as went

at_middle : (xs : List Operation) (x : Operation) (ys : List Operation) → slice_get (xs ++ x ∷ ys) (length xs) ≡ Some x
at_middle [] x ys = refl
at_middle (z ∷ xs) x ys = at_middle xs x ys

answers_snoc : (done : List Operation) (op : Operation) → answers_of (done ++ op ∷ []) ≡ answers_of done ++ heard op
answers_snoc done op = flat_map-append heard done (op ∷ []) ∙ ap (λ (found : List ℕ). answers_of done ++ found) (append-nil (heard op))

-- one operation, and what is left behind it
abbrev pub Steps : Script → Operation → Script → Type 0
Steps s op t = (end : List Operation) (more : List ℕ) → trace end s (heard op ++ more) ≡ op ∷ trace end t more

pub load_steps : (object element a : ℕ) (go : ℕ → Script) → Steps (load object element go) (O.Load object element a) (go a)
unfolding load
load_steps object element a go end more = refl

pub store_steps : (object element v : ℕ) (go : Unit {0} → Script) → Steps (perform object element (Store v) go) (O.Store object element v) (go tt)
unfolding perform
store_steps object element v go end more = refl

pub fold_steps : (object element : ℕ) (op : Op) (v : ℕ) (go : Unit {0} → Script) → Steps (perform object element (Fold op v) go) (O.Fold object element op v) (go tt)
unfolding perform
fold_steps object element op v go end more = refl

pub fork_steps : (call : CallTree) (go : Unit {0} → Script) → Steps (fork (Whole call) go) (O.Fork call) (go tt)
unfolding fork
fork_steps call go end more = refl

module _ {S : Type 0} (at : S → Program → Job → List ℕ → ℕ → Type 0) (goes : S → Operation → S → Type 0) (halted : S → Type 0) where
  went_append : (x y z : S) (front back : List Operation) → WentThrough at goes halted x front y → WentThrough at goes halted y back z → WentThrough at goes halted x (front ++ back) z
  went_append x y z [] back e q = subst (λ (w : S). WentThrough at goes halted w back z) (sym e) q
  went_append x y z (op ∷ front) back (w, g, p) q = (w, g, went_append w y z front back p q)

module _ {S : Type 0} {at : S → Program → Job → List ℕ → ℕ → Type 0} {goes : S → Operation → S → Type 0} {halted : S → Type 0} where
  moves_refl : {x : S} {s : Script} → Moves at goes halted x s [] x s
  moves_refl {x} {s} = record {
    went = refl;
    traced = λ end more. refl;
    keeps = λ p job before r. subst (λ (d : List Operation). Ready at goes halted p job d x s) (sym (append-nil before)) r;
  }

  moves_trans : {x y z : S} {s t u : Script} {front done : List Operation} → Moves at goes halted x s front y t → Moves at goes halted y t done z u → Moves at goes halted x s (front ++ done) z u
  moves_trans {z} {s} {u} {front} {done} p q = record {
    went = went_append at goes halted _ _ _ front done p.went q.went;
    traced = λ end more.
        ap (λ (found : List ℕ). trace end s (found ++ more)) (flat_map-append heard front done)
        ∙ ap (λ (found : List ℕ). trace end s found) (append_assoc (answers_of front) (answers_of done) more)
        ∙ p.traced end (answers_of done ++ more)
        ∙ ap (λ (ops : List Operation). front ++ ops) (q.traced end more)
        ∙ sym (append_assoc front done (trace end u more));
    keeps = λ prog job before r.
        subst (λ (d : List Operation). Ready at goes halted prog job d z u) (append_assoc before front done)
        (q.keeps prog job (before ++ front) (p.keeps prog job before r));
  }

  moves_halts : {x y z : S} {s t : Script} {front done : List Operation} {refused : Operation} → Moves at goes halted x s front y t → Halts at goes halted y t done refused z → Halts at goes halted x s (front ++ done) refused z
  moves_halts {z} {s} {front} {done} {refused} p q = record {
    before = q.before;
    called = q.called;
    went = went_append at goes halted _ _ _ front done p.went q.went;
    rest = q.rest;
    traced = λ end.
        ap (λ (ops : List Operation). trace end s (answers_of ops)) (append_assoc front done (refused ∷ []))
        ∙ ap (λ (found : List ℕ). trace end s found) (flat_map-append heard front (done ++ refused ∷ []))
        ∙ p.traced end (answers_of (done ++ refused ∷ []))
        ∙ ap (λ (ops : List Operation). front ++ ops) (q.traced end)
        ∙ sym (append_assoc front done (refused ∷ q.rest end));
    keeps = λ prog job before r.
        subst (λ (d : List Operation). Waits at goes halted prog job d refused z) (append_assoc before front done)
        (q.keeps prog job (before ++ front) (p.keeps prog job before r));
    at_halt = q.at_halt;
  }

  next_is : (p : Program) (job : Job) (done : List Operation) (x : S) (s t : Script) (op : Operation) → Steps s op t → Ready at goes halted p job done x s → IsNext p job (answers_of done) (length done) op
  next_is p job done x s t op one r =
      let step : trace (end_of p job) s (heard op) ≡ op ∷ trace (end_of p job) t [] =
      ap (λ (found : List ℕ). trace (end_of p job) s found) (sym (append-nil (heard op))) ∙ one (end_of p job) [] in
      ap (λ (ops : List Operation). slice_get ops (length done)) (r.left (heard op) ∙ ap (λ (ops : List Operation). done ++ ops) step)
      ∙ at_middle done op (trace (end_of p job) t [])

  ready_next : (p : Program) (job : Job) (before : List Operation) (x y : S) (s t : Script) (op : Operation) → Steps s op t → Did at goes halted x op y → Ready at goes halted p job before x s → Ready at goes halted p job (before ++ op ∷ []) y t
  ready_next p job before x y s t op one d r = record {
    accepted = r.accepted;
    fits = r.fits;
    left = λ more.
        ap (λ (found : List ℕ). operations p job (found ++ more)) (answers_snoc before op)
        ∙ ap (λ (found : List ℕ). operations p job found) (append_assoc (answers_of before) (heard op) more)
        ∙ r.left (heard op ++ more)
        ∙ ap (λ (ops : List Operation). before ++ ops) (one (end_of p job) more)
        ∙ sym (append_assoc before (op ∷ []) (trace (end_of p job) t more));
    stands =
        let stood = d.stands p job (answers_of before) (length before) r.stands (next_is p job before x s t op one r) in
        subst (λ (found : List ℕ). at y p job found (length (before ++ op ∷ []))) (sym (answers_snoc before op))
        (subst (λ (n : ℕ). at y p job (answers_of before ++ heard op) n) (sym (length-append before (op ∷ []))) stood);
    running = d.running;
  }

  moved_one : (x y : S) (s t : Script) (op : Operation) → Steps s op t → Did at goes halted x op y → Moves at goes halted x s (op ∷ []) y t
  moved_one x y s t op one d = record {
    went = (y, d.went, refl);
    traced = λ end more. ap (λ (found : List ℕ). trace end s (found ++ more)) (append-nil (heard op)) ∙ one end more;
    keeps = λ p job before r. ready_next p job before x y s t op one d r;
  }

  refused_one : (x y : S) (s t : Script) (op : Operation) → IsCalled op → Steps s op t → Refused at goes halted x y → Halts at goes halted x s [] op y
  refused_one x y s t op called one d = record {
    before = x;
    called = called;
    went = refl;
    rest = λ end. trace end t [];
    traced = λ end. one end [];
    keeps = λ p job front r.
        subst (λ (d : List Operation). Waits at goes halted p job d op y) (sym (append-nil front)) (record {
          more = trace (end_of p job) t [];
          next = ap (λ (found : List ℕ). operations p job found) (flat_map-append heard front (op ∷ []))
              ∙ r.left (heard op ++ []) ∙ ap (λ (ops : List Operation). front ++ ops) (one (end_of p job) []);
          stands = d.stands p job (answers_of front) (length front) r.stands;
        });
    at_halt = d.at_halt;
  }

  -- an operation may be done
  pub can_do : {A : Type 0} (p : Program) (x : S) (m : Step A) (op : ℕ → Operation) (t : ℕ → (A → Script) → Script)
      → ((a : ℕ) (go : A → Script) → Steps (m go) (op a) (t a go)) → Can at goes halted p x m → CanDo at halted x op
  can_do p x m op t one c = record {
    program = p;
    job = c.job;
    answers = answers_of c.done;
    count = length c.done;
    accepted = c.ready.accepted;
    fits = c.ready.fits;
    stands = c.ready.stands;
    next = λ a. next_is p c.job c.done x (m c.go) (t a c.go) (op a) (one a c.go) c.ready;
    running = c.ready.running;
  }

  pub can_load : (p : Program) (x : S) (object element : ℕ) → Can at goes halted p x (load object element) → CanDo at halted x (λ a. O.Load object element a)
  can_load p x object element c =
      can_do p x (load object element) (λ a. O.Load object element a) (λ a go. go a) (λ a go. load_steps object element a go) c

  pub can_store : (p : Program) (x : S) (object element v : ℕ) → Can at goes halted p x (perform object element (Store v)) → CanDo at halted x (λ a. O.Store object element v)
  can_store p x object element v c =
      can_do p x (perform object element (Store v)) (λ a. O.Store object element v) (λ a go. go tt) (λ a go. store_steps object element v go) c

  pub can_fold : (p : Program) (x : S) (object element : ℕ) (op : Op) (v : ℕ) → Can at goes halted p x (perform object element (Fold op v)) → CanDo at halted x (λ a. O.Fold object element op v)
  can_fold p x object element op v c =
      can_do p x (perform object element (Fold op v)) (λ a. O.Fold object element op v) (λ a go. go tt) (λ a go. fold_steps object element op v go) c

  pub can_fork : (p : Program) (x : S) (call : CallTree) → Can at goes halted p x (fork (Whole call)) → CanDo at halted x (λ a. O.Fork call)
  can_fork p x call c = can_do p x (fork (Whole call)) (λ a. O.Fork call) (λ a go. go tt) (λ a go. fork_steps call go) c

  pub ran_give : {A : Type 0} (x : S) (a : A) → Ran at goes halted x (give a) x (Ok a)
  unfolding give
  ran_give x a = gave [] (λ go. moves_refl)

  -- a step that only gives a value
  pub ran_same : {A : Type 0} (x : S) (m : Step A) (a : A) → m ≡ give a → Ran at goes halted x m x (Ok a)
  ran_same x m a e = rw e (ran_give x a)

  pub ran_stop : {A : Type 0} (x : S) (f : F) (line : ℕ) → Ran at goes halted {A = A} x (stop f line) x (Err (early.Fault f line))
  unfolding stop
  ran_stop x f line = faulted [] (λ go. moves_refl)

  pub ran_then : {A B : Type 0} {x y z : S} {a : A} {r : Result B Early} (m : Step A) (f : A → Step B) → Ran at goes halted x m y (Ok a) → Ran at goes halted y (f a) z r → Ran at goes halted x (m >>= f) z r
  unfolding ◌>>=◌
  ran_then m f (gave front p) (gave done q) = gave (front ++ done) (λ go. moves_trans (p (λ v. f v go)) (q go))
  ran_then m f (gave front p) (faulted done q) = faulted (front ++ done) (λ go. moves_trans (p (λ v. f v go)) (q go))
  ran_then m f (gave front p) (halted_in done refused q) = halted_in (front ++ done) refused (λ go. moves_halts (p (λ v. f v go)) (q go))

  pub ran_err : {A B : Type 0} {x y : S} {e : Early} (m : Step A) (f : A → Step B) → Ran at goes halted x m y (Err e) → Ran at goes halted x (m >>= f) y (Err e)
  unfolding ◌>>=◌
  ran_err m f (faulted done p) = faulted done (λ go. p (λ v. f v go))
  ran_err m f (halted_in done refused p) = halted_in done refused (λ go. p (λ v. f v go))

  pub can_first : {A B : Type 0} {p : Program} {x : S} (m : Step A) (f : A → Step B) → Can at goes halted p x (m >>= f) → Can at goes halted p x m
  unfolding ◌>>=◌
  can_first m f c = record { go = λ v. f v c.go; job = c.job; done = c.done; ready = c.ready }

  pub can_next : {A B : Type 0} {p : Program} {x y : S} {a : A} (m : Step A) (f : A → Step B) → Can at goes halted p x (m >>= f) → Ran at goes halted x m y (Ok a) → Can at goes halted p y (f a)
  unfolding ◌>>=◌
  can_next m f c (gave done q) =
      record { go = c.go; job = c.job; done = c.done ++ done; ready = (q (λ v. f v c.go)).keeps _ c.job c.done c.ready }

  pub still_here : {A : Type 0} {p : Program} {x : S} (m : Step A) → Can at goes halted p x m → Still at goes halted p x m x m
  still_here m c = record { can = c; ends = λ z r q. q }

  pub still_is : {A : Type 0} {p : Program} {x y : S} (m n n' : Step A) → Still at goes halted p x m y n → n ≡ n' → Still at goes halted p x m y n'
  still_is m n n' s e = rw (← e) s

  pub still_can : {A B : Type 0} {p : Program} {x y : S} (m : Step B) (n : Step A) (f : A → Step B) → Still at goes halted p x m y (n >>= f) → Can at goes halted p y n
  still_can m n f s = can_first n f s.can

  pub still_next : {A B : Type 0} {p : Program} {x y z : S} {a : A} (m : Step B) (n : Step A) (f : A → Step B) → Still at goes halted p x m y (n >>= f) → Ran at goes halted y n z (Ok a) → Still at goes halted p x m z (f a)
  still_next m n f s q = record { can = can_next n f s.can q; ends = λ w r k. s.ends w r (ran_then n f q k) }

  pub still_err : {A B : Type 0} {p : Program} {x y z : S} {e : Early} (m : Step B) (n : Step A) (f : A → Step B) → Still at goes halted p x m y (n >>= f) → Ran at goes halted y n z (Err e) → Ran at goes halted x m z (Err e)
  still_err m n f s q = s.ends _ _ (ran_err n f q)

  pub still_to : {A : Type 0} {p : Program} {x y : S} (m n : Step A) (z : S) (a : A) (r : Result (Unit {0}) Early) → Still at goes halted p x m y n → RanTo at goes halted y n z a r → RanTo at goes halted x m z a r
  still_to m n z a (Ok done) s q = s.ends _ _ q
  still_to m n z a (Err e) s q = s.ends _ _ q

  pub can_small : {A : Type 0} {p : Program} {x : S} (m : Step A) → Can at goes halted p x m → (objects_of p.families ≤ OBJECTS) × (elements_of p.families ≤ ELEMENTS)
  can_small {p} m c = few_objects p c.ready.accepted

-- what the object's answers come to
module _ {S : Type 0} (at : S → Program → Job → List ℕ → ℕ → Type 0) (goes : S → Operation → S → Type 0) (halted : S → Type 0) where
  pub ran_load : (x y : S) (object element : ℕ) (r : Got) → Found at goes halted x (λ a. O.Load object element a) y r → RanGot at goes halted x (load object element) y r
  ran_load x y object element (got.Value a) d =
      gave (O.Load object element a ∷ []) (λ go. moved_one x y (load object element go) (go a) (O.Load object element a) (load_steps object element a go) d)
  ran_load x y object element got.Halt d =
      halted_in [] (O.Load object element 0) (λ go. refused_one x y (load object element go) (go 0) (O.Load object element 0) tt (load_steps object element 0 go) d)

  ran_went : (x y : S) (m : Step (Unit {0})) (op : Operation) → IsCalled op → ((go : Unit {0} → Script) → Steps (m go) op (go tt)) → (r : Went)
      → Followed at goes halted x op y r → RanWent at goes halted x m y r
  ran_went x y m op called one went.Went d = gave (op ∷ []) (λ go. moved_one x y (m go) (go tt) op (one go) d)
  ran_went x y m op called one went.Halt d = halted_in [] op (λ go. refused_one x y (m go) (go tt) op called (one go) d)

  pub ran_store : (x y : S) (object element v : ℕ) (r : Went) → Followed at goes halted x (O.Store object element v) y r
      → RanWent at goes halted x (perform object element (Store v)) y r
  ran_store x y object element v r d = ran_went x y (perform object element (Store v)) (O.Store object element v) tt (store_steps object element v) r d

  pub ran_fold : (x y : S) (object element : ℕ) (op : Op) (v : ℕ) (r : Went) → Followed at goes halted x (O.Fold object element op v) y r
      → RanWent at goes halted x (perform object element (Fold op v)) y r
  ran_fold x y object element op v r d = ran_went x y (perform object element (Fold op v)) (O.Fold object element op v) tt (fold_steps object element op v) r d

  pub ran_fork : (x y : S) (call : CallTree) (r : Went) → Followed at goes halted x (O.Fork call) y r → RanWent at goes halted x (fork (Whole call)) y r
  ran_fork x y call r d = ran_went x y (fork (Whole call)) (O.Fork call) tt (fork_steps call) r d
