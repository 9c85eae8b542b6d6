-- How the run stands between two tasks.
use Rattle.std.proofs.Common.{◌≡◌, ◌≤◌, ◌<◌, ℕ, zero, suc, ◌+◌, ◌-◌, Bool, true, false, if◌then◌else◌, is_some, nat_lt, List, [], ◌∷◌, ◌++◌, length, Option, Some, None, refl, sym, ap, ◌∙◌, subst, arith, append-nil}
use Rattle.std.proofs.lemmas.Bool.Decides.{nat_tests}
use Rattle.std.proofs.lemmas.Option.{slice_get_within}
use Rattle.kt_law.specs.declared.limits.TheConstants.{DEFINITIONS, DEPTH, TASKS}
use Rattle.kt_law.specs.declared.faults.F.{F}
use Rattle.kt_order.specs.Body.{Keeps}
use Rattle.kt_order.specs.Machine.{Machine}
use Rattle.kt_order.specs.Sequential.{Run, Alone, Entry, alone, still_at, whole}
use Rattle.kt_prog.specs.Accepted.{IsAccepted}
use Rattle.kt_prog.specs.Calls.{CallTree, Job, Whole, Index}
use Rattle.kt_prog.specs.Script.{Fault}
use Rattle.kt_prog.specs.Bodies.{script_of, index_in, task_at}
use Rattle.kt_prog.specs.Entries.{tasks_of, indexes_of, faults_of}
use Rattle.kt_prog.specs.Outcome.{answered, outcome_of}
use Rattle.kt_prog.specs.Fits.{Fits, is_main, is_call, kernel_at, target_at, task_target}
use Rattle.kt_prog.specs.Operations.{operations, end_of, is_loop_at, trace}
use Rattle.kt_prog.specs.Reference.{placed, machine_of, main_placed, opened_with, reference}
use Rattle.kt_prog.specs.Rights.{Directly, Forks}
use Rattle.kt_prog.specs.Runs.{FaultRun}
use Rattle.kt_prog.specs.Targets.{Target, is_loop_of, mul, minplus, stencil, scan}
use Rattle.kt_prog.specs.declared.programs.Index as I
use Rattle.kt_prog.specs.declared.programs.Program.{Program}
use Rattle.kt_prog.specs.declared.programs.Task.{Task}
use Rattle.kt_prog.specs.declared.runs.Operation.{Operation}
use Rattle.kt_prog.specs.declared.runs.Operation.TheVariants as O
use Rattle.kt_prog.proofs.Plain.{plain}
use Rattle.kt_prog.proofs.Targets.{task_of}
use Rattle.kt_body.specs.Endings.{Begins, EndsSo, answers_of}
use Rattle.kt_body.specs.declared.ops.Ended.{Ended}
use Rattle.kt_body.specs.declared.ops.Ended.TheVariants as E
use Rattle.kt_frames.specs.Owned.{Moves, stands_at, never}
use Rattle.kt_frames.specs.Rest.{EachCall, IsCallAt, GoodStack, waiting, waiting_below, rest_of, rest_below, answered_from, least_with, fault_of, IsLive, left, to_do, limit_ran, ended_ran, Finishes, stays, more, with_frames, IsClaimed, TurnIs}
use Rattle.kt_frames.specs.declared.turn.Turn.{Turn}
use Rattle.kt_frames.specs.declared.turn.Turn.TheVariants as T
use Rattle.kt_frames.specs.Stack.{Frame, Stack, opened, IsRunning, begun, begun_at, next_of, entry_path, path_over, finished_to}
use Rattle.kt_frames.specs.declared.owner.Owner.{Owner}
use Rattle.kt_frames.proofs.Layouts.{ended_none}
use Rattle.kt_frames.proofs.Alike.{OfCall, Alike, Went, goes_alike, forks_numbered, forks_each, calls_of, all_pushed, over_all, keeps_as, last_of, numbered, IsLast}
use Rattle.kt_frames.proofs.Rests.{Fitting, pushed_fit, pushed_over, with_children, rest_ended, rest_begun, rest_count, answered_noted, answered_limit, answered_still, good_at, fits_deep}

absurd_cons : (f : Frame) (below : List Frame) → f ∷ below ≡ [] → ⊥
absurd_cons f below e = cc

-- what one finish keeps
record Kin (p : Program) (s t : Stack) : Type 0 where
  pub good : GoodStack p s → GoodStack p t
  pub waits : waiting s ≡ waiting t
  pub tasks : s.tasks ≡ t.tasks
  pub room : s.room ≡ t.room
  pub rest : (store : List ℕ) → rest_of p s store ≡ rest_of p t store

kin_finished : (p : Program) (top : Frame) (below : List Frame) (tasks room : ℕ)
    → let s : Stack = record { top = top; below = below; tasks = tasks; room = room } in
    (below ≡ [] → ⊥) → next_of s ≡ None → Kin p s (finished_to below s)
kin_finished p top [] tasks room runs none = absurd (runs refl)
kin_finished p top (f ∷ below) tasks room runs none =
    let long = ended_none top.calls top.finished none in
    let s : Stack = record { top = top; below = f ∷ below; tasks = tasks; room = room } in
    let gone : length top.calls - top.finished ≡ 0 = omega arith in
    record {
      good = λ g. record { top = g.below.0; below = g.below.2 };
      waits = omega arith;
      tasks = refl;
      room = refl;
      rest = λ store. rest_ended p s store long;
    }

kin_all : (p : Program) (s t : Stack) → Finishes s t → Kin p s t
kin_all p s _ stays = record { good = λ g. g; waits = refl; tasks = refl; room = refl; rest = λ store. refl }
kin_all p s t (more {t = u} h runs none) =
    let one = kin_all p s u h in
    let two = kin_finished p u.top u.below u.tasks u.room runs none in
    record {
      good = λ g. two.good (one.good g);
      waits = one.waits ∙ two.waits;
      tasks = one.tasks ∙ two.tasks;
      room = one.room ∙ two.room;
      rest = λ store. one.rest store ∙ two.rest store;
    }

-- a call that is no loop's has no length
index_is : (x : Option I.Index) → is_loop_of x ≡ is_some x
index_is None = refl
index_is (Some index) = refl

loop_is : (x : Option Task) (t : Task) → x ≡ Some t → is_loop_of t.index ≡ is_some (index_in x)
loop_is None t e = cc
loop_is (Some u) t e =
    let same : u ≡ t = cc in
    subst (λ (y : Task). is_loop_of y.index ≡ is_some u.index) same (index_is u.index)

kernel_single : (k : ℕ) (t : Target) → kernel_at k ≡ Some t → t.is_loop ≡ false
kernel_single zero t e = let same : mul ≡ t = cc in subst (λ (x : Target). x.is_loop ≡ false) same refl
kernel_single (suc zero) t e = let same : minplus ≡ t = cc in subst (λ (x : Target). x.is_loop ≡ false) same refl
kernel_single (suc (suc zero)) t e = let same : stencil ≡ t = cc in subst (λ (x : Target). x.is_loop ≡ false) same refl
kernel_single (suc (suc (suc zero))) t e = let same : scan ≡ t = cc in subst (λ (x : Target). x.is_loop ≡ false) same refl
kernel_single (suc (suc (suc (suc k)))) t e = cc

module _ (p : Program) where
  target_single : (n : ℕ) (t : Target) → is_loop_at p n ≡ false → target_at p.tasks n ≡ Some t → t.is_loop ≡ false
  target_single zero t h is = cc
  target_single (suc k) t h is = chosen (nat_lt k DEFINITIONS) h is
    where
      chosen : (b : Bool) → (if b then is_some (index_in (task_at p.tasks k)) else false) ≡ false
          → (if b then task_target p.tasks 1 k else kernel_at (k - DEFINITIONS)) ≡ Some t → t.is_loop ≡ false
      chosen true h is =
          let u = task_of p.tasks 1 k t is in
          ap (λ (x : Target). x.is_loop) u.is ∙ loop_is (task_at p.tasks k) u.task u.at ∙ h
      chosen false h is = kernel_single (k - DEFINITIONS) t is

  no_length : (call : CallTree) → Fits p call → is_loop_at p call.task ≡ false → call.length ≡ 0
  no_length call (is_main e) h = ap (λ (c : CallTree). c.length) e
  no_length call (is_call t is fits) h = fits.formed (target_single call.task t h is)

-- what the body of a claimed call does and forks
module _ (p : Program) (ok : IsAccepted p) where
  abbrev m : Machine
  m = machine_of p

  call_keeps : (depth : ℕ) (call : CallTree) → IsCallAt p depth call → is_loop_at p call.task ≡ false
      → Keeps (Directly p (Whole call)) (OfCall (IsCallAt p (suc depth))) (script_of p (Whole call))
  call_keeps depth call is single =
      keeps_as (Directly p (Whole call)) (Forks p (Whole call)) (OfCall (IsCallAt p (suc depth))) forked (script_of p (Whole call))
      (plain (λ w. w) p ok (Whole call) is.0)
    where
      forked : (job : Job) → Forks p (Whole call) job → OfCall (IsCallAt p (suc depth)) job
      forked (Whole child) h = (h.fits, h.deeper ∙ ap suc is.1)
      forked (Index loop i) h = let none = no_length p call is.0 single in let lt = h.1 in absurd (omega (arith, none, lt))

  abbrev pub Nothing : CallTree → Type 0
  Nothing call = ⊥

  pub index_keeps : (call : CallTree) (i : ℕ) → Fits p call → i < call.length
      → Keeps (Directly p (Index call i)) (OfCall Nothing) (script_of p (Index call i))
  index_keeps call i fits lt =
      keeps_as (Directly p (Index call i)) (Forks p (Index call i)) (OfCall Nothing) (λ job h. absurd h) (script_of p (Index call i))
      (plain (λ w. w) p ok (Index call i) (fits, lt))

  -- the body is done as it is alone
  pub record Body (x y : Owner) (path : List ℕ) (job : Job) (G : CallTree → Type 0) (ended : Ended) (cs : List CallTree) : Type 0 where
    pub last : Operation
    pub alike : Alike p x y (alone m (placed path 1 (script_of p job)) x.store.elements) last
    pub calls : cs ≡ calls_of (alone m (placed path 1 (script_of p job)) x.store.elements).forks
    pub forks : (alone m (placed path 1 (script_of p job)) x.store.elements).forks ≡ numbered path 1 cs
    pub each : EachCall G cs
    pub fault : (alone m (placed path 1 (script_of p job)) x.store.elements).fault ≡ fault_of ended

  body_with : (x y : Owner) (path : List ℕ) (job : Job) (G : CallTree → Type 0) (ended : Ended) (done : List Operation) (last : Operation)
      → Keeps (Directly p job) (OfCall G) (script_of p job) → end_of p job ≡ O.End ∷ [] → x.store.program ≡ p → IsLast last
      → operations p job (answers_of done) ≡ done ++ last ∷ [] → Went x done y
      → ((f : Option Fault) → last ≡ last_of f → f ≡ fault_of ended)
      → Body x y path job G ended (calls_of (alone m (placed path 1 (script_of p job)) x.store.elements).forks)
  body_with x y path job G ended done last kept end same is_last e w faults =
      let s = script_of p job in
      let traced : trace (O.End ∷ []) s (answers_of done) ≡ done ++ last ∷ [] =
      subst (λ (ops : List Operation). trace ops s (answers_of done) ≡ done ++ last ∷ []) end e in
      let alike = goes_alike p (Directly p job) G last is_last s kept path 1 (answers_of done) done x y same traced w in
      record {
        last = last;
        alike = alike;
        calls = refl;
        forks = forks_numbered p (Directly p job) G s kept path 1 x.store.elements;
        each = forks_each p (Directly p job) G s kept path 1 x.store.elements;
        fault = faults (alone m (placed path 1 s) x.store.elements).fault alike.ends;
      }

  end_none : (f : Option Fault) → O.End ≡ last_of f → f ≡ None
  end_none None e = refl
  end_none (Some f) e = cc

  fault_some : (law : F) (line : ℕ) (f : Option Fault) → O.Fault law line ≡ last_of f → f ≡ Some (record { law = law; line = line })
  fault_some law line None e = cc
  fault_some law line (Some f) e =
      let same : law ≡ f.law = cc in
      let place : line ≡ f.line = cc in
      rw (same, place) refl

  pub body_done : (x y : Owner) (path : List ℕ) (job : Job) (G : CallTree → Type 0) (ended : Ended)
      → Keeps (Directly p job) (OfCall G) (script_of p job) → end_of p job ≡ O.End ∷ [] → x.store.program ≡ p
      → EndsSo stands_at Moves never p job x y ended
      → Body x y path job G ended (calls_of (alone m (placed path 1 (script_of p job)) x.store.elements).forks)
  body_done x y path job G E.Done kept end same e = body_with x y path job G E.Done e.0 O.End kept end same tt e.1 e.2.went end_none
  body_done x y path job G (E.Fault law line) kept end same e =
      body_with x y path job G (E.Fault law line) e.0 (O.Fault law line) kept end same tt e.1 e.2.went (fault_some law line)
  body_done x y path job G E.Halted kept end same e = absurd e.5.at_halt

  -- the children of the body stand in a frame over its task's
  abbrev pub opened_over : Stack → List CallTree → Stack
  opened_over s cs = record { top = record { calls = cs; finished = 0 }; below = s.top ∷ s.below; tasks = s.tasks + length cs; room = s.room }

  begun_over : (s : Stack) (call : CallTree) (cs : List CallTree) → next_of s ≡ Some call → with_children (begun s) cs ≡ opened_over s cs
  begun_over s call cs next = ap (λ (o : Option CallTree). with_children (begun_at o s) cs) next

  pub claimed_over : (x : Owner) (s : Stack) (call : CallTree) → IsClaimed p x s call → x.frames ≡ opened_over s []
  claimed_over x s call h =
      let none : s.tasks + 0 ≡ s.tasks = omega arith in
      h.frames ∙ ap (λ (o : Option CallTree). begun_at o s) h.next
      ∙ ap (λ (n : ℕ). let t : Stack = record { top = record { calls = []; finished = 0 }; below = s.top ∷ s.below; tasks = n; room = s.room } in t) (sym none)

  pub waits_more : (s : Stack) (call : CallTree) (cs : List CallTree) → next_of s ≡ Some call
      → (waiting (opened_over s cs) + 1 ≡ waiting s + length cs) × (1 ≤ waiting s)
  waits_more s call cs next =
      let lt = slice_get_within s.top.calls s.top.finished call next in
      (omega arith, omega arith)

  pub claimed_at : (x : Owner) (s : Stack) (call : CallTree) → IsClaimed p x s call → IsCallAt p (length s.below) call
  claimed_at x s call h = good_at p (length s.below) s.top.calls s.top.finished call h.live.good.top h.next

  pub begins : (x : Owner) (s : Stack) (call : CallTree) → IsClaimed p x s call → Begins stands_at Moves never p (Whole call) x
  begins x s call h = record {
    accepted = ok;
    fits = (claimed_at x s call h).0;
    stands = record {
      program = h.live.program;
      running = subst IsRunning (sym (claimed_over x s call h)) (λ e. let bad : ⊥ = absurd_cons s.top s.below e in bad);
    };
    running = λ n. n;
  }

  module _ (x y : Owner) (s : Stack) (call : CallTree) (ended : Ended) (least : Option FaultRun) (h : IsClaimed p x s call)
      (single : is_loop_at p call.task ≡ false) (e : EndsSo stands_at Moves never p (Whole call) x y ended) where
    abbrev path : List ℕ
    path = entry_path s.below (suc s.top.finished)

    abbrev a : Alone m
    a = alone m (placed path 1 (script_of p (Whole call))) x.store.elements

    abbrev cs : List CallTree
    cs = calls_of a.forks

    abbrev ran : ℕ
    ran = s.tasks - waiting s

    body : Body x y path (Whole call) (IsCallAt p (suc (length s.below))) ended cs
    body =
        let end : end_of p (Whole call) ≡ O.End ∷ [] = rw single refl in
        body_done x y path (Whole call) (IsCallAt p (suc (length s.below))) ended (call_keeps (length s.below) call (claimed_at x s call h) single)
        end h.live.program e

    -- the run from here is the body and what is left behind it
    run_on : left p (with_frames x s) least
        ≡ answered_from p (least_with least path None (fault_of ended)) (suc ran) x.indexes (rest_of p (opened_over s cs) a.store)
    run_on =
        ap (answered_from p least ran x.indexes) (rest_begun p s call x.store.elements cs h.live.good h.next body.forks body.each)
        ∙ answered_noted p least ran x.indexes path call a.answers a.fault a.steps (rest_of p (with_children (begun s) cs) a.store)
        ∙ ap (λ (t : Stack). answered_from p (least_with least path None a.fault) (suc ran) x.indexes (rest_of p t a.store)) (begun_over s call cs h.next)
        ∙ ap (λ (f : Option Fault). answered_from p (least_with least path None f) (suc ran) x.indexes (rest_of p (opened_over s cs) a.store)) body.fault

    over_is : y.over ≡ over_all (opened_over s []) false cs
    over_is =
        body.alike.over ∙ ap (λ (f : Stack). over_all f x.over cs) (claimed_over x s call h)
        ∙ ap (λ (b : Bool). over_all (opened_over s []) b cs) h.live.kept

    few : (opened_over s []).tasks ≤ s.room
    few = let le = h.live.few in omega arith

    pub too_many : y.over ≡ true → left p (with_frames x s) least ≡ limit_ran
    too_many o =
        let over = pushed_over (opened_over s []) cs few (sym over_is ∙ o) in
        let waits = waits_more s call cs h.next in
        let count = rest_count p (opened_over s cs) a.store in
        let room = h.live.room in
        let counted = h.live.counted in
        let more : TASKS < suc ran + length (tasks_of p (rest_of p (opened_over s cs) a.store).entries) = omega arith in
        run_on ∙ answered_limit p (least_with least path None (fault_of ended)) (suc ran) x.indexes (rest_of p (opened_over s cs) a.store) more

    module _ (o : y.over ≡ false) where
      fit : Fitting (opened_over s []) cs
      fit = pushed_fit (opened_over s []) cs few (sym over_is ∙ o)

      pub frames_are : y.frames ≡ opened_over s cs
      frames_are =
          let count : (s.tasks + 0) + length cs ≡ s.tasks + length cs = omega arith in
          body.alike.frames ∙ ap (λ (f : Stack). all_pushed f cs) (claimed_over x s call h) ∙ fit.frames
          ∙ ap (λ (n : ℕ). let t : Stack = record { top = record { calls = cs; finished = 0 }; below = s.top ∷ s.below; tasks = n; room = s.room } in t) count

      pub live_on : IsLive p y
      live_on =
          let waits = waits_more s call cs h.next in
          let room = fit.room in
          let counted = h.live.counted in
          let good : GoodStack p (opened_over s cs) = record {
            top = body.each;
            below = (h.live.good.top, slice_get_within s.top.calls s.top.finished call h.next, h.live.good.below);
          } in
          let enough : s.tasks + length cs ≤ s.room = omega arith in
          let waiting_few : waiting (opened_over s cs) ≤ s.tasks + length cs = omega arith in
          record {
            program = body.alike.program ∙ h.live.program;
            good = subst (GoodStack p) (sym frames_are) good;
            kept = o;
            room = ap (λ (t : Stack). t.room) frames_are ∙ h.live.room;
            few = subst (λ (t : Stack). t.tasks ≤ t.room) (sym frames_are) enough;
            counted = subst (λ (t : Stack). waiting t ≤ t.tasks) (sym frames_are) waiting_few;
            few_indexes = rw body.alike.indexes h.live.few_indexes;
          }

      pub below_short : length y.frames.below ≤ DEPTH + 1
      below_short =
          let at = claimed_at x s call h in
          let deep = fits_deep p call at.0 in
          let depth = at.1 in
          let less : suc (length s.below) ≤ DEPTH + 1 = omega arith in
          subst (λ (t : Stack). length t.below ≤ DEPTH + 1) (sym frames_are) less

      pub path_on : path_over y.frames.below ≡ path
      path_on = ap (λ (t : Stack). path_over t.below) frames_are

      pub left_on : left p y (least_with least path None (fault_of ended)) ≡ left p (with_frames x s) least
      left_on =
          let waits = waits_more s call cs h.next in
          let counted = h.live.counted in
          let count : (s.tasks + length cs) - waiting (opened_over s cs) ≡ suc ran = omega arith in
          let l = least_with least path None (fault_of ended) in
          ap (λ (t : Stack). answered_from p l (t.tasks - waiting t) y.indexes (rest_of p t y.store.elements)) frames_are
          ∙ ap (λ (store : List ℕ). answered_from p l ((s.tasks + length cs) - waiting (opened_over s cs)) y.indexes (rest_of p (opened_over s cs) store))
          body.alike.store
          ∙ ap (λ (n : ℕ). answered_from p l n y.indexes (rest_of p (opened_over s cs) a.store)) count
          ∙ ap (λ (n : ℕ). answered_from p l (suc ran) n (rest_of p (opened_over s cs) a.store)) body.alike.indexes
          ∙ sym run_on

      pub less_to_do : to_do y < to_do (with_frames x s)
      less_to_do =
          let waits = waits_more s call cs h.next in
          let room = fit.room in
          let less : (s.room - (s.tasks + length cs)) + waiting (opened_over s cs) < (s.room - s.tasks) + waiting s = omega arith in
          subst (λ (t : Stack). (t.room - t.tasks) + waiting t < (s.room - s.tasks) + waiting s) (sym frames_are) less

-- finished tasks change nothing of what is left
pub live_finished : (p : Program) (o : Owner) (t : Stack) → Finishes o.frames t → IsLive p o → IsLive p (with_frames o t)
live_finished p o t f h =
    let k = kin_all p o.frames t f in
    let waits = k.waits in
    let tasks = k.tasks in
    let room = k.room in
    let few = h.few in
    let counted = h.counted in
    record {
      program = h.program;
      good = k.good h.good;
      kept = h.kept;
      room = sym room ∙ h.room;
      few = omega arith;
      counted = omega arith;
      few_indexes = h.few_indexes;
    }

pub left_finished : (p : Program) (o : Owner) (t : Stack) (least : Option FaultRun) → Finishes o.frames t → left p (with_frames o t) least ≡ left p o least
left_finished p o t least f =
    let k = kin_all p o.frames t f in
    ap (λ (n : ℕ). answered_from p least (n - waiting t) o.indexes (rest_of p t o.store.elements)) (sym k.tasks)
    ∙ ap (λ (n : ℕ). answered_from p least (o.frames.tasks - n) o.indexes (rest_of p t o.store.elements)) (sym k.waits)
    ∙ ap (λ (r : Run (machine_of p)). answered_from p least (o.frames.tasks - waiting o.frames) o.indexes r) (sym (k.rest o.store.elements))

pub to_do_finished : (p : Program) (o : Owner) (t : Stack) → Finishes o.frames t → to_do (with_frames o t) ≡ to_do o
to_do_finished p o t f =
    let k = kin_all p o.frames t f in
    let waits = k.waits in
    let tasks = k.tasks in
    let room = k.room in
    omega arith

-- where no entry waits and no task runs, the run is whole
pub left_ended : (p : Program) (o : Owner) (least : Option FaultRun) → IsLive p o → next_of o.frames ≡ None → o.frames.below ≡ []
    → left p o least ≡ ended_ran o least
left_ended p o least h none below =
    let long = ended_none o.frames.top.calls o.frames.top.finished none in
    let no_more : waiting_below o.frames.below ≡ 0 = ap waiting_below below in
    let few = h.few in
    let room = h.room in
    let count : o.frames.tasks - waiting o.frames ≡ o.frames.tasks = omega arith in
    let kept : o.frames.tasks ≤ TASKS = omega arith in
    let rest : rest_of p o.frames o.store.elements ≡ still_at (machine_of p) o.store.elements =
    rest_ended p o.frames o.store.elements long ∙ ap (λ (b : List Frame). rest_below p b o.store.elements) below in
    ap (λ (n : ℕ). answered_from p least n o.indexes (rest_of p o.frames o.store.elements)) count
    ∙ ap (answered_from p least o.frames.tasks o.indexes) rest
    ∙ answered_still p least o.frames.tasks o.indexes o.store.elements kept h.few_indexes

pub turn_finished : (p : Program) (o : Owner) (t : Stack) (before : Option FaultRun) (new : Owner) (after : Option FaultRun) (turn : Turn)
    → Finishes o.frames t → TurnIs p (with_frames o t) before new after turn → TurnIs p o before new after turn
turn_finished p o t before new after T.Ran f h =
    (h.0, h.1 ∙ left_finished p o t before f, subst (λ (n : ℕ). to_do new < n) (to_do_finished p o t f) h.2)
turn_finished p o t before new after T.Ended f h = (sym (left_finished p o t before f) ∙ h.0, h.1)
turn_finished p o t before new after T.Over f h = sym (left_finished p o t before f) ∙ h

-- a run begins with main alone
pub live_opened : (p : Program) (o : Owner) → o.store.program ≡ p → o.frames ≡ opened TASKS → o.over ≡ false → o.indexes ≡ 0 → IsLive p o
live_opened p o program frames over none =
    let good : GoodStack p (opened TASKS) = record { top = ((is_main refl, refl), tt); below = tt } in
    let some : waiting (opened TASKS) ≤ 1 = omega arith in
    record {
      program = program;
      good = subst (GoodStack p) (sym frames) good;
      kept = over;
      room = ap (λ (t : Stack). t.room) frames;
      few = subst (λ (t : Stack). t.tasks ≤ t.room) (sym frames) (omega arith);
      counted = subst (λ (t : Stack). waiting t ≤ t.tasks) (sym frames) some;
      few_indexes = omega (arith, none);
    }

module _ (p : Program) (input : List ℕ) where
  main_rest : (s : List ℕ) → rest_of p (opened TASKS) s ≡ whole (machine_of p) main_placed s
  main_rest s =
      let x = whole (machine_of p) main_placed s in
      ap (λ (es : List (Entry (machine_of p))). let r : Run (machine_of p) = record { store = x.store; entries = es } in r)
      (append-nil (x.entries ++ []) ∙ append-nil x.entries)

  pub left_opened : (o : Owner) → o.store.elements ≡ opened_with p.families input → o.frames ≡ opened TASKS → o.indexes ≡ 0
      → left p o None ≡ outcome_of p input
  unfolding reference
  left_opened o store frames none =
      let waits : 1 - waiting (opened TASKS) ≡ 0 = omega arith in
      let r = whole (machine_of p) main_placed (opened_with p.families input) in
      let count : 0 + length (tasks_of p r.entries) ≡ length (tasks_of p r.entries) = omega arith in
      let count_indexes : 0 + length (indexes_of p r.entries) ≡ length (indexes_of p r.entries) = omega arith in
      ap (λ (t : Stack). answered_from p None (t.tasks - waiting t) o.indexes (rest_of p t o.store.elements)) frames
      ∙ ap (λ (n : ℕ). answered_from p None n o.indexes (rest_of p (opened TASKS) o.store.elements)) waits
      ∙ ap (λ (n : ℕ). answered_from p None 0 n (rest_of p (opened TASKS) o.store.elements)) none
      ∙ ap (answered_from p None 0 0) (main_rest o.store.elements ∙ ap (whole (machine_of p) main_placed) store)
      ∙ ap (λ (n : ℕ). answered n (0 + length (indexes_of p r.entries)) (faults_of p r.entries) r.store) count
      ∙ ap (λ (n : ℕ). answered (length (tasks_of p r.entries)) n (faults_of p r.entries) r.store) count_indexes
