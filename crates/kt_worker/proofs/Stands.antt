-- What an operation makes of the seat within a body.
use Rattle.std.proofs.Common.{◌≡◌, ◌≤◌, ◌<◌, inl, inr, ℕ, zero, suc, ◌+◌, Bool, true, false, nat_lt, List, [], ◌∷◌, ◌++◌, length, map, Option, refl, sym, ap, ◌∙◌, subst, arith, length-append, append-nil}
use Rattle.std.proofs.lemmas.Bool.Decides.{nat_tests}
use Rattle.std.proofs.lemmas.List.{append_assoc}
use mathlib.Core.Option.{some, some-ne-none}
use lib.ListN.{get_elem?}
use Rattle.kt_law.specs.Acts.{Act, Deed, Load, Store, Fold}
use Rattle.kt_order.specs.Body.{Do, Stop, Fork}
use Rattle.kt_order.specs.Machine.{Code}
use Rattle.kt_order.specs.Rest.{left, left_of}
use Rattle.kt_order.specs.Stand.{stand}
use Rattle.kt_order.proofs.Stands.{stand_acted, stand_forked, stand_ended}
use Rattle.kt_prog.specs.Accepted.{IsAccepted}
use Rattle.kt_prog.specs.Calls.{CallTree, Job, Whole}
use Rattle.kt_prog.specs.Objects.{elements_of, first_element_of}
use Rattle.kt_prog.specs.Operations.{heard, is_loop_at, operations, zeroing, IsNext}
use Rattle.kt_prog.specs.Reference.{Placed, machine_of}
use Rattle.kt_prog.specs.Script.{Fault}
use Rattle.kt_prog.specs.declared.programs.Program.{Program}
use Rattle.kt_prog.specs.declared.runs.Operation.{Operation}
use Rattle.kt_prog.specs.declared.runs.Operation.TheVariants as O
use Rattle.kt_body.specs.Endings.{EndsSo, ZeroesSo, answers_of}
use Rattle.kt_body.specs.declared.ops.Ended.{Ended}
use Rattle.kt_body.specs.declared.ops.Ended.TheVariants as E
use Rattle.kt_runs.specs.Bodies.{IsFirst}
use Rattle.kt_runs.specs.ByPath.{child}
use Rattle.kt_runs.proofs.Next.{next_is_first}
use Rattle.kt_words.specs.declared.layouts.TheConstants.{RECORDS}
use Rattle.kt_rule.specs.declared.views.Berth.{Berth}
use Rattle.kt_rule.specs.declared.views.Draws.{Draws}
use Rattle.kt_rule.specs.declared.views.Execution.{Execution}
use Rattle.kt_rule.specs.declared.views.IndexRun.{IndexRun}
use Rattle.kt_rule.specs.Lists.{In}
use Rattle.kt_rule.specs.declared.views.Spot.{Spot}
use Rattle.kt_rule.specs.declared.views.View.{View}
use Rattle.kt_rule.specs.Steps.{did_one, does_one, forked_one, published, next_of, over, IsBehind}
use Rattle.kt_rule.specs.Steps as Steps
use Rattle.kt_steps.specs.Told.{IsDueOn}
use Rattle.kt_tasks.specs.Publications.{MayPublish, halted}
use Rattle.kt_calls.specs.Ranges.{IsElementOf, IsOfCrew, IsRecord}
use Rattle.kt_intervals.specs.Indexes.{fault_with}
use Rattle.kt_intervals.proofs.Acts.{act_first, act_of, heard_same, last_next, last_op, op_of, stops_with}
use Rattle.kt_loops.specs.Operations.{DidOne, IsNextOn, RunsNoIndex}
use Rattle.kt_worker.specs.Faults.{task_of}
use Rattle.kt_worker.proofs.Zeroing.{zeroed_left}
use Rattle.kt_worker.specs.Hands.{Came, GoneSo, Hand, HasChildren, IsAtEnd, IsUnderWay, IsZeroed, Since, StandsAt, ZeroedSo, base_of}

-- what stands in a list stands in a longer one
pub get_front : {A : Type 0} (xs ys : List A) (k : ℕ) (m : A) → get_elem? xs k ≡ some m → get_elem? (xs ++ ys) k ≡ some m
get_front [] ys k m e = absurd (some-ne-none m (sym e))
get_front (x ∷ xs) ys zero m e = e
get_front (x ∷ xs) ys (suc k) m e = get_front xs ys k m e

pub get_end : {A : Type 0} (xs : List A) (m : A) → get_elem? (xs ++ m ∷ []) (length xs) ≡ some m
get_end [] m = refl
get_end (x ∷ xs) m = get_end xs m

pub crew_same : (v w : View) → w.setup ≡ v.setup → w.worker ≡ v.worker → IsOfCrew v → IsOfCrew w
crew_same v w e f h = record { setup = h.setup; told = e ∙ h.told; own = rw f h.own; few = h.few }

pub record_same : (v w : View) (at : ℕ) → w.setup ≡ v.setup → IsRecord v at → IsRecord w at
record_same v w at e h = record { setup = h.setup; told = e ∙ h.told; below = h.below }

module _ (p : Program) where
  pub fork_first : (call : CallTree) (c : Code (machine_of p)) → IsFirst p (O.Fork call) c
      → (d : Placed) × (k : Code (machine_of p)) × (c ≡ Fork d k) × (d.job ≡ Whole call)
  fork_first call (Do q k) h = absurd h
  fork_first call (Stop f) h = absurd h
  fork_first call (Fork d w) h = (d, w, refl, h)

  pub way_left : (e : Execution) (w : IsUnderWay p e) → left (machine_of p) (task_of p e) ≡ w.st.left
  way_left e w = ap (left_of (machine_of p)) w.is

  pub way_begun : (e : Execution) → e.answers ≡ [] → e.done ≡ 0 → IsUnderWay p e
  way_begun e answers done =
      let tree : Code (machine_of p) = (machine_of p).tree (task_of p e).call in
      record {
        st = record { left = tree; forks = []; over = false };
        is = ap (λ (xs : List ℕ). stand (machine_of p) tree xs e.done) answers ∙ ap (λ (n : ℕ). stand (machine_of p) tree [] n) done;
        still = refl;
      }

  pub way_acted : (e : Execution) → IsUnderWay p e → (object element : ℕ) (d : Deed) (n : ℕ) (k : ℕ → Code (machine_of p))
      → left (machine_of p) (task_of p e) ≡ Do (act_of object element d) k → IsUnderWay p (did_one (act_of object element d) n e)
  way_acted e w object element Load n k next =
      let tree : Code (machine_of p) = (machine_of p).tree (task_of p e).call in
      record {
        st = record { left = k n; forks = w.st.forks; over = false };
        is = stand_acted (machine_of p) tree e.answers e.done w.st (act_of object element Load) k n w.is (sym (way_left e w) ∙ next) (λ b. cc);
        still = refl;
      }
  way_acted e w object element (Store v) n k next =
      let tree : Code (machine_of p) = (machine_of p).tree (task_of p e).call in
      record {
        st = record { left = k 0; forks = w.st.forks; over = false };
        is = stand_acted (machine_of p) tree e.answers e.done w.st (act_of object element (Store v)) k 0 w.is (sym (way_left e w) ∙ next) (λ b. refl);
        still = refl;
      }
  way_acted e w object element (Fold op v) n k next =
      let tree : Code (machine_of p) = (machine_of p).tree (task_of p e).call in
      record {
        st = record { left = k 0; forks = w.st.forks; over = false };
        is = stand_acted (machine_of p) tree e.answers e.done w.st (act_of object element (Fold op v)) k 0 w.is (sym (way_left e w) ∙ next) (λ b. refl);
        still = refl;
      }

  pub way_forked : (e : Execution) → IsUnderWay p e → (c : Placed) (k : Code (machine_of p)) → left (machine_of p) (task_of p e) ≡ Fork c k
      → IsUnderWay p (forked_one e)
  way_forked e w c k next = record {
    st = record { left = k; forks = w.st.forks ++ c ∷ []; over = false };
    is = stand_forked (machine_of p) ((machine_of p).tree (task_of p e).call) e.answers e.done w.st c k w.is (sym (way_left e w) ∙ next);
    still = refl;
  }

  pub at_end : (e : Execution) (fault : Option Fault) → IsUnderWay p e → left (machine_of p) (task_of p e) ≡ Stop fault → IsAtEnd p e fault
  at_end e fault w next = record { way = w; stops = sym (way_left e w) ∙ next }

  pub end_left : (e : Execution) (fault : Option Fault) → IsAtEnd p e fault → left (machine_of p) (task_of p e) ≡ Stop fault
  end_left e fault h = way_left e h.way ∙ h.stops

  -- behind its end too
  pub over_left : (e : Execution) (fault : Option Fault) → IsAtEnd p e fault → left (machine_of p) (task_of p (over e)) ≡ Stop fault
  over_left e fault h =
      ap (left_of (machine_of p))
      (stand_ended (machine_of p) ((machine_of p).tree (task_of p e).call) e.answers e.done h.way.st fault h.way.is h.stops h.way.still)

-- the running body went on, and more of the region is used
since_step : (began v w : View) (e f : Execution) (s : Since began v e) → f.spot ≡ e.spot → (new : List Spot) → w.region.spots ≡ v.region.spots ++ new
    → w ≡ record v {
      region = w.region;
      tasks = record v.tasks { running = f ∷ s.rest };
      seen = record v.seen { stop = w.seen.stop };
      draws = w.draws;
    }
    → Since began w f
since_step began v w e f s spot new spots same = record {
  start = s.start;
  rest = s.rest;
  was = s.was;
  spot = spot ∙ s.spot;
  more = s.more ++ new;
  spots = spots ∙ ap (λ (xs : List Spot). xs ++ new) s.spots ∙ append_assoc began.region.spots s.more new;
  same = same ∙ ap (λ (x : View). record x {
    region = w.region;
    tasks = record x.tasks { running = f ∷ s.rest };
    seen = record x.seen { stop = w.seen.stop };
    draws = w.draws;
  }) s.same;
}

is_false : (b : Bool) → (b ≡ true → ⊥) → b ≡ false
is_false true away = absurd (away refl)
is_false false away = refl

module _ (began : View) (h : Hand) (p : Program) (job : Job) (answers : List ℕ) (count : ℕ) (s : StandsAt began h p job answers count) where
  pub running_is : h.view.tasks.running ≡ s.e ∷ s.since.rest
  running_is = ap (λ (w : View). w.tasks.running) s.since.same

  -- what is next in the body is first of what is left of the running one
  first_of : (op : Operation) → IsNext p job answers count op → IsFirst p op (left (machine_of p) (task_of p s.e))
  first_of op next =
      next_is_first p (task_of p s.e) s.way.st op s.way.is
      (subst (λ (j : Job). IsNext p j s.e.answers s.e.done op) s.job_is
      (subst (λ (found : List ℕ). IsNext p job found s.e.done op) (sym s.answers_are)
      (subst (λ (n : ℕ). IsNext p job answers n op) (sym s.count_is) next)))

  -- the act that is left first, in the words of the seat's own program
  abbrev Acts : Program → ℕ → ℕ → Deed → Type 0
  Acts q object element d = (k : ℕ → Code (machine_of q)) × (left (machine_of q) (task_of q s.e) ≡ Do (act_of object element d) k)

  acts_here : (object element : ℕ) (d : Deed) (a : ℕ) → IsNext p job answers count (op_of object element d a) → Acts p object element d
  acts_here object element d a next = act_first p object element d a (left (machine_of p) (task_of p s.e)) (first_of (op_of object element d a) next)

  acts : (object element : ℕ) (d : Deed) (a : ℕ) → IsNext p job answers count (op_of object element d a) → Acts s.setup.program object element d
  acts object element d a next = subst (λ (q : Program). Acts q object element d) (sym s.same_program) (acts_here object element d a next)

  due_on : (number object element : ℕ) (d : Deed) → number ≡ first_element_of p.families object + element
      → IsNext p job answers count (op_of object element d 0) → IsDueOn h.view number d
  due_on number object element d is next =
      let k = acts object element d 0 next in
      record {
        setup = s.setup;
        told = s.told;
        head = s.e;
        rest = s.since.rest;
        runs = running_is;
        act = act_of object element d;
        does = refl;
        place = ap (λ (q : Program). first_element_of q.families object + element) s.same_program ∙ sym is;
        more = k.0;
        next = k.1;
      }

  runs_none : RunsNoIndex h.view
  runs_none j told e i = elim (subst (λ (es : List IndexRun). In e es) s.none_taken i) [ ]

  pub next_on : (number object element : ℕ) (d : Deed) → number ≡ first_element_of p.families object + element
      → IsNext p job answers count (op_of object element d 0) → IsNextOn h.view number d
  next_on number object element d is next = inr (runs_none, due_on number object element d is next)

  pub element_inside : (number : ℕ) → number < elements_of p.families → IsElementOf h.view number
  element_inside number lt = record { setup = s.setup; told = s.told; below = rw s.same_program lt }

  -- after an operation on an element
  pub acted : (w : View) (object element : ℕ) (d : Deed) (n : ℕ) → DidOne h.view n w → IsNext p job answers count (op_of object element d n)
      → StandsAt began (record h { view = w }) p job (answers ++ heard (op_of object element d n)) (count + 1)
  acted w object element d n did next =
      let k = acts object element d n next in
      let here = acts_here object element d n next in
      let act : Act = act_of object element d in
      let same : w ≡ does_one h.view act n s.e s.since.rest = did.1 runs_none s.setup s.told s.e s.since.rest running_is act k.0 k.1 in
      record {
        program = s.program;
        setup = s.setup;
        told = ap (λ (x : View). x.setup) same ∙ s.told;
        same_program = s.same_program;
        firsts = s.firsts;
        crew = crew_same h.view w (ap (λ (x : View). x.setup) same) (ap (λ (x : View). x.worker) same) s.crew;
        inside = record_same h.view w h.parent (ap (λ (x : View). x.setup) same) s.inside;
        e = did_one act n s.e;
        since = since_step began h.view w s.e (did_one act n s.e) s.since refl [] (ap (λ (x : View). x.region.spots) same ∙ sym (append-nil h.view.region.spots))
            (same ∙ ap (λ (x : View). record (h.view) {
              region = x.region;
              tasks = record (h.view.tasks) { running = did_one act n s.e ∷ s.since.rest };
              seen = record (h.view.seen) { stop = x.seen.stop };
              draws = x.draws;
            }) (sym same));
        way = way_acted p s.e s.way object element d n here.0 here.1;
        plain = s.plain;
        none_taken = ap (λ (x : View). x.loops.taken) same ∙ s.none_taken;
        job_is = s.job_is;
        answers_are = ap (λ (xs : List ℕ). xs ++ Steps.heard act n) s.answers_are ∙ ap (λ (ys : List ℕ). answers ++ ys) (heard_same object element d n);
        count_is = let c = s.count_is in omega (arith, c);
        lies = s.lies;
        start = s.start;
        frame_is = s.frame_is;
        topmost = subst (λ (x : View). s.e.frame ≡ x.tasks.begun) (sym same) s.topmost;
        forks_are = s.forks_are;
        next_is = subst (λ (x : View). length x.region.spots ≡ h.first + h.forks) (sym same) s.next_is;
        few = subst (λ (x : View). length x.region.spots ≤ RECORDS) (sym same) s.few;
        children = subst (λ (x : View). HasChildren x.region.spots (base_of x) h.first s.e.spot.path h.forks) (sym same) s.children;
        built = ap (λ (x : View). x.region.built) same ∙ s.built;
        draws = λ l. ap (λ (x : View). x.draws) same ∙ s.draws l;
        stop = λ l. ap (λ (x : View). x.seen.stop) same ∙ s.stop l;
      }

  behind : (n : ℕ) → s.e.forks ≡ n → IsBehind h.view s.e
  behind zero e = inl e
  behind (suc k) e =
      let forks = s.forks_are in
      let next = s.next_is in
      let m = s.children k (omega (arith, e, forks)) in
      inr (k, h.first + k, m.0, e, omega (arith, e, forks, next), m.1, m.2)

  abbrev Forks : Program → CallTree → Type 0
  Forks q call = (d : Placed) × (k : Code (machine_of q)) × (left (machine_of q) (task_of q s.e) ≡ Fork d k) × (d.job ≡ Whole call)

  forks_here : (call : CallTree) → IsNext p job answers count (O.Fork call) → Forks p call
  forks_here call next = fork_first p call (left (machine_of p) (task_of p s.e)) (first_of (O.Fork call) next)

  pub may_publish : (at fork : ℕ) (call : CallTree) → at ≡ base_of h.view + h.first + h.forks → fork ≡ h.forks + 1 → IsAccepted p
      → IsNext p job answers count (O.Fork call) → (h.limit ≡ true → ⊥) → MayPublish h.view h.parent at h.frame fork call
  may_publish at fork call at_is fork_is ok next live =
      let f = subst (λ (q : Program). Forks q call) (sym s.same_program) (forks_here call next) in
      let draws = s.draws (is_false h.limit live) in
      record {
        setup = s.setup;
        told = s.told;
        accepted = rw s.same_program ok;
        head = s.e;
        rest = s.since.rest;
        runs = running_is;
        lies = s.lies;
        forks = f.0;
        more = f.1;
        next = f.2;
        calls = f.3;
        numbered = let forks = s.forks_are in omega (arith, fork_is, forks);
        framed = sym s.frame_is;
        topmost = s.topmost;
        free = let n = s.next_is in omega (arith, at_is, n);
        behind = behind s.e.forks refl;
        within = ap (λ (x : Draws). x.over) draws;
        none = ap (λ (x : Draws). x.hands) draws;
        unset = s.built;
      }

  child_at : (spot : Spot) (k : ℕ) (b : Bool) → nat_lt k h.forks ≡ b → spot.path ≡ child s.e.spot.path s.e.forks
      → spot.berth.at ≡ base_of h.view + (h.first + h.forks) → k < h.forks + 1
      → (m : Spot) × (get_elem? (h.view.region.spots ++ spot ∷ []) (h.first + k) ≡ some m) × (m.path ≡ child s.e.spot.path k) × (m.berth.at ≡ base_of h.view + (h.first + k))
  child_at spot k true is path at lt =
      let less : k < h.forks = grind (arith, nat_tests) in
      let m = s.children k less in
      (m.0, get_front h.view.region.spots (spot ∷ []) (h.first + k) m.0 m.1, m.2, m.3)
  child_at spot k false is path at lt =
      let past : h.forks ≤ k = grind (arith, nat_tests) in
      let forks = s.forks_are in
      let next = s.next_is in
      let here : length h.view.region.spots ≡ h.first + k = omega (arith, past, lt, next) in
      let same : s.e.forks ≡ k = omega (arith, past, lt, forks) in (
        spot,
        subst (λ (n : ℕ). get_elem? (h.view.region.spots ++ spot ∷ []) n ≡ some spot) here (get_end h.view.region.spots spot),
        path ∙ ap (child s.e.spot.path) same,
        omega (arith, at, past, lt),
      )

  abbrev new_spot : Berth → Spot
  new_spot b = record { berth = b; path = child s.e.spot.path s.e.forks }

  -- after a fork
  pub forked_at : (w : View) (call : CallTree) (b : Berth) → IsNext p job answers count (O.Fork call) → b.at ≡ base_of h.view + h.first + h.forks
      → length w.region.spots ≤ RECORDS
      → ((e : Execution) (rest : List Execution) → h.view.tasks.running ≡ e ∷ rest → w ≡ published h.view e rest b)
      → StandsAt began (record h { view = w; forks = h.forks + 1 }) p job (answers ++ []) (count + 1)
  forked_at w call b next at few did =
      let f = forks_here call next in
      let spot : Spot = new_spot b in
      let same : w ≡ published h.view s.e s.since.rest b = did s.e s.since.rest running_is in
      let spots : w.region.spots ≡ h.view.region.spots ++ spot ∷ [] = ap (λ (x : View). x.region.spots) same in
      let base : base_of w ≡ base_of h.view = ap (λ (x : View). base_of x) same in
      let forks = s.forks_are in
      let was = s.next_is in
      record {
        program = s.program;
        setup = s.setup;
        told = ap (λ (x : View). x.setup) same ∙ s.told;
        same_program = s.same_program;
        firsts = s.firsts;
        crew = crew_same h.view w (ap (λ (x : View). x.setup) same) (ap (λ (x : View). x.worker) same) s.crew;
        inside = record_same h.view w h.parent (ap (λ (x : View). x.setup) same) s.inside;
        e = forked_one s.e;
        since = since_step began h.view w s.e (forked_one s.e) s.since refl (spot ∷ []) spots
            (same ∙ ap (λ (x : View). record (h.view) {
              region = x.region;
              tasks = record (h.view.tasks) { running = forked_one s.e ∷ s.since.rest };
              seen = record (h.view.seen) { stop = x.seen.stop };
              draws = x.draws;
            }) (sym same));
        way = way_forked p s.e s.way f.0 f.1 f.2;
        plain = s.plain;
        none_taken = ap (λ (x : View). x.loops.taken) same ∙ s.none_taken;
        job_is = s.job_is;
        answers_are = s.answers_are ∙ sym (append-nil answers);
        count_is = let c = s.count_is in omega (arith, c);
        lies = s.lies;
        start = s.start;
        frame_is = s.frame_is;
        topmost = subst (λ (x : View). s.e.frame ≡ x.tasks.begun) (sym same) s.topmost;
        forks_are = omega (arith, forks);
        next_is = ap (λ (xs : List Spot). length xs) spots ∙ omega (arith, length-append h.view.region.spots (spot ∷ []), was);
        few = few;
        children = λ k lt. subst (λ (xs : List Spot). (m : Spot) × (get_elem? xs (h.first + k) ≡ some m) × (m.path ≡ child s.e.spot.path k) × (m.berth.at ≡ base_of w + (h.first + k))) (sym spots)
            (subst (λ (n : ℕ). (m : Spot) × (get_elem? (h.view.region.spots ++ spot ∷ []) (h.first + k) ≡ some m) × (m.path ≡ child s.e.spot.path k) × (m.berth.at ≡ n + (h.first + k))) (sym base)
            (child_at spot k (nat_lt k h.forks) refl refl (omega (arith, at)) lt));
        built = ap (λ (x : View). x.region.built) same;
        draws = λ l. ap (λ (x : View). x.draws) same ∙ ap (λ (d : Draws). record d { hands = [] }) (s.draws l);
        stop = λ l. ap (λ (x : View). x.seen.stop) same ∙ s.stop l;
      }

  -- after a fork that was one too many
  pub overran_at : (w : View) → ((e : Execution) (rest : List Execution) → h.view.tasks.running ≡ e ∷ rest → w ≡ halted h.view e)
      → StandsAt began (record h { view = w; limit = true }) p job answers count
  overran_at w did =
      let same : w ≡ halted h.view s.e = did s.e s.since.rest running_is in
      record {
        program = s.program;
        setup = s.setup;
        told = ap (λ (x : View). x.setup) same ∙ s.told;
        same_program = s.same_program;
        firsts = s.firsts;
        crew = crew_same h.view w (ap (λ (x : View). x.setup) same) (ap (λ (x : View). x.worker) same) s.crew;
        inside = record_same h.view w h.parent (ap (λ (x : View). x.setup) same) s.inside;
        e = s.e;
        since = since_step began h.view w s.e s.e s.since refl [] (ap (λ (x : View). x.region.spots) same ∙ sym (append-nil h.view.region.spots))
            (same ∙ ap (λ (rs : List Execution). record (halted h.view s.e) { tasks = record (h.view.tasks) { running = rs } }) running_is
            ∙ ap (λ (x : View). record (h.view) {
              region = x.region;
              tasks = record (h.view.tasks) { running = s.e ∷ s.since.rest };
              seen = record (h.view.seen) { stop = x.seen.stop };
              draws = x.draws;
            }) (sym same));
        way = s.way;
        plain = s.plain;
        none_taken = ap (λ (x : View). x.loops.taken) same ∙ s.none_taken;
        job_is = s.job_is;
        answers_are = s.answers_are;
        count_is = s.count_is;
        lies = s.lies;
        start = s.start;
        frame_is = s.frame_is;
        topmost = subst (λ (x : View). s.e.frame ≡ x.tasks.begun) (sym same) s.topmost;
        forks_are = s.forks_are;
        next_is = subst (λ (x : View). length x.region.spots ≡ h.first + h.forks) (sym same) s.next_is;
        few = subst (λ (x : View). length x.region.spots ≤ RECORDS) (sym same) s.few;
        children = subst (λ (x : View). HasChildren x.region.spots (base_of x) h.first s.e.spot.path h.forks) (sym same) s.children;
        built = ap (λ (x : View). x.region.built) same ∙ s.built;
        draws = λ l. cc;
        stop = λ l. ap (λ (x : View). x.seen.stop) same;
      }

came : (began : View) (h : Hand) (p : Program) (job : Job) (answers : List ℕ) (count : ℕ) (s : StandsAt began h p job answers count) → (h.limit ≡ true → ⊥)
    → (far : Execution → Type 0) → far s.e → Came began h.view h.forks far
came began h p job answers count s live far there = record {
  e = s.e;
  since = s.since;
  plain = s.plain;
  ends = there;
  forks_are = s.forks_are;
  children = subst (λ (n : ℕ). HasChildren h.view.region.spots (base_of h.view) n s.e.spot.path h.forks) s.start s.children;
  long = subst (λ (n : ℕ). length h.view.region.spots ≡ n + h.forks) s.start s.next_is;
  few = s.few;
  built = s.built;
  draws = s.draws (is_false h.limit live);
}

came_end : (began : View) (h : Hand) (p : Program) (job : Job) (done : List Operation) (ended : Ended) → heard (last_op p ended) ≡ []
    → operations p job (answers_of done) ≡ done ++ last_op p ended ∷ [] → StandsAt began h p job (answers_of done) (length done) → (h.limit ≡ true → ⊥)
    → Came began h.view h.forks (λ e. IsAtEnd p e (fault_with ended))
came_end began h p job done ended quiet all s live =
    came began h p job (answers_of done) (length done) s live (λ e. IsAtEnd p e (fault_with ended))
    (at_end p s.e (fault_with ended) s.way
    (stops_with p ended (left (machine_of p) (task_of p s.e)) (first_of began h p job (answers_of done) (length done) s (last_op p ended) (last_next p job done (last_op p ended) quiet all))))

-- the zeroing is done
came_zeroed : (began : View) (h : Hand) (p : Program) (call : CallTree) → is_loop_at p call.task ≡ true
    → StandsAt began h p (Whole call) (answers_of (zeroing p call)) (length (zeroing p call)) → (h.limit ≡ true → ⊥)
    → Came began h.view h.forks (IsZeroed p)
came_zeroed began h p call loop s live =
    let same : call ≡ s.e.spot.berth.call = let is = s.job_is in cc in
    let here : is_loop_at p s.e.spot.berth.call.task ≡ true = subst (λ (c : CallTree). is_loop_at p c.task ≡ true) same loop in
    came began h p (Whole call) (answers_of (zeroing p call)) (length (zeroing p call)) s live (IsZeroed p)
    (record {
      way = s.way;
      can = record {
        running = refl;
        placed = refl;
        loop = here;
        zeroed = zeroed_left p (task_of p s.e) s.e.spot.berth.call (map suc s.e.spot.path) here refl
            (s.answers_are ∙ ap (λ (c : CallTree). answers_of (zeroing p c)) same) (s.count_is ∙ ap (λ (c : CallTree). length (zeroing p c)) same);
      };
    })

-- how a body has gone, from how its run has ended; S is what the run was on
module _ {S : Type 0} (hand : S → Hand) (goes : S → Operation → S → Type 0) (began : View) where
  abbrev at : S → Program → Job → List ℕ → ℕ → Type 0
  at x p job answers count = StandsAt began (hand x) p job answers count

  abbrev halts : S → Type 0
  halts x = (hand x).limit ≡ true

  pub gone : (p : Program) (job : Job) (x y : S) (ended : Ended) → EndsSo at goes halts p job x y ended
      → GoneSo began (hand y).view p (hand y).forks ended
  gone p job x y E.Done (done, all, c) = came_end began (hand y) p job done E.Done refl all c.stands c.running
  gone p job x y (E.Fault law line) (done, all, c) = came_end began (hand y) p job done (E.Fault law line) refl all c.stands c.running
  gone p job x y E.Halted (done, more, refused, called, all, stuck) =
      record { e = stuck.stands.e; since = stuck.stands.since; stop = stuck.stands.stop stuck.at_halt }

  pub gone_zeroed : (p : Program) (call : CallTree) (x y : S) (ended : Ended) → is_loop_at p call.task ≡ true → ZeroesSo at goes halts p call x y ended
      → ZeroedSo began (hand y).view p (hand y).forks ended
  gone_zeroed p call x y E.Done loop c = came_zeroed began (hand y) p call loop c.stands c.running
  gone_zeroed p call x y (E.Fault law line) loop h = h
  gone_zeroed p call x y E.Halted loop (done, more, refused, all, stuck) =
      record { e = stuck.stands.e; since = stuck.stands.since; stop = stuck.stands.stop stuck.at_halt }
