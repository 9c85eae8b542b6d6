-- The turns of a worker.
use Rattle.std.proofs.Common.{◌≡◌, ◌≢◌, ◌≤◌, ◌<◌, inl, inr, ℕ, zero, suc, ◌+◌, ◌*◌, Bool, true, false, cond, nat_lt, ◌==◌, if◌then◌else◌, List, [], ◌∷◌, ◌++◌, length, map, Option, Some, None, refl, sym, ap, ◌∙◌, subst, arith, append-nil, append_assoc}
use Rattle.std.proofs.lemmas.Bool.Decides.{nat_tests}
use mathlib.Core.Option.{some}
use lib.ListN.{get_elem?}
use Rattle.kt_law.specs.declared.limits.TheConstants.{TASKS, WORKERS}
use Rattle.kt_law.specs.declared.stands.Stand.{Stand}
use Rattle.kt_law.specs.declared.stands.Stand.TheVariants as S
use Rattle.kt_order.specs.Body.{Stop}
use Rattle.kt_order.specs.Rest.{left, standing}
use Rattle.kt_order.specs.Shown.{fault_of}
use Rattle.kt_prog.specs.Calls.{CallTree}
use Rattle.kt_prog.specs.Entries.{fault_in}
use Rattle.kt_prog.specs.Operations.{is_loop_at}
use Rattle.kt_prog.specs.Outcome.{fault_before}
use Rattle.kt_prog.specs.Reference.{machine_of}
use Rattle.kt_prog.specs.Runs.{FaultRun}
use Rattle.kt_prog.specs.Script.{Fault}
use Rattle.kt_prog.specs.declared.programs.Program.{Program}
use Rattle.kt_body.specs.declared.ops.Ended.{Ended}
use Rattle.kt_runs.specs.ByPath.{Path, child}
use Rattle.kt_runs.specs.Theorems.{whole_at}
use Rattle.kt_words.specs.Words.{IsStateWord, packed_state, stand_number}
use Rattle.kt_words.specs.declared.layouts.TheConstants.{RECORDS}
use Rattle.kt_words.specs.declared.states.StateWord.{StateWord}
use Rattle.kt_rule.specs.declared.views.Execution.{Execution}
use Rattle.kt_rule.specs.declared.views.IndexRun.{IndexRun}
use Rattle.kt_rule.specs.declared.views.LoopHands.{LoopHands}
use Rattle.kt_rule.specs.declared.views.Seen.{Seen}
use Rattle.kt_rule.specs.declared.views.Setup.{Setup}
use Rattle.kt_rule.specs.declared.views.Spot.{Spot}
use Rattle.kt_rule.specs.declared.views.Tasks.{Tasks}
use Rattle.kt_rule.specs.declared.views.View.{View}
use Rattle.kt_rule.specs.Close.{run_entry}
use Rattle.kt_rule.specs.Lists.{In, here, there}
use Rattle.kt_rule.specs.Records.{stand_in}
use Rattle.kt_rule.specs.Steps.{BeforeKnown, begun_by, knows_stop, learnt, over, paths_at, stands, starts, state_word, won_own}
use Rattle.kt_rule.specs.Views.{main_spot}
use Rattle.kt_rule.proofs.Moves.{at_below}
use Rattle.kt_rule.proofs.Words.{word_parts}
use Rattle.kt_steps.specs.Told.{IsMine}
use Rattle.kt_tasks.specs.Claims.{AreFew, Claimed}
use Rattle.kt_tasks.specs.declared.states.Claim.TheVariants as C
use Rattle.kt_tasks.specs.Hands.{IsHeld}
use Rattle.kt_calls.specs.Ranges.{IsOfCrew, IsRecord, IsWorker}
use Rattle.kt_faults.specs.First.{IsFirst, earlier}
use Rattle.kt_faults.proofs.Firsts.{earlier_first}
use Rattle.kt_faults.proofs.Order.{irreflexive}
use Rattle.kt_intervals.specs.Indexes.{fault_with}
use Rattle.kt_intervals.specs.Faults.{faults_met, index_faults, task_faults}
use Rattle.kt_loops.specs.Calls.{RunsLoop}
use Rattle.kt_loops.specs.Operations.{IsPlainEnd, MayFinish, finished, finishes}
use Rattle.kt_worker.specs.Asking.{HasSamePieces, IsAnswered, IsIdle, Learnt}
use Rattle.kt_worker.specs.Faults.{IsLeast, fault_at, task_of}
use Rattle.kt_worker.specs.Hands.{IsAtEnd, base_of}
use Rattle.kt_worker.specs.Levels.{Bench, Calm, Ends, Extends, HasBegun, HasEnded, IsFrom, IsQuiet, IsThrough, LevelIs, Rises, Stacked, Turns, bench, kin, raised}
use Rattle.kt_worker.specs.Turns.{IsAboutToStart}
use Rattle.kt_worker.specs.Working.{IsFresh}
use Rattle.kt_worker.specs.declared.stacks.Level.{Level}
use Rattle.kt_worker.specs.declared.tallies.Tally.{Tally}
use Rattle.kt_worker.proofs.Begun.{crew_of, extends_both, extends_same, held, least_same, quiet_of, stacked_keeps, stacked_length}
use Rattle.kt_worker.proofs.Stands.{end_left, over_left, record_same}
use Rattle.kt_order.specs.Stand.{Standing}

-- the topmost frame, and those below it
pub record Top (v : View) (p : Program) (l : Level) (levels : List Level) (es : List Execution) : Type 0 where
  pub e : Execution
  pub rest : List Execution
  pub is : es ≡ e ∷ rest
  pub level : LevelIs v p l e
  pub from : IsFrom l.own e levels rest
  pub below : Stacked v p levels rest

pub top_of : (v : View) (p : Program) (l : Level) (levels : List Level) (es : List Execution) → Stacked v p (l ∷ levels) es → Top v p l levels es
top_of v p l levels [] s = absurd s
top_of v p l levels (e ∷ rest) (h, from, s) = record { e = e; rest = rest; is = refl; level = h; from = from; below = s }

is_nil : {A : Type 0} (xs : List A) → length xs ≡ 0 → xs ≡ []
is_nil [] e = refl
is_nil (x ∷ xs) e = cc

-- two children are one only where their parents and their places are
pub child_one : (p q : Path) (i k : ℕ) → child p i ≡ child q k → (p ≡ q) × (i ≡ k)
child_one [] [] i k e = (refl, cc)
child_one [] (y ∷ []) i k e = cc
child_one [] (y ∷ z ∷ q) i k e = cc
child_one (x ∷ []) [] i k e = cc
child_one (x ∷ z ∷ p) [] i k e = cc
child_one (x ∷ p) (y ∷ q) i k e =
    let tails : child p i ≡ child q k = cc in
    let heads : x ≡ y = cc in
    let h = child_one p q i k tails in
    (ap (λ (n : ℕ). n ∷ p) heads ∙ ap (λ (xs : Path). y ∷ xs) h.0, h.1)

-- after a step of its own, and then more
pub turns_after : (v x w : View) (p : Program) (t : Tally) (levels : List Level) (b : Bool) → Extends v x → Turns x w p t levels b → Turns v w p t levels b
turns_after v x w p t levels true k (c, l) = (c, extends_both v x w k l)
turns_after v x w p t levels false k (c, l) = (c, extends_both v x w k l)

pub calm_of : (v w : View) (p : Program) (t : Tally) (levels : List Level) (b : Bool) → b ≡ true → Turns v w p t levels b → Calm w p t levels × Extends v w
calm_of v w p t levels true e h = h
calm_of v w p t levels false e h = cc

pub ends_of : (v w : View) (p : Program) (t : Tally) (levels : List Level) (b : Bool) → b ≡ false → Turns v w p t levels b → Ends w t.fault × Extends v w
ends_of v w p t levels true e h = cc
ends_of v w p t levels false e h = h

-- whom a worker asked last does not matter
pub calm_victim : (v : View) (p : Program) (t : Tally) (levels : List Level) (n : ℕ) → Calm v p t levels → Calm v p (record t { victim = n }) levels
calm_victim v p t levels n c = record { quiet = c.quiet; fault = c.fault; begun = c.begun; counted = c.counted; few = c.few; stacked = c.stacked }

pub calm_crew : (v : View) (p : Program) (t : Tally) (levels : List Level) → Calm v p t levels → IsOfCrew v
calm_crew v p t levels c = crew_of v p t.base t.used c.quiet

pub calm_idle : (v : View) (p : Program) (t : Tally) (levels : List Level) → Calm v p t levels → IsIdle v
calm_idle v p t levels c = record { given = c.quiet.given; promised = c.quiet.promised; free = c.quiet.free; leads = c.quiet.leads }

pub levels_few : (v : View) (p : Program) (t : Tally) (levels : List Level) → Calm v p t levels → length levels ≤ TASKS + WORKERS
levels_few v p t levels c =
    let same = stacked_length v p levels v.tasks.running c.stacked in
    let few : length v.tasks.running + (length v.tasks.halted + length v.tasks.ran) ≤ TASKS + WORKERS = c.few in
    omega (arith, same, few)

-- the seat's setup is the one that it was told
pub setup_one : (v : View) (p : Program) (t : Tally) (levels : List Level) → Calm v p t levels → (j : Setup) → v.setup ≡ Some j → j.program ≡ p
setup_one v p t levels c j told =
    let one : c.quiet.setup ≡ j = let e : Some c.quiet.setup ≡ Some j = sym c.quiet.told ∙ told in cc in
    sym (ap (λ (k : Setup). k.program) one) ∙ c.quiet.program

-- record 0 is one of the run's
pub idle_inside : (v : View) (p : Program) (t : Tally) (levels : List Level) → Calm v p t levels → IsRecord v 0
idle_inside v p t levels c = record { setup = c.quiet.setup; told = c.quiet.told; below = let own = c.quiet.own in omega (arith, own) }

pub victim_below : (v : View) (p : Program) (t : Tally) (levels : List Level) → (c : Calm v p t levels) → (victim workers : ℕ) → workers ≡ c.quiet.setup.workers
    → victim < workers → IsWorker v victim
victim_below v p t levels c victim workers is lt = record { setup = c.quiet.setup; told = c.quiet.told; below = rw (sym is) lt }

-- SOMETHING WAS SEEN

pub extends_seen : (v w : View) (seen : Seen) → w ≡ record v { seen = seen } → ((q : Path) → In q v.seen.known → In q w.seen.known) → Extends v w
extends_seen v w seen same known = record {
  seat = ap kin same;
  spots = λ a m o. subst (λ (x : View). get_elem? x.region.spots a ≡ some m) (sym same) o;
  known = known;
}

-- what steps see or learn of loops changes nothing of this
pub calm_same : (v w : View) (p : Program) (t : Tally) (levels : List Level) → bench w ≡ bench v → w.tasks ≡ v.tasks → w.loops.retired ≡ v.loops.retired
    → Extends v w → Calm v p t levels → Calm w p t levels
calm_same v w p t levels same tasks retired k c = record {
  quiet = subst (λ (b : Bench). IsQuiet b p t.base t.used) (sym same) c.quiet;
  fault = least_same t.fault v w (ap (λ (b : Bench). b.setup) same) (ap (λ (s : Tasks). s.ran) tasks) retired c.fault;
  begun = c.begun ∙ ap (λ (s : Tasks). s.begun) (sym tasks);
  counted = subst (λ (s : Tasks). s.begun ≡ length s.running + length s.ran) (sym tasks) c.counted;
  few = subst (λ (s : Tasks). length s.running + (length s.halted + length s.ran) ≤ TASKS + WORKERS) (sym tasks) c.few;
  stacked = subst (Stacked w p levels) (sym (ap (λ (s : Tasks). s.running) tasks)) (stacked_keeps v w p levels v.tasks.running k c.stacked);
}

pub calm_seen : (v w : View) (p : Program) (t : Tally) (levels : List Level) (seen : Seen) → w ≡ record v { seen = seen }
    → ((q : Path) → In q v.seen.known → In q w.seen.known) → Calm v p t levels → Calm w p t levels × Extends v w
calm_seen v w p t levels seen same known c =
    let k = extends_seen v w seen same known in
    (calm_same v w p t levels (ap bench same) (ap (λ (x : View). x.tasks) same) (ap (λ (x : View). x.loops.retired) same) k c, k)

in_back : {A : Type 0} (xs ys : List A) (x : A) → In x ys → In x (xs ++ ys)
in_back [] ys x i = i
in_back (y ∷ xs) ys x i = there (in_back xs ys x i)

in_front : {A : Type 0} (xs ys : List A) (x : A) → In x xs → In x (xs ++ ys)
in_front [] ys x i = elim i [ ]
in_front (y ∷ xs) ys x here = here
in_front (y ∷ xs) ys x (there i) = there (in_front xs ys x i)

stands_known : (v w : View) (at n : ℕ) → w ≡ stands v at n → (q : Path) → In q v.seen.known → In q w.seen.known
stands_known v w at n same q i =
    subst (λ (ps : List Path). In q ps) (sym (ap (λ (x : View). x.seen.known) same)) (in_back (cond (stand_in n == 4) (learnt v at) []) v.seen.known q i)

-- a look at a record
pub calm_stands : (v w : View) (p : Program) (t : Tally) (levels : List Level) (at n : ℕ) → w ≡ stands v at n → Calm v p t levels
    → Calm w p t levels × Extends v w
calm_stands v w p t levels at n same c = calm_seen v w p t levels (stands v at n).seen same (stands_known v w at n same) c

four_is : (n k : ℕ) → n ≡ k → k ≡ 4 → (n == 4) ≡ true
four_is n k e f = grind (arith, nat_tests, e, f)

finished_word : (x : StateWord) → IsStateWord x → x.stand ≡ S.Finished → (stand_in (packed_state x) == 4) ≡ true
finished_word x fits is = four_is (stand_in (packed_state x)) (stand_number x.stand) (word_parts x fits).0 (ap stand_number is)

finds : (v w : View) (at n : ℕ) → w ≡ stands v at n → (stand_in n == 4) ≡ true → (q : Path) → In q (learnt v at) → In q w.seen.known
finds v w at n same four q i =
    subst (λ (ps : List Path). In q ps) (sym (ap (λ (x : View). x.seen.known) same))
    (subst (λ (b : Bool). In q (cond b (learnt v at) [] ++ v.seen.known)) (sym four) (in_front (learnt v at) v.seen.known q i))

same_number : (n : ℕ) → (n == n) ≡ true
same_number n = grind (arith, nat_tests)

further : (b : Bool) (q : Path) (qs : List Path) (r : Path) → In r qs → In r (cond b (q ∷ qs) qs)
further true q qs r i = there i
further false q qs r i = i

mine_at : (spots : List Spot) (a at : ℕ) (m : Spot) → get_elem? spots a ≡ some m → m.berth.at ≡ at → In m.path (paths_at at spots)
mine_at [] a at m e lies = cc
mine_at (x ∷ spots) zero at m e lies =
    let is : x ≡ m = cc in
    let one : (x.berth.at == at) ≡ true = subst (λ (n : ℕ). (x.berth.at == n) ≡ true) (ap (λ (y : Spot). y.berth.at) is ∙ lies) (same_number x.berth.at) in
    subst (λ (b : Bool). In m.path (cond b (x.path ∷ paths_at at spots) (paths_at at spots))) (sym one)
    (subst (λ (y : Spot). In y.path (x.path ∷ paths_at at spots)) is here)
mine_at (x ∷ spots) (suc a) at m e lies = further (x.berth.at == at) x.path (paths_at at spots) m.path (mine_at spots a at m e lies)

-- the own task that lies there was found finished
found_own : (v w : View) (at : ℕ) (x : StateWord) → w ≡ stands v at (packed_state x) → IsStateWord x → x.stand ≡ S.Finished → (m : Spot) → IsMine v at m
    → In m.path w.seen.known
found_own v w at x same fits is m (a, e, lies) =
    finds v w at (packed_state x) same (finished_word x fits is) m.path
    (in_back (cond (at == 0) ([] ∷ []) []) (paths_at at v.region.spots) m.path (mine_at v.region.spots a at m e lies))

-- main was found finished
found_main : (v w : View) (x : StateWord) → w ≡ stands v 0 (packed_state x) → IsStateWord x → x.stand ≡ S.Finished → In [] w.seen.known
found_main v w x same fits is = finds v w 0 (packed_state x) same (finished_word x fits is) [] here

-- where no frame is under way, and main was found finished
pub idle_ends : (v w : View) (p : Program) (t : Tally) (levels : List Level) (x : StateWord) → levels ≡ [] → w ≡ stands v 0 (packed_state x) → IsStateWord x
    → x.stand ≡ S.Finished → Calm v p t levels → Ends w t.fault × Extends v w
idle_ends v w p t levels x none same fits is c =
    let s = calm_stands v w p t levels 0 (packed_state x) same c in
    let long = stacked_length w p levels w.tasks.running s.0.stacked in
    let zero_long : length w.tasks.running ≡ 0 = sym long ∙ ap (λ (ls : List Level). length ls) none in (
      record {
        free = s.0.quiet.free;
        leads = s.0.quiet.leads;
        given = s.0.quiet.given;
        promised = s.0.quiet.promised;
        pieces = s.0.quiet.pieces;
        taken = s.0.quiet.taken;
        fault = s.0.fault;
        cause = inl (found_main v w x same fits is, is_nil w.tasks.running zero_long);
      },
      s.1,
    )

stop_known : (v w : View) → w ≡ knows_stop v → (q : Path) → In q v.seen.known → In q w.seen.known
stop_known v w same q i = subst (λ (x : View). In q x.seen.known) (sym same) i

-- a look at the stop word
pub calm_stop : (v w : View) (p : Program) (t : Tally) (levels : List Level) (b : Bool) → b ≡ false → w ≡ (if b then knows_stop v else v) → Calm v p t levels
    → Calm w p t levels × Extends v w
calm_stop v w p t levels true e same c = cc
calm_stop v w p t levels false e same c = subst (λ (x : View). Calm x p t levels × Extends v x) (sym same) (c, extends_same v)

-- a worker that reads that the run stops
pub stops : (v w : View) (p : Program) (t : Tally) (levels : List Level) (b : Bool) → b ≡ true → w ≡ (if b then knows_stop v else v) → Calm v p t levels
    → Ends w t.fault × Extends v w
stops v w p t levels false e same c = cc
stops v w p t levels true e same c =
    let s = calm_seen v w p t levels (knows_stop v).seen same (stop_known v w same) c in (
      record {
        free = s.0.quiet.free;
        leads = s.0.quiet.leads;
        given = s.0.quiet.given;
        promised = s.0.quiet.promised;
        pieces = s.0.quiet.pieces;
        taken = s.0.quiet.taken;
        fault = s.0.fault;
        cause = inr (ap (λ (x : View). x.seen.stop) same);
      },
      s.1,
    )

-- WHAT WAS GIVEN

pub extends_learnt : (v w : View) → Learnt v w → Extends v w
extends_learnt v w l = record {
  seat = ap kin l.same;
  spots = λ a m o. subst (λ (x : View). get_elem? x.region.spots a ≡ some m) (sym l.same) o;
  known = l.known;
}

quiet_learnt : (v w : View) (p : Program) (low count : ℕ) → Learnt v w → w.tasks.given ≡ [] → w.desk.free ≡ true → w.desk.leads ≡ false
    → w.loops.pieces ≡ [] → IsQuiet (bench v) p low count → IsQuiet (bench w) p low count
quiet_learnt v w p low count l given free leads pieces q =
    quiet_of (bench v) (bench w) p low count (ap (λ (x : View). x.setup) l.same) (ap (λ (x : View). x.worker) l.same)
    (ap (λ (x : View). x.region.spots) l.same) (ap (λ (x : View). x.region.built) l.same) (ap (λ (x : View). x.draws) l.same)
    (ap (λ (x : View). x.tasks.promised) l.same) (ap (λ (x : View). x.loops.pending) l.same) (ap (λ (x : View). x.loops.over) l.same)
    given free leads pieces (ap (λ (x : View). x.loops.taken) l.same ∙ q.taken) (ap (λ (x : View). x.loops.free) l.same ∙ q.empty) q

-- it asked, and there was nothing
pub calm_answered : (v w : View) (p : Program) (t : Tally) (levels : List Level) → IsAnswered v w → w.tasks.given ≡ [] → HasSamePieces v w
    → Calm v p t levels → Calm w p t levels × Extends v w
calm_answered v w p t levels a given pieces c =
    let l = a.learnt in
    let k = extends_learnt v w l in (
      record {
        quiet = quiet_learnt v w p t.base t.used l given a.free a.leads (pieces ∙ c.quiet.pieces) c.quiet;
        fault = least_same t.fault v w (ap (λ (x : View). x.setup) l.same) (ap (λ (x : View). x.tasks.ran) l.same) (ap (λ (x : View). x.loops.retired) l.same) c.fault;
        begun = c.begun ∙ ap (λ (x : View). x.tasks.begun) (sym l.same);
        counted = subst (λ (x : View). x.tasks.begun ≡ length x.tasks.running + length x.tasks.ran) (sym l.same) c.counted;
        few = subst (λ (x : View). length x.tasks.running + (length x.tasks.halted + length x.tasks.ran) ≤ TASKS + WORKERS) (sym l.same) c.few;
        stacked = subst (Stacked w p levels) (sym (ap (λ (x : View). x.tasks.running) l.same)) (stacked_keeps v w p levels v.tasks.running k c.stacked);
      },
      k,
    )

module _ (w : View) (p : Program) (t : Tally) (levels : List Level) (at : ℕ) (h : IsAboutToStart w p t levels at) where
  l_ : Learnt h.before w
  l_ = h.answered.learnt

  pub start_crew : IsOfCrew w
  start_crew = let q = h.calm.quiet in record {
    setup = q.setup;
    told = ap (λ (x : View). x.setup) l_.same ∙ q.told;
    own = subst (λ (x : View). x.worker < q.setup.workers) (sym l_.same) q.own;
    few = q.workers;
  }

  pub start_inside : IsRecord w at
  start_inside = h.given.inside

  pub start : (m : Spot) × (rest : List Spot) × (w.tasks.given ≡ m ∷ rest) × (m.berth.at ≡ at)
  start = (h.given.task, [], h.given.is, h.given.lies)

  module _ (x : View) (started : (m : Spot) (rest : List Spot) → w.tasks.given ≡ m ∷ rest → x ≡ starts w m rest) (few : AreFew x) where
    same : x ≡ starts w h.given.task []
    same = started h.given.task [] h.given.is

    running : x.tasks.running ≡ begun_by w.tasks h.given.task ∷ h.before.tasks.running
    running = ap (λ (y : View). y.tasks.running) same ∙ ap (λ (y : View). begun_by w.tasks h.given.task ∷ y.tasks.running) l_.same

    extends_now : Extends w x
    extends_now = record {
      seat = ap kin same;
      spots = λ a m o. subst (λ (y : View). get_elem? y.region.spots a ≡ some m) (sym same) o;
      known = λ q i. subst (λ (y : View). In q y.seen.known) (sym same) i;
    }

    pub begun_given : HasBegun x p t levels at false × Extends w x
    begun_given = (
      record {
        quiet = quiet_of (bench h.before) (bench x) p t.base t.used
            (ap (λ (y : View). y.setup) same ∙ ap (λ (y : View). y.setup) l_.same)
            (ap (λ (y : View). y.worker) same ∙ ap (λ (y : View). y.worker) l_.same)
            (ap (λ (y : View). y.region.spots) same ∙ ap (λ (y : View). y.region.spots) l_.same)
            (ap (λ (y : View). y.region.built) same ∙ ap (λ (y : View). y.region.built) l_.same)
            (ap (λ (y : View). y.draws) same ∙ ap (λ (y : View). y.draws) l_.same)
            (ap (λ (y : View). y.tasks.promised) same ∙ ap (λ (y : View). y.tasks.promised) l_.same)
            (ap (λ (y : View). y.loops.pending) same ∙ ap (λ (y : View). y.loops.pending) l_.same)
            (ap (λ (y : View). y.loops.over) same ∙ ap (λ (y : View). y.loops.over) l_.same)
            (ap (λ (y : View). y.tasks.given) same)
            (ap (λ (y : View). y.desk.free) same ∙ h.answered.free)
            (ap (λ (y : View). y.desk.leads) same ∙ h.answered.leads)
            (ap (λ (y : View). y.loops.pieces) same ∙ h.pieces ∙ h.calm.quiet.pieces)
            (ap (λ (y : View). y.loops.taken) same ∙ ap (λ (y : View). y.loops.taken) l_.same ∙ h.calm.quiet.taken)
            (ap (λ (y : View). y.loops.free) same ∙ ap (λ (y : View). y.loops.free) l_.same ∙ h.calm.quiet.empty)
            h.calm.quiet;
        fault = least_same t.fault h.before x (ap (λ (y : View). y.setup) same ∙ ap (λ (y : View). y.setup) l_.same)
            (ap (λ (y : View). y.tasks.ran) same ∙ ap (λ (y : View). y.tasks.ran) l_.same)
            (ap (λ (y : View). y.loops.retired) same ∙ ap (λ (y : View). y.loops.retired) l_.same) h.calm.fault;
        e = begun_by w.tasks h.given.task;
        rest = h.before.tasks.running;
        is = running;
        answers = refl;
        done = refl;
        forks = refl;
        plain = refl;
        frame = sym (ap (λ (y : View). y.tasks.begun) same);
        at_is = h.given.lies;
        inside = record_same w x at (ap (λ (y : View). y.setup) same) h.given.inside;
        from = tt;
        begun =
            let one : x.tasks.begun ≡ suc w.tasks.begun = ap (λ (y : View). y.tasks.begun) same in
            let two : w.tasks.begun ≡ h.before.tasks.begun = ap (λ (y : View). y.tasks.begun) l_.same in
            let three = h.calm.begun in
            omega (arith, one, two, three);
        counted =
            let one : x.tasks.begun ≡ suc w.tasks.begun = ap (λ (y : View). y.tasks.begun) same in
            let two : w.tasks.begun ≡ h.before.tasks.begun = ap (λ (y : View). y.tasks.begun) l_.same in
            let three = h.calm.counted in
            let four : length x.tasks.running ≡ suc (length h.before.tasks.running) = ap (λ (es : List Execution). length es) running in
            let five : length x.tasks.ran ≡ length w.tasks.ran = ap (λ (y : View). length y.tasks.ran) same in
            let six : length w.tasks.ran ≡ length h.before.tasks.ran = ap (λ (y : View). length y.tasks.ran) l_.same in
            omega (arith, one, two, three, four, five, six);
        few = few;
        stacked = stacked_keeps h.before x p levels h.before.tasks.running (extends_both h.before w x (extends_learnt h.before w l_) extends_now) h.calm.stacked;
      },
      extends_now,
    )

    -- the run stops by now
    pub begun_stops : (y : View) (b : Bool) → b ≡ true → y ≡ (if b then knows_stop x else x) → Ends y t.fault × Extends w y
    begun_stops y false e is = cc
    begun_stops y true e is =
        let b = begun_given.0 in (
          record {
            free = ap (λ (z : View). z.desk.free) is ∙ b.quiet.free;
            leads = ap (λ (z : View). z.desk.leads) is ∙ b.quiet.leads;
            given = ap (λ (z : View). z.tasks.given) is ∙ b.quiet.given;
            promised = ap (λ (z : View). z.tasks.promised) is ∙ b.quiet.promised;
            pieces = ap (λ (z : View). z.loops.pieces) is ∙ b.quiet.pieces;
            taken = ap (λ (z : View). z.loops.taken) is ∙ b.quiet.taken;
            fault = least_same t.fault x y (ap (λ (z : View). z.setup) is) (ap (λ (z : View). z.tasks.ran) is) (ap (λ (z : View). z.loops.retired) is) b.fault;
            cause = inr (ap (λ (z : View). z.seen.stop) is);
          },
          extends_both w x y extends_now (extends_seen x y (knows_stop x).seen is (stop_known x y is)),
        )

    pub begun_goes : (y : View) (b : Bool) → b ≡ false → y ≡ (if b then knows_stop x else x) → HasBegun y p t levels at false × Extends w y
    begun_goes y true e is = cc
    begun_goes y false e is = subst (λ (z : View). HasBegun z p t levels at false × Extends w z) (sym is) begun_given

-- one more of the first ones is known
one_more : (known : List Path) (path : Path) (n : ℕ) → ((k : ℕ) → k < n → In (child path k) known) → In (child path n) known
    → (k : ℕ) → k < n + 1 → In (child path k) known
one_more known path n h mine k lt = which (nat_lt k n) refl
  where
    which : (b : Bool) → nat_lt k n ≡ b → In (child path k) known
    which true e = h k (grind (arith, nat_tests))
    which false e =
        let past : n ≤ k = grind (arith, nat_tests) in
        let same : n ≡ k = omega (arith, past, lt) in
        subst (λ (i : ℕ). In (child path i) known) same mine

-- THE NEXT ENTRY

module _ (v : View) (p : Program) (t : Tally) (l : Level) (levels : List Level) (c : Calm v p t (l ∷ levels)) where
  pub top : Top v p l levels v.tasks.running
  top = top_of v p l levels v.tasks.running c.stacked

  pub below_few : length levels < TASKS + WORKERS
  below_few =
      let same = stacked_length v p (l ∷ levels) v.tasks.running c.stacked in
      let few : length v.tasks.running + (length v.tasks.halted + length v.tasks.ran) ≤ TASKS + WORKERS = c.few in
      omega (arith, same, few)

  module _ (more : l.next < l.count) where
    pub entry : (m : Spot) × (get_elem? v.region.spots (l.first + l.next) ≡ some m) × (m.path ≡ child top.e.spot.path l.next) × (m.berth.at ≡ base_of v + (l.first + l.next))
    entry = top.level.children l.next more

    pub entry_small : (t.base + l.first + l.next < RECORDS * c.quiet.setup.workers) × (c.quiet.setup.workers ≤ WORKERS)
    entry_small =
        let within = at_below v.region.spots (l.first + l.next) entry.0 entry.1 in
        let room : length v.region.spots ≤ RECORDS = c.quiet.room in
        let one : t.base ≡ RECORDS * v.worker = c.quiet.base in
        let two : v.worker < c.quiet.setup.workers = c.quiet.own in
        (omega (arith, within, room, one, two), c.quiet.workers)

    pub entry_inside : (at : ℕ) → at ≡ t.base + l.first + l.next → IsRecord v at
    entry_inside at is = record { setup = c.quiet.setup; told = c.quiet.told; below = let small = entry_small.0 in omega (arith, is, small) }

    entry_at : (at : ℕ) → at ≡ t.base + l.first + l.next → (entry.0).berth.at ≡ at
    entry_at at is = let lies = entry.3 in let base : t.base ≡ RECORDS * v.worker = c.quiet.base in omega (arith, is, lies, base)

    before_known : BeforeKnown v (entry.0).path
    before_known q k e i lt =
        let same = child_one top.e.spot.path q l.next k (sym entry.2 ∙ e) in
        let known = top.level.known i (let two = same.1 in omega (arith, lt, two)) in
        subst (λ (r : Path). In (child r i) v.seen.known) same.0 known

    pub mine : (at : ℕ) → at ≡ t.base + l.first + l.next → IsMine v at entry.0
    mine at is = (l.first + l.next, entry.1, entry_at at is)

    pub may_claim : (at : ℕ) → at ≡ t.base + l.first + l.next → (m : Spot) × IsMine v at m × BeforeKnown v m.path
    may_claim at is = (entry.0, mine at is, before_known)

    -- the entry is begun
    pub begun_own : (w : View) (at : ℕ) → at ≡ t.base + l.first + l.next → ((m : Spot) → IsMine v at m → w ≡ won_own v m) → AreFew w
        → HasBegun w p t (l ∷ levels) at true × Extends v w
    begun_own w at is won few =
        let same : w ≡ won_own v entry.0 = won entry.0 (mine at is) in
        let keeps : Extends v w = record {
          seat = ap kin same;
          spots = λ a m o. subst (λ (y : View). get_elem? y.region.spots a ≡ some m) (sym same) o;
          known = λ q i. subst (λ (y : View). In q y.seen.known) (sym same) i;
        } in (
          record {
            quiet = subst (λ (b : Bench). IsQuiet b p t.base t.used) (sym (ap bench same)) c.quiet;
            fault = least_same t.fault v w (ap (λ (y : View). y.setup) same) (ap (λ (y : View). y.tasks.ran) same) (ap (λ (y : View). y.loops.retired) same) c.fault;
            e = begun_by v.tasks entry.0;
            rest = top.e ∷ top.rest;
            is = ap (λ (y : View). y.tasks.running) same ∙ ap (λ (es : List Execution). begun_by v.tasks entry.0 ∷ es) top.is;
            answers = refl;
            done = refl;
            forks = refl;
            plain = refl;
            frame = sym (ap (λ (y : View). y.tasks.begun) same);
            at_is = entry_at at is;
            inside = record_same v w at (ap (λ (y : View). y.setup) same) (entry_inside at is);
            from = (entry.2, more);
            begun = let one : w.tasks.begun ≡ suc v.tasks.begun = ap (λ (y : View). y.tasks.begun) same in let two = c.begun in omega (arith, one, two);
            counted =
                let one : w.tasks.begun ≡ suc v.tasks.begun = ap (λ (y : View). y.tasks.begun) same in
                let two = c.counted in
                let three : length w.tasks.running ≡ suc (length v.tasks.running) = ap (λ (y : View). length y.tasks.running) same in
                let four : length w.tasks.ran ≡ length v.tasks.ran = ap (λ (y : View). length y.tasks.ran) same in
                omega (arith, one, two, three, four);
            few = few;
            stacked = stacked_keeps v w p (l ∷ levels) (top.e ∷ top.rest) keeps (subst (Stacked v p (l ∷ levels)) top.is c.stacked);
          },
          keeps,
        )

    -- it was found stolen
    pub calm_lost : (w : View) (stand : Stand) (at : ℕ) → at ≡ t.base + l.first + l.next → Claimed v at w (C.Stolen stand)
        → Calm w p t (l ∷ levels) × Extends v w
    calm_lost w stand at is h =
        calm_stands v w p t (l ∷ levels) at (state_word (entry.0).berth stand) (h.2 entry.0 (mine at is)).1 c

    -- it is remembered that the entry was stolen
    pub calm_stolen : (b : Bool) → Calm v p t (record l { stolen = b } ∷ levels)
    calm_stolen b = record {
      quiet = c.quiet;
      fault = c.fault;
      begun = c.begun;
      counted = c.counted;
      few = c.few;
      stacked = subst (Stacked v p (record l { stolen = b } ∷ levels)) (sym top.is) (
        record {
          at = top.level.at;
          inside = top.level.inside;
          ends = top.level.ends;
          forks = top.level.forks;
          children = top.level.children;
          next = top.level.next;
          known = top.level.known;
        },
        top.from,
        top.below,
      );
    }

-- the entry was found finished
pub passed : (v w : View) (p : Program) (t : Tally) (l : Level) (levels : List Level) (c : Calm v p t (l ∷ levels)) (more : l.next < l.count) (at : ℕ) (x : StateWord)
    → at ≡ t.base + l.first + l.next → w ≡ stands v at (packed_state x) → IsStateWord x → x.stand ≡ S.Finished
    → Turns v w p t (record l { next = l.next + 1; stolen = false } ∷ levels) true
passed v w p t l levels c more at x at_is same fits is =
    let s = calm_stands v w p t (l ∷ levels) at (packed_state x) same c in
    let o = top v p t l levels c in
    let n = top_of w p l levels w.tasks.running s.0.stacked in
    let running : w.tasks.running ≡ v.tasks.running = ap (λ (y : View). y.tasks.running) same in
    let one : n.e ≡ o.e = let e : n.e ∷ n.rest ≡ o.e ∷ o.rest = sym n.is ∙ running ∙ o.is in cc in
    let entry_is = entry v p t l levels c more in
    let known : In (child n.e.spot.path l.next) w.seen.known =
    subst (λ (q : Execution). In (child q.spot.path l.next) w.seen.known) (sym one)
    (subst (λ (q : Path). In q w.seen.known) entry_is.2 (found_own v w at x same fits is entry_is.0 (mine v p t l levels c more at at_is))) in (
      record {
        quiet = s.0.quiet;
        fault = s.0.fault;
        begun = s.0.begun;
        counted = s.0.counted;
        few = s.0.few;
        stacked = subst (Stacked w p (record l { next = l.next + 1; stolen = false } ∷ levels)) (sym n.is) (
          record {
            at = n.level.at;
            inside = n.level.inside;
            ends = n.level.ends;
            forks = n.level.forks;
            children = n.level.children;
            next = omega (arith, more);
            known = one_more w.seen.known n.e.spot.path l.next n.level.known known;
          },
          n.from,
          n.below,
        );
      },
      s.1,
    )

-- THE END OF A TASK

-- the fault of a task is the first of its faults
first_of_one : (path : Path) (call : CallTree) (fault : Option Fault) → IsFirst (fault_at path fault) (fault_in (whole_at (map suc path) call) fault ++ [])
first_of_one path call None = refl
first_of_one path call (Some f) = (inl refl, (not_before_itself, tt))
  where
    mine : FaultRun
    mine = record { path = map suc path; index = None; fault = f.law; line = f.line }

    not_before_itself : fault_before mine mine ≡ false
    not_before_itself = rw (irreflexive (map suc path)) refl

first_with : (path : Path) (call : CallTree) (fault : Option Fault) (least : Option FaultRun) (faults : List FaultRun) → IsFirst least faults
    → IsFirst (earlier (fault_at path fault) least) ((fault_in (whole_at (map suc path) call) fault ++ []) ++ faults)
first_with path call fault least faults first =
    earlier_first (fault_at path fault) least (fault_in (whole_at (map suc path) call) fault ++ []) faults (first_of_one path call fault) first

-- the faults of one task more
one_more_met : (j : Setup) (e : Execution) (ran : List Execution) (others : List FaultRun)
    → task_faults j (e ∷ []) ++ (task_faults j ran ++ others) ≡ task_faults j (e ∷ ran) ++ others
one_more_met j e ran others =
    let own = fault_in (run_entry j e).call (run_entry j e).fault in
    ap (λ (xs : List FaultRun). xs ++ (task_faults j ran ++ others)) (append-nil own) ∙ sym (append_assoc own (task_faults j ran) others)

-- a task is finished, and where it is the next entry of the frame below, that frame has one more
raise_stacked : (own : Bool) (v w : View) (p : Program) (e : Execution) (levels : List Level) (rest : List Execution) → Extends v w → In e.spot.path w.seen.known
    → IsFrom own e levels rest → Stacked v p levels rest → Stacked w p (raised own levels) rest
raise_stacked false v w p e levels rest k i f s = stacked_keeps v w p levels rest k s
raise_stacked true v w p e [] rest k i f s = absurd f
raise_stacked true v w p e (l ∷ levels) [] k i f s = absurd f
raise_stacked true v w p e (l ∷ levels) (q ∷ rest) k i f s =
    let t = stacked_keeps v w p (l ∷ levels) (q ∷ rest) k s in (
      record {
        at = (t.0).at;
        inside = (t.0).inside;
        ends = (t.0).ends;
        forks = (t.0).forks;
        children = (t.0).children;
        next = let lt = f.1 in omega (arith, lt);
        known = one_more w.seen.known q.spot.path l.next (t.0).known (subst (λ (r : Path). In r w.seen.known) f.0 i);
      },
      t.1,
      t.2,
    )

rises_from : (own : Bool) (e : Execution) (levels : List Level) (rest : List Execution) → IsFrom own e levels rest → Rises own levels
rises_from false e levels rest f = tt
rises_from true e [] rest f = tt
rises_from true e (l ∷ levels) [] f = absurd f
rises_from true e (l ∷ levels) (q ∷ rest) f = f.1

module _ (v : View) (p : Program) (t : Tally) (l : Level) (levels : List Level) (c : Calm v p t (l ∷ levels)) where
  pub on_top : Top v p l levels v.tasks.running
  on_top = top_of v p l levels v.tasks.running c.stacked

  pub top_inside : IsRecord v l.at
  top_inside = on_top.level.inside

  pub top_held : (m : Spot) × IsHeld v l.at m
  top_held = (on_top.e.spot, held v on_top.e on_top.rest l.at on_top.is on_top.level.at)

  pub top_held_now : IsHeld v l.at on_top.e.spot
  top_held_now = held v on_top.e on_top.rest l.at on_top.is on_top.level.at

  pub rises : Rises l.own levels
  rises = rises_from l.own on_top.e levels on_top.rest on_top.from

  -- the task on top stands somewhere in its body, and goes on from there
  abbrev StandsIn : Program → Type 0
  StandsIn q = (st : Standing (machine_of q)) × (standing (machine_of q) (task_of q on_top.e) ≡ Some st) × (st.over ≡ false)

  ends_plain : l.looping ≡ false → IsAtEnd p on_top.e (fault_with l.ended) × (on_top.e.looping ≡ false)
  ends_plain is = subst (λ (b : Bool). HasEnded p on_top.e b l.ended) is on_top.level.ends

  ends_loop : l.looping ≡ true → HasEnded p on_top.e true l.ended
  ends_loop is = subst (λ (b : Bool). HasEnded p on_top.e b l.ended) is on_top.level.ends

  pub top_looping : l.looping ≡ true → on_top.e.looping ≡ true
  top_looping is = (ends_loop is).1

  pub top_loop : l.looping ≡ true → is_loop_at p on_top.e.spot.berth.call.task ≡ true
  top_loop is = (ends_loop is).3

  -- the running body is a loop's
  pub runs_loop : l.looping ≡ true → RunsLoop v l.at
  runs_loop is = record { head = on_top.e; rest = on_top.rest; runs = on_top.is; lies = on_top.level.at; looping = (ends_loop is).1 }

  plain_end : l.looping ≡ false → l.count ≤ l.next → IsPlainEnd v l.at
  plain_end is done = record {
    ended = record {
      setup = c.quiet.setup;
      told = c.quiet.told;
      head = on_top.e;
      rest = on_top.rest;
      runs = on_top.is;
      lies = on_top.level.at;
      st = stands.0;
      stands = stands.1;
      still = stands.2;
      fault = fault_with l.ended;
      next = subst (λ (q : Program). left (machine_of q) (task_of q on_top.e) ≡ Stop (fault_with l.ended)) (sym c.quiet.program)
          (end_left p on_top.e (fault_with l.ended) (ends_plain is).0);
      children = λ k lt. on_top.level.known k (let forks = on_top.level.forks in omega (arith, lt, forks, done));
    };
    plain = (ends_plain is).1;
  }
    where
      stands : StandsIn c.quiet.setup.program
      stands = let way = (ends_plain is).0.way in subst StandsIn (sym c.quiet.program) (way.st, way.is, way.still)

  pub may_finish : IsThrough v l → MayFinish v l.at
  may_finish through = which l.looping refl
    where
      which : (b : Bool) → l.looping ≡ b → MayFinish v l.at
      which false is = inl (plain_end is (through.last is))
      which true is = inr (through.emptied is)

  -- the fault of the task, as an entry of a run has it
  abbrev FaultOf : Program → Option Fault
  FaultOf q = fault_of (machine_of q) (left (machine_of q) (task_of q (finished on_top.e)))

  fault_here : FaultOf p ≡ fault_with l.ended
  fault_here = which l.looping refl
    where
      code : Execution → Option Fault
      code f = fault_of (machine_of p) (left (machine_of p) (task_of p f))

      which : (b : Bool) → l.looping ≡ b → FaultOf p ≡ fault_with l.ended
      which false is =
          let end = ends_plain is in
          ap (λ (b : Bool). code (cond b on_top.e (over on_top.e))) end.1
          ∙ ap (λ (w : _). fault_of (machine_of p) w) (over_left p on_top.e (fault_with l.ended) end.0)
      which true is =
          let end = ends_loop is in
          ap (λ (b : Bool). code (cond b on_top.e (over on_top.e))) end.1
          ∙ end.2
          ∙ ap (λ (d : Ended). fault_with d) (sym end.0)

  -- the body goes one past its end, if it is no loop's
  abbrev Past : Bool → Execution
  Past b = cond b on_top.e (over on_top.e)

  met_with : (j : Setup) (b : Bool) (faults : List FaultRun) → fault_of (machine_of j.program) (left (machine_of j.program) (task_of j.program (Past b))) ≡ fault_with l.ended
      → IsFirst t.fault faults
      → IsFirst (earlier (fault_at on_top.e.spot.path (fault_with l.ended)) t.fault) (task_faults j (Past b ∷ []) ++ faults)
  met_with j true faults is least =
      subst (λ (f : Option Fault). IsFirst (earlier (fault_at on_top.e.spot.path (fault_with l.ended)) t.fault) ((fault_in (whole_at (map suc on_top.e.spot.path) on_top.e.spot.berth.call) f ++ []) ++ faults)) (sym is)
      (first_with on_top.e.spot.path on_top.e.spot.berth.call (fault_with l.ended) t.fault faults least)
  met_with j false faults is least =
      subst (λ (f : Option Fault). IsFirst (earlier (fault_at on_top.e.spot.path (fault_with l.ended)) t.fault) ((fault_in (whole_at (map suc on_top.e.spot.path) on_top.e.spot.berth.call) f ++ []) ++ faults)) (sym is)
      (first_with on_top.e.spot.path on_top.e.spot.berth.call (fault_with l.ended) t.fault faults least)

  finish_least : (w : View) (fault : Option FaultRun) → w ≡ finishes v on_top.e on_top.rest
      → fault ≡ earlier (fault_at on_top.e.spot.path (fault_with l.ended)) t.fault → IsLeast fault w
  finish_least w fault is_now is j told =
      let now : v.setup ≡ Some j = ap (λ (y : View). y.setup) (sym is_now) ∙ told in
      let mine : FaultOf j.program ≡ fault_with l.ended = subst (λ (q : Program). FaultOf q ≡ fault_with l.ended) (sym (setup_one v p t (l ∷ levels) c j now)) fault_here in
      let faults = met_with j on_top.e.looping (faults_met j v) mine (c.fault j now) in
      subst (λ (x : View). IsFirst fault (faults_met j x)) (sym is_now)
      (subst (λ (f : Option FaultRun). IsFirst f (faults_met j (finishes v on_top.e on_top.rest))) (sym is)
      (subst (λ (xs : List FaultRun). IsFirst (earlier (fault_at on_top.e.spot.path (fault_with l.ended)) t.fault) xs)
      (one_more_met j (finished on_top.e) v.tasks.ran (index_faults j v.loops.retired)) faults))

  pub finish_calm : (w : View) (fault : Option FaultRun)
      → ((e : Execution) (rest : List Execution) → v.tasks.running ≡ e ∷ rest → w ≡ finishes v e rest)
      → fault ≡ earlier (fault_at on_top.e.spot.path (fault_with l.ended)) t.fault
      → Turns v w p (record t { fault = fault }) (raised l.own levels) true
  finish_calm w fault done fault_is =
      let same : w ≡ finishes v on_top.e on_top.rest = done on_top.e on_top.rest on_top.is in
      let keeps : Extends v w = record {
        seat = ap kin same;
        spots = λ a m o. subst (λ (y : View). get_elem? y.region.spots a ≡ some m) (sym same) o;
        known = λ q i. subst (λ (y : View). In q y.seen.known) (sym same) (there i);
      } in
      let running : w.tasks.running ≡ on_top.rest = ap (λ (y : View). y.tasks.running) same in
      let one : length v.tasks.running ≡ suc (length on_top.rest) = ap (λ (es : List Execution). length es) on_top.is in
      let two : length w.tasks.running ≡ length on_top.rest = ap (λ (es : List Execution). length es) running in
      let three : length w.tasks.ran ≡ suc (length v.tasks.ran) = ap (λ (y : View). length y.tasks.ran) same in
      let four : length w.tasks.halted ≡ length v.tasks.halted = ap (λ (y : View). length y.tasks.halted) same in
      let five : w.tasks.begun ≡ v.tasks.begun = ap (λ (y : View). y.tasks.begun) same in (
        record {
          quiet = subst (λ (b : Bench). IsQuiet b p t.base t.used) (sym (ap bench same)) c.quiet;
          fault = finish_least w fault same fault_is;
          begun = c.begun ∙ sym five;
          counted = let was = c.counted in omega (arith, was, one, two, three, five);
          few =
              let few : length v.tasks.running + (length v.tasks.halted + length v.tasks.ran) ≤ TASKS + WORKERS = c.few in
              omega (arith, few, one, two, three, four);
          stacked = subst (Stacked w p (raised l.own levels)) (sym running)
              (raise_stacked l.own v w p on_top.e levels on_top.rest keeps (subst (λ (y : View). In on_top.e.spot.path y.seen.known) (sym same) here) on_top.from on_top.below);
        },
        keeps,
      )

-- A SEAT THAT HAS MADE NO STEP

abbrev pub first_tally : ℕ → Tally
first_tally worker = record { base = RECORDS * worker; used = (if worker == 0 then 1 else 0); begun = 0; fault = None; victim = worker }

used_first : (v : View) (p : Program) → IsFresh v p → (b : Bool) → (v.worker == 0) ≡ b
    → ((if b then 1 else 0) ≡ length v.region.spots) × (length v.region.spots ≤ 1)
used_first v p h true is =
    let zero_is : v.worker ≡ 0 = grind (arith, nat_tests) in
    let long : length v.region.spots ≡ 1 = ap (λ (xs : List Spot). length xs) (h.main zero_is) in
    (sym long, omega (arith, long))
used_first v p h false is =
    let other : v.worker ≢ 0 = λ z. let t : (v.worker == 0) ≡ true = grind (arith, nat_tests, z) in cc in
    let long : length v.region.spots ≡ 0 = ap (λ (xs : List Spot). length xs) (h.others other) in
    (sym long, omega (arith, long))

pub calm_fresh : (v : View) (p : Program) → IsFresh v p → Calm v p (first_tally v.worker) []
calm_fresh v p h =
    let used = used_first v p h (v.worker == 0) refl in
    record {
      quiet = record {
        setup = h.setup;
        told = h.told;
        program = h.program;
        own = h.own;
        workers = h.workers;
        base = refl;
        used = used.0;
        room = let small = used.1 in omega (arith, small);
        built = h.built;
        draws = h.draws;
        given = ap (λ (s : Tasks). s.given) h.tasks;
        promised = ap (λ (s : Tasks). s.promised) h.tasks;
        free = h.free;
        leads = h.leads;
        pending = ap (λ (s : LoopHands). s.pending) h.loops;
        pieces = ap (λ (s : LoopHands). s.pieces) h.loops;
        taken = ap (λ (s : LoopHands). s.taken) h.loops;
        empty = ap (λ (s : LoopHands). s.free) h.loops;
        over = ap (λ (s : LoopHands). s.over) h.loops;
      };
      fault = λ j told.
          ap (λ (es : List Execution). task_faults j es ++ index_faults j v.loops.retired) (ap (λ (s : Tasks). s.ran) h.tasks)
          ∙ ap (λ (rs : List IndexRun). index_faults j rs) (ap (λ (s : LoopHands). s.retired) h.loops);
      begun = ap (λ (s : Tasks). s.begun) (sym h.tasks);
      counted = subst (λ (s : Tasks). s.begun ≡ length s.running + length s.ran) (sym h.tasks) refl;
      few = subst (λ (s : Tasks). length s.running + (length s.halted + length s.ran) ≤ TASKS + WORKERS) (sym h.tasks) (omega arith);
      stacked = subst (λ (s : Tasks). Stacked v p [] s.running) (sym h.tasks) tt;
    }

no_child : (p : Path) (k : ℕ) → [] ≡ child p k → ⊥
no_child [] k e = cc
no_child (x ∷ p) k e = cc

-- main, which lies in the first record of worker 0
module _ (v : View) (p : Program) (t : Tally) (c : Calm v p t []) (h : IsFresh v p) (zero_is : t.base ≡ 0) where
  is_first : v.worker ≡ 0
  is_first = let b : t.base ≡ RECORDS * v.worker = c.quiet.base in omega (arith, b, zero_is)

  main_mine : IsMine v 0 main_spot
  main_mine = (0, ap (λ (xs : List Spot). get_elem? xs 0) (h.main is_first), refl)

  pub main_inside : IsRecord v 0
  main_inside = record { setup = h.setup; told = h.told; below = let own = h.own in omega (arith, own) }

  pub may_claim_main : (m : Spot) × IsMine v 0 m × BeforeKnown v m.path
  may_claim_main = (main_spot, main_mine, λ q k e i lt. absurd (no_child q k e))

  pub begun_main : (w : View) → ((m : Spot) → IsMine v 0 m → w ≡ won_own v m) → AreFew w → HasBegun w p t [] 0 false × Extends v w
  begun_main w won few =
      let same : w ≡ won_own v main_spot = won main_spot main_mine in
      let keeps : Extends v w = record {
        seat = ap kin same;
        spots = λ a m o. subst (λ (y : View). get_elem? y.region.spots a ≡ some m) (sym same) o;
        known = λ q i. subst (λ (y : View). In q y.seen.known) (sym same) i;
      } in
      let none : v.tasks.running ≡ [] = ap (λ (s : Tasks). s.running) h.tasks in (
        record {
          quiet = subst (λ (b : Bench). IsQuiet b p t.base t.used) (sym (ap bench same)) c.quiet;
          fault = least_same t.fault v w (ap (λ (y : View). y.setup) same) (ap (λ (y : View). y.tasks.ran) same) (ap (λ (y : View). y.loops.retired) same) c.fault;
          e = begun_by v.tasks main_spot;
          rest = [];
          is = ap (λ (y : View). y.tasks.running) same ∙ ap (λ (es : List Execution). begun_by v.tasks main_spot ∷ es) none;
          answers = refl;
          done = refl;
          forks = refl;
          plain = refl;
          frame = sym (ap (λ (y : View). y.tasks.begun) same);
          at_is = refl;
          inside = record_same v w 0 (ap (λ (y : View). y.setup) same) main_inside;
          from = tt;
          begun = let one : w.tasks.begun ≡ suc v.tasks.begun = ap (λ (y : View). y.tasks.begun) same in let two = c.begun in omega (arith, one, two);
          counted =
              let one : w.tasks.begun ≡ suc v.tasks.begun = ap (λ (y : View). y.tasks.begun) same in
              let two = c.counted in
              let three : length w.tasks.running ≡ suc (length v.tasks.running) = ap (λ (y : View). length y.tasks.running) same in
              let four : length w.tasks.ran ≡ length v.tasks.ran = ap (λ (y : View). length y.tasks.ran) same in
              omega (arith, one, two, three, four);
          few = few;
          stacked = tt;
        },
        keeps,
      )
