-- A task from its beginning to the end of its body.
use Rattle.std.proofs.Common.{◌≡◌, ◌≤◌, ◌<◌, inl, inr, ℕ, suc, ◌+◌, ◌*◌, Bool, true, false, List, [], ◌∷◌, ◌++◌, length, map, Option, None, refl, sym, ap, ◌∙◌, subst, arith, append-nil}
use mathlib.Core.Option.{some}
use lib.ListN.{get_elem?}
use Rattle.kt_law.specs.declared.limits.TheConstants.{TASKS, WORKERS}
use Rattle.kt_prog.specs.Calls.{CallTree, Whole}
use Rattle.kt_prog.specs.declared.programs.Program.{Program}
use Rattle.kt_body.specs.declared.ops.Ended.{Ended}
use Rattle.kt_body.specs.declared.ops.Ended.TheVariants as E
use Rattle.kt_runs.specs.ByPath.{child}
use Rattle.kt_words.specs.declared.layouts.TheConstants.{RECORDS}
use Rattle.kt_order.specs.Shown.{fault_of}
use Rattle.kt_prog.specs.Reference.{machine_of}
use Rattle.kt_prog.specs.Runs.{FaultRun}
use Rattle.kt_runs.specs.Loops.{CanBegin}
use Rattle.kt_rule.specs.declared.views.Draws.{Draws}
use Rattle.kt_rule.specs.declared.views.Execution.{Execution}
use Rattle.kt_rule.specs.declared.views.IndexRun.{IndexRun}
use Rattle.kt_rule.specs.declared.views.Spot.{Spot}
use Rattle.kt_rule.specs.declared.views.View.{View}
use Rattle.kt_rule.specs.Lists.{In, here}
use Rattle.kt_tasks.specs.Hands.{IsHeld}
use Rattle.kt_calls.specs.Ranges.{IsOfCrew}
use Rattle.kt_faults.specs.First.{IsFirst}
use Rattle.kt_intervals.specs.Indexes.{fault_with}
use Rattle.kt_intervals.specs.Faults.{index_faults, task_faults}
use Rattle.kt_intervals.specs.Programs.{HasFirsts}
use Rattle.kt_loops.specs.Hands.{began}
use Rattle.kt_worker.specs.Faults.{IsLeast, task_of}
use Rattle.kt_worker.specs.Hands.{Came, GoneSo, HasChildren, IsAtEnd, IsZeroed, Since, StandsAt, ZeroedSo, base_of, is_halted}
use Rattle.kt_worker.specs.Levels.{Bench, Calm, Ends, Extends, HasBegun, HasEnded, IsFrom, IsQuiet, LevelIs, Stacked, Turns, bench, kin}
use Rattle.kt_worker.specs.Looping.{MayLoop}
use Rattle.kt_worker.specs.declared.stacks.Level.{Level}
use Rattle.kt_worker.specs.declared.tallies.Tally.{Tally}
use Rattle.kt_worker.proofs.Stands.{get_front, record_same, way_begun}
use Rattle.kt_worker.proofs.Zeroing.{begun_left}

pub extends_same : (v : View) → Extends v v
extends_same v = record { seat = refl; spots = λ a m e. e; known = λ p i. i }

pub extends_both : (v w x : View) → Extends v w → Extends w x → Extends v x
extends_both v w x f g = record { seat = g.seat ∙ f.seat; spots = λ a m e. g.spots a m (f.spots a m e); known = λ p i. g.known p (f.known p i) }

level_keeps : (v w : View) (p : Program) (l : Level) (e : Execution) → Extends v w → LevelIs v p l e → LevelIs w p l e
level_keeps v w p l e k h = record {
  at = h.at;
  inside = record_same v w l.at (ap (λ (x : View). x.setup) k.seat) h.inside;
  ends = h.ends;
  forks = h.forks;
  children = λ i lt. let m = h.children i lt in
      (m.0, k.spots (l.first + i) m.0 m.1, m.2, m.3 ∙ ap (λ (x : View). base_of x + (l.first + i)) (sym k.seat));
  next = h.next;
  known = λ i lt. k.known (child e.spot.path i) (h.known i lt);
}

pub stacked_keeps : (v w : View) (p : Program) (levels : List Level) (es : List Execution) → Extends v w → Stacked v p levels es → Stacked w p levels es
stacked_keeps v w p [] [] k s = tt
stacked_keeps v w p [] (e ∷ es) k s = s
stacked_keeps v w p (l ∷ levels) [] k s = s
stacked_keeps v w p (l ∷ levels) (e ∷ es) k (h, from, s) = (level_keeps v w p l e k h, from, stacked_keeps v w p levels es k s)

pub stacked_length : (v : View) (p : Program) (levels : List Level) (es : List Execution) → Stacked v p levels es → length levels ≡ length es
stacked_length v p [] [] s = refl
stacked_length v p [] (e ∷ es) s = absurd s
stacked_length v p (l ∷ levels) [] s = absurd s
stacked_length v p (l ∷ levels) (e ∷ es) (h, from, s) = ap suc (stacked_length v p levels es s)

pub from_same : (own : Bool) (e f : Execution) (levels : List Level) (es : List Execution) → f.spot ≡ e.spot → IsFrom own e levels es → IsFrom own f levels es
from_same false e f levels es is h = tt
from_same true e f [] es is h = h
from_same true e f (l ∷ levels) [] is h = h
from_same true e f (l ∷ levels) (x ∷ es) is h = (ap (λ (m : Spot). m.path) is ∙ h.0, h.1)

pub held : (v : View) (e : Execution) (rest : List Execution) (at : ℕ) → v.tasks.running ≡ e ∷ rest → e.spot.berth.at ≡ at → IsHeld v at e.spot
held v e rest at is lies = (inr (inl (e, subst (λ (es : List Execution). In e es) (sym is) here, refl)), lies)

pub quiet_of : (b c : Bench) (p : Program) (low count : ℕ) → c.setup ≡ b.setup → c.worker ≡ b.worker → c.spots ≡ b.spots → c.built ≡ b.built
    → c.draws ≡ b.draws → c.promised ≡ b.promised → c.pending ≡ b.pending → c.over ≡ b.over
    → c.given ≡ [] → c.free ≡ true → c.leads ≡ false → c.pieces ≡ [] → c.taken ≡ [] → c.empty ≡ true → IsQuiet b p low count → IsQuiet c p low count
quiet_of b c p low count setup worker spots built draws promised pending over given free leads pieces taken empty q = record {
  setup = q.setup;
  told = setup ∙ q.told;
  program = q.program;
  own = rw worker q.own;
  workers = q.workers;
  base = q.base ∙ ap (λ (n : ℕ). RECORDS * n) (sym worker);
  used = q.used ∙ ap (λ (xs : List Spot). length xs) (sym spots);
  room = rw spots q.room;
  built = built ∙ q.built;
  draws = draws ∙ q.draws;
  given = given;
  promised = promised ∙ q.promised;
  free = free;
  leads = leads;
  pending = pending ∙ q.pending;
  pieces = pieces;
  taken = taken;
  empty = empty;
  over = over ∙ q.over;
}

-- the same faults were met
pub least_same : (least : Option FaultRun) (v w : View) → w.setup ≡ v.setup → w.tasks.ran ≡ v.tasks.ran → w.loops.retired ≡ v.loops.retired
    → IsLeast least v → IsLeast least w
least_same least v w setup ran retired h j told =
    subst (λ (es : List Execution). IsFirst least (task_faults j es ++ index_faults j w.loops.retired)) (sym ran)
    (subst (λ (rs : List IndexRun). IsFirst least (task_faults j v.tasks.ran ++ index_faults j rs)) (sym retired) (h j (sym setup ∙ told)))

pub crew_of : (v : View) (p : Program) (low count : ℕ) → IsQuiet (bench v) p low count → IsOfCrew v
crew_of v p low count q = record { setup = q.setup; told = q.told; own = q.own; few = q.workers }

module _ (v : View) (p : Program) (t : Tally) (levels : List Level) (at : ℕ) (own : Bool) (h : HasBegun v p t levels at own) where
  pub in_hand : (m : Spot) × IsHeld v at m
  in_hand = (h.e.spot, held v h.e h.rest at h.is h.at_is)

  pub in_hand_now : IsHeld v at h.e.spot
  in_hand_now = held v h.e h.rest at h.is h.at_is

  pub begins : (firsts : List ℕ) (call : CallTree) → HasFirsts p.families firsts → call ≡ h.e.spot.berth.call
      → StandsAt v (record { view = v; program = p; firsts = firsts; parent = at; first = t.used; forks = 0; frame = t.begun + 1; limit = false }) p (Whole call) [] 0
  begins firsts call has same = record {
    program = refl;
    setup = h.quiet.setup;
    told = h.quiet.told;
    same_program = h.quiet.program;
    firsts = has;
    crew = crew_of v p t.base t.used h.quiet;
    inside = h.inside;
    e = h.e;
    since = record {
      start = h.e;
      rest = h.rest;
      was = h.is;
      spot = refl;
      more = [];
      spots = sym (append-nil v.region.spots);
      same = ap (λ (es : List Execution). record v { tasks = record (v.tasks) { running = es } }) h.is;
    };
    way = way_begun p h.e h.answers h.done;
    plain = h.plain;
    none_taken = h.quiet.taken;
    job_is = ap Whole same;
    answers_are = h.answers;
    count_is = h.done;
    lies = h.at_is;
    start = h.quiet.used;
    frame_is = let frame = h.frame in let begun = h.begun in omega (arith, frame, begun);
    topmost = h.frame;
    forks_are = h.forks;
    next_is = let used = h.quiet.used in omega (arith, used);
    few = h.quiet.room;
    children = λ k lt. absurd (omega (arith, lt));
    built = h.quiet.built;
    draws = λ l. h.quiet.draws;
    stop = λ l. cc;
  }

  pub room_left : length levels < TASKS + WORKERS
  room_left =
      let same = stacked_length v p levels h.rest h.stacked in
      let few : length v.tasks.running + (length v.tasks.halted + length v.tasks.ran) ≤ TASKS + WORKERS = h.few in
      let long : length v.tasks.running ≡ suc (length h.rest) = ap (λ (es : List Execution). length es) h.is in
      omega (arith, same, few, long)

  -- frame numbers are small
  pub begun_small : t.begun + 1 ≤ TASKS + WORKERS
  begun_small =
      let few : length v.tasks.running + (length v.tasks.halted + length v.tasks.ran) ≤ TASKS + WORKERS = h.few in
      let counted = h.counted in
      let begun = h.begun in
      omega (arith, few, counted, begun)

  module _ (w : View) (e : Execution) (since : Since v w e) where
    both_is : since.start ∷ since.rest ≡ h.e ∷ h.rest
    both_is = sym since.was ∙ h.is

    rest_is : since.rest ≡ h.rest
    rest_is = let b = both_is in cc

    start_is : since.start ≡ h.e
    start_is = let b = both_is in cc

    running_is : w.tasks.running ≡ e ∷ h.rest
    running_is = ap (λ (x : View). x.tasks.running) since.same ∙ ap (λ (es : List Execution). e ∷ es) rest_is

    spot_is : e.spot ≡ h.e.spot
    spot_is = since.spot ∙ ap (λ (f : Execution). f.spot) start_is

    pub kept : Extends v w
    kept = record {
      seat = ap kin since.same;
      spots = λ a m o. subst (λ (xs : List Spot). get_elem? xs a ≡ some m) (sym since.spots) (get_front v.region.spots since.more a m o);
      known = λ q i. subst (λ (x : View). In q x.seen.known) (sym since.same) i;
    }

    least : IsLeast t.fault w
    least = least_same t.fault v w (ap (λ (x : View). x.setup) since.same) (ap (λ (x : View). x.tasks.ran) since.same)
        (ap (λ (x : View). x.loops.retired) since.same) h.fault

    pub goes_over : w.seen.stop ≡ true → Ends w t.fault × Extends v w
    goes_over stop = (
      record {
        free = ap (λ (x : View). x.desk.free) since.same ∙ h.quiet.free;
        leads = ap (λ (x : View). x.desk.leads) since.same ∙ h.quiet.leads;
        given = ap (λ (x : View). x.tasks.given) since.same ∙ h.quiet.given;
        promised = ap (λ (x : View). x.tasks.promised) since.same ∙ h.quiet.promised;
        pieces = ap (λ (x : View). x.loops.pieces) since.same ∙ h.quiet.pieces;
        taken = ap (λ (x : View). x.loops.taken) since.same ∙ h.quiet.taken;
        fault = least;
        cause = inr stop;
      },
      kept,
    )

  -- how many records and frames are used then, and the frame of the children
  abbrev pub tally_then : ℕ → Tally
  tally_then forks = record t { used = t.used + forks; begun = t.begun + 1 }

  abbrev pub level_then : ℕ → Bool → Ended → Level
  level_then forks looping ended =
      record { at = at; first = t.used; count = forks; next = 0; own = own; stolen = false; looping = looping; ended = ended }

  -- the view, where the running body is another execution of the task
  abbrev pub view_then : View → Execution → View
  view_then w f = record w { tasks = record w.tasks { running = f ∷ h.rest } }

  -- a body that has come so far, and is an execution that has ended
  module _ (w : View) (forks : ℕ) (far : Execution → Type 0) (c : Came v w forks far) where
    view_now : w ≡ view_then w c.e
    view_now = ap (λ (es : List Execution). record w { tasks = record w.tasks { running = es } }) (running_is w c.e c.since)

    came_fits : t.used + forks ≤ RECORDS
    came_fits = let used = h.quiet.used in let long = c.long in let few = c.few in omega (arith, used, long, few)

    came_quiet : IsQuiet (bench w) p t.base (t.used + forks)
    came_quiet = let same = c.since.same in record {
      setup = h.quiet.setup;
      told = ap (λ (x : View). x.setup) same ∙ h.quiet.told;
      program = h.quiet.program;
      own = subst (λ (x : View). x.worker < h.quiet.setup.workers) (sym same) h.quiet.own;
      workers = h.quiet.workers;
      base = h.quiet.base ∙ ap (λ (x : View). RECORDS * x.worker) (sym same);
      used = let used = h.quiet.used in let long = c.long in omega (arith, used, long);
      room = c.few;
      built = c.built;
      draws = c.draws;
      given = ap (λ (x : View). x.tasks.given) same ∙ h.quiet.given;
      promised = ap (λ (x : View). x.tasks.promised) same ∙ h.quiet.promised;
      free = ap (λ (x : View). x.desk.free) same ∙ h.quiet.free;
      leads = ap (λ (x : View). x.desk.leads) same ∙ h.quiet.leads;
      pending = ap (λ (x : View). x.loops.pending) same ∙ h.quiet.pending;
      pieces = ap (λ (x : View). x.loops.pieces) same ∙ h.quiet.pieces;
      taken = ap (λ (x : View). x.loops.taken) same ∙ h.quiet.taken;
      empty = ap (λ (x : View). x.loops.free) same ∙ h.quiet.empty;
      over = ap (λ (x : View). x.loops.over) same ∙ h.quiet.over;
    }

    module _ (f : Execution) (looping : Bool) (ended : Ended) (spot : f.spot ≡ c.e.spot) (forked : f.forks ≡ c.e.forks) (ends : HasEnded p f looping ended) where
      pub extends_then : Extends v (view_then w f)
      extends_then = let k = kept w c.e c.since in record { seat = k.seat; spots = k.spots; known = k.known }

      level_is : LevelIs (view_then w f) p (level_then forks looping ended) f
      level_is = record {
        at = ap (λ (m : Spot). m.berth.at) (spot ∙ spot_is w c.e c.since) ∙ h.at_is;
        inside = record_same v (view_then w f) at (ap (λ (x : View). x.setup) c.since.same) h.inside;
        ends = ends;
        forks = forked ∙ c.forks_are;
        children = subst (λ (m : Spot). HasChildren w.region.spots (base_of w) t.used m.path forks) (sym spot)
            (subst (λ (n : ℕ). HasChildren w.region.spots (base_of w) n c.e.spot.path forks) (sym h.quiet.used) c.children);
        next = omega arith;
        known = λ k lt. absurd (omega (arith, lt));
      }

      pub goes_calm : Calm (view_then w f) p (tally_then forks) (level_then forks looping ended ∷ levels)
      goes_calm =
          let same = c.since.same in
          let one : length v.tasks.running ≡ suc (length h.rest) = ap (λ (es : List Execution). length es) h.is in
          let ran : length w.tasks.ran ≡ length v.tasks.ran = ap (λ (x : View). length x.tasks.ran) same in
          let halted : length w.tasks.halted ≡ length v.tasks.halted = ap (λ (x : View). length x.tasks.halted) same in
          let begun : w.tasks.begun ≡ v.tasks.begun = ap (λ (x : View). x.tasks.begun) same in
          record {
            quiet = came_quiet;
            fault = least w c.e c.since;
            begun = let was = h.begun in omega (arith, was, begun);
            counted = let was = h.counted in omega (arith, was, begun, one, ran);
            few =
                let few : length v.tasks.running + (length v.tasks.halted + length v.tasks.ran) ≤ TASKS + WORKERS = h.few in
                omega (arith, few, one, ran, halted);
            stacked = (
              level_is,
              from_same own h.e f levels h.rest (spot ∙ spot_is w c.e c.since) h.from,
              stacked_keeps v (view_then w f) p levels h.rest extends_then h.stacked,
            );
          }

  -- the body has ended
  pub goes_on : (w : View) (forks : ℕ) (ended : Ended) (c : Came v w forks (λ e. IsAtEnd p e (fault_with ended)))
      → Turns v w p (tally_then forks) (level_then forks false ended ∷ levels) true
  goes_on w forks ended c =
      let far = λ (e : Execution). IsAtEnd p e (fault_with ended) in
      let ends : HasEnded p c.e false ended = (c.ends, c.plain) in
      subst (λ (x : View). Turns v x p (tally_then forks) (level_then forks false ended ∷ levels) true) (sym (view_now w forks far c))
      (goes_calm w forks far c c.e false ended refl refl ends, extends_then w forks far c c.e false ended refl refl ends)

  pub fits : (w : View) (forks : ℕ) (ended : Ended) → is_halted ended ≡ false → GoneSo v w p forks ended → t.used + forks ≤ RECORDS
  fits w forks E.Done live g = came_fits w forks (λ e. IsAtEnd p e None) g
  fits w forks (E.Fault law line) live g = came_fits w forks (λ e. IsAtEnd p e (fault_with (E.Fault law line))) g
  fits w forks E.Halted live g = cc

  pub stopped : (w : View) (forks : ℕ) (ended : Ended) → is_halted ended ≡ true → GoneSo v w p forks ended → Ends w t.fault × Extends v w
  stopped w forks E.Done live g = cc
  stopped w forks (E.Fault law line) live g = cc
  stopped w forks E.Halted live g = goes_over w g.e g.since g.stop

  pub turned : (w : View) (forks : ℕ) (ended : Ended) → is_halted ended ≡ false → GoneSo v w p forks ended
      → Turns v w p (tally_then forks) (level_then forks false ended ∷ levels) true
  turned w forks E.Done live g = goes_on w forks E.Done g
  turned w forks (E.Fault law line) live g = goes_on w forks (E.Fault law line) g
  turned w forks E.Halted live g = cc

  -- THE ZEROING OF A LOOP

  pub fits_zeroed : (w : View) (forks : ℕ) (ended : Ended) → is_halted ended ≡ false → ZeroedSo v w p forks ended → t.used + forks ≤ RECORDS
  fits_zeroed w forks E.Done live g = came_fits w forks (IsZeroed p) g
  fits_zeroed w forks (E.Fault law line) live g = absurd g
  fits_zeroed w forks E.Halted live g = cc

  pub stopped_zeroed : (w : View) (forks : ℕ) (ended : Ended) → is_halted ended ≡ true → ZeroedSo v w p forks ended → Ends w t.fault × Extends v w
  stopped_zeroed w forks E.Done live g = cc
  stopped_zeroed w forks (E.Fault law line) live g = cc
  stopped_zeroed w forks E.Halted live g = goes_over w g.e g.since g.stop

  may_loop : (w : View) (forks : ℕ) (c : Came v w forks (IsZeroed p))
      → MayLoop w p (tally_then forks) levels (level_then forks true E.Done) × Extends v w
  may_loop w forks c =
      let quiet = came_quiet w forks (IsZeroed p) c in
      let head_is = running_is w c.e c.since in
      let ends : HasEnded p (began c.e) true E.Done = (
        refl,
        refl,
        ap (fault_of (machine_of p))
            (begun_left p (task_of p c.e) (task_of p (began c.e)) c.ends.way.st (map suc c.e.spot.path) c.e.spot.berth.call c.ends.way.is c.ends.way.still
            c.ends.can.zeroed refl refl refl),
        c.ends.can.loop,
      ) in (
        record {
          may = record {
            setup = quiet.setup;
            told = quiet.told;
            head = c.e;
            rest = h.rest;
            runs = head_is;
            lies = ap (λ (m : Spot). m.berth.at) (spot_is w c.e c.since) ∙ h.at_is;
            plain = c.plain;
            zeroed = subst (λ (q : Program). CanBegin q (map suc c.e.spot.path) c.e.spot.berth.call (task_of q c.e)) (sym quiet.program) c.ends.can;
            free = quiet.empty;
            none_taken = quiet.taken;
            none_pending = quiet.pending;
            within = ap (λ (d : Draws). d.over) quiet.draws;
            within_positions = quiet.over;
          };
          calm = goes_calm w forks (IsZeroed p) c (began c.e) true E.Done refl refl ends;
        },
        kept w c.e c.since,
      )

  pub goes_loop : (w : View) (forks : ℕ) (ended : Ended) → is_halted ended ≡ false → ZeroedSo v w p forks ended
      → MayLoop w p (tally_then forks) levels (level_then forks true E.Done) × Extends v w
  goes_loop w forks E.Done live g = may_loop w forks g
  goes_loop w forks (E.Fault law line) live g = absurd g
  goes_loop w forks E.Halted live g = cc
