-- How a worker stands after each step.
use Rattle.std.proofs.Common.{◌≡◌, ◌≢◌, ◌≤◌, ◌<◌, ◌⊎◌, ℕ, zero, suc, ◌+◌, ◌*◌, Bool, true, false, List, [], ◌∷◌, length, Option, Some, None, ◌++◌, take, drop, get_or, refl, sym, ap, ◌∙◌, subst, arith, All}
use Rattle.std.proofs.lemmas.List.Elements.{All-drop, All-from_get_or, All-get_or}
use Rattle.std.proofs.lemmas.Option.{slice_get-get_or}
use Rattle.kt_law.specs.declared.limits.TheConstants.{WORKERS}
use Rattle.kt_prog.specs.Accepted.{IsAccepted}
use Rattle.kt_prog.specs.Objects.{objects_of}
use Rattle.kt_prog.specs.declared.programs.Program.{Program}
use Rattle.kt_ready.specs.Contents.{HasRoomOf}
use Rattle.kt_law.specs.declared.accesses.Access.{Access}
use Rattle.kt_law.specs.declared.stands.Stand.TheVariants as T
use Rattle.kt_words.specs.Words.{IsStateWord, packed_state}
use Rattle.kt_words.specs.declared.layouts.TheConstants.{RECORDS}
use Rattle.kt_words.specs.declared.states.StateWord.{StateWord}
use Rattle.kt_rule.specs.declared.seats.Seat.{Seat}
use Rattle.kt_rule.specs.declared.tables.RunTable.{RunTable}
use Rattle.kt_rule.specs.declared.views.Note.{Note}
use Rattle.kt_rule.specs.declared.views.Setup.{Setup}
use Rattle.kt_rule.specs.declared.views.Spot.{Spot}
use Rattle.kt_rule.specs.declared.views.View.{View}
use Rattle.kt_rule.specs.Lists.{In}
use Rattle.kt_rule.specs.Steps.{with_note}
use Rattle.kt_rule.specs.Views.{main_spot}
use Rattle.kt_rule.proofs.Words.{word_parts}
use Rattle.kt_steps.specs.Told.{IsNotedReady}
use Rattle.kt_tasks.specs.Accesses.{found_of}
use Rattle.kt_posts.specs.Desks.{finds_busy, leads_now, posts}
use Rattle.kt_posts.specs.declared.answers.Answer.{Answer}
use Rattle.kt_posts.specs.declared.answers.Answer.TheVariants as A
use Rattle.kt_calls.specs.Ranges.{IsOfCrew, IsRecord, IsWorker}
use Rattle.kt_calls.specs.Serving.{Serves}
use Rattle.kt_pool.specs.Seats.{AreSeatsOf, HaveNotStepped, IsSeatOf, view_at_start}
use Rattle.kt_worker.specs.Asking.{Asks, Tried}
use Rattle.kt_worker.specs.Levels.{Calm, Turns}
use Rattle.kt_intervals.specs.Programs.{HasFirsts}
use Rattle.kt_worker.specs.Programs.{HasRoom}
use Rattle.kt_worker.specs.Working.{IsFresh}
use Rattle.kt_worker.specs.declared.scratch.Tools.{Tools}
use Rattle.kt_worker.specs.declared.stacks.Level.{Level}
use Rattle.kt_worker.specs.declared.tallies.Tally.{Tally}
use Rattle.kt_worker.proofs.Requests.{asks_both, crew_learnt, led, not_led, posted, promised_learnt, tried_both, worker_learnt}
use Rattle.kt_worker.proofs.Turning.{calm_answered, calm_crew, calm_fresh, calm_idle, calm_seen}
use Rattle.kt_pool_trials.specs.Driven.{HasAsked, IsDriven, IsEquipped, IsUnmoved, Leads, Stands, stage_of}
use Rattle.kt_pool_trials.specs.declared.stages.Stage.{Stage}
use Rattle.kt_pool_trials.specs.declared.stages.Stage.TheVariants as S

-- A SEAT THAT HAS MADE NO STEP

fresh_at : (j : Setup) (k : ℕ) → k < j.workers → j.workers ≤ WORKERS → IsFresh (view_at_start j k) j.program
fresh_at j zero below few = record {
  setup = j;
  told = refl;
  program = refl;
  own = below;
  workers = few;
  main = λ e. refl;
  others = λ ne. absurd (ne refl);
  built = refl;
  tasks = refl;
  draws = refl;
  free = refl;
  leads = refl;
  loops = refl;
}
fresh_at j (suc k) below few = record {
  setup = j;
  told = refl;
  program = refl;
  own = below;
  workers = few;
  main = λ e. absurd (cc e);
  others = λ ne. refl;
  built = refl;
  tasks = refl;
  draws = refl;
  free = refl;
  leads = refl;
  loops = refl;
}

pub fresh : (t : RunTable) (p : Program) (s : Seat) → IsUnmoved t p s → IsFresh s.token.me.0 p
fresh t p s u =
    subst (λ (v : View). IsFresh v p) (sym u.start) (subst (IsFresh (view_at_start u.setup u.worker)) u.program (fresh_at u.setup u.worker u.below u.few))

-- WHERE A WORKER STANDS

pub at_stage : (v : View) (p : Program) (t : Tally) (levels : List Level) (s s' : Stage) → s ≡ s' → Stands v p t levels s → Stands v p t levels s'
at_stage v p t levels s s' e h = subst (Stands v p t levels) e h

pub equipped_same : (p p' : Program) (firsts firsts' : List ℕ) (tools tools' : Tools) → p' ≡ p → firsts' ≡ firsts → HasRoom p tools' → IsEquipped p firsts tools
    → IsEquipped p' firsts' tools'
equipped_same p p' firsts firsts' tools tools' e f room q = record {
  accepted = subst IsAccepted (sym e) q.accepted;
  firsts = subst (λ (r : Program). HasFirsts r.families firsts') (sym e) (subst (HasFirsts p.families) (sym f) q.firsts);
  room = subst (λ (r : Program). HasRoom r tools') (sym e) room;
}

-- ASKING

pub worker_zero : (v : View) (p : Program) (t : Tally) (levels : List Level) → Calm v p t levels → IsWorker v 0
worker_zero v p t levels c = record { setup = c.quiet.setup; told = c.quiet.told; below = let own = c.quiet.own in omega (arith, own) }

pub asked : (v w : View) (p : Program) (t : Tally) (levels : List Level) → Calm v p t levels → w ≡ posts v 0 → HasAsked w p t levels
asked v w p t levels c same = record { before = v; calm = c; asks = posted v w 0 (calm_idle v p t levels c) same }

module _ (v : View) (p : Program) (t : Tally) (levels : List Level) (h : HasAsked v p t levels) where
  pub asked_crew : IsOfCrew v
  asked_crew = crew_learnt h.before v h.asks.learnt (calm_crew h.before p t levels h.calm)

  pub asked_zero : IsWorker v 0
  asked_zero = worker_learnt h.before v 0 h.asks.learnt (worker_zero h.before p t levels h.calm)

  pub asked_busy : (w : View) (word : ℕ) → w ≡ finds_busy v 0 word → HasAsked w p t levels
  asked_busy w word same = record {
    before = h.before;
    calm = h.calm;
    asks = asks_both h.before v w h.asks (not_led v w 0 word h.asks.free h.asks.leads same);
  }

  pub asked_given : v.tasks.given ≡ []
  asked_given = h.asks.given ∙ h.calm.quiet.given

module _ (v : View) (p : Program) (t : Tally) (levels : List Level) (h : Leads v p t levels) where
  pub leads_crew : IsOfCrew v
  leads_crew = subst IsOfCrew (sym h.leads) (let c = asked_crew h.mid p t levels h.asked in record { setup = c.setup; told = c.told; own = c.own; few = c.few })

  pub leads_zero : IsWorker v 0
  leads_zero = subst (λ (x : View). IsWorker x 0) (sym h.leads) (let c = asked_zero h.mid p t levels h.asked in record { setup = c.setup; told = c.told; below = c.below })

  pub leads_there : (v.desk.leads ≡ true) × (v.desk.victim ≡ 0)
  leads_there = (ap (λ (x : View). x.desk.leads) h.leads, ap (λ (x : View). x.desk.victim) h.leads)

  pub leads_none : (v.desk.held ≡ []) × (v.tasks.promised ≡ [])
  leads_none = (
    ap (λ (x : View). x.desk.held) h.leads,
    ap (λ (x : View). x.tasks.promised) h.leads ∙ promised_learnt h.asked.before h.mid h.asked.asks.learnt ∙ h.asked.calm.quiet.promised,
  )

  pub leads_objects : (objects : ℕ) → objects_of p.families ≤ objects → (j : Setup) → v.setup ≡ Some j → objects_of j.program.families ≤ objects
  leads_objects objects room j told =
      let c = h.asked.calm.quiet in
      let before : h.asked.before.setup ≡ Some j =
      sym (ap (λ (x : View). x.setup) h.asked.asks.learnt.same) ∙ sym (ap (λ (x : View). x.setup) h.leads) ∙ told in
      let one : c.setup ≡ j = let e : Some c.setup ≡ Some j = sym c.told ∙ before in cc in
      subst (λ (k : Setup). objects_of k.program.families ≤ objects) one (subst (λ (q : Program). objects_of q.families ≤ objects) (sym c.program) room)

  pub served : (w : View) → Serves v w → HasAsked w p t levels
  served w s = record {
    before = h.asked.before;
    calm = h.asked.calm;
    asks = asks_both h.asked.before h.mid w h.asked.asks (led h.mid v w 0 h.asked.asks.free h.leads s);
  }

-- what it stands at that was answered so
pub answered : (v w : View) (p : Program) (t : Tally) (levels : List Level) (a : Answer) → Calm v p t levels → Tried v w a → Stands w p t levels (stage_of a)
answered v w p t levels A.NotYet c h = record { before = v; calm = c; asks = h }
answered v w p t levels A.Withdrawn c h = tt
answered v w p t levels A.Failed c h = (calm_answered v w p t levels h.0 h.1 h.2 c).0
answered v w p t levels (A.Task at) c h = record { before = v; calm = c; answered = h.0; given = h.1; pieces = h.2 }
answered v w p t levels (A.Piece at pair) c h = record { before = v; calm = c; answered = h.0; none = h.1; given = h.2 }

-- ENTRIES

pub equipped_with : (p : Program) (firsts : List ℕ) (tools tools' : Tools) → tools'.stack.room ≡ tools.stack.room → tools'.scan.objects ≡ tools.scan.objects
    → tools'.scan.entries ≡ tools.scan.entries → IsEquipped p firsts tools → IsEquipped p firsts tools'
equipped_with p firsts tools tools' room objects entries q = record {
  accepted = q.accepted;
  firsts = q.firsts;
  room = record { stack = room ∙ q.room.stack; objects = rw objects q.room.objects; entries = rw entries q.room.entries };
}

-- SEATS IN A ROW

unmoved_at : (j : Setup) (t : RunTable) (p : Program) (seats : List Seat) (d : Seat) → AreSeatsOf j t seats → HaveNotStepped j seats → j.workers ≤ WORKERS
    → j.program ≡ p → (i : ℕ) → i < length seats → IsUnmoved t p (get_or seats i d)
unmoved_at j t p seats d all still few program i lt =
    let at = slice_get-get_or seats i d lt in
    record {
      setup = j;
      worker = i;
      is = all.each i (get_or seats i d) at;
      start = (still i (get_or seats i d) at).0;
      below = subst (λ (n : ℕ). i < n) all.count lt;
      few = few;
      program = program;
    }

pub all_unmoved : (j : Setup) (t : RunTable) (p : Program) (seats : List Seat) → AreSeatsOf j t seats → HaveNotStepped j seats → j.workers ≤ WORKERS
    → j.program ≡ p → All (IsUnmoved t p) seats
all_unmoved j t p [] all still few program = All-from_get_or (IsUnmoved t p) [] (absurd (let n = all.count in let some = all.some in omega arith)) (λ i lt. absurd (omega arith))
all_unmoved j t p (s ∷ seats) all still few program =
    All-from_get_or (IsUnmoved t p) (s ∷ seats) s (unmoved_at j t p (s ∷ seats) s all still few program)

-- the first one is taken out
pub first_of : {A : Type 0} (P : A → Type 0) (xs : List A) (x : A) → 0 < length xs → x ≡ get_or xs 0 x → All P xs → P x
first_of P xs x some is all = subst P (sym is) (All-get_or P xs 0 x some all)

pub rest_of : {A : Type 0} (P : A → Type 0) (xs ys : List A) → 0 < length xs → ys ≡ take 0 xs ++ drop 1 xs → All P xs
    → All P ys × (length ys + 1 ≡ length xs)
rest_of P xs ys some is all = (
  subst (All P) (sym is) (All-drop P 1 xs all),
  shorter xs some is,
)
  where
    shorter : (xs : List _) → 0 < length xs → ys ≡ take 0 xs ++ drop 1 xs → length ys + 1 ≡ length xs
    shorter [] some is = absurd (omega arith)
    shorter (x ∷ xs) some is = let n = ap (λ (l : List _). length l) is in omega (arith, n)

-- RECORDS OF WORKER 0

pub near_record : (v : View) (p : Program) (t : Tally) (levels : List Level) (at : ℕ) → Calm v p t levels → at < RECORDS → IsRecord v at
near_record v p t levels at c near = record {
  setup = c.quiet.setup;
  told = c.quiet.told;
  below = let own = c.quiet.own in omega (arith, own, near);
}

-- its accesses are noted
pub calm_noted : (v w : View) (p : Program) (t : Tally) (levels : List Level) (ns : List Note) → w ≡ record v { seen = record v.seen { notes = ns } }
    → Calm v p t levels → Calm w p t levels
calm_noted v w p t levels ns same c =
    (calm_seen v w p t levels (record v.seen { notes = ns }) same (λ q i. subst (λ (y : View). In q y.seen.known) (sym same) i) c).0

-- a first entry that is unclaimed is ready
pub noted_ready : (v w : View) (at : ℕ) (x : StateWord) (accesses : List Access) (ns : List Note) → w ≡ with_note v (found_of at (packed_state x) accesses) ns
    → IsStateWord x → x.stand ≡ T.Unclaimed → x.fork ≤ 1 → IsNotedReady w at x
noted_ready v w at x accesses ns same fits waits fork = record {
  own = found_of at (packed_state x) accesses;
  rest = ns;
  notes = ap (λ (y : View). y.seen.notes) same;
  lies = refl;
  found = record { headed = refl; all = refl };
  ready = λ i lt. absurd (let f = (word_parts x fits).1 in omega (arith, f, lt, fork));
  fits = fits;
  waits = waits;
  word = refl;
}
