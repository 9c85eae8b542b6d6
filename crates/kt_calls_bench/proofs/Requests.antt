-- A seat that asks, before and after.
use Rattle.std.proofs.Common.{◌≡◌, ◌≤◌, ◌<◌, ℕ, zero, suc, true, false, List, [], ◌∷◌, Some, get_or, length, slice_get, refl, sym, ap, ◌∙◌, subst, arith}
use Rattle.std.specs.List.{All}
use Rattle.std.proofs.lemmas.Option.{slice_get-get_or, slice_get_within}
use Rattle.kt_law.specs.declared.limits.TheConstants.{WORKERS}
use Rattle.kt_prog.specs.Objects.{objects_of}
use Rattle.kt_prog.specs.Runs.{FaultRun}
use Rattle.kt_prog.specs.declared.programs.Program.{Program}
use Rattle.kt_ready.specs.Contents.{Contents, HasRoomOf}
use Rattle.kt_rule.specs.declared.seats.Seat.{Seat}
use Rattle.kt_rule.specs.declared.tables.RunTable.{RunTable}
use Rattle.kt_rule.specs.declared.views.Setup.{Setup}
use Rattle.kt_rule.specs.declared.views.Spot.{Spot}
use Rattle.kt_rule.specs.declared.views.View.{View}
use Rattle.kt_rule.specs.Steps.{starts}
use Rattle.kt_rule.specs.Views.{main_spot}
use Rattle.kt_calls.specs.Ranges.{IsOfCrew, IsWorker}
use Rattle.kt_pool.specs.Seats.{AreSeatsOf, HaveNotStepped, view_at_start}
use Rattle.kt_worker.specs.Asking.{HasSamePieces, IsAnswered, IsIdle, WasGiven}
use Rattle.kt_worker.specs.Levels.{Calm, Ends, Extends, Turns}
use Rattle.kt_worker.specs.Programs.{HasRoom}
use Rattle.kt_worker.specs.Working.{IsFresh}
use Rattle.kt_worker.specs.declared.scratch.Tools.{Tools}
use Rattle.kt_worker.specs.declared.stacks.Level.{Level}
use Rattle.kt_worker.specs.declared.tallies.Tally.{Tally}
use Rattle.kt_worker.proofs.Requests.{crew_learnt, promised_learnt, setup_of, worker_learnt}
use Rattle.kt_worker.proofs.Stands.{crew_same}
use Rattle.kt_worker.proofs.Turning.{calm_crew, calm_idle, calm_of, setup_one}
use Rattle.kt_calls_bench.specs.Asking.{HasScan, IsAtStart, MayAsk}

-- it was given nothing
pub again : (v w : View) (s s' : Contents) → MayAsk v s → HasRoomOf s s' → IsAnswered v w → w.tasks.given ≡ [] → MayAsk w s'
again v w s s' may room a none = record {
  crew = crew_learnt v w a.learnt may.crew;
  victim = worker_learnt v w 0 a.learnt may.victim;
  idle = record { given = none; promised = promised_learnt v w a.learnt ∙ may.idle.promised; free = a.free; leads = a.leads };
  objects = λ j told. rw room.objects (may.objects j (sym (setup_of v w a.learnt) ∙ told));
  entries = rw room.entries may.entries;
}

-- it has begun the task that it was given
pub begun : (v w x : View) (s s' : Contents) (m : Spot) → MayAsk v s → HasRoomOf s s' → IsAnswered v w → x ≡ starts w m [] → MayAsk x s'
begun v w x s s' m may room a same =
    let setup : x.setup ≡ w.setup = ap (λ (y : View). y.setup) same in
    let worker : x.worker ≡ w.worker = ap (λ (y : View). y.worker) same in
    let victim = worker_learnt v w 0 a.learnt may.victim in
    record {
      crew = crew_same w x setup worker (crew_learnt v w a.learnt may.crew);
      victim = record { setup = victim.setup; told = setup ∙ victim.told; below = victim.below };
      idle = record {
        given = ap (λ (y : View). y.tasks.given) same;
        promised = ap (λ (y : View). y.tasks.promised) same ∙ promised_learnt v w a.learnt ∙ may.idle.promised;
        free = ap (λ (y : View). y.desk.free) same ∙ a.free;
        leads = ap (λ (y : View). y.desk.leads) same ∙ a.leads;
      };
      objects = λ j told. rw room.objects (may.objects j (sym (setup_of v w a.learnt) ∙ sym setup ∙ told));
      entries = rw room.entries may.entries;
    }

zero_inside : (v : View) (p : Program) (t : Tally) (levels : List Level) → Calm v p t levels → IsWorker v 0
zero_inside v p t levels c = record { setup = c.quiet.setup; told = c.quiet.told; below = let own = c.quiet.own in omega (arith, own) }

-- between two turns
pub calm_asks : (v : View) (p : Program) (t : Tally) (levels : List Level) (tools : Tools) → Calm v p t levels → HasRoom p tools → MayAsk v tools.scan
calm_asks v p t levels tools c room = record {
  crew = calm_crew v p t levels c;
  victim = zero_inside v p t levels c;
  idle = calm_idle v p t levels c;
  objects = λ j told. rw (setup_one v p t levels c j told) room.objects;
  entries = room.entries;
}

-- at its end
pub ended_asks : (v w : View) (p : Program) (fault : _) (s : Contents) → IsFresh v p → Extends v w → Ends w fault → HasScan p s → MayAsk w s
ended_asks v w p fault s fresh later e room =
    let setup : w.setup ≡ v.setup = ap (λ (y : View). y.setup) later.seat in
    let worker : w.worker ≡ v.worker = ap (λ (y : View). y.worker) later.seat in
    record {
      crew = crew_same v w setup worker (record { setup = fresh.setup; told = fresh.told; own = fresh.own; few = fresh.workers });
      victim = record { setup = fresh.setup; told = setup ∙ fresh.told; below = let own = fresh.own in omega (arith, own) };
      idle = record { given = e.given; promised = e.promised; free = e.free; leads = e.leads };
      objects = λ j told.
          let one : fresh.setup ≡ j = let f : Some fresh.setup ≡ Some j = sym fresh.told ∙ (sym setup ∙ told) in cc in
          subst (λ (k : Setup). objects_of k.program.families ≤ s.objects) one
          (subst (λ (q : Program). objects_of q.families ≤ s.objects) (sym fresh.program) room.objects);
      entries = room.entries;
    }

fresh_at : (j : Setup) (k : ℕ) → k < j.workers → j.workers ≤ WORKERS → IsFresh (view_at_start j k) j.program
fresh_at j zero some few = record {
  setup = j;
  told = refl;
  program = refl;
  own = some;
  workers = few;
  main = λ e. refl;
  others = λ ne. absurd (ne refl);
  built = refl;
  tasks = refl;
  draws = refl;
  free = refl;
  leads = refl;
  loops = refl;
}
fresh_at j (suc k) some few = record {
  setup = j;
  told = refl;
  program = refl;
  own = some;
  workers = few;
  main = λ e. absurd (cc e);
  others = λ ne. refl;
  built = refl;
  tasks = refl;
  draws = refl;
  free = refl;
  leads = refl;
  loops = refl;
}

-- a seat that has made no step
pub fresh : (t : RunTable) (p : Program) (s : Seat) → IsAtStart t p s → IsFresh s.token.me.0 p
fresh t p s f = subst (λ (v : View). IsFresh v p) (sym f.start) (subst (IsFresh (view_at_start f.setup f.worker)) f.program (fresh_at f.setup f.worker f.own f.few))

-- each seat of a pool
pub at_start : (j : Setup) (t : RunTable) (p : Program) (seats : List Seat) → AreSeatsOf j t seats → HaveNotStepped j seats → j.workers ≤ WORKERS
    → j.program ≡ p → (k : ℕ) (s : Seat) → slice_get seats k ≡ Some s → IsAtStart t p s
at_start j t p seats all still few program k s at = record {
  setup = j;
  worker = k;
  is = all.each k s at;
  start = (still k s at).0;
  own = let n = all.count in let below = slice_get_within seats k s at in omega (arith, n, below);
  few = few;
  program = program;
}

-- the first of them
pub first : (j : Setup) (t : RunTable) (p : Program) (seats : List Seat) (s : Seat) → AreSeatsOf j t seats → HaveNotStepped j seats → j.workers ≤ WORKERS
    → j.program ≡ p → s ≡ get_or seats 0 s → IsAtStart t p s
first j t p seats s all still few program is =
    at_start j t p seats all still few program 0 s
    (slice_get-get_or seats 0 s (let n = all.count in let some = all.some in omega (arith, n, some)) ∙ ap Some (sym is))

-- all of them
pub all_at_start : (j : Setup) (t : RunTable) (p : Program) (seats : List Seat) → AreSeatsOf j t seats → HaveNotStepped j seats → j.workers ≤ WORKERS
    → j.program ≡ p → All (IsAtStart t p) seats
all_at_start j t p seats all still few program k d below =
    at_start j t p seats all still few program k (get_or seats k d) (slice_get-get_or seats k d below)
