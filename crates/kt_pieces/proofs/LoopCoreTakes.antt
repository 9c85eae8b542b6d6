-- Indexes of a loop are taken, one after another.
use Rattle.std.proofs.Common.{◌≡◌, ℕ, zero, suc, ◌+◌, ◌<◌, ◌≤◌, List, map, sym, refl, ap, ◌∙◌, subst, arith}
use mathlib.Core.Option.{none, some}
use lib.ListN.{get_elem?}
use Rattle.kt_order.specs.Machine.{Machine}
use Rattle.kt_order.specs.Laws.{Laws}
use Rattle.kt_order.specs.Forest.{Task, Unclaimed, Running}
use Rattle.kt_order.specs.Events as events
use Rattle.kt_order.specs.Events.{in_phase}
use Rattle.kt_prog.specs.Laws.{BodiesKeep, LoopsAreDirect}
use Rattle.kt_prog.specs.Accepted.{IsAccepted}
use Rattle.kt_prog.specs.Reference.{machine_of}
use Rattle.kt_runs.specs.Rights.{rights_in}
use Rattle.kt_runs.specs.Theorems.{whole_at}
use Rattle.kt_runs.specs.ByPath.{Path, child, after_claim}
use Rattle.kt_rule.specs.declared.views.Setup.{Setup}
use Rattle.kt_rule.specs.Paths.{put}
use Rattle.kt_rule.specs.Lies.{IndexLie, Lie, Lies, phase_of, index_of, task_of, get_of, core_of, Cored}
use Rattle.kt_rule.proofs.Puts.{put_here}
use Rattle.kt_rule.proofs.Cores.{stays, set_self}
use Rattle.kt_pieces.specs.Changes.{change_index, runs_now, run_indexes}
use Rattle.kt_pieces.specs.LoopMoves.{after_taking, CanTakeIndexes}
use Rattle.kt_pieces.proofs.Indexes.{change_at, change_else}
use Rattle.kt_pieces.proofs.LoopCores.{put_twice, TurnsIndex, bare_still, becomes, index_got}
use Rattle.kt_pieces.proofs.LoopCoreIndexes.{index_here, index_passes, index_claims}
use Rattle.kt_pieces.proofs.LoopCoreTasks.{task_becomes}

-- as a task it is what it was
pub record SameTask (t u : Lie) : Type 0 where
  pub berth : u.berth ≡ t.berth
  pub phase : phase_of u.stage ≡ phase_of t.stage
  pub answers : u.answers ≡ t.answers
  pub count : u.count ≡ t.count

pub same_task : (j : Setup) (p : Path) (t u : Lie) → SameTask t u → task_of j p u ≡ task_of j p t
same_task j p t u s = λ h. record { call = whole_at (map suc p) (s.berth h).call; phase = s.phase h; answers = s.answers h; done = s.count h }

abbrev pub AllWait : ℕ → ℕ → List IndexLie → Type 0
AllWait i n xs = (k : ℕ) → i ≤ k → k < i + n → (x : IndexLie) × (get_elem? xs k ≡ some x) × (x.phase ≡ Unclaimed)

module _ (j : Setup) (l : Laws (machine_of j.program) (rights_in j.program)) (store : List ℕ) (p : Path)
    (bodies : BodiesKeep) (direct : LoopsAreDirect) (ok : IsAccepted j.program) where
  abbrev m : Machine
  m = machine_of j.program

  abbrev T : Type 0
  T = Task (machine_of j.program)

  -- the core is that of the changed lies, and each claim was enabled
  pub record Taken (i n : ℕ) (lies lies' : Lies) : Type 0 where
    pub core : Cored j lies' store
    pub after : core_of j lies' store ≡ after_taking j.program i n p (core_of j lies store)
    pub enabled : CanTakeIndexes j.program i n p (core_of j lies store)

  module _ (i n : ℕ) (lies : Lies) (c : Cored j lies store) (t : Lie) (is : lies p ≡ some t) (bare : (i : ℕ) → lies (child p i) ≡ none)
      (x : IndexLie) (at : get_elem? t.indexes i ≡ some x) (waits : x.phase ≡ Unclaimed) where
    abbrev t1 : Lie
    t1 = record t { indexes = change_index i runs_now t.indexes }

    abbrev lies1 : Lies
    lies1 = put lies p (some t1)

    turn : TurnsIndex t t1 i (runs_now x)
    turn = record {
      berth = refl;
      here = change_at runs_now i x t.indexes at;
      others = λ k ne. change_else runs_now i k t.indexes ne;
    }

    c1 : Cored j lies1 store
    c1 = index_claims j l lies store c p t is bare i x at bodies direct ok t1 (runs_now x) (turn, refl) refl waits

    first_get : get_of j lies1 ≡ (after_claim j.program (child p i) (core_of j lies store)).get
    first_get = becomes j lies store c p t is t1 bare i (runs_now x) turn x at refl (events.put m (in_phase m Running)) refl

    first_after : core_of j lies1 store ≡ after_claim j.program (child p i) (core_of j lies store)
    first_after = λ h. record { get = first_get h; store = store }

    bare1 : (k : ℕ) → lies1 (child p k) ≡ none
    bare1 = bare_still j lies store c p t is t1 bare

    -- one more, and then the others
    joined : (u : Lie) → Taken (suc i) n lies1 (put lies1 p (some u)) → Taken i (suc n) lies (put lies p (some u))
    joined u rest =
        let twice : put lies1 p (some u) ≡ put lies p (some u) = put_twice lies p (some t1) (some u) in
        let got : get_of j lies (child p i) ≡ index_of j p t.berth.call i (some x) = index_got j lies store c p t is t bare i x at in
        record {
          core = subst (λ (z : Lies). Cored j z store) twice rest.core;
          after = ap (λ (z : Lies). core_of j z store) (sym twice) ∙ (rest.after ∙ ap (after_taking j.program (suc i) n p) first_after);
          enabled = (
            index_here j l lies store c p t is bare i x at,
            ap (λ (z : T). z.phase) got ∙ waits,
            index_passes j l lies store c p t is bare i x at bodies direct ok,
            subst (CanTakeIndexes j.program (suc i) n p) first_after rest.enabled,
          );
        }

  pub takes : (n i : ℕ) (lies : Lies) → Cored j lies store → (t : Lie) → lies p ≡ some t → ((k : ℕ) → lies (child p k) ≡ none)
      → AllWait i n t.indexes → (u : Lie) → SameTask t u → u.indexes ≡ run_indexes i n t.indexes → Taken i n lies (put lies p (some u))
  takes zero i lies c t is bare all u same indexes = record {
    core = stays j l lies store c p t is u same.berth indexes (same_task j p t u same);
    after = λ h. record {
      get = (task_becomes j l lies store c p t is u same.berth indexes (λ z. z) (same_task j p t u same) ∙ set_self p (get_of j lies)) h;
      store = store;
    };
    enabled = tt;
  }
  takes (suc n) i lies c t is bare all u same indexes =
      let first = all i (omega arith) (omega arith) in
      joined i n lies c t is bare first.0 first.1 first.2 u
      (takes n (suc i) (lies1 i n lies c t is bare first.0 first.1 first.2) (c1 i n lies c t is bare first.0 first.1 first.2)
      (t1 i n lies c t is bare first.0 first.1 first.2) (put_here lies p (some (t1 i n lies c t is bare first.0 first.1 first.2)))
      (bare1 i n lies c t is bare first.0 first.1 first.2)
      (λ k from to. let y = all k (omega arith) (omega arith) in
      (y.0, change_else runs_now i k t.indexes (λ e. omega arith) ∙ y.1, y.2)) u (record { berth = same.berth; phase = same.phase; answers = same.answers; count = same.count }) indexes)
