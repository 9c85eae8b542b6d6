-- A loop begins: it forks its indexes one after another, and its body ends.
use Rattle.std.proofs.Common.{◌≡◌, ◌≢◌, ℕ, zero, suc, ◌+◌, List, [], ◌∷◌, length, replicate, map, sym, refl, ap, ◌∙◌, subst, arith, None}
use mathlib.Core.Option.{none, some, some-ne-none}
use lib.ListN.{get_elem?}
use Rattle.kt_order.specs.Body.{Fork}
use Rattle.kt_order.specs.Machine.{Machine}
use Rattle.kt_order.specs.Laws.{Laws}
use Rattle.kt_order.specs.Forest.{Task, Running, Ended}
use Rattle.kt_order.specs.Rest.{left}
use Rattle.kt_order.specs.Events as events
use Rattle.kt_order.specs.Events.{forked, ended}
use Rattle.kt_order.specs.Loops.{forks_then}
use Rattle.kt_order.specs.Paths.{HasRoom}
use Rattle.kt_order.proofs.PathThere.{child_there}
use Rattle.kt_prog.specs.Calls.{Index}
use Rattle.kt_prog.specs.Reference.{Placed, machine_of}
use Rattle.kt_runs.specs.Rights.{rights_in}
use Rattle.kt_runs.specs.Loops.{index_calls}
use Rattle.kt_runs.specs.Theorems.{whole_at}
use Rattle.kt_runs.specs.ByPath.{Path, child, levels, after_fork}
use Rattle.kt_rule.specs.declared.views.Setup.{Setup}
use Rattle.kt_rule.specs.Paths.{put}
use Rattle.kt_rule.specs.Lies.{IndexLie, Lie, Lies, phase_of, task_of, get_of, core_of, counts_of, forks_of, Cored}
use Rattle.kt_rule.proofs.Puts.{put_here, get_at}
use Rattle.kt_pieces.specs.Changes.{untaken_index}
use Rattle.kt_pieces.specs.LoopMoves.{after_loop_begins, CanBeginLoop}
use Rattle.kt_pieces.proofs.LoopCores.{put_twice, TurnsIndex, bare_still}
use Rattle.kt_pieces.proofs.LoopCoreIndexes.{index_known}
use Rattle.kt_pieces.proofs.LoopCoreCounts.{loop_forks_are}
use Rattle.kt_pieces.proofs.LoopCoreTasks.{loop_ends, task_becomes, fork_forks, fork_left, fork_get, loop_forks}

more_at : {A : Type 0} (x : A) (k : ℕ) → get_elem? (replicate (suc k) x) k ≡ some x
more_at x zero = refl
more_at x (suc k) = more_at x k

more_else : {A : Type 0} (x : A) (k i : ℕ) → i ≢ k → get_elem? (replicate (suc k) x) i ≡ get_elem? (replicate k x) i
more_else x zero zero ne = absurd (ne refl)
more_else x zero (suc i) ne = refl
more_else x (suc k) zero ne = refl
more_else x (suc k) (suc i) ne = more_else x k i (λ e. ne (ap suc e))

none_past : {A : Type 0} (x : A) (k : ℕ) → get_elem? (replicate k x) k ≡ none
none_past x zero = refl
none_past x (suc k) = none_past x k

-- k indexes have been forked, and so many more are left
record Begins (t u : Lie) (k r : ℕ) : Type 0 where
  pub berth : u.berth ≡ t.berth
  pub over : phase_of u.stage ≡ Ended
  pub answers : u.answers ≡ t.answers
  pub count : u.count ≡ t.count + suc r
  pub indexes : u.indexes ≡ replicate (k + r) untaken_index

-- a loop that has just begun: u is what t has become
pub record HasBegun (t u : Lie) : Type 0 where
  pub berth : u.berth ≡ t.berth
  pub over : phase_of u.stage ≡ Ended
  pub answers : u.answers ≡ t.answers
  pub count : u.count ≡ t.count + suc t.berth.call.length
  pub indexes : u.indexes ≡ replicate t.berth.call.length untaken_index

from_none : (t u : Lie) → HasBegun t u → Begins t u 0 t.berth.call.length
from_none t u b = record {
  berth = b.berth;
  over = b.over;
  answers = b.answers;
  count = b.count;
  indexes = b.indexes ∙ ap (λ (n : ℕ). replicate n untaken_index) (omega arith);
}

all_long : (n : ℕ) → length (replicate n untaken_index) ≡ n
all_long zero = refl
all_long (suc n) = ap suc (all_long n)

module _ (j : Setup) (l : Laws (machine_of j.program) (rights_in j.program)) (store : List ℕ) (p : Path) (room : HasRoom levels p) where
  abbrev m : Machine
  m = machine_of j.program

  abbrev T : Type 0
  T = Task (machine_of j.program)

  -- the core is that of the changed lies, and each event was enabled
  pub record LoopBegun (calls : List Placed) (lies lies' : Lies) : Type 0 where
    pub core : Cored j lies' store
    pub after : core_of j lies' store ≡ after_loop_begins j.program calls p (core_of j lies store)
    pub enabled : CanBeginLoop j.program calls p (core_of j lies store)

  -- the next index is forked
  module _ (r k : ℕ) (lies : Lies) (c : Cored j lies store) (t : Lie) (is : lies p ≡ some t) (bare : (i : ℕ) → lies (child p i) ≡ none)
      (runs : phase_of t.stage ≡ Running) (counted : forks_of j (task_of j p t) ≡ k) (indexes : t.indexes ≡ replicate k untaken_index) where
    abbrev b0 : Placed
    b0 = record { path = map suc p; job = Index t.berth.call k }

    abbrev calls : List Placed
    calls = index_calls (map suc p) t.berth.call (suc k) r

    abbrev t1 : Lie
    t1 = record t { indexes = replicate (suc k) untaken_index; count = suc t.count }

    abbrev lies1 : Lies
    lies1 = put lies p (some t1)

    none_yet : get_elem? t.indexes k ≡ none
    none_yet = ap (λ (z : List IndexLie). get_elem? z k) indexes ∙ none_past untaken_index k

    turn : TurnsIndex t t1 k untaken_index
    turn = record {
      berth = refl;
      here = more_at untaken_index k;
      others = λ i ne. more_else untaken_index k i ne ∙ ap (λ (z : List IndexLie). get_elem? z i) (sym indexes);
    }

    module _ (next : left m (task_of j p t) ≡ Fork b0 (forks_then m calls None)) where
      c1 : Cored j lies1 store
      c1 = loop_forks j l lies store c p t is bare room runs k counted none_yet b0 (forks_then m calls None) next t1 untaken_index turn refl refl

      first_get : get_of j lies1 ≡ (after_fork j.program b0 p (core_of j lies store)).get
      first_get = fork_get j l lies store c p t is bare room runs k counted none_yet b0 (forks_then m calls None) next t1 untaken_index turn refl refl

      first_after : core_of j lies1 store ≡ after_fork j.program b0 p (core_of j lies store)
      first_after = λ h. record { get = first_get h; store = store }

      counted1 : forks_of j (task_of j p t1) ≡ suc k
      counted1 = fork_forks j l lies store c p t is bare room runs k counted none_yet b0 (forks_then m calls None) next t1 untaken_index turn refl refl

      next1 : left m (task_of j p t1) ≡ forks_then m calls None
      next1 = fork_left j l lies store c p t is bare room runs k counted none_yet b0 (forks_then m calls None) next t1 untaken_index turn refl refl

      bare1 : (i : ℕ) → lies1 (child p i) ≡ none
      bare1 = bare_still j lies store c p t is t1 bare

      -- and then the others
      joined : (u : Lie) → LoopBegun calls lies1 (put lies1 p (some u)) → LoopBegun (b0 ∷ calls) lies (put lies p (some u))
      joined u rest =
          let twice : put lies1 p (some u) ≡ put lies p (some u) = put_twice lies p (some t1) (some u) in
          let got : get_of j lies p ≡ task_of j p t = get_at j lies p t is in
          record {
            core = subst (λ (z : Lies). Cored j z store) twice rest.core;
            after = ap (λ (z : Lies). core_of j z store) (sym twice) ∙ (rest.after ∙ ap (after_loop_begins j.program calls p) first_after);
            enabled = (
              c.there p t is,
              ap (λ (z : T). z.phase) got ∙ runs,
              (forks_then m calls None, ap (left m) got ∙ next),
              subst (CanBeginLoop j.program calls p) first_after rest.enabled,
            );
          }

  begins_from : (r k : ℕ) (lies : Lies) → Cored j lies store → (t : Lie) → lies p ≡ some t → ((i : ℕ) → lies (child p i) ≡ none)
      → phase_of t.stage ≡ Running → forks_of j (task_of j p t) ≡ k → t.indexes ≡ replicate k untaken_index
      → left m (task_of j p t) ≡ forks_then m (index_calls (map suc p) t.berth.call k r) None → (u : Lie) → Begins t u k r
      → LoopBegun (index_calls (map suc p) t.berth.call k r) lies (put lies p (some u))
  begins_from zero k lies c t is bare runs counted indexes next u b = record {
    core = loop_ends j l lies store c p t is u b.berth same_indexes None next runs now;
    after = λ h. record { get = task_becomes j l lies store c p t is u b.berth same_indexes (events.put m (ended m)) now h; store = store };
    enabled = (c.there p t is, ap (λ (z : T). z.phase) got ∙ runs, ap (left m) got ∙ next);
  }
    where
      got : get_of j lies p ≡ task_of j p t
      got = get_at j lies p t is

      same_indexes : u.indexes ≡ t.indexes
      same_indexes = b.indexes ∙ (ap (λ (n : ℕ). replicate n untaken_index) (omega arith) ∙ sym indexes)

      more : u.count ≡ suc t.count
      more = let a = b.count in omega arith

      now : task_of j p u ≡ events.put m (ended m) (task_of j p t)
      now = λ h. record { call = whole_at (map suc p) (b.berth h).call; phase = b.over h; answers = b.answers h; done = more h }
  begins_from (suc r) k lies c t is bare runs counted indexes next u b =
      joined r k lies c t is bare runs counted indexes next u
      (begins_from r (suc k) (lies1 r k lies c t is bare runs counted indexes) (c1 r k lies c t is bare runs counted indexes next)
      (t1 r k lies c t is bare runs counted indexes) (put_here lies p (some (t1 r k lies c t is bare runs counted indexes)))
      (bare1 r k lies c t is bare runs counted indexes next) runs (counted1 r k lies c t is bare runs counted indexes next) refl
      (next1 r k lies c t is bare runs counted indexes next) u (record {
        berth = b.berth;
        over = b.over;
        answers = b.answers;
        count = let a = b.count in omega arith;
        indexes = b.indexes ∙ ap (λ (n : ℕ). replicate n untaken_index) (omega arith);
      }))

  -- a running task below which nobody is has forked nothing
  pub nothing_forked : (lies : Lies) → Cored j lies store → (t : Lie) → lies p ≡ some t → ((i : ℕ) → lies (child p i) ≡ none) → t.indexes ≡ []
      → forks_of j (task_of j p t) ≡ 0
  nothing_forked lies c t is bare unlooped = go (counts_of j lies p) refl
    where
      got : get_of j lies p ≡ task_of j p t
      got = get_at j lies p t is

      go : (n : ℕ) → counts_of j lies p ≡ n → forks_of j (task_of j p t) ≡ 0
      go zero e = ap (forks_of j) (sym got) ∙ e
      go (suc n) e =
          let known = index_known j l lies store c p t is bare 0 (child_there levels (counts_of j lies) p 0 (c.there p t is) (omega arith) room) in
          absurd (some-ne-none known.0 (sym known.1 ∙ ap (λ (z : List IndexLie). get_elem? z 0) unlooped))

  -- a loop whose zeroing is done begins
  pub begins : (lies : Lies) → Cored j lies store → (t : Lie) → lies p ≡ some t → ((i : ℕ) → lies (child p i) ≡ none)
      → phase_of t.stage ≡ Running → t.indexes ≡ []
      → left m (task_of j p t) ≡ forks_then m (index_calls (map suc p) t.berth.call 0 t.berth.call.length) None
      → (u : Lie) → HasBegun t u
      → LoopBegun (index_calls (map suc p) t.berth.call 0 t.berth.call.length) lies (put lies p (some u))
  begins lies c t is bare runs unlooped next u b =
      begins_from t.berth.call.length 0 lies c t is bare runs (nothing_forked lies c t is bare unlooped) unlooped next u (from_none t u b)

  -- then it has forked them all
  pub begins_forks : (lies : Lies) → Cored j lies store → (t : Lie) → lies p ≡ some t → ((i : ℕ) → lies (child p i) ≡ none) → (u : Lie)
      → HasBegun t u → Cored j (put lies p (some u)) store → forks_of j (task_of j p u) ≡ t.berth.call.length
  begins_forks lies c t is bare u b now =
      loop_forks_are j l (put lies p (some u)) store now p u (put_here lies p (some u)) (bare_still j lies store c p t is u bare) room
      ∙ (ap length b.indexes ∙ all_long t.berth.call.length)
