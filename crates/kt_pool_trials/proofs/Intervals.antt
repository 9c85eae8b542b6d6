-- What the steps on loops make of where a worker stands.
use Rattle.std.proofs.Common.{◌≡◌, ◌≢◌, ◌≤◌, ◌<◌, ℕ, zero, suc, ◌+◌, ◌*◌, ◌-◌, ◌==◌, min, Bool, true, false, List, [], ◌∷◌, ◌++◌, length, MatchBool, get_or, refl, sym, ap, ◌∙◌, subst, arith}
use Rattle.std.proofs.lemmas.Bool.Decides.{nat_tests}
use mathlib.Core.Option.{some}
use lib.ListN.{get_elem?}
use Rattle.kt_prog.specs.Accepted.{IsAccepted}
use Rattle.kt_prog.specs.Runs.{FaultRun}
use Rattle.kt_prog.specs.declared.programs.Program.{Program}
use Rattle.kt_runs.specs.ByPath.{Path}
use Rattle.kt_split.specs.Intervals.{size}
use Rattle.kt_split.specs.Splits.{IsCut}
use Rattle.kt_words.specs.declared.pairs.Pair.{Pair}
use Rattle.kt_rule.specs.declared.views.Execution.{Execution}
use Rattle.kt_rule.specs.declared.views.IndexRun.{IndexRun}
use Rattle.kt_rule.specs.declared.views.Share.{Share}
use Rattle.kt_rule.specs.declared.views.Spot.{Spot}
use Rattle.kt_rule.specs.declared.views.View.{View}
use Rattle.kt_pieces.specs.Changes.{shares_of}
use Rattle.kt_rule.specs.Lists.{In}
use Rattle.kt_loops.specs.Calls.{HasLeft, HasSplit, HasTaken}
use Rattle.kt_loops.specs.Hands.{finds_empty, finds_interval, finds_none_left, forgets, takes_pieces}
use Rattle.kt_loops.specs.declared.pieces.Taken.TheVariants as T
use Rattle.kt_loops.specs.declared.splits.Divided.{Divided}
use Rattle.kt_loops.specs.declared.splits.Divided.TheVariants as D
use Rattle.kt_loops.specs.Calls.{RunsLoop}
use Rattle.kt_calls.specs.Ranges.{IsRecord}
use Rattle.kt_hands.proofs.Seats.{IsSame, same_as}
use Rattle.kt_intervals.specs.Drains.{Drains}
use Rattle.kt_intervals.specs.Programs.{IsOfRun}
use Rattle.kt_intervals.proofs.Retiring.{chunk_got, drains_none, drains_then}
use Rattle.kt_worker.specs.Levels.{Calm, Extends, bench, kin}
use Rattle.kt_worker.specs.Looping.{HasInterval}
use Rattle.kt_worker.specs.Turns.{HasPiece}
use Rattle.kt_worker.specs.declared.stacks.Level.{Level}
use Rattle.kt_worker.specs.declared.tallies.Tally.{Tally}
use Rattle.kt_worker.proofs.Intervals.{interval_none_taken, none_left, ran_own, some_left}
use Rattle.kt_worker.proofs.Stands.{record_same}
use Rattle.kt_worker.proofs.Turning.{calm_same, runs_loop, top_inside}
use Rattle.kt_pool_trials.specs.Driven.{HasChunk}

-- CHUNKS

module _ (v : View) (p : Program) (t : Tally) (levels : List Level) (at : ℕ) (h : HasInterval v p t levels at) where
  none_yet : Drains at v v t.fault t.fault
  none_yet = drains_none at v t.fault (interval_none_taken v p t levels at h)

  pub chunk_now : (grain : ℕ) → 1 ≤ grain → (w : View) (pair : Pair) → HasTaken v grain w (T.Got pair) → HasChunk w p t levels at pair
  chunk_now grain least w pair got =
      let same = got.3.3 in
      record {
        before = v;
        interval = h;
        same = same ∙ ap (λ (xs : List IndexRun). record v { loops = record v.loops { taken = xs } }) (sym (ap (λ (x : View). x.loops.taken) same));
        taken = (chunk_got at v v t.fault t.fault none_yet h.home grain least w pair got).0;
      }

  pub calm_emptied : (w : View) → w ≡ finds_empty v → Calm w p t levels
  calm_emptied w same = subst (λ (x : View). Calm x p t levels) (sym same) h.calm

  pub interval_same : (w : View) → w ≡ v → HasInterval w p t levels at
  interval_same w same = subst (λ (x : View). HasInterval x p t levels at) (sym same) h

module _ (w : View) (p : Program) (t : Tally) (levels : List Level) (at : ℕ) (pair : Pair) (c : HasChunk w p t levels at pair) where
  pub chunk_inside : IsRecord w at
  chunk_inside = record_same c.before w at (ap (λ (x : View). x.setup) c.same) c.interval.inside

  pub chunk_run : IsAccepted p → IsOfRun w p
  chunk_run ok = let q = c.interval.calm.quiet in record { setup = q.setup; told = ap (λ (x : View). x.setup) c.same ∙ q.told; program = q.program; accepted = ok }

  -- its indexes are retired
  pub interval_then : (z : View) (u : Tally) → Drains at w z t.fault u.fault → u ≡ record t { fault = u.fault } → HasInterval z p u levels at
  interval_then z u drained tally =
      let v = c.before in
      let d : Drains at v z t.fault u.fault =
      drains_then at v v t.fault t.fault (none_yet v p t levels at c.interval) w.loops.taken z u.fault
      (subst (λ (x : View). Drains at x z t.fault u.fault) c.same drained) in
      let e : Drains at v (finds_empty z) t.fault u.fault = record {
        more = d.more;
        same = ap finds_empty d.same;
        stop = d.stop;
        emptied = d.emptied;
        lie = d.lie;
        over = d.over;
        least = d.least;
      } in
      record {
        calm = (ran_own v p t levels at c.interval (finds_empty z) u true (record { drained = e; same = tally; ends = refl })).0;
        home = ap (λ (x : View). x.loops.home) d.same ∙ c.interval.home;
        inside = record_same v z at (ap (λ (x : View). x.setup) d.same) c.interval.inside;
      }

-- HOW MANY INDEXES ARE LEFT

both_empty : (b : Bool) (v w x : View) → MatchBool b (w ≡ x) (w ≡ v) → MatchBool b (finds_empty w ≡ finds_empty x) (finds_empty w ≡ finds_empty v)
both_empty true v w x e = ap finds_empty e
both_empty false v w x e = ap finds_empty e

kept_by : (b : Bool) (v w x : View) → MatchBool b (w ≡ x) (w ≡ v) → {A : Type 0} (f : View → A) → f x ≡ f v → f w ≡ f v
kept_by true v w x e f same = ap f e ∙ same
kept_by false v w x e f same = ap f e

module _ (v : View) (p : Program) (t : Tally) (l : Level) (levels : List Level) (at : ℕ) (h : HasInterval v p t (l ∷ levels) at) where
  pub top_runs : l.looping ≡ true → RunsLoop v l.at
  top_runs looping =
      let r = runs_loop (finds_empty v) p t l levels h.calm looping in
      record { head = r.head; rest = r.rest; runs = r.runs; lies = r.lies; looping = r.looping }

  pub top_record : IsRecord v l.at
  top_record = let i = top_inside (finds_empty v) p t l levels h.calm in record { setup = i.setup; told = i.told; below = i.below }

  pub interval_left : l.looping ≡ true → (w : View) (count : ℕ) → HasLeft v w count → HasInterval w p t (l ∷ levels) at
  interval_left looping w count left =
      let r = top_runs looping in
      let found = left r.head r.rest r.runs in
      let x : View = finds_none_left v r.head.spot.path in
      record {
        calm = which (count == 0) refl;
        home = kept_by (count == 0) v w x found (λ (y : View). y.loops.home) refl ∙ h.home;
        inside = record_same v w at (kept_by (count == 0) v w x found (λ (y : View). y.setup) refl) h.inside;
      }
    where
      emptied : HasLeft (finds_empty v) (finds_empty w) count
      emptied e rest runs = both_empty (count == 0) v w (finds_none_left v e.spot.path) (left e rest runs)

      which : (b : Bool) → (count == 0) ≡ b → Calm (finds_empty w) p t (l ∷ levels)
      which true e =
          let zero_is : count ≡ 0 = grind (arith, nat_tests, e) in
          (none_left (finds_empty v) (finds_empty w) p t l levels h.calm count emptied looping zero_is).0
      which false e =
          let more : count ≢ 0 = λ z. let t : (count == 0) ≡ true = grind (arith, nat_tests, z) in cc in
          subst (λ (y : View). Calm y p t (l ∷ levels)) (sym (some_left (finds_empty v) (finds_empty w) p t l levels h.calm count emptied more)) h.calm

-- A SPLIT

pub split_same : (v w : View) (victim parts : ℕ) (d : Divided) → HasSplit victim v parts w d → IsSame v w
split_same v w victim parts (D.Got at pieces) h = same_as v w _ h.2.6 (record { setup = refl; parts = refl; worker = refl })
split_same v w victim parts (D.Short count) h = same_as v w _ h.4 (record { setup = refl; parts = refl; worker = refl })
split_same v w victim parts (D.Moved word) h = same_as v w _ h.4 (record { setup = refl; parts = refl; worker = refl })

-- for one part it gives one piece
one_piece : (x kept : Pair) (pieces : List Pair) → x.low + 2 ≤ x.high → IsCut x 1 kept pieces → length pieces ≡ 1
one_piece x kept pieces two cut =
    let long : length pieces ≡ min 1 (size x - size kept) = cut.many in
    let less : size kept ≤ size x - 1 = cut.kept.least (size x - 1) (omega (arith, two)) in
    omega (arith, two, long, less)

alone : (xs : List Pair) (d : Pair) → length xs ≡ 1 → xs ≡ get_or xs 0 d ∷ []
alone [] d e = cc
alone (x ∷ []) d e = refl
alone (x ∷ y ∷ xs) d e = absurd (omega arith)

module _ (v : View) (p : Program) (t : Tally) (levels : List Level) (c : Calm v p t levels) where
  abbrev Learns : View → View
  Learns y = record v {
    tasks = record v.tasks { claimed = y.tasks.claimed; given = y.tasks.given };
    seen = record v.seen { known = y.seen.known; notes = y.seen.notes };
    desk = y.desk;
    loops = record v.loops { pieces = y.loops.pieces; sight = y.loops.sight };
  }

  -- the pieces are not none
  pub some_piece : (w : View) (at : ℕ) (pieces : List Pair) (found kept : Pair) → found.low + 2 ≤ found.high → IsCut found 1 kept pieces → 0 < length pieces
  some_piece w at pieces found kept two cut = let one = one_piece found kept pieces two cut in omega (arith, one)

  -- the piece is in hand
  pub cut_piece : (w : View) (at : ℕ) (m : Spot) (pieces : List Pair) (found kept : Pair) (word : ℕ) (d : Pair) → found.low + 2 ≤ found.high → IsCut found 1 kept pieces
      → m.berth.at ≡ at → IsRecord v at → w ≡ takes_pieces (finds_interval v 0 word) m pieces → HasPiece w p t levels at (get_or pieces 0 d)
  cut_piece w at m pieces found kept word d two cut lies inside same =
      let x : Pair = get_or pieces 0 d in
      let one : pieces ≡ x ∷ [] = alone pieces d (one_piece found kept pieces two cut) in
      record {
        before = v;
        calm = c;
        answered = record {
          learnt = record {
            same = same ∙ ap Learns (sym same);
            known = λ q i. subst (λ (y : View). In q y.seen.known) (sym same) i;
          };
          free = ap (λ (y : View). y.desk.free) same ∙ c.quiet.free;
          leads = ap (λ (y : View). y.desk.leads) same ∙ c.quiet.leads;
        };
        none = ap (λ (y : View). y.tasks.given) same ∙ c.quiet.given;
        given = record {
          inside = record_same v w at (ap (λ (y : View). y.setup) same) inside;
          piece = record { spot = m; low = x.low; high = x.high };
          is = ap (λ (y : View). y.loops.pieces) same ∙ ap (λ (xs : List Pair). shares_of m xs ++ v.loops.pieces) one;
          lies = lies;
          pair_is = refl;
        };
      }

  -- there was none
  pub calm_uncut : (w : View) (word : ℕ) → w ≡ forgets (finds_interval v 0 word) → Calm w p t levels
  calm_uncut w word same =
      calm_same v w p t levels (ap bench same) (ap (λ (y : View). y.tasks) same) (ap (λ (y : View). y.loops.retired) same) (record {
        seat = ap kin same;
        spots = λ a m o. subst (λ (y : View). get_elem? y.region.spots a ≡ some m) (sym same) o;
        known = λ q i. subst (λ (y : View). In q y.seen.known) (sym same) i;
      }) c
