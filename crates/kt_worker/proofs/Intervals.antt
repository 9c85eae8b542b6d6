-- A loop from its beginning on, and the own interval.
use Rattle.std.proofs.Common.{◌≡◌, ◌≢◌, ◌≤◌, ◌<◌, inr, ℕ, suc, ◌+◌, Bool, true, false, nat_eq, List, [], ◌∷◌, length, MatchBool, Some, refl, sym, ap, ◌∙◌, subst, arith, eq-eqb, ne_eqb}
use Rattle.std.proofs.lemmas.Bool.Decides.{nat_tests}
use mathlib.Core.Option.{some}
use lib.ListN.{get_elem?}
use Rattle.kt_law.specs.declared.limits.TheConstants.{TASKS, WORKERS}
use Rattle.kt_prog.specs.Accepted.{IsAccepted}
use Rattle.kt_prog.specs.Operations.{is_loop_at}
use Rattle.kt_prog.specs.declared.programs.Program.{Program}
use Rattle.kt_words.specs.declared.pairs.Pair.{Pair}
use Rattle.kt_rule.specs.declared.views.Execution.{Execution}
use Rattle.kt_rule.specs.declared.views.Share.{Share}
use Rattle.kt_rule.specs.declared.views.View.{View}
use Rattle.kt_rule.specs.Lists.{In, here}
use Rattle.kt_rule.specs.Steps.{knows_stop}
use Rattle.kt_pieces.specs.Changes.{without_piece}
use Rattle.kt_loops.specs.Calls.{HasBegun, HasHeld, HasLeft, MayHold, begun_loop}
use Rattle.kt_loops.specs.Hands.{began, draws_positions, finds_empty, finds_none_left, holds_piece, homes_at}
use Rattle.kt_loops.specs.Operations.{IsLoopEmptied}
use Rattle.kt_loops.specs.declared.loops.Begun.TheVariants as B
use Rattle.kt_calls.specs.Ranges.{IsOfCrew, IsRecord}
use Rattle.kt_intervals.specs.Drains.{Drains}
use Rattle.kt_intervals.specs.Programs.{IsOfRun}
use Rattle.kt_intervals.proofs.AllMet.{drained_first}
use Rattle.kt_worker.specs.Asking.{Learnt}
use Rattle.kt_worker.specs.Faults.{IsLeast}
use Rattle.kt_worker.specs.Levels.{Calm, Ends, Extends, IsQuiet, Stacked, Turns, bench, kin}
use Rattle.kt_worker.specs.Looping.{HasInterval, MayLoop, Opens, RanOwn}
use Rattle.kt_worker.specs.Turns.{HasPiece}
use Rattle.kt_worker.specs.declared.stacks.Level.{Level}
use Rattle.kt_worker.specs.declared.tallies.Tally.{Tally}
use Rattle.kt_worker.proofs.Begun.{extends_both, least_same, quiet_of, stacked_keeps}
use Rattle.kt_worker.proofs.Stands.{record_same}
use Rattle.kt_worker.proofs.Turning.{calm_same, extends_learnt, on_top, top_loop, top_looping}

-- THE OWN INTERVAL

module _ (v : View) (p : Program) (t : Tally) (levels : List Level) (at : ℕ) (h : HasInterval v p t levels at) where
  pub interval_crew : IsOfCrew v
  interval_crew = let q = h.calm.quiet in record { setup = q.setup; told = q.told; own = q.own; few = q.workers }

  pub interval_run : IsAccepted p → IsOfRun v p
  interval_run ok = let q = h.calm.quiet in record { setup = q.setup; told = q.told; program = q.program; accepted = ok }

  pub interval_none_taken : v.loops.taken ≡ []
  interval_none_taken = h.calm.quiet.taken

  module _ (w : View) (u : Tally) (d : Drains at v w t.fault u.fault) (tally : u ≡ record t { fault = u.fault }) where
    drained_extends : Extends v w
    drained_extends = record {
      seat = ap kin d.same;
      spots = λ a m o. subst (λ (x : View). get_elem? x.region.spots a ≡ some m) (sym d.same) o;
      known = λ q i. subst (λ (x : View). In q x.seen.known) (sym d.same) i;
    }

    drained_least : IsLeast u.fault w
    drained_least j told =
        let now : v.setup ≡ Some j = ap (λ (x : View). x.setup) (sym d.same) ∙ told in
        drained_first at v w t.fault u.fault d j now (h.calm.fault j now)

    drained_calm : w.loops.free ≡ true → Calm w p u levels
    drained_calm empty =
        let same = d.same in
        let c = h.calm in
        let k = drained_extends in
        let keeps : Extends (finds_empty v) w = record { seat = k.seat; spots = k.spots; known = k.known } in
        record {
          quiet = subst (λ (x : Tally). IsQuiet (bench w) p x.base x.used) (sym tally)
              (quiet_of (bench (finds_empty v)) (bench w) p t.base t.used (ap (λ (x : View). x.setup) same) (ap (λ (x : View). x.worker) same)
              (ap (λ (x : View). x.region.spots) same) (ap (λ (x : View). x.region.built) same) (ap (λ (x : View). x.draws) same)
              (ap (λ (x : View). x.tasks.promised) same) (ap (λ (x : View). x.loops.pending) same) (ap (λ (x : View). x.loops.over) same)
              (ap (λ (x : View). x.tasks.given) same ∙ c.quiet.given) (ap (λ (x : View). x.desk.free) same ∙ c.quiet.free)
              (ap (λ (x : View). x.desk.leads) same ∙ c.quiet.leads) (ap (λ (x : View). x.loops.pieces) same ∙ c.quiet.pieces)
              (ap (λ (x : View). x.loops.taken) same) empty c.quiet);
          fault = drained_least;
          begun = ap (λ (x : Tally). x.begun) tally ∙ c.begun ∙ ap (λ (x : View). x.tasks.begun) (sym same);
          counted = subst (λ (x : View). x.tasks.begun ≡ length x.tasks.running + length x.tasks.ran) (sym same) c.counted;
          few = subst (λ (x : View). length x.tasks.running + (length x.tasks.halted + length x.tasks.ran) ≤ TASKS + WORKERS) (sym same) c.few;
          stacked = subst (Stacked w p levels) (sym (ap (λ (x : View). x.tasks.running) same)) (stacked_keeps (finds_empty v) w p levels v.tasks.running keeps c.stacked);
        }

    drained_ends : w.seen.stop ≡ true → Ends w u.fault
    drained_ends stop =
        let same = d.same in
        let q = h.calm.quiet in
        record {
          free = ap (λ (x : View). x.desk.free) same ∙ q.free;
          leads = ap (λ (x : View). x.desk.leads) same ∙ q.leads;
          given = ap (λ (x : View). x.tasks.given) same ∙ q.given;
          promised = ap (λ (x : View). x.tasks.promised) same ∙ q.promised;
          pieces = ap (λ (x : View). x.loops.pieces) same ∙ q.pieces;
          taken = ap (λ (x : View). x.loops.taken) same;
          fault = drained_least;
          cause = inr stop;
        }

    drained : (more : Bool) → MatchBool more (w.loops.free ≡ true) (w.seen.stop ≡ true) → Turns v w p u levels more
    drained true e = (drained_calm e, drained_extends)
    drained false e = (drained_ends e, drained_extends)

  pub ran_own : (w : View) (u : Tally) (more : Bool) → RanOwn at v w t u more → Turns v w p u levels more
  ran_own w u more r = drained w u r.drained r.same more r.ends

-- A LOOP BEGINS

module _ (v : View) (p : Program) (t : Tally) (levels : List Level) (l : Level) (h : MayLoop v p t levels l) where
  -- the seat once the loop has begun
  abbrev Begun : View
  Begun = record v { tasks = record v.tasks { running = began h.may.head ∷ h.may.rest } }

  pub loop_inside : IsRecord v l.at
  loop_inside = let i = (h.calm.stacked.0).inside in record { setup = i.setup; told = i.told; below = i.below }

  pub loop_crew : IsOfCrew v
  loop_crew = let q = h.calm.quiet in record { setup = q.setup; told = q.told; own = q.own; few = q.workers }

  pub loop_room : suc (length levels) ≤ TASKS + WORKERS
  loop_room = room (h.calm.few) h.calm.stacked
    where
      many : (levels : List Level) (es : List Execution) → Stacked Begun p levels es → length levels ≡ length es
      many [] [] s = refl
      many [] (e ∷ es) s = absurd s
      many (x ∷ levels) [] s = absurd s
      many (x ∷ levels) (e ∷ es) (a, b, s) = ap suc (many levels es s)

      room : suc (length h.may.rest) + (length v.tasks.halted + length v.tasks.ran) ≤ TASKS + WORKERS → Stacked Begun p (l ∷ levels) (began h.may.head ∷ h.may.rest)
          → suc (length levels) ≤ TASKS + WORKERS
      room few s = let same = many levels h.may.rest s.2 in omega (arith, few, same)

  -- too many positions were drawn
  pub loop_stops : (w : View) (count : ℕ) → HasBegun v l.at w (B.Limit count) → Ends w t.fault × Extends v w
  loop_stops w count b =
      let x = b h.may.head h.may.rest h.may.runs in
      let same : w ≡ knows_stop (draws_positions v h.may.head x.0.0 1) = x.0.2 in
      let q = h.calm.quiet in (
        record {
          free = ap (λ (y : View). y.desk.free) same ∙ q.free;
          leads = ap (λ (y : View). y.desk.leads) same ∙ q.leads;
          given = ap (λ (y : View). y.tasks.given) same ∙ q.given;
          promised = ap (λ (y : View). y.tasks.promised) same ∙ q.promised;
          pieces = ap (λ (y : View). y.loops.pieces) same ∙ q.pieces;
          taken = ap (λ (y : View). y.loops.taken) same ∙ q.taken;
          fault = least_same t.fault v w (ap (λ (y : View). y.setup) same) (ap (λ (y : View). y.tasks.ran) same) (ap (λ (y : View). y.loops.retired) same) h.calm.fault;
          cause = inr (ap (λ (y : View). y.seen.stop) same);
        },
        record {
          seat = ap kin same;
          spots = λ a m o. subst (λ (y : View). get_elem? y.region.spots a ≡ some m) (sym same) o;
          known = λ q i. subst (λ (y : View). In q y.seen.known) (sym same) i;
        },
      )

  pub loop_begins : (w : View) (first : ℕ) → HasBegun v l.at w (B.Begun first) → HasInterval w p t (l ∷ levels) l.at × Extends v w
  loop_begins w first b =
      let z : View = begun_loop v h.may.head h.may.rest l.at first in
      let same : w ≡ z = (b h.may.head h.may.rest h.may.runs).0 in
      let emptied : bench (finds_empty z) ≡ bench Begun =
      (λ i. record (bench Begun) { pending = sym h.may.none_pending i; empty = sym h.may.free i; over = sym h.may.within_positions i }) in
      let keeps : Extends Begun (finds_empty z) = record { seat = refl; spots = λ a m o. o; known = λ q i. i } in
      let calm : Calm (finds_empty z) p t (l ∷ levels) = calm_same Begun (finds_empty z) p t (l ∷ levels) emptied refl refl keeps h.calm in
      subst (λ (y : View). HasInterval y p t (l ∷ levels) l.at × Extends v y) (sym same) (
        record { calm = calm; home = refl; inside = record_same v z l.at refl loop_inside },
        record { seat = refl; spots = λ a m o. o; known = λ q i. i },
      )

-- after a step of its own, and then the loop
pub opens_after : (v x w : View) (p : Program) (t : Tally) (levels : List Level) (at : ℕ) (b : Bool) → Extends v x → Opens x w p t levels at b → Opens v w p t levels at b
opens_after v x w p t levels at true k (h, l) = (h, extends_both v x w k l)
opens_after v x w p t levels at false k (h, l) = (h, extends_both v x w k l)

pub opened_interval : (v w : View) (p : Program) (t : Tally) (levels : List Level) (at : ℕ) (b : Bool) → b ≡ true → Opens v w p t levels at b
    → HasInterval w p t levels at × Extends v w
opened_interval v w p t levels at true e h = h
opened_interval v w p t levels at false e h = cc

pub not_opened : (v w : View) (p : Program) (t : Tally) (levels : List Level) (at : ℕ) (b : Bool) → b ≡ false → Opens v w p t levels at b
    → Ends w t.fault × Extends v w
not_opened v w p t levels at true e h = cc
not_opened v w p t levels at false e h = h

-- A PIECE IS GIVEN

same_number : (n : ℕ) → nat_eq n n ≡ true
same_number n = grind (arith, nat_tests)

-- nothing is left of one piece without it
none_without : (x : Share) → without_piece x.spot.berth.at x.low (x ∷ []) ≡ []
none_without x = rw (same_number x.spot.berth.at, same_number x.low) refl

module _ (w : View) (p : Program) (t : Tally) (levels : List Level) (at : ℕ) (pair : Pair) (h : HasPiece w p t levels at pair) where
  l_ : Learnt h.before w
  l_ = h.answered.learnt

  pub piece_crew : IsOfCrew w
  piece_crew = let q = h.calm.quiet in record {
    setup = q.setup;
    told = ap (λ (x : View). x.setup) l_.same ∙ q.told;
    own = subst (λ (x : View). x.worker < q.setup.workers) (sym l_.same) q.own;
    few = q.workers;
  }

  pub piece_inside : IsRecord w at
  piece_inside = h.given.inside

  in_hand : In h.given.piece w.loops.pieces
  in_hand = subst (λ (xs : List Share). In h.given.piece xs) (sym h.given.is) here

  low_is : h.given.piece.low ≡ pair.low
  low_is = ap (λ (x : Pair). x.low) h.given.pair_is

  high_is : h.given.piece.high ≡ pair.high
  high_is = ap (λ (x : Pair). x.high) h.given.pair_is

  pub piece_may : MayHold w at pair
  piece_may = record {
    share = h.given.piece;
    is = in_hand;
    lies = h.given.lies;
    low = low_is;
    high = high_is;
    free = ap (λ (x : View). x.loops.free) l_.same ∙ h.calm.quiet.empty;
    none_taken = ap (λ (x : View). x.loops.taken) l_.same ∙ h.calm.quiet.taken;
  }

  none_then : without_piece h.given.piece.spot.berth.at h.given.piece.low w.loops.pieces ≡ []
  none_then =
      ap (without_piece h.given.piece.spot.berth.at h.given.piece.low) (h.given.is ∙ ap (λ (xs : List Share). h.given.piece ∷ xs) h.calm.quiet.pieces)
      ∙ none_without h.given.piece

  -- the seat holds the piece as its own interval
  abbrev Holds : View
  Holds = holds_piece (homes_at w at) h.given.piece

  held_calm : Calm (finds_empty Holds) p t levels
  held_calm =
      let same = l_.same in
      let c = h.calm in
      let k = extends_learnt h.before w l_ in
      let keeps : Extends h.before (finds_empty Holds) = record { seat = k.seat; spots = k.spots; known = k.known } in
      record {
        quiet = quiet_of (bench h.before) (bench (finds_empty Holds)) p t.base t.used (ap (λ (x : View). x.setup) same) (ap (λ (x : View). x.worker) same)
            (ap (λ (x : View). x.region.spots) same) (ap (λ (x : View). x.region.built) same) (ap (λ (x : View). x.draws) same)
            (ap (λ (x : View). x.tasks.promised) same) (ap (λ (x : View). x.loops.pending) same) (ap (λ (x : View). x.loops.over) same)
            h.none h.answered.free h.answered.leads none_then (ap (λ (x : View). x.loops.taken) same ∙ c.quiet.taken) refl c.quiet;
        fault = least_same t.fault h.before (finds_empty Holds) (ap (λ (x : View). x.setup) same) (ap (λ (x : View). x.tasks.ran) same) (ap (λ (x : View). x.loops.retired) same) c.fault;
        begun = c.begun ∙ ap (λ (x : View). x.tasks.begun) (sym same);
        counted = subst (λ (x : View). x.tasks.begun ≡ length x.tasks.running + length x.tasks.ran) (sym same) c.counted;
        few = subst (λ (x : View). length x.tasks.running + (length x.tasks.halted + length x.tasks.ran) ≤ TASKS + WORKERS) (sym same) c.few;
        stacked = subst (Stacked (finds_empty Holds) p levels) (sym (ap (λ (x : View). x.tasks.running) same))
            (stacked_keeps h.before (finds_empty Holds) p levels (h.before).tasks.running keeps c.stacked);
      }

  pub piece_held : (x : View) → HasHeld w at pair x → HasInterval x p t levels at × Extends h.before x
  piece_held x held =
      let same : x ≡ Holds = held h.given.piece in_hand h.given.lies low_is high_is in
      let k = extends_learnt h.before w l_ in
      subst (λ (y : View). HasInterval y p t levels at × Extends h.before y) (sym same) (
        record { calm = held_calm; home = refl; inside = record_same w Holds at refl h.given.inside },
        record { seat = k.seat; spots = k.spots; known = k.known },
      )

-- HOW MANY INDEXES ARE LEFT

module _ (v w : View) (p : Program) (t : Tally) (l : Level) (levels : List Level) (c : Calm v p t (l ∷ levels)) (count : ℕ) (left : HasLeft v w count) where
  pub none_left : l.looping ≡ true → count ≡ 0 → Calm w p t (l ∷ levels) × Extends v w × IsLoopEmptied w l.at
  none_left looping zero_is =
      let top = on_top v p t l levels c in
      let found = left top.e top.rest top.is in
      let same : w ≡ finds_none_left v top.e.spot.path =
      subst (λ (b : Bool). MatchBool b (w ≡ finds_none_left v top.e.spot.path) (w ≡ v)) (eq-eqb count 0 zero_is) found in
      let k : Extends v w = record {
        seat = ap kin same;
        spots = λ a m o. subst (λ (y : View). get_elem? y.region.spots a ≡ some m) (sym same) o;
        known = λ q i. subst (λ (y : View). In q y.seen.known) (sym same) i;
      } in (
        calm_same v w p t (l ∷ levels) (ap bench same) (ap (λ (x : View). x.tasks) same) (ap (λ (x : View). x.loops.retired) same) k c,
        k,
        record {
          setup = c.quiet.setup;
          told = ap (λ (x : View). x.setup) same ∙ c.quiet.told;
          head = top.e;
          rest = top.rest;
          runs = ap (λ (x : View). x.tasks.running) same ∙ top.is;
          lies = top.level.at;
          loop = subst (λ (q : Program). is_loop_at q top.e.spot.berth.call.task ≡ true) (sym c.quiet.program) (top_loop v p t l levels c looping);
          looping = top_looping v p t l levels c looping;
          none_left = subst (λ (x : View). In top.e.spot.path x.loops.emptied) (sym same) here;
        },
      )

  pub some_left : count ≢ 0 → w ≡ v
  some_left some_are =
      let top = on_top v p t l levels c in
      subst (λ (b : Bool). MatchBool b (w ≡ finds_none_left v top.e.spot.path) (w ≡ v)) (ne_eqb count 0 some_are) (left top.e top.rest top.is)
