-- A chunk from the moment that it has been taken until it is retired, and one chunk after another.
use Rattle.std.proofs.Common.{◌≡◌, ◌≤◌, ◌<◌, ◌⊎◌, inl, inr, ℕ, zero, suc, ◌+◌, ◌-◌, ◌==◌, Bool, true, false, cond, MatchBool, List, [], ◌∷◌, ◌++◌, map, Option, Some, refl, sym, ap, ◌∙◌, subst, arith}
use Rattle.std.proofs.lemmas.List.{append_assoc}
use Rattle.kt_faults.specs.First.{IsFirst}
use Rattle.kt_prog.specs.Calls.{CallTree}
use Rattle.kt_prog.specs.Fits.{Fits}
use Rattle.kt_prog.specs.Runs.{FaultRun}
use Rattle.kt_prog.specs.Script.{Fault}
use Rattle.kt_prog.specs.declared.programs.Program.{Program}
use Rattle.kt_runs.specs.ByPath.{Path}
use Rattle.kt_words.specs.declared.pairs.Pair.{Pair}
use Rattle.kt_rule.specs.declared.views.IndexRun.{IndexRun}
use Rattle.kt_rule.specs.declared.views.Setup.{Setup}
use Rattle.kt_rule.specs.declared.views.Spot.{Spot}
use Rattle.kt_rule.specs.declared.views.View.{View}
use Rattle.kt_rule.specs.Lists.{In, here, there}
use Rattle.kt_rule.specs.Steps.{knows_stop}
use Rattle.kt_rule.proofs.Sums.{in_append, in_cons}
use Rattle.kt_pieces.specs.Changes.{chunk_of, ended}
use Rattle.kt_loops.specs.Calls.{HasRetired, HasTaken, MayRetire}
use Rattle.kt_loops.specs.Hands.{finds_empty, finds_none_left, retires_some, takes_chunk}
use Rattle.kt_loops.specs.Told.{AreOver, IsExtent, IsOwnLoop}
use Rattle.kt_loops.specs.declared.pieces.Taken.TheVariants as T
use Rattle.kt_tasks.specs.Hands.{IsCallIn, IsHeld}
use Rattle.kt_calls.specs.Ranges.{IsOfCrew, IsRecord}
use Rattle.kt_intervals.specs.Chunks.{IsRunWith, IsTaken, IsWithin, Origin}
use Rattle.kt_intervals.specs.Drains.{IsFirstWith, Drains}
use Rattle.kt_intervals.specs.Faults.{index_faults}
use Rattle.kt_intervals.specs.Indexes.{IsIndexAtEnd, IsIndexOver}
use Rattle.kt_intervals.specs.Programs.{HasFirsts, IsOfRun}
use Rattle.kt_intervals.proofs.Faults.{index_faults_join}
use Rattle.kt_intervals.proofs.Stands.{end_left, ended_over}

in_none : {A : Type 0} {x : A} → In x [] → ⊥
in_none i = elim i [ ]

-- A CHUNK THAT HAS BEEN TAKEN

module _ (at : ℕ) (v : View) (pair : Pair) (t : IsTaken at v pair) where
  -- its first index
  abbrev e0 : IndexRun
  e0 = record { spot = t.spot; index = pair.low - t.first; position = t.first + (pair.low - t.first); answers = []; done = 0 }

  in_taken : (n : ℕ) → 0 < n → v.loops.taken ≡ chunk_of t.spot t.first (pair.low - t.first) n → In e0 v.loops.taken
  in_taken zero lt is = absurd (omega (arith, lt))
  in_taken (suc n) lt is = subst (λ (ts : List IndexRun). In e0 ts) (sym is) here

  first_in : In e0 v.loops.taken
  first_in = in_taken (pair.high - pair.low) (let some = t.some_taken in omega (arith, some)) t.taken

  pub held : IsHeld v at t.spot
  held = (inr (inr (inr (e0, first_in, refl))), t.lies)

  pub first_is : (long first : ℕ) → IsExtent v at long first → first ≡ t.first
  first_is long first h =
      let same = h.taken e0 first_in t.lies in
      omega (arith, same)

  -- with what its indexes are run
  module _ (j : Setup) (told : v.setup ≡ Some j) (before : Option FaultRun) where
    abbrev pub origin : Origin
    origin = record { setup = j; view = v; spot = t.spot; first = t.first; before = before }

    pub run_with : (p : Program) (firsts : List ℕ) (call : CallTree) → IsOfRun v p → HasFirsts p.families firsts → IsRecord v at → IsCallIn v at call
        → IsRunWith origin p firsts call at
    run_with p firsts call of has inside is =
        let same : of.setup ≡ j = some_is of.setup j (sym of.told ∙ told) in
        record {
          told = told;
          program = subst (λ (i : Setup). i.program ≡ p) same of.program;
          accepted = of.accepted;
          table = has;
          inside = inside;
          lies = t.lies;
          called = sym (is.0 t.spot held);
          fits = subst (λ (q : Program). Fits q call) of.program (is.1 of.setup of.told);
        }
      where
        some_is : (a b : Setup) → Some a ≡ Some b → a ≡ b
        some_is a b e = cc

    pub within_first : (from : ℕ) → from ≡ pair.low - t.first → (count : ℕ) → count ≡ pair.high - pair.low → IsWithin origin from 0 count v before
    within_first from from_is count count_is = record {
      done = [];
      same = ap (λ (ts : List IndexRun). record v { loops = record v.loops { taken = ts } })
          (t.taken ∙ ap (λ (i : ℕ). chunk_of t.spot t.first i (pair.high - pair.low)) (let e : pair.low - t.first ≡ from + 0 = omega (arith, from_is) in e)
          ∙ ap (λ (n : ℕ). chunk_of t.spot t.first (from + 0) n) (sym count_is));
      many = refl;
      within = let a = t.from in let b = t.within in let some = t.some_taken in omega (arith, a, b, some, from_is, count_is);
      spots = λ e i. absurd (in_none i);
      ends = λ e i. absurd (in_none i);
      least = λ faults h. h;
    }

  -- so they may be run, once the loop's first position and its call are known
  pub begun : (p : Program) (firsts : List ℕ) (of : IsOfRun v p) → HasFirsts p.families firsts → IsRecord v at → (v1 v2 : View) → v1 ≡ v → v2 ≡ v1
      → (call : CallTree) → IsCallIn v1 at call → (long first : ℕ) → IsExtent v at long first → (before : Option FaultRun)
      → IsRunWith (origin of.setup of.told before) p firsts call at
      × IsWithin (origin of.setup of.told before) (pair.low - first) 0 (pair.high - pair.low) v2 before
  begun p firsts of has inside v1 v2 same1 same2 call called long first extent before = (
    run_with of.setup of.told before p firsts call of has inside (subst (λ (x : View). IsCallIn x at call) same1 called),
    subst (λ (x : View). IsWithin (origin of.setup of.told before) (pair.low - first) 0 (pair.high - pair.low) x before) (sym (same2 ∙ same1))
        (within_first of.setup of.told before (pair.low - first) (ap (λ (n : ℕ). pair.low - n) (first_is long first extent)) (pair.high - pair.low) refl),
  )

-- ITS RETIREMENT

module _ (o : Origin) (p : Program) (firsts : List ℕ) (call : CallTree) (at : ℕ) (r : IsRunWith o p firsts call at)
    (from count : ℕ) (w : View) (after : Option FaultRun) (s : IsWithin o from count 0 w after) where
  told_now : w.setup ≡ Some o.setup
  told_now = ap (λ (x : View). x.setup) s.same ∙ r.told

  pub over_now : AreOver w o.spot s.done []
  over_now = record {
    setup = o.setup;
    told = told_now;
    first = ap (λ (x : View). x.loops.taken) s.same;
    same = s.spots;
    over = λ e i. let h = s.ends e i in (h.0, end_left o.setup e h.0 h.1);
  }

  pub may_retire : 1 ≤ count → MayRetire w at count
  may_retire some = record { spot = o.spot; done = s.done; rest = []; over = over_now; lies = r.lies; many = s.many; some_done = some }

  pub inside_now : IsRecord w at
  inside_now = record { setup = r.inside.setup; told = ap (λ (x : View). x.setup) s.same ∙ r.inside.told; below = r.inside.below }

  lie_in : (xs : List IndexRun) → ((e : IndexRun) → In e xs → e.spot ≡ o.spot) → (e : IndexRun) → In e (map ended xs) → e.spot.berth.at ≡ at
  lie_in [] spots e i = absurd (in_none i)
  lie_in (x ∷ xs) spots e i = by (in_cons e (ended x) (map ended xs) i) (lie_in xs (λ y k. spots y (there k)) e)
    where
      by : (e ≡ ended x) ⊎ In e (map ended xs) → (In e (map ended xs) → e.spot.berth.at ≡ at) → e.spot.berth.at ≡ at
      by (inl is) more = ap (λ (y : IndexRun). y.spot.berth.at) is ∙ ap (λ (m : Spot). m.berth.at) (spots x here) ∙ r.lies
      by (inr k) more = more k

  over_in : (xs : List IndexRun) → ((e : IndexRun) → In e xs → (fault : Option Fault) × IsIndexAtEnd o.setup e fault) → (e : IndexRun) → In e (map ended xs)
      → IsIndexOver o.setup e
  over_in [] ends e i = absurd (in_none i)
  over_in (x ∷ xs) ends e i = by (in_cons e (ended x) (map ended xs) i) (over_in xs (λ y k. ends y (there k)) e)
    where
      by : (e ≡ ended x) ⊎ In e (map ended xs) → (In e (map ended xs) → IsIndexOver o.setup e) → IsIndexOver o.setup e
      by (inl is) more = let h = ends x here in subst (λ (y : IndexRun). IsIndexOver o.setup y) (sym is) (ended_over o.setup x h.0 h.1)
      by (inr k) more = more k

  -- the view behind it, where these are the loops known empty
  abbrev retired_with : List Path → View
  retired_with emptied = record (o.view) {
    seen = record (o.view.seen) { line = w.seen.line };
    loops = record (o.view.loops) { taken = []; retired = map ended s.done ++ o.view.loops.retired; emptied = emptied };
  }

  none_else : (x : View) → w ≡ x → retires_some w s.done [] ≡ record x { loops = record x.loops { taken = []; retired = map ended s.done ++ x.loops.retired } }
  none_else x is = ap (λ (y : View). record y { loops = record y.loops { taken = []; retired = map ended s.done ++ y.loops.retired } }) is

  some_left : retires_some w s.done [] ≡ retired_with o.view.loops.emptied
  some_left = ap (λ (y : View). record y { loops = record y.loops { taken = []; retired = map ended s.done ++ y.loops.retired } }) s.same

  none_left : finds_none_left (retires_some w s.done []) o.spot.path ≡ retired_with (o.spot.path ∷ o.view.loops.emptied)
  none_left = ap (λ (y : View). finds_none_left y o.spot.path) some_left

  drains_as : (emptied : List Path) → ((q : Path) → In q o.view.loops.emptied → In q emptied) → (z : View) → z ≡ retired_with emptied
      → Drains at o.view z o.before after
  drains_as emptied stays z is = record {
    more = map ended s.done;
    same = is ∙ ap (λ (x : View). record (o.view) {
      seen = record (o.view.seen) { stop = x.seen.stop; line = x.seen.line };
      loops = record (o.view.loops) { taken = []; retired = map ended s.done ++ o.view.loops.retired; emptied = x.loops.emptied; free = x.loops.free };
    }) (sym is);
    stop = λ h. ap (λ (x : View). x.seen.stop) is ∙ h;
    emptied = λ q i. subst (λ (x : View). In q x.loops.emptied) (sym is) (stays q i);
    lie = λ e i. lie_in s.done s.spots e i;
    over = λ j told e i. subst (λ (k : Setup). IsIndexOver k e) (some_is o.setup j (sym r.told ∙ told)) (over_in s.done s.ends e i);
    least = λ j told. subst (λ (k : Setup). IsFirstWith o.before after (index_faults k (map ended s.done))) (some_is o.setup j (sym r.told ∙ told)) s.least;
  }
    where
      some_is : (a b : Setup) → Some a ≡ Some b → a ≡ b
      some_is a b e = cc

  pub drains_now : (z : View) (rest_of : ℕ) → HasRetired w at count z rest_of → Drains at o.view z o.before after
  drains_now z rest_of h = by (rest_of == 0) (h o.spot s.done [] over_now r.lies s.many)
    where
      by : (b : Bool) → MatchBool b (z ≡ finds_none_left (retires_some w s.done []) o.spot.path) (z ≡ retires_some w s.done []) → Drains at o.view z o.before after
      by true is = drains_as (o.spot.path ∷ o.view.loops.emptied) (λ q i. there i) z (is ∙ none_left)
      by false is = drains_as o.view.loops.emptied (λ q i. i) z (is ∙ some_left)

-- ONE CHUNK AFTER ANOTHER

-- nothing was retired yet
pub drains_none : (at : ℕ) (v : View) (fault : Option FaultRun) → v.loops.taken ≡ [] → Drains at v v fault fault
drains_none at v fault none = record {
  more = [];
  same = ap (λ (ts : List IndexRun). record v { loops = record v.loops { taken = ts } }) none;
  stop = λ h. h;
  emptied = λ q i. i;
  lie = λ e i. absurd (in_none i);
  over = λ j told e i. absurd (in_none i);
  least = λ j told faults h. h;
}

module _ (at : ℕ) (v u : View) (before between : Option FaultRun) (h : Drains at v u before between) where
  pub setup_kept : u.setup ≡ v.setup
  setup_kept = ap (λ (x : View). x.setup) h.same

  pub home_kept : u.loops.home ≡ v.loops.home
  home_kept = ap (λ (x : View). x.loops.home) h.same

  pub none_taken : u.loops.taken ≡ []
  none_taken = ap (λ (x : View). x.loops.taken) h.same

  pub crew_kept : IsOfCrew v → IsOfCrew u
  crew_kept c = record { setup = c.setup; told = setup_kept ∙ c.told; own = rw (ap (λ (x : View). x.worker) h.same) c.own; few = c.few }

  -- it asks whether the run stops
  pub stop_asked : (w : View) (b : Bool) → w ≡ cond b (knows_stop u) u → Drains at v w before between × (b ≡ true → w.seen.stop ≡ true)
  stop_asked w true is = (
    record {
      more = h.more;
      same = is ∙ ap knows_stop h.same ∙ ap (λ (x : View). record v {
        seen = record v.seen { stop = x.seen.stop; line = x.seen.line };
        loops = record v.loops { taken = []; retired = h.more ++ v.loops.retired; emptied = x.loops.emptied; free = x.loops.free };
      }) (sym is);
      stop = λ e. ap (λ (x : View). x.seen.stop) is;
      emptied = λ q i. subst (λ (x : View). In q x.loops.emptied) (sym is) (h.emptied q i);
      lie = h.lie;
      over = h.over;
      least = h.least;
    },
    λ e. ap (λ (x : View). x.seen.stop) is,
  )
  stop_asked w false is = (subst (λ (x : View). Drains at v x before between) (sym is) h, λ e. absurd (cc e))

  -- the interval is found empty
  pub found_empty : (w : View) → w ≡ finds_empty u → Drains at v w before between × (w.loops.free ≡ true)
  found_empty w is = (
    record {
      more = h.more;
      same = is ∙ ap finds_empty h.same ∙ ap (λ (x : View). record v {
        seen = record v.seen { stop = x.seen.stop; line = x.seen.line };
        loops = record v.loops { taken = []; retired = h.more ++ v.loops.retired; emptied = x.loops.emptied; free = x.loops.free };
      }) (sym is);
      stop = λ e. ap (λ (x : View). x.seen.stop) is ∙ h.stop e;
      emptied = λ q i. subst (λ (x : View). In q x.loops.emptied) (sym is) (h.emptied q i);
      lie = h.lie;
      over = h.over;
      least = h.least;
    },
    ap (λ (x : View). x.loops.free) is,
  )

  -- more indexes are retired, from where these are in hand
  pub drains_then : (taken : List IndexRun) (w : View) (after : Option FaultRun)
      → Drains at (record u { loops = record u.loops { taken = taken } }) w between after → Drains at v w before after
  drains_then taken w after g = record {
    more = g.more ++ h.more;
    same = g.same ∙ ap (λ (x : View). record x {
      seen = record x.seen { stop = w.seen.stop; line = w.seen.line };
      loops = record x.loops { taken = []; retired = g.more ++ x.loops.retired; emptied = w.loops.emptied; free = w.loops.free };
    }) h.same ∙ ap (λ (rs : List IndexRun). record v {
      seen = record v.seen { stop = w.seen.stop; line = w.seen.line };
      loops = record v.loops { taken = []; retired = rs; emptied = w.loops.emptied; free = w.loops.free };
    }) (sym (append_assoc g.more h.more v.loops.retired));
    stop = λ e. g.stop (h.stop e);
    emptied = λ q i. g.emptied q (h.emptied q i);
    lie = λ e i. either_lies e (in_append g.more h.more e i);
    over = λ j told e i. either_over j told e (in_append g.more h.more e i);
    least = λ j told faults first.
        subst (λ (xs : List FaultRun). IsFirst after xs)
        (sym (append_assoc (index_faults j g.more) (index_faults j h.more) faults) ∙ ap (λ (xs : List FaultRun). xs ++ faults) (sym (index_faults_join j g.more h.more)))
        (g.least j (setup_kept ∙ told) (index_faults j h.more ++ faults) (h.least j told faults first));
  }
    where
      either_lies : (e : IndexRun) → In e g.more ⊎ In e h.more → e.spot.berth.at ≡ at
      either_lies e (inl new) = g.lie e new
      either_lies e (inr old) = h.lie e old

      either_over : (j : Setup) → v.setup ≡ Some j → (e : IndexRun) → In e g.more ⊎ In e h.more → IsIndexOver j e
      either_over j told e (inl new) = g.over j (setup_kept ∙ told) e new
      either_over j told e (inr old) = h.over j told e old

  -- a chunk is taken
  pub chunk_taken : v.loops.home ≡ suc at → (w : View) (pair : Pair) (high : ℕ) → pair.low < high → pair.low < pair.high → pair.high ≤ high
      → (m : Spot) (first : ℕ) → IsOwnLoop u m first pair.low high → w ≡ takes_chunk u m first pair.low (pair.high - pair.low) → IsTaken at w pair
  chunk_taken home w pair high some less most m first own is = record {
    spot = m;
    first = first;
    taken = ap (λ (x : View). x.loops.taken) is ∙ ap (λ (ts : List IndexRun). ts ++ chunk_of m first (pair.low - first) (pair.high - pair.low)) none_taken;
    some_taken = less;
    from = own.from;
    within = let most_of = own.within in omega (arith, most, most_of);
    lies = let a = own.home in let b = home_kept in omega (arith, a, b, home);
  }

  -- and once its indexes are retired, so are all
  pub chunk_got : v.loops.home ≡ suc at → (grain : ℕ) → 1 ≤ grain → (w : View) (pair : Pair) → HasTaken u grain w (T.Got pair)
      → IsTaken at w pair × ((z : View) (after : Option FaultRun) → Drains at w z between after → Drains at v z before after)
  chunk_got home grain some w pair (high, less, is, (m, first, own, same)) = (
    chunk_taken home w pair high less (omega (arith, some, less, is)) (omega (arith, some, less, is)) m first own same,
    λ z after g. drains_then (u.loops.taken ++ chunk_of m first (pair.low - first) (pair.high - pair.low)) z after
        (subst (λ (x : View). Drains at x z between after) same g),
  )

  -- it is a seat of the same run
  setup_got : (grain : ℕ) → 1 ≤ grain → (w : View) (pair : Pair) → HasTaken u grain w (T.Got pair) → w.setup ≡ v.setup
  setup_got grain some w pair (high, less, is, (m, first, own, same)) = ap (λ (x : View). x.setup) same ∙ setup_kept

  pub record_got : (grain : ℕ) → 1 ≤ grain → (w : View) (pair : Pair) → HasTaken u grain w (T.Got pair) → IsRecord v at → IsRecord w at
  record_got grain some w pair got c = record { setup = c.setup; told = setup_got grain some w pair got ∙ c.told; below = c.below }

  pub run_got : (grain : ℕ) → 1 ≤ grain → (w : View) (pair : Pair) → HasTaken u grain w (T.Got pair) → (p : Program) → IsOfRun v p → IsOfRun w p
  run_got grain some w pair got p c =
      record { setup = c.setup; told = setup_got grain some w pair got ∙ c.told; program = c.program; accepted = c.accepted }
