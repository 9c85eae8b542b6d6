-- Indexes in hand have ended and are retired, and what is left of a loop is counted: both keep the facts.
use Rattle.std.proofs.Common.{◌≡◌, ◌≢◌, ℕ, zero, suc, ◌+◌, ◌-◌, ◌*◌, ◌<◌, ◌≤◌, true, false, List, [], ◌∷◌, ◌++◌, map, set, length, sym, refl, ap, ◌∙◌, subst, inl, inr, arith, Option}
use mathlib.Core.Option as o
use mathlib.Core.Option.{none, some, some-injective, some-ne-none}
use lib.ListN.{get_elem?}
use Rattle.atomic_table.specs.Table.{State}
use Rattle.kt_law.specs.declared.limits.TheConstants.{LENGTH}
use Rattle.kt_order.specs.Body.{Stop}
use Rattle.kt_order.specs.Forest.{Phase, Running, Finished}
use Rattle.kt_order.specs.Lists.{AllOf, SomeOf}
use Rattle.kt_order.specs.Rest.{left}
use Rattle.kt_prog.specs.Accepted.{IsAccepted}
use Rattle.kt_prog.specs.Calls.{Index}
use Rattle.kt_prog.specs.Script.{Fault}
use Rattle.kt_prog.specs.Reference.{machine_of}
use Rattle.kt_prog.proofs.Plain as programs
use Rattle.kt_runs.specs.ByPath.{Path, child, NoTwice}
use Rattle.kt_words.specs.Places.{place, record_word}
use Rattle.kt_words.specs.declared.layouts.Layout.{Layout}
use Rattle.kt_words.specs.declared.layouts.TheConstants.{RECORDS}
use Rattle.kt_rule.specs.declared.views.Setup.{Setup}
use Rattle.kt_rule.specs.declared.views.Berth.{Berth}
use Rattle.kt_rule.specs.declared.views.Spot.{Spot}
use Rattle.kt_rule.specs.declared.views.IndexRun.{IndexRun}
use Rattle.kt_rule.specs.declared.views.Execution.{Execution}
use Rattle.kt_rule.specs.declared.views.View.{View}
use Rattle.kt_rule.specs.Paths.{put}
use Rattle.kt_rule.specs.Lists.{In, here, there}
use Rattle.kt_rule.specs.Lies.{Loops, IndexLie, Lie, Lies, is_gone, index_of, Cored}
use Rattle.kt_rule.specs.Records.{layout_of, word_at, elements, positions_at}
use Rattle.kt_rule.specs.Facts.{index_task, runs_as}
use Rattle.kt_rule.specs.LoopWords.{loop_words, hand_of, hands_of}
use Rattle.kt_rule.specs.LoopFacts.{is_early, IsIndex, index_times, Handles}
use Rattle.kt_rule.specs.Rule.{Slots, Facts}
use Rattle.kt_rule.proofs.Puts.{put_here}
use Rattle.kt_rule.proofs.Shelf as shelf
use Rattle.kt_rule.proofs.Sums.{in_left, weigh_append}
use Rattle.kt_rule.proofs.Words.{says_field}
use Rattle.kt_steps.proofs.Steps.{at_head}
use Rattle.kt_pieces.specs.Changes.{end_indexes}
use Rattle.kt_pieces.proofs.Ended.{one_here, end_long}
use Rattle.kt_pieces.proofs.Once.{own_once}
use Rattle.kt_pieces.proofs.Retires.{enough, retired_looped}
use Rattle.kt_pieces.proofs.Loads.{found_none_left}
use Rattle.kt_pieces.proofs.LoopCoreTakes.{SameTask}
use Rattle.kt_pieces.proofs.LoopCoreRetires.{index_number, ends_by_number, CanEnd, Retired, retires}
use Rattle.kt_loops.specs.Hands.{retires_some, finds_none_left}
use Rattle.kt_loops.proofs.TurningFacts.{book_turned}
use Rattle.kt_loops.proofs.TurningHands.{hands_learned}
use Rattle.kt_loops.proofs.TurningWords.{record_set, turn_left}
use Rattle.kt_loops.proofs.LoopCalls.{length_few}
use Rattle.kt_loops.proofs.OnTheWay.{loops_on}
use Rattle.kt_loops.proofs.BeginSteps.{hand_there, looped_at}

pub some_of : {A : Type 0} (xs : List A) → 1 ≤ length xs → (x : A) × In x xs
some_of [] more = absurd (omega (arith, more))
some_of (x ∷ xs) more = (x, here)

at_set_here : {A : Type 0} (xs : List A) (i : ℕ) (x y : A) → get_elem? xs i ≡ some x → get_elem? (set xs i y) i ≡ some y
at_set_here [] i x y e = absurd (some-ne-none x (sym e))
at_set_here (z ∷ xs) zero x y e = refl
at_set_here (z ∷ xs) (suc i) x y e = at_set_here xs i x y e

set_set : {A : Type 0} (xs : List A) (i : ℕ) (x y : A) → set (set xs i x) i y ≡ set xs i y
set_set [] i x y = refl
set_set (z ∷ xs) zero x y = refl
set_set (z ∷ xs) (suc i) x y = ap (λ ys. z ∷ ys) (set_set xs i x y)

-- AN INDEX STANDS ONCE AMONG THEM

module _ (p : Path) where
  some_times : (es : List IndexRun) → ((e : IndexRun) → In e es → e.spot.path ≡ p) → (i : ℕ) → SomeOf (λ k. i ≡ k) (map index_number es)
      → 1 ≤ index_times p i es
  some_times [] paths i h = absurd h
  some_times (e ∷ es) paths i (inl same) = let a = one_here p i e (paths e here) same in omega (arith, a)
  some_times (e ∷ es) paths i (inr h) = let a = some_times es (λ x k. paths x (there k)) i h in omega (arith, a)

  no_twice : (es : List IndexRun) → ((e : IndexRun) → In e es → e.spot.path ≡ p) → ((i : ℕ) → index_times p i es ≤ 1)
      → NoTwice (map index_number es)
  no_twice [] paths once = tt
  no_twice (e ∷ es) paths once = (
    λ h. (let a = some_times es (λ x k. paths x (there k)) e.index h in let b = one_here p e.index e (paths e here) refl in
        let c = once e.index in omega (arith, a, b, c)),
    no_twice es (λ x k. paths x (there k)) (λ i. let c = once i in omega (arith, c)),
  )

all_can : (P : ℕ → Type 0) (es : List IndexRun) → ((e : IndexRun) → In e es → P e.index) → AllOf P (map index_number es)
all_can P [] h = tt
all_can P (e ∷ es) h = (h e here, all_can P es (λ x i. h x (there i)))

module _ (j : Setup) (lies : Lies) (s : State Slots View) (f : Facts j lies s) (id : ℕ) (v : View) (at : get_elem? s.views id ≡ some v)
    (live : 0 < v.parts) where
  abbrev l : Layout
  l = layout_of j

  pub own_hands : Handles j.workers lies f.looped.owner (loop_words l s.words) (hands_of s.views) id (hand_of v)
  own_hands = f.looped.handles id (hand_of v) (hand_there j lies s f id v at live)

  -- nothing is left of a loop that has begun: the seat knows that
  pub none_left_it : (p : Path) (t : Lie) → lies p ≡ some t → is_early t.stage ≡ false → t.unretired ≡ 0
      → Facts j lies record { words = s.words; homes = s.homes; views = set s.views id (finds_none_left v p) }
  none_left_it p t is late none_left = hands_learned j lies s f id v at live (finds_none_left v p).loops refl
      (looped_at j lies s f id v at live lies s.words (finds_none_left v p) (loop_words l s.words) refl
      (found_none_left j.workers lies (loop_words l s.words) (hands_of s.views) f.looped id (hand_of v) (hand_there j lies s f id v at live) p t is late none_left))

  -- INDEXES ARE RETIRED

  module _ (m : Spot) (done rest : List IndexRun) (first : v.loops.taken ≡ done ++ rest) (same : (e : IndexRun) → In e done → e.spot ≡ m)
      (over : (e : IndexRun) → In e done → (fault : Option Fault) × (left (machine_of j.program) (index_task j e) ≡ Stop fault))
      (some_done : 1 ≤ length done) (accepted : IsAccepted j.program) where
    abbrev p : Path
    p = m.path

    abbrev pub e0 : IndexRun
    e0 = (some_of done some_done).0

    pub in_hand : (e : IndexRun) → In e done → In e v.loops.taken
    in_hand e i = subst (In e) (sym first) (in_left done rest e i)

    theirs : (e : IndexRun) → In e done → e.spot.path ≡ p
    theirs e i = ap (λ (x : Spot). x.path) (same e i)

    pub says : (e : IndexRun) → In e done → IsIndex lies Running e
    says e i = own_hands.taken e (in_hand e i)

    abbrev pub t : Lie
    t = (says e0 (some_of done some_done).1).task

    pub there_is : lies p ≡ some t
    there_is = ap lies (sym (theirs e0 (some_of done some_done).1)) ∙ (says e0 (some_of done some_done).1).is

    pub lies_there : t.berth ≡ m.berth
    lies_there = (says e0 (some_of done some_done).1).berth ∙ ap (λ (x : Spot). x.berth) (same e0 (some_of done some_done).1)

    task_is : (e : IndexRun) (i : In e done) → (says e i).task ≡ t
    task_is e i = some-injective (says e i).task t (sym (says e i).is ∙ (ap lies (theirs e i) ∙ there_is))

    index_there : (e : IndexRun) (i : In e done) → get_elem? t.indexes e.index ≡ some (says e i).index
    index_there e i = ap (λ (z : Lie). get_elem? z.indexes e.index) (sym (task_is e i)) ∙ (says e i).at

    running_not : {x : Phase} → x ≡ Running → x ≢ Finished
    running_not e d = let z : Running ≡ Finished = sym e ∙ d in cc

    pub on : (k : ℕ) × (t.stage ≡ Loops k)
    on = let i = (some_of done some_done).1 in loops_on j lies s f p t there_is e0.index (says e0 i).index (index_there e0 i) (running_not (says e0 i).phase_is)

    bare : (i : ℕ) → lies (child p i) ≡ none
    bare i = go (lies (child p i)) refl
      where
        go : (z : o.Option Lie) → lies (child p i) ≡ z → z ≡ none
        go none e = refl
        go (some y) e = absurd (some-ne-none (says e0 (some_of done some_done).1).index
            (sym (index_there e0 (some_of done some_done).1) ∙ ap (λ (xs : List IndexLie). get_elem? xs e0.index) (f.looped.childless p i t y there_is e)))

    abbrev pub u : Lie
    u = record t { indexes = end_indexes done t.indexes; unretired = t.unretired - length done }

    abbrev pub lies' : Lies
    lies' = put lies p (some u)

    abbrev pub ws' : List ℕ
    ws' = set s.words (place l (record_word t.berth.at 4)) u.unretired

    abbrev w : View
    w = retires_some v done rest

    in_table : t.berth.at < RECORDS * j.workers
    in_table = f.words.inside p t there_is

    -- the fetch does not go below 0
    pub many : length done ≤ t.unretired
    many = enough j.workers lies (loop_words l s.words) (hands_of s.views) f.looped id (hand_of v) (hand_there j lies s f id v at live) p t there_is done rest
        first some_done theirs

    -- what its record counts
    pub counts : word_at l s.words (record_word t.berth.at 4) ≡ t.unretired
    counts = says_field l lies s.words f.words p t there_is (ap is_gone on.1) 4 t.unretired (omega arith) refl

    pub most : t.unretired ≤ LENGTH
    most = let a = f.looped.left p t there_is in let b = length_few j lies s f p t there_is in omega (arith, a, b)

    can : (e : IndexRun) → In e done → CanEnd j p t t.indexes e.index
    can e i = (
      (says e i).index,
      index_there e i,
      (says e i).phase_is,
      ((over e i).0, ap (left (machine_of j.program)) same_index ∙ (over e i).1),
    )
      where
        same_index : index_of j p t.berth.call e.index (some (says e i).index) ≡ index_task j e
        same_index = λ k. record {
          call = record {
            path = map suc (sym (theirs e i) k);
            job = Index ((ap (λ (z : Lie). z.berth) (sym (task_is e i)) ∙ (says e i).berth) k).call e.index;
          };
          phase = (says e i).phase_is k;
          answers = (says e i).answers k;
          done = (says e i).count k;
        }

    once : (i : ℕ) → index_times p i done ≤ 1
    once i = let a = own_once j.workers lies (loop_words l s.words) (hands_of s.views) f.looped id (hand_of v) (hand_there j lies s f id v at live) p i in
        let b : index_times p i v.loops.taken ≡ index_times p i (done ++ rest) = ap (index_times p i) first in
        let c : index_times p i (done ++ rest) ≡ index_times p i done + index_times p i rest = weigh_append _ done rest in omega (arith, a, b, c)

    same_as_task : SameTask t u
    same_as_task = record { berth = refl; phase = refl; answers = refl; count = refl }

    -- each of them ends, and is finished
    pub core_goes : Retired j p f.laws (elements l s.words) (map index_number done) lies lies'
    core_goes = retires j p f.laws (elements l s.words) programs.plain accepted (map index_number done) lies f.core t there_is bare
        (no_twice p done theirs once) (all_can (CanEnd j p t t.indexes) done can) u
        same_as_task (ends_by_number done t.indexes)

    core_now : Cored j lies' (elements l s.words)
    core_now = core_goes.core

    pub same_elements : elements l ws' ≡ elements l s.words
    same_elements = shelf.elements_else l s.words (record_word t.berth.at 4) u.unretired (in_table, omega arith) tt

    pub retires_lie : Facts j lies' record { words = ws'; homes = s.homes; views = set s.views id w }
    retires_lie = book_turned j lies s p t u ws' id v w.loops f at live (record {
      turn = turn_left l lies s.words p t u f.words there_is on.0 true true on.1 on.1 refl refl;
      stage = refl;
      answers = refl;
      count = refl;
      long = end_long done t.indexes;
      core = subst (Cored j lies') (sym same_elements) core_now;
      looped = looped_at j lies s f id v at live lies' ws' w (loop_words l s.words) (record_set l s.words t.berth.at 4 u.unretired (in_table, omega arith))
          (retired_looped j.workers lies (loop_words l s.words) (hands_of s.views) f.looped id (hand_of v) (hand_there j lies s f id v at live) p t there_is
          done rest first some_done theirs);
      pending = refl;
      positions = shelf.else l s.words (record_word t.berth.at 4) positions_at u.unretired (in_table, omega arith) tt (λ d. cc);
    })

-- and where none are left after them, the seat knows that
module _ (j : Setup) (lies : Lies) (s : State Slots View) (f : Facts j lies s) (id : ℕ) (v : View) (at : get_elem? s.views id ≡ some v)
    (live : 0 < v.parts) (m : Spot) (done rest : List IndexRun) (first : v.loops.taken ≡ done ++ rest) (same : (e : IndexRun) → In e done → e.spot ≡ m)
    (over : (e : IndexRun) → In e done → (fault : Option Fault) × (left (machine_of j.program) (index_task j e) ≡ Stop fault))
    (some_done : 1 ≤ length done) (accepted : IsAccepted j.program) where
  abbrev t1 : Lie
  t1 = t j lies s f id v at live m done rest first same over some_done accepted

  pub last_lie : t1.unretired ≡ length done → Facts j (lies' j lies s f id v at live m done rest first same over some_done accepted) record {
    words = ws' j lies s f id v at live m done rest first same over some_done accepted;
    homes = s.homes;
    views = set s.views id (finds_none_left (retires_some v done rest) m.path);
  }
  last_lie all = let w1 : View = retires_some v done rest in
      let g = retires_lie j lies s f id v at live m done rest first same over some_done accepted in
      subst (λ (vs : List View). Facts j (lies' j lies s f id v at live m done rest first same over some_done accepted) record {
        words = ws' j lies s f id v at live m done rest first same over some_done accepted;
        homes = s.homes;
        views = vs;
      }) (set_set s.views id w1 (finds_none_left w1 m.path))
      (none_left_it j (lies' j lies s f id v at live m done rest first same over some_done accepted) _ g id w1 (at_set_here s.views id v w1 at) live m.path
      (u j lies s f id v at live m done rest first same over some_done accepted)
      (put_here lies m.path (some (u j lies s f id v at live m done rest first same over some_done accepted)))
      (ap is_early (on j lies s f id v at live m done rest first same over some_done accepted).1) (let a = all in omega (arith, a)))

-- what is left of the running loop
pub record Left (j : Setup) (lies : Lies) (s : State Slots View) (e : Execution) : Type 0 where
  pub task : Lie
  pub is : lies e.spot.path ≡ some task
  pub late : is_early task.stage ≡ false
  pub counts : word_at (layout_of j) s.words (record_word e.spot.berth.at 4) ≡ task.unretired
  pub most : task.unretired ≤ LENGTH

pub left_there : (j : Setup) (lies : Lies) (s : State Slots View) → Facts j lies s → (id : ℕ) (v : View) → get_elem? s.views id ≡ some v
    → (e : Execution) (rest : List Execution) → v.tasks.running ≡ e ∷ rest → e.looping ≡ true → Left j lies s e
left_there j lies s f id v at e rest runs looping =
    let h = (f.fits id v at).running e (at_head v e rest runs) in
    let stage : h.0.stage ≡ Loops h.3.0 = h.3.1 ∙ ap (λ b. runs_as b h.3.0) looping in
    let a = f.looped.left e.spot.path h.0 h.1 in let b = length_few j lies s f e.spot.path h.0 h.1 in record {
      task = h.0;
      is = h.1;
      late = ap is_early stage;
      counts = ap (λ (z : Berth). word_at (layout_of j) s.words (record_word z.at 4)) (sym h.2.berth)
          ∙ says_field (layout_of j) lies s.words f.words e.spot.path h.0 h.1 (ap is_gone stage) 4 h.0.unretired (omega arith) refl;
      most = omega (arith, a, b);
    }
