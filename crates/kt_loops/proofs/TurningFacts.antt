-- A step of a live seat by which one running task changes as a loop, with what the seat has in hand of loops: the rule again.
use Rattle.std.proofs.Common.{◌≡◌, ◌≢◌, ℕ, ◌+◌, ◌<◌, ◌≤◌, ◌⊎◌, Bool, true, false, List, [], length, map, set, sym, refl, ap, ◌∙◌, subst, inl, inr, arith, length-set}
use mathlib.Core.Option.{some, some-injective}
use lib.ListN.{get_elem?}
use Rattle.atomic_table.specs.Table.{State}
use Rattle.kt_order.specs.Forest.{Task, Finished}
use Rattle.kt_order.specs.Rest.{left}
use Rattle.kt_prog.specs.Reference.{machine_of}
use Rattle.kt_runs.specs.ByPath.{Path}
use Rattle.kt_words.specs.declared.layouts.Layout.{Layout}
use Rattle.kt_rule.specs.declared.views.Setup.{Setup}
use Rattle.kt_rule.specs.declared.views.Share.{Share}
use Rattle.kt_rule.specs.declared.views.Execution.{Execution}
use Rattle.kt_rule.specs.declared.views.Promise.{Promise}
use Rattle.kt_rule.specs.declared.views.Desk.{Desk}
use Rattle.kt_rule.specs.declared.views.LoopHands.{LoopHands}
use Rattle.kt_rule.specs.declared.views.View.{View}
use Rattle.kt_rule.specs.Paths.{put}
use Rattle.kt_rule.specs.Lists.{weigh, times, In}
use Rattle.kt_rule.specs.Weights.{next_weight, forks_ahead, is_task, is_index}
use Rattle.kt_rule.specs.Lies.{Stage, Promised, Posted, Given, Lie, Lies, Cored, phase_of, is_gone, task_of, forks_of}
use Rattle.kt_rule.specs.Records.{layout_of, word_at, elements, drawn_at, positions_at, stop_at}
use Rattle.kt_rule.specs.Views.{path_of, mine_in, claimed_in, promised_in, given_in, begun_in, executions, indexes_of, share_long}
use Rattle.kt_rule.specs.Facts.{is_there, is_claimed, is_promised, is_given, is_begun, tally, Agrees, runs_as, IsUnderWay, IsOver, IsGiven, Owns, Fits, waiting, waiting_indexes, Positions, Stopped}
use Rattle.kt_rule.specs.Requests.{IsPromised, Desked, Asked}
use Rattle.kt_rule.specs.LoopWords.{loop_words, hands_of}
use Rattle.kt_rule.specs.LoopFacts.{Looped}
use Rattle.kt_rule.specs.Rule.{Slots, Facts}
use Rattle.kt_rule.proofs.Puts.{put_else, put_cases}
use Rattle.kt_rule.proofs.Sums.{tally_step}
use Rattle.kt_rule.proofs.Words.{berth_keeps, known_keeps, note_keeps}
use Rattle.kt_rule.proofs.Moves.{at_below, each_view, drawn_keeps, positions_keeps, SamePosted, posted_put, assemble}
use Rattle.kt_loops.proofs.Turning.{DesksStay, LoopTurn, turn_back, turn_keeps, turn_words, turn_owns}

-- REQUESTS, where their words and the tasks that are posted stay

pub desked_apart : (l : Layout) (ws ws' : List ℕ) → DesksStay l ws ws' → (seat : ℕ) → seat < l.workers → (d : Desk) → Desked l ws seat d
    → Desked l ws' seat d
desked_apart l ws ws' own seat less d h = record {
  free = λ e. own.posts seat less ∙ h.free e;
  busy = λ e. let a = own.posts seat less in let b = h.busy e in omega (arith, a, b);
  asked = λ y e p. h.asked y e (sym (own.posts seat less) ∙ p);
  lead = λ e. let a = h.lead e in (a.0, own.requests d.victim a.0 ∙ a.1);
  held = λ k i. let a = h.held k i in (a.0, a.1, own.posts k a.0 ∙ a.2);
  saw = λ e. let a = h.saw e in (a.0, a.1, a.2, own.posts seat less ∙ a.3);
  wrote = λ e i. let a = h.wrote e i in (a.0, own.answers e.thief (h.held e.thief a.0).0 ∙ a.1);
  got = λ e. let a = h.got e in (a.0, own.answers seat less ∙ a.1);
}

module _ (l : Layout) (lies lies' : Lies) (ws ws' : List ℕ) (views : List View) (id : ℕ) (v w : View) (a : Asked l lies ws views)
    (few : length views ≤ l.workers) (at : get_elem? views id ≡ some v)
    (parts : w.parts ≡ v.parts) (desk : w.desk ≡ v.desk) (own_words : DesksStay l ws ws') (posted : SamePosted lies lies') where
  seat_in : (k : ℕ) (x : View) → get_elem? views k ≡ some x → k < l.workers
  seat_in k x e = let b = at_below views k x e in omega (arith, b, few)

  pub asked_apart : ((q : Path) → promised_in w q + tally is_promised (lies q) ≡ promised_in v q + tally is_promised (lies' q))
      → ((m : Promise) → In m w.tasks.promised → IsPromised lies' m)
      → ((k : ℕ) (x : View) → k ≢ id → get_elem? views k ≡ some x → (m : Promise) → In m x.tasks.promised → IsPromised lies' m)
      → Asked l lies' ws' (set views id w)
  asked_apart promised own others = record {
    posts = λ k less. let h = a.posts k less in (h.0, h.1, own_words.posts k less ∙ h.2);
    leads = λ k less. let h = a.leads k less in let e = own_words.requests k less in omega (arith, h, e);
    tasks = λ k r less e. let h = a.tasks k r less (sym (own_words.posts k less) ∙ e) in
        (h.0, h.1, posted.forth h.0 h.1 k h.2 h.4, h.3, h.4);
    posted = λ p t k e o. let h = a.posted p t k (posted.back p t k e o) o in (h.0, own_words.posts k h.0 ∙ h.1);
    promised = tally_step promised_in is_promised lies views id v a.promised at w lies' promised;
    promises = each_view (λ k x. (m : Promise) → In m x.tasks.promised → IsPromised lies' m) views id w own others;
    desks = each_view (λ k x. 0 < x.parts → Desked l ws' k x.desk) views id w
        (λ live. subst (Desked l ws' id) (sym desk) (desked_apart l ws ws' own_words id (seat_in id v at) v.desk
        (a.desks id v at (omega (arith, live, parts)))))
        (λ k x n e live. desked_apart l ws ws' own_words k (seat_in k x e) x.desk (a.desks k x e live));
    unasked = λ k from less. let n = length-set views id w in own_words.posts k less ∙ a.unasked k (omega (arith, n, from)) less;
  }

pub stopped_rises : (l : Layout) (ws ws' : List ℕ) → word_at l ws' stop_at ≡ word_at l ws stop_at → word_at l ws' drawn_at ≡ word_at l ws drawn_at
    → word_at l ws positions_at ≤ word_at l ws' positions_at → Stopped l ws → Stopped l ws'
stopped_rises l ws ws' stop drawn rises s = record {
  word = elim s.word [
    | inl z ↦ inl (stop ∙ z)
    | inr h ↦ inr (
      stop ∙ h.0,
      elim h.1 [
        | inl tasks ↦ inl (omega (arith, drawn, tasks))
        | inr positions ↦ inr (omega (arith, rises, positions))
      ],
    )
  ];
}

-- ONE RUNNING TASK CHANGES AS A LOOP

abbrev pub with_loop : View → List Execution → LoopHands → View
with_loop v running hands = record v { tasks = record v.tasks { running = running }; loops = hands }

-- what such a step of the seat `id` owes
pub record LoopTurned (j : Setup) (lies : Lies) (s : State Slots View) (p : Path) (t u : Lie) (ws' : List ℕ) (id : ℕ) (v : View)
    (running : List Execution) (hands : LoopHands) : Type 0 where
  pub turn : LoopTurn (layout_of j) lies s.words p t u ws'
  pub core : Cored j (put lies p (some u)) (elements (layout_of j) ws')
  pub looped : Looped j.workers (put lies p (some u)) (loop_words (layout_of j) ws') (hands_of (set s.views id (with_loop v running hands)))
  pub positions : Positions j (put lies p (some u)) ws' (set s.views id (with_loop v running hands))
  pub waits : waiting j p (some t) ≤ waiting j p (some u)
  -- the same tasks run
  pub begun : (q : Path) → times q (map path_of running) ≡ times q (map path_of v.tasks.running)
  pub long : length running ≡ length v.tasks.running
  pub owns : Owns (layout_of j) (put lies p (some u)) ws' id v.region v.tasks.running v.tasks.begun
      → Owns (layout_of j) (put lies p (some u)) ws' id v.region running v.tasks.begun
  pub runs : (e : Execution) → In e running → IsUnderWay j (put lies p (some u)) e
  pub halted : (e : Execution) → In e v.tasks.halted → IsUnderWay j (put lies p (some u)) e
  pub theirs : (k : ℕ) (x : View) → k ≢ id → get_elem? s.views k ≡ some x → (e : Execution) → In e x.tasks.running ⊎ In e x.tasks.halted
      → IsUnderWay j (put lies p (some u)) e

runs_tally : (f : Stage → ℕ) → ((k : ℕ) → f (runs_as true k) ≡ f (runs_as false k)) → (a b : Bool) (k : ℕ) → f (runs_as a k) ≡ f (runs_as b k)
runs_tally f same false false k = refl
runs_tally f same false true k = sym (same k)
runs_tally f same true false k = same k
runs_tally f same true true k = refl

not_finished : (b : Bool) (k : ℕ) → phase_of (runs_as b k) ≡ Finished → ⊥
not_finished false k e = cc
not_finished true k e = cc

not_given : (b : Bool) (k n : ℕ) → runs_as b k ≢ Given n
not_given false k n e = cc
not_given true k n e = cc

not_promised : (b : Bool) (k n : ℕ) → runs_as b k ≢ Promised n
not_promised false k n e = cc
not_promised true k n e = cc

not_posted : (b : Bool) (k n : ℕ) → runs_as b k ≢ Posted n
not_posted false k n e = cc
not_posted true k n e = cc

module _ (j : Setup) (lies : Lies) (s : State Slots View) (p : Path) (t u : Lie) (ws' : List ℕ) (id : ℕ) (v : View)
    (running : List Execution) (hands : LoopHands) (f : Facts j lies s) (at : get_elem? s.views id ≡ some v) (some_part : 0 < v.parts)
    (o : LoopTurned j lies s p t u ws' id v running hands) where
  abbrev l : Layout
  l = layout_of j

  abbrev w : View
  w = with_loop v running hands

  abbrev lies' : Lies
  lies' = put lies p (some u)

  abbrev it : LoopTurn (layout_of j) lies s.words p t u ws'
  it = o.turn

  seat_of : (k : ℕ) (x : View) → get_elem? s.views k ≡ some x → k < j.workers
  seat_of k x e = let a = at_below s.views k x e in let b = f.counts.few in omega (arith, a, b)

  -- a list of paths stays where the stages of the two count alike
  counts_same : (g : Stage → ℕ) → ((k : ℕ) → g (runs_as true k) ≡ g (runs_as false k)) → (q : Path) → tally g (lies q) ≡ tally g (lies' q)
  counts_same g same q = elim (put_cases lies p (some u) q) [
    | inl h ↦ ap (tally g) (ap lies (sym h.0) ∙ it.is) ∙ (ap g it.runs ∙ (runs_tally g same it.was it.now it.runner ∙ (ap g (sym it.runs_still)
        ∙ ap (tally g) (sym h.1))))
    | inr h ↦ ap (tally g) (sym h.1)
  ]

  -- another task, by its stage
  other_stays : (q : Path) (x : Lie) → lies q ≡ some x → ((b : Bool) (k : ℕ) → x.stage ≡ runs_as b k → ⊥) → lies' q ≡ some x
  other_stays q x e not_so = put_else lies p (some u) q (λ d. not_so it.was it.runner
      (ap (λ (z : Lie). z.stage) (some-injective x t (sym e ∙ (ap lies (sym d) ∙ it.is))) ∙ it.runs)) ∙ e

  promise_stays : (m : Promise) → IsPromised lies m → IsPromised lies' m
  promise_stays m h = (h.0, other_stays m.spot.path h.0 h.1 (λ b k e. not_promised b k m.thief (sym e ∙ h.3)), h.2, h.3)

  over_stays : (e : Execution) → IsOver j lies e → IsOver j lies' e
  over_stays e h = (h.0, other_stays e.spot.path h.0 h.1 (λ b k d. not_finished b k (ap phase_of (sym d) ∙ h.3)), h.2, h.3)

  given_stays : (m : _) → IsGiven lies m → IsGiven lies' m
  given_stays m h = (h.0, other_stays m.path h.0 h.1 (λ b k e. not_given b k h.3.0 (sym e ∙ h.3.1)), h.2, h.3)

  -- what a seat knows but for the tasks that it runs
  fits_turn : (k : ℕ) (x : View) → k < j.workers → Fits j lies s.words k x
      → ((e : Execution) → In e x.tasks.running → IsUnderWay j lies' e) → ((e : Execution) → In e x.tasks.halted → IsUnderWay j lies' e)
      → Fits j lies' ws' k x
  fits_turn k x less h runs_so halted_so = let keeps = turn_keeps l lies s.words p t u ws' it f.words in record {
    setup = h.setup;
    own = h.own;
    owns = λ live. turn_owns l lies s.words p t u ws' it f.words k x.region x.tasks.running x.tasks.begun less (h.owns live);
    running = runs_so;
    halted = halted_so;
    ran = λ e i. over_stays e (h.ran e i);
    begun = h.begun;
    mine = λ m i. berth_keeps l lies s.words lies' ws' keeps m.path m.berth (h.mine m i);
    given = λ m i. given_stays m (h.given m i);
    known = λ q i. known_keeps l lies s.words lies' ws' keeps q (h.known q i);
    notes = λ n i. note_keeps l lies s.words lies' ws' keeps n (h.notes n i);
    stop = λ e. it.stop ∙ h.stop e;
    line = λ m i. berth_keeps l lies s.words lies' ws' keeps m.path m.berth (h.line m i);
  }

  begun_same : (q : Path) → begun_in w q ≡ begun_in v q
  begun_same q = let a = o.begun q in omega (arith, a)

  own_fits : Fits j lies' ws' id w
  own_fits = let fit = f.fits id v at in let keeps = turn_keeps l lies s.words p t u ws' it f.words in record {
    setup = fit.setup;
    own = fit.own;
    owns = λ live. o.owns (turn_owns l lies s.words p t u ws' it f.words id v.region v.tasks.running v.tasks.begun (seat_of id v at) (fit.owns live));
    running = o.runs;
    halted = o.halted;
    ran = λ e i. over_stays e (fit.ran e i);
    begun = let a = fit.begun in let b = o.long in omega (arith, a, b);
    mine = λ m i. berth_keeps l lies s.words lies' ws' keeps m.path m.berth (fit.mine m i);
    given = λ m i. given_stays m (fit.given m i);
    known = λ q i. known_keeps l lies s.words lies' ws' keeps q (fit.known q i);
    notes = λ n i. note_keeps l lies s.words lies' ws' keeps n (fit.notes n i);
    stop = λ e. it.stop ∙ fit.stop e;
    line = λ m i. berth_keeps l lies s.words lies' ws' keeps m.path m.berth (fit.line m i);
  }

  posted_same : SamePosted lies lies'
  posted_same = posted_put lies p t u it.is (λ k e. not_posted it.was it.runner k (sym it.runs ∙ e))
      (λ k e. not_posted it.now it.runner k (sym it.runs_still ∙ e))

  waiting_stays : (q : Path) → waiting j q (lies q) ≤ waiting j q (lies' q)
  waiting_stays q = elim (put_cases lies p (some u) q) [
    | inl h ↦ (let a : waiting j q (lies q) ≡ waiting j p (some t) = (λ i. waiting j (sym h.0 i) (lies (sym h.0 i))) ∙ ap (waiting j p) it.is in
        let b : waiting j q (lies' q) ≡ waiting j p (some u) = ap (waiting j q) h.1 ∙ ap (λ (z : Path). waiting j z (some u)) (sym h.0) in
        let c = o.waits in omega (arith, a, b, c))
    | inr h ↦ (let b : waiting j q (lies' q) ≡ waiting j q (lies q) = ap (waiting j q) h.1 in omega (arith, b))
  ]

  pub loop_turned : Facts j lies' record { words = ws'; homes = s.homes; views = set s.views id w }
  loop_turned = assemble j lies lies' s ws' id v w f at some_part (record {
    parts = refl;
    made = refl;
    keeps = turn_keeps l lies s.words p t u ws' it f.words;
    root = λ y e. let x = turn_back l lies s.words p t u ws' it f.words [] y e in x.gone ∙
        (ap (λ (z : Lie). is_gone z.stage) (some-injective x.x f.root.0 (sym x.is ∙ f.root.1)) ∙ f.root.3);
    core = o.core;
    words = turn_words l lies s.words p t u ws' it f.words;
    mine = λ q. ap (λ n. mine_in v q + n) (counts_same is_there (λ k. refl) q);
    claimed = λ q. ap (λ n. claimed_in v q + n) (counts_same is_claimed (λ k. refl) q);
    given = λ q. ap (λ n. given_in v q + n) (counts_same is_given (λ k. refl) q);
    begun = λ q. let a = begun_same q in let b = counts_same is_begun (λ k. refl) q in omega (arith, a, b);
    asked = asked_apart l lies lies' s.words ws' s.views id v w f.asked f.counts.few at refl refl it.desks posted_same
        (λ q. ap (λ n. promised_in v q + n) (counts_same is_promised (λ k. refl) q))
        (λ m i. promise_stays m (f.asked.promises id v at m i)) (λ k x n e m i. promise_stays m (f.asked.promises k x e m i));
    drawn = drawn_keeps j lies lies' s.words ws' s.views id v w f.drawn at refl refl refl
        (λ q h. let a = begun_same q in omega (arith, a, h)) it.drawn waiting_stays;
    positions = o.positions;
    stopped = stopped_rises l s.words ws' it.stop it.drawn it.rises f.stopped;
    looped = o.looped;
    fits = own_fits;
    others = λ k x n e. fits_turn k x (seat_of k x e) (f.fits k x e) (λ y i. o.theirs k x n e y (inl i)) (λ y i. o.theirs k x n e y (inr i));
    unmade = λ a from less z. it.states a less ∙ z;
  })

-- ITS BOOK ALONE CHANGES: the task is the same for whoever runs it

pub record BookTurned (j : Setup) (lies : Lies) (s : State Slots View) (p : Path) (t u : Lie) (ws' : List ℕ) (id : ℕ) (v : View)
    (hands : LoopHands) : Type 0 where
  pub turn : LoopTurn (layout_of j) lies s.words p t u ws'
  pub stage : u.stage ≡ t.stage
  pub answers : u.answers ≡ t.answers
  pub count : u.count ≡ t.count
  pub long : length u.indexes ≡ length t.indexes
  pub core : Cored j (put lies p (some u)) (elements (layout_of j) ws')
  pub looped : Looped j.workers (put lies p (some u)) (loop_words (layout_of j) ws') (hands_of (set s.views id (record v { loops = hands })))
  pub pending : hands.pending ≡ v.loops.pending
  pub positions : word_at (layout_of j) ws' positions_at ≡ word_at (layout_of j) s.words positions_at

module _ (j : Setup) (lies : Lies) (s : State Slots View) (p : Path) (t u : Lie) (ws' : List ℕ) (id : ℕ) (v : View)
    (hands : LoopHands) (f : Facts j lies s) (at : get_elem? s.views id ≡ some v) (some_part : 0 < v.parts)
    (o : BookTurned j lies s p t u ws' id v hands) where
  same_task : (q : Path) → task_of j q u ≡ task_of j q t
  same_task q = λ i. task_of j q (record t { berth = o.turn.berth i; stage = o.stage i; answers = o.answers i; count = o.count i })

  agrees_still : (e : Execution) → Agrees j e t → Agrees j e u
  agrees_still e a = record {
    berth = o.turn.berth ∙ a.berth;
    answers = o.answers ∙ a.answers;
    count = o.count ∙ a.count;
    indexes = o.long ∙ a.indexes;
    forks = ap (forks_of j) (same_task e.spot.path) ∙ a.forks;
  }

  under_way : (e : Execution) → IsUnderWay j lies e → IsUnderWay j (put lies p (some u)) e
  under_way e h = elim (put_cases lies p (some u) e.spot.path) [
    | inl g ↦ (let x_is : h.0 ≡ t = some-injective h.0 t (sym h.1 ∙ (ap lies (sym g.0) ∙ o.turn.is)) in (
      u,
      g.1,
      agrees_still e (subst (Agrees j e) x_is h.2),
      (h.3.0, o.stage ∙ (ap (λ (z : Lie). z.stage) (sym x_is) ∙ h.3.1)),
    ))
    | inr g ↦ (h.0, g.1 ∙ h.1, h.2, h.3)
  ]

  waits_still : (q : Path) → waiting_indexes j q (lies q) ≤ waiting_indexes j q (put lies p (some u) q)
  waits_still q = elim (put_cases lies p (some u) q) [
    | inl h ↦ (let a : waiting_indexes j q (lies q) ≡ waiting_indexes j q (some t) = ap (waiting_indexes j q) (ap lies (sym h.0) ∙ o.turn.is) in
        let b : waiting_indexes j q (put lies p (some u) q) ≡ waiting_indexes j q (some u) = ap (waiting_indexes j q) h.1 in
        let c : waiting_indexes j q (some u) ≡ waiting_indexes j q (some t) = ap (λ (z : Task (machine_of j.program)). forks_ahead (machine_of j.program) is_index (left (machine_of j.program) z)) (same_task q) in
        omega (arith, a, b, c))
    | inr h ↦ (let b : waiting_indexes j q (put lies p (some u) q) ≡ waiting_indexes j q (lies q) = ap (waiting_indexes j q) h.1 in omega (arith, b))
  ]

  pub book_turned : Facts j (put lies p (some u)) record { words = ws'; homes = s.homes; views = set s.views id (record v { loops = hands }) }
  book_turned = loop_turned j lies s p t u ws' id v v.tasks.running hands f at some_part (record {
    turn = o.turn;
    core = o.core;
    looped = o.looped;
    positions = positions_keeps j lies (put lies p (some u)) s.words ws' s.views id v (record v { loops = hands }) f.positions at
        (ap (λ (xs : List Share). weigh indexes_of (executions v) + weigh share_long xs) o.pending) o.pending (λ q h. h) o.positions waits_still;
    waits = let c : waiting j p (some u) ≡ waiting j p (some t) = ap (λ (z : Task (machine_of j.program)). next_weight (machine_of j.program) is_task (left (machine_of j.program) z)) (same_task p) in omega (arith, c);
    begun = λ q. refl;
    long = refl;
    owns = λ h. h;
    runs = λ e i. under_way e ((f.fits id v at).running e i);
    halted = λ e i. under_way e ((f.fits id v at).halted e i);
    theirs = λ k x n e y i. elim i [
      | inl g ↦ under_way y ((f.fits k x e).running y g)
      | inr g ↦ under_way y ((f.fits k x e).halted y g)
    ];
  })
