-- A loop begins: its worker stores all its positions in the own interval.
use Rattle.std.proofs.Common.{◌≡◌, ◌≢◌, ℕ, zero, suc, ◌+◌, ◌<◌, ◌⊎◌, true, false, cond, List, [], ◌∷◌, ◌++◌, map, set, length, replicate, sym, refl, ap, ◌∙◌, subst, inl, inr, arith, None, ⊎_elim}
use mathlib.Core.Option.{none, some, some-ne-none}
use lib.ListN.{get_elem?}
use Rattle.atomic_table.specs.Table.{State}
use Rattle.kt_order.specs.Books.{one_piece}
use Rattle.kt_order.specs.Rest.{left}
use Rattle.kt_order.specs.Loops.{forks_then}
use Rattle.kt_order.specs.Paths.{HasRoom}
use Rattle.kt_prog.specs.Operations.{is_loop_at}
use Rattle.kt_prog.specs.Reference.{machine_of}
use Rattle.kt_runs.specs.ByPath.{Path, child, levels}
use Rattle.kt_runs.specs.Loops.{index_calls}
use Rattle.kt_words.specs.Places.{place, worker_word, interval}
use Rattle.kt_words.specs.Words.{packed_pair, IsPair}
use Rattle.kt_words.specs.declared.layouts.Layout.{Layout}
use Rattle.kt_words.specs.declared.pairs.Pair.{Pair}
use Rattle.kt_rule.specs.declared.views.Setup.{Setup}
use Rattle.kt_rule.specs.declared.views.Berth.{Berth}
use Rattle.kt_rule.specs.declared.views.Share.{Share}
use Rattle.kt_rule.specs.declared.views.Execution.{Execution}
use Rattle.kt_rule.specs.declared.views.View.{View}
use Rattle.kt_rule.specs.Paths.{put}
use Rattle.kt_rule.specs.Lists.{weigh, times, In}
use Rattle.kt_rule.specs.Weights.{next_weight, is_task}
use Rattle.kt_rule.specs.Lies.{Runs, Loops, Lie, Lies, phase_of, is_gone, task_of, Cored}
use Rattle.kt_rule.specs.Records.{layout_of, word_at, elements, positions_at}
use Rattle.kt_rule.specs.Views.{path_of, begun_in, indexes_of, share_long, positions_in, pending_in}
use Rattle.kt_rule.specs.Facts.{Agrees, IsUnderWay, Owns, task_in, waiting, waiting_indexes, Positions}
use Rattle.kt_rule.specs.LoopWords.{loop_words, hand_of, hands_of}
use Rattle.kt_rule.specs.LoopFacts.{Looped}
use Rattle.kt_rule.specs.Rule.{Slots, Facts}
use Rattle.kt_rule.proofs.Puts.{put_here, put_cases}
use Rattle.kt_rule.proofs.Shelf as shelf
use Rattle.kt_rule.proofs.Sums.{weigh_set, in_cons, not_among}
use Rattle.kt_rule.proofs.Moves.{each_view}
use Rattle.kt_steps.proofs.LoopSeats.{at_hand}
use Rattle.kt_steps.proofs.Steps.{head_in, head_agrees, head_runs, head_task, head_alone, owns_same, rest_keeps, halted_keeps, under_way_else}
use Rattle.kt_pieces.specs.Changes.{at_worker, untaken_index}
use Rattle.kt_pieces.proofs.Begins.{begun_looped}
use Rattle.kt_pieces.proofs.LoopCoreBegins.{HasBegun, LoopBegun, begins, begins_forks, nothing_forked}
use Rattle.kt_pieces.proofs.LoopCoreZeroed.{loop_bare}
use Rattle.kt_loops.specs.Hands.{share_from, began, begins_now}
use Rattle.kt_loops.proofs.TurningFacts.{loop_turned}
use Rattle.kt_loops.proofs.TurningHands.{interval_loops}
use Rattle.kt_loops.proofs.TurningWords.{interval_set, turn_at, pair_there}
use Rattle.kt_loops.proofs.LoopCalls.{room_below}
use Rattle.kt_loops.proofs.BeginSteps.{no_task_next, seat_less, hand_there, looped_at, t_is, no_indexes, other_pending, none_there, all_none}

all_long : (n : ℕ) → length (replicate n untaken_index) ≡ n
all_long zero = refl
all_long (suc n) = let a = all_long n in omega (arith, a)

module _ (j : Setup) (lies : Lies) (s : State Slots View) (f : Facts j lies s) (id : ℕ) (v : View) (at : get_elem? s.views id ≡ some v)
    (live : 0 < v.parts) (e : Execution) (rest : List Execution) (runs : v.tasks.running ≡ e ∷ rest) (plain : e.looping ≡ false)
    (first : ℕ) (drawn : v.loops.pending ≡ share_from e.spot first ∷ []) (told : v.loops.placed ≡ true) (free : v.loops.free ≡ true)
    (home_is : v.loops.home ≡ suc e.spot.berth.at) (none_over : v.loops.over ≡ 0)
    (loop : is_loop_at j.program e.spot.berth.call.task ≡ true)
    (ahead : left (machine_of j.program) (task_in j e) ≡ forks_then (machine_of j.program) (index_calls (map suc e.spot.path) e.spot.berth.call 0 e.spot.berth.call.length) None)
    (fits : IsPair (record { low = first; high = first + e.spot.berth.call.length })) where
  abbrev l : Layout
  l = layout_of j

  abbrev q : Path
  q = e.spot.path

  abbrev pub t : Lie
  t = ((f.fits id v at).running e (head_in j lies s f id v at live e rest runs plain)).0

  pub there_is : lies q ≡ some t
  there_is = t_is j lies s f id v at live e rest runs plain

  pub agrees : Agrees j e t
  agrees = head_agrees j lies s f id v at live e rest runs plain

  none_yet : t.indexes ≡ []
  none_yet = no_indexes j lies s f id v at live e rest runs plain

  abbrev pub worker : ℕ
  worker = (head_runs j lies s f id v at live e rest runs plain).0

  pub stage_is : t.stage ≡ Runs worker
  stage_is = (head_runs j lies s f id v at live e rest runs plain).1

  bare : (i : ℕ) → lies (child q i) ≡ none
  bare = loop_bare j f.laws lies (elements l s.words) f.core q t there_is (ap (λ (b : Berth). is_loop_at j.program b.call.task) agrees.berth ∙ loop)

  pub room : HasRoom levels q
  room = room_below j lies s f q t there_is

  abbrev pub long : ℕ
  long = t.berth.call.length

  abbrev pub u : Lie
  u = record t {
    stage = Loops worker;
    indexes = replicate long untaken_index;
    pieces = one_piece long;
    count = t.count + suc long;
  }

  abbrev pub lies' : Lies
  lies' = put lies q (some u)

  abbrev w : View
  w = begins_now v e rest

  abbrev own : Pair
  own = record { low = first; high = first + e.spot.berth.call.length }

  abbrev ws' : List ℕ
  ws' = set s.words (place l (worker_word id interval)) (packed_pair own)

  few : id < j.workers
  few = seat_less j lies s f id v at live

  -- the core
  has_begun : HasBegun t u
  has_begun = record { berth = refl; over = refl; answers = refl; count = refl; indexes = refl }

  next_of_task : left (machine_of j.program) (task_of j q t) ≡ forks_then (machine_of j.program) (index_calls (map suc q) t.berth.call 0 long) None
  next_of_task = ap (left (machine_of j.program)) (head_task j lies s f id v at live e rest runs plain) ∙ (ahead
      ∙ ap (λ (b : Berth). forks_then (machine_of j.program) (index_calls (map suc q) b.call 0 b.call.length) None) (sym agrees.berth))

  -- it forks its indexes one after another, and its body ends
  pub core_goes : LoopBegun j f.laws (elements l s.words) q room (index_calls (map suc q) t.berth.call 0 long) lies lies'
  core_goes = begins j f.laws (elements l s.words) q room lies f.core t there_is bare (ap phase_of stage_is) none_yet next_of_task u has_begun

  core_now : Cored j lies' (elements l s.words)
  core_now = core_goes.core

  pub same_elements : elements l ws' ≡ elements l s.words
  same_elements = shelf.elements_else l s.words (worker_word id interval) (packed_pair own) few tt

  -- the entry says so
  began_agrees : Agrees j (began e) u
  began_agrees = record {
    berth = agrees.berth;
    answers = agrees.answers;
    count = let a = agrees.count in let b = ap (λ (b : Berth). b.call.length) agrees.berth in omega (arith, a, b);
    indexes = all_long long ∙ ap (λ (b : Berth). b.call.length) agrees.berth;
    forks = let a = begins_forks j f.laws (elements l s.words) q room lies f.core t there_is bare u has_begun core_now in
        let b = nothing_forked j f.laws (elements l s.words) q room lies f.core t there_is bare none_yet in
        let c = agrees.forks in let d = ap (λ (b : Berth). b.call.length) agrees.berth in
        let g : indexes_of e ≡ 0 = ap (λ b. cond b e.spot.berth.call.length 0) plain in omega (arith, a, b, c, d, g);
  }

  other_runs : (k : ℕ) (x : View) → k ≢ id → get_elem? s.views k ≡ some x → (y : Execution) → In y x.tasks.running ⊎ In y x.tasks.halted
      → IsUnderWay j lies' y
  other_runs k x ne d y i = let a = (head_alone j lies s f id v at live e rest runs plain k x ne d).0 in elim i [
    | inl g ↦ under_way_else j lies q u y ((f.fits k x d).running y g) (not_among path_of x.tasks.running q (omega (arith, a)) y g)
    | inr g ↦ under_way_else j lies q u y ((f.fits k x d).halted y g) (not_among path_of x.tasks.halted q (omega (arith, a)) y g)
  ]

  -- the loops' facts
  looped_now : Looped j.workers lies' (loop_words l ws') (hands_of (set s.views id w))
  looped_now = looped_at j lies s f id v at live lies' ws' w _ (interval_set l s.words id few f.words.wide (packed_pair own)
      ∙ ap (λ (p : Pair). record (loop_words l s.words) { interval = at_worker (loop_words l s.words).interval id p }) (pair_there own fits))
      (begun_looped j.workers lies (loop_words l s.words) (hands_of s.views) f.looped id (hand_of v) (hand_there j lies s f id v at live) few live
      (share_from e.spot first) q refl t there_is worker stage_is (λ r y y_is y_live same. f.words.alone r q y t y_is there_is y_live
      (ap is_gone stage_is) same) (λ i y y_is. some-ne-none y (sym y_is ∙ bare i)) (other_pending j lies s f id v at live e rest runs plain) free
      (home_is ∙ ap (λ (b : Berth). suc b.at) (sym agrees.berth)) drawn told none_over (t.count + suc long))

  -- the count of positions
  same_positions : word_at l ws' positions_at ≡ word_at l s.words positions_at
  same_positions = shelf.else l s.words (worker_word id interval) positions_at (packed_pair own) few tt (λ d. cc)

  none_pending : weigh (λ (x : View). pending_in x q) (set s.views id w) ≡ 0
  none_pending = all_none q (set s.views id w) (λ k x d. each_view (λ k x. pending_in x q ≡ 0) s.views id w refl
      (λ k x ne d. none_there q x.loops.pending (λ z i. other_pending j lies s f id v at live e rest runs plain k (hand_of x) (at_hand s.views k x d) ne z i))
      k x d)

  positions_now : Positions j lies' ws' (set s.views id w)
  positions_now = record {
    count = let h = weigh_set positions_in s.views id v w at in let k = f.positions.count in let a = same_positions in
        let b = ap (λ (xs : List Share). weigh share_long xs) drawn in
        let c = ap (λ (xs : List Execution). weigh indexes_of (xs ++ (v.tasks.halted ++ v.tasks.ran))) runs in
        let g : indexes_of e ≡ 0 = ap (λ b. cond b e.spot.berth.call.length 0) plain in omega (arith, h, k, a, b, c, g);
    pending = λ p. elim (put_cases lies q (some u) p) [
      | inl h ↦ (let a : weigh (λ (x : View). pending_in x p) (set s.views id w) ≡ 0
          = ap (λ (z : Path). weigh (λ (x : View). pending_in x z) (set s.views id w)) (sym h.0) ∙ none_pending in omega (arith, a))
      | inr h ↦ (let a = weigh_set (λ (x : View). pending_in x p) s.views id v w at in let b = f.positions.pending p in
          let c : waiting_indexes j p (lies' p) ≡ waiting_indexes j p (lies p) = ap (waiting_indexes j p) h.1 in omega (arith, a, b, c))
    ];
    begun = each_view (λ k x. (y : Share) → In y x.loops.pending → 0 < begun_in x y.spot.path) s.views id w (λ y i. elim i [ ])
        (λ k x ne d. f.positions.begun k x d);
  }

  pub begins_it : Facts j lies' record { words = ws'; homes = s.homes; views = set s.views id w }
  begins_it = loop_turned j lies s q t u ws' id v (began e ∷ rest) w.loops f at live (record {
    turn = turn_at l lies s.words q t u f.words there_is worker false true stage_is refl refl (worker_word id interval) few (interval_loops id)
        (packed_pair own) refl refl (let a = same_positions in omega (arith, a));
    core = subst (Cored j lies') (sym same_elements) core_now;
    looped = looped_now;
    positions = positions_now;
    waits = let a : waiting j q (some t) ≡ 0 = ap (next_weight (machine_of j.program) is_task) next_of_task ∙ no_task_next j (map suc q) t.berth.call 0 long in
        omega (arith, a);
    begun = λ p. let a = ap (λ (xs : List Execution). times p (map path_of xs)) runs in omega (arith, a);
    long = sym (ap (λ (xs : List Execution). length xs) runs);
    owns = λ o. owns_same l lies' ws' id v.region v.tasks.begun e (began e) rest refl refl refl
        (subst (λ (xs : List Execution). Owns l lies' ws' id v.region xs v.tasks.begun) runs o);
    runs = λ x i. ⊎_elim (λ (h : x ≡ began e). subst (IsUnderWay j lies') (sym h)
        (u, put_here lies q (some u), began_agrees, (worker, refl)))
        (λ (h : In x rest). rest_keeps j lies s f id v at live e rest runs plain u x h) (in_cons x (began e) rest i);
    halted = halted_keeps j lies s f id v at live e rest runs plain u;
    theirs = other_runs;
  })
