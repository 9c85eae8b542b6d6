-- How a loop begins, step by step: each keeps the facts. The words and the record are told before the interval is.
use Rattle.std.proofs.Common.{◌≡◌, ◌≢◌, ℕ, zero, suc, ◌+◌, ◌<◌, ◌≤◌, Bool, true, false, cond, List, [], ◌∷◌, map, set, length, sym, refl, ap, ◌∙◌, subst, inl, inr, arith, None}
use mathlib.Core.Option.{some, some-injective}
use lib.ListN.{get_elem?}
use Rattle.atomic_table.specs.Table.{State}
use Rattle.kt_law.specs.declared.limits.TheConstants.{INDEXES, LENGTH}
use Rattle.kt_order.specs.Forest.{Task}
use Rattle.kt_order.specs.Rest.{left}
use Rattle.kt_order.specs.Loops.{forks_then}
use Rattle.kt_order.specs.Paths.{same_path}
use Rattle.kt_prog.specs.Calls.{CallTree}
use Rattle.kt_prog.specs.Reference.{machine_of}
use Rattle.kt_runs.specs.ByPath.{Path}
use Rattle.kt_runs.specs.Loops.{index_calls}
use Rattle.kt_words.specs.Places.{place, record_word, worker_word, home}
use Rattle.kt_words.specs.Words.{packed_pair}
use Rattle.kt_words.specs.declared.layouts.Layout.{Layout}
use Rattle.kt_rule.specs.declared.views.Setup.{Setup}
use Rattle.kt_rule.specs.declared.views.Berth.{Berth}
use Rattle.kt_rule.specs.declared.views.Share.{Share}
use Rattle.kt_rule.specs.declared.views.Execution.{Execution}
use Rattle.kt_rule.specs.declared.views.View.{View}
use Rattle.kt_rule.specs.Paths.{put}
use Rattle.kt_rule.specs.Lists.{weigh, In, here, there}
use Rattle.kt_rule.specs.Weights.{next_weight, forks_ahead, is_task, is_index}
use Rattle.kt_rule.specs.Lies.{IndexLie, Lie, Lies, Cored}
use Rattle.kt_rule.specs.Records.{layout_of, word_at, elements, positions_at}
use Rattle.kt_rule.specs.Views.{begun_in, indexes_of, share_long, positions_in, pending_in}
use Rattle.kt_rule.specs.Facts.{task_in, Agrees, waiting_indexes, Positions}
use Rattle.kt_rule.specs.LoopWords.{LoopWords, Hand, loop_words, hand_of, hands_of}
use Rattle.kt_rule.specs.LoopFacts.{Looped}
use Rattle.kt_rule.specs.Rule.{Slots, Facts}
use Rattle.kt_rule.proofs.Puts.{same_is}
use Rattle.kt_rule.proofs.Shelf as shelf
use Rattle.kt_rule.proofs.Sums.{weigh_set, in_cons}
use Rattle.kt_rule.proofs.Cores as cores
use Rattle.kt_rule.proofs.Moves.{each_view}
use Rattle.kt_steps.proofs.Asides.{seat_in}
use Rattle.kt_steps.proofs.LoopSeats.{at_hand, hand_at}
use Rattle.kt_steps.proofs.Steps.{head_in, head_is, head_agrees, head_runs, head_task, head_begun, head_alone}
use Rattle.kt_pieces.proofs.Stores.{home_stored, first_stored}
use Rattle.kt_pieces.proofs.Positions.{drawn_looped}
use Rattle.kt_loops.specs.Hands.{share_from, draws_positions, places_first, homes_at}
use Rattle.kt_loops.proofs.TurningFacts.{book_turned}
use Rattle.kt_loops.proofs.TurningHands.{home_loops, positions_loops, hands_stored, hands_step}
use Rattle.kt_loops.proofs.TurningWords.{hands_moved, home_set, positions_set, record_set, turn_first}

-- THE FORKS OF A LOOP

module _ (j : Setup) (path : List ℕ) (call : CallTree) where
  -- all its indexes are ahead
  pub forks_long : (i n : ℕ) → forks_ahead (machine_of j.program) is_index (forks_then (machine_of j.program) (index_calls path call i n) None) ≡ n
  forks_long i zero = refl
  forks_long i (suc n) = let a = forks_long (suc i) n in omega (arith, a)

  -- and no task
  pub no_task_next : (i n : ℕ) → next_weight (machine_of j.program) is_task (forks_then (machine_of j.program) (index_calls path call i n) None) ≡ 0
  no_task_next i zero = refl
  no_task_next i (suc n) = refl

-- POSITIONS OF A LOOP THAT NOBODY HAS DRAWN

module _ (q : Path) where
  pub none_there : (xs : List Share) → ((z : Share) → In z xs → z.spot.path ≢ q) → weigh (λ (x : Share). cond (same_path q x.spot.path) (share_long x) 0) xs ≡ 0
  none_there [] h = refl
  none_there (x ∷ xs) h = go (same_path q x.spot.path) refl (none_there xs (λ z i. h z (there i)))
    where
      go : (b : Bool) → same_path q x.spot.path ≡ b → weigh (λ (x : Share). cond (same_path q x.spot.path) (share_long x) 0) xs ≡ 0
          → cond b (share_long x) 0 + weigh (λ (x : Share). cond (same_path q x.spot.path) (share_long x) 0) xs ≡ 0
      go true d none_more = absurd (h x here (sym (same_is q x.spot.path d)))
      go false d none_more = omega (arith, none_more)

  pub all_none : (views : List View) → ((k : ℕ) (x : View) → get_elem? views k ≡ some x → pending_in x q ≡ 0) → weigh (λ (x : View). pending_in x q) views ≡ 0
  all_none [] h = refl
  all_none (x ∷ xs) h = let a = h 0 x refl in let b = all_none xs (λ k y. h (suc k) y) in omega (arith, a, b)

module _ (j : Setup) (lies : Lies) (s : State Slots View) (f : Facts j lies s) (id : ℕ) (v : View) (at : get_elem? s.views id ≡ some v)
    (live : 0 < v.parts) where
  abbrev l : Layout
  l = layout_of j

  pub seat_less : id < j.workers
  seat_less = seat_in j lies s f id v at

  pub hand_there : get_elem? (hands_of s.views) id ≡ some (hand_of v)
  hand_there = at_hand s.views id v at

  -- the facts of loops, at words and hands that are these
  pub looped_at : (lies' : Lies) (ws' : List ℕ) (w : View) (words : LoopWords) → loop_words l ws' ≡ words
      → Looped j.workers lies' words (set (hands_of s.views) id (hand_of w))
      → Looped j.workers lies' (loop_words l ws') (hands_of (set s.views id w))
  looped_at lies' ws' w words e h = subst (λ (z : LoopWords × List Hand). Looped j.workers lies' z.0 z.1)
      (λ i. (sym e i, sym (hands_moved s.views id w) i)) h

  -- THE OWN HOME WORD

  pub homes_it : v.loops.free ≡ true → (a : ℕ) → Facts j lies record {
    words = set s.words (place l (worker_word id home)) (suc a);
    homes = s.homes;
    views = set s.views id (homes_at v a);
  }
  homes_it free a = hands_stored j lies s f (worker_word id home) seat_less (home_loops id) (suc a) (λ e. cc) id v at live (homes_at v a).loops refl
      (looped_at lies (set s.words (place l (worker_word id home)) (suc a)) (homes_at v a) _ (home_set l s.words id seat_less f.words.wide (suc a))
      (home_stored j.workers lies (loop_words l s.words) (hands_of s.views) f.looped id (hand_of v) hand_there seat_less live free (suc a)))

  -- WHERE THE RUNNING BODY IS A LOOP THAT HAS NOT BEGUN

  module _ (e : Execution) (rest : List Execution) (runs : v.tasks.running ≡ e ∷ rest) (plain : e.looping ≡ false) where
    abbrev q : Path
    q = e.spot.path

    abbrev pub t : Lie
    t = ((f.fits id v at).running e (head_in j lies s f id v at live e rest runs plain)).0

    pub t_is : lies q ≡ some t
    t_is = head_is j lies s f id v at live e rest runs plain

    pub agrees : Agrees j e t
    agrees = head_agrees j lies s f id v at live e rest runs plain

    pub no_indexes : t.indexes ≡ []
    no_indexes = go t.indexes refl
      where
        go : (xs : List IndexLie) → t.indexes ≡ xs → t.indexes ≡ []
        go [] d = d
        go (x ∷ xs) d = let a = agrees.indexes in let b = ap (λ (z : List IndexLie). length z) d in
            let c : indexes_of e ≡ 0 = ap (λ b. cond b e.spot.berth.call.length 0) plain in absurd (omega (arith, a, b, c))

    -- nobody else has positions of it
    pub other_pending : (seat : ℕ) (y : Hand) → get_elem? (hands_of s.views) seat ≡ some y → seat ≢ id → (z : Share) → In z y.loops.pending
        → z.spot.path ≢ q
    other_pending seat y d ne z i same =
        let x = hand_at s.views seat y d in
        let b = f.positions.begun seat x.0 x.1 z (subst (λ (h : Hand). In z h.loops.pending) (sym x.2) i) in
        let a = (head_alone j lies s f id v at live e rest runs plain seat x.0 ne x.1).0 in
        let c : begun_in x.0 z.spot.path ≡ begun_in x.0 q = ap (begun_in x.0) same in omega (arith, a, b, c)

    -- THE FIRST POSITION, in its record

    module _ (first : ℕ) (drawn : v.loops.pending ≡ share_from e.spot first ∷ []) where
      abbrev pub u1 : Lie
      u1 = record t { first = first }

      abbrev word1 : ℕ
      word1 = packed_pair (record { low = u1.berth.call.length; high = first })

      abbrev ws1 : List ℕ
      ws1 = set s.words (place l (record_word t.berth.at 3)) word1

      pub places_lie : Facts j (put lies q (some u1)) record { words = ws1; homes = s.homes; views = set s.views id (places_first v) }
      places_lie = let k = head_runs j lies s f id v at live e rest runs plain in
          let in_table = f.words.inside q t t_is in
          book_turned j lies s q t u1 ws1 id v (places_first v).loops f at live (record {
            turn = turn_first l lies s.words q t u1 f.words t_is k.0 false false k.1 k.1 refl refl;
            stage = refl;
            answers = refl;
            count = refl;
            long = refl;
            core = subst (Cored j (put lies q (some u1))) (sym (shelf.elements_else l s.words (record_word t.berth.at 3) word1 (in_table, omega arith) tt))
                (cores.stays j f.laws lies (elements l s.words) f.core q t t_is u1 refl refl refl);
            looped = looped_at (put lies q (some u1)) ws1 (places_first v) (loop_words l s.words) (record_set l s.words t.berth.at 3 word1 (in_table, omega arith))
                (first_stored j.workers lies (loop_words l s.words) (hands_of s.views) f.looped id (hand_of v) hand_there (share_from e.spot first) drawn q refl t t_is
                other_pending);
            pending = refl;
            positions = shelf.else l s.words (record_word t.berth.at 3) positions_at word1 (in_table, omega arith) tt (λ d. cc);
          })

      -- said of what the entry tells
      pub places_it : Facts j (put lies q (some u1)) record {
        words = set s.words (place l (record_word e.spot.berth.at 3)) (packed_pair (record { low = e.spot.berth.call.length; high = first }));
        homes = s.homes;
        views = set s.views id (places_first v);
      }
      places_it = subst (λ (b : Berth). Facts j (put lies q (some u1)) record {
        words = set s.words (place l (record_word b.at 3)) (packed_pair (record { low = b.call.length; high = first }));
        homes = s.homes;
        views = set s.views id (places_first v);
      }) agrees.berth places_lie

    -- THE DRAW OF ITS POSITIONS

    module _ (none_over : v.loops.over ≡ 0) (none_pending : v.loops.pending ≡ [])
        (ahead : left (machine_of j.program) (task_in j e) ≡ forks_then (machine_of j.program) (index_calls (map suc q) e.spot.berth.call 0 e.spot.berth.call.length) None) where
      abbrev n : ℕ
      n = e.spot.berth.call.length

      abbrev drawn_now : ℕ
      drawn_now = word_at l s.words positions_at

      waits_all : waiting_indexes j q (lies q) ≡ n
      waits_all = ap (waiting_indexes j q) t_is ∙ (ap (λ (z : Task (machine_of j.program)). forks_ahead (machine_of j.program) is_index (left (machine_of j.program) z))
          (head_task j lies s f id v at live e rest runs plain) ∙ (ap (forks_ahead (machine_of j.program) is_index) ahead ∙ forks_long j (map suc q) e.spot.berth.call 0 n))

      nobody : weigh (λ (x : View). pending_in x q) s.views ≡ 0
      nobody = all_none q s.views (λ k x d. elim (Rattle.kt_pieces.proofs.Changed.one_or k id) [
        | inl same ↦ (let x_is : x ≡ v = some-injective x v (sym d ∙ (ap (get_elem? s.views) same ∙ at)) in
            ap (λ (z : View). pending_in z q) x_is ∙ ap (λ (xs : List Share). weigh (λ (x : Share). cond (same_path q x.spot.path) (share_long x) 0) xs) none_pending)
        | inr ne ↦ none_there q x.loops.pending (λ z i. other_pending k (hand_of x) (at_hand s.views k x d) ne z i)
      ])

      module _ (few : n ≤ LENGTH) (over : ℕ) (most : over ≤ 1) (within : over ≡ 0 → drawn_now + n ≤ INDEXES) (beyond : 0 < over → INDEXES < drawn_now + n) where
        abbrev w2 : View
        w2 = draws_positions v e drawn_now over

        abbrev ws2 : List ℕ
        ws2 = set s.words (place l positions_at) (drawn_now + n)

        now : word_at l ws2 positions_at ≡ drawn_now + n
        now = shelf.here l s.words positions_at (drawn_now + n) tt f.words.wide

        drawn_positions : Positions j lies ws2 (set s.views id w2)
        drawn_positions = record {
          count = let h = weigh_set positions_in s.views id v w2 at in let k = f.positions.count in let a = now in
              let b = ap (λ (xs : List Share). weigh share_long xs) none_pending in omega (arith, h, k, a, b);
          pending = λ p. let h = weigh_set (λ (x : View). pending_in x p) s.views id v w2 at in let k = f.positions.pending p in
              let a = ap (λ (xs : List Share). weigh (λ (x : Share). cond (same_path p x.spot.path) (share_long x) 0) xs) none_pending in
              go p (same_path p q) refl h k a;
          begun = each_view (λ k x. (y : Share) → In y x.loops.pending → 0 < begun_in x y.spot.path) s.views id w2
              (λ y i. elim (in_cons y (share_from e.spot drawn_now) [] i) [
                | inl d ↦ (let b = head_begun j lies s f id v at live e rest runs plain in subst (λ (z : Share). 0 < begun_in v z.spot.path) (sym d) b)
                | inr none_more ↦ elim none_more [ ]
              ])
              (λ k x ne d. f.positions.begun k x d);
        }
          where
            go : (p : Path) (b : Bool) → same_path p q ≡ b
                → weigh (λ (x : View). pending_in x p) (set s.views id w2) + pending_in v p ≡ weigh (λ (x : View). pending_in x p) s.views + pending_in w2 p
                → weigh (λ (x : View). pending_in x p) s.views ≤ waiting_indexes j p (lies p)
                → pending_in v p ≡ 0 → weigh (λ (x : View). pending_in x p) (set s.views id w2) ≤ waiting_indexes j p (lies p)
            go p true d h k a = let r : p ≡ q = same_is p q d in
                let x : weigh (λ (x : View). pending_in x p) s.views ≡ 0 = ap (λ (z : Path). weigh (λ (x : View). pending_in x z) s.views) r ∙ nobody in
                let y : waiting_indexes j p (lies p) ≡ n = ap (λ (z : Path). waiting_indexes j z (lies z)) r ∙ waits_all in
                let z : pending_in w2 p ≡ n + 0 = ap (λ (b : Bool). cond b n 0 + 0) d in omega (arith, h, k, a, x, y, z)
            go p false d h k a = let z : pending_in w2 p ≡ 0 = ap (λ (b : Bool). cond b n 0 + 0) d in omega (arith, h, k, a, z)

        pub draws_it : Facts j lies record { words = ws2; homes = s.homes; views = set s.views id w2 }
        draws_it = hands_step j lies s f positions_at tt positions_loops (drawn_now + n) id v at live w2.loops (let a = now in omega (arith, a)) drawn_positions
            (looped_at lies ws2 w2 _ (positions_set l s.words f.words.wide (drawn_now + n))
            (drawn_looped j.workers lies (loop_words l s.words) (hands_of s.views) f.looped id (hand_of v) hand_there live none_over none_pending
            e.spot t t_is agrees.berth no_indexes few over most within beyond))
