-- A retirement: indexes of one loop in hand have ended, and the loop has so many less to retire.
use Rattle.std.proofs.Common.{◌≡◌, ◌≢◌, ℕ, zero, suc, ◌+◌, ◌-◌, ◌<◌, ◌≤◌, ◌&&◌, Bool, true, false, cond, nat_eq, List, [], ◌∷◌, ◌++◌, length, set, map, sym, refl, ap, ◌∙◌, subst, inl, inr, arith}
use mathlib.Core.Option.{some, some-injective}
use lib.ListN.{get_elem?}
use Rattle.kt_order.specs.Forest.{Phase, Unclaimed, Running, Finished}
use Rattle.kt_order.specs.Paths.{same_path}
use Rattle.kt_order.proofs.Phases.{done_le}
use Rattle.kt_runs.specs.ByPath.{Path}
use Rattle.kt_rule.specs.declared.views.Share.{Share}
use Rattle.kt_rule.specs.declared.views.IndexRun.{IndexRun}
use Rattle.kt_rule.specs.declared.views.LoopHands.{LoopHands}
use Rattle.kt_rule.specs.Paths.{put}
use Rattle.kt_rule.specs.Lists.{one_if, In, here}
use Rattle.kt_rule.specs.Lies.{IndexLie, Lie, Lies}
use Rattle.kt_rule.specs.LoopWords.{LoopWords, Hand, between, sum_below}
use Rattle.kt_rule.specs.LoopFacts.{in_pair, in_given, in_hand, in_indexes, is_early, IsBooked, IsPending, IsIndex, index_times, task_tally, is_taken, is_retired, retired_of, phase_in, Handles, Looped}
use Rattle.kt_rule.proofs.Puts.{same_self, same_not, put_here, at_put}
use Rattle.kt_rule.proofs.Sums.{weigh_append, in_append, in_left, in_right}
use Rattle.atomic_table.proofs.Lists.{set_here}
use Rattle.kt_pieces.specs.Changes.{ends_now, end_indexes, ended}
use Rattle.kt_pieces.proofs.Turns.{less_at, AllGrow, piece_grows, share_grows, emptied_grows, Turn, retired_with, hands_sum, shares_same, seen_still, assemble}
use Rattle.kt_pieces.proofs.Tasks.{long_at, put_grows, pending_put, placed_put, index_put, tally_put, booked_put, shown_put, owned_put, childless_put}
use Rattle.kt_pieces.proofs.Indexes.{phases_long}
use Rattle.kt_pieces.proofs.Ended.{index_some, index_find, zero_or, Hold, end_long, end_else, end_at, EndsBook, end_book, end_tally, ended_times, ended_positions, ended_count, in_ended}
use Rattle.kt_pieces.proofs.Loads.{found_none_left}
use Rattle.kt_pieces.proofs.Once.{own_once, other_none}

at_least_one : {A : Type 0} (xs : List A) → 1 ≤ length xs → (x : A) × In x xs
at_least_one [] some_there = absurd (omega (arith, some_there))
at_least_one (x ∷ xs) some_there = (x, here)

set_twice : {A : Type 0} (xs : List A) (i : ℕ) (a b : A) → set (set xs i a) i b ≡ set xs i b
set_twice [] i a b = refl
set_twice (x ∷ xs) zero a b = refl
set_twice (x ∷ xs) (suc i) a b = ap (λ ys. x ∷ ys) (set_twice xs i a b)

even_of : (now given pending pieces taken retired done rest after : ℕ) → taken ≡ done + rest → after ≡ done + retired
    → now + (given + (pending + (pieces + (rest + after)))) ≡ now + (given + (pending + (pieces + (taken + retired))))
even_of now given pending pieces taken retired done rest after a b = omega (arith, a, b)

-- the loop at a path, of which the indexes `done` are in hand
module _ (workers : ℕ) (lies : Lies) (s : LoopWords) (hands : List Hand) (f : Looped workers lies s hands) (id : ℕ) (h : Hand)
    (at : get_elem? hands id ≡ some h) (p : Path) (t : Lie) (is : lies p ≡ some t) (done rest : List IndexRun) (hand : h.loops.taken ≡ done ++ rest)
    (some_done : 1 ≤ length done) (theirs : (e : IndexRun) → In e done → e.spot.path ≡ p) where
  abbrev u : Lie
  u = record t { indexes = end_indexes done t.indexes; unretired = t.unretired - length done }

  abbrev lies' : Lies
  lies' = put lies p (some u)

  abbrev l : LoopHands
  l = record h.loops { taken = rest; retired = map ended done ++ h.loops.retired }

  abbrev h' : Hand
  h' = record h { loops = l }

  in_taken : (e : IndexRun) → In e done → In e h.loops.taken
  in_taken e i = subst (In e) (sym hand) (in_left done rest e i)

  -- what the hand says of an index of this loop
  stands : (e : IndexRun) → In e done → (x : IndexLie) × (get_elem? t.indexes e.index ≡ some x) × (x.phase ≡ Running)
  stands e i =
      let q = (f.handles id h at).taken e (in_taken e i) in
      let same : q.task ≡ t = some-injective q.task t (sym q.is ∙ (ap lies (theirs e i) ∙ is)) in
      (q.index, ap (λ (z : Lie). get_elem? z.indexes e.index) (sym same) ∙ q.at, q.phase_is)

  both : (q : Path) (i : ℕ) → index_times q i h.loops.taken ≡ index_times q i done + index_times q i rest
  both q i = ap (index_times q i) hand ∙ weigh_append (λ (e : IndexRun). one_if (same_path q e.spot.path && nat_eq i e.index)) done rest

  hold : Hold p t.indexes done
  hold = record {
    path = theirs;
    there_is = stands;
    once = λ i. let a = own_once workers lies s hands f id h at p i in let b = both p i in omega (arith, a, b);
  }

  booked : IsBooked t
  booked = f.booked p t is

  ends : EndsBook t.pieces t.unretired t.indexes (end_indexes done t.indexes) (length done)
  ends = end_book p t.pieces t.unretired done t.indexes hold booked.book

  -- the fetch does not go below 0
  pub enough : length done ≤ t.unretired
  enough =
      let a = booked.book.retired in
      let b = done_le (map phase_in u.indexes) in
      let c = ends.done in
      let d = phases_long t.indexes in
      let e = phases_long u.indexes in
      let g = end_long done t.indexes in
      omega (arith, a, b, c, d, e, g)

  some_there : 0 < length t.indexes
  some_there = let e = at_least_one done some_done in let x = stands e.0 e.1 in
      long_at t.indexes e.0.index x.0 x.1

  same_long : length u.indexes ≡ length t.indexes
  same_long = end_long done t.indexes

  grow : AllGrow lies lies'
  grow = put_grows lies p t u is (record { berth = refl; gone = refl; first = λ e. refl; long = λ e. same_long; emptied = λ late none_left. (late, omega (arith, none_left)) })

  others_wait : (x : Share) → IsPending lies f.owner s.drawn x → IsPending lies' f.owner s.drawn x
  others_wait x = pending_put lies p t u is refl (λ none_yet. absurd (let a = ap (λ (xs : List IndexLie). length xs) none_yet in let b = some_there in omega (arith, a, b))) f.owner s.drawn x

  -- an index that is not among them
  stays : (phase : Phase) (e : IndexRun) → (p ≡ e.spot.path → index_times p e.index done ≡ 0) → IsIndex lies phase e → IsIndex lies' phase e
  stays phase e none_there = index_put lies p t u is refl (λ some_index. refl) phase e
      (λ x same there phase_is. end_else p done t.indexes e.index hold (none_there same) ∙ there)

  -- as one that has ended before
  retired_stays : (e : IndexRun) → IsIndex lies Finished e → IsIndex lies' Finished e
  retired_stays e = index_put lies p t u is refl (λ some_index. refl) Finished e (λ x same there phase_is. elim (zero_or (index_times p e.index done)) [
    | inl none_there ↦ end_else p done t.indexes e.index hold none_there ∙ there
    | inr some_there ↦ (let d = index_find p e.index done some_there in let y = stands d.0 d.1 in
        let same_index : x ≡ y.0 = some-injective x y.0 (sym there ∙ (ap (get_elem? t.indexes) (sym d.3) ∙ y.1)) in
        absurd (not_both (sym phase_is ∙ (ap (λ (z : IndexLie). z.phase) same_index ∙ y.2))))
  ])
    where
      not_both : Finished ≡ Running → ⊥
      not_both e = cc

  turn : Turn workers lies s hands f.owner id h lies' s l
  turn = record {
    drawn = refl;
    grow = grow;
    waiting = λ seat y e ne x i. others_wait x;
    placed = λ seat y e ne x i. placed_put lies p t u is refl x;
    taken = λ seat y e ne x i. stays Running x (λ same. let a = other_none workers lies s hands f id h at seat y e ne x i p same in
        let b = both p x.index in omega (arith, a, b));
    retired = λ seat y e ne x i. retired_stays x;
    homes = λ k ne. refl;
    own_home = inl refl;
    empty = λ k ne e. e;
    intervals = λ k less. inl refl;
    pieces = λ k less given. inl (given, refl);
    shares = λ x i. inl i;
    pending = λ x i. inl i;
    over = refl;
    over_long = refl;
  }

  book_now : IsBooked u
  book_now = record {
    early = λ e. absurd (let a = ap (λ (xs : List IndexLie). length xs) (booked.early e).0 in let b = some_there in omega (arith, a, b));
    whole = elim booked.whole [
      | inl e ↦ absurd (let a = ap (λ (xs : List IndexLie). length xs) e in let b = some_there in omega (arith, a, b))
      | inr e ↦ inr (same_long ∙ e)
    ];
    rises = booked.rises;
    fresh = λ i x e unclaimed. elim (zero_or (index_times p i done)) [
      | inl none_there ↦ booked.fresh i x (sym (end_else p done t.indexes i hold none_there) ∙ e) unclaimed
      | inr found ↦ (let d = index_find p i done found in let y = stands d.0 d.1 in
          let same : x ≡ ends_now y.0 = some-injective x (ends_now y.0) (sym e ∙ (ap (get_elem? u.indexes) (sym d.3) ∙ end_at p done t.indexes d.0 y.0 hold d.1 y.1)) in
          absurd (not_unclaimed (ap (λ (z : IndexLie). z.phase) (sym same) ∙ unclaimed)))
    ];
    book = (let b = ends.book in record {
      pieces = b.pieces;
      covers = b.covers;
      none_ended = b.none_ended;
      retired = (let a = booked.book.retired in let c = ends.done in let d = enough in
          let e = phases_long t.indexes in let g = phases_long u.indexes in let k = same_long in omega (arith, a, c, d, e, g, k));
    });
  }
    where
      not_unclaimed : Finished ≡ Unclaimed → ⊥
      not_unclaimed e = cc

  taken_now : (q : Path) (i : ℕ) → index_times q i l.taken + task_tally is_taken i (lies q) ≡ index_times q i h.loops.taken + task_tally is_taken i (lies' q)
  taken_now q i =
      let a = both q i in
      elim (tally_put lies p t u is is_taken q i) [
        | inl c ↦ (let b = (end_tally p done t.indexes i hold).0 in let d : index_times p i done ≡ index_times q i done = ap (λ r. index_times r i done) c.0 in
            let x = c.1 in let y = c.2 in omega (arith, a, b, d, x, y))
        | inr c ↦ (let b = none_of q i c.0 in let x = c.1 in omega (arith, a, b, x))
      ]
    where
      none_of : (q : Path) (i : ℕ) → p ≢ q → index_times q i done ≡ 0
      none_of q i ne = elim (zero_or (index_times q i done)) [
        | inl e ↦ e
        | inr e ↦ (let d = index_find q i done e in absurd (ne (sym (theirs d.0 d.1) ∙ d.2)))
      ]

  retired_now : (q : Path) (i : ℕ) → index_times q i l.retired + task_tally is_retired i (lies q) ≡ index_times q i h.loops.retired + task_tally is_retired i (lies' q)
  retired_now q i =
      let a = weigh_append (λ (e : IndexRun). one_if (same_path q e.spot.path && nat_eq i e.index)) (map ended done) h.loops.retired in
      let k = ended_times q i done in
      elim (tally_put lies p t u is is_retired q i) [
        | inl c ↦ (let b = (end_tally p done t.indexes i hold).1 in let d : index_times p i done ≡ index_times q i done = ap (λ r. index_times r i done) c.0 in
            let x = c.1 in let y = c.2 in omega (arith, a, b, d, k, x, y))
        | inr c ↦ (let b = none_of q i c.0 in let x = c.1 in omega (arith, a, b, k, x))
      ]
    where
      none_of : (q : Path) (i : ℕ) → p ≢ q → index_times q i done ≡ 0
      none_of q i ne = elim (zero_or (index_times q i done)) [
        | inl e ↦ e
        | inr e ↦ (let d = index_find q i done e in absurd (ne (sym (theirs d.0 d.1) ∙ d.2)))
      ]

  even : (x : ℕ) → sum_below workers (λ k. in_pair (s.interval k) x) + (sum_below workers (λ k. in_given (s.given k) (s.piece k) x) + in_hand x h')
      ≡ sum_below workers (λ k. in_pair (s.interval k) x) + (sum_below workers (λ k. in_given (s.given k) (s.piece k) x) + in_hand x h)
  even x =
      let a : in_indexes x h.loops.taken ≡ in_indexes x done + in_indexes x rest = ap (in_indexes x) hand ∙ weigh_append (λ (e : IndexRun). between e.position (suc e.position) x) done rest in
      let b = weigh_append (λ (e : IndexRun). between e.position (suc e.position) x) (map ended done) h.loops.retired in
      let c = ended_positions x done in
      even_of _ _ _ _ _ _ _ _ _ a (b ∙ ap (λ n. n + in_indexes x h.loops.retired) c)

  left_now : (q : Path) (y : Lie) → lies' q ≡ some y → y.unretired + retired_of q (set hands id h') ≡ y.berth.call.length
  left_now q y e =
      let a = hands_sum workers lies s hands f id h at lies' s l (retired_with q) in
      let b = weigh_append (λ (e : IndexRun). one_if (same_path q e.spot.path)) (map ended done) h.loops.retired in
      let k = ended_count q p done theirs in
      elim (at_put lies p q u y e) [
        | inl c ↦ subst (λ (w : Lie). w.unretired + retired_of q (set hands id h') ≡ w.berth.call.length) c.1
            (let d = f.left p t is in let g : retired_of p hands ≡ retired_of q hands = ap (λ r. retired_of r hands) c.0 in
            let m = ap (λ (z : Bool). cond z (length done) 0) (ap (same_path q) c.0 ∙ same_self q) in
            let n = enough in omega (arith, a, b, k, d, g, m, n))
        | inr c ↦ (let d = f.left q y c.1 in let m = ap (λ (z : Bool). cond z (length done) 0) (same_not q p (λ same. c.0 (sym same))) in omega (arith, a, b, k, d, m))
      ]

  own_now : Turn workers lies s hands f.owner id h lies' s l → Handles workers lies' f.owner s (set hands id h') id h'
  own_now t' = let q = f.handles id h at in record {
    pending = λ x i. others_wait x (q.pending x i);
    pieces = λ x i. share_grows lies lies' grow x (q.pieces x i);
    taken = λ e i. stays Running e (λ same. let a = index_some p rest e i (sym same) in let b = own_once workers lies s hands f id h at p e.index in
        let c = both p e.index in omega (arith, a, b, c)) (q.taken e (subst (In e) (sym hand) (in_right done rest e i)));
    retired = λ e i. elim (in_append (map ended done) h.loops.retired e i) [
      | inl new ↦ (let d = in_ended done e new in subst (IsIndex lies' Finished) (sym d.2) (index_new d.0 d.1))
      | inr old ↦ retired_stays e (q.retired e old)
    ];
    placed = λ told x i. placed_put lies p t u is refl x (q.placed told x i);
    emptied = λ r i. emptied_grows lies lies' grow r (q.emptied r i);
    free = q.free;
    home = q.home;
    sight = λ lives o d. seen_still workers lies s hands f id h at lies' s l t' o (q.sight lives o d);
    overs = q.overs;
    held = q.held;
    crossed = q.crossed;
  }
    where
      index_new : (e : IndexRun) → In e done → IsIndex lies' Finished (ended e)
      index_new e i =
          let q = (f.handles id h at).taken e (in_taken e i) in
          let same : q.task ≡ t = some-injective q.task t (sym q.is ∙ (ap lies (theirs e i) ∙ is)) in
          let was : get_elem? t.indexes e.index ≡ some q.index = ap (λ (z : Lie). get_elem? z.indexes e.index) (sym same) ∙ q.at in
          record {
            task = u;
            index = ends_now q.index;
            is = ap lies' (theirs e i) ∙ put_here lies p (some u);
            berth = ap (λ (z : Lie). z.berth) (sym same) ∙ q.berth;
            at = end_at p done t.indexes e q.index hold i was;
            position = q.position ∙ ap (λ (z : Lie). z.first + e.index) same;
            phase_is = refl;
            answers = q.answers;
            count = ap (λ n. n + 1) q.count;
          }

  pub retired_looped : Looped workers lies' s (set hands id h')
  retired_looped = assemble workers lies s hands f id h at lies' s l turn (record {
    even = even;
    owned = owned_put lies p t u is workers s hands f same_long (λ e. refl);
    homes = λ k less more. (let x = f.homes k less more in (x.0, x.1, piece_grows lies lies' grow x.0 (s.interval k).low (s.interval k).high x.2));
    given = λ k a less e. piece_grows lies lies' grow a (s.piece k).low (s.piece k).high (f.given k a less e);
    booked = booked_put lies p t u is workers s hands f book_now;
    shown = shown_put lies p t u is workers s hands f refl refl (λ z. refl) (set hands id h') (shares_same workers lies s hands f id h at lies' s l refl);
    taken = taken_now;
    retired = retired_now;
    left = left_now;
    childless = childless_put lies p t u is workers s hands f same_long;
    own = own_now;
  })

  -- where these were the last ones, the seat knows that nothing is left
  pub all_retired : length done ≡ t.unretired → Looped workers lies' s (set hands id (record h { loops = record l { emptied = p ∷ h.loops.emptied } }))
  all_retired last = subst (Looped workers lies' s) (set_twice hands id h' (record h { loops = record l { emptied = p ∷ h.loops.emptied } }))
      (found_none_left workers lies' s (set hands id h') retired_looped id h' (set_here hands id h' (less_at hands id h at)) p u (put_here lies p (some u))
      (not_early (is_early t.stage) refl) (omega (arith, last)))
    where
      not_early : (b : Bool) → is_early t.stage ≡ b → is_early t.stage ≡ false
      not_early true e = absurd (let a = ap (λ (xs : List IndexLie). length xs) (booked.early e).0 in let b = some_there in omega (arith, a, b))
      not_early false e = e
