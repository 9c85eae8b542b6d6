-- A chunk: a seat takes the first positions of its own interval, and their indexes are under way.
use Rattle.std.proofs.Common.{◌≡◌, ◌≢◌, ℕ, suc, ◌+◌, ◌-◌, ◌<◌, ◌≤◌, ◌&&◌, Bool, true, false, cond, nat_eq, List, ◌++◌, length, set, map, sym, refl, ap, ◌∙◌, subst, inl, inr, arith}
use mathlib.Core.Option.{some, some-injective}
use lib.ListN.{get_elem?}
use Rattle.kt_order.specs.Books.{untaken, take, CanTake, BookOk}
use Rattle.kt_order.specs.Forest.{Phase, Unclaimed, Running, Finished}
use Rattle.kt_order.specs.Paths.{same_path}
use Rattle.kt_order.proofs.Books.{book_takes, can_untaken}
use Rattle.kt_order.proofs.Phases.{untaken_there}
use Rattle.kt_runs.specs.ByPath.{Path}
use Rattle.kt_words.specs.declared.pairs.Pair.{Pair}
use Rattle.kt_rule.specs.declared.views.Spot.{Spot}
use Rattle.kt_rule.specs.declared.views.Share.{Share}
use Rattle.kt_rule.specs.declared.views.IndexRun.{IndexRun}
use Rattle.kt_rule.specs.declared.views.LoopHands.{LoopHands}
use Rattle.kt_rule.specs.Paths.{put}
use Rattle.kt_rule.specs.Lists.{one_if}
use Rattle.kt_rule.specs.Lies.{IndexLie, Lie, Lies, is_gone}
use Rattle.kt_rule.specs.LoopWords.{LoopWords, Hand, between, sum_below}
use Rattle.kt_rule.specs.LoopFacts.{in_pair, in_given, in_hand, IsBooked, IsPending, IsIndex, index_times, index_tally, task_tally, is_taken, is_retired, piece_is, shown_pieces, count_piece, phase_in, Handles, Looped}
use Rattle.kt_rule.proofs.Puts.{same_self, same_not, put_here, at_put}
use Rattle.kt_rule.proofs.Sums.{weigh_append, in_append}
use Rattle.kt_rule.proofs.LoopsStay.{no_piece}
use Rattle.kt_pieces.specs.Changes.{at_worker, runs_now, run_indexes, chunk_of}
use Rattle.kt_pieces.proofs.Counted.{pair, pair_is, left_is, left_some, piece_own, can_take, take_count, take_rises}
use Rattle.kt_pieces.proofs.Turns.{lower_part, Grows, AllGrow, piece_grows, share_grows, emptied_grows, Turn, shares_same, retired_same, seen_still, assemble}
use Rattle.kt_pieces.proofs.Tasks.{put_grows, pending_put, placed_put, index_put, tally_put, tally_same, booked_put, left_put, owned_put, childless_put}
use Rattle.kt_pieces.proofs.Indexes.{phases_long, untaken_at, run_long, run_phases, run_else, run_at, range_or, chunk_times, chunk_positions, InChunk, in_chunk}
use Rattle.kt_pieces.proofs.Intervals.{interval_positions, interval_shown, interval_lower, interval_empty, interval_homes, interval_some}

false_true : false ≡ true → ⊥
false_true e = cc

between_joins : (a b c x : ℕ) → a ≤ b → b ≤ c → between a b x + between b c x ≡ between a c x
between_joins a b c x less more = omega (arith, less, more)

even_of : (now then own left given pending pieces after before chunk retired : ℕ) → now + own ≡ then + left → after ≡ before + chunk → chunk + left ≡ own
    → now + (given + (pending + (pieces + (after + retired)))) ≡ then + (given + (pending + (pieces + (before + retired))))
even_of now then own left given pending pieces after before chunk retired a b c = omega (arith, a, b, c)

-- the loop at a path, whose index `from` stands at the front of the own interval
module _ (workers : ℕ) (lies : Lies) (s : LoopWords) (hands : List Hand) (f : Looped workers lies s hands) (id : ℕ) (h : Hand)
    (at : get_elem? hands id ≡ some h) (inside : id < workers) (p : Path) (t : Lie) (is : lies p ≡ some t) (live : is_gone t.stage ≡ false)
    (alone : (q : Path) (y : Lie) → lies q ≡ some y → is_gone y.stage ≡ false → y.berth.at ≡ t.berth.at → q ≡ p)
    (home : s.home id ≡ suc t.berth.at) (from n : ℕ) (begins : (s.interval id).low ≡ t.first + from) (some_more : 1 ≤ n)
    (fits : (s.interval id).low + n ≤ (s.interval id).high) where
  abbrev m : Spot
  m = record { berth = t.berth; path = p }

  abbrev u : Lie
  u = record t { indexes = run_indexes from n t.indexes; pieces = take from n t.pieces }

  abbrev lies' : Lies
  lies' = put lies p (some u)

  abbrev left : Pair
  left = pair ((s.interval id).low + n) (s.interval id).high

  abbrev s' : LoopWords
  s' = record s { interval = at_worker s.interval id left }

  abbrev l : LoopHands
  l = record h.loops { taken = h.loops.taken ++ chunk_of m t.first from n }

  abbrev h' : Hand
  h' = record h { loops = l }

  abbrev to : ℕ
  to = (s.interval id).high - t.first

  long : (s.interval id).low < (s.interval id).high
  long = omega (arith, some_more, fits)

  ends : t.first + to ≡ (s.interval id).high
  ends = omega (arith, begins, long)

  -- the book has the piece
  counted : 1 ≤ count_piece (pair (t.first + from) (t.first + to)) t.first t.pieces
  counted =
      let q = pair (s.interval id).low (s.interval id).high in
      let a = interval_some workers s hands id t.berth.at inside home long in
      let b = f.shown p t q is live in
      let c : 1 ≤ count_piece q t.first t.pieces = omega (arith, a, b) in
      subst (λ (z : ℕ × ℕ). 1 ≤ count_piece (pair z.0 z.1) t.first t.pieces) (λ i. (begins i, sym ends i)) c

  booked : IsBooked t
  booked = f.booked p t is

  can : CanTake from n t.pieces
  can = can_take t.first 0 from n to t.pieces booked.rises counted (omega (arith, begins, ends, fits))

  was_untaken : (i : ℕ) → from ≤ i → i < from + n → untaken (map phase_in t.indexes) i ≡ 1
  was_untaken = can_untaken (record { pieces = t.pieces; unretired = t.unretired }) (map phase_in t.indexes) from n booked.book can

  pub unclaimed : (i : ℕ) → from ≤ i → i < from + n → (x : IndexLie) × (get_elem? t.indexes i ≡ some x) × (x.phase ≡ Unclaimed)
  unclaimed i low high = untaken_at t.indexes i (was_untaken i low high)

  some_there : 0 < length t.indexes
  some_there = let a = untaken_there from (map phase_in t.indexes) (was_untaken from (omega arith) (omega (arith, some_more))) in
      let b = phases_long t.indexes in omega (arith, a, b)

  same_long : length u.indexes ≡ length t.indexes
  same_long = run_long n from t.indexes

  grows : Grows t u
  grows = record { berth = refl; gone = refl; first = λ e. refl; long = λ e. same_long; emptied = λ late none_left. (late, none_left) }

  grow : AllGrow lies lies'
  grow = put_grows lies p t u is grows

  -- no index that somebody has is among them
  others_stay : (phase : Phase) → phase ≢ Unclaimed → (e : IndexRun) → IsIndex lies phase e → IsIndex lies' phase e
  others_stay phase ne e = index_put lies p t u is refl (λ some_index. refl) phase e (λ x same there phase_is. elim (range_or from n e.index) [
    | inl r ↦ (let c = unclaimed e.index r.0 r.1 in
        absurd (ne (sym phase_is ∙ (ap (λ (z : IndexLie). z.phase) (some-injective x c.0 (sym there ∙ c.1)) ∙ c.2))))
    | inr out ↦ run_else n from e.index t.indexes out ∙ there
  ])

  running_ne : Running ≢ Unclaimed
  running_ne e = cc

  finished_ne : Finished ≢ Unclaimed
  finished_ne e = cc

  turn : Turn workers lies s hands f.owner id h lies' s' l
  turn = record {
    drawn = refl;
    grow = grow;
    waiting = λ seat y e ne x i. pending_put lies p t u is refl (λ none_yet. absurd (let a = ap (λ (xs : List IndexLie). length xs) none_yet in let b = some_there in omega (arith, a, b))) f.owner s.drawn x;
    placed = λ seat y e ne x i. placed_put lies p t u is refl x;
    taken = λ seat y e ne x i. others_stay Running running_ne x;
    retired = λ seat y e ne x i. others_stay Finished finished_ne x;
    homes = λ k ne. refl;
    own_home = inl refl;
    empty = λ k ne. interval_empty workers s id inside left (λ hollow. omega (arith, hollow)) k;
    intervals = interval_lower workers s id inside left hands (lower_part workers s hands id ((s.interval id).low + n) (s.interval id).high inside (omega arith) (omega arith) (inl (omega (arith, some_more))));
    pieces = λ k less given. inl (given, refl);
    shares = λ x i. inl i;
    pending = λ x i. inl i;
    over = refl;
    over_long = refl;
  }

  book_now : IsBooked u
  book_now = record {
    early = λ e. absurd (let b = ap (λ (xs : List IndexLie). length xs) (booked.early e).0 in let c = some_there in omega (arith, b, c));
    whole = elim booked.whole [
      | inl e ↦ absurd (let b = ap (λ (xs : List IndexLie). length xs) e in let c = some_there in omega (arith, b, c))
      | inr e ↦ inr (same_long ∙ e)
    ];
    rises = take_rises from n 0 t.pieces booked.rises;
    fresh = λ i x e unclaimed_x. elim (range_or from n i) [
      | inl r ↦ (let c = unclaimed i r.0 r.1 in
          let same : x ≡ runs_now c.0 = some-injective x (runs_now c.0) (sym e ∙ run_at n from i c.0 t.indexes r.0 r.1 c.1) in
          absurd (running_ne (ap (λ (z : IndexLie). z.phase) (sym same) ∙ unclaimed_x)))
      | inr out ↦ booked.fresh i x (sym (run_else n from i t.indexes out) ∙ e) unclaimed_x
    ];
    book = subst (λ (z : List Phase). BookOk (record { pieces = take from n t.pieces; unretired = t.unretired }) z) (sym (run_phases n from t.indexes))
        (book_takes (record { pieces = t.pieces; unretired = t.unretired }) (map phase_in t.indexes) from n booked.book can);
  }

  -- an index of the chunk was not taken and is under way, and it is in the own hand
  tally_now : (i : ℕ) → index_tally is_taken (get_elem? u.indexes i) ≡ index_tally is_taken (get_elem? t.indexes i) + between from (from + n) i
  tally_now i = elim (range_or from n i) [
    | inl r ↦ (let c = unclaimed i r.0 r.1 in
        let a : index_tally is_taken (get_elem? t.indexes i) ≡ 0 = ap (index_tally is_taken) c.1 ∙ ap is_taken c.2 in
        let b : index_tally is_taken (get_elem? u.indexes i) ≡ 1 = ap (index_tally is_taken) (run_at n from i c.0 t.indexes r.0 r.1 c.1) in
        omega (arith, a, b, r.0, r.1))
    | inr out ↦ (let a = ap (index_tally is_taken) (run_else n from i t.indexes out) in
        elim out [ inl less ↦ omega (arith, a, less) | inr more ↦ omega (arith, a, more) ])
  ]

  retired_now : (i : ℕ) → index_tally is_retired (get_elem? u.indexes i) ≡ index_tally is_retired (get_elem? t.indexes i)
  retired_now i = elim (range_or from n i) [
    | inl r ↦ (let c = unclaimed i r.0 r.1 in
        ap (index_tally is_retired) (run_at n from i c.0 t.indexes r.0 r.1 c.1) ∙ sym (ap (index_tally is_retired) c.1 ∙ ap is_retired c.2))
    | inr out ↦ ap (index_tally is_retired) (run_else n from i t.indexes out)
  ]

  taken_now : (q : Path) (i : ℕ) → index_times q i l.taken + task_tally is_taken i (lies q) ≡ index_times q i h.loops.taken + task_tally is_taken i (lies' q)
  taken_now q i =
      let a = weigh_append (λ (e : IndexRun). one_if (same_path q e.spot.path && nat_eq i e.index)) h.loops.taken (chunk_of m t.first from n) in
      let b = chunk_times q i m t.first n from in
      elim (tally_put lies p t u is is_taken q i) [
        | inl c ↦ (let e = ap (λ (z : Bool). cond z (between from (from + n) i) 0) (ap (same_path q) c.0 ∙ same_self q) in
            let k = tally_now i in let x = c.1 in let y = c.2 in omega (arith, a, b, e, k, x, y))
        | inr c ↦ (let e = ap (λ (z : Bool). cond z (between from (from + n) i) 0) (same_not q p (λ d. c.0 (sym d))) in
            let x = c.1 in omega (arith, a, b, e, x))
      ]

  even : (x : ℕ) → sum_below workers (λ k. in_pair (s'.interval k) x) + (sum_below workers (λ k. in_given (s'.given k) (s'.piece k) x) + in_hand x h')
      ≡ sum_below workers (λ k. in_pair (s.interval k) x) + (sum_below workers (λ k. in_given (s.given k) (s.piece k) x) + in_hand x h)
  even x =
      let a = interval_positions workers s id inside left x in
      let b = weigh_append (λ (e : IndexRun). between e.position (suc e.position) x) h.loops.taken (chunk_of m t.first from n) in
      let c = chunk_positions x m t.first n from
      ∙ (λ i. between (sym begins i) (low_next i) x) in
      even_of _ _ _ _ _ _ _ _ _ _ _ a b (ap (λ k. k + between ((s.interval id).low + n) (s.interval id).high x) c
      ∙ between_joins (s.interval id).low ((s.interval id).low + n) (s.interval id).high x (omega arith) fits)
    where
      low_next : t.first + (from + n) ≡ (s.interval id).low + n
      low_next = omega (arith, begins)

  shown_now : (q : Path) (y : Lie) (z : Pair) → lies' q ≡ some y → is_gone y.stage ≡ false
      → shown_pieces workers s' (set hands id h') y.berth.at z ≡ count_piece z y.first y.pieces
  shown_now q y z e lives = elim (at_put lies p q u y e) [
    | inl c ↦ subst (λ (w : Lie). shown_pieces workers s' (set hands id h') w.berth.at z ≡ count_piece z w.first w.pieces) c.1 own
    | inr c ↦ (let ne : y.berth.at ≢ t.berth.at = (λ d. c.0 (sym (alone q y c.1 lives d))) in other y c.1 lives ne)
  ]
    where
      own : shown_pieces workers s' (set hands id h') t.berth.at z ≡ count_piece z t.first (take from n t.pieces)
      own =
          let a : ℕ = t.berth.at in
          let b = f.shown p t z is live in
          let c = shares_same workers lies s hands f id h at lies' s' l refl a z in
          let d = interval_shown workers s id inside left a z in
          let k = take_count t.first 0 from n to t.pieces booked.rises counted z in
          let x : piece_is (s.home id) (s.interval id).low (s.interval id).high a z ≡ pair_is (t.first + from) (t.first + to) z =
          ap (λ (word : ℕ). piece_is word (s.interval id).low (s.interval id).high a z) home
          ∙ (piece_own a (s.interval id).low (s.interval id).high z ∙ (left_some (s.interval id).low (s.interval id).high z long
          ∙ (λ i. pair_is (begins i) (sym ends i) z))) in
          let low : (s.interval id).low + n ≡ t.first + (from + n) = omega (arith, begins) in
          let y : piece_is (s.home id) left.low left.high a z ≡ left_is (t.first + (from + n)) (t.first + to) z =
          ap (λ (word : ℕ). piece_is word left.low left.high a z) home
          ∙ (piece_own a left.low left.high z ∙ (λ i. left_is (low i) (sym ends i) z)) in
          omega (arith, b, c, d, k, x, y)

      other : (y : Lie) → lies q ≡ some y → is_gone y.stage ≡ false → y.berth.at ≢ t.berth.at
          → shown_pieces workers s' (set hands id h') y.berth.at z ≡ count_piece z y.first y.pieces
      other y e lives ne =
          let a : ℕ = y.berth.at in
          let b = f.shown q y z e lives in
          let c = shares_same workers lies s hands f id h at lies' s' l refl a z in
          let d = interval_shown workers s id inside left a z in
          let x = no_piece (s.home id) (s.interval id).low (s.interval id).high a z (λ same more. ne (omega (arith, same, home))) in
          let y = no_piece (s.home id) left.low left.high a z (λ same more. ne (omega (arith, same, home))) in
          omega (arith, b, c, d, x, y)

  own_now : Turn workers lies s hands f.owner id h lies' s' l → Handles workers lies' f.owner s' (set hands id h') id h'
  own_now t' = let q = f.handles id h at in record {
    pending = λ x i. turn_pending x (q.pending x i);
    pieces = λ x i. share_grows lies lies' grow x (q.pieces x i);
    taken = λ e i. elim (in_append h.loops.taken (chunk_of m t.first from n) e i) [
      | inl old ↦ others_stay Running running_ne e (q.taken e old)
      | inr new ↦ index_new e (in_chunk m t.first n from e new)
    ];
    retired = λ e i. others_stay Finished finished_ne e (q.retired e i);
    placed = λ told x i. placed_put lies p t u is refl x (q.placed told x i);
    emptied = λ r i. emptied_grows lies lies' grow r (q.emptied r i);
    free = λ lives d. interval_empty workers s id inside left (λ hollow. omega (arith, hollow)) id (q.free lives d);
    home = q.home;
    sight = λ lives o d. seen_still workers lies s hands f id h at lies' s' l t' o (q.sight lives o d);
    overs = q.overs;
    held = q.held;
    crossed = q.crossed;
  }
    where
      turn_pending : (x : Share) → IsPending lies f.owner s.drawn x → IsPending lies' f.owner s.drawn x
      turn_pending x = pending_put lies p t u is refl (λ none_yet. absurd (let a = ap (λ (xs : List IndexLie). length xs) none_yet in let b = some_there in omega (arith, a, b))) f.owner s.drawn x

      index_new : (e : IndexRun) → InChunk m t.first from n e → IsIndex lies' Running e
      index_new e c =
          let x = unclaimed e.index c.low c.high in
          let nothing = booked.fresh e.index x.0 x.1 x.2 in
          record {
            task = u;
            index = runs_now x.0;
            is = ap lies' (ap (λ (z : Spot). z.path) c.spot) ∙ put_here lies p (some u);
            berth = ap (λ (z : Spot). z.berth) (sym c.spot);
            at = run_at n from e.index x.0 t.indexes c.low c.high x.1;
            position = c.position;
            phase_is = refl;
            answers = nothing.0 ∙ sym c.answers;
            count = nothing.1 ∙ sym c.done;
          }

  pub chunk_taken : Looped workers lies' s' (set hands id h')
  chunk_taken = assemble workers lies s hands f id h at lies' s' l turn (record {
    even = even;
    owned = owned_put lies p t u is workers s hands f same_long (λ e. refl);
    homes = interval_homes workers s id inside left lies lies' hands f grow (λ more. (let k = f.homes id inside long in
        let x = piece_grows lies lies' grow k.0 (s.interval id).low (s.interval id).high k.2 in
        (k.0, k.1, record { path = x.path; task = x.task; is = x.is; live = x.live; at = x.at; some_left = more; first = (let a = x.first in omega (arith, a)); last = x.last })));
    given = λ k a less e. piece_grows lies lies' grow a (s.piece k).low (s.piece k).high (f.given k a less e);
    booked = booked_put lies p t u is workers s hands f book_now;
    shown = shown_now;
    taken = taken_now;
    retired = λ q i. ap (λ n. index_times q i h.loops.retired + n) (sym (tally_same lies p t u is is_retired retired_now q i));
    left = left_put lies p t u is workers s hands f refl refl (set hands id h') (retired_same workers lies s hands f id h at lies' s' l refl);
    childless = childless_put lies p t u is workers s hands f same_long;
    own = own_now;
  })
