-- A split: a seat leaves a victim the first positions of its interval, and has the others in hand, in pieces.
use Rattle.std.proofs.Common.{◌≡◌, ◌≢◌, ℕ, suc, ◌+◌, ◌-◌, ◌<◌, ◌≤◌, ◌⊎◌, false, List, [], ◌∷◌, ◌++◌, length, set, map, sym, refl, ap, ◌∙◌, subst, inl, inr, arith, None, Some}
use mathlib.Core.Option.{some, some-injective}
use lib.ListN.{get_elem?}
use Rattle.kt_order.specs.Books.{Piece, BookOk, cut}
use Rattle.kt_order.specs.Forest.{Phase, Running, Finished}
use Rattle.kt_order.proofs.Books.{book_splits}
use Rattle.kt_runs.specs.ByPath.{Path}
use Rattle.kt_words.specs.declared.pairs.Pair.{Pair}
use Rattle.kt_split.specs.Splits.{Fill, IsCut}
use Rattle.kt_split.proofs.CutLemmas.{cuts_are_even}
use Rattle.kt_rule.specs.declared.views.Spot.{Spot}
use Rattle.kt_rule.specs.declared.views.Share.{Share}
use Rattle.kt_rule.specs.declared.views.IndexRun.{IndexRun}
use Rattle.kt_rule.specs.declared.views.LoopHands.{LoopHands}
use Rattle.kt_rule.specs.Paths.{put}
use Rattle.kt_rule.specs.Lists.{weigh, In}
use Rattle.kt_rule.specs.Lies.{Lie, Lies, is_gone}
use Rattle.kt_rule.specs.LoopWords.{LoopWords, Hand, between, sum_below}
use Rattle.kt_rule.specs.LoopFacts.{in_pair, in_given, in_hand, in_shares, IsBooked, IsPiece, IsShare, IsPending, IsIndex, index_times, is_taken, is_retired, piece_is, shown_pieces, count_piece, phase_in, Handles, Looped}
use Rattle.kt_rule.proofs.Puts.{put_here, at_put}
use Rattle.kt_rule.proofs.Sums.{weigh_append, in_append, in_cons}
use Rattle.kt_rule.proofs.LoopsStay.{no_piece}
use Rattle.kt_pieces.specs.Changes.{at_worker, cut_all, shares_of}
use Rattle.kt_pieces.proofs.Counted.{pair, pair_is, left_some, piece_own, begins_after, all_rises, fill_up, split_count}
use Rattle.kt_pieces.proofs.Turns.{Lower, lower_part, Grows, AllGrow, piece_grows, share_grows, emptied_grows, Turn, shares_with, hands_sum, retired_same, assemble}
use Rattle.kt_pieces.proofs.Tasks.{put_grows, pending_put, placed_put, index_put, tally_same, booked_put, left_put, owned_put, childless_put}
use Rattle.kt_pieces.proofs.Intervals.{interval_positions, interval_shown, interval_lower, interval_empty, interval_homes, interval_some}

-- THE PIECES THAT ARE GIVEN

pub record InShares (m : Spot) (from to : ℕ) (x : Share) : Type 0 where
  pub spot : x.spot ≡ m
  pub low : from ≤ x.low
  pub some_left : x.low < x.high
  pub high : x.high ≤ to

pub in_shares_of : (m : Spot) (xs : List Pair) (from to : ℕ) (x : Share) → Fill from xs to → In x (shares_of m xs) → InShares m from to x
in_shares_of m [] from to x fill i = elim i [ ]
in_shares_of m (y ∷ xs) from to x fill i =
    let up = fill_up xs y.high to fill.2 in
    elim (in_cons x (record { spot = m; low = y.low; high = y.high }) (shares_of m xs) i) [
      | inl h ↦ subst (InShares m from to) (sym h) (record { spot = refl; low = omega (arith, fill.0); some_left = fill.1; high = up })
      | inr h ↦ (let r = in_shares_of m xs y.high to x fill.2 h in record {
        spot = r.spot;
        low = (let a = r.low in omega (arith, a, fill.0, fill.1));
        some_left = r.some_left;
        high = r.high;
      })
    ]

pub shares_positions : (m : Spot) (xs : List Pair) (from to x : ℕ) → Fill from xs to → in_shares x (shares_of m xs) ≡ between from to x
shares_positions m [] from to x fill = omega (arith, fill)
shares_positions m (y ∷ xs) from to x fill =
    let r = shares_positions m xs y.high to x fill.2 in
    let up = fill_up xs y.high to fill.2 in
    omega (arith, r, up, fill.0, fill.1)

-- as they are shown, of their own loop and of another
pub shares_own : (m : Spot) (xs : List Pair) (from to : ℕ) (q : Pair) → Fill from xs to
    → weigh (λ (x : Share). piece_is (suc x.spot.berth.at) x.low x.high m.berth.at q) (shares_of m xs)
    ≡ weigh (λ (x : Pair). pair_is x.low x.high q) xs
shares_own m [] from to q fill = refl
shares_own m (y ∷ xs) from to q fill =
    let r = shares_own m xs y.high to q fill.2 in
    let e = piece_own m.berth.at y.low y.high q ∙ left_some y.low y.high q fill.1 in
    omega (arith, r, e)

pub shares_other : (m : Spot) (xs : List Pair) (a : ℕ) (q : Pair) → a ≢ m.berth.at
    → weigh (λ (x : Share). piece_is (suc x.spot.berth.at) x.low x.high a q) (shares_of m xs) ≡ 0
shares_other m [] a q ne = refl
shares_other m (y ∷ xs) a q ne =
    let r = shares_other m xs a q ne in
    let e = no_piece (suc m.berth.at) y.low y.high a q (λ same more. ne (omega (arith, same))) in
    omega (arith, r, e)

book_all : (first k : ℕ) (xs : List Pair) (pieces : List Piece) (phases : List Phase) → BookOk (record { pieces = pieces; unretired = k }) phases
    → BookOk (record { pieces = cut_all first xs pieces; unretired = k }) phases
book_all first k [] pieces phases ok = ok
book_all first k (x ∷ xs) pieces phases ok = book_all first k xs (cut (x.low - first) pieces) phases
    (book_splits (record { pieces = pieces; unretired = k }) phases (x.low - first) ok)

-- THE SPLIT

even_of : (now then own left given pending taken retired new pieces after : ℕ) → now + own ≡ then + left → after ≡ new + pieces → left + new ≡ own
    → now + (given + (pending + (after + (taken + retired)))) ≡ then + (given + (pending + (pieces + (taken + retired))))
even_of now then own left given pending taken retired new pieces after a b c = omega (arith, a, b, c)

between_joins : (a b c x : ℕ) → a ≤ b → b ≤ c → between a b x + between b c x ≡ between a c x
between_joins a b c x less more = omega (arith, less, more)

-- the loop at a path, whose positions `low` to `high` are the interval of worker k; this one keeps those below `middle`
module _ (workers : ℕ) (lies : Lies) (s : LoopWords) (hands : List Hand) (f : Looped workers lies s hands) (id : ℕ) (h : Hand)
    (at : get_elem? hands id ≡ some h) (k : ℕ) (inside : k < workers) (p : Path) (t : Lie) (is : lies p ≡ some t) (live : is_gone t.stage ≡ false)
    (alone : (q : Path) (y : Lie) → lies q ≡ some y → is_gone y.stage ≡ false → y.berth.at ≡ t.berth.at → q ≡ p)
    (home : s.home k ≡ suc t.berth.at) (low middle high : ℕ) (found : s.interval k ≡ pair low high) (keeps : low < middle) (gives : middle < high)
    (xs : List Pair) (fill : Fill middle xs high) where
  abbrev m : Spot
  m = record { berth = t.berth; path = p }

  abbrev u : Lie
  u = record t { pieces = cut_all t.first xs t.pieces }

  abbrev lies' : Lies
  lies' = put lies p (some u)

  abbrev left : Pair
  left = pair low middle

  abbrev s' : LoopWords
  s' = record s { interval = at_worker s.interval k left }

  abbrev l : LoopHands
  l = record h.loops { pieces = shares_of m xs ++ h.loops.pieces; sight = None }

  abbrev h' : Hand
  h' = record h { loops = l }

  low_is : (s.interval k).low ≡ low
  low_is = ap (λ (z : Pair). z.low) found

  high_is : (s.interval k).high ≡ high
  high_is = ap (λ (z : Pair). z.high) found

  long : (s.interval k).low < (s.interval k).high
  long = let a = low_is in let b = high_is in omega (arith, a, b, keeps, gives)

  counted : 1 ≤ count_piece (pair low high) t.first t.pieces
  counted =
      let a = interval_some workers s hands k t.berth.at inside home long in
      let b = f.shown p t (pair (s.interval k).low (s.interval k).high) is live in
      subst (λ (z : Pair). 1 ≤ count_piece (pair z.low z.high) t.first t.pieces) found (omega (arith, a, b))

  booked : IsBooked t
  booked = f.booked p t is

  from : t.first ≤ low
  from = let a = begins_after t.first 0 t.pieces (pair low high) booked.rises counted in omega (arith, a)

  grows : Grows t u
  grows = record { berth = refl; gone = refl; first = λ e. refl; long = λ e. refl; emptied = λ late none_left. (late, none_left) }

  grow : AllGrow lies lies'
  grow = put_grows lies p t u is grows

  others_stay : (phase : Phase) (e : IndexRun) → IsIndex lies phase e → IsIndex lies' phase e
  others_stay phase e = index_put lies p t u is refl (λ some_index. refl) phase e (λ x same there phase_is. there)

  others_wait : (x : Share) → IsPending lies f.owner s.drawn x → IsPending lies' f.owner s.drawn x
  others_wait x = pending_put lies p t u is refl (λ none_yet. none_yet) f.owner s.drawn x

  -- the piece of the victim's loop
  piece : (a : ℕ) × (s.home k ≡ suc a) × IsPiece lies a (s.interval k).low (s.interval k).high
  piece = f.homes k inside long

  lower : (from to : ℕ) → low ≤ from → to ≤ high → (low < from) ⊎ (to < high) → Lower workers s hands from to
  lower from to a b part = let x = low_is in let y = high_is in
      lower_part workers s hands k from to inside (omega (arith, a, x)) (omega (arith, b, y))
      (elim part [ inl less ↦ inl (omega (arith, less, x)) | inr less ↦ inr (omega (arith, less, y)) ])

  new_lower : (x : Share) → InShares m middle high x → Lower workers s hands x.low x.high
  new_lower x c = lower x.low x.high (let a = c.low in omega (arith, a, keeps)) c.high (inl (let a = c.low in omega (arith, a, keeps)))

  turn : Turn workers lies s hands f.owner id h lies' s' l
  turn = record {
    drawn = refl;
    grow = grow;
    waiting = λ seat y e ne x i. others_wait x;
    placed = λ seat y e ne x i. placed_put lies p t u is refl x;
    taken = λ seat y e ne x i. others_stay Running x;
    retired = λ seat y e ne x i. others_stay Finished x;
    homes = λ j ne. refl;
    own_home = inl refl;
    empty = λ j ne. interval_empty workers s k inside left (λ hollow. absurd (let a = long in omega (arith, hollow, a))) j;
    intervals = interval_lower workers s k inside left hands (lower low middle (omega arith) (omega (arith, gives)) (inr gives));
    pieces = λ j less given. inl (given, refl);
    shares = λ x i. elim (in_append (shares_of m xs) h.loops.pieces x i) [
      | inl new ↦ inr (new_lower x (in_shares_of m xs middle high x fill new))
      | inr old ↦ inl old
    ];
    pending = λ x i. inl i;
    over = refl;
    over_long = refl;
  }

  book_now : IsBooked u
  book_now = record {
    early = booked.early;
    whole = booked.whole;
    rises = all_rises t.first 0 xs t.pieces booked.rises;
    fresh = booked.fresh;
    book = book_all t.first t.unretired xs t.pieces (map phase_in t.indexes) booked.book;
  }

  even : (x : ℕ) → sum_below workers (λ j. in_pair (s'.interval j) x) + (sum_below workers (λ j. in_given (s'.given j) (s'.piece j) x) + in_hand x h')
      ≡ sum_below workers (λ j. in_pair (s.interval j) x) + (sum_below workers (λ j. in_given (s.given j) (s.piece j) x) + in_hand x h)
  even x =
      let a = interval_positions workers s k inside left x in
      let b = weigh_append (λ (y : Share). between y.low y.high x) (shares_of m xs) h.loops.pieces in
      let c = shares_positions m xs middle high x fill in
      even_of _ _ _ _ _ _ _ _ _ _ _ a b (ap (λ n. between low middle x + n) c
      ∙ (between_joins low middle high x (omega (arith, keeps)) (omega (arith, gives)) ∙ ap (λ (z : Pair). in_pair z x) (sym found)))

  shown_now : (q : Path) (y : Lie) (z : Pair) → lies' q ≡ some y → is_gone y.stage ≡ false
      → shown_pieces workers s' (set hands id h') y.berth.at z ≡ count_piece z y.first y.pieces
  shown_now q y z e lives = elim (at_put lies p q u y e) [
    | inl c ↦ subst (λ (w : Lie). shown_pieces workers s' (set hands id h') w.berth.at z ≡ count_piece z w.first w.pieces) c.1 own
    | inr c ↦ (let ne : y.berth.at ≢ t.berth.at = (λ d. c.0 (sym (alone q y c.1 lives d))) in other y c.1 lives ne)
  ]
    where
      hand_sum : (a : ℕ) → weigh (shares_with a z) (set hands id h') ≡ weigh (shares_with a z) hands
          + weigh (λ (x : Share). piece_is (suc x.spot.berth.at) x.low x.high a z) (shares_of m xs)
      hand_sum a =
          let b = hands_sum workers lies s hands f id h at lies' s' l (shares_with a z) in
          let c = weigh_append (λ (x : Share). piece_is (suc x.spot.berth.at) x.low x.high a z) (shares_of m xs) h.loops.pieces in
          omega (arith, b, c)

      own : shown_pieces workers s' (set hands id h') t.berth.at z ≡ count_piece z t.first (cut_all t.first xs t.pieces)
      own =
          let a : ℕ = t.berth.at in
          let b = f.shown p t z is live in
          let c = hand_sum a in
          let d = interval_shown workers s k inside left a z in
          let g = shares_own m xs middle high z fill in
          let n = split_count t.first 0 low middle high xs t.pieces booked.rises from keeps fill counted z in
          let x : piece_is (s.home k) (s.interval k).low (s.interval k).high a z ≡ pair_is low high z =
          (λ i. piece_is (home i) (found i).low (found i).high a z) ∙ (piece_own a low high z ∙ left_some low high z (omega (arith, keeps, gives))) in
          let y : piece_is (s.home k) low middle a z ≡ pair_is low middle z =
          ap (λ (word : ℕ). piece_is word low middle a z) home ∙ (piece_own a low middle z ∙ left_some low middle z keeps) in
          omega (arith, b, c, d, g, n, x, y)

      other : (y : Lie) → lies q ≡ some y → is_gone y.stage ≡ false → y.berth.at ≢ t.berth.at
          → shown_pieces workers s' (set hands id h') y.berth.at z ≡ count_piece z y.first y.pieces
      other y e lives ne =
          let a : ℕ = y.berth.at in
          let b = f.shown q y z e lives in
          let c = hand_sum a in
          let d = interval_shown workers s k inside left a z in
          let g = shares_other m xs a z ne in
          let x = no_piece (s.home k) (s.interval k).low (s.interval k).high a z (λ same more. ne (omega (arith, same, home))) in
          let y = no_piece (s.home k) low middle a z (λ same more. ne (omega (arith, same, home))) in
          omega (arith, b, c, d, g, x, y)

  own_now : Turn workers lies s hands f.owner id h lies' s' l → Handles workers lies' f.owner s' (set hands id h') id h'
  own_now t' = let q = f.handles id h at in record {
    pending = λ x i. others_wait x (q.pending x i);
    pieces = λ x i. elim (in_append (shares_of m xs) h.loops.pieces x i) [
      | inl new ↦ share_new x (in_shares_of m xs middle high x fill new)
      | inr old ↦ share_grows lies lies' grow x (q.pieces x old)
    ];
    taken = λ e i. others_stay Running e (q.taken e i);
    retired = λ e i. others_stay Finished e (q.retired e i);
    placed = λ told x i. placed_put lies p t u is refl x (q.placed told x i);
    emptied = λ r i. emptied_grows lies lies' grow r (q.emptied r i);
    free = λ lives d. interval_empty workers s k inside left (λ hollow. absurd (let a = long in omega (arith, hollow, a))) id (q.free lives d);
    home = q.home;
    sight = λ lives o d. absurd (none_some d);
    overs = q.overs;
    held = q.held;
    crossed = q.crossed;
  }
    where
      none_some : {A : Type 0} {o : A} → None ≡ Some o → ⊥
      none_some e = cc

      -- where the indexes of the loop end
      last : high ≤ t.first + length t.indexes
      last =
          let x = piece.2 in
          let same : x.task.berth.at ≡ t.berth.at = (let a = piece.1 in let b = x.at in omega (arith, a, b, home)) in
          let path = alone x.path x.task x.is x.live same in
          let task : x.task ≡ t = some-injective x.task t (sym x.is ∙ (ap lies path ∙ is)) in
          let a = x.last in
          let b = ap (λ (z : Lie). z.first + length z.indexes) task in
          let c = high_is in
          omega (arith, a, b, c)

      share_new : (x : Share) → InShares m middle high x → IsShare lies' x
      share_new x c = record {
        task = u;
        is = ap lies' (ap (λ (z : Spot). z.path) c.spot) ∙ put_here lies p (some u);
        berth = ap (λ (z : Spot). z.berth) (sym c.spot);
        live = live;
        some_left = c.some_left;
        first = (let a = c.low in let b = from in omega (arith, a, b, keeps));
        last = (let a = c.high in let b = last in omega (arith, a, b));
      }

  pub split_given : Looped workers lies' s' (set hands id h')
  split_given = assemble workers lies s hands f id h at lies' s' l turn (record {
    even = even;
    owned = owned_put lies p t u is workers s hands f refl (λ e. refl);
    homes = interval_homes workers s k inside left lies lies' hands f grow (λ more. (let x = piece_grows lies lies' grow piece.0 (s.interval k).low (s.interval k).high piece.2 in
        let a = low_is in let b = high_is in
        (piece.0, piece.1, record { path = x.path; task = x.task; is = x.is; live = x.live; at = x.at; some_left = more; first = (let c = x.first in omega (arith, a, c)); last = (let c = x.last in omega (arith, b, c, gives)) })));
    given = λ j a less e. piece_grows lies lies' grow a (s.piece j).low (s.piece j).high (f.given j a less e);
    booked = booked_put lies p t u is workers s hands f book_now;
    shown = shown_now;
    taken = λ q i. ap (λ n. index_times q i h.loops.taken + n) (sym (tally_same lies p t u is is_taken (λ j. refl) q i));
    retired = λ q i. ap (λ n. index_times q i h.loops.retired + n) (sym (tally_same lies p t u is is_retired (λ j. refl) q i));
    left = left_put lies p t u is workers s hands f refl refl (set hands id h') (retired_same workers lies s hands f id h at lies' s' l refl);
    childless = childless_put lies p t u is workers s hands f refl;
    own = own_now;
  })

-- an interval that is cut keeps positions, and gives some
pub cut_gives : (low high parts : ℕ) (left : Pair) (pieces : List Pair) → low + 2 ≤ high → 1 ≤ parts
    → IsCut (record { low = low; high = high }) parts left pieces → (low < left.high) × (left.high < high) × Fill left.high pieces high
cut_gives low high parts left pieces long some_parts cut =
    let even = cuts_are_even (record { low = low; high = high }) parts left pieces (omega (arith, long)) some_parts cut in
    let first = cut.first in
    let keeps = even.keeps in
    (omega (arith, keeps, first), some_behind pieces left.high high even.gives cut.fill, cut.fill)
  where
    some_behind : (xs : List Pair) (from to : ℕ) → 1 ≤ length xs → Fill from xs to → from < to
    some_behind [] from to some_there fill = absurd (omega (arith, some_there))
    some_behind (x ∷ xs) from to some_there fill = let up = fill_up xs x.high to fill.2 in omega (arith, fill.0, fill.1, up)
