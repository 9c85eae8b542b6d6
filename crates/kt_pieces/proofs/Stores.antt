-- Stores of the words of loops: the own home word, a piece as the own interval, and the first position in the record of a loop.
use Rattle.std.proofs.Common.{◌≡◌, ◌≢◌, ℕ, suc, ◌+◌, ◌<◌, ◌≤◌, ◌&&◌, Bool, true, false, cond, nat_eq, eq-eqb, ne_eqb, List, [], ◌∷◌, length, map, set, sym, refl, ap, ◌∙◌, subst, inl, inr, arith}
use mathlib.Core.Option.{some, some-injective}
use lib.ListN.{get_elem?}
use Rattle.kt_order.specs.Books.{untaken}
use Rattle.kt_order.specs.Forest.{Phase, Running, Finished}
use Rattle.kt_runs.specs.ByPath.{Path}
use Rattle.kt_words.specs.declared.pairs.Pair.{Pair}
use Rattle.kt_rule.specs.declared.views.Berth.{Berth}
use Rattle.kt_rule.specs.declared.views.Share.{Share}
use Rattle.kt_rule.specs.declared.views.IndexRun.{IndexRun}
use Rattle.kt_rule.specs.declared.views.LoopHands.{LoopHands}
use Rattle.kt_rule.specs.Paths.{put}
use Rattle.kt_rule.specs.Lists.{weigh, In, here, there}
use Rattle.kt_rule.specs.Lies.{IndexLie, Lie, Lies}
use Rattle.kt_rule.specs.LoopWords.{LoopWords, Hand, between}
use Rattle.kt_rule.specs.LoopFacts.{in_pair, in_hand, in_shares, IsBooked, IsShare, IsPending, IsPlaced, IsIndex, index_times, is_taken, is_retired, piece_is, count_piece, phase_in, Looped}
use Rattle.kt_rule.proofs.Puts.{put_here, put_else}
use Rattle.kt_rule.proofs.Sums.{weigh_one, in_cons}
use Rattle.kt_pieces.specs.Changes.{at_worker, without_piece}
use Rattle.kt_pieces.proofs.Loads.{share_most}
use Rattle.kt_pieces.proofs.Changed.{one_or, at_here, at_else, sum_at}
use Rattle.kt_pieces.proofs.Turns.{in_at, AllGrow, all_grow, piece_grows, share_grows, emptied_grows, Turn, shares_with, hands_sum, shares_same, retired_same, seen_still, assemble}
use Rattle.kt_pieces.proofs.Tasks.{put_grows, pending_put, index_put, tally_same, booked_put, left_put, shown_put, owned_put, childless_put}
use Rattle.kt_pieces.proofs.Intervals.{interval_positions, interval_shown, interval_lower, interval_homes}
use Rattle.kt_pieces.proofs.Begins.{no_pieces, hollow_none}

-- THE OWN HOME WORD, AS LONG AS THE OWN INTERVAL IS EMPTY

module _ (workers : ℕ) (lies : Lies) (s : LoopWords) (hands : List Hand) (f : Looped workers lies s hands) (id : ℕ) (h : Hand)
    (at : get_elem? hands id ≡ some h) (inside : id < workers) (lives : 0 < h.parts) (free : h.loops.free ≡ true) (word : ℕ) where
  abbrev home_words : LoopWords
  home_words = record s { home = at_worker s.home id word }

  abbrev home_hands : LoopHands
  home_hands = record h.loops { home = word }

  home_hollow : (s.interval id).high ≤ (s.interval id).low
  home_hollow = (f.handles id h at).free lives free

  home_turn : Turn workers lies s hands f.owner id h lies home_words home_hands
  home_turn = record {
    drawn = refl;
    grow = all_grow lies;
    waiting = λ seat y e ne x i q. q;
    placed = λ seat y e ne x i q. q;
    taken = λ seat y e ne x i q. q;
    retired = λ seat y e ne x i q. q;
    homes = λ k ne. at_else s.home id word k ne;
    own_home = inr home_hollow;
    empty = λ k ne e. e;
    intervals = λ k less. inl refl;
    pieces = λ k less given. inl (given, refl);
    shares = λ x i. inl i;
    pending = λ x i. inl i;
    over = refl;
    over_long = refl;
  }

  pub home_stored : Looped workers lies home_words (set hands id (record h { loops = home_hands }))
  home_stored = assemble workers lies s hands f id h at lies home_words home_hands home_turn (record {
    even = λ x. refl;
    owned = f.owned;
    homes = λ k less long. elim (one_or k id) [
      | inl same ↦ absurd (let a : (s.interval id).low < (s.interval id).high = subst (λ (j : ℕ). (s.interval j).low < (s.interval j).high) same long in
          let b = home_hollow in omega (arith, a, b))
      | inr ne ↦ (let q = f.homes k less long in (q.0, at_else s.home id word k ne ∙ q.1, q.2))
    ];
    given = f.given;
    booked = f.booked;
    shown = λ p t q is live. (let a = f.shown p t q is live in
        let b = shares_same workers lies s hands f id h at lies home_words home_hands refl t.berth.at q in
        let c = sum_at workers (λ i (w : ℕ). piece_is w (s.interval i).low (s.interval i).high t.berth.at q) s.home id word inside in
        let d = hollow_none (s.home id) (s.interval id) t.berth.at q home_hollow in
        let e = hollow_none word (s.interval id) t.berth.at q home_hollow in
        omega (arith, a, b, c, d, e));
    taken = λ p i. refl;
    retired = λ p i. refl;
    left = λ p t is. (let a = f.left p t is in
        let b = retired_same workers lies s hands f id h at lies home_words home_hands refl p in
        omega (arith, a, b));
    childless = f.childless;
    own = λ t'. (let q = f.handles id h at in record {
      pending = q.pending;
      pieces = q.pieces;
      taken = q.taken;
      retired = q.retired;
      placed = q.placed;
      emptied = q.emptied;
      free = q.free;
      home = λ alive. at_here s.home id word;
      sight = λ alive n e. seen_still workers lies s hands f id h at lies home_words home_hands t' n (q.sight alive n e);
      overs = q.overs;
      held = q.held;
      crossed = q.crossed;
    });
  })

-- A PIECE IN HAND BECOMES THE OWN INTERVAL

-- a hand has one piece at most that begins at a position
keeps_one : (a low : ℕ) (y : Share) (xs : List Share) → low ≢ y.low → without_piece a low (y ∷ xs) ≡ y ∷ without_piece a low xs
keeps_one a low y xs other = ap (λ (b : Bool). cond b (without_piece a low xs) (y ∷ without_piece a low xs))
    (and_false (nat_eq a y.spot.berth.at) (nat_eq low y.low) (ne_eqb low y.low other))
  where
    and_false : (b c : Bool) → c ≡ false → (b && c) ≡ false
    and_false true c e = e
    and_false false c e = refl

drops_one : (x : Share) (xs : List Share) → without_piece x.spot.berth.at x.low (x ∷ xs) ≡ without_piece x.spot.berth.at x.low xs
drops_one x xs = λ i. cond (eq-eqb x.spot.berth.at x.spot.berth.at refl i && eq-eqb x.low x.low refl i)
    (without_piece x.spot.berth.at x.low xs) (x ∷ without_piece x.spot.berth.at x.low xs)

keeps_all : (a low : ℕ) (xs : List Share) → ((y : Share) → In y xs → y.low < y.high) → in_shares low xs ≡ 0 → without_piece a low xs ≡ xs
keeps_all a low [] long none_there = refl
keeps_all a low (y ∷ xs) long none_there =
    let some_left = long y here in
    let rest = keeps_all a low xs (λ z i. long z (there i)) (omega (arith, none_there)) in
    keeps_one a low y xs (λ e. omega (arith, e, none_there, some_left)) ∙ ap (λ (zs : List Share). y ∷ zs) rest

-- so all without it are all but this one
pub without_one : (g : Share → ℕ) (xs : List Share) (x : Share) → In x xs → ((y : Share) → In y xs → y.low < y.high) → in_shares x.low xs ≤ 1
    → weigh g xs ≡ g x + weigh g (without_piece x.spot.berth.at x.low xs)
without_one g [] x i long once = elim i [ ]
without_one g (y ∷ xs) x i long once = elim (in_cons x y xs i) [
  | inl same ↦ (let some_left : x.low < x.high = long x i in
      let is : between y.low y.high x.low ≡ between x.low x.high x.low = ap (λ (z : Share). between z.low z.high x.low) (sym same) in
      let rest = keeps_all x.spot.berth.at x.low xs (λ z k. long z (there k)) (omega (arith, some_left, is, once)) in
      let e : g y ≡ g x = ap g (sym same) in
      let now : weigh g (without_piece x.spot.berth.at x.low (y ∷ xs)) ≡ weigh g xs =
      ap (λ (z : Share). weigh g (without_piece x.spot.berth.at x.low (z ∷ xs))) (sym same) ∙ ap (weigh g) (drops_one x xs ∙ rest) in
      omega (arith, e, now))
  | inr k ↦ (let some_left : x.low < x.high = long x i in
      let more = long y here in
      let most = share_most x.low xs x k in
      let rest = without_one g xs x k (λ z j. long z (there j)) (omega (arith, once)) in
      let now : weigh g (without_piece x.spot.berth.at x.low (y ∷ xs)) ≡ g y + weigh g (without_piece x.spot.berth.at x.low xs) =
      ap (weigh g) (keeps_one x.spot.berth.at x.low y xs (λ e. omega (arith, e, once, most, some_left, more))) in
      omega (arith, rest, now))
]

pub in_without : (a low : ℕ) (xs : List Share) (x : Share) → In x (without_piece a low xs) → In x xs
in_without a low [] x i = elim i [ ]
in_without a low (y ∷ xs) x i = go (nat_eq a y.spot.berth.at && nat_eq low y.low) i (in_without a low xs x)
  where
    go : (b : Bool) → In x (cond b (without_piece a low xs) (y ∷ without_piece a low xs)) → (In x (without_piece a low xs) → In x xs) → In x (y ∷ xs)
    go true i rest = there (rest i)
    go false i rest = elim (in_cons x y (without_piece a low xs) i) [
      | inl e ↦ subst (λ z. In z (y ∷ xs)) (sym e) here
      | inr h ↦ there (rest h)
    ]

piece_even : (now then own fresh given pending pieces after taken retired : ℕ) → now + own ≡ then + fresh → own ≡ 0 → pieces ≡ fresh + after
    → now + (given + (pending + (after + (taken + retired)))) ≡ then + (given + (pending + (pieces + (taken + retired))))
piece_even now then own fresh given pending pieces after taken retired a b c = omega (arith, a, b, c)

module _ (workers : ℕ) (lies : Lies) (s : LoopWords) (hands : List Hand) (f : Looped workers lies s hands) (id : ℕ) (h : Hand)
    (at : get_elem? hands id ≡ some h) (inside : id < workers) (lives : 0 < h.parts) (free : h.loops.free ≡ true) (x : Share)
    (mine : In x h.loops.pieces) (home : h.loops.home ≡ suc x.spot.berth.at) where
  abbrev after : List Share
  after = without_piece x.spot.berth.at x.low h.loops.pieces

  abbrev own : Pair
  own = record { low = x.low; high = x.high }

  abbrev s' : LoopWords
  s' = record s { interval = at_worker s.interval id own }

  abbrev l : LoopHands
  l = record h.loops { pieces = after; free = false }

  hollow : (s.interval id).high ≤ (s.interval id).low
  hollow = (f.handles id h at).free lives free

  home_is : s.home id ≡ suc x.spot.berth.at
  home_is = (f.handles id h at).home lives ∙ home

  was_mine : (y : Share) → In y after → In y h.loops.pieces
  was_mine = in_without x.spot.berth.at x.low h.loops.pieces

  share : IsShare lies x
  share = (f.handles id h at).pieces x mine

  -- a position is in one piece at most
  once : (y : ℕ) → in_shares y h.loops.pieces ≤ 1
  once y = let a = f.positions y in let b = weigh_one (λ (z : Hand). in_hand y z) hands id h at in omega (arith, a, b)

  without : (g : Share → ℕ) → weigh g h.loops.pieces ≡ g x + weigh g after
  without g = without_one g h.loops.pieces x mine (λ y i. ((f.handles id h at).pieces y i).some_left) (once x.low)

  turn : Turn workers lies s hands f.owner id h lies s' l
  turn = record {
    drawn = refl;
    grow = all_grow lies;
    waiting = λ seat y e ne z i q. q;
    placed = λ seat y e ne z i q. q;
    taken = λ seat y e ne z i q. q;
    retired = λ seat y e ne z i q. q;
    homes = λ k ne. refl;
    own_home = inl refl;
    empty = λ k ne e. subst (λ (z : Pair). z.high ≤ z.low) (sym (at_else s.interval id own k ne)) e;
    intervals = interval_lower workers s id inside own hands (λ n q. q.shares h (in_at hands id h at) x mine);
    pieces = λ k less given. inl (given, refl);
    shares = λ y i. inl (was_mine y i);
    pending = λ y i. inl i;
    over = refl;
    over_long = refl;
  }

  pub piece_taken : Looped workers lies s' (set hands id (record h { loops = l }))
  piece_taken = assemble workers lies s hands f id h at lies s' l turn (record {
    even = λ y. piece_even _ _ _ _ _ _ _ _ _ _ (interval_positions workers s id inside own y) (none_in y) (without (λ (z : Share). between z.low z.high y));
    owned = f.owned;
    homes = interval_homes workers s id inside own lies lies hands f (all_grow lies) (λ more. (
      x.spot.berth.at,
      home_is,
      record {
        path = x.spot.path;
        task = share.task;
        is = share.is;
        live = share.live;
        at = ap (λ (z : Berth). z.at) share.berth;
        some_left = more;
        first = share.first;
        last = share.last;
      },
    ));
    given = f.given;
    booked = f.booked;
    shown = λ p t q is live. (let a = f.shown p t q is live in
        let b = hands_sum workers lies s hands f id h at lies s' l (shares_with t.berth.at q) in
        let c = interval_shown workers s id inside own t.berth.at q in
        let d = hollow_none (s.home id) (s.interval id) t.berth.at q hollow in
        let e = without (λ (z : Share). piece_is (suc z.spot.berth.at) z.low z.high t.berth.at q) in
        let g : piece_is (s.home id) x.low x.high t.berth.at q ≡ piece_is (suc x.spot.berth.at) x.low x.high t.berth.at q =
        ap (λ (w : ℕ). piece_is w x.low x.high t.berth.at q) home_is in
        omega (arith, a, b, c, d, e, g));
    taken = λ p i. refl;
    retired = λ p i. refl;
    left = λ p t is. (let a = f.left p t is in
        let b = retired_same workers lies s hands f id h at lies s' l refl p in
        omega (arith, a, b));
    childless = f.childless;
    own = λ t'. (let q = f.handles id h at in record {
      pending = q.pending;
      pieces = λ y i. q.pieces y (was_mine y i);
      taken = q.taken;
      retired = q.retired;
      placed = q.placed;
      emptied = q.emptied;
      free = λ alive e. absurd (false_true e);
      home = q.home;
      sight = λ alive n e. seen_still workers lies s hands f id h at lies s' l t' n (q.sight alive n e);
      overs = q.overs;
      held = q.held;
      crossed = q.crossed;
    });
  })
    where
      false_true : false ≡ true → ⊥
      false_true e = cc

      none_in : (y : ℕ) → in_pair (s.interval id) y ≡ 0
      none_in y = omega (arith, hollow)

-- THE FIRST POSITION, IN THE RECORD OF A LOOP THAT IS ABOUT TO BEGIN

module _ (workers : ℕ) (lies : Lies) (s : LoopWords) (hands : List Hand) (f : Looped workers lies s hands) (id : ℕ) (h : Hand)
    (at : get_elem? hands id ≡ some h) (x : Share) (drawn : h.loops.pending ≡ x ∷ []) (p : Path) (path : x.spot.path ≡ p) (t : Lie) (is : lies p ≡ some t)
    (others : (seat : ℕ) (y : Hand) → get_elem? hands seat ≡ some y → seat ≢ id → (z : Share) → In z y.loops.pending → z.spot.path ≢ p) where
  abbrev u : Lie
  u = record t { first = x.low }

  abbrev first_lies : Lies
  first_lies = put lies p (some u)

  abbrev first_hands : LoopHands
  first_hands = record h.loops { placed = true }

  first_none : t.indexes ≡ []
  first_none =
      let q = (f.handles id h at).pending x (subst (In x) (sym drawn) here) in
      ap (λ (z : Lie). z.indexes) (some-injective t q.task (sym is ∙ (ap lies (sym path) ∙ q.is))) ∙ q.none_yet

  first_grow : AllGrow lies first_lies
  first_grow = put_grows lies p t u is (record {
    berth = refl;
    gone = refl;
    first = λ some_there. absurd (let a = ap (λ (xs : List IndexLie). length xs) first_none in omega (arith, a, some_there));
    long = λ some_there. refl;
    emptied = λ late none_left. (late, none_left);
  })

  first_waits : (y : Share) → IsPending lies f.owner s.drawn y → IsPending first_lies f.owner s.drawn y
  first_waits y = pending_put lies p t u is refl (λ none_yet. none_yet) f.owner s.drawn y

  first_stays : (phase : Phase) (e : IndexRun) → IsIndex lies phase e → IsIndex first_lies phase e
  first_stays phase e = index_put lies p t u is refl
      (λ some_there. absurd (let a = ap (λ (xs : List IndexLie). length xs) first_none in omega (arith, a, some_there))) phase e
      (λ y same there phase_is. there)

  placed_else : (z : Share) → z.spot.path ≢ p → IsPlaced lies z → IsPlaced first_lies z
  placed_else z ne q = (q.0, put_else lies p (some u) z.spot.path (λ e. ne (sym e)) ∙ q.1, q.2)

  first_turn : Turn workers lies s hands f.owner id h first_lies s first_hands
  first_turn = record {
    drawn = refl;
    grow = first_grow;
    waiting = λ seat y e ne z i. first_waits z;
    placed = λ seat y e ne z i. placed_else z (others seat y e ne z i);
    taken = λ seat y e ne z i. first_stays Running z;
    retired = λ seat y e ne z i. first_stays Finished z;
    homes = λ k ne. refl;
    own_home = inl refl;
    empty = λ k ne e. e;
    intervals = λ k less. inl refl;
    pieces = λ k less given. inl (given, refl);
    shares = λ z i. inl i;
    pending = λ z i. inl i;
    over = refl;
    over_long = refl;
  }

  first_booked : IsBooked u
  first_booked = let b = f.booked p t is in record { early = b.early; whole = b.whole; rises = b.rises; fresh = b.fresh; book = b.book }

  first_shown_none : t.pieces ≡ []
  first_shown_none = let b = f.booked p t is in
      no_pieces t.pieces b.book.pieces (λ i. b.book.covers i ∙ ap (λ (xs : List IndexLie). untaken (map phase_in xs) i) first_none)

  pub first_stored : Looped workers first_lies s (set hands id (record h { loops = first_hands }))
  first_stored = assemble workers lies s hands f id h at first_lies s first_hands first_turn (record {
    even = λ y. refl;
    owned = owned_put lies p t u is workers s hands f refl (λ some_there. absurd (let a = ap (λ (xs : List IndexLie). length xs) first_none in omega (arith, a, some_there)));
    homes = λ k less more. (let q = f.homes k less more in (q.0, q.1, piece_grows lies first_lies first_grow q.0 (s.interval k).low (s.interval k).high q.2));
    given = λ k a less e. piece_grows lies first_lies first_grow a (s.piece k).low (s.piece k).high (f.given k a less e);
    booked = booked_put lies p t u is workers s hands f first_booked;
    shown = shown_put lies p t u is workers s hands f refl refl (λ z. ap (count_piece z x.low) first_shown_none ∙ sym (ap (count_piece z t.first) first_shown_none))
        (set hands id (record h { loops = first_hands })) (shares_same workers lies s hands f id h at first_lies s first_hands refl);
    taken = λ q i. ap (λ n. index_times q i h.loops.taken + n) (sym (tally_same lies p t u is is_taken (λ j. refl) q i));
    retired = λ q i. ap (λ n. index_times q i h.loops.retired + n) (sym (tally_same lies p t u is is_retired (λ j. refl) q i));
    left = left_put lies p t u is workers s hands f refl refl (set hands id (record h { loops = first_hands })) (retired_same workers lies s hands f id h at first_lies s first_hands refl);
    childless = childless_put lies p t u is workers s hands f refl;
    own = λ t'. (let q = f.handles id h at in record {
      pending = λ z i. first_waits z (q.pending z i);
      pieces = λ z i. share_grows lies first_lies first_grow z (q.pieces z i);
      taken = λ e i. first_stays Running e (q.taken e i);
      retired = λ e i. first_stays Finished e (q.retired e i);
      placed = λ told z i. (elim (in_cons z x [] (subst (In z) drawn i)) [
        | inl e ↦ subst (IsPlaced first_lies) (sym e) (u, ap first_lies path ∙ put_here lies p (some u), refl)
        | inr none_there ↦ elim none_there [ ]
      ]);
      emptied = λ r i. emptied_grows lies first_lies first_grow r (q.emptied r i);
      free = q.free;
      home = q.home;
      sight = λ alive n e. seen_still workers lies s hands f id h at first_lies s first_hands t' n (q.sight alive n e);
      overs = q.overs;
      held = q.held;
      crossed = q.crossed;
    });
  })
