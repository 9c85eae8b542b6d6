-- A loop begins: its runner stores the positions that it drew in its own interval, and no index is taken yet.
use Rattle.std.proofs.Common.{◌≡◌, ◌≢◌, ℕ, zero, suc, ◌+◌, ◌<◌, ◌≤◌, Bool, true, false, cond, nat_eq, nat_lt, List, [], ◌∷◌, length, replicate, set, map, sym, refl, ap, ◌∙◌, subst, inl, inr, arith}
use Rattle.std.proofs.lemmas.Bool.Decides.{nat_tests}
use mathlib.Core.Option.{some, some-injective, some-ne-none}
use lib.ListN.{get_elem?}
use Rattle.kt_order.specs.Books.{Piece, BookOk, NoneEmpty, holding, one_piece, whole_book}
use Rattle.kt_order.specs.Forest.{Phase, Unclaimed, Running, Finished}
use Rattle.kt_order.proofs.Books.{book_begins}
use Rattle.kt_runs.specs.ByPath.{Path, child}
use Rattle.kt_words.specs.declared.pairs.Pair.{Pair}
use Rattle.kt_rule.specs.declared.views.Berth.{Berth}
use Rattle.kt_rule.specs.declared.views.Share.{Share}
use Rattle.kt_rule.specs.declared.views.IndexRun.{IndexRun}
use Rattle.kt_rule.specs.declared.views.LoopHands.{LoopHands}
use Rattle.kt_rule.specs.Paths.{put}
use Rattle.kt_rule.specs.Lists.{weigh, In, here}
use Rattle.kt_rule.specs.Lies.{Runs, Loops, IndexLie, Lie, Lies, is_gone}
use Rattle.kt_rule.specs.LoopWords.{LoopWords, Hand, sum_below}
use Rattle.kt_rule.specs.LoopFacts.{in_pair, in_given, in_hand, in_shares, is_early, IsBooked, IsPending, IsIndex, index_times, index_tally, is_taken, is_retired, piece_is, shown_pieces, count_piece, phase_in, Handles, Looped}
use Rattle.kt_rule.proofs.Puts.{put_here, put_else, at_put}
use Rattle.kt_rule.proofs.Cores.{not_child}
use Rattle.kt_rule.proofs.LoopsStay.{no_piece}
use Rattle.kt_pieces.specs.Changes.{at_worker, untaken_index}
use Rattle.kt_pieces.proofs.Changed.{at_else}
use Rattle.kt_pieces.proofs.Counted.{pair, pair_is, left_is, left_some, piece_own, whole_rises}
use Rattle.kt_pieces.proofs.Turns.{in_at, AllGrow, piece_grows, share_grows, emptied_grows, Turn, shares_same, retired_same, seen_still, assemble}
use Rattle.kt_pieces.proofs.Tasks.{put_grows, placed_put, index_put, tally_same, booked_put, left_put}
use Rattle.kt_pieces.proofs.Intervals.{interval_positions, interval_shown, interval_lower, interval_homes}

false_true : false ≡ true → ⊥
false_true e = cc

-- pieces that hold no index are none
pub no_pieces : (pieces : List Piece) → NoneEmpty pieces → ((i : ℕ) → holding pieces i ≡ 0) → pieces ≡ []
no_pieces [] full none_held = refl
no_pieces (p ∷ pieces) full none_held = absurd (let a = none_held p.from in let b = full.0 in omega (arith, a, b))

all_untaken : (n i : ℕ) (x : IndexLie) → get_elem? (replicate n untaken_index) i ≡ some x → x ≡ untaken_index
all_untaken zero i x e = absurd (some-ne-none x (sym e))
all_untaken (suc n) zero x e = sym (some-injective untaken_index x e)
all_untaken (suc n) (suc i) x e = all_untaken n i x e

untaken_phases : (n : ℕ) → map phase_in (replicate n untaken_index) ≡ replicate n Unclaimed
untaken_phases zero = refl
untaken_phases (suc n) = ap (λ zs. Unclaimed ∷ zs) (untaken_phases n)

untaken_long : (n : ℕ) → length (replicate n untaken_index) ≡ n
untaken_long zero = refl
untaken_long (suc n) = ap suc (untaken_long n)

untaken_tally : (g : Phase → ℕ) → g Unclaimed ≡ 0 → (n i : ℕ) → index_tally g (get_elem? (replicate n untaken_index) i) ≡ 0
untaken_tally g e zero i = refl
untaken_tally g e (suc n) zero = e
untaken_tally g e (suc n) (suc i) = untaken_tally g e n i

-- one piece of all positions
whole_count : (low high n : ℕ) (q : Pair) → low + n ≡ high → left_is low high q ≡ count_piece q low (one_piece n)
whole_count low high zero q e = let a : nat_lt low high ≡ false = grind (arith, nat_tests) in ap (λ (b : Bool). cond b (pair_is low high q) 0) a
whole_count low high (suc n) q e =
    let a : low + 0 ≡ low = omega arith in
    let b : pair_is (low + 0) (low + suc n) q ≡ pair_is low high q = λ i. pair_is (a i) (e i) q in
    let c = left_some low high q (omega (arith, e)) in
    omega (arith, b, c)

pub hollow_none : (word : ℕ) (s : Pair) (a : ℕ) (q : Pair) → s.high ≤ s.low → piece_is word s.low s.high a q ≡ 0
hollow_none word s a q hollow = no_piece word s.low s.high a q (λ is long. omega (arith, hollow, long))

even_of : (now then own fresh given pending pieces taken retired : ℕ) → now + own ≡ then + fresh → own ≡ 0 → pending ≡ fresh
    → now + (given + (0 + (pieces + (taken + retired)))) ≡ then + (given + (pending + (pieces + (taken + retired))))
even_of now then own fresh given pending pieces taken retired a b c = omega (arith, a, b, c)

module _ (workers : ℕ) (lies : Lies) (s : LoopWords) (hands : List Hand) (f : Looped workers lies s hands) (id : ℕ) (h : Hand)
    (at : get_elem? hands id ≡ some h) (inside : id < workers) (lives : 0 < h.parts) (x : Share) (p : Path) (path : x.spot.path ≡ p) (t : Lie) (is : lies p ≡ some t)
    (k : ℕ) (runs : t.stage ≡ Runs k)
    (alone : (q : Path) (y : Lie) → lies q ≡ some y → is_gone y.stage ≡ false → y.berth.at ≡ t.berth.at → q ≡ p)
    (bare : (i : ℕ) (y : Lie) → lies (child p i) ≡ some y → ⊥)
    (others : (seat : ℕ) (y : Hand) → get_elem? hands seat ≡ some y → seat ≢ id → (z : Share) → In z y.loops.pending → z.spot.path ≢ p)
    (free : h.loops.free ≡ true) (home : h.loops.home ≡ suc t.berth.at) (drawn : h.loops.pending ≡ x ∷ []) (told : h.loops.placed ≡ true)
    (none_over : h.loops.over ≡ 0) (count : ℕ) where
  abbrev n : ℕ
  n = t.berth.call.length

  abbrev u : Lie
  u = record t { stage = Loops k; indexes = replicate n untaken_index; pieces = one_piece n; count = count }

  abbrev lies' : Lies
  lies' = put lies p (some u)

  abbrev own : Pair
  own = pair x.low x.high

  abbrev s' : LoopWords
  s' = record s { interval = at_worker s.interval id own }

  abbrev l : LoopHands
  l = record h.loops { pending = []; placed = false; free = false }

  abbrev h' : Hand
  h' = record h { loops = l }

  own_handles : Handles workers lies f.owner s hands id h
  own_handles = f.handles id h at

  mine : In x h.loops.pending
  mine = subst (In x) (sym drawn) here

  is_pending : IsPending lies f.owner s.drawn x
  is_pending = own_handles.pending x mine

  task_is : (y : Lie) → lies x.spot.path ≡ some y → y ≡ t
  task_is y e = some-injective y t (sym e ∙ (ap lies path ∙ is))

  first_is : t.first ≡ x.low
  first_is = let a = own_handles.placed told x mine in ap (λ (z : Lie). z.first) (sym (task_is a.0 a.1)) ∙ a.2

  whole : x.low + n ≡ x.high
  whole =
      let e = ap (λ (z : Lie). z.berth.call.length) (sym (task_is is_pending.task is_pending.is)) in
      let d = ap (λ (z : Berth). z.call.length) is_pending.berth in
      let a = is_pending.whole in
      omega (arith, e, d, a)

  hollow : (s.interval id).high ≤ (s.interval id).low
  hollow = own_handles.free lives free

  home_is : s.home id ≡ suc t.berth.at
  home_is = own_handles.home lives ∙ home

  live : is_gone t.stage ≡ false
  live = ap is_gone runs

  early : is_early t.stage ≡ true
  early = ap is_early runs

  booked : IsBooked t
  booked = f.booked p t is

  none_yet : t.indexes ≡ []
  none_yet = (booked.early early).0

  grow : AllGrow lies lies'
  grow = put_grows lies p t u is (record {
    berth = refl;
    gone = sym live;
    first = λ some_there. refl;
    long = λ some_there. absurd (let a = ap (λ (xs : List IndexLie). length xs) none_yet in omega (arith, a, some_there));
    emptied = λ late none_left. absurd (false_true (sym late ∙ early));
  })

  -- no index of this loop was in hand
  indexes_stay : (phase : Phase) (e : IndexRun) → IsIndex lies phase e → IsIndex lies' phase e
  indexes_stay phase e = index_put lies p t u is refl (λ some_index. refl) phase e
      (λ y same there phase_is. absurd (some-ne-none y (sym (ap (λ (xs : List IndexLie). get_elem? xs e.index) (sym none_yet) ∙ there))))

  elsewhere : (z : Share) → z.spot.path ≢ p → IsPending lies f.owner s.drawn z → IsPending lies' f.owner s.drawn z
  elsewhere z ne q = record {
    task = q.task;
    is = put_else lies p (some u) z.spot.path (λ e. ne (sym e)) ∙ q.is;
    berth = q.berth;
    none_yet = q.none_yet;
    whole = q.whole;
    counted = q.counted;
    owned = q.owned;
  }

  turn : Turn workers lies s hands f.owner id h lies' s' l
  turn = record {
    drawn = refl;
    grow = grow;
    waiting = λ seat y e ne z i. elsewhere z (others seat y e ne z i);
    placed = λ seat y e ne z i. placed_put lies p t u is refl z;
    taken = λ seat y e ne z i. indexes_stay Running z;
    retired = λ seat y e ne z i. indexes_stay Finished z;
    homes = λ j ne. refl;
    own_home = inl refl;
    empty = λ j ne e. subst (λ (z : Pair). z.high ≤ z.low) (sym (at_else s.interval id own j ne)) e;
    intervals = interval_lower workers s id inside own hands (λ o q. q.pending h (in_at hands id h at) x mine);
    pieces = λ j less given. inl (given, refl);
    shares = λ z i. inl i;
    pending = λ z i. elim i [ ];
    over = refl;
    over_long = ap (λ (m : ℕ). cond (nat_eq m 0) 0 0) none_over ∙ sym (ap (λ (m : ℕ). cond (nat_eq m 0) 0 (weigh (λ (z : Share). z.spot.berth.call.length) h.loops.pending)) none_over);
  }

  book_now : IsBooked u
  book_now = record {
    early = λ e. absurd (false_true e);
    whole = inr (untaken_long n);
    rises = whole_rises n;
    fresh = λ i y e unclaimed. (let a = all_untaken n i y e in (ap (λ (z : IndexLie). z.answers) a, ap (λ (z : IndexLie). z.count) a));
    book = subst (λ (z : ℕ × List Phase). BookOk (record { pieces = one_piece n; unretired = z.0 }) z.1)
        (λ i. (sym (booked.early early).1 i, sym (untaken_phases n) i)) (book_begins n);
  }

  even : (y : ℕ) → sum_below workers (λ j. in_pair (s'.interval j) y) + (sum_below workers (λ j. in_given (s'.given j) (s'.piece j) y) + in_hand y h')
      ≡ sum_below workers (λ j. in_pair (s.interval j) y) + (sum_below workers (λ j. in_given (s.given j) (s.piece j) y) + in_hand y h)
  even y =
      let a = interval_positions workers s id inside own y in
      let b : in_pair (s.interval id) y ≡ 0 = omega (arith, hollow) in
      let c : in_shares y h.loops.pending ≡ in_pair own y = ap (in_shares y) drawn ∙ omega arith in
      even_of _ _ _ _ _ _ _ _ _ a b c

  none_shown : t.pieces ≡ []
  none_shown = no_pieces t.pieces booked.book.pieces (λ i. booked.book.covers i ∙ ap (λ (xs : List IndexLie). Rattle.kt_order.specs.Books.untaken (map phase_in xs) i) none_yet)

  shown_now : (q : Path) (y : Lie) (z : Pair) → lies' q ≡ some y → is_gone y.stage ≡ false
      → shown_pieces workers s' (set hands id h') y.berth.at z ≡ count_piece z y.first y.pieces
  shown_now q y z e living = elim (at_put lies p q u y e) [
    | inl c ↦ subst (λ (w : Lie). shown_pieces workers s' (set hands id h') w.berth.at z ≡ count_piece z w.first w.pieces) c.1 own_shown
    | inr c ↦ (let ne : y.berth.at ≢ t.berth.at = (λ d. c.0 (sym (alone q y c.1 living d))) in other y c.1 living ne)
  ]
    where
      own_shown : shown_pieces workers s' (set hands id h') t.berth.at z ≡ count_piece z t.first (one_piece n)
      own_shown =
          let a : ℕ = t.berth.at in
          let b = f.shown p t z is live ∙ ap (count_piece z t.first) none_shown in
          let c = shares_same workers lies s hands f id h at lies' s' l refl a z in
          let d = interval_shown workers s id inside own a z in
          let g = hollow_none (s.home id) (s.interval id) a z hollow in
          let m : piece_is (s.home id) x.low x.high a z ≡ count_piece z t.first (one_piece n) =
          ap (λ (word : ℕ). piece_is word x.low x.high a z) home_is ∙ (piece_own a x.low x.high z
          ∙ (whole_count x.low x.high n z whole ∙ ap (λ (w : ℕ). count_piece z w (one_piece n)) (sym first_is))) in
          omega (arith, b, c, d, g, m)

      other : (y : Lie) → lies q ≡ some y → is_gone y.stage ≡ false → y.berth.at ≢ t.berth.at
          → shown_pieces workers s' (set hands id h') y.berth.at z ≡ count_piece z y.first y.pieces
      other y e living ne =
          let a : ℕ = y.berth.at in
          let b = f.shown q y z e living in
          let c = shares_same workers lies s hands f id h at lies' s' l refl a z in
          let d = interval_shown workers s id inside own a z in
          let g = hollow_none (s.home id) (s.interval id) a z hollow in
          let m = no_piece (s.home id) x.low x.high a z (λ same more. ne (omega (arith, same, home_is))) in
          omega (arith, b, c, d, g, m)

  tally_now : (g : Phase → ℕ) → g Unclaimed ≡ 0 → (i : ℕ) → index_tally g (get_elem? u.indexes i) ≡ index_tally g (get_elem? t.indexes i)
  tally_now g e i = untaken_tally g e n i ∙ sym (ap (λ (xs : List IndexLie). index_tally g (get_elem? xs i)) none_yet)

  owned_now : (q : Path) (y : Lie) (z : ℕ) → lies' q ≡ some y → y.first ≤ z → z < y.first + length y.indexes → (f.owner z ≡ q) × (z < s.drawn)
  owned_now q y z e low high = elim (at_put lies p q u y e) [
    | inl c ↦ (let a : t.first ≡ y.first = ap (λ (w : Lie). w.first) c.1 in
        let b : length u.indexes ≡ length y.indexes = ap (λ (w : Lie). length w.indexes) c.1 in
        let d = untaken_long n in
        let g = first_is in
        let m = whole in
        let r = is_pending.counted in
        (is_pending.owned z (omega (arith, a, g, low)) (omega (arith, a, b, d, g, m, high)) ∙ (path ∙ c.0), omega (arith, a, b, d, g, m, r, high)))
    | inr c ↦ f.owned q y z c.1 low high
  ]

  childless_now : (q : Path) (i : ℕ) (y z : Lie) → lies' q ≡ some y → lies' (child q i) ≡ some z → y.indexes ≡ []
  childless_now q i y z e d = elim (at_put lies p q u y e) [
    | inl c ↦ (elim (at_put lies p (child q i) u z d) [
      | inl b ↦ absurd (not_child q i (sym c.0 ∙ b.0))
      | inr b ↦ absurd (bare i z (subst (λ (r : Path). lies (child r i) ≡ some z) (sym c.0) b.1))
    ])
    | inr c ↦ (elim (at_put lies p (child q i) u z d) [
      | inl b ↦ f.childless q i y t c.1 (ap lies (sym b.0) ∙ is)
      | inr b ↦ f.childless q i y z c.1 b.1
    ])
  ]

  own_now : Turn workers lies s hands f.owner id h lies' s' l → Handles workers lies' f.owner s' (set hands id h') id h'
  own_now t' = let q = own_handles in record {
    pending = λ z i. elim i [ ];
    pieces = λ z i. share_grows lies lies' grow z (q.pieces z i);
    taken = λ e i. indexes_stay Running e (q.taken e i);
    retired = λ e i. indexes_stay Finished e (q.retired e i);
    placed = λ d z i. elim i [ ];
    emptied = λ r i. emptied_grows lies lies' grow r (q.emptied r i);
    free = λ alive d. absurd (false_true d);
    home = q.home;
    sight = λ alive o d. seen_still workers lies s hands f id h at lies' s' l t' o (q.sight alive o d);
    overs = q.overs;
    held = let a = none_over in omega (arith, a);
    crossed = q.crossed;
  }

  pub begun_looped : Looped workers lies' s' (set hands id h')
  begun_looped = assemble workers lies s hands f id h at lies' s' l turn (record {
    even = even;
    owned = owned_now;
    homes = interval_homes workers s id inside own lies lies' hands f grow (λ more. (
      t.berth.at,
      home_is,
      record {
        path = p;
        task = u;
        is = put_here lies p (some u);
        live = refl;
        at = refl;
        some_left = more;
        first = (let a = first_is in omega (arith, a));
        last = (let a = first_is in let b = whole in let c = untaken_long n in omega (arith, a, b, c));
      },
    ));
    given = λ j a less e. piece_grows lies lies' grow a (s.piece j).low (s.piece j).high (f.given j a less e);
    booked = booked_put lies p t u is workers s hands f book_now;
    shown = shown_now;
    taken = λ q i. ap (λ m. index_times q i h.loops.taken + m) (sym (tally_same lies p t u is is_taken (tally_now is_taken refl) q i));
    retired = λ q i. ap (λ m. index_times q i h.loops.retired + m) (sym (tally_same lies p t u is is_retired (tally_now is_retired refl) q i));
    left = left_put lies p t u is workers s hands f refl refl (set hands id h') (retired_same workers lies s hands f id h at lies' s' l refl);
    childless = childless_now;
    own = own_now;
  })
