-- An operation of an index that a seat has in hand.
use Rattle.std.proofs.Common.{◌≡◌, ◌≢◌, ℕ, suc, ◌+◌, ◌&&◌, nat_eq, List, [], ◌++◌, length, set, sym, refl, ap, ◌∙◌, subst, inl, inr, arith}
use mathlib.Core.Option.{some, some-injective}
use lib.ListN.{get_elem?}
use Rattle.kt_order.specs.Books.{BookOk}
use Rattle.kt_order.specs.Forest.{Phase, Unclaimed, Running, Finished}
use Rattle.kt_order.specs.Paths.{same_path}
use Rattle.kt_runs.specs.ByPath.{Path}
use Rattle.kt_rule.specs.declared.views.Share.{Share}
use Rattle.kt_rule.specs.declared.views.IndexRun.{IndexRun}
use Rattle.kt_rule.specs.declared.views.LoopHands.{LoopHands}
use Rattle.kt_rule.specs.Paths.{put}
use Rattle.kt_rule.specs.Lists.{weigh, one_if, In}
use Rattle.kt_rule.specs.Lies.{IndexLie, Lie, Lies}
use Rattle.kt_rule.specs.LoopWords.{LoopWords, Hand, between}
use Rattle.kt_rule.specs.LoopFacts.{IsBooked, IsPending, IsIndex, index_times, index_tally, is_taken, is_retired, Handles, Looped}
use Rattle.kt_rule.proofs.Puts.{put_here}
use Rattle.kt_rule.proofs.Sums.{weigh_set, weigh_one, weigh_two}
use Rattle.kt_rule.proofs.LoopsStay.{place_of}
use Rattle.atomic_table.proofs.Lists.{at_set}
use Rattle.kt_pieces.specs.Changes.{change_index, hears, heard}
use Rattle.kt_pieces.proofs.Changed.{one_or}
use Rattle.kt_pieces.proofs.Turns.{in_at, AllGrow, piece_grows, share_grows, emptied_grows, Turn, shares_same, retired_same, seen_still, assemble}
use Rattle.kt_pieces.proofs.Tasks.{put_grows, pending_put, placed_put, index_put, tally_same, booked_put, left_put, shown_put, owned_put, childless_put}
use Rattle.kt_pieces.proofs.Indexes.{change_at, change_else, change_long, change_no_phase}
use Rattle.kt_pieces.proofs.Ended.{one_here}
use Rattle.kt_pieces.proofs.Once.{own_once, other_none}

-- the entry e stands at place j of the indexes in hand, of the loop at a path
module _ (workers : ℕ) (lies : Lies) (s : LoopWords) (hands : List Hand) (f : Looped workers lies s hands) (id : ℕ) (h : Hand)
    (at : get_elem? hands id ≡ some h) (j : ℕ) (e : IndexRun) (stands : get_elem? h.loops.taken j ≡ some e) (p : Path) (path : e.spot.path ≡ p)
    (t : Lie) (is : lies p ≡ some t) (found : List ℕ) where
  abbrev u : Lie
  u = record t { indexes = change_index e.index (hears found) t.indexes }

  abbrev lies' : Lies
  lies' = put lies p (some u)

  abbrev e' : IndexRun
  e' = heard found e

  abbrev l : LoopHands
  l = record h.loops { taken = set h.loops.taken j e' }

  abbrev h' : Hand
  h' = record h { loops = l }

  own_index : IsIndex lies Running e
  own_index = (f.handles id h at).taken e (in_at h.loops.taken j e stands)

  task_is : own_index.task ≡ t
  task_is = some-injective own_index.task t (sym own_index.is ∙ (ap lies path ∙ is))

  abbrev x : IndexLie
  x = own_index.index

  index_is : get_elem? t.indexes e.index ≡ some x
  index_is = ap (λ (z : Lie). get_elem? z.indexes e.index) (sym task_is) ∙ own_index.at

  same_long : length u.indexes ≡ length t.indexes
  same_long = change_long (hears found) e.index t.indexes

  grow : AllGrow lies lies'
  grow = put_grows lies p t u is (record { berth = refl; gone = refl; first = λ n. refl; long = λ n. same_long; emptied = λ late none_left. (late, none_left) })

  none_so : (xs : List IndexLie) → xs ≡ [] → change_index e.index (hears found) xs ≡ []
  none_so xs none_there = ap (change_index e.index (hears found)) none_there

  others_wait : (y : Share) → IsPending lies f.owner s.drawn y → IsPending lies' f.owner s.drawn y
  others_wait y = pending_put lies p t u is refl (none_so t.indexes) f.owner s.drawn y

  -- another index
  stays : (phase : Phase) (d : IndexRun) → (p ≡ d.spot.path → d.index ≢ e.index) → IsIndex lies phase d → IsIndex lies' phase d
  stays phase d ne = index_put lies p t u is refl (λ n. refl) phase d
      (λ y same there phase_is. change_else (hears found) e.index d.index t.indexes (ne same) ∙ there)

  retired_stays : (d : IndexRun) → IsIndex lies Finished d → IsIndex lies' Finished d
  retired_stays d = index_put lies p t u is refl (λ n. refl) Finished d (λ y same there phase_is. elim (one_or d.index e.index) [
    | inl is_e ↦ absurd (not_both (sym phase_is ∙ (ap (λ (z : IndexLie). z.phase) (some-injective y x (sym there ∙ (ap (get_elem? t.indexes) is_e ∙ index_is))) ∙ own_index.phase_is)))
    | inr ne ↦ change_else (hears found) e.index d.index t.indexes ne ∙ there
  ])
    where
      not_both : Finished ≡ Running → ⊥
      not_both d = cc

  -- what another seat has in hand is another index
  other_differs : (seat : ℕ) (y : Hand) → get_elem? hands seat ≡ some y → seat ≢ id → (d : IndexRun) → In d y.loops.taken → p ≡ d.spot.path → d.index ≢ e.index
  other_differs seat y there_y ne d i same is_e =
      let a = other_none workers lies s hands f id h at seat y there_y ne d i p same in
      let b = one_here p d.index e path is_e in
      let c = weigh_one (λ (z : IndexRun). one_if (same_path p z.spot.path && nat_eq d.index z.index)) h.loops.taken j e stands in
      omega (arith, a, b, c)

  -- and so is what the own hand has elsewhere
  own_differs : (k : ℕ) (d : IndexRun) → get_elem? h.loops.taken k ≡ some d → k ≢ j → p ≡ d.spot.path → d.index ≢ e.index
  own_differs k d there_d ne same is_e =
      let a = own_once workers lies s hands f id h at p e.index in
      let b = one_here p e.index e path refl in
      let c = one_here p e.index d (sym same) (sym is_e) in
      let m = weigh_two (λ (z : IndexRun). one_if (same_path p z.spot.path && nat_eq e.index z.index)) h.loops.taken k j d e ne there_d stands in
      omega (arith, a, b, c, m)

  turn : Turn workers lies s hands f.owner id h lies' s l
  turn = record {
    drawn = refl;
    grow = grow;
    waiting = λ seat y there_y ne z i. others_wait z;
    placed = λ seat y there_y ne z i. placed_put lies p t u is refl z;
    taken = λ seat y there_y ne d i. stays Running d (other_differs seat y there_y ne d i);
    retired = λ seat y there_y ne d i. retired_stays d;
    homes = λ k ne. refl;
    own_home = inl refl;
    empty = λ k ne n. n;
    intervals = λ k less. inl refl;
    pieces = λ k less given. inl (given, refl);
    shares = λ z i. inl i;
    pending = λ z i. inl i;
    over = refl;
    over_long = refl;
  }

  booked : IsBooked t
  booked = f.booked p t is

  book_now : IsBooked u
  book_now = record {
    early = λ n. (none_so t.indexes (booked.early n).0, (booked.early n).1);
    whole = elim booked.whole [ inl n ↦ inl (none_so t.indexes n) | inr n ↦ inr (same_long ∙ n) ];
    rises = booked.rises;
    fresh = λ i y there unclaimed. elim (one_or i e.index) [
      | inl is_e ↦ (let same : y ≡ hears found x = some-injective y (hears found x)
          (sym there ∙ (ap (get_elem? u.indexes) is_e ∙ change_at (hears found) e.index x t.indexes index_is)) in
          absurd (not_both (sym own_index.phase_is ∙ (ap (λ (z : IndexLie). z.phase) (sym same) ∙ unclaimed))))
      | inr ne ↦ booked.fresh i y (sym (change_else (hears found) e.index i t.indexes ne) ∙ there) unclaimed
    ];
    book = subst (λ (z : List Phase). BookOk (record { pieces = t.pieces; unretired = t.unretired }) z)
        (sym (change_no_phase (hears found) (λ y. refl) e.index t.indexes)) booked.book;
  }
    where
      not_both : Running ≡ Unclaimed → ⊥
      not_both d = cc

  -- sums over the indexes in hand, by what no operation changes
  hand_same : (g : IndexRun → ℕ) → g e' ≡ g e → weigh g l.taken ≡ weigh g h.loops.taken
  hand_same g same = let a = weigh_set g h.loops.taken j e e' stands in omega (arith, a, same)

  tally_now : (g : Phase → ℕ) (i : ℕ) → index_tally g (get_elem? u.indexes i) ≡ index_tally g (get_elem? t.indexes i)
  tally_now g i = elim (one_or i e.index) [
    | inl is_e ↦ ap (λ k. index_tally g (get_elem? u.indexes k)) is_e
        ∙ (ap (index_tally g) (change_at (hears found) e.index x t.indexes index_is)
        ∙ (sym (ap (index_tally g) index_is) ∙ ap (λ k. index_tally g (get_elem? t.indexes k)) (sym is_e)))
    | inr ne ↦ ap (index_tally g) (change_else (hears found) e.index i t.indexes ne)
  ]

  even_of : (k given pending pieces now then retired : ℕ) → now ≡ then
      → k + (given + (pending + (pieces + (now + retired)))) ≡ k + (given + (pending + (pieces + (then + retired))))
  even_of k given pending pieces now then retired same = omega (arith, same)

  own_now : Turn workers lies s hands f.owner id h lies' s l → Handles workers lies' f.owner s (set hands id h') id h'
  own_now t' = let q = f.handles id h at in record {
    pending = λ z i. others_wait z (q.pending z i);
    pieces = λ z i. share_grows lies lies' grow z (q.pieces z i);
    taken = λ d i. (let k = place_of d l.taken i in elim (at_set h.loops.taken j k.0 e' d k.1) [
      | inl c ↦ subst (IsIndex lies' Running) c.1 index_now
      | inr c ↦ stays Running d (own_differs k.0 d c.1 c.0) (q.taken d (in_at h.loops.taken k.0 d c.1))
    ]);
    retired = λ d i. retired_stays d (q.retired d i);
    placed = λ told z i. placed_put lies p t u is refl z (q.placed told z i);
    emptied = λ r i. emptied_grows lies lies' grow r (q.emptied r i);
    free = q.free;
    home = q.home;
    sight = λ lives o d. seen_still workers lies s hands f id h at lies' s l t' o (q.sight lives o d);
    overs = q.overs;
    held = q.held;
    crossed = q.crossed;
  }
    where
      index_now : IsIndex lies' Running e'
      index_now = record {
        task = u;
        index = hears found x;
        is = ap lies' path ∙ put_here lies p (some u);
        berth = ap (λ (z : Lie). z.berth) (sym task_is) ∙ own_index.berth;
        at = change_at (hears found) e.index x t.indexes index_is;
        position = own_index.position ∙ ap (λ (z : Lie). z.first + e.index) task_is;
        phase_is = own_index.phase_is;
        answers = ap (λ (ns : List ℕ). ns ++ found) own_index.answers;
        count = ap (λ n. n + 1) own_index.count;
      }

  pub index_acted : Looped workers lies' s (set hands id h')
  index_acted = assemble workers lies s hands f id h at lies' s l turn (record {
    even = λ y. even_of _ _ _ _ _ _ _ (hand_same (λ (d : IndexRun). between d.position (suc d.position) y) refl);
    owned = owned_put lies p t u is workers s hands f same_long (λ n. refl);
    homes = λ k less more. (let y = f.homes k less more in (y.0, y.1, piece_grows lies lies' grow y.0 (s.interval k).low (s.interval k).high y.2));
    given = λ k a less n. piece_grows lies lies' grow a (s.piece k).low (s.piece k).high (f.given k a less n);
    booked = booked_put lies p t u is workers s hands f book_now;
    shown = shown_put lies p t u is workers s hands f refl refl (λ z. refl) (set hands id h') (shares_same workers lies s hands f id h at lies' s l refl);
    taken = λ q i. (let a = tally_same lies p t u is is_taken (tally_now is_taken) q i in
        let b = hand_same (λ (d : IndexRun). one_if (same_path q d.spot.path && nat_eq i d.index)) refl in omega (arith, a, b));
    retired = λ q i. ap (λ n. index_times q i h.loops.retired + n) (sym (tally_same lies p t u is is_retired (tally_now is_retired) q i));
    left = left_put lies p t u is workers s hands f refl refl (set hands id h') (retired_same workers lies s hands f id h at lies' s l refl);
    childless = childless_put lies p t u is workers s hands f same_long;
    own = own_now;
  })
