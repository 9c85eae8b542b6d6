-- Loads of the words of loops: what a seat knows of its own interval, of a victim, and of a loop with nothing left.
use Rattle.std.proofs.Common.{◌≡◌, ◌≢◌, ℕ, zero, suc, ◌+◌, ◌<◌, ◌≤◌, Bool, true, false, List, [], ◌∷◌, set, sym, refl, ap, subst, inl, inr, arith, Option, None, Some}
use mathlib.Core.Option.{some}
use lib.ListN.{get_elem?}
use Rattle.kt_runs.specs.ByPath.{Path}
use Rattle.kt_words.specs.declared.pairs.Pair.{Pair}
use Rattle.kt_rule.specs.declared.views.Share.{Share}
use Rattle.kt_rule.specs.declared.views.Sight.{Sight}
use Rattle.kt_rule.specs.declared.views.LoopHands.{LoopHands}
use Rattle.kt_rule.specs.Lists.{weigh, In}
use Rattle.kt_rule.specs.Lies.{Lie, Lies}
use Rattle.kt_rule.specs.LoopWords.{LoopWords, Hand, between, sum_below}
use Rattle.kt_rule.specs.LoopFacts.{in_pair, in_given, in_hand, in_shares, is_early, IsEmptied, IsSeen, Handles, Looped}
use Rattle.kt_rule.proofs.Sums.{weigh_one, in_cons}
use Rattle.kt_rule.proofs.LoopsStay.{place_of}
use Rattle.kt_pieces.proofs.Changed.{one_or, one_most, two_most}
use Rattle.kt_pieces.proofs.Turns.{all_grow, Turn, shares_same, retired_same, seen_still, assemble}

-- WHAT A LOAD TELLS

module _ (workers : ℕ) (lies : Lies) (s : LoopWords) (hands : List Hand) (f : Looped workers lies s hands) (id : ℕ) (h : Hand)
    (at : get_elem? hands id ≡ some h) (free : Bool) (sight : Option Sight) (emptied : List Path) where
  abbrev l : LoopHands
  l = record h.loops { free = free; sight = sight; emptied = emptied }

  abbrev h' : Hand
  h' = record h { loops = l }

  turn : Turn workers lies s hands f.owner id h lies s l
  turn = record {
    drawn = refl;
    grow = all_grow lies;
    waiting = λ seat y e ne x i q. q;
    placed = λ seat y e ne x i q. q;
    taken = λ seat y e ne x i q. q;
    retired = λ seat y e ne x i q. q;
    homes = λ k ne. refl;
    own_home = inl refl;
    empty = λ k ne e. e;
    intervals = λ k less. inl refl;
    pieces = λ k less given. inl (given, refl);
    shares = λ x i. inl i;
    pending = λ x i. inl i;
    over = refl;
    over_long = refl;
  }

  -- what is told is so
  pub told_looped : (0 < h.parts → free ≡ true → (s.interval id).high ≤ (s.interval id).low)
      → (0 < h.parts → (n : Sight) → sight ≡ Some n → IsSeen workers s hands n) → ((p : Path) → In p emptied → IsEmptied lies p)
      → Looped workers lies s (set hands id h')
  told_looped free_so seen_so emptied_so = assemble workers lies s hands f id h at lies s l turn (record {
    even = λ x. refl;
    owned = f.owned;
    homes = f.homes;
    given = f.given;
    booked = f.booked;
    shown = λ p t q is live. (let a = f.shown p t q is live in
        let b = shares_same workers lies s hands f id h at lies s l refl t.berth.at q in
        omega (arith, a, b));
    taken = λ p i. refl;
    retired = λ p i. refl;
    left = λ p t is. (let a = f.left p t is in
        let b = retired_same workers lies s hands f id h at lies s l refl p in
        omega (arith, a, b));
    childless = f.childless;
    own = λ t'. (let q = f.handles id h at in record {
      pending = q.pending;
      pieces = q.pieces;
      taken = q.taken;
      retired = q.retired;
      placed = q.placed;
      emptied = emptied_so;
      free = free_so;
      home = q.home;
      sight = λ lives n e. seen_still workers lies s hands f id h at lies s l t' n (seen_so lives n e);
      overs = q.overs;
      held = q.held;
      crossed = q.crossed;
    });
  })

-- A VICTIM'S INTERVAL

pub share_most : (x : ℕ) (xs : List Share) (y : Share) → In y xs → between y.low y.high x ≤ in_shares x xs
share_most x [] y i = elim i [ ]
share_most x (z ∷ xs) y i = elim (in_cons y z xs i) [
  | inl e ↦ (let a : between y.low y.high x ≡ between z.low z.high x = ap (λ (w : Share). between w.low w.high x) e in omega (arith, a))
  | inr rest ↦ (let a = share_most x xs y rest in omega (arith, a))
]

module _ (workers : ℕ) (lies : Lies) (s : LoopWords) (hands : List Hand) (f : Looped workers lies s hands) where
  -- a position stands in one place at most
  abbrev intervals_with : ℕ → ℕ
  intervals_with x = sum_below workers (λ k. in_pair (s.interval k) x)

  abbrev given_with : ℕ → ℕ
  given_with x = sum_below workers (λ k. in_given (s.given k) (s.piece k) x)

  abbrev hands_with : ℕ → ℕ
  hands_with x = weigh (λ (y : Hand). in_hand x y) hands

  once : (x : ℕ) → intervals_with x + (given_with x + hands_with x) ≤ 1
  once x = let a = f.positions x in omega (arith, a)

  given_some : (g : ℕ) (p : Pair) (x : ℕ) → g ≢ 0 → in_given g p x ≡ in_pair p x
  given_some zero p x ne = absurd (ne refl)
  given_some (suc g) p x ne = refl

  in_one_hand : (y : Hand) → In y hands → (x : ℕ) → in_hand x y ≤ hands_with x
  in_one_hand y i x = let k = place_of y hands i in weigh_one (λ (z : Hand). in_hand x z) hands k.0 y k.1

  -- positions in a second place are none of those that were found
  alone : (i own o g w : ℕ) → own ≤ i → own ≡ 1 → i + (g + w) ≤ 1 → o ≤ g + w → o ≡ 1 → ⊥
  alone i own o g w a b c d e = omega (arith, a, b, c, d, e)

  pub seen_now : (k : ℕ) → k < workers → (s.interval k).low < (s.interval k).high
      → IsSeen workers s hands (record { victim = k; low = (s.interval k).low; high = (s.interval k).high; home = None })
  seen_now k inside long =
      let x : ℕ = (s.interval k).low in
      let is : in_pair (s.interval k) x ≡ 1 = omega (arith, long) in
      let most = one_most workers (λ i. in_pair (s.interval i) x) k inside in
      let home = f.homes k inside long in
      record {
        inside = inside;
        some_left = long;
        counted = (let p = home.2 in (f.owned p.path p.task x p.is p.first (let a = p.last in omega (arith, a, long))).1);
        intervals = λ i less. elim (one_or i k) [
          | inl same ↦ inl (same, ap s.interval same)
          | inr ne ↦ inr (λ there_i. absurd (let two = two_most workers (λ j. in_pair (s.interval j) x) i k less inside ne in
              two_places (in_pair (s.interval i) x) (in_pair (s.interval k) x) (intervals_with x) (given_with x) (hands_with x) two there_i is (once x)))
        ];
        pieces = λ i less given there_i. absurd (let a = one_most workers (λ j. in_given (s.given j) (s.piece j) x) i less in
            let b = given_some (s.given i) (s.piece i) x given in
            alone (intervals_with x) (in_pair (s.interval k) x) (in_pair (s.piece i) x) (given_with x) (hands_with x) most is (once x) (second _ _ _ _ b a) there_i);
        shares = λ y i z j there_z. absurd (let a = share_most x y.loops.pieces z j in let b = in_one_hand y i x in
            alone (intervals_with x) (in_pair (s.interval k) x) (between z.low z.high x) (given_with x) (hands_with x) most is (once x)
            (third _ _ _ _ _ _ _ a b) there_z);
        pending = λ y i z j there_z. absurd (let a = share_most x y.loops.pending z j in let b = in_one_hand y i x in
            alone (intervals_with x) (in_pair (s.interval k) x) (between z.low z.high x) (given_with x) (hands_with x) most is (once x)
            (fourth _ _ _ _ _ _ a b) there_z);
        home = λ word e now. absurd (none_some e);
      }
    where
      none_some : {A : Type 0} {o : A} → None ≡ Some o → ⊥
      none_some e = cc

      two_places : (o own i g w : ℕ) → o + own ≤ i → o ≡ 1 → own ≡ 1 → i + (g + w) ≤ 1 → ⊥
      two_places o own i g w a b c d = omega (arith, a, b, c, d)

      second : (g gs w o : ℕ) → g ≡ o → g ≤ gs → o ≤ gs + w
      second g gs w o a b = omega (arith, a, b)

      third : (o shares pending taken retired gs w : ℕ) → o ≤ shares → pending + (shares + (taken + retired)) ≤ w → o ≤ gs + w
      third o shares pending taken retired gs w a b = omega (arith, a, b)

      fourth : (o pending shares rest gs w : ℕ) → o ≤ pending → pending + (shares + rest) ≤ w → o ≤ gs + w
      fourth o pending shares rest gs w a b = omega (arith, a, b)

  -- and its home word, found afterwards
  pub seen_home : (n : Sight) → IsSeen workers s hands n
      → IsSeen workers s hands (record { victim = n.victim; low = n.low; high = n.high; home = Some (s.home n.victim) })
  seen_home n q = record {
    inside = q.inside;
    some_left = q.some_left;
    counted = q.counted;
    intervals = q.intervals;
    pieces = q.pieces;
    shares = q.shares;
    pending = q.pending;
    home = λ word e now. some_is e;
  }
    where
      some_is : {a b : ℕ} → Some a ≡ Some b → a ≡ b
      some_is e = cc

-- EACH LOAD

module _ (workers : ℕ) (lies : Lies) (s : LoopWords) (hands : List Hand) (f : Looped workers lies s hands) (id : ℕ) (h : Hand)
    (at : get_elem? hands id ≡ some h) where
  own_handles : Handles workers lies f.owner s hands id h
  own_handles = f.handles id h at

  none_some : {n : Sight} → None ≡ Some n → ⊥
  none_some e = cc

  some_is : {a b : Sight} → Some a ≡ Some b → a ≡ b
  some_is e = cc

  -- the own interval is empty
  pub found_empty : (s.interval id).high ≤ (s.interval id).low → Looped workers lies s (set hands id (record h { loops = record h.loops { free = true } }))
  found_empty hollow = told_looped workers lies s hands f id h at true h.loops.sight h.loops.emptied (λ lives e. hollow) own_handles.sight own_handles.emptied

  -- a victim's is not
  pub found_interval : (k : ℕ) → k < workers → (s.interval k).low < (s.interval k).high
      → Looped workers lies s (set hands id (record h {
        loops = record h.loops {
          sight = Some (record { victim = k; low = (s.interval k).low; high = (s.interval k).high; home = None });
        };
      }))
  found_interval k inside long = told_looped workers lies s hands f id h at h.loops.free (Some (record { victim = k; low = (s.interval k).low; high = (s.interval k).high; home = None })) h.loops.emptied
      own_handles.free (λ lives n e. subst (IsSeen workers s hands) (some_is e) (seen_now workers lies s hands f k inside long)) own_handles.emptied

  pub found_home : (n : Sight) → 0 < h.parts → h.loops.sight ≡ Some n → Looped workers lies s (set hands id (record h {
    loops = record h.loops {
      sight = Some (record { victim = n.victim; low = n.low; high = n.high; home = Some (s.home n.victim) });
    };
  }))
  found_home n lives saw = told_looped workers lies s hands f id h at h.loops.free (Some (record { victim = n.victim; low = n.low; high = n.high; home = Some (s.home n.victim) })) h.loops.emptied
      own_handles.free (λ alive o e. subst (IsSeen workers s hands) (some_is e) (seen_home workers lies s hands f n (own_handles.sight lives n saw))) own_handles.emptied

  pub lost_sight : Looped workers lies s (set hands id (record h { loops = record h.loops { sight = None } }))
  lost_sight = told_looped workers lies s hands f id h at h.loops.free None h.loops.emptied own_handles.free (λ lives n e. absurd (none_some e)) own_handles.emptied

  -- nothing is left of a loop that has begun
  pub found_none_left : (p : Path) (t : Lie) → lies p ≡ some t → is_early t.stage ≡ false → t.unretired ≡ 0
      → Looped workers lies s (set hands id (record h { loops = record h.loops { emptied = p ∷ h.loops.emptied } }))
  found_none_left p t is late none_left = told_looped workers lies s hands f id h at h.loops.free h.loops.sight (p ∷ h.loops.emptied)
      own_handles.free own_handles.sight (λ q i. elim (in_cons q p h.loops.emptied i) [
        | inl e ↦ subst (IsEmptied lies) (sym e) (t, is, late, none_left)
        | inr old ↦ own_handles.emptied q old
      ])
