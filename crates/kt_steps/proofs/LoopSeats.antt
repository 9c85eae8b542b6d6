-- The facts of loops where seats are made and joined: what all seats have in hand together stays.
use Rattle.std.proofs.Common.{◌≡◌, ◌≢◌, ℕ, zero, suc, ◌+◌, ◌*◌, ◌-◌, ◌<◌, ◌≤◌, ◌⊎◌, Bool, true, false, cond, nat_lt, List, [], ◌∷◌, ◌++◌, length, map, sym, refl, ap, ◌∙◌, subst, inl, inr, arith, None, Some}
use mathlib.Core.Option.{Option, none, some, some-injective, some-ne-none}
use lib.ListN.{get_elem?}
use Rattle.kt_law.specs.declared.limits.TheConstants.{INDEXES, LENGTH}
use Rattle.kt_order.specs.Books.{below}
use Rattle.kt_order.specs.Forest.{Running, Finished}
use Rattle.kt_order.specs.Paths.{same_path}
use Rattle.kt_runs.specs.ByPath.{Path, child}
use Rattle.kt_words.specs.Places.{Own, worker_word}
use Rattle.kt_words.specs.declared.layouts.Layout.{Layout}
use Rattle.kt_words.specs.declared.pairs.Pair.{Pair}
use Rattle.kt_rule.specs.declared.views.Share.{Share}
use Rattle.kt_rule.specs.declared.views.IndexRun.{IndexRun}
use Rattle.kt_rule.specs.declared.views.Sight.{Sight}
use Rattle.kt_rule.specs.declared.views.LoopHands.{LoopHands}
use Rattle.kt_rule.specs.declared.views.View.{View}
use Rattle.kt_rule.specs.Lists.{weigh, one_if, In, here, there}
use Rattle.kt_rule.specs.Lies.{Lie, Lies}
use Rattle.kt_rule.specs.Records.{word_at, positions_at}
use Rattle.kt_rule.specs.Views.{no_loops}
use Rattle.kt_rule.specs.LoopWords.{LoopWords, Hand, pair_in, piece_in, own_word, loop_words, hand_of, hands_of, sum_below}
use Rattle.kt_rule.specs.LoopFacts.{in_hand, in_pair, in_given, index_times, piece_is, shown_pieces, IsUnder, IsSeen, over_long, Handles, Looped}
use Rattle.kt_rule.proofs.Sums.{in_cons}
use Rattle.kt_rule.proofs.LoopsStay.{sum_zero, no_piece, place_of}

-- HANDS OF VIEWS

pub weigh_hands : (g : Hand → ℕ) (views : List View) → weigh g (hands_of views) ≡ weigh (λ (v : View). g (hand_of v)) views
weigh_hands g [] = refl
weigh_hands g (v ∷ views) = let h = weigh_hands g views in omega arith

pub hands_long : (views : List View) → length (hands_of views) ≡ length views
hands_long [] = refl
hands_long (v ∷ views) = ap suc (hands_long views)

pub hand_at : (views : List View) (k : ℕ) (h : Hand) → get_elem? (hands_of views) k ≡ some h
    → (v : View) × (get_elem? views k ≡ some v) × (hand_of v ≡ h)
hand_at [] k h e = absurd (some-ne-none h (sym e))
hand_at (v ∷ views) zero h e = (v, refl, some-injective (hand_of v) h e)
hand_at (v ∷ views) (suc k) h e = hand_at views k h e

pub at_hand : (views : List View) (k : ℕ) (v : View) → get_elem? views k ≡ some v → get_elem? (hands_of views) k ≡ some (hand_of v)
at_hand [] k v e = absurd (some-ne-none v (sym e))
at_hand (x ∷ views) zero v e = ap (λ (z : View). some (hand_of z)) (some-injective x v e)
at_hand (x ∷ views) (suc k) v e = at_hand views k v e

in_hands : (views : List View) (k : ℕ) (v : View) → get_elem? views k ≡ some v → In (hand_of v) (hands_of views)
in_hands [] k v e = absurd (some-ne-none v (sym e))
in_hands (x ∷ views) zero v e = subst (λ (z : View). In (hand_of z) (hands_of (x ∷ views))) (some-injective x v e) here
in_hands (x ∷ views) (suc k) v e = there (in_hands views k v e)

-- WHAT CHANGES SEATS AND LEAVES LOOPS AS THEY ARE

-- whatever a view has in hand one of these had before
pub record From (views : List View) (loops : LoopHands) : Type 0 where
  pub pending : (x : Share) → In x loops.pending → (k : ℕ) × (v : View) × (get_elem? views k ≡ some v) × In x v.loops.pending
  pub pieces : (x : Share) → In x loops.pieces → (k : ℕ) × (v : View) × (get_elem? views k ≡ some v) × In x v.loops.pieces
  pub taken : (e : IndexRun) → In e loops.taken → (k : ℕ) × (v : View) × (get_elem? views k ≡ some v) × In e v.loops.taken
  pub retired : (e : IndexRun) → In e loops.retired → (k : ℕ) × (v : View) × (get_elem? views k ≡ some v) × In e v.loops.retired
  pub emptied : (p : Path) → In p loops.emptied → (k : ℕ) × (v : View) × (get_elem? views k ≡ some v) × In p v.loops.emptied

pub from_self : (views : List View) (k : ℕ) (v : View) → get_elem? views k ≡ some v → From views v.loops
from_self views k v at = record {
  pending = λ x i. (k, v, at, i);
  pieces = λ x i. (k, v, at, i);
  taken = λ e i. (k, v, at, i);
  retired = λ e i. (k, v, at, i);
  emptied = λ p i. (k, v, at, i);
}

pub from_none : (views : List View) → From views no_loops
from_none views = record {
  pending = λ x i. elim i [ ];
  pieces = λ x i. elim i [ ];
  taken = λ e i. elim i [ ];
  retired = λ e i. elim i [ ];
  emptied = λ p i. elim i [ ];
}

-- what a live view says of its own words, and of a victim, the view in its place said before; or the seat is a new one
abbrev pub SaysOwn : ℕ → List View → ℕ → View → Type 0
SaysOwn workers views seat w = 0 < w.parts → ((v : View) × (get_elem? views seat ≡ some v) × (0 < v.parts)
    × (w.loops.free ≡ v.loops.free) × (w.loops.home ≡ v.loops.home) × (w.loops.sight ≡ v.loops.sight))
    ⊎ ((length views ≤ seat) × (seat < workers) × (w.loops.home ≡ 0) × (w.loops.sight ≡ None))

-- how often a piece of a record, and an index of a loop, is with a view
abbrev pub pieces_with : ℕ → Pair → View → ℕ
pieces_with a q v = weigh (λ (x : Share). piece_is (suc x.spot.berth.at) x.low x.high a q) v.loops.pieces

abbrev pub retired_with : Path → View → ℕ
retired_with p v = weigh (λ (e : IndexRun). one_if (same_path p e.spot.path)) v.loops.retired

-- all that seats have in hand is what they had
pub record Rearranged (workers : ℕ) (s : LoopWords) (views views' : List View) : Type 0 where
  pub positions : (x : ℕ) → weigh (λ (v : View). in_hand x (hand_of v)) views' ≡ weigh (λ (v : View). in_hand x (hand_of v)) views
  pub pieces : (a : ℕ) (q : Pair) → weigh (λ (v : View). pieces_with a q v) views' ≡ weigh (λ (v : View). pieces_with a q v) views
  pub taken : (p : Path) (i : ℕ) → weigh (λ (v : View). index_times p i v.loops.taken) views'
      ≡ weigh (λ (v : View). index_times p i v.loops.taken) views
  pub retired : (p : Path) (i : ℕ) → weigh (λ (v : View). index_times p i v.loops.retired) views'
      ≡ weigh (λ (v : View). index_times p i v.loops.retired) views
  pub left : (p : Path) → weigh (λ (v : View). retired_with p v) views' ≡ weigh (λ (v : View). retired_with p v) views
  pub over : weigh (λ (v : View). v.loops.over) views' ≡ weigh (λ (v : View). v.loops.over) views
  pub beyond : weigh (λ (v : View). over_long (hand_of v)) views ≤ weigh (λ (v : View). over_long (hand_of v)) views'
  pub from : (k : ℕ) (w : View) → get_elem? views' k ≡ some w → From views w.loops
  -- what is pending with a seat whose record tells the first position is what was
  pub placed : (k : ℕ) (w : View) → get_elem? views' k ≡ some w → w.loops.placed ≡ true
      → (v : View) × (get_elem? views k ≡ some v) × (v.loops.placed ≡ true) × (w.loops.pending ≡ v.loops.pending)
  pub own : (k : ℕ) (w : View) → get_elem? views' k ≡ some w → SaysOwn workers views k w
  pub overs : (k : ℕ) (w : View) → get_elem? views' k ≡ some w → w.loops.over ≤ w.parts
  pub held : (k : ℕ) (w : View) → get_elem? views' k ≡ some w → w.loops.over ≤ length w.loops.pending
  pub crossed : (k : ℕ) (w : View) → get_elem? views' k ≡ some w → 0 < w.loops.over → INDEXES < s.drawn
  pub longer : length views ≤ length views'

module _ (workers : ℕ) (lies : Lies) (s : LoopWords) (views views' : List View) (f : Looped workers lies s (hands_of views))
    (r : Rearranged workers s views views') where
  -- a sum over the hands, as one over the views
  sum_of : (g : Hand → ℕ) → weigh (λ (v : View). g (hand_of v)) views' ≡ weigh (λ (v : View). g (hand_of v)) views
      → weigh g (hands_of views') ≡ weigh g (hands_of views)
  sum_of g e = weigh_hands g views' ∙ (e ∙ sym (weigh_hands g views))

  handles_of : (k : ℕ) (v : View) → get_elem? views k ≡ some v → Handles workers lies f.owner s (hands_of views) k (hand_of v)
  handles_of k v e = f.handles k (hand_of v) (at_hand views k v e)

  seen_by : (h : Hand) → In h (hands_of views') → (k : ℕ) × (w : View) × (get_elem? views' k ≡ some w) × (hand_of w ≡ h)
  seen_by h i = let k = place_of h (hands_of views') i in let w = hand_at views' k.0 h k.1 in (k.0, w.0, w.1, w.2)

  seen_still : (n : Sight) → IsSeen workers s (hands_of views) n → IsSeen workers s (hands_of views') n
  seen_still n o = record {
    inside = o.inside;
    some_left = o.some_left;
    counted = o.counted;
    intervals = o.intervals;
    pieces = o.pieces;
    shares = λ h i x j. let w = seen_by h i in
        let y = (r.from w.0 w.1 w.2).pieces x (subst (λ (z : Hand). In x z.loops.pieces) (sym w.3) j) in
        o.shares (hand_of y.1) (in_hands views y.0 y.1 y.2) x y.3;
    pending = λ h i x j. let w = seen_by h i in
        let y = (r.from w.0 w.1 w.2).pending x (subst (λ (z : Hand). In x z.loops.pending) (sym w.3) j) in
        o.pending (hand_of y.1) (in_hands views y.0 y.1 y.2) x y.3;
    home = o.home;
  }

  handles_now : (k : ℕ) (w : View) → get_elem? views' k ≡ some w → Handles workers lies f.owner s (hands_of views') k (hand_of w)
  handles_now k w e = let from = r.from k w e in record {
    pending = λ x i. let y = from.pending x i in (handles_of y.0 y.1 y.2).pending x y.3;
    pieces = λ x i. let y = from.pieces x i in (handles_of y.0 y.1 y.2).pieces x y.3;
    taken = λ x i. let y = from.taken x i in (handles_of y.0 y.1 y.2).taken x y.3;
    retired = λ x i. let y = from.retired x i in (handles_of y.0 y.1 y.2).retired x y.3;
    placed = λ told x i. let y = r.placed k w e told in (handles_of k y.0 y.1).placed y.2 x (subst (In x) y.3 i);
    emptied = λ p i. let y = from.emptied p i in (handles_of y.0 y.1 y.2).emptied p y.3;
    free = λ live d. elim (r.own k w e live) [
      | inl (v, at, lives, free, home, sight) ↦ (handles_of k v at).free lives (sym free ∙ d)
      | inr (new, less, home, sight) ↦ (f.unmade k (let a = hands_long views in omega arith) less).0
    ];
    home = λ live. elim (r.own k w e live) [
      | inl (v, at, lives, free, home, sight) ↦ (handles_of k v at).home lives ∙ sym home
      | inr (new, less, home, sight) ↦ (f.unmade k (let a = hands_long views in omega arith) less).1 ∙ sym home
    ];
    sight = λ live n d. elim (r.own k w e live) [
      | inl (v, at, lives, free, home, sight) ↦ seen_still n ((handles_of k v at).sight lives n (sym sight ∙ d))
      | inr (new, less, home, sight) ↦ absurd (let z : None ≡ Some n = sym sight ∙ d in cc)
    ];
    overs = r.overs k w e;
    held = r.held k w e;
    crossed = r.crossed k w e;
  }

  pub rearranged : Looped workers lies s (hands_of views')
  rearranged = record {
    owner = f.owner;
    positions = λ x. let a = f.positions x in let b = sum_of (λ (h : Hand). in_hand x h) (r.positions x) in omega arith;
    owned = f.owned;
    homes = f.homes;
    given = f.given;
    booked = f.booked;
    shown = λ p t q is live. let a = f.shown p t q is live in
        let b = sum_of (λ (h : Hand). weigh (λ (x : Share). piece_is (suc x.spot.berth.at) x.low x.high t.berth.at q) h.loops.pieces)
        (r.pieces t.berth.at q) in omega arith;
    taken = λ p i. sum_of (λ (h : Hand). index_times p i h.loops.taken) (r.taken p i) ∙ f.taken p i;
    retired = λ p i. sum_of (λ (h : Hand). index_times p i h.loops.retired) (r.retired p i) ∙ f.retired p i;
    left = λ p t is. let a = f.left p t is in
        let b = sum_of (λ (h : Hand). weigh (λ (e : IndexRun). one_if (same_path p e.spot.path)) h.loops.retired) (r.left p) in omega arith;
    childless = f.childless;
    handles = λ k h e. let w = hand_at views' k h e in
        subst (Handles workers lies f.owner s (hands_of views') k) w.2 (handles_now k w.0 w.1);
    unmade = λ k from less. f.unmade k (let a = hands_long views in let b = hands_long views' in let c = r.longer in omega arith) less;
    bound = let a = f.bound in let b = sum_of (λ (h : Hand). h.loops.over) r.over in omega arith;
    beyond = let a = f.beyond in let b = r.beyond in let c = weigh_hands over_long views in let d = weigh_hands over_long views' in omega arith;
  }
