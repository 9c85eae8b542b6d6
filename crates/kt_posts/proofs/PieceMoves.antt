-- A piece of a loop goes from a seat's hand into a post, or from a post into a hand: the facts of loops after such a step.
use Rattle.std.proofs.Common.{◌≡◌, ◌≢◌, ℕ, zero, suc, ◌+◌, ◌*◌, ◌^◌, ◌<◌, ◌≤◌, ◌⊎◌, ◌&&◌, Bool, true, false, cond, nat_eq, List, [], ◌∷◌, length, set, length-set, sym, refl, ap, ◌∙◌, subst, inl, inr, arith, eq-eqb, ne_eqb}
use mathlib.Core.Option.{some, some-injective, some-ne-none}
use native.Mathlib.Decide.{ℕ_discrete}
use lib.ListN.{get_elem?}
use Rattle.atomic_table.proofs.Lists.{at_set}
use Rattle.kt_law.specs.declared.limits.TheConstants.{INDEXES, LENGTH}
use Rattle.kt_runs.specs.ByPath.{Path}
use Rattle.kt_words.specs.declared.pairs.Pair.{Pair}
use Rattle.kt_rule.specs.declared.views.Berth.{Berth}
use Rattle.kt_rule.specs.declared.views.Share.{Share}
use Rattle.kt_rule.specs.declared.views.IndexRun.{IndexRun}
use Rattle.kt_rule.specs.declared.views.Sight.{Sight}
use Rattle.kt_rule.specs.Lists.{weigh, one_if, In, here, there}
use Rattle.kt_rule.specs.Lies.{Lie, Lies}
use Rattle.kt_rule.specs.LoopWords.{LoopWords, Hand, between, sum_below}
use Rattle.kt_rule.specs.LoopFacts.{in_pair, in_shares, in_given, in_hand, IsPiece, IsShare, index_times, piece_is, IsUnder, IsSeen, Handles, Looped, over_long}
use Rattle.kt_rule.proofs.Sums.{in_cons, weigh_set, weigh_one}
use Rattle.kt_rule.proofs.LoopsStay.{place_of, no_piece}
use Rattle.kt_posts.specs.Desks.{other_pieces}

-- SUMS

sum_same : (n : ℕ) (f g : ℕ → ℕ) → ((i : ℕ) → i < n → f i ≡ g i) → sum_below n f ≡ sum_below n g
sum_same zero f g same = refl
sum_same (suc n) f g same =
    let a = same n (omega arith) in let b = sum_same n f g (λ i less. same i (omega arith)) in omega arith

-- a sum in which one entry changes
sum_one : (n : ℕ) (f g : ℕ → ℕ) (k : ℕ) → k < n → ((i : ℕ) → i ≢ k → f i ≡ g i) → sum_below n g + f k ≡ sum_below n f + g k
sum_one zero f g k less same = absurd (omega arith)
sum_one (suc n) f g k less same = elim (ℕ_discrete n k) [
  | yes e ↦ (let a = sum_same n f g (λ i low. same i (λ d. absurd (omega arith))) in let b : f n ≡ f k = ap f e in
      let c : g n ≡ g k = ap g e in omega arith)
  | no d ↦ (let a = sum_one n f g k (let z : n ≢ k = d in omega arith) same in let b = same n d in omega arith)
]

weigh_most : {A : Type 0} (f g : A → ℕ) (xs : List A) → ((x : A) → In x xs → f x ≤ g x) → weigh f xs ≤ weigh g xs
weigh_most f g [] most = omega arith
weigh_most f g (x ∷ xs) most =
    let a = most x here in let b = weigh_most f g xs (λ y i. most y (there i)) in omega arith

in_at : {A : Type 0} (xs : List A) (k : ℕ) (x : A) → get_elem? xs k ≡ some x → In x xs
in_at [] k x e = absurd (some-ne-none x (sym e))
in_at (y ∷ xs) zero x e = subst (λ z. In z (y ∷ xs)) (some-injective y x e) here
in_at (y ∷ xs) (suc k) x e = there (in_at xs k x e)

in_set : {A : Type 0} (xs : List A) (k : ℕ) (x y : A) → In y (set xs k x) → (y ≡ x) ⊎ In y xs
in_set xs k x y i = let h = place_of y (set xs k x) i in elim (at_set xs k h.0 x y h.1) [
  | inl c ↦ inl (sym c.1)
  | inr c ↦ inr (in_at xs h.0 y c.1)
]

-- ONE PIECE TAKEN OUT OF A HAND: there is only one that begins at this position

and_false : (b c : Bool) → c ≡ false → (b && c) ≡ false
and_false true c e = e
and_false false c e = refl

pub keeps_one : (a low : ℕ) (y : Share) (xs : List Share) → low ≢ y.low → other_pieces a low (y ∷ xs) ≡ y ∷ other_pieces a low xs
keeps_one a low y xs other = ap (λ (b : Bool). cond b (other_pieces a low xs) (y ∷ other_pieces a low xs))
    (and_false (nat_eq a y.spot.berth.at) (nat_eq low y.low) (ne_eqb low y.low other))

pub drops_one : (x : Share) (xs : List Share) → other_pieces x.spot.berth.at x.low (x ∷ xs) ≡ other_pieces x.spot.berth.at x.low xs
drops_one x xs = λ i. cond (eq-eqb x.spot.berth.at x.spot.berth.at refl i && eq-eqb x.low x.low refl i)
    (other_pieces x.spot.berth.at x.low xs) (x ∷ other_pieces x.spot.berth.at x.low xs)

share_most : (n : ℕ) (xs : List Share) (x : Share) → In x xs → between x.low x.high n ≤ in_shares n xs
share_most n [] x i = elim i [ ]
share_most n (y ∷ xs) x here = omega arith
share_most n (y ∷ xs) x (there i) = let h = share_most n xs x i in omega arith

keeps_all : (a low : ℕ) (xs : List Share) → ((y : Share) → In y xs → y.low < y.high) → in_shares low xs ≡ 0 → other_pieces a low xs ≡ xs
keeps_all a low [] long none_there = refl
keeps_all a low (y ∷ xs) long none_there =
    let some_left = long y here in let rest = keeps_all a low xs (λ z i. long z (there i)) (omega arith) in
    keeps_one a low y xs (λ e. absurd (omega arith)) ∙ ap (λ (zs : List Share). y ∷ zs) rest

pub taken_out : (f : Share → ℕ) (xs : List Share) (x : Share) → In x xs → ((y : Share) → In y xs → y.low < y.high)
    → in_shares x.low xs ≤ 1 → weigh f xs ≡ f x + weigh f (other_pieces x.spot.berth.at x.low xs)
taken_out f [] x i long once = elim i [ ]
taken_out f (y ∷ xs) x here long once =
    let some_left = long x here in
    let rest = keeps_all x.spot.berth.at x.low xs (λ z i. long z (there i)) (omega arith) in
    let now : weigh f (other_pieces x.spot.berth.at x.low (x ∷ xs)) ≡ weigh f xs = ap (weigh f) (drops_one x xs ∙ rest) in omega arith
taken_out f (y ∷ xs) x (there i) long once =
    let some_left = long x (there i) in let more_left = long y here in let all = share_most x.low xs x i in
    let other : x.low ≢ y.low = (λ e. absurd (omega arith)) in
    let rest = taken_out f xs x i (λ z k. long z (there k)) (omega arith) in
    let now : weigh f (other_pieces x.spot.berth.at x.low (y ∷ xs)) ≡ f y + weigh f (other_pieces x.spot.berth.at x.low xs) = ap (weigh f)
    (keeps_one x.spot.berth.at x.low y xs other) in omega arith

pub in_others : (a low : ℕ) (xs : List Share) (x : Share) → In x (other_pieces a low xs) → In x xs
in_others a low [] x i = elim i [ ]
in_others a low (y ∷ xs) x i = go (nat_eq a y.spot.berth.at && nat_eq low y.low) i (in_others a low xs x)
  where
    go : (b : Bool) → In x (cond b (other_pieces a low xs) (y ∷ other_pieces a low xs)) → (In x (other_pieces a low xs) → In x xs)
        → In x (y ∷ xs)
    go true i rest = there (rest i)
    go false i rest = elim (in_cons x y (other_pieces a low xs) i) [
      | inl e ↦ subst (λ z. In z (y ∷ xs)) (sym e) here
      | inr h ↦ there (rest h)
    ]

-- POSITIONS ARE SMALL NUMBERS

module _ (workers : ℕ) (lies : Lies) (s : LoopWords) (hands : List Hand) (f : Looped workers lies s hands)
    (crew : weigh (λ (h : Hand). h.parts) hands ≤ 8) where
  drawn_small : s.drawn ≤ INDEXES + LENGTH * 8
  drawn_small =
      let overs = weigh_most (λ (h : Hand). h.loops.over) (λ (h : Hand). h.parts) hands
      (λ h i. let k = place_of h hands i in (f.handles k.0 h k.1).overs) in
      let bound = f.bound in omega arith

  pub position_fits : (p : Path) (t : Lie) (low high : ℕ) → lies p ≡ some t → t.first ≤ low → low < high → high ≤ t.first + length t.indexes
      → high < 2 ^ 32
  position_fits p t low zero is first some_left last = omega arith
  position_fits p t low (suc n) is first some_left last =
      let drawn = (f.owned p t n is (omega arith) (omega arith)).1 in let few = drawn_small in omega arith

-- THE FACTS AFTER A STEP on the post of worker k, or on its answer word, by the seat that has these pieces in hand afterwards

module _ (workers : ℕ) (lies : Lies) (s : LoopWords) (hands : List Hand) (f : Looped workers lies s hands) (k : ℕ) (k_less : k < workers)
    (g : ℕ → ℕ) (p : ℕ → Pair) (givens : (i : ℕ) → i ≢ k → g i ≡ s.given i) (answers : (i : ℕ) → i ≢ k → p i ≡ s.piece i) (id : ℕ)
    (h : Hand) (at : get_elem? hands id ≡ some h) where
  abbrev pub words_then : LoopWords
  words_then = record s { given = g; piece = p }

  own : Handles workers lies f.owner s hands id h
  own = f.handles id h at

  hand_in : In h hands
  hand_in = in_at hands id h at

  module _ (ps : List Share) where
    abbrev pub hand_then : Hand
    hand_then = record h { loops = record h.loops { pieces = ps } }

    abbrev pub hands_then : List Hand
    hands_then = set hands id hand_then

    -- what leaves the hand is in the post, and the other way round
    pub record Moves : Type 0 where
      pub positions : (x : ℕ) → in_given (g k) (p k) x + in_shares x ps ≡ in_given (s.given k) (s.piece k) x + in_shares x h.loops.pieces
      pub shown : (a : ℕ) (q : Pair) → piece_is (g k) (p k).low (p k).high a q
          + weigh (λ (x : Share). piece_is (suc x.spot.berth.at) x.low x.high a q) ps
          ≡ piece_is (s.given k) (s.piece k).low (s.piece k).high a q
          + weigh (λ (x : Share). piece_is (suc x.spot.berth.at) x.low x.high a q) h.loops.pieces
      pub given : (a : ℕ) → g k ≡ suc a → IsPiece lies a (p k).low (p k).high
      pub shares : (x : Share) → In x ps → IsShare lies x
      pub under_post : (n : Sight) → IsSeen workers s hands n → g k ≢ 0 → IsUnder n (p k).low (p k).high
      pub under_hand : (n : Sight) → IsSeen workers s hands n → (x : Share) → In x ps → IsUnder n x.low x.high

    module _ (m : Moves) where
      seen_then : (n : Sight) → IsSeen workers s hands n → IsSeen workers words_then hands_then n
      seen_then n o = record {
        inside = o.inside;
        some_left = o.some_left;
        counted = o.counted;
        intervals = o.intervals;
        pieces = λ i less given. elim (ℕ_discrete i k) [
          | yes d ↦ subst (λ (z : ℕ). IsUnder n (p z).low (p z).high) (sym d) (m.under_post n o (λ e. given (ap g d ∙ e)))
          | no c ↦ subst (λ (z : Pair). IsUnder n z.low z.high) (sym (answers i c)) (o.pieces i less (λ e. given (givens i c ∙ e)))
        ];
        shares = λ y i x x_in. elim (in_set hands id hand_then y i) [
          | inl e ↦ m.under_hand n o x (subst (λ (z : Hand). In x z.loops.pieces) e x_in)
          | inr old ↦ o.shares y old x x_in
        ];
        pending = λ y i x x_in. elim (in_set hands id hand_then y i) [
          | inl e ↦ o.pending h hand_in x (subst (λ (z : Hand). In x z.loops.pending) e x_in)
          | inr old ↦ o.pending y old x x_in
        ];
        home = o.home;
      }

      own_then : Handles workers lies f.owner words_then hands_then id hand_then
      own_then = record {
        pending = own.pending;
        pieces = m.shares;
        taken = own.taken;
        retired = own.retired;
        placed = own.placed;
        emptied = own.emptied;
        free = own.free;
        home = own.home;
        sight = λ live n e. seen_then n (own.sight live n e);
        overs = own.overs;
        held = own.held;
        crossed = own.crossed;
      }

      other_then : (seat : ℕ) (y : Hand) → Handles workers lies f.owner s hands seat y
          → Handles workers lies f.owner words_then hands_then seat y
      other_then seat y o = record {
        pending = o.pending;
        pieces = o.pieces;
        taken = o.taken;
        retired = o.retired;
        placed = o.placed;
        emptied = o.emptied;
        free = o.free;
        home = o.home;
        sight = λ live n e. seen_then n (o.sight live n e);
        overs = o.overs;
        held = o.held;
        crossed = o.crossed;
      }

      pub moved : Looped workers lies words_then hands_then
      moved = record {
        owner = f.owner;
        positions = λ x. let a = f.positions x in let b = weigh_set (λ (z : Hand). in_hand x z) hands id h hand_then at in
            let c = sum_one workers (λ i. in_given (s.given i) (s.piece i) x) (λ i. in_given (g i) (p i) x) k k_less
            (λ i n. λ j. in_given (sym (givens i n) j) (sym (answers i n) j) x) in let d = m.positions x in omega arith;
        owned = f.owned;
        homes = f.homes;
        given = λ i a less is. elim (ℕ_discrete i k) [
          | yes d ↦ subst (λ (z : ℕ). IsPiece lies a (p z).low (p z).high) (sym d) (m.given a (ap g (sym d) ∙ is))
          | no c ↦ subst (λ (z : Pair). IsPiece lies a z.low z.high) (sym (answers i c)) (f.given i a less (sym (givens i c) ∙ is))
        ];
        booked = f.booked;
        shown = λ r t q is live. let a = f.shown r t q is live in let n : ℕ = t.berth.at in
            let b = weigh_set (λ (z : Hand). weigh (λ (x : Share). piece_is (suc x.spot.berth.at) x.low x.high n q) z.loops.pieces) hands id h
            hand_then at in
            let c = sum_one workers (λ i. piece_is (s.given i) (s.piece i).low (s.piece i).high n q)
            (λ i. piece_is (g i) (p i).low (p i).high n q) k k_less
            (λ i e. λ j. piece_is (sym (givens i e) j) (sym (answers i e) j).low (sym (answers i e) j).high n q) in
            let d = m.shown n q in omega arith;
        taken = λ r i. let a = f.taken r i in
            let b = weigh_set (λ (z : Hand). index_times r i z.loops.taken) hands id h hand_then at in omega arith;
        retired = λ r i. let a = f.retired r i in
            let b = weigh_set (λ (z : Hand). index_times r i z.loops.retired) hands id h hand_then at in omega arith;
        left = λ r t is. let a = f.left r t is in
            let b = weigh_set (λ (z : Hand). weigh (λ (e : IndexRun). one_if (Rattle.kt_order.specs.Paths.same_path r e.spot.path))
            z.loops.retired) hands id h hand_then at in omega arith;
        childless = f.childless;
        handles = λ seat y e. elim (at_set hands id seat hand_then y e) [
          | inl c ↦ subst (λ (z : ℕ × Hand). Handles workers lies f.owner words_then hands_then z.0 z.1) (λ i. (sym c.0 i, c.1 i)) own_then
          | inr c ↦ other_then seat y (f.handles seat y c.1)
        ];
        unmade = λ i from less. let n = length-set hands id hand_then in f.unmade i (omega arith) less;
        bound = let a = f.bound in let b = weigh_set (λ (z : Hand). z.loops.over) hands id h hand_then at in omega arith;
        beyond = let a = f.beyond in let b = weigh_set over_long hands id h hand_then at in
            let c : over_long hand_then ≡ over_long h = refl in omega arith;
      }

  -- A PIECE IS TAKEN out of the post of worker k
  module _ (a : ℕ) (x : Share) (given_is : s.given k ≡ suc a) (at_is : x.spot.berth.at ≡ a)
      (pair : record { low = x.low; high = x.high } ≡ s.piece k) (share : IsShare lies x) (none_now : g k ≡ 0) where
    pub piece_taken : Looped workers lies words_then (hands_then (x ∷ h.loops.pieces))
    piece_taken = moved (x ∷ h.loops.pieces) (record {
      positions = λ n. let c : in_given (g k) (p k) n ≡ 0 = ap (λ z. in_given z (p k) n) none_now in
          let d : in_given (s.given k) (s.piece k) n ≡ in_pair (s.piece k) n = ap (λ z. in_given z (s.piece k) n) given_is in
          let e : between x.low x.high n ≡ in_pair (s.piece k) n = ap (λ (z : Pair). in_pair z n) pair in omega arith;
      shown = λ b q. let c = no_piece (g k) (p k).low (p k).high b q (λ e long. absurd (omega arith)) in
          let d : piece_is (s.given k) (s.piece k).low (s.piece k).high b q ≡ piece_is (suc x.spot.berth.at) x.low x.high b q =
          (λ i. piece_is ((given_is ∙ ap suc (sym at_is)) i) (sym pair i).low (sym pair i).high b q) in omega arith;
      given = λ b e. absurd (omega arith);
      shares = λ y i. elim (in_cons y x h.loops.pieces i) [
        | inl e ↦ subst (IsShare lies) (sym e) share
        | inr old ↦ own.pieces y old
      ];
      under_post = λ n o given. absurd (given none_now);
      under_hand = λ n o y i. elim (in_cons y x h.loops.pieces i) [
        | inl e ↦ subst (λ (z : Share). IsUnder n z.low z.high) (sym e) (subst (λ (z : Pair). IsUnder n z.low z.high) (sym pair)
            (o.pieces k k_less (λ z. absurd (omega arith))))
        | inr old ↦ o.shares h hand_in y old
      ];
    })

  -- A PIECE IS GIVEN in the post of worker k, which gave none
  module _ (x : Share) (x_in : In x h.loops.pieces) (none_before : s.given k ≡ 0) (given_now : g k ≡ suc x.spot.berth.at)
      (pair_now : p k ≡ record { low = x.low; high = x.high }) where
    share_is : IsShare lies x
    share_is = own.pieces x x_in

    abbrev rest : List Share
    rest = other_pieces x.spot.berth.at x.low h.loops.pieces

    once : in_shares x.low h.loops.pieces ≤ 1
    once = let a = f.positions x.low in let b = weigh_one (λ (z : Hand). in_hand x.low z) hands id h at in omega arith

    out : (w : Share → ℕ) → weigh w h.loops.pieces ≡ w x + weigh w rest
    out w = taken_out w h.loops.pieces x x_in (λ y i. (own.pieces y i).some_left) once

    pub piece_given : Looped workers lies words_then (hands_then rest)
    piece_given = moved rest (record {
      positions = λ n. let c : in_given (s.given k) (s.piece k) n ≡ 0 = ap (λ z. in_given z (s.piece k) n) none_before in
          let d : in_given (g k) (p k) n ≡ between x.low x.high n = (λ i. in_given (given_now i) (pair_now i) n) in
          let e = out (λ (y : Share). between y.low y.high n) in omega arith;
      shown = λ b q. let c = no_piece (s.given k) (s.piece k).low (s.piece k).high b q (λ e long. absurd (omega arith)) in
          let d : piece_is (g k) (p k).low (p k).high b q ≡ piece_is (suc x.spot.berth.at) x.low x.high b q =
          (λ i. piece_is (given_now i) (pair_now i).low (pair_now i).high b q) in
          let e = out (λ (y : Share). piece_is (suc y.spot.berth.at) y.low y.high b q) in omega arith;
      given = λ b e. subst (λ (z : ℕ × Pair). IsPiece lies z.0 z.1.low z.1.high)
          (λ i. ((let z : x.spot.berth.at ≡ b = omega arith in z) i, sym pair_now i)) (record {
            path = x.spot.path;
            task = share_is.task;
            is = share_is.is;
            live = share_is.live;
            at = ap (λ (z : Berth). z.at) share_is.berth;
            some_left = share_is.some_left;
            first = share_is.first;
            last = share_is.last;
          });
      shares = λ y i. own.pieces y (in_others x.spot.berth.at x.low h.loops.pieces y i);
      under_post = λ n o given. subst (λ (z : Pair). IsUnder n z.low z.high) (sym pair_now) (o.shares h hand_in x x_in);
      under_hand = λ n o y i. o.shares h hand_in y (in_others x.spot.berth.at x.low h.loops.pieces y i);
    })
