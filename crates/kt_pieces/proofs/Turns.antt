-- A step of one seat on loops: what it owes, and that all that other seats know stays.
use Rattle.std.proofs.Common.{◌≡◌, ◌≢◌, ℕ, zero, suc, ◌+◌, ◌<◌, ◌≤◌, ◌⊎◌, false, List, [], ◌∷◌, length, set, sym, refl, ap, ◌∙◌, subst, inl, inr, arith, length-set}
use mathlib.Core.Option.{some, some-injective, some-ne-none}
use lib.ListN.{get_elem?}
use Rattle.kt_order.specs.Forest.{Running, Finished}
use Rattle.kt_order.specs.Paths.{same_path}
use Rattle.kt_runs.specs.ByPath.{Path, child}
use Rattle.kt_words.specs.declared.pairs.Pair.{Pair}
use Rattle.kt_rule.specs.declared.views.Berth.{Berth}
use Rattle.kt_rule.specs.declared.views.Share.{Share}
use Rattle.kt_rule.specs.declared.views.IndexRun.{IndexRun}
use Rattle.kt_rule.specs.declared.views.Sight.{Sight}
use Rattle.kt_rule.specs.declared.views.LoopHands.{LoopHands}
use Rattle.kt_rule.specs.Lists.{weigh, one_if, In, here, there}
use Rattle.kt_rule.specs.Lies.{Lie, Lies, is_gone}
use Rattle.kt_rule.specs.LoopWords.{LoopWords, Hand, sum_below}
use Rattle.kt_rule.specs.LoopFacts.{in_pair, in_given, in_hand, is_early, IsBooked, IsPiece, IsShare, IsPending, IsPlaced, IsEmptied, IsIndex, index_times, is_taken, is_retired, task_tally, retired_of, piece_is, shown_pieces, count_piece, IsUnder, IsSeen, over_long, Handles, Looped}
use Rattle.kt_rule.proofs.Sums.{weigh_set}
use Rattle.kt_rule.proofs.LoopsStay.{place_of}
use Rattle.atomic_table.proofs.Lists.{at_set}
use Rattle.kt_pieces.proofs.Changed.{one_or}

-- LISTS

pub in_at : {A : Type 0} (xs : List A) (k : ℕ) (x : A) → get_elem? xs k ≡ some x → In x xs
in_at [] k x e = absurd (some-ne-none x (sym e))
in_at (y ∷ xs) zero x e = subst (λ z. In z (y ∷ xs)) (some-injective y x e) here
in_at (y ∷ xs) (suc k) x e = there (in_at xs k x e)

pub less_at : {A : Type 0} (xs : List A) (k : ℕ) (x : A) → get_elem? xs k ≡ some x → k < length xs
less_at [] k x e = absurd (some-ne-none x (sym e))
less_at (y ∷ xs) zero x e = omega arith
less_at (y ∷ xs) (suc k) x e = let h = less_at xs k x e in omega arith

-- whoever stands in the changed list is the new one or was there
pub set_before : {A : Type 0} (xs : List A) (i : ℕ) (a x : A) → In x (set xs i a) → (x ≡ a) ⊎ In x xs
set_before xs i a x h = let k = place_of x (set xs i a) h in elim (at_set xs i k.0 a x k.1) [
  | inl e ↦ inl (sym e.1)
  | inr e ↦ inr (in_at xs k.0 x e.1)
]

-- POSITIONS THAT NO SPLIT HAS SEEN

-- they are not those that a split has seen, and cannot become them
abbrev pub Lower : ℕ → LoopWords → List Hand → ℕ → ℕ → Type 0
Lower workers s hands low high = (n : Sight) → IsSeen workers s hands n → IsUnder n low high

-- a part of positions that are under those that were seen, or are these
pub under_part : (n : Sight) (low high from to : ℕ) → ((low ≡ n.low) × (high ≡ n.high)) ⊎ IsUnder n low high → low ≤ from → to ≤ high
    → (low < from) ⊎ (to < high) → IsUnder n from to
under_part n low high from to (inl same) more less (inl part) e = absurd (omega (arith, same.0, part, e))
under_part n low high from to (inl same) more less (inr part) e = (omega (arith, same.0, more, e), omega (arith, same.1, part))
under_part n low high from to (inr under) more less part e = let u = under (omega (arith, more, less, e)) in
    (omega (arith, u.0, more, e), omega (arith, u.1, less))

pub not_under : (n : Sight) (p : Pair) → n.low < n.high → p ≡ record { low = n.low; high = n.high } → IsUnder n p.low p.high → ⊥
not_under n p long same under =
    let a : p.low ≡ n.low = ap (λ (z : Pair). z.low) same in
    let b : p.high ≡ n.high = ap (λ (z : Pair). z.high) same in
    let h = (under (omega (arith, a, b, long))).1 in
    omega (arith, h, b)

-- a part of a worker's interval
pub lower_part : (workers : ℕ) (s : LoopWords) (hands : List Hand) (k from to : ℕ) → k < workers → (s.interval k).low ≤ from → to ≤ (s.interval k).high
    → ((s.interval k).low < from) ⊎ (to < (s.interval k).high) → Lower workers s hands from to
lower_part workers s hands k from to less low high part n q =
    under_part n (s.interval k).low (s.interval k).high from to (elim (q.intervals k less) [
      | inl h ↦ inl (ap (λ (z : Pair). z.low) h.1, ap (λ (z : Pair). z.high) h.1)
      | inr h ↦ inr h
    ]) low high part

-- TASKS

-- a task that was a loop under way is the same loop, and one that was none may have become one
pub record Grows (t u : Lie) : Type 0 where
  pub berth : u.berth ≡ t.berth
  pub gone : is_gone u.stage ≡ is_gone t.stage
  pub first : 0 < length t.indexes → u.first ≡ t.first
  pub long : 0 < length t.indexes → length u.indexes ≡ length t.indexes
  pub emptied : is_early t.stage ≡ false → t.unretired ≡ 0 → (is_early u.stage ≡ false) × (u.unretired ≡ 0)

pub grows_same : (t u : Lie) → t ≡ u → Grows t u
grows_same t u e = record {
  berth = ap (λ (z : Lie). z.berth) (sym e);
  gone = ap (λ (z : Lie). is_gone z.stage) (sym e);
  first = λ some_there. ap (λ (z : Lie). z.first) (sym e);
  long = λ some_there. ap (λ (z : Lie). length z.indexes) (sym e);
  emptied = λ late none_left. (ap (λ (z : Lie). is_early z.stage) (sym e) ∙ late, ap (λ (z : Lie). z.unretired) (sym e) ∙ none_left);
}

abbrev pub AllGrow : Lies → Lies → Type 0
AllGrow lies lies' = (p : Path) (t : Lie) → lies p ≡ some t → (u : Lie) × (lies' p ≡ some u) × Grows t u

pub all_grow : (lies : Lies) → AllGrow lies lies
all_grow lies p t is = (t, is, grows_same t t refl)

pub piece_grows : (lies lies' : Lies) → AllGrow lies lies' → (a low high : ℕ) → IsPiece lies a low high → IsPiece lies' a low high
piece_grows lies lies' grow a low high x =
    let u = grow x.path x.task x.is in
    let g = u.2 in
    let some_there : 0 < length x.task.indexes = omega (arith, x.some_left, x.first, x.last) in
    let same = g.first some_there in
    let long = g.long some_there in
    record {
      path = x.path;
      task = u.0;
      is = u.1;
      live = g.gone ∙ x.live;
      at = ap (λ (z : Berth). z.at) g.berth ∙ x.at;
      some_left = x.some_left;
      first = omega (arith, same, x.first);
      last = omega (arith, same, long, x.last);
    }

pub share_grows : (lies lies' : Lies) → AllGrow lies lies' → (x : Share) → IsShare lies x → IsShare lies' x
share_grows lies lies' grow x h =
    let u = grow x.spot.path h.task h.is in
    let g = u.2 in
    let some_there : 0 < length h.task.indexes = omega (arith, h.some_left, h.first, h.last) in
    let same = g.first some_there in
    let long = g.long some_there in
    record {
      task = u.0;
      is = u.1;
      berth = g.berth ∙ h.berth;
      live = g.gone ∙ h.live;
      some_left = h.some_left;
      first = omega (arith, same, h.first);
      last = omega (arith, same, long, h.last);
    }

pub emptied_grows : (lies lies' : Lies) → AllGrow lies lies' → (p : Path) → IsEmptied lies p → IsEmptied lies' p
emptied_grows lies lies' grow p h = let u = grow p h.0 h.1 in let e = u.2.emptied h.2 h.3 in (u.0, u.1, e.0, e.1)

-- THE STEP

-- how often a piece of the loop in a record is in hand, and how many indexes of the loop at a path are retired
abbrev pub shares_with : ℕ → Pair → Hand → ℕ
shares_with a z y = weigh (λ (x : Share). piece_is (suc x.spot.berth.at) x.low x.high a z) y.loops.pieces

abbrev pub retired_with : Path → Hand → ℕ
retired_with p y = weigh (λ (e : IndexRun). one_if (same_path p e.spot.path)) y.loops.retired

-- what others depend on
pub record Turn (workers : ℕ) (lies : Lies) (s : LoopWords) (hands : List Hand) (owner : ℕ → Path) (id : ℕ) (h : Hand)
    (lies' : Lies) (s' : LoopWords) (l : LoopHands) : Type 0 where
  pub drawn : s'.drawn ≡ s.drawn
  pub grow : AllGrow lies lies'
  -- what other seats have in hand
  pub waiting : (seat : ℕ) (y : Hand) → get_elem? hands seat ≡ some y → seat ≢ id → (x : Share) → In x y.loops.pending
      → IsPending lies owner s.drawn x → IsPending lies' owner s.drawn x
  pub placed : (seat : ℕ) (y : Hand) → get_elem? hands seat ≡ some y → seat ≢ id → (x : Share) → In x y.loops.pending
      → IsPlaced lies x → IsPlaced lies' x
  pub taken : (seat : ℕ) (y : Hand) → get_elem? hands seat ≡ some y → seat ≢ id → (e : IndexRun) → In e y.loops.taken
      → IsIndex lies Running e → IsIndex lies' Running e
  pub retired : (seat : ℕ) (y : Hand) → get_elem? hands seat ≡ some y → seat ≢ id → (e : IndexRun) → In e y.loops.retired
      → IsIndex lies Finished e → IsIndex lies' Finished e
  -- words
  pub homes : (k : ℕ) → k ≢ id → s'.home k ≡ s.home k
  pub own_home : (s'.home id ≡ s.home id) ⊎ ((s.interval id).high ≤ (s.interval id).low)
  pub empty : (k : ℕ) → k ≢ id → (s.interval k).high ≤ (s.interval k).low → (s'.interval k).high ≤ (s'.interval k).low
  pub intervals : (k : ℕ) → k < workers → (s'.interval k ≡ s.interval k) ⊎ Lower workers s hands (s'.interval k).low (s'.interval k).high
  pub pieces : (k : ℕ) → k < workers → s'.given k ≢ 0
      → ((s.given k ≢ 0) × (s'.piece k ≡ s.piece k)) ⊎ Lower workers s hands (s'.piece k).low (s'.piece k).high
  -- the own hand
  pub shares : (x : Share) → In x l.pieces → In x h.loops.pieces ⊎ Lower workers s hands x.low x.high
  pub pending : (x : Share) → In x l.pending → In x h.loops.pending ⊎ Lower workers s hands x.low x.high
  pub over : l.over ≡ h.loops.over
  pub over_long : over_long (record { parts = h.parts; loops = l }) ≡ over_long h

module _ (workers : ℕ) (lies : Lies) (s : LoopWords) (hands : List Hand) (f : Looped workers lies s hands) (id : ℕ) (h : Hand)
    (at : get_elem? hands id ≡ some h) (lies' : Lies) (s' : LoopWords) (l : LoopHands) where
  abbrev h' : Hand
  h' = record h { loops = l }

  abbrev hands' : List Hand
  hands' = set hands id h'

  -- a sum over hands, where one is another
  pub hands_sum : (g : Hand → ℕ) → weigh g hands' + g h ≡ weigh g hands + g h'
  hands_sum g = weigh_set g hands id h h' at

  -- where the own hand has the same pieces
  pub shares_same : l.pieces ≡ h.loops.pieces → (a : ℕ) (z : Pair) → weigh (shares_with a z) hands' ≡ weigh (shares_with a z) hands
  shares_same same a z =
      let b = hands_sum (shares_with a z) in
      let c : shares_with a z h' ≡ shares_with a z h = ap (λ (xs : List Share). weigh (λ (x : Share). piece_is (suc x.spot.berth.at) x.low x.high a z) xs) same in
      omega (arith, b, c)

  -- and where it has retired none
  pub retired_same : l.retired ≡ h.loops.retired → (p : Path) → retired_of p hands' ≡ retired_of p hands
  retired_same same p =
      let b = hands_sum (retired_with p) in
      let c : retired_with p h' ≡ retired_with p h = ap (λ (xs : List IndexRun). weigh (λ (e : IndexRun). one_if (same_path p e.spot.path)) xs) same in
      omega (arith, b, c)

  module _ (t : Turn workers lies s hands f.owner id h lies' s' l) where
    seen_keep : (n : Sight) → IsSeen workers s hands n → s'.interval n.victim ≡ record { low = n.low; high = n.high }
        → (s.interval n.victim ≡ record { low = n.low; high = n.high }) × (s'.home n.victim ≡ s.home n.victim)
    seen_keep n q now = elim (t.intervals n.victim q.inside) [
      | inl same ↦ (let was : s.interval n.victim ≡ record { low = n.low; high = n.high } = sym same ∙ now in (
        was,
        elim (one_or n.victim id) [
          | inl own ↦ (elim t.own_home [
            | inl e ↦ subst (λ (j : ℕ). s'.home j ≡ s.home j) (sym own) e
            | inr hollow ↦ (let e : s.interval id ≡ record { low = n.low; high = n.high } = subst (λ (j : ℕ). s.interval j ≡ record { low = n.low; high = n.high }) own was in
                let a : (s.interval id).low ≡ n.low = ap (λ (z : Pair). z.low) e in
                let b : (s.interval id).high ≡ n.high = ap (λ (z : Pair). z.high) e in
                absurd (omega (arith, hollow, a, b, q.some_left)))
          ])
          | inr ne ↦ t.homes n.victim ne
        ],
      ))
      | inr lower ↦ absurd (not_under n (s'.interval n.victim) q.some_left now (lower n q))
    ]

    pub seen_still : (n : Sight) → IsSeen workers s hands n → IsSeen workers s' hands' n
    seen_still n q = record {
      inside = q.inside;
      some_left = q.some_left;
      counted = let a = q.counted in let b = t.drawn in omega (arith, a, b);
      intervals = λ k less. elim (t.intervals k less) [
        | inl same ↦ subst (λ (z : Pair). ((k ≡ n.victim) × (z ≡ record { low = n.low; high = n.high })) ⊎ IsUnder n z.low z.high) (sym same) (q.intervals k less)
        | inr lower ↦ inr (lower n q)
      ];
      pieces = λ k less given. elim (t.pieces k less given) [
        | inl e ↦ subst (λ (z : Pair). IsUnder n z.low z.high) (sym e.1) (q.pieces k less e.0)
        | inr lower ↦ lower n q
      ];
      shares = λ y i x k. elim (set_before hands id h' y i) [
        | inl e ↦ (elim (t.shares x (subst (λ (w : Hand). In x w.loops.pieces) e k)) [
          | inl j ↦ q.shares h (in_at hands id h at) x j
          | inr lower ↦ lower n q
        ])
        | inr e ↦ q.shares y e x k
      ];
      pending = λ y i x k. elim (set_before hands id h' y i) [
        | inl e ↦ (elim (t.pending x (subst (λ (w : Hand). In x w.loops.pending) e k)) [
          | inl j ↦ q.pending h (in_at hands id h at) x j
          | inr lower ↦ lower n q
        ])
        | inr e ↦ q.pending y e x k
      ];
      home = λ word e now. let k = seen_keep n q now in k.1 ∙ q.home word e k.0;
    }

    drawn_pending : (x : Share) → IsPending lies' f.owner s.drawn x → IsPending lies' f.owner s'.drawn x
    drawn_pending x p = subst (λ n. IsPending lies' f.owner n x) (sym t.drawn) p

    handles_other : (seat : ℕ) (y : Hand) → get_elem? hands seat ≡ some y → seat ≢ id → Handles workers lies' f.owner s' hands' seat y
    handles_other seat y e ne = let q = f.handles seat y e in record {
      pending = λ x i. drawn_pending x (t.waiting seat y e ne x i (q.pending x i));
      pieces = λ x i. share_grows lies lies' t.grow x (q.pieces x i);
      taken = λ x i. t.taken seat y e ne x i (q.taken x i);
      retired = λ x i. t.retired seat y e ne x i (q.retired x i);
      placed = λ told x i. t.placed seat y e ne x i (q.placed told x i);
      emptied = λ p i. emptied_grows lies lies' t.grow p (q.emptied p i);
      free = λ live d. t.empty seat ne (q.free live d);
      home = λ live. t.homes seat ne ∙ q.home live;
      sight = λ live n d. seen_still n (q.sight live n d);
      overs = q.overs;
      held = q.held;
      crossed = λ some_over. let a = q.crossed some_over in let b = t.drawn in omega (arith, a, b);
    }

  -- what it owes beside
  pub record Owes : Type 0 where
    pub even : (x : ℕ) → sum_below workers (λ k. in_pair (s'.interval k) x) + (sum_below workers (λ k. in_given (s'.given k) (s'.piece k) x) + in_hand x h')
        ≡ sum_below workers (λ k. in_pair (s.interval k) x) + (sum_below workers (λ k. in_given (s.given k) (s.piece k) x) + in_hand x h)
    pub owned : (p : Path) (t : Lie) (x : ℕ) → lies' p ≡ some t → t.first ≤ x → x < t.first + length t.indexes → (f.owner x ≡ p) × (x < s.drawn)
    pub homes : (k : ℕ) → k < workers → (s'.interval k).low < (s'.interval k).high
        → (a : ℕ) × (s'.home k ≡ suc a) × IsPiece lies' a (s'.interval k).low (s'.interval k).high
    pub given : (k a : ℕ) → k < workers → s'.given k ≡ suc a → IsPiece lies' a (s'.piece k).low (s'.piece k).high
    pub booked : (p : Path) (t : Lie) → lies' p ≡ some t → IsBooked t
    pub shown : (p : Path) (t : Lie) (q : Pair) → lies' p ≡ some t → is_gone t.stage ≡ false
        → shown_pieces workers s' hands' t.berth.at q ≡ count_piece q t.first t.pieces
    pub taken : (p : Path) (i : ℕ) → index_times p i l.taken + task_tally is_taken i (lies p) ≡ index_times p i h.loops.taken + task_tally is_taken i (lies' p)
    pub retired : (p : Path) (i : ℕ) → index_times p i l.retired + task_tally is_retired i (lies p) ≡ index_times p i h.loops.retired + task_tally is_retired i (lies' p)
    pub left : (p : Path) (t : Lie) → lies' p ≡ some t → t.unretired + retired_of p hands' ≡ t.berth.call.length
    pub childless : (p : Path) (i : ℕ) (t u : Lie) → lies' p ≡ some t → lies' (child p i) ≡ some u → t.indexes ≡ []
    pub own : Turn workers lies s hands f.owner id h lies' s' l → Handles workers lies' f.owner s' hands' id h'

  pub assemble : Turn workers lies s hands f.owner id h lies' s' l → Owes → Looped workers lies' s' hands'
  assemble t o = record {
    owner = f.owner;
    positions = λ x. let a = f.positions x in let b = o.even x in let c = hands_sum (λ (y : Hand). in_hand x y) in let d = t.drawn in omega (arith, a, b, c, d);
    owned = λ p u x is low high. let k = o.owned p u x is low high in let d = t.drawn in (k.0, (let less = k.1 in omega (arith, less, d)));
    homes = o.homes;
    given = o.given;
    booked = o.booked;
    shown = o.shown;
    taken = λ p i. let a = f.taken p i in let b = o.taken p i in let c = hands_sum (λ (y : Hand). index_times p i y.loops.taken) in omega (arith, a, b, c);
    retired = λ p i. let a = f.retired p i in let b = o.retired p i in let c = hands_sum (λ (y : Hand). index_times p i y.loops.retired) in omega (arith, a, b, c);
    left = o.left;
    childless = o.childless;
    handles = λ k y e. elim (at_set hands id k h' y e) [
      | inl c ↦ subst (λ (z : ℕ × Hand). Handles workers lies' f.owner s' hands' z.0 z.1) (λ i. (sym c.0 i, c.1 i)) (o.own t)
      | inr c ↦ handles_other t k y c.1 c.0
    ];
    unmade = λ k from less. (let long = length-set hands id h' in let own = less_at hands id h at in
        let ne : k ≢ id = (λ e. omega (arith, from, long, own, e)) in
        let u = f.unmade k (omega (arith, from, long)) less in (t.empty k ne u.0, t.homes k ne ∙ u.1));
    bound = let a = f.bound in let b = hands_sum (λ (y : Hand). y.loops.over) in let c = t.over in let d = t.drawn in omega (arith, a, b, c, d);
    beyond = let a = f.beyond in let b = hands_sum over_long in let c = t.over_long in let d = t.drawn in omega (arith, a, b, c, d);
  }
