-- A draw of positions: a seat that runs a loop which has not begun draws its positions, all of them by one fetch.
use Rattle.std.proofs.Common.{◌≡◌, ℕ, suc, ◌+◌, ◌*◌, ◌<◌, ◌≤◌, ◌⊎◌, Bool, true, false, cond, nat_eq, nat_le, List, [], ◌∷◌, set, sym, refl, ap, ◌∙◌, subst, inl, inr, arith, length-set}
use mathlib.Core.Option.{some}
use lib.ListN.{get_elem?}
use Rattle.std.proofs.lemmas.Bool.Decides.{nat_tests}
use Rattle.kt_law.specs.declared.limits.TheConstants.{INDEXES, LENGTH}
use Rattle.kt_runs.specs.ByPath.{Path}
use Rattle.kt_rule.specs.declared.views.Share.{Share}
use Rattle.kt_rule.specs.declared.views.IndexRun.{IndexRun}
use Rattle.kt_rule.specs.declared.views.Sight.{Sight}
use Rattle.kt_rule.specs.declared.views.Spot.{Spot}
use Rattle.kt_rule.specs.Lists.{weigh, one_if, In}
use Rattle.kt_rule.specs.Lies.{Lie, Lies}
use Rattle.kt_rule.specs.LoopWords.{LoopWords, Hand, between}
use Rattle.kt_rule.specs.LoopFacts.{in_hand, index_times, piece_is, IsPending, IsUnder, IsSeen, over_long, Handles, Looped}
use Rattle.kt_rule.proofs.Sums.{weigh_set, in_cons}
use Rattle.atomic_table.proofs.Lists.{at_set}
use Rattle.kt_pieces.proofs.Turns.{in_at, set_before}

-- the hands, where one hand draws
module _ (workers : ℕ) (lies : Lies) (s : LoopWords) (hands : List Hand) (f : Looped workers lies s hands) (id : ℕ) (h : Hand)
    (at : get_elem? hands id ≡ some h) (live : 0 < h.parts) (none_drawn : h.loops.over ≡ 0) (none_pending : h.loops.pending ≡ [])
    (m : Spot) (t : Lie) (is : lies m.path ≡ some t) (berth : t.berth ≡ m.berth) (none_yet : t.indexes ≡ [])
    (few : m.berth.call.length ≤ LENGTH) (over : ℕ) (most : over ≤ 1)
    (within : over ≡ 0 → s.drawn + m.berth.call.length ≤ INDEXES) (beyond : 0 < over → INDEXES < s.drawn + m.berth.call.length) where
  abbrev n : ℕ
  n = m.berth.call.length

  abbrev x : Share
  x = record { spot = m; low = s.drawn; high = s.drawn + n }

  abbrev h' : Hand
  h' = record h { loops = record h.loops { pending = x ∷ []; placed = false; over = over } }

  abbrev s' : LoopWords
  s' = record s { drawn = s.drawn + n }

  abbrev hands' : List Hand
  hands' = set hands id h'

  abbrev owner' : ℕ → Path
  owner' k = cond (nat_le s.drawn k) m.path (f.owner k)

  owner_old : (k : ℕ) → k < s.drawn → owner' k ≡ f.owner k
  owner_old k less = ap (λ (b : Bool). cond b m.path (f.owner k)) (let e : nat_le s.drawn k ≡ false = grind (arith, nat_tests) in e)

  owner_new : (k : ℕ) → s.drawn ≤ k → owner' k ≡ m.path
  owner_new k most = ap (λ (b : Bool). cond b m.path (f.owner k)) (let e : nat_le s.drawn k ≡ true = grind (arith, nat_tests) in e)

  -- a sum that the draw leaves alone
  same_sum : (g : Hand → ℕ) → g h' ≡ g h → weigh g hands' ≡ weigh g hands
  same_sum g same = let a = weigh_set g hands id h h' at in omega arith

  positions_now : (k : ℕ) → weigh (λ (y : Hand). in_hand k y) hands' ≡ weigh (λ (y : Hand). in_hand k y) hands + between s.drawn (s.drawn + n) k
  positions_now k =
      let a = weigh_set (λ (y : Hand). in_hand k y) hands id h h' at in
      let b : weigh (λ (y : Share). between y.low y.high k) h.loops.pending ≡ 0 = ap (λ (ys : List Share). weigh (λ (y : Share). between y.low y.high k) ys) none_pending in
      omega arith

  -- positions that are drawn now were not seen by anybody
  new_under : (o : Sight) → o.low < s.drawn → IsUnder o s.drawn (s.drawn + n)
  new_under o less e = absurd (omega arith)

  seen_still : (o : Sight) → IsSeen workers s hands o → IsSeen workers s' hands' o
  seen_still o q = record {
    inside = q.inside;
    some_left = q.some_left;
    counted = let a = q.counted in omega arith;
    intervals = q.intervals;
    pieces = q.pieces;
    shares = λ y i z k. elim (set_before hands id h' y i) [
      | inl e ↦ q.shares h (in_at hands id h at) z (subst (λ (w : Hand). In z w.loops.pieces) e k)
      | inr e ↦ q.shares y e z k
    ];
    pending = λ y i z k. elim (set_before hands id h' y i) [
      | inl e ↦ (elim (in_cons z x [] (subst (λ (w : Hand). In z w.loops.pending) e k)) [
        | inl c ↦ subst (λ (w : Share). IsUnder o w.low w.high) (sym c) (new_under o q.counted)
        | inr c ↦ elim c [ ]
      ])
      | inr e ↦ q.pending y e z k
    ];
    home = q.home;
  }

  pending_still : (y : Share) → IsPending lies f.owner s.drawn y → IsPending lies owner' (s.drawn + n) y
  pending_still y p = record {
    task = p.task;
    is = p.is;
    berth = p.berth;
    none_yet = p.none_yet;
    whole = p.whole;
    counted = let a = p.counted in omega arith;
    owned = λ k low high. owner_old k (let a = p.counted in omega arith) ∙ p.owned k low high;
  }

  new_pending : IsPending lies owner' (s.drawn + n) x
  new_pending = record {
    task = t;
    is = is;
    berth = berth;
    none_yet = none_yet;
    whole = refl;
    counted = omega arith;
    owned = λ k low high. owner_new k low;
  }

  pub drawn_looped : Looped workers lies s' hands'
  drawn_looped = record {
    owner = owner';
    positions = λ k. let a = f.positions k in let b = positions_now k in omega arith;
    owned = λ p u k u_is low high. let o = f.owned p u k u_is low high in (owner_old k o.1 ∙ o.0, (let a = o.1 in omega arith));
    homes = f.homes;
    given = f.given;
    booked = f.booked;
    shown = λ p u q u_is lives. let a = f.shown p u q u_is lives in
        let b = same_sum (λ (y : Hand). weigh (λ (z : Share). piece_is (suc z.spot.berth.at) z.low z.high u.berth.at q) y.loops.pieces) refl in
        omega arith;
    taken = λ p i. same_sum (λ (y : Hand). index_times p i y.loops.taken) refl ∙ f.taken p i;
    retired = λ p i. same_sum (λ (y : Hand). index_times p i y.loops.retired) refl ∙ f.retired p i;
    left = λ p u u_is. let a = f.left p u u_is in
        let b = same_sum (λ (y : Hand). weigh (λ (e : IndexRun). one_if (Rattle.kt_order.specs.Paths.same_path p e.spot.path)) y.loops.retired) refl in
        omega arith;
    childless = f.childless;
    handles = λ k y e. elim (at_set hands id k h' y e) [
      | inl c ↦ subst (λ (z : ℕ × Hand). Handles workers lies owner' s' hands' z.0 z.1) (λ i. (sym c.0 i, c.1 i)) own_now
      | inr c ↦ (let q = f.handles k y c.1 in record {
        pending = λ z i. pending_still z (q.pending z i);
        pieces = q.pieces;
        taken = q.taken;
        retired = q.retired;
        placed = q.placed;
        emptied = q.emptied;
        free = q.free;
        home = q.home;
        sight = λ lives o d. seen_still o (q.sight lives o d);
        overs = q.overs;
        held = q.held;
        crossed = λ some_over. let a = q.crossed some_over in omega arith;
      })
    ];
    unmade = λ k from less. f.unmade k (let a = length-set hands id h' in omega arith) less;
    bound = let a = f.bound in let b = weigh_set (λ (y : Hand). y.loops.over) hands id h h' at in
        bound_now a b (zero_or over);
    beyond = let a = f.beyond in let b = weigh_set over_long hands id h h' at in beyond_now a b (zero_or over);
  }
    where
      zero_or : (k : ℕ) → (k ≡ 0) ⊎ (0 < k)
      zero_or k = grind arith

      bound_now : s.drawn ≤ INDEXES + LENGTH * weigh (λ (y : Hand). y.loops.over) hands
          → weigh (λ (y : Hand). y.loops.over) hands' + h.loops.over ≡ weigh (λ (y : Hand). y.loops.over) hands + over
          → (over ≡ 0) ⊎ (0 < over) → s.drawn + n ≤ INDEXES + LENGTH * weigh (λ (y : Hand). y.loops.over) hands'
      bound_now a b (inl none_over) = let c = within none_over in omega arith
      bound_now a b (inr some_over) = omega arith

      not_told : false ≡ true → ⊥
      not_told e = cc

      -- where the draw is over the limit, what it drew stays pending
      beyond_now : s.drawn ≤ INDEXES + weigh over_long hands → weigh over_long hands' + over_long h ≡ weigh over_long hands + over_long h'
          → (over ≡ 0) ⊎ (0 < over) → s.drawn + n ≤ INDEXES + weigh over_long hands'
      beyond_now a b (inl none_over) = let c = within none_over in omega (arith, c)
      beyond_now a b (inr some_over) =
          let was : over_long h ≡ 0 = ap (λ (k : ℕ). cond (nat_eq k 0) 0 (weigh (λ (y : Share). y.spot.berth.call.length) h.loops.pending)) none_drawn in
          let e : nat_eq over 0 ≡ false = grind (arith, nat_tests) in
          let now : over_long h' ≡ n + 0 = ap (λ (c : Bool). cond c 0 (n + 0)) e in
          omega (arith, a, b, was, now)

      own_now : Handles workers lies owner' s' hands' id h'
      own_now = let q = f.handles id h at in record {
        pending = λ z i. elim (in_cons z x [] i) [
          | inl c ↦ subst (IsPending lies owner' (s.drawn + n)) (sym c) new_pending
          | inr c ↦ elim c [ ]
        ];
        pieces = q.pieces;
        taken = q.taken;
        retired = q.retired;
        placed = λ told. absurd (not_told told);
        emptied = q.emptied;
        free = q.free;
        home = q.home;
        sight = λ lives o d. seen_still o (q.sight lives o d);
        overs = omega arith;
        held = omega arith;
        crossed = beyond;
      }

-- HOW MANY POSITIONS ARE DRAWN AT MOST: the count goes over the limit once for each seat

over_most : (hands : List Hand) → ((k : ℕ) (h : Hand) → get_elem? hands k ≡ some h → h.loops.over ≤ h.parts)
    → weigh (λ (h : Hand). h.loops.over) hands ≤ weigh (λ (h : Hand). h.parts) hands
over_most [] most = omega arith
over_most (h ∷ hands) most =
    let a = most 0 h refl in
    let b = over_most hands (λ k x e. most (suc k) x e) in
    omega (arith, a, b)

pub drawn_most : (workers : ℕ) (lies : Lies) (s : LoopWords) (hands : List Hand) → Looped workers lies s hands → (n : ℕ)
    → weigh (λ (h : Hand). h.parts) hands ≤ n → s.drawn ≤ INDEXES + LENGTH * n
drawn_most workers lies s hands f n few =
    let a = f.bound in
    let b = over_most hands (λ k h e. (f.handles k h e).overs) in
    omega (arith, a, b, few)
