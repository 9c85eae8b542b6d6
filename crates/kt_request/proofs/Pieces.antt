-- The pieces in a leader's hand, from the split to the answers.
use Rattle.std.proofs.Common.{◌≡◌, ◌≢◌, ℕ, zero, suc, ◌+◌, ◌-◌, ◌<◌, ◌≤◌, List, [], ◌∷◌, ◌++◌, length, drop, get_or, refl, sym, ap, ◌∙◌, subst, inl, inr, arith}
use Rattle.kt_words.specs.declared.layouts.Layout.{Layout}
use Rattle.kt_words.specs.declared.pairs.Pair.{Pair}
use Rattle.kt_split.specs.Splits.{Fill}
use Rattle.kt_rule.specs.declared.views.Spot.{Spot}
use Rattle.kt_rule.specs.declared.views.Share.{Share}
use Rattle.kt_rule.specs.declared.views.View.{View}
use Rattle.kt_rule.specs.Lists.{In, here, there}
use Rattle.kt_rule.proofs.Sums.{in_append, in_cons}
use Rattle.kt_steps.specs.Told.{IsLiveOf}
use Rattle.kt_pieces.specs.Changes.{shares_of}
use Rattle.kt_posts.specs.Desks.{pair_of, other_pieces}
use Rattle.kt_posts.proofs.PieceMoves.{keeps_one, drops_one}
use Rattle.kt_request.specs.Serving.{SplitsOnly, AreShares, AreApart}

-- LISTS

pub drop_none : {A : Type 0} (xs : List A) → drop 0 xs ≡ xs
drop_none [] = refl
drop_none (x ∷ xs) = refl

pub drop_past : {A : Type 0} (xs : List A) (i : ℕ) → length xs ≤ i → drop i xs ≡ []
drop_past [] zero h = refl
drop_past [] (suc i) h = refl
drop_past (x ∷ xs) zero h = absurd (omega (arith, h))
drop_past (x ∷ xs) (suc i) h = drop_past xs i (omega (arith, h))

pub drop_next : {A : Type 0} (blank : A) (xs : List A) (n : ℕ) → n < length xs → drop n xs ≡ get_or xs n blank ∷ drop (suc n) xs
drop_next blank [] n h = absurd (omega (arith, h))
drop_next blank (x ∷ xs) zero h = λ k. x ∷ sym (drop_none xs) k
drop_next blank (x ∷ xs) (suc n) h = drop_next blank xs n (omega (arith, h))

-- the next one behind those that `taken` of i have
pub next_at : {A : Type 0} (blank : A) (xs : List A) (i taken : ℕ) → taken ≤ i → i - taken < length xs
    → drop (i - taken) xs ≡ get_or xs (i - taken) blank ∷ drop (i + 1 - taken) xs
next_at blank xs i taken past room = drop_next blank xs (i - taken) room
    ∙ ap (λ (k : ℕ). get_or xs (i - taken) blank ∷ drop k xs) (let e : suc (i - taken) ≡ i + 1 - taken = omega (arith, past) in e)

-- the seat still stands for somebody after a split
pub live_split : (l : Layout) (k k' : ℕ) (v w : View) → k' ≡ k → SplitsOnly v w → IsLiveOf l k v → IsLiveOf l k' w
live_split l k k' v w k_is is live = record {
  setup = live.setup;
  told = ap (λ (z : View). z.setup) is ∙ live.told;
  layout = live.layout;
  live = subst (λ (z : View). 0 < z.parts) (sym is) live.live;
  own = k_is ∙ (live.own ∙ ap (λ (z : View). z.worker) (sym is));
}

-- SHARES OF PIECES

pub shares_are : (m : Spot) (at : ℕ) (ps : List Pair) → m.berth.at ≡ at → AreShares at (shares_of m ps) ps
shares_are m at [] lies = tt
shares_are m at (p ∷ ps) lies = (lies, refl, shares_are m at ps lies)

pub no_shares : (at n : ℕ) → AreShares at [] (drop n [])
no_shares at zero = tt
no_shares at (suc n) = tt

shares_end : (at : ℕ) (xs : List Share) → AreShares at xs [] → xs ≡ []
shares_end at [] h = refl
shares_end at (x ∷ xs) h = absurd h

-- where all pieces are given, the others alone are in hand
pub others_left : (at : ℕ) (xs others : List Share) (ps : List Pair) → AreShares at xs ps → ps ≡ [] → xs ++ others ≡ others
others_left at xs others ps h none_left = ap (λ (z : List Share). z ++ others) (shares_end at xs (subst (AreShares at xs) none_left h))

shares_after : (at : ℕ) (xs : List Share) (ps : List Pair) (from to : ℕ) → AreShares at xs ps → Fill from ps to → (x : Share) → In x xs → from ≤ x.low
shares_after at [] ps from to h fill x i = elim i [ ]
shares_after at (y ∷ xs) [] from to h fill x i = absurd h
shares_after at (y ∷ xs) (p ∷ ps) from to h fill x i = elim (in_cons x y xs i) [
  | inl e ↦ (let a = ap (λ (z : Share). z.low) e in let b = ap (λ (z : Pair). z.low) h.1 in let c = fill.0 in omega (arith, a, b, c))
  | inr k ↦ (let r = shares_after at xs ps p.high to h.2 fill.2 x k in let c = fill.0 in let d = fill.1 in omega (arith, r, c, d))
]

fill_up : (ps : List Pair) (from to : ℕ) → Fill from ps to → from ≤ to
fill_up [] from to fill = omega (arith, fill)
fill_up (p ∷ ps) from to fill = let r = fill_up ps p.high to fill.2 in let a = fill.0 in let b = fill.1 in omega (arith, r, a, b)

-- where the pieces from number n on begin
fill_drop : (n : ℕ) (ps : List Pair) (from to : ℕ) → Fill from ps to → (middle : ℕ) × (from ≤ middle) × Fill middle (drop n ps) to
fill_drop zero [] from to fill = (from, omega arith, fill)
fill_drop zero (p ∷ ps) from to fill = (from, omega arith, fill)
fill_drop (suc n) [] from to fill = (from, omega arith, fill)
fill_drop (suc n) (p ∷ ps) from to fill =
    let r = fill_drop n ps p.high to fill.2 in let a = fill.0 in let b = fill.1 in let c = r.1 in (r.0, omega (arith, a, b, c), r.2)

others_stay : (a low : ℕ) (xs : List Share) → ((y : Share) → In y xs → low ≢ y.low) → other_pieces a low xs ≡ xs
others_stay a low [] differ = refl
others_stay a low (y ∷ xs) differ = keeps_one a low y xs (differ y here) ∙ ap (λ (zs : List Share). y ∷ zs) (others_stay a low xs (λ z i. differ z (there i)))

-- THE NEXT PIECE, and what is in hand without it

pub record IsNext (at : ℕ) (p : Pair) (ps : List Pair) (others hand : List Share) : Type 0 where
  pub share : Share
  pub rest : List Share
  pub lies : share.spot.berth.at ≡ at
  pub pair : pair_of share ≡ p
  pub are : AreShares at rest ps
  pub is : hand ≡ share ∷ (rest ++ others)

pub next_piece : (at : ℕ) (p : Pair) (ps : List Pair) (others hand xs : List Share) → AreShares at xs (p ∷ ps) → hand ≡ xs ++ others
    → IsNext at p ps others hand
next_piece at p ps others hand [] h e = absurd h
next_piece at p ps others hand (x ∷ xs) h e = record { share = x; rest = xs; lies = h.0; pair = h.1; are = h.2; is = e }

pub next_in : (at : ℕ) (p : Pair) (ps : List Pair) (others hand : List Share) → IsNext at p ps others hand
    → (x : Share) × In x hand × (x.spot.berth.at ≡ at) × (pair_of x ≡ p)
next_in at p ps others hand n = (n.share, subst (In n.share) (sym n.is) here, n.lies, n.pair)

pub next_given : (at n : ℕ) (p : Pair) (ps pieces : List Pair) (others hand : List Share) → AreApart pieces others → drop n pieces ≡ p ∷ ps
    → (x : IsNext at p ps others hand) → other_pieces at p.low hand ≡ x.rest ++ others
next_given at n p ps pieces others hand a e x =
    let f = fill_drop n pieces a.from a.to a.fill in
    let g = subst (λ (z : List Pair). Fill f.0 z a.to) e f.2 in
    let begins = g.0 in let long = g.1 in let from = f.1 in let up = fill_up ps p.high a.to g.2 in
    let low_is = ap (λ (z : Pair). z.low) x.pair in
    let differ : (y : Share) → In y (x.rest ++ others) → p.low ≢ y.low = (λ y i same. elim (in_append x.rest others y i) [
      | inl k ↦ (let r = shares_after at x.rest ps p.high a.to x.are g.2 y k in absurd (omega (arith, r, same, long)))
      | inr k ↦ (elim (a.apart y k) [
        | inl below ↦ absurd (omega (arith, below, same, begins, from))
        | inr above ↦ absurd (omega (arith, above, same, long, up))
      ])
    ]) in
    ap (other_pieces at p.low) x.is ∙ ((λ i. other_pieces (sym x.lies i) (sym low_is i) (x.share ∷ (x.rest ++ others)))
    ∙ (drops_one x.share (x.rest ++ others)
    ∙ ((λ i. other_pieces (x.lies i) (low_is i) (x.rest ++ others)) ∙ others_stay at p.low (x.rest ++ others) differ)))
