-- One worker's interval changed: the positions, the pieces that are shown, and what others know of intervals.
use Rattle.std.proofs.Common.{◌≡◌, ℕ, suc, ◌+◌, ◌<◌, ◌≤◌, ◌⊎◌, sym, ap, ◌∙◌, subst, inl, inr, arith, List}
use Rattle.kt_words.specs.declared.pairs.Pair.{Pair}
use Rattle.kt_rule.specs.Lies.{Lies}
use Rattle.kt_rule.specs.LoopWords.{LoopWords, Hand, sum_below}
use Rattle.kt_rule.specs.LoopFacts.{in_pair, IsPiece, piece_is, shown_pieces, Looped}
use Rattle.kt_pieces.specs.Changes.{at_worker}
use Rattle.kt_pieces.proofs.Changed.{at_cases, sum_at, one_most}
use Rattle.kt_pieces.proofs.Counted.{pair, pair_self, left_some, piece_own}
use Rattle.kt_pieces.proofs.Turns.{Lower, AllGrow, piece_grows}

module _ (workers : ℕ) (s : LoopWords) (k : ℕ) (k_less : k < workers) (p : Pair) where
  abbrev now : ℕ → Pair
  now = at_worker s.interval k p

  pub interval_positions : (x : ℕ) → sum_below workers (λ i. in_pair (now i) x) + in_pair (s.interval k) x
      ≡ sum_below workers (λ i. in_pair (s.interval i) x) + in_pair p x
  interval_positions x = sum_at workers (λ i (z : Pair). in_pair z x) s.interval k p k_less

  pub interval_shown : (a : ℕ) (q : Pair)
      → sum_below workers (λ i. piece_is (s.home i) (now i).low (now i).high a q) + piece_is (s.home k) (s.interval k).low (s.interval k).high a q
      ≡ sum_below workers (λ i. piece_is (s.home i) (s.interval i).low (s.interval i).high a q) + piece_is (s.home k) p.low p.high a q
  interval_shown a q = sum_at workers (λ i (z : Pair). piece_is (s.home i) z.low z.high a q) s.interval k p k_less

  pub interval_lower : (hands : List Hand) → Lower workers s hands p.low p.high → (i : ℕ) → i < workers
      → (now i ≡ s.interval i) ⊎ Lower workers s hands (now i).low (now i).high
  interval_lower hands lower i less = elim (at_cases s.interval k p i) [
    | inl h ↦ inr (subst (λ (z : Pair). Lower workers s hands z.low z.high) (sym h.1) lower)
    | inr h ↦ inl h.1
  ]

  pub interval_empty : ((s.interval k).high ≤ (s.interval k).low → p.high ≤ p.low) → (i : ℕ) → (s.interval i).high ≤ (s.interval i).low
      → (now i).high ≤ (now i).low
  interval_empty e i hollow = elim (at_cases s.interval k p i) [
    | inl h ↦ subst (λ (z : Pair). z.high ≤ z.low) (sym h.1) (e (subst (λ (j : ℕ). (s.interval j).high ≤ (s.interval j).low) h.0 hollow))
    | inr h ↦ subst (λ (z : Pair). z.high ≤ z.low) (sym h.1) hollow
  ]

  pub interval_homes : (lies lies' : Lies) (hands : List Hand) → Looped workers lies s hands → AllGrow lies lies'
      → (p.low < p.high → (a : ℕ) × (s.home k ≡ suc a) × IsPiece lies' a p.low p.high)
      → (i : ℕ) → i < workers → (now i).low < (now i).high → (a : ℕ) × (s.home i ≡ suc a) × IsPiece lies' a (now i).low (now i).high
  interval_homes lies lies' hands f grow new i less long = elim (at_cases s.interval k p i) [
    | inl h ↦ (let n = new (subst (λ (z : Pair). z.low < z.high) h.1 long) in
        (n.0, ap s.home h.0 ∙ n.1, subst (λ (z : Pair). IsPiece lies' n.0 z.low z.high) (sym h.1) n.2))
    | inr h ↦ (let o = f.homes i less (subst (λ (z : Pair). z.low < z.high) h.1 long) in
        (o.0, o.1, subst (λ (z : Pair). IsPiece lies' o.0 z.low z.high) (sym h.1) (piece_grows lies lies' grow o.0 (s.interval i).low (s.interval i).high o.2)))
  ]

-- an interval that is not empty is shown
pub interval_some : (workers : ℕ) (s : LoopWords) (hands : List Hand) (k a : ℕ) → k < workers → s.home k ≡ suc a → (s.interval k).low < (s.interval k).high
    → 1 ≤ shown_pieces workers s hands a (pair (s.interval k).low (s.interval k).high)
interval_some workers s hands k a less home long =
    let q = pair (s.interval k).low (s.interval k).high in
    let m = one_most workers (λ i. piece_is (s.home i) (s.interval i).low (s.interval i).high a q) k less in
    let e : piece_is (s.home k) (s.interval k).low (s.interval k).high a q ≡ 1 =
    ap (λ (word : ℕ). piece_is word (s.interval k).low (s.interval k).high a q) home
    ∙ (piece_own a (s.interval k).low (s.interval k).high q ∙ (left_some (s.interval k).low (s.interval k).high q long ∙ pair_self (s.interval k).low (s.interval k).high)) in
    omega (arith, m, e)

-- and its home word leads to its loop
pub home_piece : (workers : ℕ) (lies : Lies) (s : LoopWords) (hands : List Hand) → Looped workers lies s hands → (k a : ℕ) → k < workers
    → (s.interval k).low < (s.interval k).high → s.home k ≡ suc a → IsPiece lies a (s.interval k).low (s.interval k).high
home_piece workers lies s hands f k a less long home =
    let h = f.homes k less long in
    let same : h.0 ≡ a = (let e = h.1 in omega (arith, e, home)) in
    subst (λ (b : ℕ). IsPiece lies b (s.interval k).low (s.interval k).high) same h.2
