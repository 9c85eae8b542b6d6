-- Each path that is there stands once in the list of all, and no other does.
use Rattle.std.proofs.Common.{◌≡◌, ◌≢◌, ℕ, zero, suc, ◌+◌, ◌<◌, ◌≤◌, ◌⊎◌, Bool, List, [], ◌∷◌, map, nat_eq, ◌&&◌, sym, refl, ap, ◌∙◌, inl, inr, arith}
use Rattle.kt_order.specs.Paths.{same_path, shift, IsThere}
use Rattle.kt_order.specs.Listed.{listed, each_from, all_paths}
use Rattle.kt_order.proofs.PathChanges.{eq_self, eq_other}
use Rattle.kt_runs.specs.ByPath.{Path}
use Rattle.kt_rule.specs.Lists.{times, one_if}
use Rattle.kt_rule.proofs.Sums.{weigh_append}

pub one_or : (k j : ℕ) → (k ≡ j) ⊎ (k ≢ j)
one_or k j = grind arith

-- below one number
times_under : (k i : ℕ) (q : Path) (ps : List Path) → k ≡ i → times (k ∷ q) (map (λ p. i ∷ p) ps) ≡ times q ps
times_under k i q [] e = refl
times_under k i q (p ∷ ps) e = let h = times_under k i q ps e in
    let a : one_if (same_path (k ∷ q) (i ∷ p)) ≡ one_if (same_path q p) = ap (λ (b : Bool). one_if (b && same_path q p))
    (ap (nat_eq k) (sym e) ∙ eq_self k) in omega arith

times_beside : (k i : ℕ) (q : Path) (ps : List Path) → k ≢ i → times (k ∷ q) (map (λ p. i ∷ p) ps) ≡ 0
times_beside k i q [] n = refl
times_beside k i q (p ∷ ps) n = let h = times_beside k i q ps n in
    let a : one_if (same_path (k ∷ q) (i ∷ p)) ≡ 0 = ap (λ (b : Bool). one_if (b && same_path q p)) (eq_other k i n) in omega arith

module _ (sub : (Path → ℕ) → List Path) (count : Path → ℕ) (k : ℕ) (q : Path) where
  abbrev T : ℕ → ℕ → ℕ
  T i n = times (k ∷ q) (each_from sub count i n)

  abbrev Q : ℕ
  Q = times q ([] ∷ sub (shift k count))

  split_at : (i n : ℕ) → T i (suc n) ≡ times (k ∷ q) (map (λ p. i ∷ p) ([] ∷ sub (shift i count))) + T (suc i) n
  split_at i n = let h = weigh_append (λ p. one_if (same_path (k ∷ q) p)) (map (λ p. i ∷ p) (sub (shift i count)))
      (each_from sub count (suc i) n) in omega arith

  each_none : (i n : ℕ) → (k < i) ⊎ (i + n ≤ k) → T i n ≡ 0
  each_none i zero out = refl
  each_none i (suc n) out = let s = split_at i n in let a = times_beside k i q ([] ∷ sub (shift i count)) (λ e. away e out) in
      let h = each_none (suc i) n (further out) in omega arith
    where
      away : k ≡ i → (k < i) ⊎ (i + suc n ≤ k) → ⊥
      away e (inl l) = omega arith
      away e (inr l) = omega arith

      further : (k < i) ⊎ (i + suc n ≤ k) → (k < suc i) ⊎ (suc i + n ≤ k)
      further (inl l) = inl (omega arith)
      further (inr l) = inr (omega arith)

  each_one : (i n : ℕ) → i ≤ k → k < i + n → T i n ≡ Q
  each_one i zero least most = absurd (omega arith)
  each_one i (suc n) least most = elim (one_or k i) [
    | inl e ↦ (let s = split_at i n in let a = times_under k i q ([] ∷ sub (shift i count)) e in
        let b : times q ([] ∷ sub (shift i count)) ≡ Q = ap (λ (l : ℕ). times q ([] ∷ sub (shift l count))) (sym e) in
        let h = each_none (suc i) n (inl (omega arith)) in omega arith)
    | inr d ↦ (let s = split_at i n in let a = times_beside k i q ([] ∷ sub (shift i count)) d in
        let h = each_one (suc i) n (omega arith) (omega arith) in omega arith)
  ]

root_none : (depth : ℕ) (count : Path → ℕ) → times [] (listed depth count) ≡ 0
root_none zero count = refl
root_none (suc depth) count = go 0 (count [])
  where
    go : (i n : ℕ) → times [] (each_from (listed depth) count i n) ≡ 0
    go i zero = refl
    go i (suc n) = let h = weigh_append (λ p. one_if (same_path [] p)) (map (λ p. i ∷ p) (listed depth (shift i count)))
        (each_from (listed depth) count (suc i) n) in let a = go (suc i) n in let b = under (listed depth (shift i count)) in omega arith
      where
        under : (ps : List Path) → times [] (map (λ p. i ∷ p) ps) ≡ 0
        under [] = refl
        under (p ∷ ps) = let h = under ps in omega arith

below_or : (k n : ℕ) → (k < n) ⊎ (n ≤ k)
below_or k n = grind arith

-- it is there and stands once, or it isn't and stands nowhere
pub stands : (depth : ℕ) (count : Path → ℕ) (p : Path) → (IsThere depth count p × (times p (all_paths depth count) ≡ 1)) ⊎
    ((IsThere depth count p → ⊥) × (times p (all_paths depth count) ≡ 0))
stands depth count [] = let h = root_none depth count in inl (tt, omega arith)
stands zero count (k ∷ q) = inr ((λ h. h), refl)
stands (suc depth) count (k ∷ q) = elim (below_or k (count [])) [
  | inl less ↦ (let e = each_one (listed depth) count k q 0 (count []) (omega arith) (omega arith) in elim
      (stands depth (shift k count) q) [
        | inl h ↦ (let a = h.1 in inl ((less, h.0), omega arith))
        | inr h ↦ (let a = h.1 in inr ((λ i. h.0 i.1), omega arith))
      ])
  | inr more ↦ (let e = each_none (listed depth) count k q 0 (count []) (inr (omega arith)) in inr
      ((λ i. let a = i.0 in omega arith), omega arith))
]
