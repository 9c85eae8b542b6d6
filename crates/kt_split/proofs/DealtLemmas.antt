-- Pieces that are dealt lie side by side, are even, and are as many as was said.
use Rattle.std.proofs.Common.{◌≡◌, ◌≤◌, ◌<◌, ◌+◌, ◌*◌, ◌-◌, ◌/◌, ◌%◌, ◌⊎◌, ℕ, zero, suc, min, ◌∷◌, length, slice_index_or, inl, inr, refl, ap, subst, arith}
use Rattle.std.proofs.Math.Nat.{div-add-mod}
use Rattle.kt_words.specs.declared.pairs.Pair.{Pair}
use Rattle.kt_split.specs.Intervals.{size}
use Rattle.kt_split.specs.Splits.{Fill, AreEven}
use Rattle.kt_split.specs.Dealt.{dealt}

pub dealt_fills : (n from each longer : ℕ) → 1 ≤ each → longer ≤ n → Fill from (dealt from each n longer) (from + (n * each + longer))
dealt_fills zero from each longer some few = omega (arith, few)
dealt_fills (suc n) from each zero some few =
    (refl, omega (arith, some), subst (Fill (from + each) (dealt (from + each) each n 0)) (omega arith) (dealt_fills n (from + each) each 0 some (omega arith)))
dealt_fills (suc n) from each (suc k) some few =
    (refl, omega (arith, some), subst (Fill (from + each + 1) (dealt (from + each + 1) each n k)) (omega arith) (dealt_fills n (from + each + 1) each k some (omega (arith, few))))

pub dealt_many : (n from each longer : ℕ) → length (dealt from each n longer) ≡ n
dealt_many zero from each longer = refl
dealt_many (suc n) from each zero = ap suc (dealt_many n (from + each) each 0)
dealt_many (suc n) from each (suc k) = ap suc (dealt_many n (from + each + 1) each k)

-- a piece is a longer one where it is among the first, and else one of the others
abbrev pub SizeAt : ℕ → ℕ → ℕ → ℕ → Type 0
SizeAt each longer k s = ((k < longer) × (s ≡ each + 1)) ⊎ ((longer ≤ k) × (s ≡ each))

pub size_at : (n from each longer k : ℕ) (d : Pair) → k < n → SizeAt each longer k (size (slice_index_or (dealt from each n longer) k d))
size_at zero from each longer k d less = absurd (omega (arith, less))
size_at (suc n) from each zero zero d less = inr (omega arith, omega arith)
size_at (suc n) from each zero (suc k) d less = next (size_at n (from + each) each 0 k d (omega (arith, less)))
  where
    next : {s : ℕ} → SizeAt each 0 k s → SizeAt each 0 (suc k) s
    next (inl h) = absurd (omega (arith, h.0))
    next (inr h) = inr (omega arith, h.1)
size_at (suc n) from each (suc m) zero d less = inl (omega arith, omega arith)
size_at (suc n) from each (suc m) (suc k) d less = next (size_at n (from + each + 1) each m k d (omega (arith, less)))
  where
    next : {s : ℕ} → SizeAt each m k s → SizeAt each (suc m) (suc k) s
    next (inl h) = inl (omega (arith, h.0), h.1)
    next (inr h) = inr (omega (arith, h.0), h.1)

-- of two pieces the later one is not longer, nor shorter by more than one
later : (each longer i j a b : ℕ) → i < j → SizeAt each longer i a → SizeAt each longer j b → (b ≤ a) × (a ≤ b + 1)
later each longer i j a b less one other = by_first one other
  where
    by_first : SizeAt each longer i a → SizeAt each longer j b → (b ≤ a) × (a ≤ b + 1)
    by_first (inl x) y = by_second y
      where
        by_second : SizeAt each longer j b → (b ≤ a) × (a ≤ b + 1)
        by_second (inl y) = (omega (arith, x.1, y.1), omega (arith, x.1, y.1))
        by_second (inr y) = (omega (arith, x.1, y.1), omega (arith, x.1, y.1))
    by_first (inr x) y = by_second y
      where
        by_second : SizeAt each longer j b → (b ≤ a) × (a ≤ b + 1)
        by_second (inl y) = absurd (omega (arith, x.0, y.0, less))
        by_second (inr y) = (omega (arith, x.1, y.1), omega (arith, x.1, y.1))

pub dealt_even : (n from each longer : ℕ) → AreEven (dealt from each n longer)
dealt_even n from each longer i j d less short =
    let within : j < n = subst (λ k. j < k) (dealt_many n from each longer) short in
    later each longer i j _ _ less (size_at n from each longer i d (omega (arith, less, within))) (size_at n from each longer j d within)

-- one piece more
pub dealt_step : (at each n more : ℕ) → more ≤ suc n
    → dealt at each (suc n) more ≡ record { low = at; high = at + (each + min more 1) } ∷ dealt (at + (each + min more 1)) each n (more - min more 1)
dealt_step at each n zero few = ap (λ k. record { low = at; high = k } ∷ dealt k each n 0) (omega arith)
dealt_step at each n (suc k) few =
    let same : at + each + 1 ≡ at + (each + min (suc k) 1) = omega arith in
    let rest : suc k - min (suc k) 1 ≡ k = omega arith in
    rw rest (ap (λ h. record { low = at; high = h } ∷ dealt h each n k) same)

pub quotient_some : (rest n : ℕ) → 1 ≤ n → n ≤ rest → 1 ≤ rest / n
quotient_some rest n some few = grind arith

pub rest_less : (rest n : ℕ) → 1 ≤ n → rest % n < n
rest_less rest n some = grind arith

-- the parts of the positions that are given
pub parts_sum : (from rest n : ℕ) → from + (n * (rest / n) + rest % n) ≡ from + rest
parts_sum from rest n = ap (λ k. from + k) (div-add-mod rest n)
