-- Paths by their last number.
use Rattle.std.proofs.Common.{◌≡◌, ◌<◌, ℕ, zero, suc, List, [], ◌∷◌, ◌++◌, length, map, ◌⊎◌, inl, inr, refl, ap, arith}
use Rattle.kt_order.specs.Paths.{HasRoom}

pub map_snoc : (p : List ℕ) (k : ℕ) → map suc (p ++ k ∷ []) ≡ map suc p ++ suc k ∷ []
map_snoc [] k = refl
map_snoc (j ∷ p) k = ap (λ r. suc j ∷ r) (map_snoc p k)

pub length_snoc : (p : List ℕ) (k : ℕ) → length (p ++ k ∷ []) ≡ suc (length p)
length_snoc [] k = refl
length_snoc (j ∷ p) k = ap suc (length_snoc p k)

-- a path is empty, or one with a last number
pub snoc_view : (q : List ℕ) → (q ≡ []) ⊎ (p : List ℕ) × (k : ℕ) × (q ≡ p ++ k ∷ [])
snoc_view [] = inl refl
snoc_view (j ∷ q) = elim (snoc_view q) [
  | inl e ↦ inr ([], j, ap (λ r. j ∷ r) e)
  | inr r ↦ inr (j ∷ r.0, r.1, ap (λ r. j ∷ r) r.2)
]

pub snoc_same : (p q : List ℕ) (i j : ℕ) → p ++ i ∷ [] ≡ q ++ j ∷ [] → (p ≡ q) × (i ≡ j)
snoc_same [] [] i j e = (refl, cc)
snoc_same [] (k ∷ []) i j e = cc
snoc_same [] (k ∷ (n ∷ q)) i j e = cc
snoc_same (k ∷ []) [] i j e = cc
snoc_same (k ∷ (n ∷ p)) [] i j e = cc
snoc_same (k ∷ p) (n ∷ q) i j e =
    let rest : p ++ i ∷ [] ≡ q ++ j ∷ [] = cc in
    let head : k ≡ n = cc in
    let below = snoc_same p q i j rest in
    ((λ t. head t ∷ below.0 t), below.1)

pub no_snoc : (p : List ℕ) (k : ℕ) → p ++ k ∷ [] ≡ [] → ⊥
no_snoc [] k e = cc
no_snoc (j ∷ p) k e = cc

-- a short path has room below it
pub room_in : (depth : ℕ) (q : List ℕ) → length q < depth → HasRoom depth q
room_in zero q less = absurd (omega arith)
room_in (suc depth) [] less = tt
room_in (suc depth) (k ∷ q) less = room_in depth q (omega arith)
