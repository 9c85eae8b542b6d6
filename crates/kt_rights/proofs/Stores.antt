-- Acts on two elements, and acts that agree, commute on a store.
use Rattle.std.proofs.Common.{◌≡◌, ◌≢◌, ◌<◌, ℕ, ◌⊎◌, inl, inr, refl, sym, ap, arith, ◌∙◌}
use Rattle.kt_law.specs.Acts.{Deed, Load, Store, Fold}
use Rattle.kt_law.specs.Operators.{fold_of}
use Rattle.kt_law.specs.Laws.{FoldAssociates, FoldCommutes}
use Rattle.kt_law.specs.declared.operators.Op.{Op}
use Rattle.kt_rights.specs.Acts.{effect, found}
use Rattle.kt_rights.specs.Plan.{Plan, IsStore}
use Rattle.kt_rights.proofs.Deeds.{DeedsAgree}

same_or : (e f : ℕ) → (e ≡ f) ⊎ (e ≢ f)
same_or e f = grind arith

same_place : (o e o' e' : ℕ) → (o ≡ o') × (e ≡ e') ⊎ (o ≡ o' → e ≡ e' → ⊥)
same_place o e o' e' = elim (same_or o o') [
  | inr ne ↦ inr (λ x y. ne x)
  | inl same ↦ elim (same_or e e') [ inl also ↦ inl (same, also) | inr ne ↦ inr (λ x y. ne y) ]
]

module _ (associates : FoldAssociates) (commutes : FoldCommutes) where
  -- two values may be cumulated in either order
  folds_swap : (op : Op) (a v w : ℕ) → fold_of op (fold_of op a v) w ≡ fold_of op (fold_of op a w) v
  folds_swap op a v w = associates op a v w ∙ (ap (fold_of op a) (commutes op v w) ∙ sym (associates op a w v))

  effects_swap : (x y : Deed) → DeedsAgree x y → (a : ℕ) → effect y (effect x a) ≡ effect x (effect y a)
  effects_swap Load y h a = refl
  effects_swap (Store v) y (inl h) a = cc (h.0)
  effects_swap (Store v) y (inr h) a = cc (h.3)
  effects_swap (Fold op v) Load h a = refl
  effects_swap (Fold op v) (Store w) (inl h) a = cc (h.1)
  effects_swap (Fold op v) (Store w) (inr h) a = cc (h.4)
  effects_swap (Fold op v) (Fold other w) (inl h) a = cc (h.1)
  effects_swap (Fold op v) (Fold other w) (inr h) a =
      let e : op ≡ other = cc (h.3, h.4) in
      rw (← e) (folds_swap op a v w)

  module _ (p : Plan) (store : IsStore p) (o e o' e' : ℕ) (here : e < p.width o) (there : e' < p.width o') where
    pub stores_swap : (x y : Deed) → (o ≡ o' → e ≡ e' → DeedsAgree x y) → (s : p.Store)
        → p.change o' e' (effect y) (p.change o e (effect x) s) ≡ p.change o e (effect x) (p.change o' e' (effect y) s)
    stores_swap x y h s = elim (same_place o e o' e') [
      | inl same ↦ rw (same.0, same.1) (store.same o' e' (effect y) (effect x) s (effects_swap x y (h same.0 same.1)))
      | inr ne ↦ sym (store.other o e o' e' (effect x) (effect y) s here there ne)
    ]

-- a load finds the same where the other act agrees
module _ (p : Plan) (store : IsStore p) (o e o' e' : ℕ) (s : p.Store) (here : e < p.width o) (there : e' < p.width o') where
  found_by : (x y : Deed) → (o ≡ o' → e ≡ e' → DeedsAgree x y) → (o ≡ o') × (e ≡ e') ⊎ (o ≡ o' → e ≡ e' → ⊥)
      → found x (p.look o e (p.change o' e' (effect y) s)) ≡ found x (p.look o e s)
  found_by Load y h (inr ne) = store.look_other o e o' e' (effect y) s here there ne
  found_by Load Load h (inl same) = ap (p.look o e) (store.still o' e' s)
  found_by Load (Store v) h (inl same) = elim (h same.0 same.1) [ inl k ↦ cc (k.1) | inr k ↦ cc (k.3) ]
  found_by Load (Fold op v) h (inl same) = elim (h same.0 same.1) [ inl k ↦ cc (k.1) | inr k ↦ cc (k.3) ]
  found_by (Store v) y h d = refl
  found_by (Fold op v) y h d = refl

  pub found_same : (x y : Deed) → (o ≡ o' → e ≡ e' → DeedsAgree x y)
      → found x (p.look o e (p.change o' e' (effect y) s)) ≡ found x (p.look o e s)
  found_same x y h = found_by x y h (same_place o e o' e')
