-- How the next record is filled, field by field.
use Rattle.std.proofs.Common.{◌≡◌, ℕ, zero, suc, ◌+◌, ◌<◌, ◌⊎◌, List, [], ◌∷◌, length, slice_index_or, sym, refl, ap, ◌∙◌, subst, inl, inr, arith}
use mathlib.Core.Option.{some, some-injective, some-ne-none}
use lib.ListN.{get_elem?}
use Rattle.kt_rule.specs.declared.views.Stored.{Stored}
use Rattle.kt_rule.specs.declared.views.View.{View}
use Rattle.kt_rule.specs.Lists.{In, here, there}
use Rattle.kt_rule.specs.Steps.{builds}
use Rattle.kt_rule.proofs.Sums.{in_cons}
use Rattle.kt_tasks.specs.Fields.{AreClear, HasFilled}

pub at_or : {A : Type 0} (xs : List A) (k : ℕ) (d x : A) → get_elem? xs k ≡ some x → slice_index_or xs k d ≡ x
at_or [] k d x e = absurd (some-ne-none x (sym e))
at_or (y ∷ xs) zero d x e = some-injective y x e
at_or (y ∷ xs) (suc k) d x e = at_or xs k d x e

pub at_there : {A : Type 0} (xs : List A) (k : ℕ) (d : A) → k < length xs → get_elem? xs k ≡ some (slice_index_or xs k d)
at_there [] k d h = absurd (omega arith)
at_there (y ∷ xs) zero d h = refl
at_there (y ∷ xs) (suc k) d h = at_there xs k d (omega arith)

pub before_or : (k i : ℕ) → k < i + 1 → (k < i) ⊎ (k ≡ i)
before_or k i h = grind arith

pub filled_none : (v : View) → HasFilled v v
filled_none v = record { same = refl; kept = λ b i. i }

pub filled_then : (u v w : View) → HasFilled u v → HasFilled v w → HasFilled u w
filled_then u v w h k = record {
  same = k.same ∙ ap (λ (z : View). record z { region = record z.region { built = w.region.built } }) h.same;
  kept = λ b i. k.kept b (h.kept b i);
}

module _ (w x : View) (f n : ℕ) (is : x ≡ builds w f n) where
  built_is : x.region.built ≡ record { field = f; word = n } ∷ w.region.built
  built_is = ap (λ (z : View). z.region.built) is

  pub filled_one : HasFilled w x
  filled_one = record {
    same = is ∙ ap (λ (b : List Stored). record w { region = record w.region { built = b } }) (sym built_is);
    kept = λ b i. subst (In b) (sym built_is) (there i);
  }

  pub filled_more : (v : View) → HasFilled v w → HasFilled v x
  filled_more v h = filled_then v w x h filled_one

  pub clear_more : AreClear f w → AreClear (suc f) x
  clear_more clear b i = elim (in_cons b (record { field = f; word = n }) w.region.built (subst (In b) built_is i)) [
    | inl e ↦ (let a : b.field ≡ f = ap (λ (z : Stored). z.field) e in omega arith)
    | inr h ↦ (let a = clear b h in omega arith)
  ]

  pub just_set : In (record { field = f; word = n }) x.region.built
  just_set = subst (In (record { field = f; word = n })) (sym built_is) here

  pub set_so : (y : ℕ) → n ≡ y → In (record { field = f; word = y }) x.region.built
  set_so y e = subst (λ (z : ℕ). In (record { field = f; word = z }) x.region.built) e just_set
