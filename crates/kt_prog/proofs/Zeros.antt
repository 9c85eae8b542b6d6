-- The zeroing keeps to the rights.
use Rattle.std.proofs.Common.{◌≡◌, ◌≤◌, ◌<◌, ℕ, zero, suc, ◌+◌, ◌-◌, List, [], ◌∷◌, None, inl, inr, refl, arith}
use Rattle.kt_law.specs.Acts.{Store}
use Rattle.kt_law.specs.declared.modes.Mode.{Mode}
use Rattle.kt_law.specs.declared.modes.Mode.TheVariants as M
use Rattle.kt_law.specs.declared.accesses.Access.{Access}
use Rattle.kt_rights.specs.Rights.{SomeOf, Permits, Allowed}
use Rattle.kt_prog.specs.Calls.{Job}
use Rattle.kt_prog.specs.Script.{Step}
use Rattle.kt_prog.specs.Zeroing.{zero_elements, zero_objects, zero_access, zero_all}
use Rattle.kt_prog.proofs.Good.{Good, good_give, good_then, good_perform}

module _ (widths : ℕ → ℕ) (rights : List Access) (H : Job → Type 0) where
  abbrev GoodAt : {X : Type 0} → (X → Type 0) → Step X → Type 0
  GoodAt = Good (Allowed widths rights None) H

  abbrev Nothing : Unit {0} → Type 0
  Nothing x = Unit {0}

  -- one of the rights lets a body store into the object
  abbrev Stores : ℕ → Type 0
  Stores object = (e : ℕ) → SomeOf (Permits None (record { object = object; element = e; deed = Store 0 })) rights

  zeros_from : (object from n : ℕ) → Stores object → from + n ≤ widths object → GoodAt Nothing (zero_elements object from n)
  zeros_from object from zero may le = good_give _ H Nothing tt tt
  zeros_from object from (suc n) may le =
      let below : from < widths object = omega arith in
      good_then _ H Nothing Nothing _ _ (good_perform _ H object from (Store 0) (below, may from)) (λ _ _. zeros_from object (suc from) n may (omega arith))

  zeros_objects : (object n : ℕ) → ((k : ℕ) → object ≤ k → k < object + n → Stores k) → GoodAt Nothing (zero_objects widths object n)
  zeros_objects object zero may = good_give _ H Nothing tt tt
  zeros_objects object (suc n) may =
      good_then _ H Nothing Nothing _ _ (zeros_from object 0 (widths object) (may object (omega arith) (omega arith)) (omega arith))
      (λ _ _. zeros_objects (suc object) n (λ k le lt. may k (omega arith) (omega arith)))

  zeros_access : (a : Access) (mode : Mode) → a.mode ≡ mode → ((P : Access → Type 0) → P a → SomeOf P rights)
      → GoodAt Nothing (zero_access widths a mode)
  zeros_access a M.W is among = zeros_objects a.lo (a.hi - a.lo) (λ k le lt e. among _ (record { object = record { from = le; below = omega arith }; lets = rw is refl; owns = tt }))
  zeros_access a M.R is among = good_give _ H Nothing tt tt
  zeros_access a M.X is among = good_give _ H Nothing tt tt
  zeros_access a (M.Cw op) is among = good_give _ H Nothing tt tt
  zeros_access a M.Rp is among = good_give _ H Nothing tt tt
  zeros_access a M.Wp is among = good_give _ H Nothing tt tt
  zeros_access a M.Xp is among = good_give _ H Nothing tt tt
  zeros_access a (M.Cwp op) is among = good_give _ H Nothing tt tt

  pub zeros_all : (accesses : List Access) → ((P : Access → Type 0) → SomeOf P accesses → SomeOf P rights)
      → GoodAt Nothing (zero_all widths accesses)
  zeros_all [] among = good_give _ H Nothing tt tt
  zeros_all (a ∷ accesses) among =
      good_then _ H Nothing Nothing _ _ (zeros_access a a.mode refl (λ P p. among P (inl p))) (λ _ _. zeros_all accesses (λ P s. among P (inr s)))
