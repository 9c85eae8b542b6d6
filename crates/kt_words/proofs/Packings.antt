-- What a packing owes, from the fields of its values alone.
use Rattle.std.proofs.Common.{◌≡◌, ℕ, ◌^◌, ◌<◌, Some, None, refl, sym, ap, ◌∙◌, subst}
use Rattle.kt_words.specs.BitFields.{Fields, AllFit, packed, HasFields, Unpacks}
use Rattle.kt_words.specs.Laws.{IsPacking}
use Rattle.kt_words.proofs.PlaceLaws.{set_is_read, others_stay}
use Rattle.kt_words.proofs.FieldLaws.{has_fields}

-- Values whose fields fit where they are in range, and that are fixed by their fields.
module _ {V : Type 0} (InRange : V → Type 0) (fields : V → Fields)
    (fit : (v : V) → InRange v → AllFit (fields v))
    (fixed : (word : ℕ) (v w : V) → HasFields word (fields v) → HasFields word (fields w) → v ≡ w) where
  has : (word : ℕ) (v : V) → InRange v → packed (fields v) ≡ word → HasFields word (fields v)
  has word v h e = subst (λ n. HasFields n (fields v)) e (has_fields (fields v) (fit v h))

  pub apart : (v w : V) → InRange v → InRange w → packed (fields v) ≡ packed (fields w) → v ≡ w
  apart v w h k e = fixed (packed (fields w)) v w (has (packed (fields w)) v h e) (has (packed (fields w)) w k refl)

  pub unpacks_some : (word : ℕ) (v : V) → InRange v → packed (fields v) ≡ word → Unpacks InRange (λ u. packed (fields u)) word (Some v)
  unpacks_some word v h e = record {
    sound = (h, e);
    complete = λ w k f. ap Some (apart v w h k (e ∙ sym f));
    none = (λ absent. absurd cc, λ nowhere. absurd (nowhere v h e));
  }

  pub unpacks_none : (word : ℕ) → ((v : V) → InRange v → HasFields word (fields v) → ⊥) → Unpacks InRange (λ u. packed (fields u)) word None
  unpacks_none word nowhere = record {
    sound = tt;
    complete = λ v h e. absurd (nowhere v h (has word v h e));
    none = (λ _. (λ v h e. nowhere v h (has word v h e)), λ _. refl);
  }

  pub packing : ((v : V) → InRange v → packed (fields v) < 2 ^ 64) → IsPacking InRange (λ u. packed (fields u))
  packing fits = record {
    fits = fits;
    apart = apart;
    here = λ l p words v within wide h. unpacks_some _ v h (sym (set_is_read l p words (packed (fields v)) within wide));
    elsewhere = λ l p q words word found h k other old. subst (λ n. Unpacks InRange (λ u. packed (fields u)) n found) (sym (others_stay l p q words word h k other)) old;
  }
