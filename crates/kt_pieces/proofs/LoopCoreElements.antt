-- The word of an element that an index finds is what its act answers, and the words after it are those that the act leaves.
use Rattle.std.proofs.Common.{◌≡◌, ℕ, ◌<◌, List, [], ◌∷◌, cond, set, sym, refl, ap, ◌∙◌, slice_index}
use Rattle.kt_law.specs.Acts.{Act, Deed, Load, Store, Fold}
use Rattle.kt_rights.specs.Acts.{is_load, found, effect}
use Rattle.kt_order.specs.Machine.{Machine}
use Rattle.kt_order.specs.Sequential.{keeps}
use Rattle.kt_prog.specs.Store.{place_of}
use Rattle.kt_prog.specs.Reference.{machine_of}
use Rattle.kt_words.specs.Places.{place, element_word}
use Rattle.kt_words.specs.declared.layouts.Layout.{Layout}
use Rattle.kt_rule.specs.declared.views.Setup.{Setup}
use Rattle.kt_rule.specs.Records.{layout_of, word_at, elements}
use Rattle.kt_rule.specs.Steps.{heard}
use Rattle.kt_rule.proofs.Shelf.{elements_set, elements_at}

module _ (j : Setup) (ws : List ℕ) (d : Act) (inside : place_of j.program.families d < (layout_of j).elements) where
  abbrev m : Machine
  m = machine_of j.program

  abbrev l : Layout
  l = layout_of j

  abbrev e : ℕ
  e = place_of j.program.families d

  hears_word : (b : Deed) (x n : ℕ) → x ≡ n → cond (is_load b) (n ∷ []) [] ≡ cond (is_load b) (found b x ∷ []) []
  hears_word Load x n h = λ i. sym h i ∷ []
  hears_word (Store y) x n h = refl
  hears_word (Fold op y) x n h = refl

  pub word_heard : heard d (word_at l ws (element_word e)) ≡ keeps m d (m.answer d (elements l ws))
  word_heard = hears_word d.deed (slice_index (elements l ws) e) (word_at l ws (element_word e)) (elements_at l ws e inside)

  pub word_left : elements l (set ws (place l (element_word e)) (effect d.deed (word_at l ws (element_word e)))) ≡ m.after d (elements l ws)
  word_left = elements_set l ws e (effect d.deed (word_at l ws (element_word e))) inside
      ∙ ap (λ (x : ℕ). set (elements l ws) e (effect d.deed x)) (sym (elements_at l ws e inside))
