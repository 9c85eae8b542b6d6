-- The widths of some objects.
use Rattle.std.proofs.Common.{◌≡◌, ℕ, Bool, true, false, List, [], ◌∷◌, ◌++◌, Some, refl, ap, sym, ◌∙◌, arith, nat_eq, if◌then◌else◌}
use Rattle.std.proofs.lemmas.Bool.Decides.{nat_tests}
use Rattle.kt_prog.specs.Objects.{width_of}
use Rattle.kt_prog.specs.declared.programs.Family.{Family}
use Rattle.kt_body.specs.Widths.{AreWidths, width_among}
use Rattle.kt_body.specs.declared.measured.Width.{Width}

module _ (families : List Family) where
  pub widths_snoc : (ws : List Width) (w : Width) → AreWidths families ws → w.elements ≡ width_of families w.object → AreWidths families (ws ++ w ∷ [])
  widths_snoc [] w h k = (k, tt)
  widths_snoc (x ∷ ws) w (a, b) k = (a, widths_snoc ws w b k)

  one_more : (w : Width) (ws : List Width) (object n : ℕ) → w.elements ≡ width_of families w.object
      → (width_among ws object ≡ Some n → n ≡ width_of families object) → (t : Bool) → nat_eq w.object object ≡ t
      → (if t then Some w.elements else width_among ws object) ≡ Some n → n ≡ width_of families object
  one_more w ws object n a more true is e =
      let same : w.object ≡ object = grind (arith, nat_tests) in
      let there : w.elements ≡ n = cc in
      sym there ∙ a ∙ ap (width_of families) same
  one_more w ws object n a more false is e = more e

  pub among_is : (ws : List Width) (object n : ℕ) → AreWidths families ws → width_among ws object ≡ Some n → n ≡ width_of families object
  among_is [] object n h e = cc
  among_is (w ∷ ws) object n (a, b) e = one_more w ws object n a (among_is ws object n b) (nat_eq w.object object) refl e
