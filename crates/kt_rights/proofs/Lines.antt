-- The direct modes of a call agree with the modes of all that comes from it.
use Rattle.std.proofs.Common.{◌≡◌, ℕ, true, false, List, [], ◌∷◌, ◌⊎◌, inl, inr, refl, sym, subst}
use Rattle.kt_law.specs.Modes.{agree_of, is_postponed, hands_on_of}
use Rattle.kt_law.specs.Accesses.{HasObject, clash_of}
use Rattle.kt_law.specs.Laws.{AgreementIsSymmetric, HandsOnLess}
use Rattle.kt_law.specs.declared.accesses.Access.{Access}
use Rattle.kt_order.specs.Places.{IsAbove, Stands, Chain, HandedDown}
use Rattle.kt_order.specs.Laws.{Laws}
use Rattle.kt_order.specs.Forest.{Place, Task, Forest}
use Rattle.kt_order.specs.Lawful.{TaskOk, Shape}
use Rattle.kt_order.proofs.Ats.{at_more, at_says, at_shape}
use Rattle.kt_order.proofs.Agree.{upper_goes_past}
use Rattle.kt_rights.specs.Plan.{Plan, machine}
use Rattle.kt_rights.specs.Rights.{SomeOf, Covers, HandsOn, HasIndex, rights, Obeys}
use Rattle.kt_rights.specs.Theorems.{DirectModesAgree, ForksCalls}
use Rattle.kt_rights.proofs.Lists.{pick, each_by, two}
use Rattle.kt_rights.proofs.Members.{IsIn, direct_agrees, covered_object, turned, either_agrees}

module _ (symmetric : AgreementIsSymmetric) (less : HandsOnLess) (p : Plan) (obeys : Obeys p) where
  -- a direct access of c agrees with each access of e on each object
  abbrev pub Line : p.Call → p.Call → Type 0
  Line c e = (a b : Access) → IsIn a (p.accesses c) → IsIn b (p.accesses e) → is_postponed a.mode ≡ false → (object : ℕ) → HasObject a object → HasObject b object → agree_of a.mode b.mode ≡ true

  pub line_first : (c d : p.Call) → p.Fits c → HandsOn p c d → Line c d
  line_first c d fits how a b i j direct object x y =
      let k = pick (λ z. SomeOf (Covers z) (p.accesses c)) (λ z. z ≡ b) (p.accesses d) how.covered j in
      let cover = subst (λ (z : Access). SomeOf (Covers z) (p.accesses c)) k.2 k.1 in
      let f = two (λ z. z ≡ a) (Covers b) (p.accesses c) (obeys.unalike c fits) i cover in
      by_two f.1 f.3 (subst (λ (z : Access). (z ≡ f.1) ⊎ ((clash_of z f.1 ≡ false) ⊎ (clash_of f.1 z ≡ false))) f.2 f.4)
    where
      by_two : (z : Access) → Covers b z → (a ≡ z) ⊎ ((clash_of a z ≡ false) ⊎ (clash_of z a ≡ false))
          → agree_of a.mode b.mode ≡ true
      by_two z cover (inl same) = direct_agrees a.mode b.mode (subst (λ (w : Access). hands_on_of w.mode b.mode ≡ true) (sym same) cover.hands_on) direct
      by_two z cover (inr apart) = turned symmetric b.mode a.mode (less z.mode b.mode a.mode cover.hands_on (turned symmetric a.mode z.mode (either_agrees symmetric a z object apart x (covered_object b z object cover y))))

  line_more : (c d e : p.Call) → Line c d → HandsOn p d e ⊎ HasIndex p d e → Line c e
  line_more c d e line (inl how) a b i j direct object x y =
      let k = pick (λ z. SomeOf (Covers z) (p.accesses d)) (λ z. z ≡ b) (p.accesses e) how.covered j in
      let f = some_access (Covers b) (p.accesses d) (subst (λ (z : Access). SomeOf (Covers z) (p.accesses d)) k.2 k.1) in
      turned symmetric b.mode a.mode (less f.0.mode b.mode a.mode f.1.hands_on (turned symmetric a.mode f.0.mode (line a f.0 i f.2 direct object x (covered_object b f.0 object f.1 y))))
    where
      some_access : (P : Access → Type 0) (xs : List Access) → SomeOf P xs → (z : Access) × P z × IsIn z xs
      some_access P [] some = absurd some
      some_access P (z ∷ xs) (inl q) = (z, q, inl refl)
      some_access P (z ∷ xs) (inr some) = let k = some_access P xs some in (k.0, k.1, inr k.2)
  line_more c d e line (inr how) a b i j direct object x y = line a b i (subst (IsIn b) how.same j) direct object x y

  pub line_chain : (es : List p.Call) (c d e : p.Call) → Line c d → Chain (machine p) (rights p) d es e → Line c e
  line_chain [] c d e line chain = line_more c d e line chain.how
  line_chain (f ∷ es) c d e line chain = line_chain es c f e (line_more c d f line chain.0.how) chain.1

  pub direct_by : (c d : p.Call) → Line c d → DirectModesAgree p c d
  direct_by c d line object = each_by _ (p.accesses c) (λ a i direct. each_by _ (p.accesses d) (λ b j x y. line a b i j direct object x y))

  -- and with those of all that comes from it
  handed_line : (c e : p.Call) → p.Fits c → ForksCalls p c → HandedDown (machine p) (rights p) c e → DirectModesAgree p c e
  handed_line c e fits calls ([], handed) = direct_by c e (line_first c e fits (calls e handed))
  handed_line c e fits calls (d ∷ es, chain) = direct_by c e (line_chain es c d e (line_first c d fits (calls d chain.0)) chain.1)

  fits_at : (a : Place) (u : Task (machine p)) (F : Forest (machine p)) → Shape (machine p) (rights p) F → Stands (machine p) u a F → p.Fits u.call
  fits_at a u F sh at =
      at_says (machine p) (p.Fits u.call) a F
      (at_more (machine p) (λ v kids. (v ≡ u) × TaskOk (machine p) (rights p) v kids) (λ v kids. p.Fits u.call) (λ v kids h. subst (λ (t : Task (machine p)). p.Fits t.call) h.0 h.1.fits) a F
      (at_shape (machine p) (rights p) (λ v kids. v ≡ u) a F sh at))

  pub in_line : (laws : Laws (machine p) (rights p)) (F : Forest (machine p)) → Shape (machine p) (rights p) F → (a b : Place) (u v : Task (machine p)) → IsAbove a b
      → Stands (machine p) u a F → Stands (machine p) v b F → ForksCalls p u.call → DirectModesAgree p u.call v.call
  in_line laws F sh a b u v above x y calls = handed_line u.call v.call (fits_at a u F sh x) calls (upper_goes_past (machine p) (rights p) laws F sh a b u v above x y).0
