-- The tables of modes give the laws of the theory.
use Rattle.std.proofs.Common.{◌≡◌, ℕ, false, Option, Some, None, ◌⊎◌, inl, inr, refl, sym, subst}
use Rattle.kt_law.specs.Acts.{Act, Deed, Load, Store, Fold}
use Rattle.kt_law.specs.Laws.{FoldAssociates, FoldCommutes}
use Rattle.kt_order.specs.Body.{Keeps, Stop, Do, Fork}
use Rattle.kt_order.specs.Machine.{Machine, Code}
use Rattle.kt_order.specs.Laws.{Acts, Commutes, Within, Laws}
use Rattle.kt_order.specs.Laws as order
use Rattle.kt_rights.specs.Acts.{is_load, found}
use Rattle.kt_rights.specs.Plan.{Plan, machine}
use Rattle.kt_rights.specs.Rights.{SomeOf, Permits, Touches, There, Directly, MayDo, HandsOn, HasIndex, Handed, Apart, rights, EndsWithIndexes, Obeys}
use Rattle.kt_rights.proofs.Deeds.{deeds_turned, lets_has}
use Rattle.kt_rights.proofs.Lists.{some_more}
use Rattle.kt_rights.proofs.Stores.{stores_swap, found_same}
use Rattle.kt_rights.proofs.Meets.{MeetAgree, between_agree, forked_agree, covered_touches, indexes_agree}

pub some_none : (n : ℕ) (own : Option ℕ) → own ≡ Some n → own ≡ None → ⊥
some_none n own e f = absurd (cc (e, f))

silent : (k : Deed) (x : ℕ) → is_load k ≡ false → found k x ≡ 0
silent Load x e = cc
silent (Store v) x e = refl
silent (Fold op v) x e = refl

module _ (associates : FoldAssociates) (commutes : FoldCommutes) (p : Plan) (obeys : Obeys p) where
  abbrev m : Machine
  m = machine p

  -- acts that agree where they meet commute
  acts_commute : (q r : Act) → There p q → There p r → MeetAgree q r → Commutes m q r
  acts_commute q r tq tr h = record {
    stores = stores_swap associates commutes p obeys.store q.object q.element r.object r.element tq tr q.deed r.deed h;
    first = λ s. found_same p obeys.store q.object q.element r.object r.element s tq tr q.deed r.deed h;
    second = λ s. found_same p obeys.store r.object r.element q.object q.element s tr tq r.deed q.deed (λ e e'. deeds_turned q.deed r.deed (h (sym e) (sym e')));
  }

  apart_commutes : (c d : p.Call) (q r : Act) → Apart p c d → MayDo p c r → MayDo p d q → Commutes m q r
  apart_commutes c d q r (inl h) x y = acts_commute q r y.0 x.0 (λ e e'. deeds_turned r.deed q.deed (between_agree (p.accesses c) (p.accesses d) (p.own c) (p.own d) r q h x.1 y.1 (sym e) (sym e')))
  apart_commutes c d q r (inr h) x y =
      let first = subst (λ own. SomeOf (Touches own r) (p.accesses c)) h.is_first x.1 in
      let second = subst (λ own. SomeOf (Touches own q) (p.accesses c)) h.is_second (subst (SomeOf (Touches (p.own d) q)) h.same y.1) in
      acts_commute q r y.0 x.0 (λ e e'. deeds_turned r.deed q.deed (indexes_agree (p.accesses c) h.first h.second r q h.differ h.direct h.unalike first second (sym e) (sym e')))

  direct_may : (c : p.Call) (q : Act) → Directly p c q → MayDo p c q
  direct_may c q h = (h.0, some_more (Permits (p.own c) q) (Touches (p.own c) q) (λ a x. record { object = x.object; has = lets_has a.mode q.deed x.lets; owns = x.owns }) (p.accesses c) h.1)

  inherits : (c d : p.Call) (q : Act) → HandsOn p c d ⊎ HasIndex p c d → MayDo p d q → MayDo p c q
  inherits c d q (inl h) may =
      let child = subst (λ own. SomeOf (Touches own q) (p.accesses d)) h.child may.1 in
      (may.0, subst (λ own. SomeOf (Touches own q) (p.accesses c)) (sym h.whole) (covered_touches (p.accesses c) (p.accesses d) q h.covered child))
  inherits c d q (inr h) may =
      let loop = subst (SomeOf (Touches (p.own d) q)) h.same may.1 in
      (may.0, subst (λ own. SomeOf (Touches own q) (p.accesses c)) (sym h.loop) (some_more (Touches (p.own d) q) (Touches None q) (λ a x. record { object = x.object; has = x.has; owns = tt }) (p.accesses c) loop))

  abbrev Past : p.Call → Act → Type 0
  Past d = order.Past m (rights p) d

  -- what a body does itself goes past all that a call may do to which it hands accesses on
  acts_past : (c d : p.Call) → p.Fits c → HandsOn p c d → (w : Code m) → Keeps (Directly p c) (Handed p c) w → Acts m (Past d) w
  acts_past c d fits h (Stop f) keeps = tt
  acts_past c d fits h (Do q k) keeps =
      (λ r may. acts_commute r q may.0 keeps.0.0 (forked_agree (p.accesses c) (p.accesses d) (p.own c) (p.own d) q r (obeys.unalike c fits) h.covered keeps.0.1 may.1), λ a. acts_past c d fits h (k a) (keeps.1 a))
  acts_past c d fits h (Fork e w) keeps = acts_past c d fits h w keeps.1

  no_acts : (P : Act → Type 0) (w : Code m) → Acts m (λ q. ⊥) w → Acts m P w
  no_acts P (Stop f) h = tt
  no_acts P (Do q k) h = absurd h.0
  no_acts P (Fork d w) h = no_acts P w h

  -- after a fork: of a call, or of an index, after which nothing is done
  after_fork : (c d : p.Call) → p.Fits c → HandsOn p c d ⊎ HasIndex p c d → (w : Code m) → (p.own d ≡ None) ⊎ Acts m (λ q. ⊥) w
      → Keeps (Directly p c) (Handed p c) w → Acts m (Past d) w
  after_fork c d fits (inl h) w last keeps = acts_past c d fits h w keeps
  after_fork c d fits (inr h) w (inl none) keeps = absurd (some_none h.index (p.own d) h.is none)
  after_fork c d fits (inr h) w (inr last) keeps = no_acts (Past d) w last

  within : (c : p.Call) → p.Fits c → (w : Code m) → Keeps (Directly p c) (Handed p c) w → EndsWithIndexes p w
      → Within m (Directly p c) (Handed p c) Past w
  within c fits (Stop f) keeps ends = tt
  within c fits (Do q k) keeps ends = (keeps.0, λ a. within c fits (k a) (keeps.1 a) (ends a))
  within c fits (Fork d w) keeps ends = (keeps.0, after_fork c d fits keeps.0.how w ends.0 keeps.1, within c fits w keeps.1 ends.1)

  -- the theory holds of a program whose bodies keep to their accesses
  pub laws : Laws m (rights p)
  laws = record {
    within = λ c fits. within c fits (p.tree c) (obeys.keeps c fits) (obeys.indexes c fits);
    own = λ c q d. direct_may c q d;
    fits = λ c d h. h.fits;
    inherits = λ c d q h may. inherits c d q h.how may;
    apart = λ c d q r h x y. apart_commutes c d q r h x y;
    quiet = λ q s e. silent q.deed (p.look q.object q.element s) e;
    lower = λ c d h. h.lower;
  }
