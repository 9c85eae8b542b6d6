-- What calls may do, and the few laws on which the theory rests.
use Rattle.std.specs.Prelude.{◌≡◌, suc, false}
use Rattle.kt_order.specs.Body.{Stop, Do, Fork}
use Rattle.kt_order.specs.Machine.{Machine, Code}

module _ (m : Machine) where
  -- p and q may be done in either order: the store is the same, and so is what each of them answers
  pub record Commutes (p q : m.Act) : Type 0 where
    pub stores : (s : m.Store) → m.after q (m.after p s) ≡ m.after p (m.after q s)
    pub first : (s : m.Store) → m.answer p (m.after q s) ≡ m.answer p s
    pub second : (s : m.Store) → m.answer q (m.after p s) ≡ m.answer q s

  -- each act that may still come is one of P, whatever the answers are
  abbrev pub Acts : (m.Act → Type 0) → Code m → Type 0
  Acts P (Stop f) = Unit {0}
  Acts P (Do p k) = P p × ((a : m.Answer) → Acts P (k a))
  Acts P (Fork c w) = Acts P w

  -- each act is one of D, each forked call one of H, and each act after the fork of c one of E c
  abbrev pub Within : (m.Act → Type 0) → (m.Call → Type 0) → (m.Call → m.Act → Type 0) → Code m → Type 0
  Within D H E (Stop f) = Unit {0}
  Within D H E (Do p k) = D p × ((a : m.Answer) → Within D H E (k a))
  Within D H E (Fork c w) = H c × Acts (E c) w × Within D H E w

  pub record Rights : Type 1 where
    -- the program may make this call
    pub Fits : m.Call → Type 0
    -- the call's own body may do the act
    pub Directly : m.Call → m.Act → Type 0
    -- its body, or one below it, may do the act
    pub MayDo : m.Call → m.Act → Type 0
    -- the first may fork the second
    pub Handed : m.Call → m.Call → Type 0
    -- the two may be under way side by side
    pub Apart : m.Call → m.Call → Type 0

  -- q goes past all that d and those below it may do
  abbrev pub Past : Rights → m.Call → m.Act → Type 0
  Past r d q = (p : m.Act) → r.MayDo d p → Commutes p q

  -- what the theory asks of a program
  pub record Laws (r : Rights) : Type 0 where
    -- a body keeps to its rights, and what it does after a fork goes past all that the forked call may do
    pub within : (c : m.Call) → r.Fits c → Within (r.Directly c) (r.Handed c) (Past r) (m.tree c)
    pub own : (c : m.Call) (p : m.Act) → r.Directly c p → r.MayDo c p
    pub fits : (c d : m.Call) → r.Handed c d → r.Fits d
    -- what is handed on may do no more
    pub inherits : (c d : m.Call) (p : m.Act) → r.Handed c d → r.MayDo d p → r.MayDo c p
    pub apart : (c d : m.Call) (p q : m.Act) → r.Apart c d → r.MayDo c q → r.MayDo d p → Commutes p q
    pub quiet : (p : m.Act) (s : m.Store) → m.asks p ≡ false → m.answer p s ≡ m.none
    pub lower : (c d : m.Call) → r.Handed c d → m.height c ≡ suc (m.height d)

  -- what the law of tasks under way asks beside these
  pub record ApartLaws (r : Rights) : Type 0 where
    pub turned : (c d : m.Call) → r.Apart c d → r.Apart d c
    -- what is handed on is apart from all that the call is apart from
    pub below : (c d e : m.Call) → r.Apart c d → r.Handed c e → r.Apart e d
