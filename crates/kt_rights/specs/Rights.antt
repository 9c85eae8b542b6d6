-- What the accesses of a call let be done, by the tables of modes.
use Rattle.std.specs.Prelude.{◌≡◌, ◌≢◌, ℕ, suc, ◌<◌, ◌≤◌, Bool, true, false, List, [], ◌∷◌, Option, Some, None, ◌⊎◌}
use Rattle.kt_law.specs.Acts.{Act, Deed, Load, Store, Fold}
use Rattle.kt_law.specs.Modes.{same_op, is_postponed, is_owned, may_load, may_store, may_fold, hands_on_of}
use Rattle.kt_law.specs.Accesses.{HasObject, clashes, clash_between}
use Rattle.kt_law.specs.declared.operators.Op.{Op}
use Rattle.kt_law.specs.declared.modes.Mode.{Mode}
use Rattle.kt_law.specs.declared.modes.Mode.TheVariants as M
use Rattle.kt_law.specs.declared.accesses.Access.{Access}
use Rattle.kt_order.specs.Body.{Keeps, Stop, Do, Fork}
use Rattle.kt_order.specs.Machine.{Code}
use Rattle.kt_order.specs.Laws.{Acts, Rights as OrderRights}
use Rattle.kt_rights.specs.Acts.{is_load}
use Rattle.kt_rights.specs.Plan.{Plan, machine, IsStore}

abbrev pub SomeOf : (Access → Type 0) → List Access → Type 0
SomeOf P [] = ⊥
SomeOf P (a ∷ accesses) = P a ⊎ SomeOf P accesses

abbrev pub EachOf : (Access → Type 0) → List Access → Type 0
EachOf P [] = Unit {0}
EachOf P (a ∷ accesses) = P a × EachOf P accesses

-- a right lets the body itself do the deed
abbrev pub lets : Mode → Deed → Bool
lets mode Load = may_load mode
lets mode (Store v) = may_store mode
lets mode (Fold op v) = may_fold op mode

abbrev pub is_fold : Op → Deed → Bool
is_fold op Load = false
is_fold op (Store v) = false
is_fold op (Fold other v) = same_op op other

-- the body, or those below it, may do the deed: reading ones load, cumulating ones cumulate by their law, others do all
abbrev pub has : Mode → Deed → Bool
has M.R deed = is_load deed
has M.Rp deed = is_load deed
has (M.Cw op) deed = is_fold op deed
has (M.Cwp op) deed = is_fold op deed
has _ deed = true

-- an index of a loop has its own element alone of an object in w or x
abbrev pub Owns : Option ℕ → Mode → ℕ → Type 0
Owns None mode element = Unit {0}
Owns (Some index) mode element = is_owned mode ≡ true → element ≡ index

-- the access lets the act be done by the body itself
pub record Permits (own : Option ℕ) (q : Act) (a : Access) : Type 0 where
  pub object : HasObject a q.object
  pub lets : lets a.mode q.deed ≡ true
  pub owns : Owns own a.mode q.element

-- or by those below it too
pub record Touches (own : Option ℕ) (q : Act) (a : Access) : Type 0 where
  pub object : HasObject a q.object
  pub has : has a.mode q.deed ≡ true
  pub owns : Owns own a.mode q.element

-- a hands b on
pub record Covers (b a : Access) : Type 0 where
  pub from : a.lo ≤ b.lo
  pub below : b.hi ≤ a.hi
  pub hands_on : hands_on_of a.mode b.mode ≡ true

-- each of the accesses is handed on by one of these rights
abbrev pub AreCovered : List Access → List Access → Type 0
AreCovered rights accesses = EachOf (λ b. SomeOf (Covers b) rights) accesses

-- an act that one of the rights permits, on an element that is there
abbrev pub Allowed : (ℕ → ℕ) → List Access → Option ℕ → Act → Type 0
Allowed widths rights own act = (act.element < widths act.object) × SomeOf (Permits own act) rights

module _ (p : Plan) where
  abbrev pub There : Act → Type 0
  There q = q.element < p.width q.object

  abbrev pub Directly : p.Call → Act → Type 0
  Directly c q = Allowed p.width (p.accesses c) (p.own c) q

  abbrev pub MayDo : p.Call → Act → Type 0
  MayDo c q = There q × SomeOf (Touches (p.own c) q) (p.accesses c)

  -- a call hands a call on: one of its accesses hands each of the other's on
  pub record HandsOn (c d : p.Call) : Type 0 where
    pub whole : p.own c ≡ None
    pub child : p.own d ≡ None
    pub covered : AreCovered (p.accesses c) (p.accesses d)

  -- a loop hands an index on
  pub record HasIndex (c d : p.Call) : Type 0 where
    pub loop : p.own c ≡ None
    pub index : ℕ
    pub is : p.own d ≡ Some index
    pub same : p.accesses d ≡ p.accesses c

  pub record Handed (c d : p.Call) : Type 0 where
    pub fits : p.Fits d
    pub lower : p.height c ≡ suc (p.height d)
    pub how : HandsOn c d ⊎ HasIndex c d

  -- two indexes of one loop
  pub record OneLoop (c d : p.Call) : Type 0 where
    pub first : ℕ
    pub second : ℕ
    pub is_first : p.own c ≡ Some first
    pub is_second : p.own d ≡ Some second
    pub differ : first ≢ second
    pub same : p.accesses d ≡ p.accesses c
    pub direct : EachOf (λ a. is_postponed a.mode ≡ false) (p.accesses c)
    pub unalike : clashes (p.accesses c) ≡ false

  -- no access of the one clashes with one of the other, or they are two indexes of one loop
  abbrev pub Apart : p.Call → p.Call → Type 0
  Apart c d = (clash_between (p.accesses c) (p.accesses d) ≡ false) ⊎ OneLoop c d

  abbrev pub rights : OrderRights (machine p)
  rights = record { Fits = p.Fits; Directly = Directly; MayDo = MayDo; Handed = Handed; Apart = Apart }

  -- a body does nothing after it has forked an index
  abbrev pub EndsWithIndexes : Code (machine p) → Type 0
  EndsWithIndexes (Stop f) = Unit {0}
  EndsWithIndexes (Do q k) = (a : ℕ) → EndsWithIndexes (k a)
  EndsWithIndexes (Fork d w) = ((p.own d ≡ None) ⊎ Acts (machine p) (λ q. ⊥) w) × EndsWithIndexes w

  -- what a program has to show: the accesses of a call do not clash, its body keeps to them, and its store is one
  pub record Obeys : Type 0 where
    pub unalike : (c : p.Call) → p.Fits c → clashes (p.accesses c) ≡ false
    pub keeps : (c : p.Call) → p.Fits c → Keeps (Directly c) (Handed c) (p.tree c)
    pub indexes : (c : p.Call) → p.Fits c → EndsWithIndexes (p.tree c)
    pub store : IsStore p
