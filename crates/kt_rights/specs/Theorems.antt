-- The statements: the tables of modes give the laws of the theory, and what follows.
use Rattle.std.specs.Prelude.{◌≡◌, ◌≢◌, ℕ, true, false, List}
use Rattle.kt_law.specs.Modes.{agree_of, is_postponed}
use Rattle.kt_law.specs.Accesses.{HasObject}
use Rattle.kt_law.specs.declared.accesses.Access.{Access}
use Rattle.kt_order.specs.Sequential.{whole}
use Rattle.kt_order.specs.Laws.{Laws, ApartLaws}
use Rattle.kt_order.specs.Forest.{Place, Task}
use Rattle.kt_order.specs.Events.{Event, State, opening, run, AllFinished, Follows}
use Rattle.kt_order.specs.Lawful.{Lawful}
use Rattle.kt_order.specs.Shown.{settled}
use Rattle.kt_order.specs.Places.{Separate, IsAbove, Stands, IsUnderWay}
use Rattle.kt_rights.specs.Plan.{Plan, machine}
use Rattle.kt_rights.specs.Rights.{EachOf, Owns, HandsOn, HasIndex, Handed, Apart, rights, Obeys}

module _ (p : Plan) where
  abbrev pub TablesGiveLaws : Type 0
  TablesGiveLaws = Obeys p → Laws (machine p) (rights p)

  abbrev pub TablesGiveApartLaws : Type 0
  TablesGiveApartLaws = Obeys p → ApartLaws (machine p) (rights p)

  -- every order of enabled events gives the sequential run
  abbrev pub AccessesFreeTheOrder : Type 0
  AccessesFreeTheOrder = Obeys p → (root : p.Call) (s : p.Store) (es : List Event) → p.Fits root
      → Follows (machine p) (rights p) es (opening (machine p) root s)
      → let x = run (machine p) es (opening (machine p) root s) in
      AllFinished (machine p) x.forest → whole (machine p) root s ≡ record { store = x.store; entries = settled (machine p) x.forest }

  -- the modes of a and b agree if the two calls may touch this element by them
  abbrev pub AgreeOn : p.Call → p.Call → ℕ → ℕ → Access → Access → Type 0
  AgreeOn c d object element a b = HasObject a object → HasObject b object → Owns (p.own c) a.mode element
      → Owns (p.own d) b.mode element → agree_of a.mode b.mode ≡ true

  -- the modes of two calls agree wherever both may touch one element
  abbrev pub ModesAgree : p.Call → p.Call → Type 0
  ModesAgree c d = (object element : ℕ) → EachOf (λ a. EachOf (AgreeOn c d object element a) (p.accesses d)) (p.accesses c)

  -- two tasks under way, neither of them above the other
  abbrev pub SideBySideAgree : Type 0
  SideBySideAgree = Obeys p → (root : p.Call) (s : p.Store) (x : State (machine p)) → Lawful (machine p) (rights p) root s x
      → (a b : Place) (u v : Task (machine p)) → Separate a b → Stands (machine p) u a x.forest → Stands (machine p) v b x.forest
      → IsUnderWay (machine p) u → IsUnderWay (machine p) v → ModesAgree u.call v.call

  abbrev pub MeetOn : ℕ → Access → Access → Type 0
  MeetOn object a b = HasObject a object → HasObject b object → agree_of a.mode b.mode ≡ true

  -- the direct modes of the one agree with the modes of the other on each object
  abbrev pub DirectModesAgree : p.Call → p.Call → Type 0
  DirectModesAgree c d = (object : ℕ) → EachOf (λ a. is_postponed a.mode ≡ false → EachOf (MeetOn object a) (p.accesses d)) (p.accesses c)

  -- a call that is no loop
  abbrev pub ForksCalls : p.Call → Type 0
  ForksCalls c = (d : p.Call) → Handed p c d → HandsOn p c d

  -- two tasks in one line, the upper one no loop
  abbrev pub InLineAgree : Type 0
  InLineAgree = Obeys p → (root : p.Call) (s : p.Store) (x : State (machine p)) → Lawful (machine p) (rights p) root s x
      → (a b : Place) (u v : Task (machine p)) → IsAbove a b → Stands (machine p) u a x.forest → Stands (machine p) v b x.forest
      → ForksCalls u.call → DirectModesAgree u.call v.call

  -- two indexes of a loop, all of whose accesses are direct and none of which clash
  abbrev pub IndexesAreApart : Type 0
  IndexesAreApart = Obeys p → (loop c d : p.Call) (first : HasIndex p loop c) (second : HasIndex p loop d) → p.Fits loop
      → EachOf (λ a. is_postponed a.mode ≡ false) (p.accesses loop) → first.index ≢ second.index → Apart p c d
