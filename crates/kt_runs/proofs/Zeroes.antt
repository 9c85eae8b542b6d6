-- What holds behind the zeroing of a body, and of acts before it, holds of the whole.
use Rattle.std.proofs.Common.{ℕ, zero, suc, ◌-◌, List, [], ◌∷◌, None}
use Rattle.kt_law.specs.Acts.{Act}
use Rattle.kt_law.specs.declared.modes.Mode.{Mode}
use Rattle.kt_law.specs.declared.modes.Mode.TheVariants as M
use Rattle.kt_law.specs.declared.accesses.Access.{Access}
use Rattle.kt_order.specs.Body.{Stop, Do}
use Rattle.kt_prog.specs.Script.{Script, Step, ◌>>=◌, give, perform}
use Rattle.kt_prog.specs.Objects.{width_of}
use Rattle.kt_prog.specs.Zeroing.{zero_elements, zero_objects, zero_access, zero_all}
use Rattle.kt_prog.specs.declared.programs.Program.{Program}

module _ (p : Program) (Q : Script → Type 0) (acts : (q : Act) (next : ℕ → Script) → ((a : ℕ) → Q (next a)) → Q (Do q next)) where
  -- if what follows has Q, the whole does
  abbrev Passes : Step (Unit {0}) → Type 0
  Passes s = (go : Unit {0} → Script) → Q (go tt) → Q (s go)

  passes_elements : (object from n : ℕ) → Passes (zero_elements object from n)
  unfolding ◌>>=◌ perform give
  passes_elements object from zero go h = h
  passes_elements object from (suc n) go h = acts _ _ (λ a. passes_elements object (suc from) n go h)

  passes_then : (s t : Step (Unit {0})) → Passes s → Passes t → Passes (s >>= (λ _. t))
  unfolding ◌>>=◌
  passes_then s t f g go h = f (λ _. t go) (g go h)

  passes_give : Passes (give tt)
  unfolding give
  passes_give go h = h

  passes_objects : (object n : ℕ) → Passes (zero_objects (width_of p.families) object n)
  passes_objects object zero = passes_give
  passes_objects object (suc n) =
      passes_then (zero_elements object 0 (width_of p.families object)) (zero_objects (width_of p.families) (suc object) n)
      (passes_elements object 0 (width_of p.families object)) (passes_objects (suc object) n)

  passes_access : (a : Access) (mode : Mode) → Passes (zero_access (width_of p.families) a mode)
  passes_access a M.W = passes_objects a.lo (a.hi - a.lo)
  passes_access a M.R = passes_give
  passes_access a M.X = passes_give
  passes_access a M.Rp = passes_give
  passes_access a M.Wp = passes_give
  passes_access a M.Xp = passes_give
  passes_access a (M.Cw op) = passes_give
  passes_access a (M.Cwp op) = passes_give

  passes_all : (accesses : List Access) → Passes (zero_all (width_of p.families) accesses)
  passes_all [] = passes_give
  passes_all (a ∷ accesses) =
      passes_then (zero_access (width_of p.families) a a.mode) (zero_all (width_of p.families) accesses) (passes_access a a.mode) (passes_all accesses)

  pub behind_zeroing : (accesses : List Access) (call : Step (Unit {0})) → Q (call (λ _. Stop None))
      → Q ((zero_all (width_of p.families) accesses >>= (λ _. call)) (λ _. Stop None))
  unfolding ◌>>=◌
  behind_zeroing accesses call h = passes_all accesses (λ _. call (λ _. Stop None)) h
