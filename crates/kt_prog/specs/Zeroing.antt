-- What is done before a body: each element of each `w` object is stored 0, in the order of accesses and elements.
use Rattle.std.specs.Prelude.{ℕ, zero, suc, ◌-◌, List, [], ◌∷◌}
use Rattle.kt_law.specs.Acts.{Store}
use Rattle.kt_law.specs.declared.accesses.Access.{Access}
use Rattle.kt_law.specs.declared.modes.Mode.{Mode}
use Rattle.kt_law.specs.declared.modes.Mode.TheVariants as M
use Rattle.kt_prog.specs.Script.{Step, ◌>>◌, give, perform}

-- n elements of an object, from this one on
abbrev pub zero_elements : ℕ → ℕ → ℕ → Step (Unit {0})
zero_elements object from zero = give tt
zero_elements object from (suc n) = do
  perform object from (Store 0)
  zero_elements object (suc from) n

-- n objects, from this one on
abbrev pub zero_objects : (ℕ → ℕ) → ℕ → ℕ → Step (Unit {0})
zero_objects widths object zero = give tt
zero_objects widths object (suc n) = do
  zero_elements object 0 (widths object)
  zero_objects widths (suc object) n

abbrev pub zero_access : (ℕ → ℕ) → Access → Mode → Step (Unit {0})
zero_access widths a M.W = zero_objects widths a.lo (a.hi - a.lo)
zero_access widths a _ = give tt

abbrev pub zero_all : (ℕ → ℕ) → List Access → Step (Unit {0})
zero_all widths [] = give tt
zero_all widths (a ∷ accesses) = do
  zero_access widths a a.mode
  zero_all widths accesses
