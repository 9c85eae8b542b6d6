-- What a deed finds and makes of an element's number.
use Rattle.std.specs.Prelude.{ℕ, Bool, true, false}
use Rattle.kt_law.specs.Acts.{Deed, Load, Store, Fold}
use Rattle.kt_law.specs.Operators.{fold_of}

-- only a load answers
abbrev pub is_load : Deed → Bool
is_load Load = true
is_load (Store v) = false
is_load (Fold op v) = false

-- what a deed makes of a number
abbrev pub effect : Deed → ℕ → ℕ
effect Load a = a
effect (Store v) a = v
effect (Fold op v) a = fold_of op a v

-- what a deed answers where it finds this number, 0 where it answers nothing
abbrev pub found : Deed → ℕ → ℕ
found Load a = a
found (Store v) a = 0
found (Fold op v) a = 0
