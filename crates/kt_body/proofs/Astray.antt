-- What names stand for.
use Rattle.std.proofs.Common.{◌≡◌, refl}
use Rattle.kt_prog.specs.Script.{astray, give}

pub astray_is : {A : Type 0} (x : A) → astray (λ w. w) x ≡ give x
unfolding astray give
astray_is x = refl
