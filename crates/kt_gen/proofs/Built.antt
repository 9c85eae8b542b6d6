-- What a call made, by another name.
use Rattle.std.proofs.Common.{◌≡◌, Result, Ok, Err, ◌∙◌}
use Rattle.std.specs.Prelude.{IfOk}

pub made_as : {T E : Type 0} (r : Result T E) (t u : T) → t ≡ u → IfOk r (λ x. x ≡ t) → IfOk r (λ x. x ≡ u)
made_as (Ok x) t u e h = h ∙ e
made_as (Err x) t u e h = h
