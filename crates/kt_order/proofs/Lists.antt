-- What holds of each of a list.
use Rattle.std.proofs.Common.{List, [], ◌∷◌}
use Rattle.kt_order.specs.Lists.{AllOf}

pub all_of_more : {X : Type 0} → (P Q : X → Type 0) → ((x : X) → P x → Q x) → (xs : List X) → AllOf P xs → AllOf Q xs
all_of_more P Q f [] h = tt
all_of_more P Q f (x ∷ xs) h = (f x h.0, all_of_more P Q f xs h.1)
