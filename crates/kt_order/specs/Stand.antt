-- Where a body stands after some of its operations.
use Rattle.std.specs.Prelude.{◌≡◌, ℕ, zero, suc, Bool, true, false, List, [], ◌∷◌, Option, Some, None}
use Rattle.kt_order.specs.Body.{Stop, Do, Fork}
use Rattle.kt_order.specs.Machine.{Machine, Code}
use Rattle.kt_order.specs.Trace.{Operation, Acted, Forked, Ended, hearing}

module _ (m : Machine) where
  pub record Standing : Type 0 where
    pub left : Code m
    -- the calls that were forked, in order
    pub forks : List m.Call
    -- the end or the fault was done
    pub over : Bool

  abbrev pub fork_first : m.Call → Option Standing → Option Standing
  fork_first c None = None
  fork_first c (Some st) = Some (record { left = st.left; forks = c ∷ st.forks; over = st.over })

  -- after so many operations; None where the answers are not just those of these operations
  abbrev pub stand : Code m → List m.Answer → ℕ → Option Standing
  stand w [] zero = Some (record { left = w; forks = []; over = false })
  stand w (a ∷ more) zero = None
  stand (Stop f) [] (suc zero) = Some (record { left = Stop f; forks = []; over = true })
  stand (Stop f) [] (suc (suc n)) = None
  stand (Stop f) (a ∷ more) (suc n) = None
  stand (Do p k) answers (suc n) = hearing m (m.asks p) None (λ a more. stand (k a) more n) answers
  stand (Fork c w) answers (suc n) = fork_first c (stand w answers n)

  -- the operation is the first of what is left
  abbrev pub Heads : Operation m → Code m → Type 0
  Heads (Acted p a) (Do q k) = (p ≡ q) × (m.asks q ≡ false → a ≡ m.none)
  Heads (Forked c) (Fork d w) = c ≡ d
  Heads (Ended f) (Stop g) = f ≡ g
  Heads _ _ = ⊥
