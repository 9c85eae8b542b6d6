-- The operations of a body, in order, with given answers.
use Rattle.std.specs.Prelude.{◌≡◌, ℕ, Bool, true, false, List, [], ◌∷◌, ◌++◌, Option, Some}
use Rattle.kt_order.specs.Lists.{nth}
use Rattle.kt_order.specs.Body.{Stop, Do, Fork}
use Rattle.kt_order.specs.Machine.{Machine, Code}
use Rattle.kt_order.specs.Sequential.{keeps}

module _ (m : Machine) where
  pub data Operation : Type 0 where
    -- an act with its answer, `none` where the body hears none
    Acted : (act : m.Act) → (answer : m.Answer) → Operation
    Forked : (child : m.Call) → Operation
    -- the end, or a fault
    Ended : (fault : Option m.Fault) → Operation

  -- what comes after an act: f at the next answer and at those left, if the act asks for one
  abbrev pub hearing : {X : Type 0} → Bool → X → (m.Answer → List m.Answer → X) → List m.Answer → X
  hearing true nothing f [] = nothing
  hearing true nothing f (a ∷ answers) = f a answers
  hearing false nothing f answers = f m.none answers

  -- the operations in order, where the k-th act that asks finds the k-th answer; they end where an answer is missing
  abbrev pub trace : Code m → List m.Answer → List Operation
  trace (Stop f) answers = Ended f ∷ []
  trace (Do p k) answers = hearing (m.asks p) [] (λ a more. Acted p a ∷ trace (k a) more) answers
  trace (Fork c w) answers = Forked c ∷ trace w answers

  -- what an operation adds to the answers
  abbrev pub heard : Operation → List m.Answer
  heard (Acted p a) = keeps m p a
  heard (Forked c) = []
  heard (Ended f) = []

  -- the operation is next after these answers and so many operations
  abbrev pub IsNext : Code m → List m.Answer → ℕ → Operation → Type 0
  IsNext w answers done op = nth (trace w (answers ++ heard op)) done ≡ Some op
