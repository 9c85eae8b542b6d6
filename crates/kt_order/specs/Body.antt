-- What a body means: a tree of operations.
use Rattle.std.specs.Prelude.{Option}

-- What a body does from some point on. E are its faults, A the answers of acts, P what it may do to the store,
-- and C the calls that it forks.
pub data Body (E A P C : Type 0) : Type 0 where
  -- its end, or a fault
  Stop : (fault : Option E) → Body E A P C
  -- an act, and what comes after each answer
  Do : (act : P) → (next : A → Body E A P C) → Body E A P C
  Fork : (child : C) → (next : Body E A P C) → Body E A P C

-- each act is one of D and each forked call one of H, whatever the answers are
abbrev pub Keeps : {E A P C : Type 0} → (P → Type 0) → (C → Type 0) → Body E A P C → Type 0
Keeps D H (Stop f) = Unit {0}
Keeps {A = A} D H (Do p k) = D p × ((a : A) → Keeps D H (k a))
Keeps D H (Fork c w) = H c × Keeps D H w
