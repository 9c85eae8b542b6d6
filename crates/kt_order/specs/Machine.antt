-- What the theory knows of a program: a store, acts on it, and calls with what their bodies mean.
use Rattle.std.specs.Prelude.{ℕ, Bool}
use Rattle.kt_order.specs.Body.{Body}

pub record Machine : Type 1 where
  pub Store : Type 0
  pub Act : Type 0
  pub Answer : Type 0
  pub Call : Type 0
  pub Fault : Type 0
  -- the store after an act, and what the act answers
  pub after : Act → Store → Store
  pub answer : Act → Store → Answer
  -- whether the body hears the answer: of a load, and not of a store or a fold
  pub asks : Act → Bool
  -- what stands for the answer where the body hears none
  pub none : Answer
  pub tree : Call → Body Fault Answer Act Call
  -- no call forks deeper than this
  pub height : Call → ℕ

-- a body of the machine, or what is left of one
abbrev pub Code : Machine → Type 0
Code m = Body m.Fault m.Answer m.Act m.Call
