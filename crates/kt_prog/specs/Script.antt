-- What is left of a body, and steps that give a value to what follows.
use Rattle.std.specs.Prelude.{ℕ, Bool, true, false, Some}
use Rattle.kt_law.specs.Acts.{Deed, Load}
use Rattle.kt_law.specs.declared.faults.F.{F}
use Rattle.kt_order.specs.Body.{Body, Stop, Do, Fork}
use Rattle.kt_law.specs.Acts.{Act}
use Rattle.kt_prog.specs.Calls.{Job}

-- a fault, and the line of the statement that was being done
pub record Fault : Type 0 where
  pub law : F
  pub line : ℕ

-- the operations to come, where the number that a load finds decides how it goes on
abbrev pub Script : Type 0
Script = Body Fault ℕ Act Job

-- a step that gives a value of A to what follows
abbrev pub Step : Type 0 → Type 0
Step A = (A → Script) → Script

infixl 10 ◌>>=◌
unfoldable pub ◌>>=◌ : {A B : Type 0} → Step A → (A → Step B) → Step B
m >>= f = λ go. m (λ x. f x go)

infixl 10 ◌>>◌
abbrev pub ◌>>◌ : {A B : Type 0} → Step A → Step B → Step B
m >> n = m >>= (λ _. n)

unfoldable pub give : {A : Type 0} → A → Step A
give x go = go x

-- a rule of the program was broken: a value to go on with, and `lost` says what comes of what follows
unfoldable pub astray : {A : Type 0} → (Script → Script) → A → Step A
astray lost x go = lost (go x)

-- a fault, behind which nothing follows
unfoldable pub stop : {A : Type 0} → F → ℕ → Step A
stop law line go = Stop (Some (record { law = law; line = line }))

unfoldable pub load : ℕ → ℕ → Step ℕ
load object element go = Do (record { object = object; element = element; deed = Load }) go

-- a store or a fold, which answers nothing
unfoldable pub perform : ℕ → ℕ → Deed → Step (Unit {0})
perform object element deed go = Do (record { object = object; element = element; deed = deed }) (λ _. go tt)

unfoldable pub fork : Job → Step (Unit {0})
fork job go = Fork job (go tt)

-- a test, or else the fault
abbrev pub tested : Bool → F → ℕ → Step (Unit {0})
tested true law line = give tt
tested false law line = stop law line
