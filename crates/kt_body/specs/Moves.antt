-- What an object goes through while a part of a body runs on it.
use Rattle.std.specs.Prelude.{◌≡◌, ℕ, List, [], ◌∷◌, ◌++◌, length, Some, Result, Ok, Err}
use Rattle.kt_law.specs.declared.faults.F.{F}
use Rattle.kt_order.specs.Body.{Stop}
use Rattle.kt_prog.specs.Accepted.{IsAccepted}
use Rattle.kt_prog.specs.Calls.{Job}
use Rattle.kt_prog.specs.Fits.{FitsJob}
use Rattle.kt_prog.specs.Operations.{trace, end_of, operations}
use Rattle.kt_prog.specs.Script.{Script, Step}
use Rattle.kt_prog.specs.declared.programs.Program.{Program}
use Rattle.kt_prog.specs.declared.runs.Operation.{Operation}
use Rattle.kt_body.specs.Endings.{IsCalled, WentThrough, answers_of}
use Rattle.kt_body.specs.declared.ops.Early.{Early}
use Rattle.kt_body.specs.declared.ops.Early.TheVariants as early
use Rattle.kt_body.specs.declared.ops.Got.{Got}
use Rattle.kt_body.specs.declared.ops.Got.TheVariants as got
use Rattle.kt_body.specs.declared.ops.Went.{Went}
use Rattle.kt_body.specs.declared.ops.Went.TheVariants as went

module _ {S : Type 0} (at : S → Program → Job → List ℕ → ℕ → Type 0) (goes : S → Operation → S → Type 0) (halted : S → Type 0) where
  -- the object stands behind these operations of the body, where this is left of it, and goes on
  pub record Ready (p : Program) (job : Job) (done : List Operation) (x : S) (s : Script) : Type 0 where
    pub accepted : IsAccepted p
    pub fits : FitsJob p job
    pub left : (more : List ℕ) → operations p job (answers_of done ++ more) ≡ done ++ trace (end_of p job) s more
    pub stands : at x p job (answers_of done) (length done)
    pub running : halted x → ⊥

  -- the object stands before this operation, which it has refused
  pub record Waits (p : Program) (job : Job) (done : List Operation) (refused : Operation) (y : S) : Type 0 where
    pub more : List Operation
    pub next : operations p job (answers_of (done ++ refused ∷ [])) ≡ done ++ refused ∷ more
    pub stands : at y p job (answers_of done) (length done)

  -- the object went through these operations from x, where s was left, to y, where t is left
  pub record Moves (x : S) (s : Script) (done : List Operation) (y : S) (t : Script) : Type 0 where
    pub went : WentThrough at goes halted x done y
    pub traced : (end : List Operation) (more : List ℕ) → trace end s (answers_of done ++ more) ≡ done ++ trace end t more
    pub keeps : (p : Program) (job : Job) (before : List Operation) → Ready p job before x s → Ready p job (before ++ done) y t

  -- the object went through these operations, and the next one was refused
  pub record Halts (x : S) (s : Script) (done : List Operation) (refused : Operation) (y : S) : Type 0 where
    pub before : S
    pub called : IsCalled refused
    pub went : WentThrough at goes halted x done before
    pub rest : List Operation → List Operation
    pub traced : (end : List Operation) → trace end s (answers_of (done ++ refused ∷ [])) ≡ done ++ refused ∷ rest end
    pub keeps : (p : Program) (job : Job) (front : List Operation) → Ready p job front x s → Waits p job (front ++ done) refused y
    pub at_halt : halted y

  -- the object stands before these steps in a body of this program, whatever may follow them
  pub record Can (p : Program) {A : Type 0} (x : S) (m : Step A) : Type 0 where
    pub go : A → Script
    pub job : Job
    pub done : List Operation
    pub ready : Ready p job done x (m go)

  -- the steps were done and gave this value, or they stopped, whatever may follow them
  pub data Ran {A : Type 0} : S → Step A → S → Result A Early → Type 0 where
    gave : {x y : S} {m : Step A} {v : A} (done : List Operation) → ((go : A → Script) → Moves x (m go) done y (go v)) → Ran x m y (Ok v)
    faulted : {x y : S} {m : Step A} {f : F} {line : ℕ} (done : List Operation)
        → ((go : A → Script) → Moves x (m go) done y (Stop (Some (record { law = f; line = line })))) → Ran x m y (Err (early.Fault f line))
    halted_in : {x y : S} {m : Step A} (done : List Operation) (refused : Operation)
        → ((go : A → Script) → Halts x (m go) done refused y) → Ran x m y (Err early.Halted)

  abbrev pub RanGot : S → Step ℕ → S → Got → Type 0
  RanGot x m y (got.Value v) = Ran x m y (Ok v)
  RanGot x m y got.Halt = Ran x m y (Err early.Halted)

  abbrev pub RanWent : S → Step (Unit {0}) → S → Went → Type 0
  RanWent x m y went.Went = Ran x m y (Ok tt)
  RanWent x m y went.Halt = Ran x m y (Err early.Halted)

  -- as `Ran`, for a call whose value stands in what it changed
  abbrev pub RanTo : {A : Type 0} → S → Step A → S → A → Result (Unit {0}) Early → Type 0
  RanTo x m y a (Ok done) = Ran x m y (Ok a)
  RanTo {A} x m y a (Err e) = Ran {A = A} x m y (Err e)

  -- from x, where m was to be done, the object came to y, where n is left of it
  pub record Still (p : Program) {A : Type 0} (x : S) (m : Step A) (y : S) (n : Step A) : Type 0 where
    pub can : Can p y n
    pub ends : (z : S) (r : Result A Early) → Ran y n z r → Ran x m z r
