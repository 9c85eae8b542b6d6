-- What is asked of an object that does operations, and what it answers. `at` says where it may stand: in this body, after so
-- many operations, whose loads found these numbers; `goes` what an operation makes of it; `halted` that it does no more.
use Rattle.std.specs.Prelude.{ℕ, ◌+◌, List, ◌++◌}
use Rattle.kt_prog.specs.Calls.{Job}
use Rattle.kt_prog.specs.Accepted.{IsAccepted}
use Rattle.kt_prog.specs.Fits.{FitsJob}
use Rattle.kt_prog.specs.Operations.{heard, IsNext}
use Rattle.kt_prog.specs.declared.programs.Program.{Program}
use Rattle.kt_prog.specs.declared.runs.Operation.{Operation}
use Rattle.kt_body.specs.declared.ops.Got.{Got}
use Rattle.kt_body.specs.declared.ops.Got.TheVariants as got
use Rattle.kt_body.specs.declared.ops.Went.{Went}
use Rattle.kt_body.specs.declared.ops.Went.TheVariants as went

module _ {S : Type 0} (at : S → Program → Job → List ℕ → ℕ → Type 0) (goes : S → Operation → S → Type 0) (halted : S → Type 0) where
  -- it was done: wherever the object stood before it, it stands behind it
  pub record Did (x : S) (operation : Operation) (y : S) : Type 0 where
    pub went : goes x operation y
    pub stands : (p : Program) (job : Job) (answers : List ℕ) (count : ℕ) → at x p job answers count
        → IsNext p job answers count operation → at y p job (answers ++ heard operation) (count + 1)
    pub running : halted y → ⊥

  -- it wasn't done: the object stands where it stood
  pub record Refused (x y : S) : Type 0 where
    pub stands : (p : Program) (job : Job) (answers : List ℕ) (count : ℕ) → at x p job answers count → at y p job answers count
    pub at_halt : halted y

  -- a load, with the number that it finds
  abbrev pub Found : S → (ℕ → Operation) → S → Got → Type 0
  Found x load y (got.Value a) = Did x (load a) y
  Found x load y got.Halt = Refused x y

  abbrev pub Followed : S → Operation → S → Went → Type 0
  Followed x operation y went.Went = Did x operation y
  Followed x operation y went.Halt = Refused x y

module _ {S : Type 0} (at : S → Program → Job → List ℕ → ℕ → Type 0) (halted : S → Type 0) where
  -- the object stands where this operation is next, which for a load has any number, in a body that there may be of an
  -- accepted program
  pub record CanDo (x : S) (operation : ℕ → Operation) : Type 0 where
    pub program : Program
    pub job : Job
    pub answers : List ℕ
    pub count : ℕ
    pub accepted : IsAccepted program
    pub fits : FitsJob program job
    pub stands : at x program job answers count
    pub next : (a : ℕ) → IsNext program job answers count (operation a)
    pub running : halted x → ⊥
