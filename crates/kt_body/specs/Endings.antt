-- How the run of a body ends.
use Rattle.std.specs.Prelude.{◌≡◌, ℕ, List, [], ◌∷◌, ◌++◌, length, flat_map}
use Rattle.kt_prog.specs.Accepted.{IsAccepted}
use Rattle.kt_prog.specs.Calls.{CallTree, Job, Whole}
use Rattle.kt_prog.specs.Fits.{FitsJob}
use Rattle.kt_prog.specs.Operations.{heard, operations, zeroing}
use Rattle.kt_prog.specs.declared.programs.Program.{Program}
use Rattle.kt_prog.specs.declared.runs.Operation.{Operation}
use Rattle.kt_prog.specs.declared.runs.Operation.TheVariants as O
use Rattle.kt_body.specs.declared.ops.Ended.{Ended}
use Rattle.kt_body.specs.declared.ops.Ended.TheVariants as E

-- what the loads among the operations found
abbrev pub answers_of : List Operation → List ℕ
answers_of done = flat_map heard done

-- it is done by a call of the object; End and Fault aren't
abbrev pub IsCalled : Operation → Type 0
IsCalled O.End = ⊥
IsCalled (O.Fault law line) = ⊥
IsCalled _ = Unit {0}

module _ {S : Type 0} (at : S → Program → Job → List ℕ → ℕ → Type 0) (goes : S → Operation → S → Type 0) (halted : S → Type 0) where
  -- the operations, in order, took the object from x to y
  abbrev pub WentThrough : S → List Operation → S → Type 0
  WentThrough x [] y = x ≡ y
  WentThrough x (operation ∷ more) y = (z : S) × goes x operation z × WentThrough z more y

  -- before a run: the object stands where the body begins
  pub record Begins (p : Program) (job : Job) (x : S) : Type 0 where
    pub accepted : IsAccepted p
    pub fits : FitsJob p job
    pub stands : at x p job [] 0
    pub running : halted x → ⊥

  -- the object went through these operations, from x to y, and stands behind them
  pub record Came (p : Program) (job : Job) (x : S) (done : List Operation) (y : S) : Type 0 where
    pub went : WentThrough x done y
    pub stands : at y p job (answers_of done) (length done)
    pub running : halted y → ⊥

  -- the object went through these operations, from x to a state whose next call was answered Halt with y
  pub record Stuck (p : Program) (job : Job) (x : S) (done : List Operation) (y : S) : Type 0 where
    pub before : S
    pub went : WentThrough x done before
    pub stands : at y p job (answers_of done) (length done)
    pub at_halt : halted y

  -- the operations of the body, which end so: with End, with the fault, or before one that the object refused
  abbrev pub EndsSo : Program → Job → S → S → Ended → Type 0
  EndsSo p job x y E.Done = (done : List Operation) × (operations p job (answers_of done) ≡ done ++ O.End ∷ []) × Came p job x done y
  EndsSo p job x y (E.Fault law line) =
      (done : List Operation) × (operations p job (answers_of done) ≡ done ++ O.Fault law line ∷ []) × Came p job x done y
  EndsSo p job x y E.Halted =
      (done more : List Operation) × (refused : Operation) × IsCalled refused
      × (operations p job (answers_of (done ++ refused ∷ [])) ≡ done ++ refused ∷ more) × Stuck p job x done y

  -- the zeroing before the body of a call, all of it or the part before a store that the object refused
  abbrev pub ZeroesSo : Program → CallTree → S → S → Ended → Type 0
  ZeroesSo p call x y E.Done = Came p (Whole call) x (zeroing p call) y
  ZeroesSo p call x y (E.Fault law line) = ⊥
  ZeroesSo p call x y E.Halted =
      (done more : List Operation) × (refused : Operation) × (zeroing p call ≡ done ++ refused ∷ more) × Stuck p (Whole call) x done y
