-- Statements of the laws of what is next.
use Rattle.std.specs.Prelude.{◌<◌, ℕ, List}
use Rattle.kt_law.specs.Acts.{Load, Store, Fold}
use Rattle.kt_prog.specs.Accepted.{IsAccepted}
use Rattle.kt_prog.specs.Calls.{Job, Whole}
use Rattle.kt_prog.specs.Fits.{FitsJob}
use Rattle.kt_prog.specs.Objects.{objects_of, width_of}
use Rattle.kt_prog.specs.Operations.{IsNext}
use Rattle.kt_prog.specs.Rights.{Directly, Forks}
use Rattle.kt_prog.specs.declared.programs.Program.{Program}
use Rattle.kt_prog.specs.declared.programs.Family.{Family}
use Rattle.kt_prog.specs.declared.runs.Operation.{Operation}
use Rattle.kt_prog.specs.declared.runs.Operation.TheVariants as O

-- an act is one that the body may do, and a forked call one that it may fork
abbrev pub IsRightful : Program → Job → Operation → Type 0
IsRightful p job (O.Load object element a) = Directly p job (record { object = object; element = element; deed = Load })
IsRightful p job (O.Store object element v) = Directly p job (record { object = object; element = element; deed = Store v })
IsRightful p job (O.Fold object element op v) = Directly p job (record { object = object; element = element; deed = Fold op v })
IsRightful p job (O.Fork call) = Forks p job (Whole call)
IsRightful p job O.End = Unit {0}
IsRightful p job (O.Fault law line) = Unit {0}

-- What is next in a body of an accepted program keeps to the rights of its call: its element is there, and a forked call fits
-- the program and is one longer in its path.
abbrev pub NextIsRightful : Type 0
NextIsRightful = (p : Program) → IsAccepted p → (job : Job) → FitsJob p job → (answers : List ℕ) (count : ℕ) (operation : Operation)
    → IsNext p job answers count operation → IsRightful p job operation

-- the program has the object, and the object the element
abbrev pub IsElement : List Family → ℕ → ℕ → Type 0
IsElement families object element = (object < objects_of families) × (element < width_of families object)

-- an act is done to an element that is there
abbrev pub IsOnElement : List Family → Operation → Type 0
IsOnElement families (O.Load object element a) = IsElement families object element
IsOnElement families (O.Store object element v) = IsElement families object element
IsOnElement families (O.Fold object element op v) = IsElement families object element
IsOnElement families (O.Fork call) = Unit {0}
IsOnElement families O.End = Unit {0}
IsOnElement families (O.Fault law line) = Unit {0}

-- what is next in a body of an accepted program is done to an element that is there
abbrev pub NextIsOnElement : Type 0
NextIsOnElement = (p : Program) → IsAccepted p → (job : Job) → FitsJob p job → (answers : List ℕ) (count : ℕ) (operation : Operation)
    → IsNext p job answers count operation → IsOnElement p.families operation
