-- Statements of the laws of accepted programs.
use Rattle.std.specs.Prelude.{◌≡◌, ◌≤◌, ℕ, false}
use Rattle.kt_law.specs.Modes.{is_postponed}
use Rattle.kt_law.specs.declared.accesses.Access.{Access}
use Rattle.kt_law.specs.declared.limits.TheConstants.{ELEMENTS, OBJECTS}
use Rattle.kt_order.specs.Body.{Keeps}
use Rattle.kt_rights.specs.Rights.{EachOf}
use Rattle.kt_prog.specs.Calls.{CallTree, Job, Index}
use Rattle.kt_prog.specs.Script.{Script}
use Rattle.kt_prog.specs.Objects.{objects_of, elements_of}
use Rattle.kt_prog.specs.Bodies.{script_with}
use Rattle.kt_prog.specs.Accepted.{IsAccepted}
use Rattle.kt_prog.specs.Fits.{FitsJob}
use Rattle.kt_prog.specs.Rights.{Directly, Forks}
use Rattle.kt_prog.specs.declared.programs.Program.{Program}

-- Whatever is done where a rule was broken, the bodies of an accepted program keep to the rights of their calls. So nowhere in
-- them is a rule broken, since what is done there may be something that no right allows.
abbrev pub BodiesKeep : Type 0
BodiesKeep = (lost : Script → Script) (p : Program) → IsAccepted p → (job : Job) → FitsJob p job
    → Keeps (Directly p job) (Forks p job) (script_with lost p job)

-- an accepted program has no more objects and elements than the limits allow
abbrev pub FewObjects : Type 0
FewObjects = (p : Program) → IsAccepted p → (objects_of p.families ≤ OBJECTS) × (elements_of p.families ≤ ELEMENTS)

abbrev pub IsDirect : Access → Type 0
IsDirect a = is_postponed a.mode ≡ false

-- the accesses of a loop that has an index are direct
abbrev pub LoopsAreDirect : Type 0
LoopsAreDirect = (p : Program) → IsAccepted p → (call : CallTree) (index : ℕ) → FitsJob p (Index call index) → EachOf IsDirect call.accesses
