-- What is next in a body is done to an element that is there.
use Rattle.std.proofs.Common.{◌≡◌, ◌<◌, ◌≤◌, ℕ, ◌+◌, ◌-◌, Bool, true, false, nat_lt, if◌then◌else◌, List, [], ◌∷◌, refl, arith}
use Rattle.std.proofs.lemmas.Bool.Decides.{nat_tests}
use Rattle.kt_law.specs.Acts.{Act, Load, Store, Fold}
use Rattle.kt_prog.specs.Calls.{Job, Whole, Index}
use Rattle.kt_prog.specs.Objects.{objects_of, width_of}
use Rattle.kt_prog.specs.Rights.{Directly}
use Rattle.kt_prog.specs.declared.programs.Program.{Program}
use Rattle.kt_prog.specs.declared.programs.Family.{Family}
use Rattle.kt_prog.specs.declared.runs.Operation.{Operation}
use Rattle.kt_prog.specs.declared.runs.Operation.TheVariants as O
use Rattle.kt_prog.specs.Next.{IsElement, IsOnElement, IsRightful, NextIsOnElement}
use Rattle.kt_prog.proofs.Rightful.{next_is_rightful}

-- an object that has an element is there
object_below : (families : List Family) (object element : ℕ) → element < width_of families object → object < objects_of families
object_below [] object element lt = absurd (omega arith)
object_below (f ∷ families) object element lt = chosen (nat_lt object f.members) refl lt (λ h. object_below families (object - f.members) element h)
  where
    chosen : (b : Bool) → nat_lt object f.members ≡ b → element < (if b then f.elements else width_of families (object - f.members))
        → (element < width_of families (object - f.members) → object - f.members < objects_of families)
        → object < f.members + objects_of families
    chosen true is h more = let less : object < f.members = grind (arith, nat_tests) in omega arith
    chosen false is h more =
        let past : f.members ≤ object = grind (arith, nat_tests) in
        let rest = more h in
        omega arith

pub directly_there : (p : Program) (job : Job) (act : Act) → Directly p job act → IsElement p.families act.object act.element
directly_there p (Whole call) act d = (object_below p.families act.object act.element d.0, d.0)
directly_there p (Index call i) act d = (object_below p.families act.object act.element d.0, d.0)

rightful_there : (p : Program) (job : Job) (operation : Operation) → IsRightful p job operation → IsOnElement p.families operation
rightful_there p job (O.Load object element a) d = directly_there p job (record { object = object; element = element; deed = Load }) d
rightful_there p job (O.Store object element v) d = directly_there p job (record { object = object; element = element; deed = Store v }) d
rightful_there p job (O.Fold object element op v) d = directly_there p job (record { object = object; element = element; deed = Fold op v }) d
rightful_there p job (O.Fork call) d = tt
rightful_there p job O.End d = tt
rightful_there p job (O.Fault law line) d = tt

pub next_is_on_element : NextIsOnElement
next_is_on_element p ok job fits answers count operation next =
    rightful_there p job operation (next_is_rightful p ok job fits answers count operation next)
