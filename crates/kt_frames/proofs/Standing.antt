-- What is next in a body of an accepted program is done to an element that the owner's store has.
use Rattle.std.proofs.Common.{ℕ, List, sym, subst}
use Rattle.kt_prog.specs.Accepted.{IsAccepted}
use Rattle.kt_prog.specs.Calls.{Job}
use Rattle.kt_prog.specs.Fits.{FitsJob}
use Rattle.kt_prog.specs.Operations.{IsNext}
use Rattle.kt_prog.specs.declared.programs.Program.{Program}
use Rattle.kt_prog.specs.declared.runs.Operation.{Operation}
use Rattle.kt_prog.specs.Next.{IsOnElement}
use Rattle.kt_prog.proofs.OnElements.{next_is_on_element}
use Rattle.kt_frames.specs.Owned.{Stands}
use Rattle.kt_frames.specs.declared.owner.Owner.{Owner}

pub next_there : (owner : Owner) (p : Program) → Stands owner p → IsAccepted p → (job : Job) → FitsJob p job → (answers : List ℕ) (count : ℕ)
    (op : Operation) → IsNext p job answers count op → IsOnElement owner.store.program.families op
next_there owner p stands ok job fits answers count op next =
    subst (λ (q : Program). IsOnElement q.families op) (sym stands.program) (next_is_on_element p ok job fits answers count op next)
