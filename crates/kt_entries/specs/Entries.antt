-- What a body did stands in two lists: in that of the theory, as the acts, the forks and the end of its tree, and in that of the
-- language, as its operations. Here the first is read as the second.
use Rattle.std.specs.Prelude.{◌≡◌, ℕ, List, [], ◌∷◌, Some, None}
use Rattle.std.specs.List.{flat_map}
use Rattle.kt_law.specs.Acts.{Deed, Load, Store, Fold}
use Rattle.kt_order.specs.Lists.{AllOf}
use Rattle.kt_order.specs.Trace as T
use Rattle.kt_order.specs.Trace.{Acted, Forked, Ended, trace}
use Rattle.kt_prog.specs.Accepted.{IsAccepted}
use Rattle.kt_prog.specs.Calls.{Job, Whole, Index}
use Rattle.kt_prog.specs.Fits.{FitsJob}
use Rattle.kt_prog.specs.Operations.{end_of, operations}
use Rattle.kt_prog.specs.Reference.{Placed, machine_of, reference}
use Rattle.kt_prog.specs.declared.programs.Program.{Program}
use Rattle.kt_prog.specs.declared.runs.Operation.{Operation}
use Rattle.kt_prog.specs.declared.runs.Operation.TheVariants as O

-- an act on an element, with its answer if it is a load
abbrev pub act_as : ℕ → ℕ → Deed → ℕ → Operation
act_as object element Load a = O.Load object element a
act_as object element (Store v) a = O.Store object element v
act_as object element (Fold op v) a = O.Fold object element op v

-- the fork of a call; that of an index is no operation of its loop
abbrev pub fork_as : Job → List Operation
fork_as (Whole call) = O.Fork call ∷ []
fork_as (Index call i) = []

module _ (p : Program) where
  -- what the theory's operation is among those of the body
  abbrev pub read_as : Job → T.Operation (machine_of p) → List Operation
  read_as job (Acted act a) = act_as act.object act.element act.deed a ∷ []
  read_as job (Forked child) = fork_as child.job
  read_as job (Ended None) = end_of p job
  read_as job (Ended (Some f)) = O.Fault f.law f.line ∷ []

  -- the operations of the body with these answers are what it does in its tree
  abbrev pub HasOneList : Placed → List ℕ → Type 0
  HasOneList body answers =
      operations p body.job answers ≡ flat_map (read_as body.job) (trace (machine_of p) ((machine_of p).tree body) answers)

-- so it is for each body that there may be
abbrev pub BodiesHaveOneList : Type 0
BodiesHaveOneList = (p : Program) → IsAccepted p → (body : Placed) → FitsJob p body.job → (answers : List ℕ) → HasOneList p body answers

-- and for each body that the reference run has done, with what its loads found
abbrev pub EntriesHaveOneList : Type 0
EntriesHaveOneList = (p : Program) → IsAccepted p → (input : List ℕ) → AllOf (λ e. HasOneList p e.call e.answers) (reference p input).entries
