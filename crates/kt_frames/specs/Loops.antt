-- What is left of a run where a loop of it runs.
use Rattle.std.specs.Prelude.{◌≡◌, ◌≤◌, ℕ, zero, suc, ◌-◌, true, List, [], ◌∷◌, length, Option}
use Rattle.kt_order.specs.Sequential.{Run, joined}
use Rattle.kt_prog.specs.Calls.{CallTree, Index}
use Rattle.kt_prog.specs.Fits.{Fits}
use Rattle.kt_prog.specs.Operations.{is_loop_at}
use Rattle.kt_prog.specs.Reference.{Placed, machine_of}
use Rattle.kt_prog.specs.Runs.{FaultRun}
use Rattle.kt_prog.specs.declared.programs.Program.{Program}
use Rattle.kt_prog.specs.declared.runs.Ran.{Ran}
use Rattle.kt_frames.specs.Rest.{IsLive, answered_from, rest_of, run_all, waiting}
use Rattle.kt_frames.specs.Stack.{Stack, path_over}
use Rattle.kt_frames.specs.declared.owner.Owner.{Owner}

-- n indexes of the loop at this path, from this one on
abbrev pub placed_indexes : List ℕ → CallTree → ℕ → ℕ → List Placed
placed_indexes path call i zero = []
placed_indexes path call i (suc n) = record { path = path; job = Index call i } ∷ placed_indexes path call (suc i) n

-- the loop was claimed last and counted with all its indexes, its zeroing is done, and it has forked nothing
pub record IsLooping (p : Program) (o : Owner) (call : CallTree) : Type 0 where
  pub live : IsLive p o
  pub fits : Fits p call
  pub loops : is_loop_at p call.task ≡ true
  pub depth : length o.frames.below ≡ suc call.depth
  pub counted : call.length ≤ o.indexes

module _ (p : Program) where
  -- the indexes from this one on, and then what the frames have
  abbrev pub rest_in : Stack → CallTree → ℕ → List ℕ → Run (machine_of p)
  rest_in st call i s =
      let x = run_all p (placed_indexes (path_over st.below) call i (call.length - i)) s in
      joined (machine_of p) x (rest_of p st x.store)

  -- what the run comes to where the indexes before this one are done
  abbrev pub left_in : Owner → CallTree → ℕ → Option FaultRun → Ran
  left_in o call i least =
      answered_from p least (o.frames.tasks - waiting o.frames) (o.indexes - (call.length - i)) (rest_in o.frames call i o.store.elements)
