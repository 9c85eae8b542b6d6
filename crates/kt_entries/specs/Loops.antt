-- The zeroing of a loop's call, its operations, and what its body is left with behind them.
use Rattle.std.specs.Prelude.{◌≡◌, ℕ, List, [], length, true, false, Some, None}
use Rattle.kt_order.specs.Forest.{Task}
use Rattle.kt_order.specs.Loops.{forks_then}
use Rattle.kt_order.specs.Machine.{Code}
use Rattle.kt_order.specs.Rest.{standing}
use Rattle.kt_order.specs.Stand.{Standing}
use Rattle.kt_prog.specs.Calls.{CallTree, Whole}
use Rattle.kt_prog.specs.Operations.{is_loop_at, operations, zeroing}
use Rattle.kt_prog.specs.Reference.{machine_of}
use Rattle.kt_prog.specs.declared.programs.Program.{Program}
use Rattle.kt_runs.specs.Loops.{index_calls}

module _ (p : Program) (path : List ℕ) (call : CallTree) where
  -- nothing but the forks of the indexes, in order, and the plain end
  abbrev pub indexes_alone : Code (machine_of p)
  indexes_alone = forks_then (machine_of p) (index_calls path call 0 call.length) None

  abbrev pub IsOfCall : Task (machine_of p) → Type 0
  IsOfCall u = u.call ≡ record { path = path; job = Whole call }

  -- the task has done as many operations as the zeroing has, and none of them answered
  pub record HasDoneZeroing (u : Task (machine_of p)) : Type 0 where
    pub silent : u.answers ≡ []
    pub zeroed : u.done ≡ length (zeroing p call)

  -- The operations of the call are its zeroing. A task that has done them has forked nothing and is left with the indexes alone;
  -- and one that is left with these, and has not done its end, has done the zeroing and no more.
  pub record ZeroesAndForks : Type 0 where
    pub zeroes : (answers : List ℕ) → operations p (Whole call) answers ≡ zeroing p call
    pub behind : (u : Task (machine_of p)) → IsOfCall u → HasDoneZeroing u
        → standing (machine_of p) u ≡ Some (record { left = indexes_alone; forks = []; over = false })
    pub only : (u : Task (machine_of p)) (st : Standing (machine_of p)) → IsOfCall u → standing (machine_of p) u ≡ Some st
        → st.over ≡ false → st.left ≡ indexes_alone → HasDoneZeroing u

-- so it is for the call of each loop
abbrev pub LoopsZeroAndFork : Type 0
LoopsZeroAndFork = (p : Program) (path : List ℕ) (call : CallTree) → is_loop_at p call.task ≡ true → ZeroesAndForks p path call
