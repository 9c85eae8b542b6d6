-- The reference run: main with all that it forks, one body after another, on a plain store.
use Rattle.std.specs.Prelude.{ℕ, suc, ◌-◌, ◌*◌, List, [], ◌∷◌, ◌++◌, take, drop, replicate, if◌then◌else◌}
use Rattle.kt_law.specs.Acts.{Act}
use Rattle.kt_law.specs.declared.limits.TheConstants.{DEPTH}
use Rattle.kt_rights.specs.Acts.{is_load}
use Rattle.kt_order.specs.Body.{Body, Stop, Do, Fork}
use Rattle.kt_order.specs.Machine.{Machine}
use Rattle.kt_order.specs.Sequential.{Run, whole}
use Rattle.kt_prog.specs.Calls.{main_call, Job, Whole, Index}
use Rattle.kt_prog.specs.Script.{Fault, Script}
use Rattle.kt_prog.specs.Bodies.{script_of}
use Rattle.kt_prog.specs.Store.{after, answer}
use Rattle.kt_prog.specs.declared.programs.Program.{Program}
use Rattle.kt_prog.specs.declared.programs.Family.{Family}

-- a body and the path of its task
pub record Placed : Type 0 where
  pub path : List ℕ
  pub job : Job

-- the k-th forked call, counted from 1, has the path with k appended; an index has the path of its loop
abbrev pub placed_fork : List ℕ → ℕ → Job → Placed
placed_fork path k (Whole call) = record { path = path ++ k ∷ []; job = Whole call }
placed_fork path k (Index call i) = record { path = path; job = Index call i }

-- a body whose forks have their paths; the next one is its k-th
abbrev pub placed : List ℕ → ℕ → Script → Body Fault ℕ Act Placed
placed path k (Stop f) = Stop f
placed path k (Do act next) = Do act (λ a. placed path k (next a))
placed path k (Fork job next) = Fork (placed_fork path k job) (placed path (suc k) next)

-- how much longer a path may grow, where an index counts as a fork
abbrev pub height_of : Job → ℕ
height_of (Whole call) = suc (DEPTH - call.depth)
height_of (Index call i) = DEPTH - call.depth

abbrev pub machine_of : Program → Machine
machine_of p = record {
  Store = List ℕ;
  Act = Act;
  Answer = ℕ;
  Call = Placed;
  Fault = Fault;
  after = after p.families;
  answer = answer p.families;
  asks = λ act. is_load act.deed;
  none = 0;
  tree = λ c. placed c.path 1 (script_of p c.job);
  height = λ c. height_of c.job;
}

-- the input in the elements of the input families, in order, and 0 in all others
abbrev pub opened_with : List Family → List ℕ → List ℕ
opened_with [] input = []
opened_with (f ∷ families) input =
    let n = f.members * f.elements in
    if f.input then take n input ++ opened_with families (drop n input) else replicate n 0 ++ opened_with families input

abbrev pub main_placed : Placed
main_placed = record { path = []; job = Whole main_call }

unfoldable pub reference : (p : Program) → List ℕ → Run (machine_of p)
reference p input = whole (machine_of p) main_placed (opened_with p.families input)
