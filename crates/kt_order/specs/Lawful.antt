-- Lawful states.
use Rattle.std.specs.Prelude.{◌≡◌, true, false, [], ◌∷◌, Some, ◌⊎◌}
use Rattle.kt_order.specs.Machine.{Machine}
use Rattle.kt_order.specs.Sequential.{whole}
use Rattle.kt_order.specs.Stand.{Standing}
use Rattle.kt_order.specs.Laws.{Rights}
use Rattle.kt_order.specs.Forest.{Phase, Unclaimed, Running, Ended, Finished, Task, Forest, Nil, Node, AllTasks, calls}
use Rattle.kt_order.specs.Rest.{standing, rest}
use Rattle.kt_order.specs.Events.{State, AllFinished, MayPass}

module _ (m : Machine) where
  -- what a phase says of where the body stands and of the children
  abbrev pub PhaseOk : Phase → Task m → Standing m → Forest m → Type 0
  PhaseOk Unclaimed u st kids = u.done ≡ 0
  PhaseOk Running u st kids = st.over ≡ false
  PhaseOk Ended u st kids = st.over ≡ true
  PhaseOk Finished u st kids = (st.over ≡ true) × AllFinished m kids

  module _ (r : Rights m) where
    -- v is beside the earlier task u rightly: it is unclaimed, or might be claimed now
    abbrev pub Beside : Task m → Task m → Type 0
    Beside u v = (v.phase ≡ Unclaimed) ⊎ MayPass m r u v

    pub record TaskOk (u : Task m) (kids : Forest m) : Type 0 where
      pub fits : r.Fits u.call
      -- its answers are just those of the operations that it has done
      pub st : Standing m
      pub stands : standing m u ≡ Some st
      -- its children are the calls that it has forked, in order
      pub forked : calls m kids ≡ st.forks
      pub phase : PhaseOk u.phase u st kids

    -- each task has its law, and those of one frame stand beside each other rightly
    abbrev pub Shape : Forest m → Type 0
    Shape Nil = Unit {0}
    Shape (Node u kids later) = TaskOk u kids × AllTasks m (Beside u) later × Shape kids × Shape later

    -- the state is one of a run of the root from the store s
    pub record Lawful (root : m.Call) (s : m.Store) (x : State m) : Type 0 where
      pub alone : calls m x.forest ≡ root ∷ []
      pub shape : Shape x.forest
      -- to do what is left gives the sequential run
      pub rest : rest m x.forest x.store ≡ whole m root s
