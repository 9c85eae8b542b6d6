-- What a step does to the core that words and views show: nothing, or one event of a run, or the two of a finish.
use Rattle.std.specs.Prelude.{◌≡◌, ℕ, ◌<◌}
use Rattle.atomic_table.specs.Table.{State}
use Rattle.kt_law.specs.Acts.{Act}
use Rattle.kt_order.specs.Forest.{Unclaimed, Running, Finished}
use Rattle.kt_order.specs.Events.{MayPass}
use Rattle.kt_order.specs.Paths.{Earlier}
use Rattle.kt_prog.specs.Reference.{Placed, machine_of}
use Rattle.kt_prog.specs.declared.programs.Program.{Program}
use Rattle.kt_runs.specs.Rights.{rights_in}
use Rattle.kt_runs.specs.ByPath.{Path, child, ByPath, counts, IsTask, ActsNext, ForksNext, EndsNext, after_claim, after_act, after_end, after_fork, after_finish}
use Rattle.kt_rule.specs.declared.views.Setup.{Setup}
use Rattle.kt_rule.specs.declared.views.View.{View}
use Rattle.kt_rule.specs.Rule.{Slots}
use Rattle.kt_rule.specs.Shown.{shown}

pub data Move : Type 0 where
  -- nothing of a run happens
  Stays : Move
  -- the task at a path is claimed
  Claims : Path → Move
  -- its body does an act, or forks a call
  Acts : Path → Act → Move
  Forks : Path → Placed → Move
  -- its body does its end or a fault, and the task is finished
  Finishes : Path → Move

module _ (p : Program) where
  abbrev pub after_move : Move → ByPath p → ByPath p
  after_move Stays x = x
  after_move (Claims q) x = after_claim p q x
  after_move (Acts q a) x = after_act p a q x
  after_move (Forks q c) x = after_fork p c q x
  after_move (Finishes q) x = after_finish p q (after_end p q x)

  -- the event is enabled; a claim is, in order or ready, where each earlier child of the parent is finished or does not clash
  abbrev pub CanMove : Move → ByPath p → Type 0
  CanMove Stays x = Unit {0}
  CanMove (Claims q) x =
      IsTask p x q × ((x.get q).phase ≡ Unclaimed) × Earlier (machine_of p) (MayPass (machine_of p) (rights_in p)) q x.get
  CanMove (Acts q a) x = IsTask p x q × ((x.get q).phase ≡ Running) × ActsNext p a (x.get q)
  CanMove (Forks q c) x = IsTask p x q × ((x.get q).phase ≡ Running) × ForksNext p c (x.get q)
  CanMove (Finishes q) x = IsTask p x q × ((x.get q).phase ≡ Running) × EndsNext p (x.get q)
      × ((k : ℕ) → k < counts p x q → (x.get (child q k)).phase ≡ Finished)

-- the shown core goes from the one state to the other by the move, which is enabled there
pub record MovesBy (j : Setup) (m : Move) (s s' : State Slots View) : Type 0 where
  pub enabled : CanMove j.program m (shown j s)
  pub after : shown j s' ≡ after_move j.program m (shown j s)
