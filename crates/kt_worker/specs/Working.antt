-- A worker before its first step.
use Rattle.std.specs.Prelude.{◌≡◌, ◌≢◌, ◌≤◌, ◌<◌, true, false, [], ◌∷◌, Some}
use Rattle.kt_law.specs.declared.limits.TheConstants.{WORKERS}
use Rattle.kt_prog.specs.declared.programs.Program.{Program}
use Rattle.kt_rule.specs.declared.views.Setup.{Setup}
use Rattle.kt_rule.specs.declared.views.View.{View}
use Rattle.kt_rule.specs.Views.{main_spot, no_tasks, no_draws, no_loops}

-- a seat of a run of this program that has made no step: main lies in the first region, all others are empty
pub record IsFresh (v : View) (p : Program) : Type 0 where
  pub setup : Setup
  pub told : v.setup ≡ Some setup
  pub program : setup.program ≡ p
  pub own : v.worker < setup.workers
  pub workers : setup.workers ≤ WORKERS
  pub main : v.worker ≡ 0 → v.region.spots ≡ main_spot ∷ []
  pub others : v.worker ≢ 0 → v.region.spots ≡ []
  pub built : v.region.built ≡ []
  pub tasks : v.tasks ≡ no_tasks
  pub draws : v.draws ≡ no_draws
  pub free : v.desk.free ≡ true
  pub leads : v.desk.leads ≡ false
  pub loops : v.loops ≡ no_loops
