-- Which numbers of workers, records and elements a seat may name.
use Rattle.std.specs.Prelude.{◌≡◌, ℕ, ◌*◌, ◌<◌, ◌≤◌, Some}
use Rattle.kt_law.specs.declared.limits.TheConstants.{WORKERS}
use Rattle.kt_prog.specs.Objects.{elements_of}
use Rattle.kt_words.specs.declared.layouts.TheConstants.{RECORDS}
use Rattle.kt_rule.specs.declared.views.Setup.{Setup}
use Rattle.kt_rule.specs.declared.views.View.{View}

-- the seat is one of the workers' of a run
pub record IsOfCrew (v : View) : Type 0 where
  pub setup : Setup
  pub told : v.setup ≡ Some setup
  pub own : v.worker < setup.workers
  pub few : setup.workers ≤ WORKERS

-- a worker of the run
pub record IsWorker (v : View) (worker : ℕ) : Type 0 where
  pub setup : Setup
  pub told : v.setup ≡ Some setup
  pub below : worker < setup.workers

-- a record in the region of one of its workers
pub record IsRecord (v : View) (at : ℕ) : Type 0 where
  pub setup : Setup
  pub told : v.setup ≡ Some setup
  pub below : at < RECORDS * setup.workers

-- an element of one of its objects
pub record IsElementOf (v : View) (element : ℕ) : Type 0 where
  pub setup : Setup
  pub told : v.setup ≡ Some setup
  pub below : element < elements_of setup.program.families
