use Rattle.kt_runs.specs.ByPath.{levels, counts}
use Rattle.kt_runs.proofs.PathsListed.{paths_once, there_in, in_there}
use Rattle.kt_runs.proofs.paths.tasks_are_listed.Goals as goal

pub returns : goal.returns
returns c = λ p x. (paths_once levels (counts p x), λ q. (there_in levels (counts p x) q, in_there levels (counts p x) q))
