use Rattle.kt_gen_runs.proofs.Limits.{jobs_complete}
use Rattle.kt_gen_runs.proofs.laws.generated_jobs_complete.Goals as goal

pub returns : goal.returns
returns c = jobs_complete
