use Rattle.kt_calls_bench.proofs.Requests.{fresh}
use Rattle.kt_calls_bench.proofs.scenes.wait_at.Goals as goal

pub begin-timed-requires-clause-fresh : goal.begin-timed-requires-clause-fresh
begin-timed-requires-clause-fresh g c = fresh _ _ _ c.requires.first
