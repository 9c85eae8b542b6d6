use Rattle.std.specs.Prelude.{◌≡◌}
use Rattle.kt_calls_bench.specs.Asking.{MayAsk}
use Rattle.kt_calls_bench.proofs.asking.ask_often.Given as goal

abbrev pub invariant-loop-failed : goal.invariant-loop-failed
invariant-loop-failed g l = MayAsk (g.R.Run.view l.run) l.scan
