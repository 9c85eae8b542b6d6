use Rattle.std.proofs.Common.{arith}
use Rattle.kt_worker.proofs.body.run_call.Goals as goal

pub run_body-requires-clause-task : goal.run_body-requires-clause-task
run_body-requires-clause-task g c = record {
  no_loop = c.requires.plain;
  no_kernel = let small = c.if-call-gt-DEFINITIONS.false in grind arith;
}
