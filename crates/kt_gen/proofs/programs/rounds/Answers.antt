use Rattle.std.proofs.Common.{arith}
use Rattle.kt_gen.proofs.Rounds.{three_rounds, four_rounds}
use Rattle.kt_gen.proofs.programs.rounds.Goals as goal

pub returns-in-2-to-4 : goal.returns-in-2-to-4
returns-in-2-to-4 c = three_rounds c.args.size (omega arith) (omega arith)

pub returns-in_default-2 : goal.returns-in_default-2
returns-in_default-2 c = four_rounds c.args.size (omega arith) (omega arith)
