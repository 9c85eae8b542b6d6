use Rattle.kt_read.proofs.OneProgram.{program_is}
use Rattle.kt_read.proofs.laws.one_program.Goals as goal

pub returns : goal.returns
returns c = λ p q toks r s. (program_is r s).0
