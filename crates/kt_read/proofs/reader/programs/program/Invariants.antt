use Rattle.kt_tokens.specs.Reading.{any}
use Rattle.kt_read.specs.ProgramParts.{ProgramLeft}
use Rattle.kt_read.specs.Programs.{ReadsProgram}
use Rattle.kt_read.proofs.Shrinking.{left}
use Rattle.kt_read.proofs.Still.{Still}
use Rattle.kt_read.proofs.reader.programs.program.Given as goal

abbrev pub invariant-each : goal.invariant-each
invariant-each l = Still ReadsProgram any l.fn.source l.source (ProgramLeft l.gathered)

abbrev pub decreases-each : goal.decreases-each
decreases-each l = left l.source
