-- Statements of the laws of answers.
use Rattle.std.specs.Prelude.{◌≡◌, ℕ, List, Option}
use Rattle.kt_io.specs.Ending.{Said}
use Rattle.kt_io.specs.Laws.{EndsWithoutFaults}
use Rattle.kt_text.specs.declared.commands.Command.{Command}
use Rattle.kaapi.specs.Answers.{Answers, AnswersCommand, PlainAnswers}
use Rattle.kaapi.specs.declared.exits.Exit.{Exit}

-- what the words ask for and a job have no two answers, with workers or without
abbrev pub OneAnswer : Type 0
OneAnswer =
    (command : Option Command) (job : List ℕ) (one other : Said Exit) → AnswersCommand command job one → AnswersCommand command job other → one ≡ other

-- where neither stream failed, the answer to the words and the job was written whole, or there was no memory and nothing was written
abbrev pub AnswersWithoutFaults : Type 0
AnswersWithoutFaults = EndsWithoutFaults Exit Answers × EndsWithoutFaults Exit PlainAnswers
