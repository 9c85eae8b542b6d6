use Rattle.std.proofs.Common.{ap}
use Rattle.kt_words.specs.declared.heads.HeadWord.{HeadWord}
use Rattle.kt_tasks.proofs.hands.number_of.Goals as goal

pub returns-clause-number : goal.returns-clause-number
returns-clause-number c = λ m held. ap (λ (z : HeadWord). z.number) (c.head.ensures.head m held)
