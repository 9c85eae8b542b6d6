use Rattle.std.proofs.Common.{rules}
use Rattle.kt_request.proofs.answering.answer_all.Goals as goal

pub returns-in-Some-Got-clause-answering : goal.returns-in-Some-Got-clause-answering
returns-in-Some-Got-clause-answering c others an = let value = c.as_slice.ensures.value in let tells = c.answer_each.ensures.answering others in search rules

pub returns-in-Some-Short-clause-answering : goal.returns-in-Some-Short-clause-answering
returns-in-Some-Short-clause-answering c others an = let tells = c.answer_each-in-Some-Short.ensures.answering others in search rules

pub returns-in-Some-Moved-clause-answering : goal.returns-in-Some-Moved-clause-answering
returns-in-Some-Moved-clause-answering c others an = let tells = c.answer_each-in-Some-Moved.ensures.answering others in search rules

pub returns-in-None-clause-answering : goal.returns-in-None-clause-answering
returns-in-None-clause-answering c others an = let tells = c.answer_each-in-None.ensures.answering others in search rules
