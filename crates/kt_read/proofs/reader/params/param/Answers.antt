use Rattle.std.proofs.Common.{sym, ◌∙◌}
use Rattle.kt_tokens.specs.Reading.{any}
use Rattle.kt_read.specs.DeclarationParts.{not_square}
use Rattle.kt_read.proofs.ParamSteps.{direct_here, int_here, postponed_here}
use Rattle.kt_read.proofs.Still.{answers, any_follows}
use Rattle.kt_read.proofs.reader.params.param.Goals as goal

pub returns-then-is_word : goal.returns-then-is_word
returns-then-is_word c = answers any _ _ (int_here _ (c.is_word.ensures.0 c.if-is_word.true)) c.int_param.ensures (λ us h. any_follows us)

pub returns-then-begins_direct : goal.returns-then-begins_direct
returns-then-begins_direct c = answers any _ _ (direct_here _ (sym c.begins_direct.ensures ∙ c.if-begins_direct.true)) c.direct_param.ensures (λ us h. any_follows us)

pub returns : goal.returns
returns c =
    answers not_square _ _ (postponed_here _ (λ e. cc (c.is_word.ensures.1 e, c.if-is_word.false)) (sym c.begins_direct.ensures ∙ c.if-begins_direct.false)) c.postponed_param.ensures (λ us h. h)
