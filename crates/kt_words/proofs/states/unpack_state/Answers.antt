use Rattle.std.proofs.Common.{sym, subst}
use Rattle.kt_words.specs.BitFields.{Unpacks}
use Rattle.kt_words.specs.Words.{IsStateWord, packed_state}
use Rattle.kt_words.proofs.StateLaws.{empty_found, task_found, no_state}
use Rattle.kt_words.proofs.states.unpack_state.Goals as goal

pub returns-then-word-eq0 : goal.returns-then-word-eq0
returns-then-word-eq0 c = empty_found _ c.if-word-eq0.true

pub returns-in_err-stand : goal.returns-in_err-stand
returns-in_err-stand c =
    subst (Unpacks IsStateWord packed_state c.args.word) (sym c.from_residual.ensures)
    (no_state _ _ _ _ c.if-word-eq0.false c.split-number.ensures.low c.split-number.ensures.high c.split-worker.ensures.low c.in_err-stand.ensures.none)

pub returns : goal.returns
returns c =
    task_found _ _ _ _ _ _ _ _ c.ranges.word.fits c.split-number.ensures.low c.split-number.ensures.high
    c.split-worker.ensures.low c.split-worker.ensures.high c.split-fork.ensures.low c.split-fork.ensures.high
    c.in_ok-stand.ensures.number c.in_ok-stand.ensures.worker c.in_ok-stand.ensures.task
