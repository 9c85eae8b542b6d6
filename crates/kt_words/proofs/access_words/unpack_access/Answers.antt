use Rattle.std.proofs.Common.{sym, subst}
use Rattle.kt_words.specs.BitFields.{Unpacks}
use Rattle.kt_words.specs.Words.{IsAccess, packed_access}
use Rattle.kt_words.proofs.AccessLaws.{access_found, no_access, no_mode}
use Rattle.kt_words.proofs.access_words.unpack_access.Goals as goal

pub returns-then-hi-lo : goal.returns-then-hi-lo
returns-then-hi-lo c = no_access _ _ _ _ c.split-lo.ensures.low c.split-lo.ensures.high c.split-hi.ensures.low c.if-hi-lo.true

pub returns-in_err-mode : goal.returns-in_err-mode
returns-in_err-mode c =
    subst (Unpacks IsAccess packed_access c.args.word) (sym c.from_residual.ensures)
    (no_mode _ _ _ _ _ c.split-lo.ensures.high c.split-hi.ensures.high c.split-number.ensures.low c.split-number.ensures.high
    c.in_err-mode.ensures.none)

pub returns : goal.returns
returns c =
    access_found _ _ _ _ _ _ _ _ c.ranges.word.fits c.split-lo.ensures.low c.split-lo.ensures.high
    c.split-hi.ensures.low c.split-hi.ensures.high c.split-number.ensures.low c.split-number.ensures.high
    c.if-hi-lo.false c.in_ok-mode.ensures.found
