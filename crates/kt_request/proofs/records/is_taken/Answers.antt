use Rattle.kt_request.proofs.Words.{taken_first, taken_next, taken_other}
use Rattle.kt_request.proofs.records.is_taken.Goals as goal

pub returns-then-state-le1 : goal.returns-then-state-le1
returns-then-state-le1 c = let f = c.requires.fits in taken_first c.args.last c.args.state f.0 f.1 c.if-state-le1.true

pub returns-then-last-state : goal.returns-then-last-state
returns-then-last-state c = let f = c.requires.fits in
    taken_next c.args.last c.args.state f.0 f.1 c.if-state-le1.false c.if-last-state.true

pub returns-else-last-state : goal.returns-else-last-state
returns-else-last-state c = let f = c.requires.fits in
    taken_other c.args.last c.args.state f.0 f.1 c.if-state-le1.false c.if-last-state.false
