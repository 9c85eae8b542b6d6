use Rattle.std.proofs.Common.{Bool, cond, List, [], sym, subst}
use Rattle.kt_ready.specs.Verdicts.{Entry}
use Rattle.kt_ready.specs.Contents.{HasFrame}
use Rattle.kt_request.proofs.Words.{first_fork, later_fork}
use Rattle.kt_request.proofs.records.begin_at.Goals as goal

pub returns-then-state-le1-clause-frame : goal.returns-then-state-le1-clause-frame
returns-then-state-le1-clause-frame c frame has = subst (λ (b : Bool). HasFrame c.begin.new.self (cond {A = List Entry} b [] frame))
    (sym (first_fork c.args.state c.requires.fits c.if-state-le1.true)) c.begin.ensures.frame

pub returns-else-state-le1-clause-frame : goal.returns-else-state-le1-clause-frame
returns-else-state-le1-clause-frame c frame has = subst (λ (b : Bool). HasFrame c.args.scan.now (cond {A = List Entry} b [] frame))
    (sym (later_fork c.args.state c.requires.fits c.if-state-le1.false)) has
