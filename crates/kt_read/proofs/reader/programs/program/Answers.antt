use Rattle.std.proofs.lemmas.Result.{err_from_is_err_and}
use Rattle.kt_read.specs.ProgramParts.{added}
use Rattle.kt_read.proofs.DeclarationSteps.{no_declaration}
use Rattle.kt_read.proofs.ProgramSteps.{end_here, finished, further_here, program_completes, program_here}
use Rattle.kt_read.proofs.Shrinking.{reads_falls}
use Rattle.kt_read.proofs.Completing.{done_completes}
use Rattle.kt_read.proofs.Still.{done, fails_any, next_any}
use Rattle.kt_read.proofs.reader.programs.program.Goals as goal

pub each-init : goal.each-init
each-init c = rw c.new-gathered.ensures (program_here _)

pub returns-in_err-next : goal.returns-in_err-next
returns-in_err-next c =
    let s = further_here c.each.invariant (λ e. cc (c.is.ensures.1 e, c.each-test.true)) in
    let p = err_from_is_err_and c.from_residual.result c.from_residual.ensures.1 in
    rw (p.1, p.2) (fails_any _ _ s c.in_err-next.ensures (λ d. program_completes (added c.each.gathered d)))

pub each-preserved : goal.each-preserved
each-preserved c =
    let s = further_here c.each.invariant (λ e. cc (c.is.ensures.1 e, c.each-test.true)) in
    rw c.in_ok-add.ensures (next_any s c.in_ok-next.ensures)

pub each-smaller : goal.each-smaller
each-smaller c = reads_falls c.in_ok-next.ensures no_declaration

pub returns-in_err-end : goal.returns-in_err-end
returns-in_err-end c =
    let s = end_here c.each.invariant (c.is.ensures.0 c.each-test.false) in
    let p = err_from_is_err_and c.from_residual-in_err-end.result c.from_residual-in_err-end.ensures.1 in
    rw (p.1, p.2) (fails_any _ _ s c.in_err-end.ensures (λ place. done_completes (finished c.each.gathered place)))

pub returns : goal.returns
returns c = done (next_any (end_here c.each.invariant (c.is.ensures.0 c.each-test.false)) c.in_ok-end.ensures)
