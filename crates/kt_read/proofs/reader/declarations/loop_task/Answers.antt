use Rattle.std.proofs.lemmas.Result.{err_from_is_err_and}
use Rattle.kt_tokens.specs.Reading.{any}
use Rattle.kt_read.specs.DeclarationParts.{LoopOf}
use Rattle.kt_read.proofs.DeclarationSteps.{index_at, loop_index_end, loop_name_end, loop_open_end, loop_semicolon_end, outset_end}
use Rattle.kt_read.proofs.Still.{answers, fails_any, here, next_any}
use Rattle.kt_read.proofs.reader.declarations.loop_task.Goals as goal

pub returns-in_err-expect : goal.returns-in_err-expect
returns-in_err-expect c =
    let p = err_from_is_err_and c.from_residual.result c.from_residual.ensures.1 in
    rw (p.1, p.2) (fails_any {N = LoopOf} _ _ (here _) c.in_err-expect.ensures (λ _. loop_name_end))

pub returns-in_err-name : goal.returns-in_err-name
returns-in_err-name c =
    let s = next_any {N = LoopOf} (here _) c.in_ok-expect.ensures in
    let p = err_from_is_err_and c.from_residual-in_err-name.result c.from_residual-in_err-name.ensures.1 in
    rw (p.1, p.2) (fails_any _ _ s c.in_err-name.ensures loop_open_end)

pub returns-in_err-expect-2 : goal.returns-in_err-expect-2
returns-in_err-expect-2 c =
    let s = next_any (next_any {N = LoopOf} (here _) c.in_ok-expect.ensures) c.in_ok-name.ensures in
    let p = err_from_is_err_and c.from_residual-in_err-expect-2.result c.from_residual-in_err-expect-2.ensures.1 in
    rw (p.1, p.2) (fails_any _ _ s c.in_err-expect-2.ensures (λ _. loop_index_end (c.in_ok-name.name, c.in_ok-name.place)))

pub returns-in_err-index : goal.returns-in_err-index
returns-in_err-index c =
    let s = next_any (next_any (next_any {N = LoopOf} (here _) c.in_ok-expect.ensures) c.in_ok-name.ensures) c.in_ok-expect-2.ensures in
    let p = err_from_is_err_and c.from_residual-in_err-index.result c.from_residual-in_err-index.ensures.1 in
    rw (p.1, p.2) (fails_any _ _ s c.in_err-index.ensures (λ index. loop_semicolon_end (c.in_ok-name.name, c.in_ok-name.place) index))

pub returns-in_err-expect-3 : goal.returns-in_err-expect-3
returns-in_err-expect-3 c =
    let s = next_any (next_any (next_any (next_any {N = LoopOf} (here _) c.in_ok-expect.ensures) c.in_ok-name.ensures) c.in_ok-expect-2.ensures) c.in_ok-index.ensures in
    let p = err_from_is_err_and c.from_residual-in_err-expect-3.result c.from_residual-in_err-expect-3.ensures.1 in
    rw (p.1, p.2) (fails_any _ _ s c.in_err-expect-3.ensures (λ _. outset_end (c.in_ok-name.name, c.in_ok-name.place) (index_at (c.in_ok-index.index, c.in_ok-index.index_place))))

pub returns : goal.returns
returns c =
    let s0 = next_any (next_any {N = LoopOf} (here _) c.in_ok-expect.ensures) c.in_ok-name.ensures in
    let s = next_any (next_any (next_any s0 c.in_ok-expect-2.ensures) c.in_ok-index.ensures) c.in_ok-expect-3.ensures in
    answers any _ _ s c.rest_of_task.ensures (λ us h. h)
