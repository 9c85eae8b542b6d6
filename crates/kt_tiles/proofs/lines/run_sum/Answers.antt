use Rattle.std.proofs.lemmas.Result.{err_from_is_err_and}
use Rattle.kt_body.specs.declared.ops.Got.TheVariants as got
use Rattle.kt_body.proofs.Steps.{can_load, ran_load, still_can, still_err, still_here, still_next}
use Rattle.kt_tiles.proofs.lines.run_sum.Goals as goal

pub load-requires : goal.load-requires
load-requires g c = can_load _ _ _ _ (still_can _ _ _ (still_here _ c.requires.can))

pub returns-in-Halt : goal.returns-in-Halt
returns-in-Halt g c = still_err _ _ _ (still_here _ c.requires.can) (ran_load _ _ _ _ _ _ _ got.Halt c.in-Halt.ensures)

pub load_row-requires-clause-can : goal.load_row-requires-clause-can
load_row-requires-clause-can g c =
    let s1 = still_next _ _ _ (still_here _ c.requires.can) (ran_load _ _ _ _ _ _ _ (got.Value _) c.in-Value.ensures) in
    rw c.requires.shape (still_can _ _ _ s1)

pub returns-in_err-load_row : goal.returns-in_err-load_row
returns-in_err-load_row g c =
    let s1 = still_next _ _ _ (still_here _ c.requires.can) (ran_load _ _ _ _ _ _ _ (got.Value _) c.in-Value.ensures) in
    let p = err_from_is_err_and c.from_residual.result c.from_residual.ensures.1 in
    let ran = rw c.requires.shape at c.in_err-load_row.ensures.ran in
    rw (p.1, p.2) (still_err _ _ _ s1 ran)

pub write_row-requires-clause-can : goal.write_row-requires-clause-can
write_row-requires-clause-can g c =
    let s1 = still_next _ _ _ (still_here _ c.requires.can) (ran_load _ _ _ _ _ _ _ (got.Value _) c.in-Value.ensures) in
    let s2 = still_next _ _ _ s1 (rw c.requires.shape at c.in_ok-load_row.ensures.ran) in
    rw c.scan.ensures s2.can

pub returns : goal.returns
returns g c =
    let s1 = still_next _ _ _ (still_here _ c.requires.can) (ran_load _ _ _ _ _ _ _ (got.Value _) c.in-Value.ensures) in
    let s2 = still_next _ _ _ s1 (rw c.requires.shape at c.in_ok-load_row.ensures.ran) in
    s2.ends _ _ (rw c.scan.ensures at c.write_row.ensures)
