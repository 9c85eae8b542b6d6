use Rattle.std.proofs.lemmas.Result.{err_from_is_err_and}
use Rattle.kt_body.proofs.Steps.{still_can, still_err, still_here, still_next}
use Rattle.kt_tiles.proofs.products.run_fitting.Goals as goal

pub load_row-requires-clause-can : goal.load_row-requires-clause-can
load_row-requires-clause-can g c =
    rw c.requires.a_shape (still_can _ _ _ (still_here _ c.requires.can))

pub returns-in_err-load_row : goal.returns-in_err-load_row
returns-in_err-load_row g c =
    let p = err_from_is_err_and c.from_residual.result c.from_residual.ensures.1 in
    let ran = rw c.requires.a_shape at c.in_err-load_row.ensures.ran in
    rw (p.1, p.2) (still_err _ _ _ (still_here _ c.requires.can) ran)

pub load_row-requires-2-clause-can : goal.load_row-requires-2-clause-can
load_row-requires-2-clause-can g c =
    let s1 = still_next _ _ _ (still_here _ c.requires.can) (rw c.requires.a_shape at c.in_ok-load_row.ensures.ran) in
    rw c.requires.b_shape (still_can _ _ _ s1)

pub returns-in_err-load_row-2 : goal.returns-in_err-load_row-2
returns-in_err-load_row-2 g c =
    let s1 = still_next _ _ _ (still_here _ c.requires.can) (rw c.requires.a_shape at c.in_ok-load_row.ensures.ran) in
    let p = err_from_is_err_and c.from_residual-in_err-load_row-2.result c.from_residual-in_err-load_row-2.ensures.1 in
    let ran = rw c.requires.b_shape at c.in_err-load_row-2.ensures.ran in
    rw (p.1, p.2) (still_err _ _ _ s1 ran)

pub write_row-requires-clause-can : goal.write_row-requires-clause-can
write_row-requires-clause-can g c =
    let s1 = still_next _ _ _ (still_here _ c.requires.can) (rw c.requires.a_shape at c.in_ok-load_row.ensures.ran) in
    let s2 = still_next _ _ _ s1 (rw c.requires.b_shape at c.in_ok-load_row-2.ensures.ran) in
    rw (c.fold_of.ensures, c.multiply.ensures.product) s2.can

pub returns : goal.returns
returns g c =
    let s1 = still_next _ _ _ (still_here _ c.requires.can) (rw c.requires.a_shape at c.in_ok-load_row.ensures.ran) in
    let s2 = still_next _ _ _ s1 (rw c.requires.b_shape at c.in_ok-load_row-2.ensures.ran) in
    s2.ends _ _ (rw (c.fold_of.ensures, c.multiply.ensures.product) at c.write_row.ensures)
