use Rattle.std.proofs.Common.{rules}
use Rattle.std.proofs.lemmas.Result.{err_from_is_err_and}
use Rattle.kt_body.proofs.Steps.{ran_give, ran_same, still_can, still_err, still_here, still_is, still_next, still_to}
use Rattle.kt_body.proofs.Stmts.{at_what, block_more, block_none, either_none, either_some, gives_err, ran_keeps, stmt_is, turns_more, turns_none, what_fold, what_for, what_fork, what_if, what_let, what_set, what_store}
use Rattle.kt_prog.specs.declared.programs.What.TheViews.{the_lemmas, sized-If, sized-For}
use Rattle.kt_body.proofs.exec.+exec.Goals as goal
use Rattle.kt_body.proofs.exec.+exec.Goals.{exec-then-n-eq0+in_ok-exec_all-in-If, exec-else-n-eq0+in_ok-exec_all-in-If-2}

pub exec-returns-in_err-begin : goal.exec-returns-in_err-begin
exec-returns-in_err-begin g t c =
    let s0 = still_is _ _ _ (still_here _ c.requires) (stmt_is _ _ _) in
    let p = err_from_is_err_and c.from_residual.result c.from_residual.ensures.1 in
    rw (p.1, p.2) (still_err _ _ _ s0 (gives_err _ _ c.begin.new.self _ c.in_err-begin.ensures))

pub exec-bind-requires : goal.exec-bind-requires
exec-bind-requires g t c =
    let s0 = still_is _ _ _ (still_here _ c.requires) (stmt_is _ _ _) in
    let s1 = still_next _ _ _ s0 (ran_same _ _ _ c.in_ok-begin.ensures) in
    let s2 = still_is _ _ _ s1 (at_what _ _ _ _ _ _ c.in-Let.is (what_let _ _ _ _ _ _)) in
    s2.can

pub exec-change-requires : goal.exec-change-requires
exec-change-requires g t c =
    let s0 = still_is _ _ _ (still_here _ c.requires) (stmt_is _ _ _) in
    let s1 = still_next _ _ _ s0 (ran_same _ _ _ c.in_ok-begin.ensures) in
    let s2 = still_is _ _ _ s1 (at_what _ _ _ _ _ _ c.in-Set.is (what_set _ _ _ _ _ _)) in
    s2.can

pub exec-write-requires : goal.exec-write-requires
exec-write-requires g t c =
    let s0 = still_is _ _ _ (still_here _ c.requires) (stmt_is _ _ _) in
    let s1 = still_next _ _ _ s0 (ran_same _ _ _ c.in_ok-begin.ensures) in
    let s2 = still_is _ _ _ s1 (at_what _ _ _ _ _ _ c.in-Store.is (what_store _ _ _ _ _ _ _)) in
    still_can _ _ _ s2

pub exec-write-requires-in-Fold : goal.exec-write-requires-in-Fold
exec-write-requires-in-Fold g t c =
    let s0 = still_is _ _ _ (still_here _ c.requires) (stmt_is _ _ _) in
    let s1 = still_next _ _ _ s0 (ran_same _ _ _ c.in_ok-begin.ensures) in
    let s2 = still_is _ _ _ s1 (at_what _ _ _ _ _ _ c.in-Fold.is (what_fold _ _ _ _ _ _ _ _)) in
    still_can _ _ _ s2

pub exec-fork-requires : goal.exec-fork-requires
exec-fork-requires g t c =
    let s0 = still_is _ _ _ (still_here _ c.requires) (stmt_is _ _ _) in
    let s1 = still_next _ _ _ s0 (ran_same _ _ _ c.in_ok-begin.ensures) in
    let s2 = still_is _ _ _ s1 (at_what _ _ _ _ _ _ c.in-Fork.is (what_fork _ _ _ _ _ _ _)) in
    rw c.as_slice-in-Fork.ensures (still_can _ _ _ s2)

pub exec-returns-in-Let : goal.exec-returns-in-Let
exec-returns-in-Let g t c =
    let s0 = still_is _ _ _ (still_here _ c.requires) (stmt_is _ _ _) in
    let s1 = still_next _ _ _ s0 (ran_same _ _ _ c.in_ok-begin.ensures) in
    let s2 = still_is _ _ _ s1 (at_what _ _ _ _ _ _ c.in-Let.is (what_let _ _ _ _ _ _)) in
    still_to _ _ _ _ _ s2 c.bind.ensures

pub exec-returns-in-Set : goal.exec-returns-in-Set
exec-returns-in-Set g t c =
    let s0 = still_is _ _ _ (still_here _ c.requires) (stmt_is _ _ _) in
    let s1 = still_next _ _ _ s0 (ran_same _ _ _ c.in_ok-begin.ensures) in
    let s2 = still_is _ _ _ s1 (at_what _ _ _ _ _ _ c.in-Set.is (what_set _ _ _ _ _ _)) in
    still_to _ _ _ _ _ s2 c.change.ensures

pub exec-returns-in-Store : goal.exec-returns-in-Store
exec-returns-in-Store g t c =
    let s0 = still_is _ _ _ (still_here _ c.requires) (stmt_is _ _ _) in
    let s1 = still_next _ _ _ s0 (ran_same _ _ _ c.in_ok-begin.ensures) in
    let s2 = still_is _ _ _ s1 (at_what _ _ _ _ _ _ c.in-Store.is (what_store _ _ _ _ _ _ _)) in
    still_to _ _ _ _ _ s2 (ran_keeps _ _ _ _ _ _ _ _ c.write.ensures)

pub exec-returns-in-Fold : goal.exec-returns-in-Fold
exec-returns-in-Fold g t c =
    let s0 = still_is _ _ _ (still_here _ c.requires) (stmt_is _ _ _) in
    let s1 = still_next _ _ _ s0 (ran_same _ _ _ c.in_ok-begin.ensures) in
    let s2 = still_is _ _ _ s1 (at_what _ _ _ _ _ _ c.in-Fold.is (what_fold _ _ _ _ _ _ _ _)) in
    still_to _ _ _ _ _ s2 (ran_keeps _ _ _ _ _ _ _ _ c.write-in-Fold.ensures)

pub exec-returns-in-Fork : goal.exec-returns-in-Fork
exec-returns-in-Fork g t c =
    let s0 = still_is _ _ _ (still_here _ c.requires) (stmt_is _ _ _) in
    let s1 = still_next _ _ _ s0 (ran_same _ _ _ c.in_ok-begin.ensures) in
    let s2 = still_is _ _ _ s1 (at_what _ _ _ _ _ _ c.in-Fork.is (what_fork _ _ _ _ _ _ _)) in
    still_to _ _ _ _ _ s2 (ran_keeps _ _ _ _ _ _ _ _ (rw c.as_slice-in-Fork.ensures at c.fork.ensures))

pub exec-eval-requires : goal.exec-eval-requires
exec-eval-requires g t c =
    let s0 = still_is _ _ _ (still_here _ c.requires) (stmt_is _ _ _) in
    let s1 = still_next _ _ _ s0 (ran_same _ _ _ c.in_ok-begin.ensures) in
    let s2 = still_is _ _ _ s1 (at_what _ _ _ _ _ _ c.in-If.is (what_if _ _ _ _ _ _)) in
    still_can _ _ _ s2

pub exec-returns-in_err-n-in-If : goal.exec-returns-in_err-n-in-If
exec-returns-in_err-n-in-If g t c =
    let s0 = still_is _ _ _ (still_here _ c.requires) (stmt_is _ _ _) in
    let s1 = still_next _ _ _ s0 (ran_same _ _ _ c.in_ok-begin.ensures) in
    let s2 = still_is _ _ _ s1 (at_what _ _ _ _ _ _ c.in-If.is (what_if _ _ _ _ _ _)) in
    let p = err_from_is_err_and c.from_residual-in_err-n-in-If.result c.from_residual-in_err-n-in-If.ensures.1 in
    rw (p.1, p.2) (still_err _ _ _ s2 c.in_err-n-in-If.ensures)

pub exec-exec_all-requires : goal.exec-exec_all-requires
exec-exec_all-requires g t c κs within = (
  search (rules, the_lemmas, sized-If),
  (
    within,
    let s0 = still_is _ _ _ (still_here _ c.requires) (stmt_is _ _ _) in
        let s1 = still_next _ _ _ s0 (ran_same _ _ _ c.in_ok-begin.ensures) in
        let s2 = still_is _ _ _ s1 (at_what _ _ _ _ _ _ c.in-If.is (what_if _ _ _ _ _ _)) in
        let s3 = still_next _ _ _ s2 c.in_ok-n-in-If.ensures in
        let can = rw (either_none _ _ _ c.if-n-eq0.true, ← c.as_slice.ensures) at (still_can _ _ _ s3) in
        can,
  ),
)

pub exec-returns-in_err-exec_all-in-If : goal.exec-returns-in_err-exec_all-in-If
exec-returns-in_err-exec_all-in-If g t c =
    let s0 = still_is _ _ _ (still_here _ c.requires) (stmt_is _ _ _) in
    let s1 = still_next _ _ _ s0 (ran_same _ _ _ c.in_ok-begin.ensures) in
    let s2 = still_is _ _ _ s1 (at_what _ _ _ _ _ _ c.in-If.is (what_if _ _ _ _ _ _)) in
    let s3 = still_next _ _ _ s2 c.in_ok-n-in-If.ensures in
    let p = err_from_is_err_and c.from_residual-in_err-exec_all-in-If.result c.from_residual-in_err-exec_all-in-If.ensures.1 in
    rw (p.1, p.2) (still_err _ _ _ s3 (rw (either_none _ _ _ c.if-n-eq0.true) (rw c.as_slice.ensures at c.in_err-exec_all-in-If.ensures)))

pub exec-exec_all-requires-else-n-eq0 : goal.exec-exec_all-requires-else-n-eq0
exec-exec_all-requires-else-n-eq0 g t c κs within = (
  search (rules, the_lemmas, sized-If),
  (
    within,
    let s0 = still_is _ _ _ (still_here _ c.requires) (stmt_is _ _ _) in
        let s1 = still_next _ _ _ s0 (ran_same _ _ _ c.in_ok-begin.ensures) in
        let s2 = still_is _ _ _ s1 (at_what _ _ _ _ _ _ c.in-If.is (what_if _ _ _ _ _ _)) in
        let s3 = still_next _ _ _ s2 c.in_ok-n-in-If.ensures in
        let can = rw (either_some _ _ _ c.if-n-eq0.false, ← c.as_slice-else-n-eq0.ensures) at (still_can _ _ _ s3) in
        can,
  ),
)

pub exec-returns-in_err-exec_all-in-If-2 : goal.exec-returns-in_err-exec_all-in-If-2
exec-returns-in_err-exec_all-in-If-2 g t c =
    let s0 = still_is _ _ _ (still_here _ c.requires) (stmt_is _ _ _) in
    let s1 = still_next _ _ _ s0 (ran_same _ _ _ c.in_ok-begin.ensures) in
    let s2 = still_is _ _ _ s1 (at_what _ _ _ _ _ _ c.in-If.is (what_if _ _ _ _ _ _)) in
    let s3 = still_next _ _ _ s2 c.in_ok-n-in-If.ensures in
    let p = err_from_is_err_and c.from_residual-in_err-exec_all-in-If-2.result c.from_residual-in_err-exec_all-in-If-2.ensures.1 in
    rw (p.1, p.2) (still_err _ _ _ s3 (rw (either_some _ _ _ c.if-n-eq0.false) (rw c.as_slice-else-n-eq0.ensures at c.in_err-exec_all-in-If-2.ensures)))

pub exec-returns-after-n-eq0 : goal.exec-returns-after-n-eq0
exec-returns-after-n-eq0 g t c =
    let s0 = still_is _ _ _ (still_here _ c.requires) (stmt_is _ _ _) in
    let s1 = still_next _ _ _ s0 (ran_same _ _ _ c.in_ok-begin.ensures) in
    let s2 = still_is _ _ _ s1 (at_what _ _ _ _ _ _ c.in-If.is (what_if _ _ _ _ _ _)) in
    let s3 = still_next _ _ _ s2 c.in_ok-n-in-If.ensures in
    elim c.if-n-eq0.branch [
      | exec-then-n-eq0+in_ok-exec_all-in-If w ↦
          let s4 = still_next _ _ _ s3 (rw (either_none _ _ _ w.if-n-eq0.true) (rw w.as_slice.ensures at w.in_ok-exec_all-in-If.ensures)) in
          rw (c.cut.ensures, w.ops-is, w.walk-is, c.len-len.ensures) (s4.ends _ _ (ran_give _ _))
      | exec-else-n-eq0+in_ok-exec_all-in-If-2 w ↦
          let s4 = still_next _ _ _ s3 (rw (either_some _ _ _ w.if-n-eq0.false) (rw w.as_slice-else-n-eq0.ensures at w.in_ok-exec_all-in-If-2.ensures)) in
          rw (c.cut.ensures, w.ops-is, w.walk-is, c.len-len.ensures) (s4.ends _ _ (ran_give _ _))
    ]

pub exec-eval-requires-in-For : goal.exec-eval-requires-in-For
exec-eval-requires-in-For g t c =
    let s0 = still_is _ _ _ (still_here _ c.requires) (stmt_is _ _ _) in
    let s1 = still_next _ _ _ s0 (ran_same _ _ _ c.in_ok-begin.ensures) in
    let s2 = still_is _ _ _ s1 (at_what _ _ _ _ _ _ c.in-For.is (what_for _ _ _ _ _ _ _ _)) in
    still_can _ _ _ s2

pub exec-returns-in_err-from-in-For : goal.exec-returns-in_err-from-in-For
exec-returns-in_err-from-in-For g t c =
    let s0 = still_is _ _ _ (still_here _ c.requires) (stmt_is _ _ _) in
    let s1 = still_next _ _ _ s0 (ran_same _ _ _ c.in_ok-begin.ensures) in
    let s2 = still_is _ _ _ s1 (at_what _ _ _ _ _ _ c.in-For.is (what_for _ _ _ _ _ _ _ _)) in
    let p = err_from_is_err_and c.from_residual-in_err-from-in-For.result c.from_residual-in_err-from-in-For.ensures.1 in
    rw (p.1, p.2) (still_err _ _ _ s2 c.in_err-from-in-For.ensures)

pub exec-eval-requires-in-For-2 : goal.exec-eval-requires-in-For-2
exec-eval-requires-in-For-2 g t c =
    let s0 = still_is _ _ _ (still_here _ c.requires) (stmt_is _ _ _) in
    let s1 = still_next _ _ _ s0 (ran_same _ _ _ c.in_ok-begin.ensures) in
    let s2 = still_is _ _ _ s1 (at_what _ _ _ _ _ _ c.in-For.is (what_for _ _ _ _ _ _ _ _)) in
    let s3 = still_next _ _ _ s2 c.in_ok-from-in-For.ensures in
    still_can _ _ _ s3

pub exec-returns-in_err-to-in-For : goal.exec-returns-in_err-to-in-For
exec-returns-in_err-to-in-For g t c =
    let s0 = still_is _ _ _ (still_here _ c.requires) (stmt_is _ _ _) in
    let s1 = still_next _ _ _ s0 (ran_same _ _ _ c.in_ok-begin.ensures) in
    let s2 = still_is _ _ _ s1 (at_what _ _ _ _ _ _ c.in-For.is (what_for _ _ _ _ _ _ _ _)) in
    let s3 = still_next _ _ _ s2 c.in_ok-from-in-For.ensures in
    let p = err_from_is_err_and c.from_residual-in_err-to-in-For.result c.from_residual-in_err-to-in-For.ensures.1 in
    rw (p.1, p.2) (still_err _ _ _ s3 c.in_err-to-in-For.ensures)

pub exec-loop-value-init : goal.exec-loop-value-init
exec-loop-value-init g t c =
    let s0 = still_is _ _ _ (still_here _ c.requires) (stmt_is _ _ _) in
    let s1 = still_next _ _ _ s0 (ran_same _ _ _ c.in_ok-begin.ensures) in
    let s2 = still_is _ _ _ s1 (at_what _ _ _ _ _ _ c.in-For.is (what_for _ _ _ _ _ _ _ _)) in
    let s3 = still_next _ _ _ s2 c.in_ok-from-in-For.ensures in
    let s4 = still_next _ _ _ s3 c.in_ok-to-in-For.ensures in
    rw c.len-len-in-For.ensures s4

pub exec-returns-in_err-begin-in-For : goal.exec-returns-in_err-begin-in-For
exec-returns-in_err-begin-in-For g t c =
    let t0 = still_is _ _ _ c.loop-value.invariant (turns_more _ _ _ _ _ _ _ _ c.loop-value-test.true) in
    let p = err_from_is_err_and c.from_residual-in_err-begin-in-For.result c.from_residual-in_err-begin-in-For.ensures.1 in
    rw (p.1, p.2) (still_err _ _ _ t0 (gives_err _ _ c.begin-in-loop-value.new.self _ c.in_err-begin-in-For.ensures))

pub exec-exec_all-requires-in-loop-value : goal.exec-exec_all-requires-in-loop-value
exec-exec_all-requires-in-loop-value g t c κs within = (
  search (rules, the_lemmas, sized-For),
  (
    within,
    let t0 = still_is _ _ _ c.loop-value.invariant (turns_more _ _ _ _ _ _ _ _ c.loop-value-test.true) in
        let t1 = still_next _ _ _ t0 (ran_same _ _ _ c.in_ok-begin-in-For.ensures) in
        let t2 = still_next _ _ _ t1 (ran_same _ _ _ c.add.ensures) in
        let can = rw (← c.as_slice-in-loop-value.ensures) at (still_can _ _ _ t2) in
        can,
  ),
)

pub exec-returns-in_err-exec_all-in-For : goal.exec-returns-in_err-exec_all-in-For
exec-returns-in_err-exec_all-in-For g t c =
    let t0 = still_is _ _ _ c.loop-value.invariant (turns_more _ _ _ _ _ _ _ _ c.loop-value-test.true) in
    let t1 = still_next _ _ _ t0 (ran_same _ _ _ c.in_ok-begin-in-For.ensures) in
    let t2 = still_next _ _ _ t1 (ran_same _ _ _ c.add.ensures) in
    let p = err_from_is_err_and c.from_residual-in_err-exec_all-in-For.result c.from_residual-in_err-exec_all-in-For.ensures.1 in
    rw (p.1, p.2) (still_err _ _ _ t2 (rw c.as_slice-in-loop-value.ensures at c.in_err-exec_all-in-For.ensures))

pub exec-loop-value-preserved : goal.exec-loop-value-preserved
exec-loop-value-preserved g t c =
    let t0 = still_is _ _ _ c.loop-value.invariant (turns_more _ _ _ _ _ _ _ _ c.loop-value-test.true) in
    let t1 = still_next _ _ _ t0 (ran_same _ _ _ c.in_ok-begin-in-For.ensures) in
    let t2 = still_next _ _ _ t1 (ran_same _ _ _ c.add.ensures) in
    let t3 = still_next _ _ _ t2 (rw c.as_slice-in-loop-value.ensures at c.in_ok-exec_all-in-For.ensures) in
    rw c.cut-in-loop-value.ensures t3

pub exec-returns-after-loop-value : goal.exec-returns-after-loop-value
exec-returns-after-loop-value g t c =
    (still_is _ _ _ c.loop-value.invariant (turns_none _ _ _ _ _ _ _ _ c.loop-value-test.false)).ends _ _ (ran_give _ _)

pub exec_all-loop-stmt-init : goal.exec_all-loop-stmt-init
exec_all-loop-stmt-init g t c =
    still_here _ c.requires

pub exec_all-exec-requires : goal.exec_all-exec-requires
exec_all-exec-requires g t c κs within =
    let b0 = still_is _ _ _ c.loop-stmt.invariant (block_more _ _ _ _ _ c.loop-stmt-test.true c.stmt-item.is) in
    let can = still_can _ _ _ b0 in
    search (rules, the_lemmas)

pub exec_all-returns-in_err-exec : goal.exec_all-returns-in_err-exec
exec_all-returns-in_err-exec g t c =
    let b0 = still_is _ _ _ c.loop-stmt.invariant (block_more _ _ _ _ _ c.loop-stmt-test.true c.stmt-item.is) in
    let p = err_from_is_err_and c.from_residual.result c.from_residual.ensures.1 in
    rw (p.1, p.2) (still_err _ _ _ b0 c.in_err-exec.ensures)

pub exec_all-loop-stmt-preserved : goal.exec_all-loop-stmt-preserved
exec_all-loop-stmt-preserved g t c =
    let b0 = still_is _ _ _ c.loop-stmt.invariant (block_more _ _ _ _ _ c.loop-stmt-test.true c.stmt-item.is) in
    still_next _ _ _ b0 c.in_ok-exec.ensures

pub exec_all-returns : goal.exec_all-returns
exec_all-returns g t c =
    (still_is _ _ _ c.loop-stmt.invariant (block_none _ _ _ _ c.loop-stmt-test.false)).ends _ _ (ran_give _ _)
