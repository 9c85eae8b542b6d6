use Rattle.std.proofs.Common.{drop, sym, ◌∙◌}
use Rattle.kt_prog.specs.Statements.{view}
use Rattle.kt_body.specs.Forking.{target_in}
use Rattle.kt_body.specs.Scenes.{site_in}
use Rattle.std.proofs.lemmas.Result.{err_from_is_err_and}
use Rattle.kt_body.proofs.Steps.{ran_give, still_can, still_err, still_here, still_is, still_next}
use Rattle.kt_body.proofs.Passing.{args_end, more_arguments, room_here, room_next, sorts_end}
use Rattle.kt_body.proofs.forks.pass_all.Goals as goal

pub loop-i-init : goal.loop-i-init
loop-i-init g c =
    (rw c.nothing-passed.ensures (still_here _ c.requires.can), rw c.nothing-passed.ensures c.requires.room)

pub returns-in-None : goal.returns-in-None
returns-in-None g c =
    (still_is _ _ _ c.loop-i.invariant.0 (sorts_end (view (site_in c.args.scene.now) c.args.walk.now c.args.line) (target_in c.args.target.now).sorts (drop c.loop-i.i c.args.args.now) c.loop-i.i c.loop-i.passed (sym c.sort_at.ensures ∙ c.in-None.is))).ends _ _ (ran_give _ _)

pub pass-requires-clause-can : goal.pass-requires-clause-can
pass-requires-clause-can g c =
    let some = sym c.sort_at.ensures ∙ c.in-Some.is in
    let b0 = still_is _ _ _ c.loop-i.invariant.0 (more_arguments _ _ _ _ _ _ _ some c.loop-i-test.true c.index-args-i.is) in
    still_can _ _ _ b0

pub pass-requires-clause-room : goal.pass-requires-clause-room
pass-requires-clause-room g c =
    room_here c.loop-i.passed (target_in c.args.target.now).sorts c.loop-i.i c.in-Some.sort (sym c.sort_at.ensures ∙ c.in-Some.is) c.loop-i.invariant.1

pub returns-in_err-pass-in-Some : goal.returns-in_err-pass-in-Some
returns-in_err-pass-in-Some g c =
    let some = sym c.sort_at.ensures ∙ c.in-Some.is in
    let b0 = still_is _ _ _ c.loop-i.invariant.0 (more_arguments _ _ _ _ _ _ _ some c.loop-i-test.true c.index-args-i.is) in
    let p = err_from_is_err_and c.from_residual.result c.from_residual.ensures.1 in
    rw (p.1, p.2) (still_err _ _ _ b0 c.in_err-pass-in-Some.ensures.ran)

pub loop-i-preserved : goal.loop-i-preserved
loop-i-preserved g c =
    let some = sym c.sort_at.ensures ∙ c.in-Some.is in
    let b0 = still_is _ _ _ c.loop-i.invariant.0 (more_arguments _ _ _ _ _ _ _ some c.loop-i-test.true c.index-args-i.is) in
    (still_next _ _ _ b0 c.in_ok-pass-in-Some.ensures.ran, room_next c.loop-i.passed c.pass.new.passed (target_in c.args.target.now).sorts c.loop-i.i c.in-Some.sort some c.loop-i.invariant.1 c.pass.ensures.grown)

pub returns : goal.returns
returns g c =
    (still_is _ _ _ c.loop-i.invariant.0 (args_end _ _ _ _ _ c.loop-i-test.false)).ends _ _ (ran_give _ _)
