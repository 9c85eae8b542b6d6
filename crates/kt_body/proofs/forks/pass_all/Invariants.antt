use Rattle.std.proofs.Common.{drop}
use Rattle.kt_prog.specs.Forks.{arguments, nothing_given}
use Rattle.kt_prog.specs.Statements.{view}
use Rattle.kt_body.specs.Forking.{HasRoom, target_in}
use Rattle.kt_body.specs.Moves.{Still}
use Rattle.kt_body.specs.Scenes.{site_in}
use Rattle.kt_body.proofs.forks.pass_all.Given as goal

abbrev pub invariant-loop-i : goal.invariant-loop-i
invariant-loop-i g l =
    let v = view (site_in l.fn.scene) l.fn.walk l.fn.line in
    let sorts = (target_in l.fn.target).sorts in
    Still g.O.Ops.at g.O.Ops.goes g.O.Ops.halted l.fn.scene.program.now
    l.fn.ops (arguments (λ w. w) sorts l.fn.args v nothing_given)
    l.ops (arguments (λ w. w) (drop l.i sorts) (drop l.i l.fn.args) v l.passed)
    × HasRoom l.passed (drop l.i sorts)
