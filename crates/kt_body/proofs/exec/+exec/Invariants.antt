use Rattle.std.proofs.Common.{◌-◌, map, drop}
use Rattle.kt_prog.specs.Statements.{stmt_of, block, turns}
use Rattle.kt_body.specs.Moves.{Still}
use Rattle.kt_body.specs.Scenes.{site_in}
use Rattle.kt_body.proofs.exec.+exec.Given as goal

abbrev pub invariant-exec-loop-value : goal.invariant-exec-loop-value
invariant-exec-loop-value g l = Still g.O.Ops.at g.O.Ops.goes g.O.Ops.halted l.fn.scene.program.now
    l.fn.ops (stmt_of (λ w. w) l.fn.stmt (site_in l.fn.scene) l.fn.walk)
    l.ops (turns (λ w. w) (l.to - l.value) l.len l.line l.name l.value (block (map (stmt_of (λ w. w)) l.body)) (site_in l.fn.scene) l.walk)

abbrev pub decreases-exec-loop-value : goal.decreases-exec-loop-value
decreases-exec-loop-value g l = l.to - l.value

abbrev pub invariant-exec_all-loop-stmt : goal.invariant-exec_all-loop-stmt
invariant-exec_all-loop-stmt g l = Still g.O.Ops.at g.O.Ops.goes g.O.Ops.halted l.fn.scene.program.now
    l.fn.ops (block (map (stmt_of (λ w. w)) l.fn.stmts) (site_in l.fn.scene) l.fn.walk)
    l.ops (block (map (stmt_of (λ w. w)) (drop l.stmt-index l.fn.stmts)) (site_in l.fn.scene) l.walk)
