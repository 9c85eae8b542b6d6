use Rattle.std.proofs.Common.{List, ◌∙◌, subst, arith}
use Rattle.kt_worker.specs.Levels.{Calm}
use Rattle.kt_worker.specs.declared.stacks.Level.{Level}
use Rattle.kt_worker.proofs.Turning.{below_few}
use Rattle.kt_worker.proofs.turns.go_on.Goals as goal

pub finish-requires-clause-room : goal.finish-requires-clause-room
finish-requires-clause-room g c =
    let calm = subst (λ (ls : List Level). Calm (g.R.Run.view c.args.worker.run) c.args.worker.program.now c.args.worker.tally ls) c.in-Some.ensures.some c.requires.calm in
    let few = below_few _ _ _ _ _ calm in
    let room = c.in-Some.ensures.room ∙ c.requires.room.stack in
    omega (arith, few, room)
