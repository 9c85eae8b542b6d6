use Rattle.std.proofs.Common.{rules, ℕ, List, ◌∙◌, sym, subst}
use Rattle.kt_prog.specs.declared.programs.Program.{Program}
use Rattle.kt_worker.specs.Levels.{Calm, Turns}
use Rattle.kt_intervals.specs.Programs.{HasFirsts}
use Rattle.kt_worker.proofs.Turning.{calm_fresh, calm_of, ends_of, turns_after}
use Rattle.kt_worker.proofs.working.work.Goals as goal

pub first_turn-worker-requires-clause-calm : goal.first_turn-worker-requires-clause-calm
first_turn-worker-requires-clause-calm g c = rw (c.tally_of-tally.ensures, c.worker.ensures) (calm_fresh _ _ c.requires.fresh)

pub loop-init : goal.loop-init
loop-init g c = (
  tt,
  tt,
  c.first_turn-worker.ensures.turns,
  c.first_turn-worker.ensures.program.0,
  subst (λ (xs : List ℕ). HasFirsts c.args.program.now.families xs) (sym c.first_turn-worker.ensures.program.1) (search rules),
  c.first_turn-worker.ensures.room,
)

pub turn-next-requires : goal.turn-next-requires
turn-next-requires g c =
    let i = c.loop.invariant in
    let calm = calm_of (g.R.Run.view c.args.run) (g.R.Run.view c.loop.worker.run) c.args.program.now c.loop.worker.tally c.loop.tools.stack.levels c.loop.more c.if-not-more.false i.2 in
    record {
      calm = subst (λ (p : Program). Calm (g.R.Run.view c.loop.worker.run) p c.loop.worker.tally c.loop.tools.stack.levels) (sym i.3) calm.0;
      accepted = rw i.3 c.requires.accepted;
      firsts = rw i.3 i.4;
      room = rw i.3 i.5;
    }

pub loop-preserved : goal.loop-preserved
loop-preserved g c =
    let i = c.loop.invariant in
    let calm = calm_of (g.R.Run.view c.args.run) (g.R.Run.view c.loop.worker.run) c.args.program.now c.loop.worker.tally c.loop.tools.stack.levels c.loop.more c.if-not-more.false i.2 in (
      tt,
      tt,
      turns_after (g.R.Run.view c.args.run) (g.R.Run.view c.loop.worker.run) (g.R.Run.view c.turn-next.result.0.run) c.args.program.now c.turn-next.result.0.tally c.turn-next.new.tools.stack.levels c.turn-next.result.1 calm.1
          (subst (λ (p : Program). Turns (g.R.Run.view c.loop.worker.run) (g.R.Run.view c.turn-next.result.0.run) p c.turn-next.result.0.tally c.turn-next.new.tools.stack.levels c.turn-next.result.1) i.3 c.turn-next.ensures.turns),
      c.turn-next.ensures.program.0 ∙ i.3,
      subst (λ (xs : List ℕ). HasFirsts c.args.program.now.families xs) (sym c.turn-next.ensures.program.1) i.4,
      rw i.3 at c.turn-next.ensures.room,
    )

pub returns-then-not-more-clause-seat : goal.returns-then-not-more-clause-seat
returns-then-not-more-clause-seat g c =
    rw c.let_go.ensures.0 (ends_of (g.R.Run.view c.args.run) (g.R.Run.view c.loop.worker.run) c.args.program.now c.loop.worker.tally c.loop.tools.stack.levels c.loop.more c.if-not-more.true c.loop.invariant.2).1

pub returns-then-not-more-clause-ends : goal.returns-then-not-more-clause-ends
returns-then-not-more-clause-ends g c =
    rw (c.let_go.ensures.0, c.let_go.ensures.1) (ends_of (g.R.Run.view c.args.run) (g.R.Run.view c.loop.worker.run) c.args.program.now c.loop.worker.tally c.loop.tools.stack.levels c.loop.more c.if-not-more.true c.loop.invariant.2).0
