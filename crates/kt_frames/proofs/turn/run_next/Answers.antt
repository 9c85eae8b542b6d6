-- Finished tasks change nothing of what is left.
use Rattle.std.proofs.Common.{sym, ◌∙◌}
use Rattle.kt_frames.specs.Rest.{with_frames}
use Rattle.kt_frames.proofs.Turns.{live_finished, left_finished, left_ended, turn_finished}
use Rattle.kt_frames.proofs.turn.run_next.Goals as goal

pub run_claimed-requires-clause-claimed : goal.run_claimed-requires-clause-claimed
run_claimed-requires-clause-claimed c =
    let e = c.in-Some.ensures {u = tt} in
    (e.0, record { frames = e.3; next = e.2; live = live_finished c.args.program.now c.args.owner.now e.0 e.1 c.requires.live })

pub returns-in-None : goal.returns-in-None
returns-in-None c =
    let e = c.in-None.ensures {u = tt} in
    let o = with_frames c.args.owner.now c.claim.new.frames in (
      sym (left_finished c.args.program.now c.args.owner.now c.claim.new.frames c.args.least.now e.0)
          ∙ left_ended c.args.program.now o c.args.least.now (live_finished c.args.program.now c.args.owner.now c.claim.new.frames e.0 c.requires.live) e.1 e.2,
      c.requires.live.program,
    )

pub returns-in-Some : goal.returns-in-Some
returns-in-Some c =
    let e = c.in-Some.ensures {u = tt} in
    turn_finished c.args.program.now c.args.owner.now e.0 c.args.least.now c.run_claimed.new.owner c.run_claimed.new.least c.run_claimed.result e.1
    (c.run_claimed.ensures e.0 (record { frames = e.3; next = e.2; live = live_finished c.args.program.now c.args.owner.now e.0 e.1 c.requires.live }))
