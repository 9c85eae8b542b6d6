-- A turn, by what the body does alone.
use Rattle.kt_frames.proofs.Turns.{begins, too_many, live_on, left_on, less_to_do, below_short, path_on}
use Rattle.kt_frames.proofs.turn.run_task.Goals as goal

pub run_single-ended-requires-clause-begins : goal.run_single-ended-requires-clause-begins
run_single-ended-requires-clause-begins c =
    let r = c.requires in
    begins c.args.program.now r.accepted c.args.owner.now r.claimed.0 c.args.call.now r.claimed.1

pub returns-then-owner : goal.returns-then-owner
returns-then-owner c = λ s h.
    let r = c.requires in
    too_many c.args.program.now r.accepted c.args.owner.now c.run_single-ended.new.owner s c.args.call.now c.run_single-ended.result
    c.args.least.now h r.single c.run_single-ended.ensures c.if-owner.true

pub least_after-requires : goal.least_after-requires
least_after-requires c =
    let r = c.requires in
    below_short c.args.program.now r.accepted c.args.owner.now c.run_single-ended.new.owner r.claimed.0 c.args.call.now c.run_single-ended.result
    c.args.least.now r.claimed.1 r.single c.run_single-ended.ensures c.if-owner.false

pub returns : goal.returns
returns c = λ s h.
    let r = c.requires in
    let y = c.run_single-ended.new.owner in
    let on = left_on c.args.program.now r.accepted c.args.owner.now y s c.args.call.now c.run_single-ended.result c.args.least.now h
    r.single c.run_single-ended.ensures c.if-owner.false in
    let path = path_on c.args.program.now r.accepted c.args.owner.now y s c.args.call.now c.run_single-ended.result c.args.least.now h
    r.single c.run_single-ended.ensures c.if-owner.false in
    let same = c.least_after.ensures in
    let taken = c.take.ensures.value in (
      live_on c.args.program.now r.accepted c.args.owner.now y s c.args.call.now c.run_single-ended.result c.args.least.now h
          r.single c.run_single-ended.ensures c.if-owner.false,
      rw (same, taken, path) on,
      less_to_do c.args.program.now r.accepted c.args.owner.now y s c.args.call.now c.run_single-ended.result c.args.least.now h
          r.single c.run_single-ended.ensures c.if-owner.false,
    )
