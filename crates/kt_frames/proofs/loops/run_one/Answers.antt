use Rattle.std.proofs.Common.{◌+◌, Option, Some, ap, ◌∙◌}
use Rattle.kt_prog.specs.Runs.{FaultRun}
use Rattle.kt_frames.specs.Loops.{left_in}
use Rattle.kt_frames.specs.Rest.{fault_of, least_with}
use Rattle.kt_frames.specs.Stack.{Stack, path_over}
use Rattle.kt_frames.proofs.LoopTurns.{index_begins, index_frames, index_left, index_on, index_short}
use Rattle.kt_frames.proofs.loops.run_one.Goals as goal

pub run_at-ended-requires : goal.run_at-ended-requires
run_at-ended-requires c =
    index_begins c.args.program.now c.requires.accepted c.args.owner.now c.args.call.now c.args.index c.requires.looping c.requires.below

pub least_after-requires : goal.least_after-requires
least_after-requires c =
    let same = index_frames c.args.program.now c.requires.accepted c.args.owner.now c.run_at-ended.new.owner c.args.call.now c.args.index
    c.args.least.now c.run_at-ended.result c.requires.looping c.requires.below c.run_at-ended.ensures in
    rw same (index_short c.args.program.now c.requires.accepted c.args.owner.now c.args.call.now c.requires.looping)

pub returns-clause-looping : goal.returns-clause-looping
returns-clause-looping c =
    index_on c.args.program.now c.requires.accepted c.args.owner.now c.run_at-ended.new.owner c.args.call.now c.args.index
    c.args.least.now c.run_at-ended.result c.requires.looping c.requires.below c.run_at-ended.ensures

pub returns-clause-frames : goal.returns-clause-frames
returns-clause-frames c =
    index_frames c.args.program.now c.requires.accepted c.args.owner.now c.run_at-ended.new.owner c.args.call.now c.args.index
    c.args.least.now c.run_at-ended.result c.requires.looping c.requires.below c.run_at-ended.ensures

pub returns-clause-run : goal.returns-clause-run
returns-clause-run c =
    let same = index_frames c.args.program.now c.requires.accepted c.args.owner.now c.run_at-ended.new.owner c.args.call.now c.args.index
    c.args.least.now c.run_at-ended.result c.requires.looping c.requires.below c.run_at-ended.ensures in
    let left = index_left c.args.program.now c.requires.accepted c.args.owner.now c.run_at-ended.new.owner c.args.call.now c.args.index
    c.args.least.now c.run_at-ended.result c.requires.looping c.requires.below c.run_at-ended.ensures in
    let f = fault_of c.run_at-ended.result in
    let i = Some c.args.index in
    let noted = c.least_after.ensures
    ∙ ap (λ (l : Option FaultRun). least_with l (path_over c.run_at-ended.new.owner.frames.below) i f) c.take.ensures.value
    ∙ ap (λ (t : Stack). least_with c.args.least.now (path_over t.below) i f) same in
    ap (λ (l : Option FaultRun). left_in c.args.program.now c.run_at-ended.new.owner c.args.call.now (c.args.index + 1) l) noted ∙ left
