use Rattle.std.proofs.Common.{◌≤◌, ◌+◌, ap, refl, sym, arith, ◌∙◌}
use Rattle.kt_law.specs.declared.limits.TheConstants.{INDEXES}
use Rattle.kt_prog.specs.Calls.{CallTree}
use Rattle.kt_frames.specs.declared.owner.Owner.{Owner}
use Rattle.kt_frames.proofs.Turns.{begins}
use Rattle.kt_frames.proofs.LoopTurns.{indexes_done, loop_left, loop_less, loop_long, loop_on}
use Rattle.kt_frames.proofs.loops.run_loop.Goals as goal

pub zero-requires : goal.zero-requires
zero-requires c =
    let r = c.requires in
    begins c.args.program.now r.accepted c.args.owner.now r.claimed.0 c.args.call.now r.claimed.1

pub returns-then-call-owner : goal.returns-then-call-owner
returns-then-call-owner c = λ s h.
    let r = c.requires in
    let few = h.live.few_indexes in
    let long = ap (λ (k : CallTree). k.length) c.call.view_is in
    let more = c.if-call-owner.true in
    loop_long c.args.program.now r.accepted c.args.owner.now s c.args.call.now c.args.least.now h r.loop_call (omega (arith, few, long, more))

pub overflow_add-indexes : goal.overflow_add-indexes
overflow_add-indexes c =
    let few = c.requires.claimed.1.live.few_indexes in
    let room = c.if-call-owner.false in
    omega (arith, few, room)

pub run_indexes-requires-clause-looping : goal.run_indexes-requires-clause-looping
run_indexes-requires-clause-looping c =
    let r = c.requires in
    let x = c.args.owner.now in
    let z = c.zero.new.owner in
    let y : Owner = record { store = z.store; frames = z.frames; over = z.over; indexes = x.indexes + c.call.inside.length } in
    let few = r.claimed.1.live.few_indexes in
    let long = ap (λ (k : CallTree). k.length) c.call.view_is in
    let room = c.if-call-owner.false in
    loop_on c.args.program.now r.accepted x r.claimed.0 c.args.call.now c.args.least.now r.claimed.1 r.loop_call z y c.zero.ensures
    (omega (arith, few, long, room)) refl refl refl (ap (λ (k : CallTree). x.indexes + k.length) c.call.view_is)

pub returns : goal.returns
returns c = λ s h.
    let r = c.requires in
    let p = c.args.program.now in
    let x = c.args.owner.now in
    let call = c.args.call.now in
    let least = c.args.least.now in
    let z = c.zero.new.owner in
    let y : Owner = record { store = z.store; frames = z.frames; over = z.over; indexes = x.indexes + c.call.inside.length } in
    let few = h.live.few_indexes in
    let long = ap (λ (k : CallTree). k.length) c.call.view_is in
    let room = c.if-call-owner.false in
    let fit : x.indexes + call.length ≤ INDEXES = omega (arith, few, long, room) in
    let counted = ap (λ (k : CallTree). x.indexes + k.length) c.call.view_is in (
      c.run_indexes.ensures.looping.live,
      sym (indexes_done p r.accepted c.run_indexes.new.owner call c.run_indexes.new.least)
          ∙ c.run_indexes.ensures.run
          ∙ loop_left p r.accepted x s call least h r.loop_call z y c.zero.ensures fit refl refl refl counted,
      loop_less p r.accepted x s call least h r.loop_call z y c.zero.ensures fit refl refl refl counted c.run_indexes.new.owner c.run_indexes.ensures.frames,
    )
