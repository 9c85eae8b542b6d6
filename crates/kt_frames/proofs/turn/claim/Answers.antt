-- The tasks that are finished on the way have no entry that waits.
use Rattle.std.proofs.Common.{◌≡◌, Option, None, sym, ap, ◌∙◌, subst}
use Rattle.kt_prog.specs.Calls.{CallTree}
use Rattle.kt_frames.specs.Stack.{IsRunning, next_of, begun_at}
use Rattle.kt_frames.specs.Rest.{Finishes, stays, more}
use Rattle.kt_frames.proofs.Layouts.{ended_none, not_running}
use Rattle.kt_frames.proofs.turn.claim.Goals as goal

pub frames-init : goal.frames-init
frames-init c = stays

pub returns-then-not-is_running : goal.returns-then-not-is_running
returns-then-not-is_running c =
    let none : next_of c.frames.frames ≡ None = sym c.next.ensures.call ∙ c.in-None.is in
    let same : c.next.new.self ≡ c.frames.frames = c.next.ensures.frames ∙ ap (λ (o : Option CallTree). begun_at o c.frames.frames) none in (
      subst (Finishes c.args.frames.now) (sym same) c.frames.invariant,
      ap next_of same ∙ none,
      not_running c.next.new.self.below c.is_running.result c.is_running.ensures.1 c.if-not-is_running.true,
    )

pub finish-requires-clause-ended : goal.finish-requires-clause-ended
finish-requires-clause-ended c =
    let none : next_of c.frames.frames ≡ None = sym c.next.ensures.call ∙ c.in-None.is in
    let same : c.next.new.self ≡ c.frames.frames = c.next.ensures.frames ∙ ap (λ (o : Option CallTree). begun_at o c.frames.frames) none in
    ended_none c.next.new.self.top.calls c.next.new.self.top.finished (ap next_of same ∙ none)

pub frames-preserved : goal.frames-preserved
frames-preserved c =
    let none : next_of c.frames.frames ≡ None = sym c.next.ensures.call ∙ c.in-None.is in
    let same : c.next.new.self ≡ c.frames.frames = c.next.ensures.frames ∙ ap (λ (o : Option CallTree). begun_at o c.frames.frames) none in
    let runs : IsRunning c.next.new.self = c.is_running.ensures.0 c.if-not-is_running.false in
    let before : Finishes c.args.frames.now c.next.new.self = subst (Finishes c.args.frames.now) (sym same) c.frames.invariant in
    rw c.finish.ensures (more before runs (ap next_of same ∙ none))
