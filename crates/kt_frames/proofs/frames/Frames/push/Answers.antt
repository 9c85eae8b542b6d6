-- A call behind the others is one more of the topmost frame.
use Rattle.std.proofs.Common.{◌≡◌, ◌≤◌, ◌<◌, ◌+◌, ◌++◌, ◌∷◌, [], length, reverse, subst, arith}
use Rattle.kt_frames.specs.Stack.{Stack, pushed}
use Rattle.kt_frames.proofs.Layouts.{shape, push_shape}
use Rattle.kt_frames.proofs.frames.Frames.push.Goals as goal

pub returns-clause-frames : goal.returns-clause-frames
returns-clause-frames c =
    let f = c.self.inside in
    let within : f.start ≤ length f.calls.items = omega arith in
    let room : f.tasks < f.room = omega arith in
    rw (c.push_reserved.ensures.items, c.copied.ensures)
    (subst (λ (s : Stack). shape (f.calls.items ++ c.args.call.now ∷ []) f.start f.at (reverse f.below.items) (f.tasks + 1) f.room ≡ pushed s c.args.call.now)
    c.self.view_is
    (push_shape f.calls.items f.start f.at (reverse f.below.items) f.tasks f.room c.args.call.now within c.self.invariant.chain room))
