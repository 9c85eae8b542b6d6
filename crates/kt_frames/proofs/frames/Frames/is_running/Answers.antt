-- There is a frame below the topmost exactly where there is a span.
use Rattle.std.proofs.Common.{◌≡◌, length, reverse, sym, ap, ◌∙◌, vec_len, arith}
use Rattle.std.proofs.lemmas.List.{length-reverse}
use Rattle.kt_frames.specs.Stack.{Stack}
use Rattle.kt_frames.proofs.Layouts.{below_length, runs_where}
use Rattle.kt_frames.proofs.frames.Frames.is_running.Goals as goal

pub returns : goal.returns
returns c =
    let f = c.self.inside in
    let same : length c.args.self.now.below ≡ length f.below.items =
    ap (λ (s : Stack). length s.below) (sym c.self.view_is) ∙ below_length f.start (reverse f.below.items) f.calls.items ∙ length-reverse f.below.items in
    let long : length c.args.self.now.below ≡ vec_len f.below = omega arith in
    runs_where c.args.self.now.below c.is_empty.result (vec_len f.below) long c.is_empty.ensures
