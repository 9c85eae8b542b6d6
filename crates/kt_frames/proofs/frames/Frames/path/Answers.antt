-- The numbers of the frames behind the first are the path.
use Rattle.std.proofs.Common.{◌≡◌, ◌≤◌, ◌-◌, lit<, drop, take, map, length, reverse, sym, ap, ◌∙◌, arith}
use Rattle.std.proofs.lemmas.List.{length-reverse, take_all}
use Rattle.kt_frames.specs.Stack.{Stack, path_over}
use Rattle.kt_frames.proofs.Layouts.{below_length, number_of, path_drops, path_short}
use Rattle.kt_frames.proofs.frames.Frames.path.Goals as goal

pub push-requires : goal.push-requires
push-requires c =
    let f = c.self.inside in
    let same : length c.args.self.now.below ≡ length f.below.items =
    ap (λ (s : Stack). length s.below) (sym c.self.view_is) ∙ below_length f.start (reverse f.below.items) f.calls.items ∙ length-reverse f.below.items in
    let short : length c.loop-i.path.items ≤ c.loop-i.i - 1 = rw c.loop-i.invariant (path_short f.below.items c.loop-i.i) in
    (lit< tt, omega arith)

pub returns : goal.returns
returns c =
    let f = c.self.inside in
    let all : take c.loop-i.i f.below.items ≡ f.below.items = take_all c.loop-i.i f.below.items (omega arith) in
    c.loop-i.invariant
    ∙ ap (λ xs. drop 1 (map number_of xs)) all
    ∙ sym (path_drops f.start f.below.items f.calls.items)
    ∙ ap (λ (s : Stack). path_over s.below) c.self.view_is
