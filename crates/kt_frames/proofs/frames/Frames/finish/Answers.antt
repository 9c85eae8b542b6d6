-- The frame below is the topmost, and one entry more of it is finished.
use Rattle.std.proofs.Common.{◌≡◌, ◌≤◌, ◌++◌, ◌∷◌, [], length, reverse, ap, ◌∙◌, subst, arith}
use Rattle.std.proofs.lemmas.List.{reverse-append}
use Rattle.kt_frames.specs.Layout.{IsChain}
use Rattle.kt_frames.proofs.Layouts.{finish_shape}
use Rattle.kt_frames.proofs.frames.Frames.finish.Goals as goal

pub returns : goal.returns
returns c =
    let f = c.self.inside in
    let within : f.start ≤ length f.calls.items = omega arith in
    let popped : f.below.items ≡ c.pop.new.self.items ++ c.in-Some.span ∷ [] = rw c.in-Some.is at c.pop.ensures.items in
    let last : reverse f.below.items ≡ c.in-Some.span ∷ reverse c.pop.new.self.items =
    ap reverse popped ∙ reverse-append c.pop.new.self.items (c.in-Some.span ∷ []) in
    let chain : IsChain f.start (c.in-Some.span ∷ reverse c.pop.new.self.items) = subst (IsChain f.start) last c.self.invariant.chain in
    rw (c.truncate.ensures.items, ← c.self.view_is, last)
    (finish_shape f.calls.items f.start f.at c.in-Some.span (reverse c.pop.new.self.items) f.tasks f.room within chain)
