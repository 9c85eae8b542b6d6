-- The entry where the topmost frame stands runs, and an empty frame lies above it.
use Rattle.std.proofs.Common.{◌<◌, length, reverse, refl, sym, arith}
use Rattle.std.proofs.lemmas.List.{length-reverse, reverse-append}
use Rattle.kt_frames.proofs.Layouts.{chain_short, next_get, begin_shape}
use Rattle.kt_frames.proofs.frames.Frames.next.Goals as goal

pub push_reserved-requires : goal.push_reserved-requires
push_reserved-requires c =
    let f = c.self.inside in
    let short = chain_short f.start (reverse f.below.items) c.self.invariant.chain in
    let long = length-reverse f.below.items in
    omega arith

pub returns-clause-call : goal.returns-clause-call
returns-clause-call c =
    let f = c.self.inside in
    let there : f.at < length f.calls.items = omega arith in
    rw (← c.self.view_is) (sym (next_get f.calls.items f.start f.at c.copied-call.result c.self.invariant.from there (rw c.copied-call.ensures c.index.ensures)))

pub returns-clause-frames : goal.returns-clause-frames
returns-clause-frames c =
    let f = c.self.inside in
    let there : f.at < length f.calls.items = omega arith in
    rw (c.push_reserved.ensures.items, reverse-append)
    (begin_shape f.calls.items f.start f.at c.len-self-inside.result (record { start = f.start; at = f.at; small = omega arith }) (reverse f.below.items) f.tasks f.room c.copied-call.result c.args.self.now
    c.self.invariant.from there (rw c.copied-call.ensures c.index.ensures) (omega arith) refl refl c.self.view_is)
