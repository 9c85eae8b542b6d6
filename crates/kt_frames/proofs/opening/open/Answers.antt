-- A run begins with what the reference run begins with.
use Rattle.std.proofs.Common.{false, refl, ap}
use Rattle.kt_store.specs.Stores.{StoreState}
use Rattle.kt_frames.specs.declared.owner.Owner.{Owner}
use Rattle.kt_frames.proofs.Turns.{live_opened, left_opened}
use Rattle.kt_frames.proofs.opening.open.Goals as goal

pub returns-clause-live : goal.returns-clause-live
returns-clause-live c =
    let o : Owner = record { store = c.in_ok-store.store; frames = c.in_ok-frames.frames; over = false; indexes = 0 } in
    live_opened c.args.program.now o (ap (λ (s : StoreState). s.program) c.in_ok-store.ensures) c.in_ok-frames.ensures refl refl

pub returns-clause-whole : goal.returns-clause-whole
returns-clause-whole c =
    let o : Owner = record { store = c.in_ok-store.store; frames = c.in_ok-frames.frames; over = false; indexes = 0 } in
    left_opened c.args.program.now c.args.input.now o (ap (λ (s : StoreState). s.elements) c.in_ok-store.ensures) c.in_ok-frames.ensures refl
