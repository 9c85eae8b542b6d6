-- The element lies in the store, since the operation is next in a body of an accepted program.
use Rattle.kt_prog.specs.declared.runs.Operation.TheVariants as O
use Rattle.kt_frames.proofs.Standing.{next_there}
use Rattle.kt_frames.proofs.owner.OwnerOps.fold.Goals as goal

pub fold-requires : goal.fold-requires
fold-requires c =
    let r = c.requires in
    let there = next_there c.args.self.now r.program r.stands r.accepted r.job r.fits r.answers r.count (O.Fold c.args.object c.args.element c.args.op c.args.value) (r.next 0) in
    record { object = there.0; element = there.1 }
