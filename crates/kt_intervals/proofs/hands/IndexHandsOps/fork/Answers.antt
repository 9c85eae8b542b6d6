use Rattle.kt_intervals.proofs.Stands.{forks_none}
use Rattle.kt_intervals.proofs.hands.IndexHandsOps.fork.Goals as goal

pub unreachable-requires : goal.unreachable-requires
unreachable-requires g c =
    let r = c.requires in
    forks_none _ _ r.program r.job r.answers r.count r.stands r.accepted r.fits _ (r.next 0)
