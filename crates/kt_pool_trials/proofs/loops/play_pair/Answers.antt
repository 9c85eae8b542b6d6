use Rattle.std.proofs.Common.{arith, ◌∙◌}
use Rattle.kt_pool_trials.proofs.Driving.{all_unmoved}
use Rattle.kt_pool_trials.proofs.loops.play_pair.Goals as goal

pub hired_pair-requires-clause-seats : goal.hired_pair-requires-clause-seats
hired_pair-requires-clause-seats g c =
    let q = c.requires.seats in
    let few = q.3 in (
      all_unmoved q.0 c.args.common.table.now c.args.common.program.now c.args.seats.items q.1 q.2 (omega (arith, few)) q.4,
      q.1.count ∙ q.3,
    )
