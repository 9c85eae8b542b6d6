use Rattle.kt_kernels.proofs.Shifted.{get_or-all_weighted, length-all_weighted}
use Rattle.kt_kernels.proofs.rows.weighted.Goals as goal

pub returns-clause-lanes : goal.returns-clause-lanes
returns-clause-lanes c = length-all_weighted c.args.previous c.args.here c.args.behind c.fits-here.0

pub returns-clause-values : goal.returns-clause-values
returns-clause-values c = get_or-all_weighted c.args.previous c.args.here c.args.behind c.fits-previous.0 c.fits-here.0
