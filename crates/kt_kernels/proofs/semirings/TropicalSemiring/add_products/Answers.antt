use Rattle.kt_kernels.proofs.Vectors.{least_sums}
use Rattle.kt_kernels.proofs.semirings.TropicalSemiring.add_products.Goals as goal

pub returns : goal.returns
returns c = least_sums c.args.x c.args.sums c.args.ys c.ranges.x.fits c.fits-ys.0
