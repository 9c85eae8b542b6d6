use Rattle.kt_kernels.proofs.Vectors.{added_products}
use Rattle.kt_kernels.proofs.semirings.WrappingSemiring.add_products.Goals as goal

pub returns : goal.returns
returns c = added_products c.args.x c.args.sums c.args.ys c.fits-ys.0
