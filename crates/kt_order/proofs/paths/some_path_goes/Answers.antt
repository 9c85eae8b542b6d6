use Rattle.kt_order.proofs.PathGoes.{some_goes}
use Rattle.kt_order.specs.Named.{count_of}
use Rattle.kt_order.proofs.paths.some_path_goes.Goals as goal

pub returns : goal.returns
returns g c = λ depth x. some_goes g.P.Program.machine depth x.get (count_of g.P.Program.machine x.get)
