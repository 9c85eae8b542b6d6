use Rattle.kt_io.proofs.Completeness.{ends_whole}
use Rattle.kt_io.proofs.laws.ends_without_faults.Goals as goal

pub returns : goal.returns
returns g c = λ faults words job source sink exit reads writes ends. ends_whole faults (g.A.Answering.answers words job) source sink exit reads writes ends
