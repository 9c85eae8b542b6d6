use Rattle.kt_tasks.specs.Publications.{berth_of}
use Rattle.kt_tasks.proofs.publications.publish.Given as goal

abbrev pub ghosts-announce : goal.ghosts-announce
ghosts-announce a = record { berth = berth_of a.parent a.at a.frame a.fork a.child.now a.number }
