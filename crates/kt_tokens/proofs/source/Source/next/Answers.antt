use Rattle.kt_tokens.proofs.Places.{next_is}
use Rattle.kt_tokens.proofs.source.Source.next.Goals as goal

pub returns : goal.returns
returns c = next_is c.self.inside.job.now c.self.inside.at c.self.inside.gauge c.self.inside.next.tok c.args.self.now c.self.view_is c.self.invariant.2
