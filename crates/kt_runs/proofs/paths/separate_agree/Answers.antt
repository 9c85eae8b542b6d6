use Rattle.kt_order.specs.Paths.{place_of}
use Rattle.kt_order.proofs.Prefixes.{separate_places}
use Rattle.kt_runs.specs.ByPath.{core_of}
use Rattle.kt_runs.proofs.PathLines.{stands}
use Rattle.kt_runs.proofs.paths.separate_agree.Goals as goal

pub returns : goal.returns
returns c = λ p input ok x h a b apart there other way too.
    c.side_by_side_agree.ensures p input ok (core_of p x) h (place_of a) (place_of b) (x.get a) (x.get b) (separate_places a b apart) (stands p x a there) (stands p x b other) way too
