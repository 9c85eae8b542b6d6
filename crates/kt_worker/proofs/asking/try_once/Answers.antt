use Rattle.std.proofs.Common.{◌∙◌}
use Rattle.kt_worker.proofs.Requests.{settled, tried_both, crew_learnt}
use Rattle.kt_worker.proofs.asking.try_once.Goals as goal

pub look-requires : goal.look-requires
look-requires g c = record {
  crew = crew_learnt _ _ c.serve_if_free.ensures.served.learnt c.requires.crew;
  busy = c.serve_if_free.ensures.served.free;
}

pub returns-clause-tried : goal.returns-clause-tried
returns-clause-tried g c =
    let a = c.serve_if_free.ensures.served in
    tried_both _ _ _ c.look.result a
    (settled _ _ c.look.ensures.looked.0 c.look.result (a.given ∙ c.requires.given) a.free a.leads c.look.ensures.inside c.look.ensures.piece_inside c.look.ensures.looked.2)
