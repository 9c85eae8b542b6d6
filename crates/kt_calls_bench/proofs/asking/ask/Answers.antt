use Rattle.std.proofs.Common.{◌∙◌, sym}
use Rattle.kt_worker.proofs.Requests.{posted, settled, tried_both, asks_both, crew_learnt, worker_learnt, promised_learnt, setup_of, idle_asks}
use Rattle.kt_calls_bench.proofs.asking.ask.Goals as goal

pub serve_if_free-requires : goal.serve_if_free-requires
serve_if_free-requires g c =
    let a = posted _ _ 0 c.requires.may.idle c.post.ensures.posted in
    record {
      crew = crew_learnt _ _ a.learnt c.requires.may.crew;
      victim = worker_learnt _ _ 0 a.learnt c.requires.may.victim;
      free = a.free;
      leads = a.leads;
      none = promised_learnt _ _ a.learnt ∙ c.requires.may.idle.promised;
      objects = λ j told. c.requires.may.objects j (sym (setup_of _ _ a.learnt) ∙ told);
      entries = c.requires.may.entries;
    }

pub look-requires : goal.look-requires
look-requires g c =
    let a = asks_both _ _ _ (posted _ _ 0 c.requires.may.idle c.post.ensures.posted) c.serve_if_free.ensures.served in
    record { crew = crew_learnt _ _ a.learnt c.requires.may.crew; busy = a.free }

pub returns-clause-tried : goal.returns-clause-tried
returns-clause-tried g c =
    let a = asks_both _ _ _ (posted _ _ 0 c.requires.may.idle c.post.ensures.posted) c.serve_if_free.ensures.served in
    tried_both _ _ _ c.look.result a
    (settled _ _ c.look.ensures.looked.0 c.look.result (idle_asks _ _ c.requires.may.idle a) a.free a.leads c.look.ensures.inside c.look.ensures.piece_inside c.look.ensures.looked.2)
