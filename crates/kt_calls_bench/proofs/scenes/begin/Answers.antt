use Rattle.kt_worker.proofs.Turning.{calm_fresh, calm_of}
use Rattle.kt_calls_bench.proofs.Requests.{calm_asks}
use Rattle.kt_calls_bench.proofs.scenes.begin.Goals as goal

pub first_turn-worker-requires-clause-calm : goal.first_turn-worker-requires-clause-calm
first_turn-worker-requires-clause-calm g c = rw (c.tally_of-tally.ensures, c.worker.ensures) (calm_fresh _ _ c.requires.fresh)

pub returns : goal.returns
returns g c =
    let h = c.first_turn-worker.ensures in
    record { may = λ e. calm_asks _ _ _ _ _ (calm_of _ _ _ _ _ _ e h.turns).0 h.room }
