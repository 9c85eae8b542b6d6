use Rattle.kt_pool_trials.proofs.rows.one_serve_answers_seven.Goals as goal

pub play_eight-crowd-requires-clause-accepted : goal.play_eight-crowd-requires-clause-accepted
play_eight-crowd-requires-clause-accepted g c = c.in_ok-program.ensures
