use Rattle.std.proofs.Common.{sym, ◌∙◌, refl}
use Rattle.kt_posts.specs.declared.answers.Answer.TheVariants as A
use Rattle.kt_worker.proofs.Requests.{posted, tried_both, crew_learnt, worker_learnt, promised_learnt, setup_of, idle_asks}
use Rattle.kt_worker.proofs.asking.ask.Goals as goal

pub loop-init : goal.loop-init
loop-init g c = (tt, tt, posted _ _ c.args.victim c.requires.idle c.post.ensures.posted, record { objects = refl; entries = refl })

pub try_once-requires : goal.try_once-requires
try_once-requires g c =
    let a = c.loop.invariant.2 in
    let room = c.loop.invariant.3 in
    record {
      crew = crew_learnt _ _ a.learnt c.requires.crew;
      victim = worker_learnt _ _ c.args.victim a.learnt c.requires.victim;
      free = a.free;
      leads = a.leads;
      none = promised_learnt _ _ a.learnt ∙ c.requires.idle.promised;
      given = idle_asks _ _ c.requires.idle a;
      objects = λ j told. rw room.objects (c.requires.objects j (sym (setup_of _ _ a.learnt) ∙ told));
      entries = rw room.entries c.requires.entries;
    }

pub loop-preserved : goal.loop-preserved
loop-preserved g c =
    let a = c.loop.invariant.2 in
    let room = c.loop.invariant.3 in
    let new = (c.in-NotYet.ensures {u = tt}) in (
      tt,
      tt,
      tried_both _ _ _ A.NotYet a new.tried,
      record { objects = new.room.objects ∙ room.objects; entries = new.room.entries ∙ room.entries },
    )

pub returns-in-Failed-clause-came : goal.returns-in-Failed-clause-came
returns-in-Failed-clause-came g c = tried_both _ _ _ A.Failed c.loop.invariant.2 (c.in-Failed.ensures {u = tt}).tried

pub returns-in-Task-clause-came : goal.returns-in-Task-clause-came
returns-in-Task-clause-came g c = tried_both _ _ _ (A.Task _) c.loop.invariant.2 (c.in-Task.ensures {u = tt}).tried

pub returns-in-Piece-clause-came : goal.returns-in-Piece-clause-came
returns-in-Piece-clause-came g c = tried_both _ _ _ (A.Piece _ _) c.loop.invariant.2 (c.in-Piece.ensures {u = tt}).tried
