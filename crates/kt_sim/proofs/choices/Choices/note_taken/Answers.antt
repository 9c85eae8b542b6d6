use Rattle.kt_sim.proofs.Holding.{held_push}
use Rattle.kt_sim.proofs.choices.Choices.note_taken.Goals as goal

pub loop-turn-preserved : goal.loop-turn-preserved
loop-turn-preserved c = λ tasks below lt.
    let old = c.loop-turn.invariant tasks below lt in
    record {
      waiting = old.waiting;
      running = old.running;
      looping = old.looping;
      held = held_push tasks _ _ _ old.held lt (c.in_ok-push.ensures {u = tt}).items;
      parents = old.parents;
      count = old.count;
    }
