use Rattle.std.proofs.Common.{ap, arith}
use Rattle.kt_worker.specs.Stacks.{Frames}
use Rattle.kt_worker.proofs.Intervals.{loop_begins, loop_crew, loop_inside, loop_room, loop_stops}
use Rattle.kt_worker.proofs.looping.begin.Goals as goal

pub begin_loop-requires : goal.begin_loop-requires
begin_loop-requires g c = record {
  crew = loop_crew _ _ _ _ _ c.requires.may;
  inside = loop_inside _ _ _ _ _ c.requires.may;
  may = c.requires.may.may;
}

pub push-requires : goal.push-requires
push-requires g c = let few = loop_room _ _ _ _ _ c.requires.may in rw c.requires.room.stack (omega (arith, few))

pub returns-in-Limit-clause-opened : goal.returns-in-Limit-clause-opened
returns-in-Limit-clause-opened g c = loop_stops _ _ _ _ _ c.requires.may _ _ (c.in-Limit.ensures {u = tt}).begun

pub returns-in-Begun-clause-opened : goal.returns-in-Begun-clause-opened
returns-in-Begun-clause-opened g c =
    rw (ap (λ (f : Frames). f.levels) c.push.ensures) (loop_begins _ _ _ _ _ c.requires.may _ _ (c.in-Begun.ensures {u = tt}).begun)
