use Rattle.std.proofs.Common.{◌≡◌, ◌<◌, ◌*◌, List, subst}
use Rattle.kt_words.specs.declared.pairs.Pair.{Pair}
use Rattle.kt_rule.specs.declared.views.View.{View}
use Rattle.kt_loops.specs.Calls.{HasSplit}
use Rattle.kt_loops.specs.Told.{IsLoopAt}
use Rattle.kt_loops.specs.declared.splits.Divided.{Divided}
use Rattle.kt_loops.specs.declared.splits.Divided.TheVariants as D
use Rattle.kt_worker.proofs.Turning.{calm_crew}
use Rattle.kt_pool_trials.proofs.Driving.{worker_zero}
use Rattle.kt_pool_trials.proofs.Intervals.{calm_uncut, cut_piece, some_piece}
use Rattle.kt_pool_trials.proofs.looping.splits_now.Goals as goal

pub split-cut-requires : goal.split-cut-requires
split-cut-requires g c = record { crew = calm_crew _ _ _ _ c.requires.calm; victim = worker_zero _ _ _ _ c.requires.calm }

pub bounds-as_slice-0 : goal.bounds-as_slice-0
bounds-as_slice-0 g c =
    let v = c.args.worker.run.hand.seat.token.me.0 in
    let w = c.split-cut.new.hand.seat.token.me.0 in
    let got : HasSplit 0 v 1 w (D.Got c.in-Got.at c.in-Got.pieces) = subst (λ (d : Divided). HasSplit 0 v 1 w d) c.in-Got.is c.split-cut.ensures.split in
    rw c.as_slice.ensures.value (some_piece v c.args.worker.program.now c.args.worker.tally c.args.tools.stack.levels c.requires.calm w c.in-Got.at _ _ _ got.2.3 got.2.4)

pub stands-requires : goal.stands-requires
stands-requires g c =
    let v = c.args.worker.run.hand.seat.token.me.0 in
    let w = c.split-cut.new.hand.seat.token.me.0 in
    let got : HasSplit 0 v 1 w (D.Got c.in-Got.at c.in-Got.pieces) = subst (λ (d : Divided). HasSplit 0 v 1 w d) c.in-Got.is c.split-cut.ensures.split in
    let q = c.requires.calm.quiet in
    record {
      equipped = c.requires.equipped;
      stands = rw c.as_slice.ensures.value (cut_piece v _ _ _ c.requires.calm w c.in-Got.at got.0 _ _ _ _ _ got.2.3 got.2.4 got.1.lies
          (record { setup = q.setup; told = q.told; below = (got.1.inside q.setup q.told).0 }) got.2.6);
    }

pub stands-requires-in-Short : goal.stands-requires-in-Short
stands-requires-in-Short g c =
    let v = c.args.worker.run.hand.seat.token.me.0 in
    let w = c.split-cut.new.hand.seat.token.me.0 in
    let short = subst (λ (d : Divided). HasSplit 0 v 1 w d) c.in-Short.is c.split-cut.ensures.split in
    record { equipped = c.requires.equipped; stands = calm_uncut v _ _ _ c.requires.calm w _ short.4 }

pub stands-requires-in-Moved : goal.stands-requires-in-Moved
stands-requires-in-Moved g c =
    let v = c.args.worker.run.hand.seat.token.me.0 in
    let w = c.split-cut.new.hand.seat.token.me.0 in
    let moved = subst (λ (d : Divided). HasSplit 0 v 1 w d) c.in-Moved.is c.split-cut.ensures.split in
    record { equipped = c.requires.equipped; stands = calm_uncut v _ _ _ c.requires.calm w _ moved.4 }
