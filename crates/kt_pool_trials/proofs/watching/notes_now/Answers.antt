use Rattle.std.proofs.Common.{◌≡◌, ◌∷◌, ap, refl}
use Rattle.kt_rule.specs.Steps.{going}
use Rattle.kt_rule.specs.declared.views.View.{View}
use Rattle.kt_words.specs.Words.{packed_state}
use Rattle.kt_tasks.specs.Accesses.{found_of}
use Rattle.kt_worker.proofs.Turning.{calm_stands}
use Rattle.kt_pool_trials.proofs.Driving.{calm_noted, noted_ready}
use Rattle.kt_pool_trials.proofs.watching.notes_now.Goals as goal

pub note_accesses-requires-clause-looked : goal.note_accesses-requires-clause-looked
note_accesses-requires-clause-looked g c = (
  packed_state c.stand-state.result,
  going c.args.at c.args.worker.run.hand.seat.token.me.0.seen.notes,
  ap (λ (y : View). y.seen.notes) c.stand-state.ensures.looked,
)

pub stands-requires : goal.stands-requires
stands-requires g c =
    record { equipped = c.requires.equipped; stands = (calm_stands _ _ _ _ _ c.args.at _ c.stand-state.ensures.looked c.requires.calm).0 }

pub stands-requires-2 : goal.stands-requires-2
stands-requires-2 g c =
    let v = c.args.worker.run.hand.seat.token.me.0 in
    let x = c.stand-state.result in
    let calm = (calm_stands _ _ _ _ _ c.args.at _ c.stand-state.ensures.looked c.requires.calm).0 in
    let noted = c.note_accesses.ensures.found (packed_state x) (going c.args.at v.seen.notes) (ap (λ (y : View). y.seen.notes) c.stand-state.ensures.looked) in
    record {
      equipped = c.requires.equipped;
      stands = (
        calm_noted c.stand-state.new.self.hand.seat.token.me.0 _ _ _ _ (found_of c.args.at (packed_state x) noted.0 ∷ going c.args.at v.seen.notes) noted.1 calm,
        noted_ready c.stand-state.new.self.hand.seat.token.me.0 _ c.args.at x noted.0 (going c.args.at v.seen.notes) noted.1 c.stand-state.ensures.state (c.is_first_unclaimed.ensures.stand c.if-not-is_first_unclaimed.false)
            (c.is_first_unclaimed.ensures.fork c.if-not-is_first_unclaimed.false),
        c.requires.near,
      );
    }
