use Rattle.std.proofs.Common.{◌≡◌, ℕ, List, subst, arith}
use Rattle.kt_prog.specs.declared.programs.Program.{Program}
use Rattle.kt_rule.specs.declared.views.View.{View}
use Rattle.kt_words.specs.declared.pairs.Pair.{Pair}
use Rattle.kt_worker.specs.Asking.{Came}
use Rattle.kt_worker.specs.Levels.{Calm}
use Rattle.kt_worker.specs.Turns.{HasPiece}
use Rattle.kt_worker.specs.declared.asking.Gotten.{Gotten}
use Rattle.kt_worker.specs.declared.asking.Gotten.TheVariants as G
use Rattle.kt_worker.specs.declared.stacks.Level.{Level}
use Rattle.kt_worker.specs.declared.tallies.Tally.{Tally}
use Rattle.kt_worker.proofs.Intervals.{interval_crew, interval_none_taken, interval_run, piece_crew, piece_held, piece_inside, piece_may, ran_own}
use Rattle.kt_worker.proofs.Turning.{calm_answered, calm_crew, calm_idle, calm_victim, extends_learnt, setup_one, turns_after, victim_below}
use Rattle.kt_worker.proofs.turns.search.Goals as goal

pub next_victim-victim-requires : goal.next_victim-victim-requires
next_victim-victim-requires g c =
    let q = c.requires.calm.quiet in
    let is = c.workers.ensures q.setup q.told in
    let own = q.own in
    omega (arith, is, own)

pub ask-found-requires : goal.ask-found-requires
ask-found-requires g c =
    let q = c.requires.calm.quiet in
    record {
      crew = calm_crew _ _ _ _ c.requires.calm;
      victim = victim_below _ _ _ _ c.requires.calm _ c.workers.result (c.workers.ensures q.setup q.told) c.next_victim-victim.ensures;
      idle = calm_idle _ _ _ _ c.requires.calm;
      objects = λ j told. rw (c.restart.ensures.room.objects, setup_one _ _ _ _ c.requires.calm j told) c.requires.room.objects;
      entries = rw c.restart.ensures.room.entries c.requires.room.entries;
    }

pub returns-in-Nothing-clause-turns : goal.returns-in-Nothing-clause-turns
returns-in-Nothing-clause-turns g c =
    let came = subst (λ (o : Gotten). Came (g.R.Run.view c.args.worker.run) (g.R.Run.view c.ask-found.new.run) o) c.in-Nothing.is c.ask-found.ensures.came in
    calm_answered _ _ _ _ _ came.0 came.1 came.2 (calm_victim _ _ _ _ c.next_victim-victim.result c.requires.calm)

pub run_given-requires-clause-given : goal.run_given-requires-clause-given
run_given-requires-clause-given g c =
    let came = subst (λ (o : Gotten). Came (g.R.Run.view c.args.worker.run) (g.R.Run.view c.ask-found.new.run) o) c.in-Task.is c.ask-found.ensures.came in
    record { before = _; calm = calm_victim _ _ _ _ c.next_victim-victim.result c.requires.calm; answered = came.0; given = came.1; pieces = came.2 }

pub returns-in-Task-clause-turns : goal.returns-in-Task-clause-turns
returns-in-Task-clause-turns g c =
    let came = subst (λ (o : Gotten). Came (g.R.Run.view c.args.worker.run) (g.R.Run.view c.ask-found.new.run) o) c.in-Task.is c.ask-found.ensures.came in
    turns_after (g.R.Run.view c.args.worker.run) (g.R.Run.view c.ask-found.new.run) _ _ _ _ _ (extends_learnt _ _ came.0.learnt) c.run_given.ensures.turns

-- what came is a piece
has_piece : (v w : View) (p : Program) (t : Tally) (levels : List Level) (n at : ℕ) (pair : Pair) (o : Gotten) → o ≡ G.Piece at pair → Came v w o → Calm v p t levels
    → HasPiece w p (record t { victim = n }) levels at pair
has_piece v w p t levels n at pair o is found c =
    let came = subst (λ (x : Gotten). Came v w x) is found in
    record { before = v; calm = calm_victim v p t levels n c; answered = came.0; none = came.1; given = came.2 }

pub take_piece-requires : goal.take_piece-requires
take_piece-requires g c =
    let h = has_piece _ _ _ _ _ c.next_victim-victim.result _ _ _ c.in-Piece.is c.ask-found.ensures.came c.requires.calm in
    record { crew = piece_crew _ _ _ _ _ _ h; inside = piece_inside _ _ _ _ _ _ h; may = piece_may _ _ _ _ _ _ h }

pub run_own-requires : goal.run_own-requires
run_own-requires g c =
    let h = has_piece _ _ _ _ _ c.next_victim-victim.result _ _ _ c.in-Piece.is c.ask-found.ensures.came c.requires.calm in
    let i = (piece_held _ _ _ _ _ _ h _ c.take_piece.ensures.held).0 in
    record {
      crew = interval_crew _ _ _ _ _ i;
      inside = i.inside;
      program = interval_run _ _ _ _ _ i c.requires.accepted;
      firsts = c.requires.firsts;
      home = i.home;
      none_taken = interval_none_taken _ _ _ _ _ i;
    }

pub returns-in-Piece-clause-turns : goal.returns-in-Piece-clause-turns
unfolding has_piece
returns-in-Piece-clause-turns g c =
    let h = has_piece _ _ _ _ _ c.next_victim-victim.result _ _ _ c.in-Piece.is c.ask-found.ensures.came c.requires.calm in
    let i = piece_held _ _ _ _ _ _ h _ c.take_piece.ensures.held in
    turns_after (g.R.Run.view c.args.worker.run) (g.R.Run.view c.take_piece.new.self) _ _ _ _ _ i.1 (ran_own _ _ _ _ _ i.0 _ _ _ c.run_own.ensures.ran)
