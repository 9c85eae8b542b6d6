-- What a seat that asked for work was given.
use Rattle.std.specs.Prelude.{◌≡◌, ℕ, List, []}
use Rattle.kt_prog.specs.declared.programs.Program.{Program}
use Rattle.kt_words.specs.declared.pairs.Pair.{Pair}
use Rattle.kt_rule.specs.declared.views.View.{View}
use Rattle.kt_worker.specs.Asking.{HasSamePieces, IsAnswered, WasGiven, WasGivenPiece}
use Rattle.kt_worker.specs.Levels.{Calm}
use Rattle.kt_worker.specs.declared.stacks.Level.{Level}
use Rattle.kt_worker.specs.declared.tallies.Tally.{Tally}

-- between two turns it asked for work, and was given this task, which it is about to start
pub record IsAboutToStart (w : View) (p : Program) (t : Tally) (levels : List Level) (at : ℕ) : Type 0 where
  pub before : View
  pub calm : Calm before p t levels
  pub answered : IsAnswered before w
  pub given : WasGiven w at
  pub pieces : HasSamePieces before w

-- or it was given this piece of a loop
pub record HasPiece (w : View) (p : Program) (t : Tally) (levels : List Level) (at : ℕ) (pair : Pair) : Type 0 where
  pub before : View
  pub calm : Calm before p t levels
  pub answered : IsAnswered before w
  pub none : w.tasks.given ≡ []
  pub given : WasGivenPiece before w at pair
