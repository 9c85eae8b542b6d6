-- What a view learns while its seat asks for work and serves others meanwhile.
use Rattle.std.specs.Prelude.{◌≡◌, ℕ, true, false, [], ◌∷◌}
use Rattle.kt_runs.specs.ByPath.{Path}
use Rattle.kt_words.specs.declared.pairs.Pair.{Pair}
use Rattle.kt_rule.specs.declared.views.Spot.{Spot}
use Rattle.kt_rule.specs.declared.views.Share.{Share}
use Rattle.kt_rule.specs.declared.views.View.{View}
use Rattle.kt_rule.specs.Lists.{In}
use Rattle.kt_calls.specs.Ranges.{IsRecord}
use Rattle.kt_posts.specs.Desks.{pair_of}
use Rattle.kt_posts.specs.declared.answers.Answer.{Answer}
use Rattle.kt_posts.specs.declared.answers.Answer.TheVariants as A
use Rattle.kt_worker.specs.declared.asking.Gotten.{Gotten}
use Rattle.kt_worker.specs.declared.asking.Gotten.TheVariants as G

-- only this may be otherwise: what it claimed for others, what it was given, what it knows and noted, its desk, the pieces of loops
-- that it has in hand, and the interval that it saw
pub record Learnt (v w : View) : Type 0 where
  pub same : w ≡ record v {
    tasks = record v.tasks { claimed = w.tasks.claimed; given = w.tasks.given };
    seen = record v.seen { known = w.seen.known; notes = w.seen.notes };
    desk = w.desk;
    loops = record v.loops { pieces = w.loops.pieces; sight = w.loops.sight };
  }
  pub known : (p : Path) → In p v.seen.known → In p w.seen.known

-- it has the pieces in hand that it had
abbrev pub HasSamePieces : View → View → Type 0
HasSamePieces v w = w.loops.pieces ≡ v.loops.pieces

-- its request stands in its post, and it leads nobody
pub record Asks (v w : View) : Type 0 where
  pub learnt : Learnt v w
  pub given : w.tasks.given ≡ v.tasks.given
  pub pieces : HasSamePieces v w
  pub free : w.desk.free ≡ false
  pub leads : w.desk.leads ≡ false

-- the seat asks at no one, leads nobody and has nothing to start
pub record IsIdle (v : View) : Type 0 where
  pub given : v.tasks.given ≡ []
  pub promised : v.tasks.promised ≡ []
  pub free : v.desk.free ≡ true
  pub leads : v.desk.leads ≡ false

-- its post is idle again
pub record IsAnswered (v w : View) : Type 0 where
  pub learnt : Learnt v w
  pub free : w.desk.free ≡ true
  pub leads : w.desk.leads ≡ false

-- it was given the task of this record, and nothing else
pub record WasGiven (w : View) (at : ℕ) : Type 0 where
  pub task : Spot
  pub is : w.tasks.given ≡ task ∷ []
  pub lies : task.berth.at ≡ at
  pub inside : IsRecord w at

-- it was given this piece of the loop of this record
pub record WasGivenPiece (v w : View) (at : ℕ) (pair : Pair) : Type 0 where
  pub inside : IsRecord w at
  pub piece : Share
  pub is : w.loops.pieces ≡ piece ∷ v.loops.pieces
  pub lies : piece.spot.berth.at ≡ at
  pub pair_is : pair_of piece ≡ pair

-- what came of asking: nothing, a task, or a piece of a loop
abbrev pub Came : View → View → Gotten → Type 0
Came v w G.Nothing = IsAnswered v w × (w.tasks.given ≡ []) × HasSamePieces v w
Came v w (G.Task at) = IsAnswered v w × WasGiven w at × HasSamePieces v w
Came v w (G.Piece at pair) = IsAnswered v w × (w.tasks.given ≡ []) × WasGivenPiece v w at pair

-- what came of one try
abbrev pub Tried : View → View → Answer → Type 0
Tried v w A.NotYet = Asks v w
Tried v w A.Withdrawn = ⊥
Tried v w A.Failed = Came v w G.Nothing
Tried v w (A.Task at) = Came v w (G.Task at)
Tried v w (A.Piece at pair) = Came v w (G.Piece at pair)
