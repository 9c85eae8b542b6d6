-- What a step on a loop does to the core that words and views show, where it is more than one event: all events of the step, one after another. And what it makes
-- of the book of the loop.
use Rattle.std.specs.Prelude.{◌≡◌, ℕ, suc, List, map}
use Rattle.atomic_table.specs.Table.{State}
use Rattle.kt_order.specs.Books.{Book}
use Rattle.kt_prog.specs.Calls.{CallTree}
use Rattle.kt_prog.specs.declared.programs.Program.{Program}
use Rattle.kt_runs.specs.ByPath.{Path, ByPath, after_finish}
use Rattle.kt_runs.specs.Loops.{index_calls}
use Rattle.kt_words.specs.Places.{record_word}
use Rattle.kt_words.specs.declared.pairs.Pair.{Pair}
use Rattle.kt_pieces.specs.LoopMoves.{after_loop_begins, CanBeginLoop, after_taking, CanTakeIndexes, after_retiring, CanRetireIndexes, CanFinishLoop}
use Rattle.kt_rule.specs.declared.views.Setup.{Setup}
use Rattle.kt_rule.specs.declared.views.View.{View}
use Rattle.kt_rule.specs.Records.{layout_of, word_at}
use Rattle.kt_rule.specs.LoopWords.{pair_in}
use Rattle.kt_rule.specs.LoopFacts.{Rises, count_piece}
use Rattle.kt_rule.specs.Rule.{Slots, IsRuled}
use Rattle.kt_rule.specs.Shown.{shown, shown_book}

pub data LoopMove : Type 0 where
  -- the loop at a path, of this call, forks all its indexes, and its body ends
  BeginsLoop : Path → CallTree → LoopMove
  -- so many of its indexes, from one on, are claimed
  TakesIndexes : Path → ℕ → ℕ → LoopMove
  -- each of these indexes does its end or a fault, and is finished
  RetiresIndexes : Path → List ℕ → LoopMove
  -- the loop is finished, behind all its indexes
  FinishesLoop : Path → LoopMove

module _ (p : Program) where
  abbrev pub after_loop_move : LoopMove → ByPath p → ByPath p
  after_loop_move (BeginsLoop q call) x = after_loop_begins p (index_calls (map suc q) call 0 call.length) q x
  after_loop_move (TakesIndexes q i n) x = after_taking p i n q x
  after_loop_move (RetiresIndexes q is) x = after_retiring p is q x
  after_loop_move (FinishesLoop q) x = after_finish p q x

  -- each event is enabled in the core that the ones before it have made
  abbrev pub CanLoopMove : LoopMove → ByPath p → Type 0
  CanLoopMove (BeginsLoop q call) x = CanBeginLoop p (index_calls (map suc q) call 0 call.length) q x
  CanLoopMove (TakesIndexes q i n) x = CanTakeIndexes p i n q x
  CanLoopMove (RetiresIndexes q is) x = CanRetireIndexes p is q x
  CanLoopMove (FinishesLoop q) x = CanFinishLoop p q x

-- the shown core goes from the one state to the other by these events
pub record LoopMovesBy (j : Setup) (m : LoopMove) (s s' : State Slots View) : Type 0 where
  pub enabled : CanLoopMove j.program m (shown j s)
  pub after : shown j s' ≡ after_loop_move j.program m (shown j s)

-- the rule holds again, and the shown core has moved so
abbrev pub LoopEnters : Setup → LoopMove → State Slots View → State Slots View → Type 0
LoopEnters j m s s' = IsRuled j s' × LoopMovesBy j m s s'

-- THE BOOK

-- the first position of the loop in the record a, as the record tells it
abbrev pub first_at : Setup → State Slots View → ℕ → ℕ
first_at j s a = (pair_in (word_at (layout_of j) s.words (record_word a 3))).high

-- this is the book of the loop in the record a: words and views show just its pieces, each so often as it has it, and the record counts how many indexes are not
-- retired
pub record ShowsBook (j : Setup) (s : State Slots View) (a : ℕ) (b : Book) : Type 0 where
  pub pieces : (q : Pair) → (shown_book j s a).0 q ≡ count_piece q (first_at j s a) b.pieces
  pub rises : Rises 0 b.pieces
  pub unretired : (shown_book j s a).1 ≡ b.unretired

-- the step makes this of the book
abbrev pub BookGoes : Setup → ℕ → (Book → Book) → State Slots View → State Slots View → Type 0
BookGoes j a change s s' = (b : Book) × ShowsBook j s a b × ShowsBook j s' a (change b)
