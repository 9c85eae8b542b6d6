-- The end of a loop: what follows where nothing is left to retire, and that it may finish then.
use Rattle.std.proofs.Common.{◌≡◌, ℕ, zero, suc, true, false, List, [], ◌∷◌, map, sym, refl, ap, ◌∙◌, arith}
use mathlib.Core.Option.{some, some-injective, some-ne-none}
use lib.ListN.{get_elem?}
use Rattle.kt_order.specs.Books.{untaken, is_untaken}
use Rattle.kt_order.specs.Forest.{Phase, Finished}
use Rattle.kt_order.specs.Lists.{AllOf}
use Rattle.kt_order.proofs.Books.{book_finishes}
use Rattle.kt_runs.specs.ByPath.{Path}
use Rattle.kt_rule.specs.Paths.{put}
use Rattle.kt_rule.specs.Lies.{Loops, Done, IndexLie, Lie, Lies, is_gone}
use Rattle.kt_rule.specs.LoopWords.{LoopWords, Hand}
use Rattle.kt_rule.specs.LoopFacts.{phase_in, Looped}
use Rattle.kt_rule.proofs.LoopsStay.{SameLoop, put_stay, looped_stays}
use Rattle.kt_pieces.specs.Laws.{NoneLeft, LeftIsEnough}
use Rattle.kt_pieces.proofs.Begins.{no_pieces}
use Rattle.kt_pieces.proofs.Retires.{enough}

finished_at : (xs : List IndexLie) (i : ℕ) (x : IndexLie) → AllOf (λ ph. ph ≡ Finished) (map phase_in xs) → get_elem? xs i ≡ some x → x.phase ≡ Finished
finished_at [] i x all e = absurd (some-ne-none x (sym e))
finished_at (y ∷ xs) zero x all e = ap (λ (z : IndexLie). z.phase) (sym (some-injective y x e)) ∙ all.0
finished_at (y ∷ xs) (suc i) x all e = finished_at xs i x all.1 e

none_untaken : (phases : List Phase) → AllOf (λ ph. ph ≡ Finished) phases → (i : ℕ) → untaken phases i ≡ 0
none_untaken [] all i = refl
none_untaken (ph ∷ phases) all zero = ap is_untaken all.0
none_untaken (ph ∷ phases) all (suc i) = none_untaken phases all.1 i

pub none_left : NoneLeft
none_left workers lies s hands f p t is none_there =
    let b = f.booked p t is in
    let all = book_finishes (record { pieces = t.pieces; unretired = t.unretired }) (map phase_in t.indexes) b.book none_there in (
      λ i x e. finished_at t.indexes i x all e,
      no_pieces t.pieces b.book.pieces (λ i. b.book.covers i ∙ none_untaken (map phase_in t.indexes) all i),
    )

pub left_is_enough : LeftIsEnough
left_is_enough workers lies s hands f p t is id h at [] rest hand theirs = omega arith
left_is_enough workers lies s hands f p t is id h at (e ∷ done) rest hand theirs =
    enough workers lies s hands f id h at p t is (e ∷ done) rest hand (omega arith) theirs

-- a loop that has begun finishes
module _ (workers : ℕ) (lies : Lies) (s : LoopWords) (hands : List Hand) (f : Looped workers lies s hands) (p : Path) (t : Lie) (is : lies p ≡ some t)
    (k : ℕ) (loops : t.stage ≡ Loops k) (answers : List ℕ) (count : ℕ) where
  abbrev u : Lie
  u = record t { stage = Done; answers = answers; count = count }

  pub same_finished : SameLoop t u
  same_finished = record {
    berth = refl;
    first = refl;
    unretired = refl;
    indexes = refl;
    pieces = refl;
    gone = sym (ap is_gone loops);
    early = λ e. absurd (false_true e);
  }
    where
      false_true : false ≡ true → ⊥
      false_true e = cc

  pub finished_looped : Looped workers (put lies p (some u)) s hands
  finished_looped = looped_stays workers lies (put lies p (some u)) (put_stay lies p t u is same_finished) s hands f
