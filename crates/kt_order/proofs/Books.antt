-- What is done to the book of a loop keeps it right.
use Rattle.std.proofs.Common.{◌≡◌, ℕ, zero, suc, ◌+◌, ◌-◌, ◌≤◌, List, [], ◌∷◌, length, Some, ◌⊎◌, inl, inr, replicate, refl, sym, ◌∙◌, arith}
use Rattle.kt_order.specs.Forest.{Phase, Unclaimed, Running, Ended, Finished}
use Rattle.kt_order.specs.Lists.{nth}
use Rattle.kt_order.specs.Books.{Piece, Book, holding, NoneEmpty, is_untaken, untaken, done_in, BookOk, whole_book, cut, CanTake, take, set_phase, set_running}
use Rattle.kt_order.specs.Lists.{AllOf}
use Rattle.kt_order.proofs.Phases.{AllUntaken, running_set, set_length, set_none_ended, ended_untaken, ended_done, done_le, all_done, look}
use Rattle.kt_order.proofs.Pieces.{untaken_all, none_ended_all, length_all, begin_pieces, begin_covers, cut_holds, cut_full, take_holds, take_full, can_holds}

pub book_begins : (n : ℕ) → BookOk (whole_book n) (replicate n Unclaimed)
book_begins n = record {
  pieces = begin_pieces n;
  covers = λ i. begin_covers n i ∙ sym (untaken_all n i);
  none_ended = none_ended_all n;
  retired = let h = length_all n in omega arith;
}

pub book_splits : (b : Book) (phases : List Phase) (at : ℕ) → BookOk b phases
    → BookOk (record { pieces = cut at b.pieces; unretired = b.unretired }) phases
book_splits b phases at ok = record {
  pieces = cut_full at b.pieces ok.pieces;
  covers = λ i. cut_holds at i b.pieces ∙ ok.covers i;
  none_ended = ok.none_ended;
  retired = ok.retired;
}

untaken_le : (i : ℕ) (phases : List Phase) → untaken phases i ≤ 1
untaken_le i [] = omega arith
untaken_le zero (ph ∷ phases) = one ph
  where
    one : (ph : Phase) → is_untaken ph ≤ 1
    one Unclaimed = omega arith
    one Running = omega arith
    one Ended = omega arith
    one Finished = omega arith
untaken_le (suc i) (ph ∷ phases) = untaken_le i phases

-- what can be taken was not taken
pub can_untaken : (b : Book) (phases : List Phase) (at n : ℕ) → BookOk b phases → CanTake at n b.pieces → AllUntaken at n phases
can_untaken b phases at n ok can = λ i from less. (let h = can_holds at n i b.pieces can from less in let e = ok.covers i in let most = untaken_le i phases in omega (arith, h, e, most))

pub book_takes : (b : Book) (phases : List Phase) (at n : ℕ) → BookOk b phases → CanTake at n b.pieces
    → BookOk (record { pieces = take at n b.pieces; unretired = b.unretired }) (set_running at n phases)
book_takes b phases at n ok can =
    let set = running_set n at phases (can_untaken b phases at n ok can) in
    record {
      pieces = take_full at n b.pieces ok.pieces;
      covers = λ i. (let h = take_holds at n i b.pieces can in let e = ok.covers i in let u = set.untaken i in omega (arith, h, e, u));
      none_ended = set.none_ended ok.none_ended;
      retired = (let h = ok.retired in let d = set.done in let l = set.length in omega (arith, h, d, l));
    }

-- the body of an index ends
pub book_ends : (b : Book) (phases : List Phase) (i : ℕ) → BookOk b phases → nth phases i ≡ Some Running
    → BookOk b (set_phase i Finished phases)
book_ends b phases i ok running = record {
  pieces = ok.pieces;
  covers = λ j. ok.covers j ∙ sym (ended_untaken i j phases running);
  none_ended = set_none_ended i Finished phases (λ e. cc e) ok.none_ended;
  retired = (let h = ok.retired in let d = ended_done i phases running in let l = set_length i Finished phases in omega (arith, h, d, l));
}

pub book_retires : (b : Book) (phases : List Phase) (n : ℕ) → n + length phases ≤ b.unretired + done_in phases → BookOk b phases
    → BookOk (record { pieces = b.pieces; unretired = b.unretired - n }) phases
book_retires b phases n can ok = record {
  pieces = ok.pieces;
  covers = ok.covers;
  none_ended = ok.none_ended;
  retired = (let most = done_le phases in omega (arith, can, most));
}

pub book_finishes : (b : Book) (phases : List Phase) → BookOk b phases → b.unretired ≡ 0 → AllOf (λ ph. ph ≡ Finished) phases
book_finishes b phases ok none = all_done phases (let h = ok.retired in omega (arith, h, none))

-- a piece can be taken from, an index is under way, an index can be retired, or none is unretired
pub book_goes : (b : Book) (phases : List Phase) → BookOk b phases
    → ((at : ℕ) × CanTake at 1 b.pieces) ⊎ (((i : ℕ) × (nth phases i ≡ Some Running)) ⊎ ((1 + length phases ≤ b.unretired + done_in phases) ⊎ (b.unretired ≡ 0)))
book_goes b phases ok = elim (look phases ok.none_ended) [
  | inl i ↦ inl (first b.pieces ok.pieces i.0 (ok.covers i.0 ∙ i.1))
  | inr (inl i) ↦ inr (inl i)
  | inr (inr all) ↦ retire b.unretired all
]
  where
    first : (pieces : List Piece) → NoneEmpty pieces → (i : ℕ) → holding pieces i ≡ 1 → (at : ℕ) × CanTake at 1 pieces
    first [] full i e = absurd (omega (arith, e))
    first (p ∷ pieces) full i e = (p.from, inl (refl, (let h = full.0 in omega (arith, h))))

    retire : (n : ℕ) → done_in phases ≡ length phases
        → ((at : ℕ) × CanTake at 1 b.pieces) ⊎ (((i : ℕ) × (nth phases i ≡ Some Running)) ⊎ ((1 + length phases ≤ n + done_in phases) ⊎ (n ≡ 0)))
    retire zero all = inr (inr (inr refl))
    retire (suc n) all = inr (inr (inl (omega (arith, all))))
