-- The words of loops, by worker: how many positions were drawn, each worker's interval and home word, and the piece that stands in an answer.
use Rattle.std.specs.Prelude.{ℕ, zero, suc, ◌+◌, ◌-◌, ◌/◌, ◌%◌, ◌^◌, cond, nat_lt, nat_eq, List, map}
use Rattle.kt_order.specs.Books.{below}
use Rattle.kt_words.specs.Places.{Own, worker_word, post, answer, interval, home}
use Rattle.kt_words.specs.declared.layouts.Layout.{Layout}
use Rattle.kt_words.specs.declared.pairs.Pair.{Pair}
use Rattle.kt_rule.specs.declared.views.LoopHands.{LoopHands}
use Rattle.kt_rule.specs.declared.views.View.{View}
use Rattle.kt_rule.specs.Records.{word_at, positions_at}

pub record LoopWords : Type 0 where
  pub drawn : ℕ
  -- of a worker: the positions that it has, and 0 or 1 plus the record of their loop
  pub interval : ℕ → Pair
  pub home : ℕ → ℕ
  -- 0, or 1 plus the record of the loop where its post gives a piece, and the piece
  pub given : ℕ → ℕ
  pub piece : ℕ → Pair

-- the halves of a word
unfoldable pub pair_in : ℕ → Pair
pair_in word = record { low = word % 2 ^ 32; high = word / 2 ^ 32 }

unfoldable pub piece_in : ℕ → ℕ
piece_in word = cond (nat_eq (word % 2 ^ 3) 5) (suc (word / 2 ^ 3)) 0

-- what a post gives of an answer word beside it: nothing where it gives no piece
abbrev pub picked : ℕ → Pair → Pair
picked zero s = record { low = 0; high = 0 }
picked (suc a) s = s

abbrev pub piece_beside : ℕ → ℕ → Pair
piece_beside beside word = picked (piece_in beside) (pair_in word)

-- a worker's word, and 0 for a number that is no worker's
abbrev pub own_word : Layout → List ℕ → Own → ℕ → ℕ
own_word l ws o k = cond (nat_lt k l.workers) (word_at l ws (worker_word k o)) 0

abbrev pub loop_words : Layout → List ℕ → LoopWords
loop_words l ws = record {
  drawn = word_at l ws positions_at;
  interval = λ k. pair_in (own_word l ws interval k);
  home = λ k. own_word l ws home k;
  given = λ k. piece_in (own_word l ws post k);
  piece = λ k. piece_beside (own_word l ws post k) (own_word l ws answer k);
}

-- what a seat has in hand of loops, and how many seats it stands for
pub record Hand : Type 0 where
  pub parts : ℕ
  pub loops : LoopHands

abbrev pub hand_of : View → Hand
hand_of v = record { parts = v.parts; loops = v.loops }

abbrev pub hands_of : List View → List Hand
hands_of views = map hand_of views

-- 1 where the position is from the lower up to the higher, else 0
abbrev pub between : ℕ → ℕ → ℕ → ℕ
between low high x = below high x - below low x

abbrev pub sum_below : ℕ → (ℕ → ℕ) → ℕ
sum_below zero f = 0
sum_below (suc n) f = f n + sum_below n f
