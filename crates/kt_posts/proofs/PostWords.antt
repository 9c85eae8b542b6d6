-- Post words: which post a word is of, and where the words of the workers stand.
use Rattle.std.proofs.Common.{◌≡◌, ℕ, ◌<◌, true, false, refl, ap, arith}
use Rattle.kt_words.specs.Places.{place, worker_word, Own}
use Rattle.kt_words.specs.Words.{packed_post}
use Rattle.kt_words.specs.declared.layouts.Layout.{Layout}
use Rattle.kt_words.specs.declared.posts.Post.{Post}
use Rattle.kt_words.specs.declared.posts.Post.TheVariants as P
use Rattle.kt_words.proofs.PlaceLaws.{places_differ}
use Rattle.kt_rule.specs.Requests.{IsAnswer}
use Rattle.kt_posts.specs.Desks.{is_answer, is_idle}

-- a post word tells its post
pub post_same : (a b : Post) → packed_post a ≡ packed_post b → a ≡ b
unfolding packed_post
post_same P.Idle P.Idle e = refl
post_same P.Idle (P.Posted v) e = absurd (omega arith)
post_same P.Idle (P.Held v) e = absurd (omega arith)
post_same P.Idle P.Failed e = absurd (omega arith)
post_same P.Idle (P.Task v) e = absurd (omega arith)
post_same P.Idle (P.Piece v) e = absurd (omega arith)
post_same (P.Posted u) P.Idle e = absurd (omega arith)
post_same (P.Posted u) (P.Posted v) e = let h : u ≡ v = omega arith in ap P.Posted h
post_same (P.Posted u) (P.Held v) e = absurd (omega arith)
post_same (P.Posted u) P.Failed e = absurd (omega arith)
post_same (P.Posted u) (P.Task v) e = absurd (omega arith)
post_same (P.Posted u) (P.Piece v) e = absurd (omega arith)
post_same (P.Held u) P.Idle e = absurd (omega arith)
post_same (P.Held u) (P.Posted v) e = absurd (omega arith)
post_same (P.Held u) (P.Held v) e = let h : u ≡ v = omega arith in ap P.Held h
post_same (P.Held u) P.Failed e = absurd (omega arith)
post_same (P.Held u) (P.Task v) e = absurd (omega arith)
post_same (P.Held u) (P.Piece v) e = absurd (omega arith)
post_same P.Failed P.Idle e = absurd (omega arith)
post_same P.Failed (P.Posted v) e = absurd (omega arith)
post_same P.Failed (P.Held v) e = absurd (omega arith)
post_same P.Failed P.Failed e = refl
post_same P.Failed (P.Task v) e = absurd (omega arith)
post_same P.Failed (P.Piece v) e = absurd (omega arith)
post_same (P.Task u) P.Idle e = absurd (omega arith)
post_same (P.Task u) (P.Posted v) e = absurd (omega arith)
post_same (P.Task u) (P.Held v) e = absurd (omega arith)
post_same (P.Task u) P.Failed e = absurd (omega arith)
post_same (P.Task u) (P.Task v) e = let h : u ≡ v = omega arith in ap P.Task h
post_same (P.Task u) (P.Piece v) e = absurd (omega arith)
post_same (P.Piece u) P.Idle e = absurd (omega arith)
post_same (P.Piece u) (P.Posted v) e = absurd (omega arith)
post_same (P.Piece u) (P.Held v) e = absurd (omega arith)
post_same (P.Piece u) P.Failed e = absurd (omega arith)
post_same (P.Piece u) (P.Task v) e = absurd (omega arith)
post_same (P.Piece u) (P.Piece v) e = let h : u ≡ v = omega arith in ap P.Piece h

pub idle_zero : packed_post P.Idle ≡ 0
unfolding packed_post
idle_zero = refl

pub not_idle_pos : (o : Post) → is_idle o ≡ false → 0 < packed_post o
unfolding packed_post
not_idle_pos P.Idle h = cc
not_idle_pos (P.Posted v) h = omega arith
not_idle_pos (P.Held v) h = omega arith
not_idle_pos P.Failed h = omega arith
not_idle_pos (P.Task a) h = omega arith
not_idle_pos (P.Piece a) h = omega arith

pub pos_not_idle : (o : Post) → 0 < packed_post o → is_idle o ≡ false
pos_not_idle P.Idle e = let z = idle_zero in absurd (omega arith)
pos_not_idle (P.Posted v) e = refl
pos_not_idle (P.Held v) e = refl
pos_not_idle P.Failed e = refl
pos_not_idle (P.Task a) e = refl
pos_not_idle (P.Piece a) e = refl

-- a word that is 0 is no other post's than Idle's
pub idle_not : (o : Post) → 0 ≡ packed_post o → is_idle o ≡ false → ⊥
idle_not o e h = let a = not_idle_pos o h in absurd (omega arith)

pub answer_is : (o : Post) → is_answer o ≡ true → IsAnswer o
answer_is P.Idle e = cc
answer_is (P.Posted v) e = cc
answer_is (P.Held v) e = cc
answer_is P.Failed e = tt
answer_is (P.Task a) e = tt
answer_is (P.Piece a) e = tt

pub is_answered : (o : Post) → IsAnswer o → is_answer o ≡ true
is_answered P.Idle h = absurd h
is_answered (P.Posted v) h = absurd h
is_answered (P.Held v) h = absurd h
is_answered P.Failed h = refl
is_answered (P.Task a) h = refl
is_answered (P.Piece a) h = refl

pub posted_one : (u v : ℕ) → packed_post (P.Posted u) ≡ packed_post (P.Posted v) → u ≡ v
unfolding packed_post
posted_one u v e = omega arith

pub held_one : (u v : ℕ) → packed_post (P.Held u) ≡ packed_post (P.Held v) → u ≡ v
unfolding packed_post
held_one u v e = omega arith

pub task_one : (u v : ℕ) → packed_post (P.Task u) ≡ packed_post (P.Task v) → u ≡ v
unfolding packed_post
task_one u v e = omega arith

pub piece_one : (u v : ℕ) → packed_post (P.Piece u) ≡ packed_post (P.Piece v) → u ≡ v
unfolding packed_post
piece_one u v e = omega arith

-- one word of one worker
pub worker_one : (l : Layout) (k i : ℕ) (o : Own) → k < l.workers → i < l.workers
    → place l (worker_word k o) ≡ place l (worker_word i o) → k ≡ i
worker_one l k i o in_k in_i e = let h = places_differ l (worker_word k o) (worker_word i o) in_k in_i e in let r : k ≡ i = cc in r
