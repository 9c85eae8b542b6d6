-- What a worker makes of the word that it found in its own post.
use Rattle.std.proofs.Common.{◌≡◌, ◌≢◌, ◌==◌, ℕ, MatchBool, ne_eqb, refl, ap, subst}
use Rattle.kt_words.specs.Words.{packed_post}
use Rattle.kt_words.specs.declared.posts.Post.{Post}
use Rattle.kt_words.specs.declared.posts.Post.TheVariants as P
use Rattle.kt_rule.specs.declared.views.View.{View}
use Rattle.kt_posts.specs.declared.answers.Answer.{Answer}
use Rattle.kt_posts.specs.Answered.{Settled, Withdrew}

-- the view keeps the word that was found
pub settled_word : (v w : View) (o : Post) (a : Answer) → Settled o v w a → w.desk.word ≡ packed_post o
settled_word v w P.Idle a h = absurd h
settled_word v w (P.Posted x) a h = ap (λ (z : View). z.desk.word) h.1
settled_word v w (P.Held x) a h = ap (λ (z : View). z.desk.word) h.1
settled_word v w P.Failed a h = ap (λ (z : View). z.desk.word) h.1
settled_word v w (P.Task b) a h = ap (λ (z : View). z.desk.word) h.1.2
settled_word v w (P.Piece b) a h = ap (λ (z : View). z.desk.word) h.4

-- what is no request is settled
pub withdrew_else : (v w : View) (o : Post) (a : Answer) → ((x : ℕ) → o ≢ P.Posted x) → Settled o v w a → Withdrew o v w a
withdrew_else v w P.Idle a no_request h = h
withdrew_else v w (P.Posted x) a no_request h = absurd (no_request x refl)
withdrew_else v w (P.Held x) a no_request h = h
withdrew_else v w P.Failed a no_request h = h
withdrew_else v w (P.Task b) a no_request h = h
withdrew_else v w (P.Piece b) a no_request h = h

-- what is told of an exchange that found another word
pub told_miss : (A B : Type 0) (n old : ℕ) → MatchBool (n == old) A B → n ≢ old → B
told_miss A B n old h miss = subst (λ b. MatchBool b A B) (ne_eqb n old miss) h
