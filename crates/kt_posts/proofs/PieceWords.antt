-- What steps on requests, posts and answer words do to the words of loops: nothing, where the post gives no piece before and after.
use Rattle.std.proofs.Common.{◌≡◌, ◌≢◌, ℕ, zero, suc, ◌+◌, ◌*◌, ◌/◌, ◌%◌, ◌^◌, ◌<◌, ◌≤◌, Bool, true, false, cond, nat_eq, nat_lt, List, [], ◌∷◌, length, set, sym, refl, ap, ◌∙◌, subst, inl, inr, arith}
use mathlib.Core.Path.{fun_ext}
use native.Mathlib.Decide.{ℕ_discrete}
use Rattle.std.proofs.lemmas.Bool.{eqb-true}
use Rattle.std.proofs.lemmas.Bool.Decides.{nat_tests}
use Rattle.kt_words.specs.Places.{place, total_of, worker_word, Own, request, post, answer, interval, home}
use Rattle.kt_words.specs.Words.{packed_post, packed_pair, IsPair}
use Rattle.kt_words.specs.declared.layouts.Layout.{Layout}
use Rattle.kt_words.specs.declared.pairs.Pair.{Pair}
use Rattle.kt_words.specs.declared.posts.Post.{Post}
use Rattle.kt_words.specs.declared.posts.Post.TheVariants as P
use Rattle.kt_rule.specs.Records.{word_at, positions_at}
use Rattle.kt_rule.specs.declared.views.View.{View}
use Rattle.kt_rule.specs.LoopWords.{pair_in, piece_in, picked, piece_beside, own_word, loop_words, hand_of, hands_of}
use Rattle.kt_rule.proofs.Shelf as shelf
use Rattle.kt_rule.proofs.LoopsStay.{own_there, words_quiet}

-- 0, or 1 plus the record where a post gives a piece
abbrev pub piece_of : Post → ℕ
piece_of P.Idle = 0
piece_of (P.Posted victim) = 0
piece_of (P.Held victim) = 0
piece_of P.Failed = 0
piece_of (P.Task at) = 0
piece_of (P.Piece at) = suc at

other_kind : (n : ℕ) → (n % 2 ^ 3 ≡ 5 → ⊥) → piece_in n ≡ 0
unfolding piece_in
other_kind n not_piece = go (nat_eq (n % 2 ^ 3) 5) refl
  where
    go : (b : Bool) → nat_eq (n % 2 ^ 3) 5 ≡ b → cond b (suc (n / 2 ^ 3)) 0 ≡ 0
    go true e = absurd (not_piece (eqb-true (n % 2 ^ 3) 5 e))
    go false e = refl

piece_kind : (n a : ℕ) → n % 2 ^ 3 ≡ 5 → n / 2 ^ 3 ≡ a → piece_in n ≡ suc a
unfolding piece_in
piece_kind n a is number = go (nat_eq (n % 2 ^ 3) 5) refl
  where
    go : (b : Bool) → nat_eq (n % 2 ^ 3) 5 ≡ b → cond b (suc (n / 2 ^ 3)) 0 ≡ suc a
    go true e = ap suc number
    go false e = absurd (let h : nat_eq (n % 2 ^ 3) 5 ≡ true = grind (arith, is, nat_tests) in let z : true ≡ false = sym h ∙ e in cc)

pub piece_none : (o : Post) → piece_of o ≡ 0 → piece_in (packed_post o) ≡ 0
unfolding packed_post
piece_none P.Idle e = other_kind _ (λ h. absurd (omega (arith, h)))
piece_none (P.Posted victim) e = other_kind _ (λ h. absurd (omega (arith, h)))
piece_none (P.Held victim) e = other_kind _ (λ h. absurd (omega (arith, h)))
piece_none P.Failed e = other_kind _ (λ h. absurd (omega (arith, h)))
piece_none (P.Task at) e = other_kind _ (λ h. absurd (omega (arith, h)))
piece_none (P.Piece at) e = absurd (omega (arith, e))

pub piece_some : (a : ℕ) → piece_in (packed_post (P.Piece a)) ≡ suc a
unfolding packed_post
piece_some a = piece_kind _ a (omega arith) (omega arith)

-- PAIRS

-- the halves of a word make the word
pub pair_back : (n : ℕ) → packed_pair (pair_in n) ≡ n
unfolding pair_in packed_pair
pair_back n = omega arith

pub pair_there : (p : Pair) → IsPair p → pair_in (packed_pair p) ≡ p
unfolding pair_in packed_pair
pair_there p fits = let a = fits.low_fits in
    let low : (p.low + 2 ^ 32 * (p.high + 2 ^ 32 * 0)) % 2 ^ 32 ≡ p.low = omega arith in
    let high : (p.low + 2 ^ 32 * (p.high + 2 ^ 32 * 0)) / 2 ^ 32 ≡ p.high = omega arith in
    λ i. record { low = low i; high = high i }

-- a word tells its pair
pub pair_same : (p q : Pair) → IsPair p → IsPair q → packed_pair p ≡ packed_pair q → p ≡ q
pair_same p q fits_p fits_q e = sym (pair_there p fits_p) ∙ (ap pair_in e ∙ pair_there q fits_q)

-- what seats have in hand, where one view changes
pub hands_moved : (views : List View) (id : ℕ) (w : View) → hands_of (set views id w) ≡ set (hands_of views) id (hand_of w)
hands_moved [] id w = refl
hands_moved (x ∷ views) zero w = refl
hands_moved (x ∷ views) (suc id) w = ap (λ hs. hand_of x ∷ hs) (hands_moved views id w)

module _ (l : Layout) (ws : List ℕ) where
  -- a word of one worker that stays
  own_stays : (ws' : List ℕ) (o : Own) (i : ℕ) → (i < l.workers → word_at l ws' (worker_word i o) ≡ word_at l ws (worker_word i o))
      → own_word l ws' o i ≡ own_word l ws o i
  own_stays ws' o i same = go (nat_lt i l.workers) refl
    where
      go : (b : Bool) → nat_lt i l.workers ≡ b
          → cond b (word_at l ws' (worker_word i o)) 0 ≡ cond b (word_at l ws (worker_word i o)) 0
      go true e = same (grind (arith, nat_tests))
      go false e = refl

  -- a step on a request word
  pub request_quiet : (k : ℕ) → k < l.workers → (n : ℕ) → loop_words l (set ws (place l (worker_word k request)) n) ≡ loop_words l ws
  request_quiet k less n = words_quiet l ws (set ws (place l (worker_word k request)) n)
      (shelf.else l ws (worker_word k request) positions_at n less tt (λ e. cc))
      (λ i low. shelf.else l ws (worker_word k request) (worker_word i interval) n less low (λ e. cc))
      (λ i low. shelf.else l ws (worker_word k request) (worker_word i home) n less low (λ e. cc))
      (λ i low. ap piece_in (shelf.else l ws (worker_word k request) (worker_word i post) n less low (λ e. cc)))
      (λ i low. inr (shelf.else l ws (worker_word k request) (worker_word i answer) n less low (λ e. cc)))

  -- on an answer word beside a post that gives no piece
  pub answer_quiet : (k : ℕ) → k < l.workers → (o : Post) → word_at l ws (worker_word k post) ≡ packed_post o → piece_of o ≡ 0 → (n : ℕ)
      → loop_words l (set ws (place l (worker_word k answer)) n) ≡ loop_words l ws
  answer_quiet k less o there_is no_piece n = words_quiet l ws (set ws (place l (worker_word k answer)) n)
      (shelf.else l ws (worker_word k answer) positions_at n less tt (λ e. cc))
      (λ i low. shelf.else l ws (worker_word k answer) (worker_word i interval) n less low (λ e. cc))
      (λ i low. shelf.else l ws (worker_word k answer) (worker_word i home) n less low (λ e. cc))
      (λ i low. ap piece_in (shelf.else l ws (worker_word k answer) (worker_word i post) n less low (λ e. cc)))
      (λ i low. elim (ℕ_discrete i k) [
        | yes d ↦ inl (ap (λ (z : ℕ). piece_in (word_at l ws (worker_word z post))) d ∙ (ap piece_in there_is ∙ piece_none o no_piece))
        | no c ↦ inr (shelf.else l ws (worker_word k answer) (worker_word i answer) n less low (λ e. let r : i ≡ k = cc in c r))
      ])

  -- THE POST of worker k becomes o
  module _ (wide : total_of l ≤ length ws) (k : ℕ) (less : k < l.workers) (o : Post) where
    abbrev ws' : List ℕ
    ws' = set ws (place l (worker_word k post)) (packed_post o)

    post_now : word_at l ws' (worker_word k post) ≡ packed_post o
    post_now = shelf.here l ws (worker_word k post) (packed_post o) less wide

    else_now : (i : ℕ) (w : Own) → i < l.workers → w ≢ post → word_at l ws' (worker_word i w) ≡ word_at l ws (worker_word i w)
    else_now i w low other = shelf.else l ws (worker_word k post) (worker_word i w) (packed_post o) less low
        (λ e. let r : w ≡ post = cc in other r)

    posts_else : (i : ℕ) → i < l.workers → i ≢ k → word_at l ws' (worker_word i post) ≡ word_at l ws (worker_word i post)
    posts_else i low other = shelf.else l ws (worker_word k post) (worker_word i post) (packed_post o) less low
        (λ e. let r : i ≡ k = cc in other r)

    drawn_stays : word_at l ws' positions_at ≡ word_at l ws positions_at
    drawn_stays = shelf.else l ws (worker_word k post) positions_at (packed_post o) less tt (λ e. cc)

    -- where it gives no piece before and after
    pub post_quiet : (before : Post) → word_at l ws (worker_word k post) ≡ packed_post before → piece_of before ≡ 0 → piece_of o ≡ 0
        → loop_words l ws' ≡ loop_words l ws
    post_quiet before there_is none_before none_after = words_quiet l ws ws' drawn_stays
        (λ i low. else_now i interval low (λ e. cc)) (λ i low. else_now i home low (λ e. cc))
        (λ i low. elim (ℕ_discrete i k) [
          | yes d ↦ subst (λ (z : ℕ). piece_in (word_at l ws' (worker_word z post)) ≡ piece_in (word_at l ws (worker_word z post))) (sym d)
              (ap piece_in post_now ∙ (piece_none o none_after ∙ sym (ap piece_in there_is ∙ piece_none before none_before)))
          | no c ↦ ap piece_in (posts_else i low c)
        ])
        (λ i low. inr (else_now i answer low (λ e. cc)))

    -- whatever it gives, the other words of loops stay
    abbrev pub givens : ℕ → ℕ
    givens i = piece_in (own_word l ws' post i)

    abbrev pub pieces : ℕ → Pair
    pieces i = piece_beside (own_word l ws' post i) (own_word l ws' answer i)

    pub givens_else : (i : ℕ) → i ≢ k → givens i ≡ piece_in (own_word l ws post i)
    givens_else i other = ap piece_in (own_stays ws' post i (λ low. posts_else i low other))

    pub pieces_else : (i : ℕ) → i ≢ k → pieces i ≡ piece_beside (own_word l ws post i) (own_word l ws answer i)
    pieces_else i other = λ j. piece_beside (own_stays ws' post i (λ low. posts_else i low other) j)
        (own_stays ws' answer i (λ low. else_now i answer low (λ e. cc)) j)

    pub given_now : givens k ≡ piece_of o
    given_now = ap piece_in (own_there l ws' post k less ∙ post_now) ∙ go o
      where
        go : (y : Post) → piece_in (packed_post y) ≡ piece_of y
        go P.Idle = piece_none P.Idle refl
        go (P.Posted victim) = piece_none (P.Posted victim) refl
        go (P.Held victim) = piece_none (P.Held victim) refl
        go P.Failed = piece_none P.Failed refl
        go (P.Task at) = piece_none (P.Task at) refl
        go (P.Piece at) = piece_some at

    pub pair_now : (a : ℕ) → piece_of o ≡ suc a → pieces k ≡ pair_in (word_at l ws (worker_word k answer))
    pair_now a is = λ j. picked ((given_now ∙ is) j)
        (pair_in ((own_there l ws' answer k less ∙ else_now k answer less (λ e. cc)) j))

    pub words_moved : loop_words l ws' ≡ record (loop_words l ws) { given = givens; piece = pieces }
    words_moved = let intervals = fun_ext (λ (i : ℕ). ap pair_in (own_stays ws' interval i (λ low. else_now i interval low (λ e. cc)))) in
        let homes = fun_ext (λ (i : ℕ). own_stays ws' home i (λ low. else_now i home low (λ e. cc))) in
        λ j. record { drawn = drawn_stays j; interval = intervals j; home = homes j; given = givens; piece = pieces }
