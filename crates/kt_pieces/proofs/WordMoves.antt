-- What a step on one word of the table does to the words of loops.
use Rattle.std.proofs.Common.{◌≡◌, ◌≢◌, ℕ, ◌<◌, ◌≤◌, Bool, true, false, cond, nat_lt, List, length, set, sym, refl, ap, ◌∙◌, inl, inr, arith}
use Rattle.std.proofs.lemmas.Bool.Decides.{nat_tests}
use mathlib.Core.Path.{fun_ext}
use Rattle.kt_words.specs.Places.{place, total_of, IsWithin, worker_word, record_word, element_word, Own, post, answer, interval, home}
use Rattle.kt_words.specs.declared.layouts.Layout.{Layout}
use Rattle.kt_rule.specs.Records.{word_at, positions_at}
use Rattle.kt_rule.specs.LoopWords.{pair_in, piece_in, piece_beside, own_word, loop_words}
use Rattle.kt_rule.proofs.Shelf as shelf
use Rattle.kt_rule.proofs.LoopsStay.{own_there, words_same}
use Rattle.kt_pieces.specs.Changes.{at_worker}
use Rattle.kt_pieces.proofs.Changed.{at_cases}

-- a word of a worker, where one word changes
own_else : (l : Layout) (ws ws' : List ℕ) (o : Own) (i : ℕ) → (i < l.workers → word_at l ws' (worker_word i o) ≡ word_at l ws (worker_word i o))
    → own_word l ws' o i ≡ own_word l ws o i
own_else l ws ws' o i same = go (nat_lt i l.workers) refl
  where
    go : (b : Bool) → nat_lt i l.workers ≡ b → cond b (word_at l ws' (worker_word i o)) 0 ≡ cond b (word_at l ws (worker_word i o)) 0
    go true e = same (grind (arith, nat_tests))
    go false e = refl

module _ (l : Layout) (ws : List ℕ) (wide : total_of l ≤ length ws) where
  -- worker k's word o becomes n
  module _ (o : Own) (k : ℕ) (less : k < l.workers) (n : ℕ) where
    abbrev now : List ℕ
    now = set ws (place l (worker_word k o)) n

    own_now : own_word l now o k ≡ n
    own_now = own_there l now o k less ∙ shelf.here l ws (worker_word k o) n less wide

    others_now : (i : ℕ) → i ≢ k → own_word l now o i ≡ own_word l ws o i
    others_now i ne = own_else l ws now o i (λ low. shelf.else l ws (worker_word k o) (worker_word i o) n less low (λ e. let r : i ≡ k = cc in ne r))

    rest_now : (p : Own) → p ≢ o → (i : ℕ) → own_word l now p i ≡ own_word l ws p i
    rest_now p ne i = own_else l ws now p i (λ low. shelf.else l ws (worker_word k o) (worker_word i p) n less low (λ e. let r : p ≡ o = cc in ne r))

    changed : {A : Type 0} (g : ℕ → A) (i : ℕ) → g (own_word l now o i) ≡ at_worker (λ j. g (own_word l ws o j)) k (g n) i
    changed {A = A} g i = elim (at_cases (λ j. g (own_word l ws o j)) k (g n) i) [
      | inl h ↦ ap (λ j. g (own_word l now o j)) h.0 ∙ (ap g own_now ∙ sym h.1)
      | inr h ↦ ap g (others_now i h.0) ∙ sym h.1
    ]

    drawn_stays : word_at l now positions_at ≡ word_at l ws positions_at
    drawn_stays = shelf.else l ws (worker_word k o) positions_at n less tt (λ e. cc)

  -- the interval of worker k
  pub interval_moved : (k : ℕ) → k < l.workers → (n : ℕ) → loop_words l (set ws (place l (worker_word k interval)) n)
      ≡ record (loop_words l ws) { interval = at_worker (loop_words l ws).interval k (pair_in n) }
  interval_moved k less n =
      let intervals = fun_ext (changed interval k less n pair_in) in
      let homes = fun_ext (rest_now interval k less n home (λ e. cc)) in
      let posts = fun_ext (rest_now interval k less n post (λ e. cc)) in
      let answers = fun_ext (rest_now interval k less n answer (λ e. cc)) in
      λ j. record {
        drawn = drawn_stays interval k less n j;
        interval = intervals j;
        home = homes j;
        given = λ i. piece_in (posts j i);
        piece = λ i. piece_beside (posts j i) (answers j i);
      }

  -- its home word
  pub home_moved : (k : ℕ) → k < l.workers → (n : ℕ) → loop_words l (set ws (place l (worker_word k home)) n)
      ≡ record (loop_words l ws) { home = at_worker (loop_words l ws).home k n }
  home_moved k less n =
      let intervals = fun_ext (rest_now home k less n interval (λ e. cc)) in
      let homes = fun_ext (changed home k less n (λ m. m)) in
      let posts = fun_ext (rest_now home k less n post (λ e. cc)) in
      let answers = fun_ext (rest_now home k less n answer (λ e. cc)) in
      λ j. record {
        drawn = drawn_stays home k less n j;
        interval = λ i. pair_in (intervals j i);
        home = homes j;
        given = λ i. piece_in (posts j i);
        piece = λ i. piece_beside (posts j i) (answers j i);
      }

  -- the count of positions
  pub drawn_moved : (n : ℕ) → loop_words l (set ws (place l positions_at) n) ≡ record (loop_words l ws) { drawn = n }
  drawn_moved n =
      let ws' : List ℕ = set ws (place l positions_at) n in
      let stays : (o : Own) (i : ℕ) → own_word l ws' o i ≡ own_word l ws o i =
      (λ o i. own_else l ws ws' o i (λ low. shelf.else l ws positions_at (worker_word i o) n tt low (λ e. cc))) in
      let intervals = fun_ext (stays interval) in
      let homes = fun_ext (stays home) in
      let posts = fun_ext (stays post) in
      let answers = fun_ext (stays answer) in
      λ j. record {
        drawn = shelf.here l ws positions_at n tt wide j;
        interval = λ i. pair_in (intervals j i);
        home = homes j;
        given = λ i. piece_in (posts j i);
        piece = λ i. piece_beside (posts j i) (answers j i);
      }

  -- a field of a record, and an element, are none of them
  pub field_moved : (a field n : ℕ) → IsWithin l (record_word a field) → loop_words l (set ws (place l (record_word a field)) n) ≡ loop_words l ws
  field_moved a field n within = words_same l ws (set ws (place l (record_word a field)) n)
      (shelf.else l ws (record_word a field) positions_at n within tt (λ e. cc))
      (λ k o less. shelf.else l ws (record_word a field) (worker_word k o) n within less (λ e. cc))

  pub element_moved : (e n : ℕ) → IsWithin l (element_word e) → loop_words l (set ws (place l (element_word e)) n) ≡ loop_words l ws
  element_moved e n within = words_same l ws (set ws (place l (element_word e)) n)
      (shelf.else l ws (element_word e) positions_at n within tt (λ d. cc))
      (λ k o less. shelf.else l ws (element_word e) (worker_word k o) n within less (λ d. cc))
