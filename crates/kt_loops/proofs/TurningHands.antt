-- A step of a live seat on a word of loops that is no record's, or on no word at all, by which what the seat has in hand of loops changes and no task does.
use Rattle.std.proofs.Common.{◌≡◌, ◌≢◌, ℕ, ◌+◌, ◌<◌, ◌≤◌, List, set, refl, ◌∙◌, ap, arith}
use mathlib.Core.Option.{some}
use lib.ListN.{get_elem?}
use Rattle.atomic_table.specs.Table.{State}
use Rattle.kt_words.specs.Places.{Place, place, IsWithin, worker_word, request, post, answer, interval, home}
use Rattle.kt_words.specs.declared.layouts.Layout.{Layout}
use Rattle.kt_rule.specs.declared.views.Setup.{Setup}
use Rattle.kt_rule.specs.declared.views.Share.{Share}
use Rattle.kt_rule.specs.declared.views.LoopHands.{LoopHands}
use Rattle.kt_rule.specs.declared.views.View.{View}
use Rattle.kt_rule.specs.Lists.{weigh}
use Rattle.kt_rule.specs.Lies.{Lies}
use Rattle.kt_rule.specs.Records.{layout_of, word_at, drawn_at, stop_at, positions_at}
use Rattle.kt_rule.specs.Views.{executions, indexes_of, share_long}
use Rattle.kt_rule.specs.Facts.{Fits, Positions}
use Rattle.kt_rule.specs.LoopWords.{loop_words, hands_of}
use Rattle.kt_rule.specs.LoopFacts.{Looped}
use Rattle.kt_rule.specs.Rule.{Slots, Facts}
use Rattle.kt_rule.proofs.Shelf as shelf
use Rattle.kt_rule.proofs.Words.{IsPlain, nothing_changes}
use Rattle.kt_rule.proofs.Moves.{same_posted, drawn_keeps, positions_keeps, assemble}
use Rattle.kt_steps.proofs.Asides.{seat_in, main_lives, record_stays, plain_keeps, plain_core, plain_words, plain_fits}
use Rattle.kt_loops.proofs.Turning.{DesksStay}
use Rattle.kt_loops.proofs.TurningFacts.{asked_apart, stopped_rises}

-- what a seat knows but for loops
pub fits_hands : (j : Setup) (lies : Lies) (ws : List ℕ) (seat : ℕ) (v : View) (hands : LoopHands) → Fits j lies ws seat v
    → Fits j lies ws seat (record v { loops = hands })
fits_hands j lies ws seat v hands fit = record {
  setup = fit.setup;
  own = fit.own;
  owns = fit.owns;
  running = fit.running;
  halted = fit.halted;
  ran = fit.ran;
  begun = fit.begun;
  mine = fit.mine;
  given = fit.given;
  known = fit.known;
  notes = fit.notes;
  stop = fit.stop;
  line = fit.line;
}

-- a word that is none of requests, nor the drawn count or the stop word
pub record IsLoopWord (q : Place) : Type 0 where
  pub plain : IsPlain q
  pub requests : (k : ℕ) → worker_word k request ≢ q
  pub posts : (k : ℕ) → worker_word k post ≢ q
  pub answers : (k : ℕ) → worker_word k answer ≢ q
  pub not_drawn : drawn_at ≢ q
  pub not_stop : stop_at ≢ q

pub interval_loops : (k : ℕ) → IsLoopWord (worker_word k interval)
interval_loops k = record {
  plain = tt;
  requests = λ i e. cc;
  posts = λ i e. cc;
  answers = λ i e. cc;
  not_drawn = λ e. cc;
  not_stop = λ e. cc;
}

pub home_loops : (k : ℕ) → IsLoopWord (worker_word k home)
home_loops k = record {
  plain = tt;
  requests = λ i e. cc;
  posts = λ i e. cc;
  answers = λ i e. cc;
  not_drawn = λ e. cc;
  not_stop = λ e. cc;
}

pub positions_loops : IsLoopWord positions_at
positions_loops = record {
  plain = tt;
  requests = λ i e. cc;
  posts = λ i e. cc;
  answers = λ i e. cc;
  not_drawn = λ e. cc;
  not_stop = λ e. cc;
}

pub desks_else : (l : Layout) (ws : List ℕ) (q : Place) (n : ℕ) → IsWithin l q → IsLoopWord q → DesksStay l ws (set ws (place l q) n)
desks_else l ws q n within of_loops = record {
  requests = λ k less. shelf.else l ws q (worker_word k request) n within less (of_loops.requests k);
  posts = λ k less. shelf.else l ws q (worker_word k post) n within less (of_loops.posts k);
  answers = λ k less. shelf.else l ws q (worker_word k answer) n within less (of_loops.answers k);
}

pub desks_same : (l : Layout) (ws : List ℕ) → DesksStay l ws ws
desks_same l ws = record { requests = λ k less. refl; posts = λ k less. refl; answers = λ k less. refl }

module _ (j : Setup) (lies : Lies) (s : State Slots View) (f : Facts j lies s) where
  abbrev l : Layout
  l = layout_of j

  -- a word of loops becomes n
  module _ (q : Place) (in_q : IsWithin l q) (of_loops : IsLoopWord q) (n : ℕ) where
    abbrev ws' : List ℕ
    ws' = set s.words (place l q) n

    drawn_same : word_at l ws' drawn_at ≡ word_at l s.words drawn_at
    drawn_same = shelf.else l s.words q drawn_at n in_q tt of_loops.not_drawn

    stop_same : word_at l ws' stop_at ≡ word_at l s.words stop_at
    stop_same = shelf.else l s.words q stop_at n in_q tt of_loops.not_stop

    pub hands_step : (id : ℕ) (v : View) → get_elem? s.views id ≡ some v → 0 < v.parts → (hands : LoopHands)
        → word_at l s.words positions_at ≤ word_at l ws' positions_at
        → Positions j lies ws' (set s.views id (record v { loops = hands }))
        → Looped j.workers lies (loop_words l ws') (hands_of (set s.views id (record v { loops = hands })))
        → Facts j lies record { words = ws'; homes = s.homes; views = set s.views id (record v { loops = hands }) }
    hands_step id v at live hands rises positions looped =
        let w : View = record v { loops = hands } in
        let fits : (i : ℕ) (x : View) → get_elem? s.views i ≡ some x → Fits j lies ws' i x =
        (λ i x e. plain_fits j lies s f q in_q of_loops.plain n (λ h. stop_same ∙ h) i x (seat_in j lies s f i x e) (f.fits i x e)) in
        assemble j lies lies s ws' id v w f at live (record {
          parts = refl;
          made = refl;
          keeps = plain_keeps j lies s f q in_q of_loops.plain n;
          root = main_lives j lies s f;
          core = plain_core j lies s f q in_q of_loops.plain n;
          words = plain_words j lies s f q in_q of_loops.plain n;
          mine = λ p. refl;
          claimed = λ p. refl;
          given = λ p. refl;
          begun = λ p. refl;
          asked = asked_apart l lies lies s.words ws' s.views id v w f.asked f.counts.few at refl refl
              (desks_else l s.words q n in_q of_loops) (same_posted lies) (λ p. refl) (f.asked.promises id v at)
              (λ k x ne e. f.asked.promises k x e);
          drawn = drawn_keeps j lies lies s.words ws' s.views id v w f.drawn at refl refl refl (λ p h. h) drawn_same (λ p. omega arith);
          positions = positions;
          stopped = stopped_rises l s.words ws' stop_same drawn_same rises f.stopped;
          looped = looped;
          fits = fits_hands j lies ws' id v hands (fits id v at);
          others = λ i x ne e. fits i x e;
          unmade = λ a from low z. record_stays j lies s f q in_q of_loops.plain n a 0 low (omega arith) ∙ z;
        })

    -- and it is not the count of positions
    pub hands_stored : positions_at ≢ q → (id : ℕ) (v : View) → get_elem? s.views id ≡ some v → 0 < v.parts → (hands : LoopHands)
        → hands.pending ≡ v.loops.pending
        → Looped j.workers lies (loop_words l ws') (hands_of (set s.views id (record v { loops = hands })))
        → Facts j lies record { words = ws'; homes = s.homes; views = set s.views id (record v { loops = hands }) }
    hands_stored not_positions id v at live hands pending looped =
        let same : word_at l ws' positions_at ≡ word_at l s.words positions_at = shelf.else l s.words q positions_at n in_q tt not_positions in
        hands_step id v at live hands (omega (arith, same))
        (positions_keeps j lies lies s.words ws' s.views id v (record v { loops = hands }) f.positions at
        (ap (λ (xs : List Share). weigh indexes_of (executions v) + weigh share_long xs) pending) pending (λ p h. h) same (λ p. omega arith))
        looped

  -- no word changes
  pub hands_learned : (id : ℕ) (v : View) → get_elem? s.views id ≡ some v → 0 < v.parts → (hands : LoopHands)
      → hands.pending ≡ v.loops.pending
      → Looped j.workers lies (loop_words l s.words) (hands_of (set s.views id (record v { loops = hands })))
      → Facts j lies record { words = s.words; homes = s.homes; views = set s.views id (record v { loops = hands }) }
  hands_learned id v at live hands pending looped = let w : View = record v { loops = hands } in
      assemble j lies lies s s.words id v w f at live (record {
        parts = refl;
        made = refl;
        keeps = nothing_changes l lies s.words;
        root = main_lives j lies s f;
        core = f.core;
        words = f.words;
        mine = λ p. refl;
        claimed = λ p. refl;
        given = λ p. refl;
        begun = λ p. refl;
        asked = asked_apart l lies lies s.words s.words s.views id v w f.asked f.counts.few at refl refl (desks_same l s.words)
            (same_posted lies) (λ p. refl) (f.asked.promises id v at) (λ k x ne e. f.asked.promises k x e);
        drawn = drawn_keeps j lies lies s.words s.words s.views id v w f.drawn at refl refl refl (λ p h. h) refl (λ p. omega arith);
        positions = positions_keeps j lies lies s.words s.words s.views id v w f.positions at
            (ap (λ (xs : List Share). weigh indexes_of (executions v) + weigh share_long xs) pending) pending (λ p h. h) refl (λ p. omega arith);
        stopped = f.stopped;
        looped = looped;
        fits = fits_hands j lies s.words id v hands (f.fits id v at);
        others = λ i x ne e. f.fits i x e;
        unmade = λ a from low z. z;
      })
