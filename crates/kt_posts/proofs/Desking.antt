-- A step of a live seat on a word of a worker, or on no word at all, by which what it knows of requests changes and
-- nothing else does; or a piece of a loop comes into its hand or leaves it.
use Rattle.std.proofs.Common.{◌+◌, ◌≡◌, ℕ, ◌<◌, List, set, length-set, refl, ◌∙◌, inl, inr, arith, ap, ◌≤◌, length}
use mathlib.Core.Option.{some}
use lib.ListN.{get_elem?}
use Rattle.atomic_table.specs.Table.{State}
use Rattle.kt_runs.specs.ByPath.{Path}
use Rattle.kt_words.specs.Places.{Place, place, worker_word, Own}
use Rattle.kt_words.specs.Words.{IsPair}
use Rattle.kt_words.specs.declared.layouts.Layout.{Layout}
use Rattle.kt_rule.specs.declared.views.Setup.{Setup}
use Rattle.kt_rule.specs.declared.views.Promise.{Promise}
use Rattle.kt_rule.specs.declared.views.Desk.{Desk}
use Rattle.kt_rule.specs.declared.views.LoopHands.{LoopHands}
use Rattle.kt_rule.specs.declared.views.View.{View}
use Rattle.kt_rule.specs.Lists.{In, weigh}
use Rattle.kt_rule.specs.Lies.{Lies, Lie}
use Rattle.kt_rule.specs.Records.{layout_of, word_at, elements, drawn_at, stop_at, positions_at}
use Rattle.kt_rule.specs.Views.{promised_in, executions, indexes_of, share_long}
use Rattle.kt_rule.specs.Facts.{is_promised, Fits}
use Rattle.kt_rule.specs.Requests.{IsPromised, Desked, Asked}
use Rattle.kt_rule.specs.Rule.{Slots, Facts}
use Rattle.kt_rule.proofs.Shelf as shelf
use Rattle.kt_rule.proofs.Shelf.{elements_else}
use Rattle.kt_rule.proofs.Sums.{tally_step}
use Rattle.kt_rule.proofs.Words.{nothing_changes}
use Rattle.kt_rule.specs.LoopWords.{Hand, loop_words, hands_of}
use Rattle.kt_rule.specs.LoopFacts.{Looped}
use Rattle.kt_rule.proofs.LoopsStay.{loops_stay, looped_same}
use Rattle.kt_rule.proofs.Moves.{each_view, drawn_keeps, assemble, positions_keeps}
use Rattle.kt_steps.proofs.LoopSeats.{weigh_hands}
use Rattle.kt_posts.proofs.PieceMoves.{position_fits}
use Rattle.kt_steps.proofs.Asides.{seat_in, main_lives, record_stays, plain_keeps, plain_core, plain_words, plain_fits}
use Rattle.kt_rule.specs.declared.views.Share.{Share}

-- what a seat knows but for requests and loops
pub fits_desk : (j : Setup) (lies : Lies) (ws : List ℕ) (seat : ℕ) (v : View) (d : Desk) (hands : LoopHands) → Fits j lies ws seat v
    → Fits j lies ws seat (record v { desk = d; loops = hands })
fits_desk j lies ws seat v d hands fit = record {
  setup = fit.setup;
  own = fit.own;
  owns = fit.owns;
  running = fit.running;
  halted = fit.halted;
  ran = fit.ran;
  begun = fit.begun;
  mine = fit.mine;
  given = fit.given;
  known = fit.known;
  notes = fit.notes;
  stop = fit.stop;
  line = fit.line;
}

module _ (j : Setup) (lies : Lies) (s : State Slots View) (f : Facts j lies s) where
  abbrev l : Layout
  l = layout_of j

  -- positions of a loop that has begun are small enough for a pair
  pub pair_fits : (p : Path) (t : Lie) (low high : ℕ) → lies p ≡ some t → t.first ≤ low → low < high → high ≤ t.first + length t.indexes
      → IsPair (record { low = low; high = high })
  pair_fits p t low high is first some_left last =
      let a = weigh_hands (λ (h : Hand). h.parts) s.views in let b = f.counts.parts in let c = f.crew in
      let d = position_fits j.workers lies (loop_words l s.words) (hands_of s.views) f.looped (omega arith) p t low high is first some_left last
      in record { low_fits = omega arith; high_fits = d }

  -- a word of worker k becomes n
  module _ (k : ℕ) (o : Own) (less : k < j.workers) (n : ℕ) where
    abbrev q : Place
    q = worker_word k o

    abbrev ws' : List ℕ
    ws' = set s.words (place l q) n

    pub drawn_stays : word_at l ws' drawn_at ≡ word_at l s.words drawn_at
    drawn_stays = shelf.else l s.words q drawn_at n less tt (λ e. cc)

    pub positions_stay : word_at l ws' positions_at ≡ word_at l s.words positions_at
    positions_stay = shelf.else l s.words q positions_at n less tt (λ e. cc)

    pub stop_stays : word_at l ws' stop_at ≡ word_at l s.words stop_at
    stop_stays = shelf.else l s.words q stop_at n less tt (λ e. cc)

    pub elements_stay : elements l ws' ≡ elements l s.words
    elements_stay = elements_else l s.words q n less tt

    -- pieces may change hands
    pub pieces_step : (id : ℕ) (v : View) → get_elem? s.views id ≡ some v → 0 < v.parts → (d : Desk) (hands : LoopHands)
        → hands.pending ≡ v.loops.pending
        → Looped l.workers lies (loop_words l ws') (hands_of (set s.views id (record v { desk = d; loops = hands })))
        → Asked l lies ws' (set s.views id (record v { desk = d; loops = hands }))
        → Facts j lies record { words = ws'; homes = s.homes; views = set s.views id (record v { desk = d; loops = hands }) }
    pieces_step id v at live d hands pending looped asked =
        let w : View = record v { desk = d; loops = hands } in
        let fits : (i : ℕ) (x : View) → get_elem? s.views i ≡ some x → Fits j lies ws' i x =
        (λ i x e. plain_fits j lies s f q less tt n (λ h. stop_stays ∙ h) i x (seat_in j lies s f i x e) (f.fits i x e)) in
        assemble j lies lies s ws' id v w f at live (record {
          parts = refl;
          made = refl;
          keeps = plain_keeps j lies s f q less tt n;
          root = main_lives j lies s f;
          core = plain_core j lies s f q less tt n;
          words = plain_words j lies s f q less tt n;
          mine = λ p. refl;
          claimed = λ p. refl;
          given = λ p. refl;
          begun = λ p. refl;
          asked = asked;
          drawn = drawn_keeps j lies lies s.words ws' s.views id v w f.drawn at refl refl refl (λ p h. h) drawn_stays (λ p. omega arith);
          positions = positions_keeps j lies lies s.words ws' s.views id v w f.positions at
              (ap (λ (xs : List Share). weigh indexes_of (executions v) + weigh share_long xs) pending) pending (λ p h. h) positions_stay
              (λ p. omega arith);
          stopped = record {
            word = elim f.stopped.word [
              | inl z ↦ inl (stop_stays ∙ z)
              | inr h ↦ inr (
                stop_stays ∙ h.0,
                elim h.1 [
                  | inl tasks ↦ inl (let a = drawn_stays in omega arith)
                  | inr indexes ↦ inr (let a = positions_stay in omega arith)
                ],
              )
            ];
          };
          looped = looped;
          fits = fits_desk j lies ws' id v d hands (fits id v at);
          others = λ i x ne e. fits i x e;
          unmade = λ a from low z. record_stays j lies s f q less tt n a 0 low (omega arith) ∙ z;
        })

    -- or none does
    pub desk_step : loop_words l ws' ≡ loop_words l s.words → (id : ℕ) (v : View) → get_elem? s.views id ≡ some v → 0 < v.parts → (d : Desk)
        → Asked l lies ws' (set s.views id (record v { desk = d }))
        → Facts j lies record { words = ws'; homes = s.homes; views = set s.views id (record v { desk = d }) }
    desk_step quiet id v at live d asked = pieces_step id v at live d v.loops refl
        (looped_same l lies lies s.words ws' s.views id v (record v { desk = d }) f.looped (loops_stay lies) at refl quiet) asked

  -- the seat learns something of requests, and no word changes
  pub desk_learned : (id : ℕ) (v : View) → get_elem? s.views id ≡ some v → 0 < v.parts → (d : Desk) → Desked l s.words id d
      → Facts j lies record { words = s.words; homes = s.homes; views = set s.views id (record v { desk = d }) }
  desk_learned id v at live d mine = let w : View = record v { desk = d } in let a = f.asked in
      assemble j lies lies s s.words id v w f at live (record {
        parts = refl;
        made = refl;
        keeps = nothing_changes l lies s.words;
        root = main_lives j lies s f;
        core = f.core;
        words = f.words;
        mine = λ p. refl;
        claimed = λ p. refl;
        given = λ p. refl;
        begun = λ p. refl;
        asked = record {
          posts = a.posts;
          leads = a.leads;
          tasks = a.tasks;
          posted = a.posted;
          promised = tally_step promised_in is_promised lies s.views id v a.promised at w lies (λ p. refl);
          promises = each_view (λ i x. (m : Promise) → In m x.tasks.promised → IsPromised lies m) s.views id w (a.promises id v at)
              (λ i x ne e. a.promises i x e);
          desks = each_view (λ i x. 0 < x.parts → Desked l s.words i x.desk) s.views id w (λ some_part. mine)
              (λ i x ne e. a.desks i x e);
          unasked = λ i from low. let n = length-set s.views id w in a.unasked i (omega arith) low;
        };
        drawn = drawn_keeps j lies lies s.words s.words s.views id v w f.drawn at refl refl refl (λ p h. h) refl (λ p. omega arith);
        positions = positions_keeps j lies lies s.words s.words s.views id v w f.positions at refl refl (λ p h. h) refl (λ p. omega arith);
        stopped = f.stopped;
        looped = looped_same l lies lies s.words s.words s.views id v w f.looped (loops_stay lies) at refl refl;
        fits = fits_desk j lies s.words id v d v.loops (f.fits id v at);
        others = λ i x ne e. f.fits i x e;
        unmade = λ a from low z. z;
      })
