-- Steps on intervals: a seat finds its own empty, fills it with a piece and takes from it; it sees a victim's, and splits it. Each keeps the facts.
use Rattle.std.proofs.Common.{◌≡◌, ℕ, suc, ◌+◌, ◌-◌, ◌*◌, ◌<◌, ◌≤◌, true, List, set, inl, inr, sym, refl, ap, ◌∙◌, subst, arith, Some}
use mathlib.Core.Option.{some}
use lib.ListN.{get_elem?}
use Rattle.atomic_table.specs.Table.{State}
use Rattle.kt_prog.specs.Accepted.{IsAccepted}
use Rattle.kt_prog.specs.Fits.{Fits}
use Rattle.kt_prog.proofs.Plain.{plain, loops_are_direct}
use Rattle.kt_runs.specs.ByPath.{Path}
use Rattle.kt_split.specs.Splits.{Fill, IsCut}
use Rattle.kt_words.specs.Places.{place, worker_word, interval, home}
use Rattle.kt_words.specs.Words.{packed_pair, IsPair}
use Rattle.kt_words.specs.declared.layouts.Layout.{Layout}
use Rattle.kt_words.specs.declared.layouts.TheConstants.{RECORDS}
use Rattle.kt_words.specs.declared.pairs.Pair.{Pair}
use Rattle.kt_rule.specs.declared.views.Setup.{Setup}
use Rattle.kt_rule.specs.declared.views.Spot.{Spot}
use Rattle.kt_rule.specs.declared.views.Share.{Share}
use Rattle.kt_rule.specs.declared.views.Sight.{Sight}
use Rattle.kt_rule.specs.declared.views.View.{View}
use Rattle.kt_rule.specs.Paths.{put}
use Rattle.kt_rule.specs.Lists.{In}
use Rattle.kt_rule.specs.Lies.{Lie, Lies, Cored}
use Rattle.kt_rule.specs.Records.{layout_of, word_at, elements, positions_at}
use Rattle.kt_rule.specs.LoopWords.{LoopWords, Hand, between, pair_in, loop_words, hand_of, hands_of}
use Rattle.kt_rule.specs.LoopFacts.{in_pair, in_shares, in_hand, IsSeen, Handles, Looped}
use Rattle.kt_rule.specs.Rule.{Slots, Facts}
use Rattle.kt_rule.proofs.Shelf as shelf
use Rattle.kt_rule.proofs.Sums.{weigh_one}
use Rattle.kt_rule.proofs.Cores as cores
use Rattle.kt_rule.proofs.LoopsStay.{own_there}
use Rattle.kt_steps.proofs.Asides.{seat_in}
use Rattle.kt_steps.proofs.LoopSeats.{at_hand}
use Rattle.kt_steps.proofs.Steps.{fits_at}
use Rattle.kt_steps.proofs.Telling.{the_some}
use Rattle.kt_pieces.specs.Changes.{at_worker, run_indexes, cut_all}
use Rattle.kt_order.specs.Books.{below, take}
use Rattle.kt_pieces.proofs.Indexes.{run_long}
use Rattle.kt_pieces.proofs.Stores.{piece_taken}
use Rattle.kt_pieces.proofs.Chunks.{chunk_taken}
use Rattle.kt_pieces.proofs.Splits.{split_given, cut_gives}
use Rattle.kt_pieces.proofs.Changed.{one_most}
use Rattle.kt_pieces.proofs.Counted.{less_or}
use Rattle.kt_pieces.proofs.Loads.{share_most, found_empty, found_interval, found_home, lost_sight}
use Rattle.kt_pieces.proofs.LoopCoreTakes.{takes}
use Rattle.kt_loops.specs.Hands.{holds_piece, finds_empty, takes_chunk, finds_interval, sights, sights_home, forgets, takes_pieces}
use Rattle.kt_loops.specs.Told.{IsPairWord, IsOwnLoop, IsLoopAt, AreNew}
use Rattle.kt_loops.proofs.Finding.{found_learned}
use Rattle.kt_loops.proofs.TurningFacts.{book_turned}
use Rattle.kt_loops.proofs.TurningHands.{interval_loops, hands_stored, hands_learned}
use Rattle.kt_loops.proofs.TurningWords.{hands_moved, interval_set, pair_there, turn_at}
use Rattle.kt_loops.proofs.BeginTelling.{positions_most}
use Rattle.kt_loops.proofs.BegunLoops as begun

-- a position of an interval and of a piece in hand stands in two places
twice : (i g w own p s t r drawn x : ℕ) → i + (g + w) ≡ below drawn x → own ≤ i → own ≡ 1 → p + (s + (t + r)) ≤ w → 1 ≤ s → ⊥
twice i g w own p s t r drawn x all own_in own_is in_hand_is one = omega (arith, all, own_in, own_is, in_hand_is, one)

module _ (j : Setup) (lies : Lies) (s : State Slots View) (f : Facts j lies s) (id : ℕ) (v : View) (at : get_elem? s.views id ≡ some v)
    (live : 0 < v.parts) where
  abbrev l : Layout
  l = layout_of j

  abbrev ws : LoopWords
  ws = loop_words l s.words

  abbrev hands : List Hand
  hands = hands_of s.views

  pub seat_less : id < j.workers
  seat_less = seat_in j lies s f id v at

  hand_there : get_elem? hands id ≡ some (hand_of v)
  hand_there = at_hand s.views id v at

  own_handles : Handles j.workers lies f.looped.owner ws hands id (hand_of v)
  own_handles = f.looped.handles id (hand_of v) hand_there

  -- the facts of loops, at words and hands that are these
  looped_at : (lies' : Lies) (ws' : List ℕ) (w : View) (words : LoopWords) → loop_words l ws' ≡ words
      → Looped j.workers lies' words (set hands id (hand_of w)) → Looped j.workers lies' (loop_words l ws') (hands_of (set s.views id w))
  looped_at lies' ws' w words e h = subst (λ (z : LoopWords × List Hand). Looped j.workers lies' z.0 z.1)
      (λ i. (sym e i, sym (hands_moved s.views id w) i)) h

  -- the interval that a word says
  pub interval_is : (k : ℕ) → k < j.workers → (low high : ℕ) → IsPairWord (word_at l s.words (worker_word k interval)) low high
      → ws.interval k ≡ record { low = low; high = high }
  interval_is k less low high is = ap pair_in (own_there l s.words interval k less ∙ is.1) ∙ pair_there (record { low = low; high = high }) is.0

  pub interval_there : (k : ℕ) → k < j.workers → ws.interval k ≡ pair_in (word_at l s.words (worker_word k interval))
  interval_there k less = ap pair_in (own_there l s.words interval k less)

  -- an interval becomes another pair
  interval_now : (k : ℕ) → k < j.workers → (x : Pair) → IsPair x
      → loop_words l (set s.words (place l (worker_word k interval)) (packed_pair x)) ≡ record ws { interval = at_worker ws.interval k x }
  interval_now k less x fits = interval_set l s.words k less f.words.wide (packed_pair x)
      ∙ ap (λ (z : Pair). record ws { interval = at_worker ws.interval k z }) (pair_there x fits)

  positions_stay : (k : ℕ) → k < j.workers → (n : ℕ)
      → word_at l (set s.words (place l (worker_word k interval)) n) positions_at ≡ word_at l s.words positions_at
  positions_stay k less n = shelf.else l s.words (worker_word k interval) positions_at n less tt (λ e. cc)

  elements_stay : (k : ℕ) → k < j.workers → (n : ℕ)
      → elements l (set s.words (place l (worker_word k interval)) n) ≡ elements l s.words
  elements_stay k less n = shelf.elements_else l s.words (worker_word k interval) n less tt

  -- THE OWN INTERVAL IS FOUND EMPTY

  pub empties_it : (ws.interval id).high ≤ (ws.interval id).low
      → Facts j lies record { words = s.words; homes = s.homes; views = set s.views id (finds_empty v) }
  empties_it hollow = hands_learned j lies s f id v at live (finds_empty v).loops refl
      (looped_at lies s.words (finds_empty v) ws refl (found_empty j.workers lies ws hands f.looped id (hand_of v) hand_there hollow))

  -- A PIECE IN HAND BECOMES THE OWN INTERVAL

  -- its positions are small enough for a pair
  pub share_fits : (x : Share) → In x v.loops.pieces → IsPair (record { low = x.low; high = x.high })
  share_fits x i =
      let q = own_handles.pieces x i in
      let long = q.some_left in let first = q.first in let last = q.last in
      let most = positions_most j lies s f in
      let drawn = (f.looped.owned x.spot.path q.task (x.high - 1) q.is (omega (arith, long, first)) (omega (arith, long, last))).1 in
      record { low_fits = omega (arith, long, drawn, most); high_fits = omega (arith, drawn, most) }

  module _ (x : Share) (x_in : In x v.loops.pieces) (own : suc x.spot.berth.at ≡ v.loops.home) (free : v.loops.free ≡ true)
      (fits : IsPair (record { low = x.low; high = x.high })) where
    abbrev piece_words : List ℕ
    piece_words = set s.words (place l (worker_word id interval)) (packed_pair (record { low = x.low; high = x.high }))

    taken_so : Looped j.workers lies (record ws { interval = at_worker ws.interval id (record { low = x.low; high = x.high }) })
        (set hands id (hand_of (holds_piece v x)))
    taken_so = piece_taken j.workers lies ws hands f.looped id (hand_of v) hand_there seat_less live free x x_in (sym own)

    pub holds_it : Facts j lies record { words = piece_words; homes = s.homes; views = set s.views id (holds_piece v x) }
    holds_it = hands_stored j lies s f (worker_word id interval) seat_less (interval_loops id) (packed_pair (record { low = x.low; high = x.high })) (λ e. cc)
        id v at live (holds_piece v x).loops refl
        (looped_at lies piece_words (holds_piece v x) _ (interval_now id seat_less (record { low = x.low; high = x.high }) fits) taken_so)

  -- THE FIRST POSITIONS OF THE OWN INTERVAL ARE TAKEN

  module _ (low middle high : ℕ) (there_is : IsPairWord (word_at l s.words (worker_word id interval)) low high) (some_more : low < middle)
      (fits : middle ≤ high) (left_fits : IsPair (record { low = middle; high = high })) (accepted : IsAccepted j.program) where
    own_is : ws.interval id ≡ record { low = low; high = high }
    own_is = interval_is id seat_less low high there_is

    low_is : (ws.interval id).low ≡ low
    low_is = ap (λ (z : Pair). z.low) own_is

    high_is : (ws.interval id).high ≡ high
    high_is = ap (λ (z : Pair). z.high) own_is

    pub long : (ws.interval id).low < (ws.interval id).high
    long = let a = low_is in let b = high_is in omega (arith, a, b, some_more, fits)

    abbrev p : Path
    p = begun.p j lies s f id seat_less long

    abbrev t : Lie
    t = begun.t j lies s f id seat_less long

    is : lies p ≡ some t
    is = begun.is j lies s f id seat_less long

    abbrev from : ℕ
    from = begun.from j lies s f id seat_less long

    abbrev n : ℕ
    n = middle - low

    enough : (ws.interval id).low + n ≤ (ws.interval id).high
    enough = let a = low_is in let b = high_is in omega (arith, a, b, some_more, fits)

    abbrev u : Lie
    u = record t { indexes = run_indexes from n t.indexes; pieces = take from n t.pieces }

    abbrev chunk_lies : Lies
    chunk_lies = put lies p (some u)

    abbrev pub loop : Spot
    loop = record { berth = t.berth; path = p }

    abbrev pub first : ℕ
    first = t.first

    -- the loop is told by the own home word
    pub own_loop : IsOwnLoop v loop first low high
    own_loop = record {
      home = sym (begun.home j lies s f id seat_less long) ∙ own_handles.home live;
      from = let a = begun.first j lies s f id seat_less long in let b = low_is in omega (arith, a, b);
      within = let a = begun.within j lies s f id seat_less long in let b = high_is in omega (arith, a, b);
      inside = λ k told. subst (λ (z : Setup). (t.berth.at < RECORDS * z.workers) × Fits z.program t.berth.call)
          (the_some (sym ((f.fits id v at).setup live) ∙ told))
          (f.words.inside p t is, fits_at j lies s f id v (f.fits id v at) p t is p t is);
    }

    abbrev left_word : ℕ
    left_word = packed_pair (record { low = middle; high = high })

    abbrev chunk_words : List ℕ
    chunk_words = set s.words (place l (worker_word id interval)) left_word

    abbrev w : View
    w = takes_chunk v loop first low n

    abbrev runner : ℕ
    runner = (begun.runs j lies s f id seat_less long).0

    abbrev behind : Pair
    behind = record { low = (ws.interval id).low + n; high = (ws.interval id).high }

    left_is : behind ≡ record { low = middle; high = high }
    left_is = let a : (ws.interval id).low + n ≡ middle = (let b = low_is in omega (arith, b, some_more)) in
        λ i. record { low = a i; high = high_is i }

    taken_now : Looped j.workers chunk_lies (record ws { interval = at_worker ws.interval id (record { low = middle; high = high }) })
        (set hands id (hand_of w))
    taken_now = subst (λ (z : Pair × ℕ). Looped j.workers chunk_lies (record ws { interval = at_worker ws.interval id z.0 })
        (set hands id (hand_of (takes_chunk v loop first z.1 n)))) (λ i. (left_is i, low_is i))
        (chunk_taken j.workers lies ws hands f.looped id (hand_of v) hand_there seat_less p t is (begun.live j lies s f id seat_less long)
        (begun.alone j lies s f id seat_less long) (begun.home j lies s f id seat_less long) from n (begun.begins j lies s f id seat_less long)
        (omega (arith, some_more)) enough)

    pub takes_it : Facts j chunk_lies record { words = chunk_words; homes = s.homes; views = set s.views id w }
    takes_it = let runs = (begun.runs j lies s f id seat_less long).1 in let bare = begun.bare j lies s f id seat_less long in
        let stay = positions_stay id seat_less left_word in
        book_turned j lies s p t u chunk_words id v w.loops f at live (record {
          turn = turn_at l lies s.words p t u f.words is runner true true runs runs refl (worker_word id interval) seat_less (interval_loops id) left_word
              refl refl (omega (arith, stay));
          stage = refl;
          answers = refl;
          count = refl;
          long = run_long n from t.indexes;
          core = subst (Cored j chunk_lies) (sym (elements_stay id seat_less left_word))
              (takes j f.laws (elements l s.words) p plain loops_are_direct accepted n from lies f.core t is bare
              (begun.waits j lies s f id seat_less long n (omega (arith, some_more)) enough) u
              (record { berth = refl; phase = refl; answers = refl; count = refl }) refl).core;
          looped = looped_at chunk_lies chunk_words w _ (interval_now id seat_less (record { low = middle; high = high }) left_fits) taken_now;
          pending = refl;
          positions = stay;
        })

  -- A VICTIM'S INTERVAL IS SEEN

  pub forgets_it : Facts j lies record { words = s.words; homes = s.homes; views = set s.views id (forgets v) }
  forgets_it = hands_learned j lies s f id v at live (forgets v).loops refl
      (looped_at lies s.words (forgets v) ws refl (lost_sight j.workers lies ws hands f.looped id (hand_of v) hand_there))

  -- it was too short
  pub passes_it : (k word : ℕ)
      → Facts j lies record { words = s.words; homes = s.homes; views = set s.views id (forgets (finds_interval v k word)) }
  passes_it k word = found_learned j lies s f id v at live (finds_interval v k word).desk.found (forgets v).loops refl
      (looped_at lies s.words (forgets (finds_interval v k word)) ws refl (lost_sight j.workers lies ws hands f.looped id (hand_of v) hand_there))

  pub sights_it : (k : ℕ) → k < j.workers → (ws.interval k).low < (ws.interval k).high
      → Facts j lies record {
        words = s.words;
        homes = s.homes;
        views = set s.views id (sights v k (ws.interval k).low (ws.interval k).high);
      }
  sights_it k less long = found_learned j lies s f id v at live (sights v k (ws.interval k).low (ws.interval k).high).desk.found
      (sights v k (ws.interval k).low (ws.interval k).high).loops refl
      (looped_at lies s.words (sights v k (ws.interval k).low (ws.interval k).high) ws refl
      (found_interval j.workers lies ws hands f.looped id (hand_of v) hand_there k less long))

  module _ (o : Sight) (saw : v.loops.sight ≡ Some o) where
    pub seen : IsSeen j.workers ws hands o
    seen = own_handles.sight live o saw

    -- and its home word
    pub homes_seen : Facts j lies record {
      words = s.words;
      homes = s.homes;
      views = set s.views id (sights_home v o.victim o.low o.high (word_at l s.words (worker_word o.victim home)));
    }
    homes_seen = let word : ws.home o.victim ≡ word_at l s.words (worker_word o.victim home) = own_there l s.words home o.victim seen.inside in
        subst (λ (n : ℕ). Facts j lies record {
          words = s.words;
          homes = s.homes;
          views = set s.views id (sights_home v o.victim o.low o.high n);
        }) word
        (hands_learned j lies s f id v at live (sights_home v o.victim o.low o.high (ws.home o.victim)).loops refl
        (looped_at lies s.words (sights_home v o.victim o.low o.high (ws.home o.victim)) ws refl
        (found_home j.workers lies ws hands f.looped id (hand_of v) hand_there o live saw)))

    -- IT IS SPLIT

    module _ (word : ℕ) (home_seen : o.home ≡ Some word) (parts : ℕ) (kept : Pair) (dealt : List Pair) (some_parts : 1 ≤ parts)
        (two : o.low + 2 ≤ o.high) (cut : IsCut (record { low = o.low; high = o.high }) parts kept dealt)
        (there_is : IsPairWord (word_at l s.words (worker_word o.victim interval)) o.low o.high) (kept_fits : IsPair kept) where
      abbrev k : ℕ
      k = o.victim

      pub less : k < j.workers
      less = seen.inside

      pub own_pair : ws.interval k ≡ record { low = o.low; high = o.high }
      own_pair = interval_is k less o.low o.high there_is

      pub long_now : (ws.interval k).low < (ws.interval k).high
      long_now = let a = ap (λ (z : Pair). z.low) own_pair in let b = ap (λ (z : Pair). z.high) own_pair in omega (arith, a, b, two)

      abbrev q : Path
      q = begun.p j lies s f k less long_now

      abbrev y : Lie
      y = begun.t j lies s f k less long_now

      y_is : lies q ≡ some y
      y_is = begun.is j lies s f k less long_now

      abbrev y' : Lie
      y' = record y { pieces = cut_all y.first dealt y.pieces }

      abbrev split_lies : Lies
      split_lies = put lies q (some y')

      abbrev pub victims_loop : Spot
      victims_loop = record { berth = y.berth; path = q }

      -- the home word that was seen is that of this interval
      pub named_so : suc y.berth.at ≡ word
      named_so = sym (begun.home j lies s f k less long_now) ∙ seen.home word home_seen own_pair

      pub loop_inside : IsLoopAt v victims_loop y.berth.at
      loop_inside = record {
        lies = refl;
        inside = λ z told. subst (λ (z : Setup). (y.berth.at < RECORDS * z.workers) × (z.workers ≤ 8))
            (the_some (sym ((f.fits id v at).setup live) ∙ told)) (f.words.inside q y y_is, f.crew);
      }

      -- a position stands in one place at most
      not_twice : (x : Share) → In x v.loops.pieces → o.low ≤ x.low → x.low < o.high → ⊥
      not_twice x i from to =
          let long = (own_handles.pieces x i).some_left in
          let there_is : between o.low o.high x.low ≡ 1 = omega (arith, from, to) in
          let here_is : between x.low x.high x.low ≡ 1 = omega (arith, long) in
          let own = ap (λ (z : Pair). in_pair z x.low) own_pair ∙ there_is in
          twice _ _ _ _ _ _ _ _ _ _ (f.looped.positions x.low) (one_most j.workers (λ n. in_pair (ws.interval n) x.low) k less) own
          (weigh_one (λ (y : Hand). in_hand x.low y) hands id (hand_of v) hand_there)
          (subst (λ (n : ℕ). n ≤ in_shares x.low v.loops.pieces) here_is (share_most x.low v.loops.pieces x i))

      pub are_new : AreNew v o.low o.high
      are_new x i = elim (less_or x.low o.low) [
        | inl before ↦ inl before.0
        | inr from ↦ (elim (less_or x.low o.high) [ inl to ↦ absurd (not_twice x i from.0 to.0) | inr after ↦ inr after.0 ])
      ]

      gives : (o.low < kept.high) × (kept.high < o.high) × Fill kept.high dealt o.high
      gives = cut_gives o.low o.high parts kept dealt two some_parts cut

      abbrev w' : View
      w' = takes_pieces v victims_loop dealt

      abbrev split_words : List ℕ
      split_words = set s.words (place l (worker_word k interval)) (packed_pair kept)

      abbrev cut_off : Pair
      cut_off = record { low = o.low; high = kept.high }

      kept_is : cut_off ≡ kept
      kept_is = λ i. record { low = sym cut.first i; high = kept.high }

      given_now : Looped j.workers split_lies (record ws { interval = at_worker ws.interval k kept }) (set hands id (hand_of w'))
      given_now = subst (λ (z : Pair). Looped j.workers split_lies (record ws { interval = at_worker ws.interval k z }) (set hands id (hand_of w'))) kept_is
          (split_given j.workers lies ws hands f.looped id (hand_of v) hand_there k less q y y_is (begun.live j lies s f k less long_now)
          (begun.alone j lies s f k less long_now) (begun.home j lies s f k less long_now) o.low kept.high o.high own_pair gives.0 gives.1 dealt gives.2)

      pub splits_it : Facts j split_lies record { words = split_words; homes = s.homes; views = set s.views id w' }
      splits_it = let runs = begun.runs j lies s f k less long_now in let stay = positions_stay k less (packed_pair kept) in
          book_turned j lies s q y y' split_words id v w'.loops f at live (record {
            turn = turn_at l lies s.words q y y' f.words y_is runs.0 true true runs.1 runs.1 refl (worker_word k interval) less (interval_loops k)
                (packed_pair kept) refl refl (omega (arith, stay));
            stage = refl;
            answers = refl;
            count = refl;
            long = refl;
            core = subst (Cored j split_lies) (sym (elements_stay k less (packed_pair kept)))
                (cores.stays j f.laws lies (elements l s.words) f.core q y y_is y' refl refl refl);
            looped = looped_at split_lies split_words w' _ (interval_now k less kept kept_fits) given_now;
            pending = refl;
            positions = stay;
          })
