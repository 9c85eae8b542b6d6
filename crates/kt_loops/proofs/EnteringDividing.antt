-- What steps on intervals do to the core and to a loop's book: a chunk claims its indexes, all others leave the core as it is, and a split cuts the book.
use Rattle.std.proofs.Common.{◌≡◌, ℕ, suc, ◌+◌, ◌-◌, ◌<◌, ◌≤◌, true, false, List, set, sym, refl, ap, subst, arith, Some}
use mathlib.Core.Option.{some}
use lib.ListN.{get_elem?}
use Rattle.atomic_table.specs.Table.{State}
use Rattle.kt_order.specs.Books.{take}
use Rattle.kt_prog.proofs.Plain.{plain, loops_are_direct}
use Rattle.kt_split.specs.Splits.{IsCut}
use Rattle.kt_words.specs.Places.{place, worker_word, interval}
use Rattle.kt_words.specs.Words.{packed_pair, IsPair}
use Rattle.kt_words.specs.declared.layouts.Layout.{Layout}
use Rattle.kt_words.specs.declared.pairs.Pair.{Pair}
use Rattle.kt_pieces.specs.Changes.{run_indexes, cut_all}
use Rattle.kt_pieces.proofs.Splits.{cut_gives}
use Rattle.kt_pieces.proofs.LoopCoreTakes.{Taken, takes}
use Rattle.kt_rule.specs.declared.views.Setup.{Setup}
use Rattle.kt_rule.specs.declared.views.Berth.{Berth}
use Rattle.kt_rule.specs.declared.views.Spot.{Spot}
use Rattle.kt_rule.specs.declared.views.Share.{Share}
use Rattle.kt_rule.specs.declared.views.Sight.{Sight}
use Rattle.kt_rule.specs.declared.views.View.{View}
use Rattle.kt_rule.specs.Paths.{put}
use Rattle.kt_rule.specs.Lists.{In}
use Rattle.kt_rule.specs.Lies.{Lie, Lies, is_gone}
use Rattle.kt_rule.specs.Records.{layout_of, elements}
use Rattle.kt_rule.specs.LoopWords.{loop_words}
use Rattle.kt_rule.specs.LoopFacts.{IsShare}
use Rattle.kt_rule.specs.Rule.{Slots, Facts}
use Rattle.kt_rule.proofs.Puts.{put_here}
use Rattle.kt_rule.proofs.Shelf.{elements_else}
use Rattle.kt_steps.specs.CoreMoves.{Stays}
use Rattle.kt_steps.specs.Laws.{Enters}
use Rattle.kt_steps.proofs.Entering.{stays_still}
use Rattle.kt_loops.specs.Hands.{holds_piece, finds_empty, takes_chunk, sights, takes_pieces}
use Rattle.kt_loops.specs.Told.{IsPairWord, IsOwnLoop}
use Rattle.kt_loops.specs.LoopEvents.{TakesIndexes, LoopEnters, first_at, BookGoes}
use Rattle.kt_loops.specs.Laws.{interval_of, after_interval, after_load, FillStays, EmptyStays, ChunkEnters, SightStays, ShortSightStays, HomeSightStays, SplitStays, MissedSplitStays}
use Rattle.kt_loops.proofs.RetireSteps.{own_hands}
use Rattle.kt_loops.proofs.BegunLoops as begun
use Rattle.kt_loops.proofs.IntervalSteps as steps
use Rattle.kt_loops.proofs.Entering.{own, same_enters, loop_enters, first_there, shows_book}

-- an interval's word is no element
interval_apart : (j : Setup) (s : State Slots View) (k : ℕ) → k < j.workers → (n : ℕ)
    → elements (layout_of j) (set s.words (place (layout_of j) (worker_word k interval)) n) ≡ elements (layout_of j) s.words
interval_apart j s k less n = elements_else (layout_of j) s.words (worker_word k interval) n less tt

module _ (j : Setup) (lies : Lies) (s : State Slots View) (f : Facts j lies s) (id : ℕ) (v : View) (at : get_elem? s.views id ≡ some v)
    (live : 0 < v.parts) where
  abbrev l : Layout
  l = layout_of j

  abbrev less : id < j.workers
  less = steps.seat_less j lies s f id v at live

  -- a step that changes no word
  load_enters : (w : View) → Facts j lies (after_load s id w) → Enters j Stays s (after_load s id w)
  load_enters w g = same_enters j lies s (after_load s id w) f g refl

  -- A PIECE IN HAND

  module _ (x : Share) (x_in : In x v.loops.pieces) (home_is : v.loops.home ≡ suc x.spot.berth.at) (free : v.loops.free ≡ true) where
    abbrev filled : State Slots View
    filled = after_interval j s id x.low x.high id (holds_piece v x)

    abbrev share : IsShare lies x
    share = (own_hands j lies s f id v at live).pieces x x_in

    held : Facts j lies filled
    held = steps.holds_it j lies s f id v at live x x_in (sym home_is) free (steps.share_fits j lies s f id v at live x x_in)

    pub fills : Enters j Stays s filled × BookGoes j x.spot.berth.at (λ b. b) s filled
    fills = (
      same_enters j lies s filled f held (interval_apart j s id less (packed_pair (record { low = x.low; high = x.high }))),
      subst (λ (b : Berth). BookGoes j b.at (λ b. b) s filled) share.berth (
        record { pieces = share.task.pieces; unretired = share.task.unretired },
        shows_book j lies s f x.spot.path share.task share.is share.live,
        shows_book j lies filled held x.spot.path share.task share.is share.live,
      ),
    )

  -- THE OWN INTERVAL

  pub empties : (low high : ℕ) → IsPairWord (interval_of j s id) low high → high ≤ low → Enters j Stays s (after_load s id (finds_empty v))
  empties low high there_is hollow = load_enters (finds_empty v) (steps.empties_it j lies s f id v at live
      (subst (λ (z : Pair). z.high ≤ z.low) (sym (steps.interval_is j lies s f id v at live id less low high there_is)) hollow))

  module _ (low middle high : ℕ) (there_is : IsPairWord (interval_of j s id) low high) (some_more : low < middle) (enough : middle ≤ high) where
    left_fits : IsPair (record { low = middle; high = high })
    left_fits = let a = there_is.0.high_fits in record { low_fits = omega (arith, a, enough); high_fits = a }

    abbrev m : Spot
    m = steps.loop j lies s f id v at live low middle high there_is some_more enough left_fits f.accepted

    abbrev first : ℕ
    first = steps.first j lies s f id v at live low middle high there_is some_more enough left_fits f.accepted

    abbrev chunked : State Slots View
    chunked = after_interval j s id middle high id (takes_chunk v m first low (middle - low))

    abbrev long : ((loop_words l s.words).interval id).low < ((loop_words l s.words).interval id).high
    long = steps.long j lies s f id v at live low middle high there_is some_more enough left_fits f.accepted

    own_pair : (loop_words l s.words).interval id ≡ record { low = low; high = high }
    own_pair = steps.interval_is j lies s f id v at live id less low high there_is

    abbrev t : Lie
    t = begun.t j lies s f id less long

    abbrev from : ℕ
    from = begun.from j lies s f id less long

    abbrev n : ℕ
    n = middle - low

    abbrev u : Lie
    u = record t { indexes = run_indexes from n t.indexes; pieces = take from n t.pieces }

    abbrev lies' : Lies
    lies' = put lies m.path (some u)

    g : Facts j lies' chunked
    g = steps.takes_it j lies s f id v at live low middle high there_is some_more enough left_fits f.accepted

    from_is : from ≡ low - first
    from_is = ap (λ (z : Pair). z.low - t.first) own_pair

    fits_in : ((loop_words l s.words).interval id).low + n ≤ ((loop_words l s.words).interval id).high
    fits_in = let a = ap (λ (z : Pair). z.low) own_pair in let b = ap (λ (z : Pair). z.high) own_pair in omega (arith, a, b, some_more, enough)

    goes : Taken j f.laws (elements l s.words) m.path plain loops_are_direct f.accepted from n lies lies'
    goes = takes j f.laws (elements l s.words) m.path plain loops_are_direct f.accepted n from lies f.core t (begun.is j lies s f id less long)
        (begun.bare j lies s f id less long) (begun.waits j lies s f id less long n (omega (arith, some_more)) fits_in) u
        (record { berth = refl; phase = refl; answers = refl; count = refl }) refl

    claims : LoopEnters j (TakesIndexes m.path from n) s chunked
    claims = loop_enters j (TakesIndexes m.path from n) lies lies' s chunked f g
        (interval_apart j s id less (packed_pair (record { low = middle; high = high }))) goes.enabled goes.after

    book : BookGoes j m.berth.at (λ b. record b { pieces = take from n b.pieces }) s chunked
    book = (
      record { pieces = t.pieces; unretired = t.unretired },
      shows_book j lies s f m.path t (begun.is j lies s f id less long) (begun.live j lies s f id less long),
      shows_book j lies' chunked g m.path u (put_here lies m.path (some u)) (begun.live j lies s f id less long),
    )

    abbrev taken_from : ℕ → Type 0
    taken_from z = let s' = after_interval j s id middle high id (takes_chunk v m z low n) in
        IsOwnLoop v m z low high × LoopEnters j (TakesIndexes m.path (low - z) n) s s'
        × BookGoes j m.berth.at (λ b. record b { pieces = take (low - z) n b.pieces }) s s'

    pub chunks : (m : Spot) × (let first = first_at j s m.berth.at in
        let s' = after_interval j s id middle high id (takes_chunk v m first low n) in
        IsOwnLoop v m first low high × LoopEnters j (TakesIndexes m.path (low - first) n) s s'
        × BookGoes j m.berth.at (λ b. record b { pieces = take (low - first) n b.pieces }) s s')
    chunks = (
      m,
      subst taken_from (sym (first_there j lies s f m.path t (begun.is j lies s f id less long) (begun.live j lies s f id less long))) (
        steps.own_loop j lies s f id v at live low middle high there_is some_more enough left_fits f.accepted,
        subst (λ (i : ℕ). LoopEnters j (TakesIndexes m.path i n) s chunked) from_is claims,
        subst (λ (i : ℕ). BookGoes j m.berth.at (λ b. record b { pieces = take i n b.pieces }) s chunked) from_is book,
      ),
    )

  -- A SPLIT

  module _ (o : Sight) (saw : v.loops.sight ≡ Some o) (word : ℕ) (home_seen : o.home ≡ Some word)
      (there_is : IsPairWord (interval_of j s o.victim) o.low o.high) (two : o.low + 2 ≤ o.high) (parts : ℕ) (some_parts : 1 ≤ parts) (kept : Pair)
      (dealt : List Pair) (cut : IsCut (record { low = o.low; high = o.high }) parts kept dealt) where
    kept_fits : IsPair kept
    kept_fits = let a = there_is.0.high_fits in let b = cut.first in let c = cut_gives o.low o.high parts kept dealt two some_parts cut in
        record { low_fits = omega (arith, a, b, two); high_fits = omega (arith, a, c.1) }

    abbrev in_table : o.victim < j.workers
    in_table = steps.less j lies s f id v at live o saw word home_seen parts kept dealt some_parts two cut there_is kept_fits

    abbrev longer : ((loop_words l s.words).interval o.victim).low < ((loop_words l s.words).interval o.victim).high
    longer = steps.long_now j lies s f id v at live o saw word home_seen parts kept dealt some_parts two cut there_is kept_fits

    abbrev victims : Spot
    victims = steps.victims_loop j lies s f id v at live o saw word home_seen parts kept dealt some_parts two cut there_is kept_fits

    abbrev y : Lie
    y = begun.t j lies s f o.victim in_table longer

    abbrev y' : Lie
    y' = record y { pieces = cut_all y.first dealt y.pieces }

    abbrev split_lies : Lies
    split_lies = put lies victims.path (some y')

    abbrev cut_to : State Slots View
    cut_to = after_interval j s o.victim kept.low kept.high id (takes_pieces v victims dealt)

    done : Facts j split_lies cut_to
    done = steps.splits_it j lies s f id v at live o saw word home_seen parts kept dealt some_parts two cut there_is kept_fits

    is : lies victims.path ≡ some y
    is = begun.is j lies s f o.victim in_table longer

    lives : is_gone y.stage ≡ false
    lives = begun.live j lies s f o.victim in_table longer

    book_cut : BookGoes j victims.berth.at (λ b. record b { pieces = cut_all y.first dealt b.pieces }) s cut_to
    book_cut = (
      record { pieces = y.pieces; unretired = y.unretired },
      shows_book j lies s f victims.path y is lives,
      shows_book j split_lies cut_to done victims.path y' (put_here lies victims.path (some y')) lives,
    )

    pub splits : (m : Spot) × (let s' = after_interval j s o.victim kept.low kept.high id (takes_pieces v m dealt) in
        (suc m.berth.at ≡ word) × Enters j Stays s s'
        × BookGoes j m.berth.at (λ b. record b { pieces = cut_all (first_at j s m.berth.at) dealt b.pieces }) s s')
    splits = (
      victims,
      (
        steps.named_so j lies s f id v at live o saw word home_seen parts kept dealt some_parts two cut there_is kept_fits,
        (
          (split_lies, done),
          stays_still j lies s cut_to f victims.path y is y' refl refl done refl (interval_apart j s o.victim in_table (packed_pair kept)),
        ),
        subst (λ (n : ℕ). BookGoes j victims.berth.at (λ b. record b { pieces = cut_all n dealt b.pieces }) s cut_to)
            (sym (first_there j lies s f victims.path y is lives)) book_cut,
      ),
    )

pub fill_stays : FillStays
fill_stays j s (lies, f) id v (at, live) x x_in home_is free =
    subst (λ (k : ℕ). let s' = after_interval j s k x.low x.high id (holds_piece v x) in
    Enters j Stays s s' × BookGoes j x.spot.berth.at (λ b. b) s s')
    (sym (own j lies s f id v at live)) (fills j lies s f id v at live x x_in home_is free)

pub empty_stays : EmptyStays
empty_stays j s (lies, f) id v (at, live) low high there_is hollow =
    empties j lies s f id v at live low high
    (subst (λ (k : ℕ). IsPairWord (interval_of j s k) low high) (own j lies s f id v at live) there_is) hollow

pub chunk_enters : ChunkEnters
chunk_enters j s (lies, f) id v (at, live) low middle high there_is some_more enough =
    subst (λ (k : ℕ). (m : Spot) × (let first = first_at j s m.berth.at in
    let s' = after_interval j s k middle high id (takes_chunk v m first low (middle - low)) in
    IsOwnLoop v m first low high × LoopEnters j (TakesIndexes m.path (low - first) (middle - low)) s s'
    × BookGoes j m.berth.at (λ b. record b { pieces = take (low - first) (middle - low) b.pieces }) s s'))
    (sym (own j lies s f id v at live))
    (chunks j lies s f id v at live low middle high
    (subst (λ (k : ℕ). IsPairWord (interval_of j s k) low high) (own j lies s f id v at live) there_is) some_more enough)

pub sight_stays : SightStays
sight_stays j s (lies, f) id v (at, live) victim victim_in low high there_is two =
    let pair = steps.interval_is j lies s f id v at live victim victim_in low high there_is in
    load_enters j lies s f id v at live (sights v victim low high)
    (subst (λ (z : Pair). Facts j lies (after_load s id (sights v victim z.low z.high))) pair
    (steps.sights_it j lies s f id v at live victim victim_in (subst (λ (z : Pair). z.low < z.high) (sym pair) (omega (arith, two)))))

pub short_sight_stays : ShortSightStays
short_sight_stays j s (lies, f) id v (at, live) victim = load_enters j lies s f id v at live _ (steps.passes_it j lies s f id v at live victim _)

pub home_sight_stays : HomeSightStays
home_sight_stays j s (lies, f) id v (at, live) o saw = load_enters j lies s f id v at live _ (steps.homes_seen j lies s f id v at live o saw)

pub split_stays : SplitStays
split_stays j s (lies, f) id v (at, live) o saw word home_seen there_is two parts some_parts kept dealt cut =
    splits j lies s f id v at live o saw word home_seen there_is two parts some_parts kept dealt cut

pub missed_split_stays : MissedSplitStays
missed_split_stays j s (lies, f) id v (at, live) = load_enters j lies s f id v at live _ (steps.forgets_it j lies s f id v at live)
