-- The steps by which a loop begins, as the table asks for them, and what each tells.
use Rattle.std.proofs.Common.{◌≡◌, ◌≢◌, ℕ, suc, ◌+◌, ◌*◌, ◌%◌, ◌^◌, ◌<◌, ◌≤◌, ◌⊎◌, true, false, List, [], ◌∷◌, map, set, slice_index, sym, refl, ap, ◌∙◌, subst, inl, inr, arith, Some}
use mathlib.Core.Option.{none, some}
use lib.ListN.{get_elem?}
use Rattle.atomic_table.specs.Table.{State, Me, Act, Valid, carried_after, stepped, keeps, step, Allows}
use Rattle.kt_law.specs.declared.limits.TheConstants.{INDEXES, LENGTH, WORKERS}
use Rattle.kt_order.specs.Forest.{Phase, Running, Finished}
use Rattle.kt_runs.specs.ByPath.{Path}
use Rattle.kt_runs.specs.Loops.{CanBegin}
use Rattle.kt_words.specs.Places.{place, worker_word, record_word, interval, home}
use Rattle.kt_words.specs.Words.{packed_pair, IsPair}
use Rattle.kt_words.specs.declared.pairs.Pair.{Pair}
use Rattle.kt_rule.specs.declared.views.Setup.{Setup}
use Rattle.kt_rule.specs.declared.views.Berth.{Berth}
use Rattle.kt_rule.specs.declared.views.Execution.{Execution}
use Rattle.kt_rule.specs.declared.views.View.{View}
use Rattle.kt_rule.specs.Lies.{Lie, Lies, is_gone}
use Rattle.kt_rule.specs.Records.{layout_of, word_at, positions_at}
use Rattle.kt_rule.specs.Facts.{task_in}
use Rattle.kt_rule.specs.LoopWords.{Hand, loop_words, pair_in, hand_of, hands_of}
use Rattle.kt_rule.specs.LoopFacts.{Handles}
use Rattle.kt_rule.specs.Rule.{Slots, Facts, Holds}
use Rattle.kt_rule.specs.Steps.{Tells}
use Rattle.kt_rule.proofs.Shelf as shelf
use Rattle.kt_rule.proofs.Words.{says_field}
use Rattle.kt_steps.proofs.Drawing.{weigh_less}
use Rattle.kt_steps.proofs.LoopSeats.{weigh_hands, at_hand}
use Rattle.kt_steps.proofs.Steps.{inside, holds_at, same_state, at_head, runs_live, head_agrees}
use Rattle.kt_steps.proofs.Telling.{the_some}
use Rattle.kt_loops.specs.Hands.{share_from, draws_positions, places_first, homes_at, begins_now}
use Rattle.kt_loops.specs.Told.{DrawsPositions, PlacesFirst, HomesAt, BeginsAt, IsExtent, FindsFirst}
use Rattle.kt_loops.proofs.TurningWords.{pair_back, pair_fits, pair_told}
use Rattle.kt_loops.proofs.LoopCalls.{length_few}
use Rattle.kt_loops.proofs.OnTheWay.{loops_on}
use Rattle.kt_loops.proofs.BeginSteps as begin
use Rattle.kt_loops.proofs.BeginStore as store

-- THE BOUND OF THE COUNT OF POSITIONS

pub positions_most : (j : Setup) (lies : Lies) (s : State Slots View) → Facts j lies s
    → word_at (layout_of j) s.words positions_at ≤ INDEXES + LENGTH * WORKERS
positions_most j lies s f =
    let a = f.looped.bound in
    let b = weigh_less (λ (h : Hand). h.loops.over) (λ (h : Hand). h.parts) (hands_of s.views) (λ k h at. (f.looped.handles k h at).overs) in
    let c = weigh_hands (λ (h : Hand). h.parts) s.views in
    let d = f.counts.parts in let e = f.crew in omega (arith, a, b, c, d, e)

-- WHERE A TASK'S RECORD IS READ

module _ (j : Setup) (lies : Lies) (s : State Slots View) (f : Facts j lies s) where
  -- the word of the third field of a task that lives
  pub extent_there : (p : Path) (t : Lie) → lies p ≡ some t → is_gone t.stage ≡ false → (at : ℕ) → t.berth.at ≡ at
      → pair_in (word_at (layout_of j) s.words (record_word at 3)) ≡ record { low = t.berth.call.length; high = t.first }
  extent_there p t is live at at_is = ap (λ (a : ℕ). pair_in (word_at (layout_of j) s.words (record_word a 3))) (sym at_is)
      ∙ (ap pair_in (says_field (layout_of j) lies s.words f.words p t is live 3 (packed_pair (record { low = t.berth.call.length; high = t.first }))
      (omega arith) refl) ∙ pair_told (record { low = t.berth.call.length; high = t.first })
      (let a = length_few j lies s f p t is in omega (arith, a)))

  -- what it says of the loops in hand
  pub extent_so : (id : ℕ) (v : View) → get_elem? s.views id ≡ some v → (at : ℕ)
      → IsExtent v at (pair_in (word_at (layout_of j) s.words (record_word at 3))).low (pair_in (word_at (layout_of j) s.words (record_word at 3))).high
  extent_so id v there_is at = record {
    taken = λ e i lies_at. let h = hands.taken e i in
        let on = loops_on j lies s f e.spot.path h.task h.is e.index h.index h.at (running_not h.phase_is) in
        let w = extent_there e.spot.path h.task h.is (ap is_gone on.1) at (ap (λ (b : Berth). b.at) h.berth ∙ lies_at) in
        h.position ∙ ap (λ (z : Pair). z.high + e.index) (sym w);
    pieces = λ x i lies_at. let h = hands.pieces x i in
        let w = extent_there x.spot.path h.task h.is h.live at (ap (λ (b : Berth). b.at) h.berth ∙ lies_at) in
        let a = ap (λ (z : Pair). z.high) w in let b = h.first in omega (arith, a, b);
    runs = λ e rest is lies_at. let h = (f.fits id v there_is).running e (at_head v e rest is) in
        let w = extent_there e.spot.path h.0 h.1 (ap is_gone h.3.1 ∙ runs_live e.looping h.3.0) at (ap (λ (b : Berth). b.at) h.2.berth ∙ lies_at) in
        ap (λ (z : Pair). z.low) w ∙ ap (λ (b : Berth). b.call.length) h.2.berth;
  }
    where
      hands : Handles j.workers lies f.looped.owner (loop_words (layout_of j) s.words) (hands_of s.views) id (hand_of v)
      hands = f.looped.handles id (hand_of v) (at_hand s.views id v there_is)

      running_not : {x : Phase} → x ≡ Running → x ≢ Finished
      running_not e d = let z : Running ≡ Finished = sym e ∙ d in cc

module _ (opening : List ℕ) (slots id : ℕ) (me : Me Slots View) (j : Setup) (setup : me.0.setup ≡ Some j) (live : 0 < me.0.parts) where
  abbrev v : View
  v = me.0

  own_worker : (lies : Lies) (s : State Slots View) → Facts j lies s → get_elem? s.views id ≡ some me.0 → me.0.worker ≡ id
  own_worker lies s f at = (f.fits id me.0 at).own live

  -- a load of what a loop's record tells
  pub finds_first_told : (i : ℕ) → Allows (Holds opening) slots id me i (λ n. n) (Tells FindsFirst (step slots i 0 0 none) me)
  finds_first_told i s h out at word =
      let x = inside opening s j id me.0 h at live setup in let lies = x.0 in let f = x.1 in (
        me.0,
        keeps,
        tt,
        subst (Holds opening) (sym (same_state s i id me.0 me.1 at)) h,
        (
          (
            refl,
            λ a k told less i_is. (
              (pair_in (slice_index s.words i)).low,
              (pair_in (slice_index s.words i)).high,
              (pair_fits (slice_index s.words i) word, sym (pair_back (slice_index s.words i))),
              (let same : slice_index s.words i ≡ word_at (layout_of j) s.words (record_word a 3)
                  = ap (slice_index s.words) (i_is ∙ ap (λ (z : Setup). place (layout_of z) (record_word a 3)) (the_some (sym told ∙ setup))) in
                  subst (λ (n : ℕ). IsExtent me.0 a (pair_in n).low (pair_in n).high) (sym same) (extent_so j lies s f id me.0 at a)),
            ),
          ),
          refl,
        ),
      )

  -- the own home word
  pub homes_told : (a i new : ℕ) → me.0.loops.free ≡ true → i ≡ place (layout_of j) (worker_word me.0.worker home) → new ≡ suc a
      → Allows (Holds opening) slots id me i (λ _. new) (λ _. Tells HomesAt (step slots i new 0 none) me new)
  homes_told a i new free i_is new_is s h out at word =
      let x = inside opening s j id me.0 h at live setup in let lies = x.0 in let f = x.1 in let w : View = homes_at me.0 a in (
        w,
        keeps,
        tt,
        holds_at opening j lies s id (place (layout_of j) (worker_word id home)) i (suc a) new w w
            (ap (λ (k : ℕ). place (layout_of j) (worker_word k home)) (sym (own_worker lies s f at)) ∙ sym i_is) (sym new_is) refl
            (begin.homes_it j lies s f id me.0 at live free a),
        ((λ b e. ap (homes_at me.0) (suc_one a b (sym new_is ∙ e))), refl),
      )
    where
      suc_one : (a b : ℕ) → suc a ≡ suc b → a ≡ b
      suc_one a b e = omega (arith, e)

  module _ (e : Execution) (rest : List Execution) (runs : me.0.tasks.running ≡ e ∷ rest) (plain : e.looping ≡ false) where
    abbrev long : ℕ
    long = e.spot.berth.call.length

    same_head : {x : Execution} → {xs : List Execution} → e ∷ rest ≡ x ∷ xs → e ≡ x
    same_head h = cc

    same_rest : {x : Execution} → {xs : List Execution} → e ∷ rest ≡ x ∷ xs → rest ≡ xs
    same_rest h = cc

    -- the first position, in the record
    pub places_told : (first i new : ℕ) → me.0.loops.pending ≡ share_from e.spot first ∷ []
        → i ≡ place (layout_of j) (record_word e.spot.berth.at 3) → new ≡ packed_pair (record { low = long; high = first })
        → Allows (Holds opening) slots id me i (λ _. new) (λ _. Tells PlacesFirst (step slots i new 0 none) me new)
    places_told first i new drawn i_is new_is s h out at word =
        let x = inside opening s j id me.0 h at live setup in let lies = x.0 in let f = x.1 in (
          places_first me.0,
          keeps,
          tt,
          holds_at opening j _ s id (place (layout_of j) (record_word e.spot.berth.at 3)) i (packed_pair (record { low = long; high = first })) new
              (places_first me.0) (places_first me.0) (sym i_is) (sym new_is) refl
              (begin.places_it j lies s f id me.0 at live e rest runs plain first drawn),
          (refl, refl),
        )

    module _ (zeroed : CanBegin j.program (map suc e.spot.path) e.spot.berth.call (task_in j e)) where
      -- the interval
      pub begins_told : (first i new : ℕ) → me.0.loops.pending ≡ share_from e.spot first ∷ [] → me.0.loops.placed ≡ true → me.0.loops.free ≡ true
          → me.0.loops.home ≡ suc e.spot.berth.at → me.0.loops.over ≡ 0 → IsPair (record { low = first; high = first + long })
          → i ≡ place (layout_of j) (worker_word me.0.worker interval) → new ≡ packed_pair (record { low = first; high = first + long })
          → Allows (Holds opening) slots id me i (λ _. new) (λ _. Tells BeginsAt (step slots i new 0 none) me new)
      begins_told first i new drawn placed free homed none_over fits i_is new_is s h out at word =
          let x = inside opening s j id me.0 h at live setup in let lies = x.0 in let f = x.1 in let w : View = begins_now me.0 e rest in (
            w,
            keeps,
            tt,
            holds_at opening j _ s id (place (layout_of j) (worker_word id interval)) i (packed_pair (record { low = first; high = first + long })) new w w
                (ap (λ (k : ℕ). place (layout_of j) (worker_word k interval)) (sym (own_worker lies s f at)) ∙ sym i_is) (sym new_is) refl
                (store.begins_it j lies s f id me.0 at live e rest runs plain first drawn placed free homed none_over zeroed.loop zeroed.zeroed fits),
            ((λ y ys is. λ k. begins_now me.0 (same_head (sym runs ∙ is) k) (same_rest (sym runs ∙ is) k)), refl),
          )

      -- the draw of its positions
      pub draws_told : (i count : ℕ) → me.0.loops.over ≡ 0 → me.0.loops.pending ≡ [] → i ≡ place (layout_of j) positions_at
          → count ≡ long
          → Allows (Holds opening) slots id me i (λ n. (n + count) % 2 ^ 64) (Tells DrawsPositions (step slots i count 0 none) me)
      draws_told i count none_over none_pending i_is count_is s h out at word = go (most_or (n + count) INDEXES)
        where
          there_is : (lies : Lies) × Facts j lies s
          there_is = inside opening s j id me.0 h at live setup

          lies : Lies
          lies = there_is.0

          f : Facts j lies s
          f = there_is.1

          n : ℕ
          n = slice_index s.words i

          n_is : word_at (layout_of j) s.words positions_at ≡ n
          n_is = ap (slice_index s.words) (sym i_is)

          few : long ≤ LENGTH
          few = let b = length_few j lies s f e.spot.path _ (begin.t_is j lies s f id me.0 at live e rest runs plain) in
              let c = ap (λ (b : Berth). b.call.length) (head_agrees j lies s f id me.0 at live e rest runs plain).berth in omega (arith, b, c)

          most_or : (a b : ℕ) → (a ≤ b) ⊎ (b < a)
          most_or a b = grind arith

          wraps_not : (n + count) % 2 ^ 64 ≡ n + count
          wraps_not = let a = positions_most j lies s f in let b = n_is in let c = few in let d = count_is in omega (arith, a, b, c, d)

          same_count : word_at (layout_of j) s.words positions_at + long ≡ n + count
          same_count = let b = n_is in let d = count_is in omega (arith, b, d)

          done : (over : ℕ) → over ≤ 1 → (over ≡ 0 → n + count ≤ INDEXES) → (0 < over → INDEXES < n + count)
              → Facts j lies record {
                words = set s.words (place (layout_of j) positions_at) (n + count);
                homes = s.homes;
                views = set s.views id (draws_positions me.0 e n over);
              }
          done over most within beyond = subst (λ (z : ℕ × ℕ). Facts j lies record {
            words = set s.words (place (layout_of j) positions_at) z.0;
            homes = s.homes;
            views = set s.views id (draws_positions me.0 e z.1 over);
          }) (λ k. (same_count k, n_is k))
              (begin.draws_it j lies s f id me.0 at live e rest runs plain none_over none_pending zeroed.zeroed few over most
              (λ z. let a = within z in let b = same_count in omega (arith, a, b)) (λ z. let a = beyond z in let b = same_count in omega (arith, a, b)))

          holds : (over : ℕ) → Facts j lies record {
            words = set s.words (place (layout_of j) positions_at) (n + count);
            homes = s.homes;
            views = set s.views id (draws_positions me.0 e n over);
          } → Holds opening (stepped s i ((n + count) % 2 ^ 64) id me.1 (draws_positions me.0 e n over) keeps)
          holds over g = holds_at opening j lies s id (place (layout_of j) positions_at) i (n + count) ((n + count) % 2 ^ 64)
              (draws_positions me.0 e n over) (draws_positions me.0 e n over) (sym i_is) (sym wraps_not) refl g

          -- the count after the draw is below the bound
          bounded : (over : ℕ) → Facts j lies record {
            words = set s.words (place (layout_of j) positions_at) (n + count);
            homes = s.homes;
            views = set s.views id (draws_positions me.0 e n over);
          } → n + count ≤ INDEXES + LENGTH * WORKERS
          bounded over g = let a = positions_most j lies _ g in
              let b : word_at (layout_of j) (set s.words (place (layout_of j) positions_at) (n + count)) positions_at ≡ n + count
              = shelf.here (layout_of j) s.words positions_at (n + count) tt f.words.wide in omega (arith, a, b)

          Goal : Type 0
          Goal = (u : View) × (a : Act Slots) × Valid s.homes me.1 a × Holds opening (stepped s i ((n + count) % 2 ^ 64) id me.1 u a)
              × Tells DrawsPositions (step slots i count 0 none) me n (u, carried_after me.1 a)

          go : (n + count ≤ INDEXES) ⊎ (INDEXES < n + count) → Goal
          go (inl less) = let g = done 0 (omega arith) (λ z. less) (λ z. absurd (omega (arith, z))) in (
            draws_positions me.0 e n 0,
            keeps,
            tt,
            holds 0 g,
            ((λ y ys is first_is. (bounded 0 g, inl (less, ap (λ (z : Execution). draws_positions me.0 z n 0) (same_head (sym runs ∙ is))))), refl),
          )
          go (inr more) = let g = done 1 (omega arith) (λ z. absurd (omega (arith, z))) (λ z. more) in (
            draws_positions me.0 e n 1,
            keeps,
            tt,
            holds 1 g,
            ((λ y ys is first_is. (bounded 1 g, inr (more, ap (λ (z : Execution). draws_positions me.0 z n 1) (same_head (sym runs ∙ is))))), refl),
          )
