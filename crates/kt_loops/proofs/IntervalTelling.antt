-- The kinds of step on intervals as the table asks for them, and what each tells.
use Rattle.std.proofs.Common.{◌≡◌, ℕ, suc, ◌+◌, ◌-◌, ◌<◌, ◌≤◌, ◌⊎◌, ◌==◌, true, List, set, get_or, slice_index, sym, refl, ap, ◌∙◌, subst, inl, inr, arith, false, Some}
use mathlib.Core.Option.{none, some}
use mathlib.Core.Logic.{dite}
use native.Mathlib.Decide.{ℕ_discrete}
use prog.Atomic.{either}
use lib.ListN.{get_elem?}
use Rattle.atomic_table.specs.Table.{State, Me, stepped, keeps, step, Allows}
use Rattle.kt_split.specs.Splits.{IsCut}
use Rattle.kt_split.proofs.CutLemmas.{one_cut}
use Rattle.kt_words.specs.Places.{place, worker_word, Own, interval, home}
use Rattle.kt_words.specs.Words.{packed_pair}
use Rattle.kt_words.specs.declared.layouts.Layout.{Layout}
use Rattle.kt_words.specs.declared.pairs.Pair.{Pair}
use Rattle.kt_words.proofs.PlaceLaws.{places_differ}
use Rattle.kt_rule.specs.declared.views.Setup.{Setup}
use Rattle.kt_rule.specs.declared.views.Spot.{Spot}
use Rattle.kt_rule.specs.declared.views.Share.{Share}
use Rattle.kt_rule.specs.declared.views.Sight.{Sight}
use Rattle.kt_rule.specs.declared.views.View.{View}
use Rattle.kt_rule.specs.Lists.{In}
use Rattle.kt_rule.specs.Lies.{Lies}
use Rattle.kt_rule.specs.Records.{layout_of, word_at}
use Rattle.kt_rule.specs.LoopWords.{pair_in, loop_words}
use Rattle.kt_rule.specs.Rule.{Slots, Facts, Holds}
use Rattle.kt_rule.specs.Steps.{Tells}
use Rattle.kt_steps.proofs.Steps.{set_word, same_state, inside, holds_so, holds_at, won, lost, told_won, told_lost}
use Rattle.kt_steps.proofs.Telling.{the_some}
use Rattle.kt_pieces.specs.Changes.{without_piece}
use Rattle.kt_loops.specs.Hands.{holds_piece, finds_empty, takes_chunk, finds_interval, sights, sights_home, forgets, takes_pieces}
use Rattle.kt_loops.specs.Told.{IsPairWord, IsOwnLoop, IsLoopAt, FindsInterval, HoldsAt, TakesChunk, Sights, SightsHome, AreNew, Splits}
use Rattle.kt_loops.proofs.TurningWords.{pair_back, pair_fits, pair_same}
use Rattle.kt_loops.proofs.IntervalSteps as steps

less_or : (a b : ℕ) → (a < b) ⊎ (b ≤ a)
less_or a b = grind arith

-- after a step that changes no word
load_holds : (opening : List ℕ) (j : Setup) (lies : Lies) (s : State Slots View) (i id : ℕ) (c : List (ℕ × Slots)) (w : View)
    → Facts j lies record { words = s.words; homes = s.homes; views = set s.views id w }
    → Holds opening (stepped s i (get_or s.words i 0) id c w keeps)
load_holds opening j lies s i id c w f = holds_so opening _ j lies
    (subst (λ (ws : List ℕ). Facts j lies record { words = ws; homes = s.homes; views = set s.views id w }) (sym (set_word s.words i)) f)

worker_one : (l : Layout) (k i : ℕ) (o : Own) → k < l.workers → i < l.workers → place l (worker_word k o) ≡ place l (worker_word i o) → k ≡ i
worker_one l k i o in_k in_i e = let h = places_differ l (worker_word k o) (worker_word i o) in_k in_i e in let r : k ≡ i = cc in r

-- a cut for so many parts, however their number is written
pub parts_told : (opening : List ℕ) (slots id : ℕ) (me : Me Slots View) (i old new a b : ℕ) → a ≡ b
    → Allows (Holds opening) slots id me i (λ n. either (n == old) new n) (Tells (Splits a) (step slots i old new none) me)
    → Allows (Holds opening) slots id me i (λ n. either (n == old) new n) (Tells (Splits b) (step slots i old new none) me)
parts_told opening slots id me i old new a b e = subst (λ (z : ℕ). Allows (Holds opening) slots id me i (λ n. either (n == old) new n)
    (Tells (Splits z) (step slots i old new none) me)) e

module _ (opening : List ℕ) (slots id : ℕ) (me : Me Slots View) (j : Setup) (setup : me.0.setup ≡ Some j) (live : 0 < me.0.parts) where
  abbrev place_of : ℕ → Own → ℕ
  place_of k o = place (layout_of j) (worker_word k o)

  -- whatever setup the seat was told is this one
  any_setup : (P : Setup → Type 0) → P j → (k : Setup) → me.0.setup ≡ Some k → P k
  any_setup P h k told = subst P (the_some (sym setup ∙ told)) h

  own_place : (lies : Lies) (s : State Slots View) → Facts j lies s → get_elem? s.views id ≡ some me.0 → (o : Own) (i : ℕ)
      → i ≡ place_of me.0.worker o → i ≡ place_of id o
  own_place lies s f at o i i_is = i_is ∙ ap (λ (k : ℕ). place_of k o) ((f.fits id me.0 at).own live)

  word_is : (s : State Slots View) (k : ℕ) (o : Own) (i : ℕ) → i ≡ place_of k o
      → get_or s.words i 0 ≡ word_at (layout_of j) s.words (worker_word k o)
  word_is s k o i i_is = ap (slice_index s.words) i_is

  -- a pair word says its halves
  says_pair : (n : ℕ) → n < 18446744073709551616 → IsPairWord n (pair_in n).low (pair_in n).high
  says_pair n small = (pair_fits n (omega (arith, small)), sym (pair_back n))

  -- THE OWN INTERVAL IS LOADED

  pub finds_told : (i : ℕ) → i ≡ place_of me.0.worker interval
      → Allows (Holds opening) slots id me i (λ n. n) (Tells FindsInterval (step slots i 0 0 none) me)
  finds_told i i_is s h out at word =
      let x = inside opening s j id me.0 h at live setup in let lies = x.0 in let f = x.1 in
      let n : ℕ = get_or s.words i 0 in
      let n_is = word_is s id interval i (own_place lies s f at interval i i_is) in
      let pair : (loop_words (layout_of j) s.words).interval id ≡ pair_in n = steps.interval_there j lies s f id me.0 at live id
      (steps.seat_less j lies s f id me.0 at live) ∙ ap pair_in (sym n_is) in
      elim (less_or (pair_in n).low (pair_in n).high) [
        | inl less ↦ (
          me.0,
          keeps,
          tt,
          subst (Holds opening) (sym (same_state s i id me.0 me.1 at)) h,
          (((pair_in n).low, (pair_in n).high, says_pair n word, inl (less, refl)), refl),
        )
        | inr hollow ↦ (
          finds_empty me.0,
          keeps,
          tt,
          load_holds opening j lies s i id me.1 (finds_empty me.0) (steps.empties_it j lies s f id me.0 at live
              (subst (λ (z : Pair). z.high ≤ z.low) (sym pair) hollow)),
          (((pair_in n).low, (pair_in n).high, says_pair n word, inr (hollow, refl)), refl),
        )
      ]

  -- IT IS FILLED BY A PIECE

  pub holds_told : (x : Share) (i new : ℕ) → In x me.0.loops.pieces → suc x.spot.berth.at ≡ me.0.loops.home → me.0.loops.free ≡ true
      → i ≡ place_of me.0.worker interval → new ≡ packed_pair (record { low = x.low; high = x.high })
      → Allows (Holds opening) slots id me i (λ _. new) (λ _. Tells HoldsAt (step slots i new 0 none) me new)
  holds_told x i new x_in own free i_is new_is s h out at word =
      let y = inside opening s j id me.0 h at live setup in let lies = y.0 in let f = y.1 in
      let fits = steps.share_fits j lies s f id me.0 at live x x_in in
      let w : View = holds_piece me.0 x in (
        w,
        keeps,
        tt,
        holds_at opening j lies s id (place_of id interval) i (packed_pair (record { low = x.low; high = x.high })) new w w
            (sym (own_place lies s f at interval i i_is)) (sym new_is) refl
            (steps.holds_it j lies s f id me.0 at live x x_in own free fits),
        (
          (λ z z_in z_own z_word. same_piece z (omega (arith, own, z_own))
              (ap (λ (q : Pair). q.low) (pair_same (record { low = x.low; high = x.high }) (record { low = z.low; high = z.high }) fits z_word.0
              (sym new_is ∙ z_word.1)))),
          refl,
        ),
      )
    where
      same_piece : (z : Share) → x.spot.berth.at ≡ z.spot.berth.at → x.low ≡ z.low → holds_piece me.0 x ≡ holds_piece me.0 z
      same_piece z at_same low_same = λ k. record me.0 {
        loops = record me.0.loops { pieces = without_piece (at_same k) (low_same k) me.0.loops.pieces; free = false };
      }

  -- IT IS TAKEN FROM

  abbrev Chunked : ℕ → View → ℕ → ℕ → ℕ → Type 0
  Chunked n w low middle high = (m : Spot) × (first : ℕ) × IsOwnLoop me.0 m first low high × (w ≡ takes_chunk me.0 m first low (middle - low))

  pub chunk_told : (i old new low middle high : ℕ) → i ≡ place_of me.0.worker interval → IsPairWord old low high → IsPairWord new middle high
      → low < middle → middle ≤ high
      → Allows (Holds opening) slots id me i (λ n. either (n == old) new n) (Tells TakesChunk (step slots i old new none) me)
  chunk_told i old new low middle high i_is old_is new_is some_more fits s h out at word =
      let x = inside opening s j id me.0 h at live setup in let lies = x.0 in let f = x.1 in
      let n : ℕ = get_or s.words i 0 in
      let i_at = own_place lies s f at interval i i_is in
      let n_is = word_is s id interval i i_at in
      let less = steps.seat_less j lies s f id me.0 at live in
      dite (ℕ_discrete n old)
      (λ hit. let there_is : IsPairWord (word_at (layout_of j) s.words (worker_word id interval)) low high = (old_is.0, sym n_is ∙ (hit ∙ old_is.1)) in
      let m : Spot = steps.loop j lies s f id me.0 at live low middle high there_is some_more fits new_is.0 f.accepted in
      let first : ℕ = steps.first j lies s f id me.0 at live low middle high there_is some_more fits new_is.0 f.accepted in
      let own = steps.own_loop j lies s f id me.0 at live low middle high there_is some_more fits new_is.0 f.accepted in
      let w : View = takes_chunk me.0 m first low (middle - low) in (
        w,
        keeps,
        tt,
        won opening s i old new id me.1 w hit
            (holds_at opening j _ s id (place_of id interval) i (packed_pair (record { low = middle; high = high })) new w w (sym i_at) (sym new_is.1) refl
            (steps.takes_it j lies s f id me.0 at live low middle high there_is some_more fits new_is.0 f.accepted)),
        (
          (λ a b c first_is second_is some_b b_fits. told_won opening s i old new id me.1 (Chunked n w a b c) (w ≡ me.0) hit
              (told_so w a b c first_is second_is (m, first, own, refl))),
          refl,
        ),
      ))
      (λ miss. (
        me.0,
        keeps,
        tt,
        lost opening s i old new id me.1 me.0 miss
            (subst (λ (ws : List ℕ). Holds opening record { words = ws; homes = s.homes; views = set s.views id me.0 }) (set_word s.words i)
            (subst (Holds opening) (sym (same_state s i id me.0 me.1 at)) h)),
        (
          (λ a b c first_is second_is some_b b_fits. told_lost opening s i old new id me.1 (Chunked n me.0 a b c) (me.0 ≡ me.0) miss refl),
          refl,
        ),
      ))
    where
      n : ℕ
      n = get_or s.words i 0

      told_so : (w : View) (a b c : ℕ) → IsPairWord old a c → IsPairWord new b c → Chunked n w low middle high → Chunked n w a b c
      told_so w a b c first_is second_is =
          let p = pair_same (record { low = low; high = high }) (record { low = a; high = c }) old_is.0 first_is.0 (sym old_is.1 ∙ first_is.1) in
          let q = pair_same (record { low = middle; high = high }) (record { low = b; high = c }) new_is.0 second_is.0 (sym new_is.1 ∙ second_is.1) in
          subst (λ (z : Pair × ℕ). Chunked n w z.0.low z.1 z.0.high) (λ k. (p k, (q k).low))

  -- A VICTIM'S INTERVAL IS LOADED

  pub sights_told : (k i : ℕ) → k < j.workers → i ≡ place_of k interval
      → Allows (Holds opening) slots id me i (λ n. n) (Tells Sights (step slots i 0 0 none) me)
  sights_told k i less i_is s h out at word =
      let x = inside opening s j id me.0 h at live setup in let lies = x.0 in let f = x.1 in
      let n : ℕ = get_or s.words i 0 in
      let low : ℕ = (pair_in n).low in let high : ℕ = (pair_in n).high in
      let pair : (loop_words (layout_of j) s.words).interval k ≡ pair_in n = steps.interval_there j lies s f id me.0 at live k less
      ∙ ap pair_in (sym (word_is s k interval i i_is)) in
      elim (less_or high (low + 2)) [
        | inl short ↦ (
          forgets (finds_interval me.0 k n),
          keeps,
          tt,
          load_holds opening j lies s i id me.1 (forgets (finds_interval me.0 k n)) (steps.passes_it j lies s f id me.0 at live k n),
          (
            (
              low,
              high,
              says_pair n word,
              any_setup (Saw n low high (forgets (finds_interval me.0 k n)))
                  (λ y y_less e. inr (short, ap (λ (z : ℕ). forgets (finds_interval me.0 z n)) (one_victim y y_less e))),
            ),
            refl,
          ),
        )
        | inr long ↦ (
          sights me.0 k low high,
          keeps,
          tt,
          load_holds opening j lies s i id me.1 (sights me.0 k low high)
              (subst (λ (z : Pair). Facts j lies record { words = s.words; homes = s.homes; views = set s.views id (sights me.0 k z.low z.high) }) pair
              (steps.sights_it j lies s f id me.0 at live k less (subst (λ (z : Pair). z.low < z.high) (sym pair) (omega (arith, long))))),
          (
            (
              low,
              high,
              says_pair n word,
              any_setup (Saw n low high (sights me.0 k low high))
                  (λ y y_less e. inl (long, ap (λ (z : ℕ). sights me.0 z low high) (one_victim y y_less e))),
            ),
            refl,
          ),
        )
      ]
    where
      -- whichever worker's interval stands there, it is this worker's
      one_victim : (y : ℕ) → y < j.workers → i ≡ place_of y interval → k ≡ y
      one_victim y y_less e = worker_one (layout_of j) k y interval less y_less (sym i_is ∙ e)

      Saw : ℕ → ℕ → ℕ → View → Setup → Type 0
      Saw n low high w z = (y : ℕ) → y < z.workers → i ≡ place (layout_of z) (worker_word y interval)
          → ((low + 2 ≤ high) × (w ≡ sights me.0 y low high)) ⊎ ((high < low + 2) × (w ≡ forgets (finds_interval me.0 y n)))

  -- and its home word
  pub home_told : (o : Sight) (i : ℕ) → me.0.loops.sight ≡ Some o → i ≡ place_of o.victim home
      → Allows (Holds opening) slots id me i (λ n. n) (Tells SightsHome (step slots i 0 0 none) me)
  home_told o i saw i_is s h out at word =
      let x = inside opening s j id me.0 h at live setup in let lies = x.0 in let f = x.1 in
      let n : ℕ = get_or s.words i 0 in
      let n_is = word_is s o.victim home i i_is in
      let w : View = sights_home me.0 o.victim o.low o.high n in (
        w,
        keeps,
        tt,
        load_holds opening j lies s i id me.1 w
            (subst (λ (z : ℕ). Facts j lies record { words = s.words; homes = s.homes; views = set s.views id (sights_home me.0 o.victim o.low o.high z) })
            (sym n_is) (steps.homes_seen j lies s f id me.0 at live o saw)),
        ((λ y saw_y k told e. ap (λ (z : Sight). sights_home me.0 z.victim z.low z.high n) (the_some (sym saw ∙ saw_y))), refl),
      )

  -- IT IS SPLIT

  abbrev Given : View → Sight → ℕ → List Pair → Type 0
  Given w o word dealt = (m : Spot) × (suc m.berth.at ≡ word) × IsLoopAt me.0 m m.berth.at × AreNew me.0 o.low o.high
      × (w ≡ takes_pieces me.0 m dealt)

  pub split_told : (o : Sight) (home_word parts : ℕ) (kept : Pair) (dealt : List Pair) (i old new : ℕ) → me.0.loops.sight ≡ Some o
      → o.home ≡ Some home_word → 1 ≤ parts → o.low + 2 ≤ o.high → IsCut (record { low = o.low; high = o.high }) parts kept dealt
      → i ≡ place_of o.victim interval → IsPairWord old o.low o.high → IsPairWord new kept.low kept.high
      → Allows (Holds opening) slots id me i (λ n. either (n == old) new n) (Tells (Splits parts) (step slots i old new none) me)
  split_told o home_word parts kept dealt i old new saw home_seen some_parts two cut i_is old_is new_is s h out at word =
      let x = inside opening s j id me.0 h at live setup in let lies = x.0 in let f = x.1 in
      let n : ℕ = get_or s.words i 0 in
      let n_is = word_is s o.victim interval i i_is in
      dite (ℕ_discrete n old)
      (λ hit. let there_is : IsPairWord (word_at (layout_of j) s.words (worker_word o.victim interval)) o.low o.high = (old_is.0, sym n_is ∙ (hit ∙ old_is.1)) in
      let m : Spot = steps.victims_loop j lies s f id me.0 at live o saw home_word home_seen parts kept dealt some_parts two cut there_is new_is.0 in
      let named = steps.named_so j lies s f id me.0 at live o saw home_word home_seen parts kept dealt some_parts two cut there_is new_is.0 in
      let new_ones = steps.are_new j lies s f id me.0 at live o saw home_word home_seen parts kept dealt some_parts two cut there_is new_is.0 in
      let lies_in = steps.loop_inside j lies s f id me.0 at live o saw home_word home_seen parts kept dealt some_parts two cut there_is new_is.0 in
      let w : View = takes_pieces me.0 m dealt in (
        w,
        keeps,
        tt,
        won opening s i old new id me.1 w hit
            (holds_at opening j _ s id (place_of o.victim interval) i (packed_pair kept) new w w (sym i_is) (sym new_is.1) refl
            (steps.splits_it j lies s f id me.0 at live o saw home_word home_seen parts kept dealt some_parts two cut there_is new_is.0)),
        (
          (λ y saw_y z seen_z left pieces cut_y first_is second_is. told_won opening s i old new id me.1 (Given w y z pieces) (w ≡ forgets me.0) hit
              (told_so w y saw_y z seen_z left pieces cut_y (m, named, lies_in, new_ones, refl))),
          refl,
        ),
      ))
      (λ miss. (
        forgets me.0,
        keeps,
        tt,
        lost opening s i old new id me.1 (forgets me.0) miss (holds_so opening _ j lies (steps.forgets_it j lies s f id me.0 at live)),
        (
          (λ y saw_y z seen_z left pieces cut_y first_is second_is. told_lost opening s i old new id me.1 (Given (forgets me.0) y z pieces)
              (forgets me.0 ≡ forgets me.0) miss refl),
          refl,
        ),
      ))
    where
      same_number : {a b : ℕ} → Some a ≡ Some b → a ≡ b
      same_number e = cc

      told_so : (w : View) (y : Sight) → me.0.loops.sight ≡ Some y → (z : ℕ) → y.home ≡ Some z → (left : Pair) (pieces : List Pair)
          → IsCut (record { low = y.low; high = y.high }) parts left pieces → Given w o home_word dealt → Given w y z pieces
      told_so w y saw_y z seen_z left pieces cut_y =
          let same : o ≡ y = the_some (sym saw ∙ saw_y) in
          let number : home_word ≡ z = same_number (sym home_seen ∙ (ap (λ (u : Sight). u.home) same ∙ seen_z)) in
          let cut_o : IsCut (record { low = o.low; high = o.high }) parts left pieces =
          subst (λ (u : Sight). IsCut (record { low = u.low; high = u.high }) parts left pieces) (sym same) cut_y in
          let one = one_cut (record { low = o.low; high = o.high }) parts kept left dealt pieces (omega (arith, two)) some_parts cut cut_o in
          subst (λ (u : Sight × (ℕ × List Pair)). Given w u.0 u.1.0 u.1.1) (λ k. (same k, (number k, one.1 k)))
