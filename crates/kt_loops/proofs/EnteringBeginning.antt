-- What the steps by which a loop begins do to the core: nothing, up to the store of its interval, which begins it.
use Rattle.std.proofs.Common.{◌≡◌, ℕ, suc, ◌+◌, ◌*◌, ◌<◌, ◌≤◌, true, false, List, [], ◌∷◌, map, sym, refl, ap, ◌∙◌, subst, arith}
use mathlib.Core.Option.{some, some-injective}
use lib.ListN.{get_elem?}
use Rattle.atomic_table.specs.Table.{State}
use Rattle.kt_law.specs.declared.limits.TheConstants.{INDEXES, LENGTH, WORKERS}
use Rattle.kt_order.specs.Books.{whole_book}
use Rattle.kt_runs.specs.ByPath.{Path}
use Rattle.kt_runs.specs.Loops.{CanBegin, index_calls}
use Rattle.kt_words.specs.Places.{place, record_word, worker_word, home}
use Rattle.kt_words.specs.Words.{packed_pair, IsPair}
use Rattle.kt_words.specs.declared.layouts.TheConstants.{RECORDS}
use Rattle.kt_pieces.specs.LoopMoves.{after_loop_begins, CanBeginLoop}
use Rattle.kt_rule.specs.declared.views.Setup.{Setup}
use Rattle.kt_rule.specs.declared.views.Berth.{Berth}
use Rattle.kt_rule.specs.declared.views.Execution.{Execution}
use Rattle.kt_rule.specs.declared.views.View.{View}
use Rattle.kt_rule.specs.Lists.{In, here}
use Rattle.kt_rule.specs.Lies.{Lie, Lies, core_of}
use Rattle.kt_rule.specs.Records.{layout_of, elements, positions_at}
use Rattle.kt_rule.specs.Facts.{task_in}
use Rattle.kt_rule.specs.LoopFacts.{is_early}
use Rattle.kt_rule.specs.Rule.{Slots, Facts}
use Rattle.kt_rule.proofs.Puts.{put_here}
use Rattle.kt_rule.proofs.Shelf as shelf
use Rattle.kt_steps.specs.CoreMoves.{Stays}
use Rattle.kt_steps.specs.Laws.{Enters, after_step}
use Rattle.kt_steps.proofs.Entering.{stays_still}
use Rattle.kt_steps.proofs.Steps.{head_agrees}
use Rattle.kt_loops.specs.Hands.{share_from, draws_positions, places_first, homes_at, begins_now}
use Rattle.kt_loops.specs.LoopEvents.{BeginsLoop, LoopEnters, first_at, ShowsBook}
use Rattle.kt_loops.specs.Laws.{drawn_in, after_field, after_interval, IsToDraw, DrawStays, OverDrawStays, FirstStays, HomeStays, BeginEnters}
use Rattle.kt_loops.proofs.LoopCalls.{length_few}
use Rattle.kt_loops.proofs.BeginTelling.{positions_most}
use Rattle.kt_loops.proofs.RetireSteps.{own_hands}
use Rattle.kt_loops.proofs.BeginSteps as begin
use Rattle.kt_loops.proofs.BeginStore as store
use Rattle.kt_loops.proofs.Entering.{own, same_enters, loop_enters, first_there, shows_book}

-- THE DRAW OF ITS POSITIONS

module _ (j : Setup) (lies : Lies) (s : State Slots View) (f : Facts j lies s) (id : ℕ) (v : View) (at : get_elem? s.views id ≡ some v)
    (live : 0 < v.parts) (e : Execution) (rest : List Execution) (h : IsToDraw j v e rest) where
  abbrev count : ℕ
  count = drawn_in j s + e.spot.berth.call.length

  abbrev drawn_to : ℕ → State Slots View
  drawn_to over = after_step s (place (layout_of j) positions_at) count id (draws_positions v e (drawn_in j s) over)

  few : e.spot.berth.call.length ≤ LENGTH
  few = let b = length_few j lies s f e.spot.path _ (begin.t_is j lies s f id v at live e rest h.runs h.plain) in
      let c = ap (λ (b : Berth). b.call.length) (head_agrees j lies s f id v at live e rest h.runs h.plain).berth in omega (arith, b, c)

  draws : (over : ℕ) → over ≤ 1 → (over ≡ 0 → count ≤ INDEXES) → (0 < over → INDEXES < count) → Facts j lies (drawn_to over)
  draws over most within beyond = begin.draws_it j lies s f id v at live e rest h.runs h.plain h.within h.none_pending h.zeroed.zeroed few over most
      within beyond

  draw_enters : (over : ℕ) → Facts j lies (drawn_to over) → Enters j Stays s (drawn_to over)
  draw_enters over g = same_enters j lies s (drawn_to over) f g (shelf.elements_else (layout_of j) s.words positions_at count tt tt)

  -- the count is never far over the limit
  bounded : (over : ℕ) → Facts j lies (drawn_to over) → count ≤ INDEXES + LENGTH * WORKERS
  bounded over g = let a = positions_most j lies (drawn_to over) g in
      let b = shelf.here (layout_of j) s.words positions_at count tt f.words.wide in omega (arith, a, b)

pub draw_stays : DrawStays
draw_stays j s (lies, f) id v (at, live) e rest h within = draw_enters j lies s f id v at live e rest h 0
    (draws j lies s f id v at live e rest h 0 (omega arith) (λ z. within) (λ z. absurd (omega (arith, z))))

pub over_draw_stays : OverDrawStays
over_draw_stays j s (lies, f) id v (at, live) e rest h beyond =
    let g = draws j lies s f id v at live e rest h 1 (omega arith) (λ z. absurd (omega (arith, z))) (λ z. beyond) in
    (bounded j lies s f id v at live e rest h 1 g, draw_enters j lies s f id v at live e rest h 1 g)

-- WHAT THE RECORD AND THE HOME WORD TELL

pub first_stays : FirstStays
first_stays j s (lies, f) id v (at, live) e rest runs plain first drawn =
    let t : Lie = begin.t j lies s f id v at live e rest runs plain in
    let is = begin.t_is j lies s f id v at live e rest runs plain in
    let u : Lie = begin.u1 j lies s f id v at live e rest runs plain first drawn in
    let g = begin.places_it j lies s f id v at live e rest runs plain first drawn in
    let in_table : e.spot.berth.at < RECORDS * j.workers =
    subst (λ (b : Berth). b.at < RECORDS * j.workers) (begin.agrees j lies s f id v at live e rest runs plain).berth
    (f.words.inside e.spot.path t is) in
    let word : ℕ = packed_pair (record { low = e.spot.berth.call.length; high = first }) in (
      (_, g),
      stays_still j lies s (after_field j s e.spot.berth.at 3 word id (places_first v)) f e.spot.path t is u refl refl g refl
          (shelf.elements_else (layout_of j) s.words (record_word e.spot.berth.at 3) word (in_table, omega arith) tt),
    )

pub home_stays : HomeStays
home_stays j s (lies, f) id v (at, live) free a =
    subst (λ (k : ℕ). Enters j Stays s (after_step s (place (layout_of j) (worker_word k home)) (suc a) id (homes_at v a)))
    (sym (own j lies s f id v at live))
    (same_enters j lies s (after_step s (place (layout_of j) (worker_word id home)) (suc a) id (homes_at v a)) f
    (begin.homes_it j lies s f id v at live free a)
    (shelf.elements_else (layout_of j) s.words (worker_word id home) (suc a) (begin.seat_less j lies s f id v at live) tt))

-- THE STORE OF ITS INTERVAL

module _ (j : Setup) (lies : Lies) (s : State Slots View) (f : Facts j lies s) (id : ℕ) (v : View) (at : get_elem? s.views id ≡ some v)
    (live : 0 < v.parts) (e : Execution) (rest : List Execution) (runs : v.tasks.running ≡ e ∷ rest) (plain : e.looping ≡ false)
    (can : CanBegin j.program (map suc e.spot.path) e.spot.berth.call (task_in j e)) (first : ℕ)
    (drawn : v.loops.pending ≡ share_from e.spot first ∷ []) (told : v.loops.placed ≡ true) (none_over : v.loops.over ≡ 0)
    (free : v.loops.free ≡ true) (home_is : v.loops.home ≡ suc e.spot.berth.at) where
  abbrev q : Path
  q = e.spot.path

  abbrev long : ℕ
  long = e.spot.berth.call.length

  pending : In (share_from e.spot first) v.loops.pending
  pending = subst (In (share_from e.spot first)) (sym drawn) here

  -- its positions are small enough for a pair
  fits : IsPair (record { low = first; high = first + long })
  fits = let a = ((own_hands j lies s f id v at live).pending (share_from e.spot first) pending).counted in
      let b = positions_most j lies s f in record { low_fits = omega (arith, a, b); high_fits = omega (arith, a, b) }

  abbrev s' : State Slots View
  s' = after_interval j s id first (first + long) id (begins_now v e rest)

  abbrev t : Lie
  t = store.t j lies s f id v at live e rest runs plain first drawn told free home_is none_over can.loop can.zeroed fits

  abbrev lies' : Lies
  lies' = store.lies' j lies s f id v at live e rest runs plain first drawn told free home_is none_over can.loop can.zeroed fits

  there_is : lies q ≡ some t
  there_is = store.there_is j lies s f id v at live e rest runs plain first drawn told free home_is none_over can.loop can.zeroed fits

  berth : t.berth ≡ e.spot.berth
  berth = (store.agrees j lies s f id v at live e rest runs plain first drawn told free home_is none_over can.loop can.zeroed fits).berth

  g : Facts j lies' s'
  g = store.begins_it j lies s f id v at live e rest runs plain first drawn told free home_is none_over can.loop can.zeroed fits

  enters : LoopEnters j (BeginsLoop q e.spot.berth.call) s s'
  enters = let x = store.core_goes j lies s f id v at live e rest runs plain first drawn told free home_is none_over can.loop can.zeroed fits in
      loop_enters j (BeginsLoop q e.spot.berth.call) lies lies' s s' f g
      (store.same_elements j lies s f id v at live e rest runs plain first drawn told free home_is none_over can.loop can.zeroed fits)
      (subst (λ (b : Berth). CanBeginLoop j.program (index_calls (map suc q) b.call 0 b.call.length) q (core_of j lies (elements (layout_of j) s.words)))
      berth x.enabled)
      (subst (λ (b : Berth). core_of j lies' (elements (layout_of j) s.words)
      ≡ after_loop_begins j.program (index_calls (map suc q) b.call 0 b.call.length) q (core_of j lies (elements (layout_of j) s.words)))
      berth x.after)

  -- its record tells where its positions begin
  first_is : t.first ≡ first
  first_is = let h = (own_hands j lies s f id v at live).placed told (share_from e.spot first) pending in
      ap (λ (z : Lie). z.first) (some-injective t h.0 (sym there_is ∙ h.1)) ∙ h.2

  unretired : t.unretired ≡ t.berth.call.length
  unretired = ((f.looped.booked q t there_is).early
      (ap is_early (store.stage_is j lies s f id v at live e rest runs plain first drawn told free home_is none_over can.loop can.zeroed fits))).1

  abbrev u : Lie
  u = store.u j lies s f id v at live e rest runs plain first drawn told free home_is none_over can.loop can.zeroed fits

  abbrev at_berth : Berth → ℕ → Type 0
  at_berth b n = (first_at j s' b.at ≡ first) × ShowsBook j s' b.at (record (whole_book b.call.length) { unretired = n })

  whole : at_berth e.spot.berth long
  whole = subst (λ (z : Berth × ℕ). at_berth z.0 z.1) (λ i. (berth i, (unretired ∙ ap (λ (b : Berth). b.call.length) berth) i)) (
    first_there j lies' s' g q u (put_here lies q (some u)) refl ∙ first_is,
    shows_book j lies' s' g q u (put_here lies q (some u)) refl,
  )

pub begin_enters : BeginEnters
begin_enters j s (lies, f) id v (at, live) e rest runs plain can first drawn told none_over free home_is =
    subst (λ (k : ℕ). let s' = after_interval j s k first (first + e.spot.berth.call.length) id (begins_now v e rest) in
    LoopEnters j (BeginsLoop e.spot.path e.spot.berth.call) s s'
    × (first_at j s' e.spot.berth.at ≡ first) × ShowsBook j s' e.spot.berth.at (whole_book e.spot.berth.call.length))
    (sym (own j lies s f id v at live)) (
      enters j lies s f id v at live e rest runs plain can first drawn told none_over free home_is,
      (whole j lies s f id v at live e rest runs plain can first drawn told none_over free home_is).0,
      (whole j lies s f id v at live e rest runs plain can first drawn told none_over free home_is).1,
    )
