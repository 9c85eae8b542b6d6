-- What becomes of indexes in the core as they are retired, and of a loop of which nothing is left.
use Rattle.std.proofs.Common.{◌≡◌, ℕ, ◌-◌, ◌<◌, ◌≤◌, false, List, length, map, set, sym, refl, ap, ◌∙◌, subst}
use mathlib.Core.Option.{some}
use lib.ListN.{get_elem?}
use Rattle.atomic_table.specs.Table.{State}
use Rattle.kt_law.specs.declared.stands.Stand.TheVariants as S
use Rattle.kt_rule.specs.declared.views.Setup.{Setup}
use Rattle.kt_rule.specs.declared.views.Berth.{Berth}
use Rattle.kt_rule.specs.declared.views.Spot.{Spot}
use Rattle.kt_rule.specs.declared.views.IndexRun.{IndexRun}
use Rattle.kt_rule.specs.declared.views.View.{View}
use Rattle.kt_rule.specs.Lies.{Lie, Lies, is_gone}
use Rattle.kt_rule.specs.Records.{layout_of}
use Rattle.kt_rule.specs.Rule.{Slots, Facts}
use Rattle.kt_rule.specs.Steps.{state_place, state_word}
use Rattle.kt_rule.proofs.Puts.{put_here}
use Rattle.kt_steps.specs.Laws.{after_step}
use Rattle.kt_loops.specs.Hands.{retires_some, finds_none_left}
use Rattle.kt_loops.specs.Operations.{finishes}
use Rattle.kt_loops.specs.LoopEvents.{RetiresIndexes, FinishesLoop, LoopEnters, BookGoes}
use Rattle.kt_loops.specs.Laws.{field_in, after_field, after_load, AreToRetire, Retires, RetireEnters, LastRetireEnters, LeftStays, LoopFinishEnters}
use Rattle.kt_loops.proofs.RetireSteps as retire
use Rattle.kt_loops.proofs.LoopEnds as ends
use Rattle.kt_loops.proofs.Entering.{same_enters, loop_enters, shows_book}

-- INDEXES ARE RETIRED

module _ (j : Setup) (lies : Lies) (s : State Slots View) (f : Facts j lies s) (id : ℕ) (v : View) (at : get_elem? s.views id ≡ some v)
    (live : 0 < v.parts) (m : Spot) (done rest : List IndexRun) (h : AreToRetire j v m done rest) where
  abbrev t : Lie
  t = retire.t j lies s f id v at live m done rest h.first h.same h.over h.some_done f.accepted

  abbrev u : Lie
  u = retire.u j lies s f id v at live m done rest h.first h.same h.over h.some_done f.accepted

  abbrev lies' : Lies
  lies' = retire.lies' j lies s f id v at live m done rest h.first h.same h.over h.some_done f.accepted

  there_is : lies m.path ≡ some t
  there_is = retire.there_is j lies s f id v at live m done rest h.first h.same h.over h.some_done f.accepted

  berth : t.berth ≡ m.berth
  berth = retire.lies_there j lies s f id v at live m done rest h.first h.same h.over h.some_done f.accepted

  counts : field_in j s t.berth.at 4 ≡ t.unretired
  counts = retire.counts j lies s f id v at live m done rest h.first h.same h.over h.some_done f.accepted

  lives : is_gone t.stage ≡ false
  lives = ap is_gone (retire.on j lies s f id v at live m done rest h.first h.same h.over h.some_done f.accepted).1

  abbrev left_now : ℕ → ℕ → View → State Slots View
  left_now a n w = after_field j s a 4 (n - length done) id w

  -- said of the record at a, which counts n
  abbrev retires_at : ℕ → ℕ → View → Type 0
  retires_at a n w = LoopEnters j (RetiresIndexes m.path (map (λ (e : IndexRun). e.index) done)) s (left_now a n w)
      × BookGoes j a (λ b. record b { unretired = b.unretired - length done }) s (left_now a n w)

  retires_there : (w : View) → Facts j lies' (left_now t.berth.at t.unretired w) → retires_at t.berth.at t.unretired w
  retires_there w g = let x = retire.core_goes j lies s f id v at live m done rest h.first h.same h.over h.some_done f.accepted in (
    loop_enters j (RetiresIndexes m.path (map (λ (e : IndexRun). e.index) done)) lies lies' s (left_now t.berth.at t.unretired w) f g
        (retire.same_elements j lies s f id v at live m done rest h.first h.same h.over h.some_done f.accepted) x.enabled x.after,
    (
      record { pieces = t.pieces; unretired = t.unretired },
      shows_book j lies s f m.path t there_is lives,
      shows_book j lies' (left_now t.berth.at t.unretired w) g m.path u (put_here lies m.path (some u)) lives,
    ),
  )

  pub retires : (w : View) → Facts j lies' (left_now t.berth.at t.unretired w) → Retires j s id m done w
  retires w g = subst (λ (b : Berth). retires_at b.at (field_in j s b.at 4) w) berth
      (subst (λ (n : ℕ). retires_at t.berth.at n w) (sym counts) (retires_there w g))

  pub enough : length done ≤ field_in j s m.berth.at 4
  enough = subst (λ (b : Berth). length done ≤ field_in j s b.at 4) berth (subst (λ (n : ℕ). length done ≤ n) (sym counts)
      (retire.many j lies s f id v at live m done rest h.first h.same h.over h.some_done f.accepted))

pub retire_enters : RetireEnters
retire_enters j s (lies, f) id v (at, live) m done rest h = (
  enough j lies s f id v at live m done rest h,
  retires j lies s f id v at live m done rest h (retires_some v done rest)
      (retire.retires_lie j lies s f id v at live m done rest h.first h.same h.over h.some_done f.accepted),
)

pub last_retire_enters : LastRetireEnters
last_retire_enters j s (lies, f) id v (at, live) m done rest h all =
    retires j lies s f id v at live m done rest h (finds_none_left (retires_some v done rest) m.path)
    (retire.last_lie j lies s f id v at live m done rest h.first h.same h.over h.some_done f.accepted
    (sym (counts j lies s f id v at live m done rest h)
    ∙ (ap (λ (b : Berth). field_in j s b.at 4) (berth j lies s f id v at live m done rest h) ∙ all)))

-- WHERE NOTHING IS LEFT

pub left_stays : LeftStays
left_stays j s (lies, f) id v (at, live) e rest runs looping zero_there =
    let x = retire.left_there j lies s f id v at e rest runs looping in
    let w : View = finds_none_left v e.spot.path in
    same_enters j lies s (after_load s id w) f
    (retire.none_left_it j lies s f id v at live e.spot.path x.task x.is x.late (sym x.counts ∙ zero_there)) refl

pub loop_finish_enters : LoopFinishEnters
loop_finish_enters j s (lies, f) id v (at, live) e rest runs looping loop emptied =
    let x = ends.core_goes j lies s f id v at live e rest runs looping loop emptied in
    let berth = (ends.loop_agrees j lies s f id v at live e rest runs looping).berth in
    subst (λ (b : Berth). LoopEnters j (FinishesLoop e.spot.path) s
    (after_step s (state_place (layout_of j) b.at) (state_word b S.Finished) id (finishes v e rest))) berth
    (loop_enters j (FinishesLoop e.spot.path) lies _ s _ f
    (subst (λ (w : View). Facts j (ends.lies' j lies s f id v at live e rest runs looping loop emptied) record {
      words = ends.ws' j lies s f id v at live e rest runs looping loop emptied;
      homes = s.homes;
      views = set s.views id w;
    }) (ends.same_view j lies s f id v at live e rest runs looping loop emptied)
    (ends.ends_lie j lies s f id v at live e rest runs looping loop emptied))
    (ends.same_elements j lies s f id v at live e rest runs looping loop emptied) x.enabled x.after)
