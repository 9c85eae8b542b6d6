-- What a seat found in words of others is no part of the rule: it may note one more, and what it has in hand of loops may change with it.
use Rattle.std.proofs.Common.{◌+◌, ◌≡◌, ℕ, ◌<◌, List, set, length-set, refl, ap, arith}
use mathlib.Core.Option.{some}
use lib.ListN.{get_elem?}
use Rattle.atomic_table.specs.Table.{State}
use Rattle.kt_words.specs.declared.layouts.Layout.{Layout}
use Rattle.kt_rule.specs.declared.views.Setup.{Setup}
use Rattle.kt_rule.specs.declared.views.Promise.{Promise}
use Rattle.kt_rule.specs.declared.views.Found.{Found}
use Rattle.kt_rule.specs.declared.views.Desk.{Desk}
use Rattle.kt_rule.specs.declared.views.Share.{Share}
use Rattle.kt_rule.specs.declared.views.LoopHands.{LoopHands}
use Rattle.kt_rule.specs.declared.views.View.{View}
use Rattle.kt_rule.specs.Lists.{In, weigh}
use Rattle.kt_rule.specs.Lies.{Lies}
use Rattle.kt_rule.specs.Records.{layout_of}
use Rattle.kt_rule.specs.Views.{promised_in, executions, indexes_of, share_long}
use Rattle.kt_rule.specs.Facts.{is_promised, Fits}
use Rattle.kt_rule.specs.Requests.{IsPromised, Desked}
use Rattle.kt_rule.specs.LoopWords.{loop_words, hands_of}
use Rattle.kt_rule.specs.LoopFacts.{Looped}
use Rattle.kt_rule.specs.Rule.{Slots, Facts}
use Rattle.kt_rule.proofs.Sums.{tally_step}
use Rattle.kt_rule.proofs.Words.{nothing_changes}
use Rattle.kt_rule.proofs.Moves.{each_view, drawn_keeps, assemble, positions_keeps}
use Rattle.kt_steps.proofs.Asides.{main_lives}

-- with another list of what was found, and other loops in hand
abbrev pub finding : View → List Found → LoopHands → View
finding v found hands = record v { desk = record v.desk { found = found }; loops = hands }

fits_finding : (j : Setup) (lies : Lies) (ws : List ℕ) (seat : ℕ) (v : View) (found : List Found) (hands : LoopHands) → Fits j lies ws seat v
    → Fits j lies ws seat (finding v found hands)
fits_finding j lies ws seat v found hands fit = record {
  setup = fit.setup;
  own = fit.own;
  owns = fit.owns;
  running = fit.running;
  halted = fit.halted;
  ran = fit.ran;
  begun = fit.begun;
  mine = fit.mine;
  given = fit.given;
  known = fit.known;
  notes = fit.notes;
  stop = fit.stop;
  line = fit.line;
}

desked_finding : (l : Layout) (ws : List ℕ) (seat : ℕ) (d : Desk) (found : List Found) → Desked l ws seat d
    → Desked l ws seat (record d { found = found })
desked_finding l ws seat d found h = record {
  free = h.free;
  busy = h.busy;
  asked = h.asked;
  lead = h.lead;
  held = h.held;
  saw = h.saw;
  wrote = h.wrote;
  got = h.got;
}

module _ (j : Setup) (lies : Lies) (s : State Slots View) (f : Facts j lies s) (id : ℕ) (v : View) (at : get_elem? s.views id ≡ some v)
    (live : 0 < v.parts) (found : List Found) (hands : LoopHands) (pending : hands.pending ≡ v.loops.pending) where
  abbrev l : Layout
  l = layout_of j

  abbrev w : View
  w = finding v found hands

  pub found_learned : Looped j.workers lies (loop_words l s.words) (hands_of (set s.views id w))
      → Facts j lies record { words = s.words; homes = s.homes; views = set s.views id w }
  found_learned looped = let a = f.asked in
      assemble j lies lies s s.words id v w f at live (record {
        parts = refl;
        made = refl;
        keeps = nothing_changes l lies s.words;
        root = main_lives j lies s f;
        core = f.core;
        words = f.words;
        mine = λ p. refl;
        claimed = λ p. refl;
        given = λ p. refl;
        begun = λ p. refl;
        asked = record {
          posts = a.posts;
          leads = a.leads;
          tasks = a.tasks;
          posted = a.posted;
          promised = tally_step promised_in is_promised lies s.views id v a.promised at w lies (λ p. refl);
          promises = each_view (λ i x. (m : Promise) → In m x.tasks.promised → IsPromised lies m) s.views id w (a.promises id v at)
              (λ i x ne e. a.promises i x e);
          desks = each_view (λ i x. 0 < x.parts → Desked l s.words i x.desk) s.views id w
              (λ some_part. desked_finding l s.words id v.desk found (a.desks id v at live)) (λ i x ne e. a.desks i x e);
          unasked = λ i from low. let n = length-set s.views id w in a.unasked i (omega (arith, n, from)) low;
        };
        drawn = drawn_keeps j lies lies s.words s.words s.views id v w f.drawn at refl refl refl (λ p h. h) refl (λ p. omega arith);
        positions = positions_keeps j lies lies s.words s.words s.views id v w f.positions at
            (ap (λ (xs : List Share). weigh indexes_of (executions v) + weigh share_long xs) pending) pending (λ p h. h) refl (λ p. omega arith);
        stopped = f.stopped;
        looped = looped;
        fits = fits_finding j lies s.words id v found hands (f.fits id v at);
        others = λ i x ne e. f.fits i x e;
        unmade = λ a from low z. z;
      })
