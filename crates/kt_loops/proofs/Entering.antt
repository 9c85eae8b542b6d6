-- How a step on a loop is seen in the core that words and views show, and in the loop's book.
use Rattle.std.proofs.Common.{◌≡◌, ◌<◌, ℕ, false, sym, ap, ◌∙◌, subst, refl, arith}
use mathlib.Core.Option.{some}
use lib.ListN.{get_elem?}
use Rattle.atomic_table.specs.Table.{State}
use Rattle.kt_runs.specs.ByPath.{Path}
use Rattle.kt_words.specs.declared.pairs.Pair.{Pair}
use Rattle.kt_rule.specs.declared.views.Setup.{Setup}
use Rattle.kt_rule.specs.declared.views.View.{View}
use Rattle.kt_rule.specs.Lies.{Lie, Lies, is_gone, core_of}
use Rattle.kt_rule.specs.Records.{layout_of, elements}
use Rattle.kt_rule.specs.LoopFacts.{count_piece}
use Rattle.kt_rule.specs.Rule.{Slots, Facts}
use Rattle.kt_rule.proofs.Words.{says_field}
use Rattle.kt_steps.specs.CoreMoves.{Stays}
use Rattle.kt_steps.specs.Laws.{Enters}
use Rattle.kt_steps.proofs.Entering.{nothing_moves}
use Rattle.kt_steps.proofs.Showing.{shown_is}
use Rattle.kt_loops.specs.LoopEvents.{LoopMove, after_loop_move, CanLoopMove, LoopEnters, first_at, ShowsBook}
use Rattle.kt_loops.proofs.BeginTelling.{extent_there}

-- the worker of a seat is its number
pub own : (j : Setup) (lies : Lies) (s : State Slots View) → Facts j lies s → (id : ℕ) (v : View) → get_elem? s.views id ≡ some v → 0 < v.parts
    → v.worker ≡ id
own j lies s f id v at live = (f.fits id v at).own live

-- the tasks and the elements stay
pub same_enters : (j : Setup) (lies : Lies) (s s' : State Slots View) → Facts j lies s → Facts j lies s'
    → elements (layout_of j) s'.words ≡ elements (layout_of j) s.words → Enters j Stays s s'
same_enters j lies s s' f g same = ((lies, g), nothing_moves j lies s s' f g same)

-- the tasks go by these events, and the elements stay
pub loop_enters : (j : Setup) (m : LoopMove) (lies lies' : Lies) (s s' : State Slots View) → Facts j lies s → Facts j lies' s'
    → elements (layout_of j) s'.words ≡ elements (layout_of j) s.words
    → CanLoopMove j.program m (core_of j lies (elements (layout_of j) s.words))
    → core_of j lies' (elements (layout_of j) s.words) ≡ after_loop_move j.program m (core_of j lies (elements (layout_of j) s.words))
    → LoopEnters j m s s'
loop_enters j m lies lies' s s' f g same can after = (
  (lies', g),
  record {
    enabled = subst (CanLoopMove j.program m) (sym (shown_is j lies s f)) can;
    after = shown_is j lies' s' g ∙ (ap (core_of j lies') same ∙ (after ∙ ap (after_loop_move j.program m) (sym (shown_is j lies s f))));
  },
)

-- THE BOOK OF A TASK THAT LIVES

module _ (j : Setup) (lies : Lies) (s : State Slots View) (f : Facts j lies s) (p : Path) (t : Lie) (is : lies p ≡ some t)
    (live : is_gone t.stage ≡ false) where
  pub first_there : first_at j s t.berth.at ≡ t.first
  first_there = ap (λ (z : Pair). z.high) (extent_there j lies s f p t is live t.berth.at refl)

  pub shows_book : ShowsBook j s t.berth.at (record { pieces = t.pieces; unretired = t.unretired })
  shows_book = record {
    pieces = λ q. f.looped.shown p t q is live ∙ ap (λ (n : ℕ). count_piece q n t.pieces) (sym first_there);
    rises = (f.looped.booked p t is).rises;
    unretired = says_field (layout_of j) lies s.words f.words p t is live 4 t.unretired (omega arith) refl;
  }
