-- An event that is done elsewhere leaves the book of a loop.
use Rattle.std.proofs.Common.{◌≡◌, ◌≢◌, ℕ, suc, ◌∷◌, refl, sym, ap, subst}
use Rattle.kt_order.specs.Body.{Stop, Do, Fork}
use Rattle.kt_order.specs.Machine.{Machine, Code}
use Rattle.kt_order.specs.Laws.{Rights}
use Rattle.kt_order.specs.Forest.{Running, Finished, Place, Here, Down, Later, Task, Forest, Nil, Node, At, change, add_last, fresh}
use Rattle.kt_order.specs.Events.{Event, ClaimInOrder, ClaimReady, Step, Finish, State, Now, put, in_phase, did, forked, ended, same_frame, left_at, operate, step}
use Rattle.kt_order.specs.Books.{Book, BookOk}
use Rattle.kt_order.specs.Loops.{nth_place, child, event_place, phases, AreIndexes, HasBook}
use Rattle.kt_order.specs.LoopTheorems.{LoopAt}
use Rattle.kt_order.proofs.Shapes.{calls_change}

module _ (m : Machine) (h : Task m → Now m) (g : Forest m → Forest m) where
  -- a change below the tasks of a frame leaves their phases
  phases_below : (r : Place) (F : Forest m) → ((i : ℕ) → r ≢ nth_place i) → phases m (change m (put m h) g r F) ≡ phases m F
  phases_below r Nil ne = refl
  phases_below Here (Node u kids later) ne = absurd (ne 0 refl)
  phases_below (Down r) (Node u kids later) ne = refl
  phases_below (Later r) (Node u kids later) ne = ap (λ xs. u.phase ∷ xs) (phases_below r later (λ i e. ne (suc i) (ap Later e)))

  module _ (rights : Rights m) (b : Book) where
    -- what is done to the children leaves the books below them
    abbrev KeepsPlaces : Type 0
    KeepsPlaces = (q : Place) (F : Forest m) → At m (HasBook m rights b) q F → At m (HasBook m rights b) q (g F)

    pub book_stays : KeepsPlaces → (q r : Place) (F : Forest m)
        → At m (HasBook m rights b) q F → r ≢ q → ((i : ℕ) → r ≢ child q i) → At m (HasBook m rights b) q (change m (put m h) g r F)
    book_stays keeps q r Nil at ne not = absurd at
    book_stays keeps Here Here (Node u kids later) at ne not = absurd (ne refl)
    book_stays keeps Here (Down r) (Node u kids later) at ne not = record {
      begun = at.begun;
      indexes = subst (AreIndexes m rights) (sym (calls_change m h g r kids)) at.indexes;
      book = subst (BookOk b) (sym (phases_below r kids (λ i e. not i (ap Down e)))) at.book;
    }
    book_stays keeps Here (Later r) (Node u kids later) at ne not = at
    book_stays keeps (Down q) Here (Node u kids later) at ne not = keeps q kids at
    book_stays keeps (Down q) (Down r) (Node u kids later) at ne not = book_stays keeps q r kids at (λ e. ne (ap Down e)) (λ i e. not i (ap Down e))
    book_stays keeps (Down q) (Later r) (Node u kids later) at ne not = at
    book_stays keeps (Later q) Here (Node u kids later) at ne not = at
    book_stays keeps (Later q) (Down r) (Node u kids later) at ne not = at
    book_stays keeps (Later q) (Later r) (Node u kids later) at ne not = book_stays keeps q r later at (λ e. ne (ap Later e)) (λ i e. not i (ap Later e))

module _ (m : Machine) (rights : Rights m) where
  -- a task more at the end of a frame leaves what holds at a place
  at_add_last : (P : Task m → Forest m → Type 0) (v : Task m) (q : Place) (F : Forest m) → At m P q F → At m P q (add_last m v F)
  at_add_last P v q Nil at = absurd at
  at_add_last P v Here (Node u kids later) at = at
  at_add_last P v (Down q) (Node u kids later) at = at
  at_add_last P v (Later q) (Node u kids later) at = at_add_last P v q later at

  -- of an event that adds no task
  abbrev Elsewhere : Place → Place → Type 0
  Elsewhere q r = (r ≢ q) × ((i : ℕ) → r ≢ child q i)

  phase_stays : (x : State m) (q r : Place) (b : Book) (h : Task m → Now m) → LoopAt m rights b q x → Elsewhere q r → At m (HasBook m rights b) q (change m (put m h) (same_frame m) r x.forest)
  phase_stays x q r b h at ne = book_stays m h (same_frame m) rights b (λ p F here. here) q r x.forest at ne.0 ne.1

  operation_stays : (w : Code m) (x : State m) (q r : Place) (b : Book) → LoopAt m rights b q x → Elsewhere q r → LoopAt m rights b q (operate m w r x)
  operation_stays (Stop f) x q r b at ne = phase_stays x q r b (ended m) at ne
  operation_stays (Do p k) x q r b at ne = phase_stays x q r b (did m p (m.answer p x.store)) at ne
  operation_stays (Fork c w) x q r b at ne = book_stays m (forked m) (add_last m (fresh m c)) rights b (at_add_last (HasBook m rights b) (fresh m c)) q r x.forest at ne.0 ne.1

  pub loop_stays : (x : State m) (q : Place) (b : Book) (e : Event) → LoopAt m rights b q x → event_place e ≢ q → ((i : ℕ) → event_place e ≢ child q i) → LoopAt m rights b q (step m e x)
  loop_stays x q b (ClaimInOrder r) at ne not = phase_stays x q r b (in_phase m Running) at (ne, not)
  loop_stays x q b (ClaimReady r) at ne not = phase_stays x q r b (in_phase m Running) at (ne, not)
  loop_stays x q b (Step r) at ne not = operation_stays (left_at m r x.forest) x q r b at (ne, not)
  loop_stays x q b (Finish r) at ne not = phase_stays x q r b (in_phase m Finished) at (ne, not)
