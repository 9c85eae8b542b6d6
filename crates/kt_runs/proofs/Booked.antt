-- The events of the core keep it lawful, with the books of its loops.
use Rattle.std.proofs.Common.{◌≡◌, ◌≢◌, ℕ, ◌-◌, true, false, cond, List, [], ◌∷◌, Some, None, inl, inr, refl, sym, ap, subst, ◌∙◌}
use Rattle.kt_order.specs.Lists.{nth, AllOf}
use Rattle.kt_order.specs.Body.{Stop, Do, Fork}
use Rattle.kt_order.specs.Machine.{Code}
use Rattle.kt_order.specs.Laws.{Laws}
use Rattle.kt_order.specs.Forest.{Phase, Running, Ended, Finished, Place, Here, Down, Later, add_last, fresh}
use Rattle.kt_order.specs.Rest.{left}
use Rattle.kt_order.specs.Events as order
use Rattle.kt_order.specs.Events.{put, in_phase, did, forked, ended, same_frame, left_at, operate, Now}
use Rattle.kt_order.specs.Books.{Book, whole_book, cut, take}
use Rattle.kt_order.specs.Loops.{child, event_place, begin_events, take_events, index_events, phases, HasBook}
use Rattle.kt_order.proofs.Ats.{at_more, at_says}
use Rattle.kt_order.proofs.LoopBooks.{loop_splits, loop_retires}
use Rattle.kt_order.proofs.LoopStays.{loop_stays}
use Rattle.kt_prog.specs.Calls.{index_of}
use Rattle.kt_prog.specs.Laws.{BodiesKeep, LoopsAreDirect}
use Rattle.kt_prog.specs.Accepted.{IsAccepted}
use Rattle.kt_prog.specs.Reference.{Placed, machine_of}
use Rattle.kt_prog.specs.declared.programs.Program.{Program}
use Rattle.kt_runs.specs.Rights.{rights_in}
use Rattle.kt_runs.specs.States.{Core, IsRun, after_event, after_events, IsLawful}
use Rattle.kt_runs.specs.Loops.{CanBegin, CanRetire, LoopAt}
use Rattle.kt_runs.specs.CoreEvents.{CoreEvent, ClaimInOrder, ClaimReady, Body, Begin, Split, Take, IndexBody, Retire, Finish, same_place, with_book, Booked, is_loop_job, IsCall, IsLooping, IsAct, MayGoOn, TaskAt, CanDo, after_core}
use Rattle.kt_runs.proofs.Runs.{event_keeps}
use Rattle.kt_runs.proofs.Elsewhere.{place_or, child_of, same_at, left_says, both_at, calls_stay, calls_were, held_before}
use Rattle.kt_runs.proofs.LoopForks.{no_call_there}
use Rattle.kt_runs.proofs.LoopEvents.{begin_places, IsChild, take_places, index_places, loop_is_call, looping_there}
use Rattle.kt_runs.proofs.Begins.{loop_begins, takes, index_goes}

pub same_self : (q : Place) → same_place q q ≡ true
same_self Here = refl
same_self (Down q) = same_self q
same_self (Later q) = same_self q

pub differ : (q r : Place) → q ≢ r → same_place q r ≡ false
differ Here Here ne = absurd (ne refl)
differ Here (Down r) ne = refl
differ Here (Later r) ne = refl
differ (Down q) Here ne = refl
differ (Down q) (Down r) ne = differ q r (λ e. ne (ap Down e))
differ (Down q) (Later r) ne = refl
differ (Later q) Here ne = refl
differ (Later q) (Down r) ne = refl
differ (Later q) (Later r) ne = differ q r (λ e. ne (ap Later e))

-- a lawful core in which each looping loop has its book
pub record IsBooked (p : Program) (input : List ℕ) (y : Booked p) : Type 0 where
  pub lawful : IsLawful p input y.core
  pub books : (q : Place) → TaskAt p (IsLooping p) q y.core → LoopAt p (y.books q) q y.core

module _ (p : Program) (input : List ℕ) (l : Laws (machine_of p) (rights_in p)) where
  abbrev IsLoop : Placed → Type 0
  IsLoop c = is_loop_job p c.job ≡ true

  abbrev Holds : Place → Book → Core p → Type 0
  Holds r b x = TaskAt p (IsLooping p) r x → LoopAt p b r x

  never_fresh : (c : Placed) → IsLooping p (fresh (machine_of p) c) → ⊥
  never_fresh c h = absurd (cc (h.1))

  -- an event at the place of a call leaves the books of the loops elsewhere
  at_call : (e : order.Event) (x : Core p) → IsLawful p input x → TaskAt p (IsCall p) (event_place e) x → (r : Place) → event_place e ≢ r
      → (b : Book) → Holds r b x → Holds r b (after_event p e x)
  at_call e x lawful call r ne b holds looping =
      let before = held_before (machine_of p) (IsLooping p) never_fresh e x r ne looping in
      loop_stays (machine_of p) (rights_in p) x r b e (holds before) ne
      (λ i same. no_call_there p r i x.forest lawful.shape (looping_there p r x before) (subst (λ q. TaskAt p (IsCall p) q x) same call))

  -- and so does one at an index of a loop
  at_child : (e : order.Event) (x : Core p) (home : Place) → IsLawful p input x → IsChild home e → TaskAt p (λ u. IsLoop u.call) home x
      → (r : Place) → home ≢ r → (b : Book) → Holds r b x → Holds r b (after_event p e x)
  at_child e x home lawful there loop r ne b holds looping =
      let other = λ (same : event_place e ≡ r).
      let at = calls_were (machine_of p) IsLoop e x (subst (λ q. TaskAt p (λ u. IsLoop u.call) q (after_event p e x)) (sym same) (looping_there p r (after_event p e x) looping)) in
      let call = at_more (machine_of p) (λ u kids. IsLoop u.call) (λ u kids. IsCall p u) (λ u kids h. loop_is_call p u.call.job h) (event_place e) x.forest at in
      no_call_there p home there.0 x.forest lawful.shape loop (subst (λ q. TaskAt p (IsCall p) q x) there.1 call) in
      let before = held_before (machine_of p) (IsLooping p) never_fresh e x r other looping in
      loop_stays (machine_of p) (rights_in p) x r b e (holds before) other (λ j same. ne (child_of home r there.0 j (sym there.1 ∙ same)))

  run_calls : (es : List order.Event) (x : Core p) (home : Place) → AllOf (λ e. event_place e ≡ home) es → IsLawful p input x → IsRun p es x
      → TaskAt p (IsCall p) home x → (r : Place) → home ≢ r → (b : Book) → Holds r b x → Holds r b (after_events p es x)
  run_calls [] x home all lawful follows call r ne b holds = holds
  run_calls (e ∷ es) x home all lawful follows call r ne b holds =
      run_calls es (after_event p e x) home all.1 (event_keeps p input l e x follows.0 lawful) follows.1
      (calls_stay (machine_of p) (λ c. index_of c.job ≡ None) e x home call) r ne b
      (at_call e x lawful (subst (λ q. TaskAt p (IsCall p) q x) (sym all.0) call) r (λ same. ne (sym all.0 ∙ same)) b holds)

  run_children : (es : List order.Event) (x : Core p) (home : Place) → AllOf (IsChild home) es → IsLawful p input x → IsRun p es x
      → TaskAt p (λ u. IsLoop u.call) home x → (r : Place) → home ≢ r → (b : Book) → Holds r b x → Holds r b (after_events p es x)
  run_children [] x home all lawful follows loop r ne b holds = holds
  run_children (e ∷ es) x home all lawful follows loop r ne b holds =
      run_children es (after_event p e x) home all.1 (event_keeps p input l e x follows.0 lawful) follows.1
      (calls_stay (machine_of p) IsLoop e x home loop) r ne b (at_child e x home lawful all.0 loop r ne b holds)

  -- the book of one place is new
  changed : (x : Core p) (q : Place) (b : Book) (books : Place → Book) → Holds q b x → ((r : Place) → q ≢ r → Holds r (books r) x)
      → (r : Place) → Holds r (with_book q b books r) x
  changed x q b books here there r = elim (place_or q r) [
    | inl same ↦ subst (λ s. Holds s (with_book q b books s) x) same (subst (λ c. Holds q c x) (sym (ap (λ t. cond t b (books q)) (same_self q))) here)
    | inr ne ↦ subst (λ c. Holds r c x) (sym (ap (λ t. cond t b (books r)) (differ q r ne))) (there r ne)
  ]

  unchanged : (x : Core p) (q : Place) (books : Place → Book) → Holds q (books q) x → ((r : Place) → q ≢ r → Holds r (books r) x)
      → (r : Place) → Holds r (books r) x
  unchanged x q books here there r = elim (place_or q r) [
    | inl same ↦ subst (λ s. Holds s (books s) x) same here
    | inr ne ↦ there r ne
  ]

  -- no loop is looping where a task was put in another phase
  never_in : (ph : Phase) → ph ≢ Ended → (q : Place) (x : Core p) (b : Book) → Holds q b (order.enter (machine_of p) ph q x)
  never_in ph ne q x b looping =
      absurd (at_says (machine_of p) ⊥ q x.forest (at_more (machine_of p) (λ u kids. IsLooping p (put (machine_of p) (in_phase (machine_of p) ph) u)) (λ u kids. ⊥)
      (λ u kids h. ne h.1) q x.forest (same_at (machine_of p) (IsLooping p) (in_phase (machine_of p) ph) (same_frame (machine_of p)) q x.forest looping)))

  -- nor where a body did an operation
  never_ended : (q : Place) (x : Core p) → TaskAt p (MayGoOn p) q x → (w : Code (machine_of p)) → left_at (machine_of p) q x.forest ≡ w
      → TaskAt p (IsLooping p) q (operate (machine_of p) w q x) → ⊥
  never_ended q x may (Stop f) is looping =
      let both = both_at (machine_of p) (λ u kids. MayGoOn p u) (λ u kids. IsLooping p (put (machine_of p) (ended (machine_of p)) u)) q x.forest may
      (same_at (machine_of p) (IsLooping p) (ended (machine_of p)) (same_frame (machine_of p)) q x.forest looping) in
      subst (IsAct p) is (left_says (machine_of p) (IsAct p) q x.forest
      (at_more (machine_of p) (λ u kids. MayGoOn p u × IsLooping p (put (machine_of p) (ended (machine_of p)) u)) (λ u kids. IsAct p (left (machine_of p) u)) (λ u kids h. h.0.zeroing h.1.0) q x.forest both))
  never_ended q x may (Do a k) is looping =
      let h' = did (machine_of p) a ((machine_of p).answer a x.store) in
      let both = both_at (machine_of p) (λ u kids. MayGoOn p u) (λ u kids. IsLooping p (put (machine_of p) h' u)) q x.forest may
      (same_at (machine_of p) (IsLooping p) h' (same_frame (machine_of p)) q x.forest looping) in
      at_says (machine_of p) ⊥ q x.forest (at_more (machine_of p) (λ u kids. MayGoOn p u × IsLooping p (put (machine_of p) h' u)) (λ u kids. ⊥) (λ u kids h. two_phases u.phase h.0.running h.1.1) q x.forest both)
    where
      two_phases : (ph : Phase) → ph ≡ Running → ph ≡ Ended → ⊥
      two_phases ph e f = cc
  never_ended q x may (Fork c w) is looping =
      let both = both_at (machine_of p) (λ u kids. MayGoOn p u) (λ u kids. IsLooping p (put (machine_of p) (forked (machine_of p)) u)) q x.forest may
      (same_at (machine_of p) (IsLooping p) (forked (machine_of p)) (add_last (machine_of p) (fresh (machine_of p) c)) q x.forest looping) in
      at_says (machine_of p) ⊥ q x.forest (at_more (machine_of p) (λ u kids. MayGoOn p u × IsLooping p (put (machine_of p) (forked (machine_of p)) u)) (λ u kids. ⊥) (λ u kids h. two_phases u.phase h.0.running h.1.1) q x.forest both)
    where
      two_phases : (ph : Phase) → ph ≡ Running → ph ≡ Ended → ⊥
      two_phases ph e f = cc

  module _ (bodies : BodiesKeep) (direct : LoopsAreDirect) (ok : IsAccepted p) where
    pub keeps : (e : CoreEvent) (y : Booked p) → CanDo p e y → IsBooked p input y → IsBooked p input (after_core p e y)
    keeps (ClaimInOrder q) y can h = record {
      lawful = event_keeps p input l (order.ClaimInOrder q) y.core can.1 h.lawful;
      books = unchanged (order.enter (machine_of p) Running q y.core) q y.books (never_in Running (λ e. cc) q y.core (y.books q))
          (λ r ne. at_call (order.ClaimInOrder q) y.core h.lawful can.0 r ne (y.books r) (h.books r));
    }
    keeps (ClaimReady q) y can h = record {
      lawful = event_keeps p input l (order.ClaimReady q) y.core can.1 h.lawful;
      books = unchanged (order.enter (machine_of p) Running q y.core) q y.books (never_in Running (λ e. cc) q y.core (y.books q))
          (λ r ne. at_call (order.ClaimReady q) y.core h.lawful can.0 r ne (y.books r) (h.books r));
    }
    keeps (Finish q) y can h = record {
      lawful = event_keeps p input l (order.Finish q) y.core can.1 h.lawful;
      books = unchanged (order.enter (machine_of p) Finished q y.core) q y.books (never_in Finished (λ e. cc) q y.core (y.books q))
          (λ r ne. at_call (order.Finish q) y.core h.lawful can.0 r ne (y.books r) (h.books r));
    }
    keeps (Body q) y can h =
        let running = at_more (machine_of p) (λ u kids. MayGoOn p u) (λ u kids. u.phase ≡ Running) (λ u kids may. may.running) q y.core.forest can in
        let call = at_more (machine_of p) (λ u kids. MayGoOn p u) (λ u kids. IsCall p u) (λ u kids may. may.call) q y.core.forest can in
        record {
          lawful = event_keeps p input l (order.Step q) y.core running h.lawful;
          books = unchanged (after_event p (order.Step q) y.core) q y.books
              (λ looping. absurd (never_ended q y.core can (left_at (machine_of p) q y.core.forest) refl looping))
              (λ r ne. at_call (order.Step q) y.core h.lawful call r ne (y.books r) (h.books r));
        }
    keeps (Begin q path call) y can h =
        let goes = loop_begins p input l bodies direct ok y.core h.lawful q path call can in
        let here = at_more (machine_of p) (λ u kids. CanBegin p path call u) (λ u kids. IsCall p u) (λ u kids may. ap (λ (c : Placed). index_of c.job) may.placed) q y.core.forest can in
        record {
          lawful = goes.1;
          books = changed (after_events p (begin_events q call.length) y.core) q (whole_book call.length) y.books (λ looping. goes.2)
              (λ r ne. run_calls (begin_events q call.length) y.core q (begin_places q call.length) h.lawful goes.0 here r ne (y.books r) (h.books r));
        }
    keeps (Split q at) y can h = record {
      lawful = h.lawful;
      books = changed y.core q (record { pieces = cut at (y.books q).pieces; unretired = (y.books q).unretired }) y.books
          (λ looping. loop_splits (machine_of p) (rights_in p) y.core q (y.books q) at (h.books q looping)) (λ r ne. h.books r);
    }
    keeps (Take q at n) y can h =
        let goes = takes p input l y.core h.lawful q (y.books q) at n (h.books q can.0) can.2 in
        record {
          lawful = goes.1;
          books = changed (after_events p (take_events q at n) y.core) q (record { pieces = take at n (y.books q).pieces; unretired = (y.books q).unretired }) y.books (λ looping. goes.2)
              (λ r ne. run_children (take_events q at n) y.core q (take_places q at n) h.lawful goes.0 (looping_there p q y.core can.0) r ne (y.books r) (h.books r));
        }
    keeps (IndexBody q i) y can h =
        let es = index_events (machine_of p) (left_at (machine_of p) (child q i) y.core.forest) q i in
        let there = both_at (machine_of p) (λ u kids. HasBook (machine_of p) (rights_in p) (y.books q) u kids) (λ u kids. nth (phases (machine_of p) kids) i ≡ Some Running) q y.core.forest (h.books q can.0) can.1 in
        let goes = index_goes p input l y.core h.lawful q (y.books q) i there in
        record {
          lawful = goes.1;
          books = unchanged (after_events p es y.core) q y.books (λ looping. goes.2)
              (λ r ne. run_children es y.core q (index_places (machine_of p) (left_at (machine_of p) (child q i) y.core.forest) q i) h.lawful goes.0 (looping_there p q y.core can.0) r ne (y.books r) (h.books r));
        }
    keeps (Retire q n) y can h =
        let there = both_at (machine_of p) (λ u kids. HasBook (machine_of p) (rights_in p) (y.books q) u kids) (λ u kids. CanRetire p n (y.books q) kids) q y.core.forest (h.books q can.0) can.2 in
        record {
          lawful = h.lawful;
          books = changed y.core q (record { pieces = (y.books q).pieces; unretired = (y.books q).unretired - n }) y.books
              (λ looping. loop_retires (machine_of p) (rights_in p) y.core q (y.books q) n there) (λ r ne. h.books r);
        }
