-- A loop that has not begun has no children, whatever event is done.
use Rattle.std.proofs.Common.{◌≡◌, ◌≢◌, ℕ, true, List, [], ◌∷◌, Some, inl, inr, refl, sym, ap, subst}
use Rattle.kt_order.specs.Lists.{nth, AllOf}
use Rattle.kt_order.specs.Body.{Stop, Do, Fork}
use Rattle.kt_order.specs.Machine.{Machine, Code}
use Rattle.kt_order.specs.Laws.{Laws}
use Rattle.kt_order.specs.Forest.{Phase, Unclaimed, Running, Ended, Finished, Place, Here, Down, Later, Task, Forest, Nil, Node, At, change, add_last, fresh}
use Rattle.kt_order.specs.Rest.{left}
use Rattle.kt_order.specs.Events as order
use Rattle.kt_order.specs.Events.{State, put, in_phase, did, forked, ended, same_frame, left_at, operate, Now}
use Rattle.kt_order.specs.Books.{Book}
use Rattle.kt_order.specs.Loops.{child, event_place, begin_events, take_events, index_events, phases, HasBook}
use Rattle.kt_order.proofs.Ats.{at_more, at_says, at_shape}
use Rattle.kt_order.proofs.Children.{at_change}
use Rattle.kt_order.proofs.Nodes.{unclaimed_bare}
use Rattle.kt_prog.specs.Laws.{BodiesKeep, LoopsAreDirect}
use Rattle.kt_prog.specs.Accepted.{IsAccepted}
use Rattle.kt_prog.specs.Reference.{Placed, machine_of}
use Rattle.kt_prog.specs.declared.programs.Program.{Program}
use Rattle.kt_runs.specs.Rights.{rights_in}
use Rattle.kt_runs.specs.States.{Core, IsRun, after_event, after_events, IsLawful}
use Rattle.kt_runs.specs.Loops.{LoopAt}
use Rattle.kt_runs.specs.CoreEvents.{CoreEvent, ClaimInOrder, ClaimReady, Body, Begin, Split, Take, IndexBody, Retire, Finish, Booked, is_loop_job, IsCall, IsAct, MayGoOn, TaskAt, CanDo, after_core, IsRunningLoop, BareAt}
use Rattle.kt_runs.proofs.Elsewhere.{place_or, same_at, left_says, both_at, calls_stay, calls_were, held_before}
use Rattle.kt_runs.proofs.LoopForks.{no_call_there}
use Rattle.kt_runs.proofs.Begins.{loop_begins, takes, index_goes}
use Rattle.kt_runs.proofs.Runs.{event_keeps}
use Rattle.kt_runs.proofs.LoopEvents.{begin_elsewhere, IsChild, take_places, index_places, loop_is_call, LoopThere, looping_there}
use Rattle.kt_runs.proofs.Booked.{IsBooked}

-- an event elsewhere gives no children to a task that has none
module _ (m : Machine) where
  abbrev Bare : Place → Forest m → Type 0
  Bare q F = At m (λ u kids. kids ≡ Nil) q F

  abbrev KeepsBare : (Forest m → Forest m) → Type 0
  KeepsBare g = (q : Place) (F : Forest m) → Bare q F → Bare q (g F)

  bare_change : (h : Task m → Now m) (g : Forest m → Forest m) → KeepsBare g → (r q : Place) (F : Forest m) → r ≢ q → Bare q F
      → Bare q (change m (put m h) g r F)
  bare_change h g keeps r q Nil ne at = absurd at
  bare_change h g keeps Here Here (Node u kids later) ne at = absurd (ne refl)
  bare_change h g keeps Here (Down q) (Node u kids later) ne at = keeps q kids at
  bare_change h g keeps Here (Later q) (Node u kids later) ne at = at
  bare_change h g keeps (Down r) Here (Node u kids later) ne at = ap (change m (put m h) g r) at
  bare_change h g keeps (Down r) (Down q) (Node u kids later) ne at = bare_change h g keeps r q kids (λ e. ne (ap Down e)) at
  bare_change h g keeps (Down r) (Later q) (Node u kids later) ne at = at
  bare_change h g keeps (Later r) Here (Node u kids later) ne at = at
  bare_change h g keeps (Later r) (Down q) (Node u kids later) ne at = at
  bare_change h g keeps (Later r) (Later q) (Node u kids later) ne at = bare_change h g keeps r q later (λ e. ne (ap Later e)) at

  same_bare : KeepsBare (same_frame m)
  same_bare q F at = at

  last_bare : (v : Task m) → KeepsBare (add_last m v)
  last_bare v q Nil at = absurd at
  last_bare v Here (Node u kids later) at = at
  last_bare v (Down q) (Node u kids later) at = at
  last_bare v (Later q) (Node u kids later) at = last_bare v q later at

  bare_operated : (w : Code m) (x : State m) (r q : Place) → r ≢ q → Bare q x.forest → Bare q (operate m w r x).forest
  bare_operated (Stop f) x r q ne at = bare_change (ended m) (same_frame m) same_bare r q x.forest ne at
  bare_operated (Do p k) x r q ne at = bare_change (did m p (m.answer p x.store)) (same_frame m) same_bare r q x.forest ne at
  bare_operated (Fork c w) x r q ne at = bare_change (forked m) (add_last m (fresh m c)) (last_bare (fresh m c)) r q x.forest ne at

  bare_stays : (e : order.Event) (x : State m) (q : Place) → event_place e ≢ q → Bare q x.forest → Bare q (order.step m e x).forest
  bare_stays (order.ClaimInOrder r) x q ne at = bare_change (in_phase m Running) (same_frame m) same_bare r q x.forest ne at
  bare_stays (order.ClaimReady r) x q ne at = bare_change (in_phase m Running) (same_frame m) same_bare r q x.forest ne at
  bare_stays (order.Step r) x q ne at = bare_operated (left_at m r x.forest) x r q ne at
  bare_stays (order.Finish r) x q ne at = bare_change (in_phase m Finished) (same_frame m) same_bare r q x.forest ne at

two_phases : (ph : Phase) → ph ≡ Running → ph ≡ Ended → ⊥
two_phases ph e f = cc

module _ (p : Program) (input : List ℕ) (l : Laws (machine_of p) (rights_in p)) where
  abbrev HoldsBare : Place → Core p → Type 0
  HoldsBare r x = TaskAt p (IsRunningLoop p) r x → BareAt p r x

  never : (c : Placed) → IsRunningLoop p (fresh (machine_of p) c) → ⊥
  never c h = absurd (cc (h.1))

  bare_else : (e : order.Event) (x : Core p) (r : Place) → event_place e ≢ r → HoldsBare r x → HoldsBare r (after_event p e x)
  bare_else e x r ne holds running =
      bare_stays (machine_of p) e x r ne (holds (held_before (machine_of p) (IsRunningLoop p) never e x r ne running))

  bare_run : (es : List order.Event) (x : Core p) (r : Place) → AllOf (λ e. event_place e ≢ r) es → HoldsBare r x → HoldsBare r (after_events p es x)
  bare_run [] x r all holds = holds
  bare_run (e ∷ es) x r all holds = bare_run es (after_event p e x) r all.1 (bare_else e x r all.0 holds)

  -- no loop stands at the place of an event of an index
  bare_child : (e : order.Event) (x : Core p) (home : Place) → IsLawful p input x → IsChild home e → LoopThere p home x
      → (r : Place) → HoldsBare r x → HoldsBare r (after_event p e x)
  bare_child e x home lawful there loop r holds running = elim (place_or (event_place e) r) [
    | inr ne ↦ bare_else e x r ne holds running
    | inl same ↦
        let after = at_more (machine_of p) (λ u kids. IsRunningLoop p u) (λ u kids. is_loop_job p u.call.job ≡ true) (λ u kids h. h.0) r (after_event p e x).forest running in
        let at = calls_were (machine_of p) (λ (c : Placed). is_loop_job p c.job ≡ true) e x (subst (λ q. LoopThere p q (after_event p e x)) (sym same) after) in
        let call = at_more (machine_of p) (λ u kids. is_loop_job p u.call.job ≡ true) (λ u kids. IsCall p u) (λ u kids h. loop_is_call p u.call.job h) (event_place e) x.forest at in
        absurd (no_call_there p home there.0 x.forest lawful.shape loop (subst (λ q. TaskAt p (IsCall p) q x) there.1 call))
  ]

  bare_children : (es : List order.Event) (x : Core p) (home : Place) → AllOf (IsChild home) es → IsLawful p input x → IsRun p es x
      → LoopThere p home x → (r : Place) → HoldsBare r x → HoldsBare r (after_events p es x)
  bare_children [] x home all lawful follows loop r holds = holds
  bare_children (e ∷ es) x home all lawful follows loop r holds =
      bare_children es (after_event p e x) home all.1 (event_keeps p input l e x follows.0 lawful) follows.1
      (calls_stay (machine_of p) (λ (c : Placed). is_loop_job p c.job ≡ true) e x home loop) r (bare_child e x home lawful all.0 loop r holds)

  -- a task that is claimed has no children yet
  bare_claimed : (q : Place) (x : Core p) → IsLawful p input x → TaskAt p (λ u. u.phase ≡ Unclaimed) q x → BareAt p q (order.enter (machine_of p) Running q x)
  bare_claimed q x lawful at =
      at_change (machine_of p) (λ u kids. kids ≡ Nil) (put (machine_of p) (in_phase (machine_of p) Running)) (same_frame (machine_of p)) q x.forest
      (at_more (machine_of p) _ (λ u kids. kids ≡ Nil) (λ u kids h. unclaimed_bare (machine_of p) (rights_in p) l u kids h.1 h.0) q x.forest
      (at_shape (machine_of p) (rights_in p) (λ u kids. u.phase ≡ Unclaimed) q x.forest lawful.shape at))

  -- a loop that does an act has no children still, and its body does nothing else
  bare_acted : (q : Place) (x : Core p) → TaskAt p (MayGoOn p) q x → HoldsBare q x → (w : Code (machine_of p)) → left_at (machine_of p) q x.forest ≡ w
      → HoldsBare q (operate (machine_of p) w q x)
  bare_acted q x may holds (Stop f) is running =
      absurd (at_says (machine_of p) ⊥ q x.forest (at_more (machine_of p) (λ u kids. IsRunningLoop p (put (machine_of p) (ended (machine_of p)) u)) (λ u kids. ⊥)
      (λ u kids h. absurd (cc (h.1))) q x.forest (same_at (machine_of p) (IsRunningLoop p) (ended (machine_of p)) (same_frame (machine_of p)) q x.forest running)))
  bare_acted q x may holds (Do a k) is running =
      let h' = did (machine_of p) a ((machine_of p).answer a x.store) in
      let both = both_at (machine_of p) (λ u kids. MayGoOn p u) (λ u kids. IsRunningLoop p (put (machine_of p) h' u)) q x.forest may
      (same_at (machine_of p) (IsRunningLoop p) h' (same_frame (machine_of p)) q x.forest running) in
      let before = at_more (machine_of p) (λ u kids. MayGoOn p u × IsRunningLoop p (put (machine_of p) h' u)) (λ u kids. IsRunningLoop p u) (λ u kids h. (h.1.0, h.0.running)) q x.forest both in
      at_change (machine_of p) (λ u kids. kids ≡ Nil) (put (machine_of p) h') (same_frame (machine_of p)) q x.forest (holds before)
  bare_acted q x may holds (Fork c w) is running =
      let both = both_at (machine_of p) (λ u kids. MayGoOn p u) (λ u kids. IsRunningLoop p (put (machine_of p) (forked (machine_of p)) u)) q x.forest may
      (same_at (machine_of p) (IsRunningLoop p) (forked (machine_of p)) (add_last (machine_of p) (fresh (machine_of p) c)) q x.forest running) in
      let act = left_says (machine_of p) (IsAct p) q x.forest
      (at_more (machine_of p) (λ u kids. MayGoOn p u × IsRunningLoop p (put (machine_of p) (forked (machine_of p)) u)) (λ u kids. IsAct p (left (machine_of p) u)) (λ u kids h. h.0.zeroing h.1.0) q x.forest both) in
      absurd (subst (IsAct p) is act)

  not_in : (ph : Phase) → ph ≢ Running → (q : Place) (x : Core p) → HoldsBare q (order.enter (machine_of p) ph q x)
  not_in ph ne q x running =
      absurd (at_says (machine_of p) ⊥ q x.forest (at_more (machine_of p) (λ u kids. IsRunningLoop p (put (machine_of p) (in_phase (machine_of p) ph) u)) (λ u kids. ⊥)
      (λ u kids h. ne h.1) q x.forest (same_at (machine_of p) (IsRunningLoop p) (in_phase (machine_of p) ph) (same_frame (machine_of p)) q x.forest running)))

  -- a loop that has begun runs no longer
  not_begun : (q : Place) (b : Book) (x : Core p) → LoopAt p b q x → HoldsBare q x
  not_begun q b x at running =
      absurd (at_says (machine_of p) ⊥ q x.forest (at_more (machine_of p) (λ u kids. HasBook (machine_of p) (rights_in p) b u kids × IsRunningLoop p u) (λ u kids. ⊥)
      (λ u kids h. two_phases u.phase h.1.1 h.0.begun) q x.forest (both_at (machine_of p) (HasBook (machine_of p) (rights_in p) b) (λ u kids. IsRunningLoop p u) q x.forest at running)))

  here_or : (q : Place) (x : Core p) → HoldsBare q x → ((r : Place) → q ≢ r → HoldsBare r x) → (r : Place) → HoldsBare r x
  here_or q x here there r = elim (place_or q r) [
    | inl same ↦ subst (λ s. HoldsBare s x) same here
    | inr ne ↦ there r ne
  ]

  module _ (bodies : BodiesKeep) (direct : LoopsAreDirect) (ok : IsAccepted p) where
    pub bare_kept : (e : CoreEvent) (y : Booked p) → CanDo p e y → IsBooked p input y → ((r : Place) → HoldsBare r y.core) → (r : Place) → HoldsBare r (after_core p e y).core
    bare_kept (ClaimInOrder q) y can h bare =
        here_or q (order.enter (machine_of p) Running q y.core) (λ running. bare_claimed q y.core h.lawful can.1.0)
        (λ r ne. bare_else (order.ClaimInOrder q) y.core r ne (bare r))
    bare_kept (ClaimReady q) y can h bare =
        here_or q (order.enter (machine_of p) Running q y.core) (λ running. bare_claimed q y.core h.lawful can.1.0)
        (λ r ne. bare_else (order.ClaimReady q) y.core r ne (bare r))
    bare_kept (Finish q) y can h bare =
        here_or q (order.enter (machine_of p) Finished q y.core) (not_in Finished (λ e. cc) q y.core)
        (λ r ne. bare_else (order.Finish q) y.core r ne (bare r))
    bare_kept (Body q) y can h bare =
        here_or q (after_event p (order.Step q) y.core) (bare_acted q y.core can (bare q) (left_at (machine_of p) q y.core.forest) refl)
        (λ r ne. bare_else (order.Step q) y.core r ne (bare r))
    bare_kept (Begin q path call) y can h bare =
        let goes = loop_begins p input l bodies direct ok y.core h.lawful q path call can in
        here_or q (after_events p (begin_events q call.length) y.core) (not_begun q _ (after_events p (begin_events q call.length) y.core) goes.2)
        (λ r ne. bare_run (begin_events q call.length) y.core r (begin_elsewhere q r ne call.length) (bare r))
    bare_kept (Split q at) y can h bare = bare
    bare_kept (Take q at n) y can h bare = λ r.
        let goes = takes p input l y.core h.lawful q (y.books q) at n (h.books q can.0) can.2 in
        bare_children (take_events q at n) y.core q (take_places q at n) h.lawful goes.0 (looping_there p q y.core can.0) r (bare r)
    bare_kept (IndexBody q i) y can h bare = λ r.
        let es = index_events (machine_of p) (left_at (machine_of p) (child q i) y.core.forest) q i in
        let there = both_at (machine_of p) (λ u kids. HasBook (machine_of p) (rights_in p) (y.books q) u kids) (λ u kids. nth (phases (machine_of p) kids) i ≡ Some Running) q y.core.forest (h.books q can.0) can.1 in
        let goes = index_goes p input l y.core h.lawful q (y.books q) i there in
        bare_children es y.core q (index_places (machine_of p) (left_at (machine_of p) (child q i) y.core.forest) q i) h.lawful goes.0 (looping_there p q y.core can.0) r (bare r)
    bare_kept (Retire q n) y can h bare = bare
