-- Where no loop is looping the book is empty, whatever event is done.
use Rattle.std.proofs.Common.{◌≡◌, ◌≢◌, ℕ, zero, suc, ◌-◌, Bool, true, false, cond, List, [], ◌∷◌, Some, ◌⊎◌, inl, inr, refl, sym, ap, subst, ◌∙◌, arith}
use Rattle.kt_order.specs.Lists.{nth, AllOf}
use Rattle.kt_order.specs.Machine.{Machine}
use Rattle.kt_order.specs.Laws.{Laws}
use Rattle.kt_order.specs.Forest.{Phase, Unclaimed, Running, Ended, Finished, Place, Here, Down, Later, Task, Forest, Nil, Node, At}
use Rattle.kt_order.specs.Events as order
use Rattle.kt_order.specs.Events.{left_at, AllFinished}
use Rattle.kt_order.specs.Books.{Book, Piece, holds, holding, NoneEmpty, untaken, whole_book, cut, take}
use Rattle.kt_order.specs.Loops.{child, event_place, begin_events, take_events, index_events, phases, HasBook}
use Rattle.kt_order.proofs.Ats.{at_more, at_says}
use Rattle.kt_prog.specs.Laws.{BodiesKeep, LoopsAreDirect}
use Rattle.kt_prog.specs.Accepted.{IsAccepted}
use Rattle.kt_prog.specs.Reference.{Placed, machine_of}
use Rattle.kt_prog.specs.declared.programs.Program.{Program}
use Rattle.kt_runs.specs.Rights.{rights_in}
use Rattle.kt_runs.specs.States.{Core, IsRun, after_event, after_events, IsLawful}
use Rattle.kt_runs.specs.Loops.{CanBegin, LoopAt}
use Rattle.kt_runs.specs.CoreEvents.{CoreEvent, ClaimInOrder, ClaimReady, Body, Begin, Split, Take, IndexBody, Retire, Finish, with_book, Booked, is_loop_job, IsCall, IsLooping, MayGoOn, TaskAt, CanDo, after_core, empty_book}
use Rattle.kt_runs.proofs.Runs.{event_keeps}
use Rattle.kt_runs.proofs.Elsewhere.{place_or, both_at, calls_stay, holds_after}
use Rattle.kt_runs.proofs.LoopForks.{no_call_there}
use Rattle.kt_runs.proofs.LoopEvents.{begin_elsewhere, IsChild, take_places, index_places, loop_is_call, LoopThere, looping_there}
use Rattle.kt_runs.proofs.Begins.{loop_begins, takes, index_goes}
use Rattle.kt_runs.proofs.Booked.{differ, IsBooked}

-- with each index finished no piece is left
none_untaken : (m : Machine) (F : Forest m) (i : ℕ) → AllFinished m F → untaken (phases m F) i ≡ 0
none_untaken m Nil i all = refl
none_untaken m (Node u kids later) zero all = rw all.0 refl
none_untaken m (Node u kids later) (suc i) all = none_untaken m later i all.1

no_pieces : (pieces : List Piece) → NoneEmpty pieces → ((i : ℕ) → holding pieces i ≡ 0) → pieces ≡ []
no_pieces [] full none = refl
no_pieces (piece ∷ pieces) full none =
    let h = none piece.from in
    let less = full.0 in
    absurd (omega (arith, h, less))

phase_or : (ph : Phase) → (ph ≡ Ended) ⊎ (ph ≢ Ended)
phase_or Unclaimed = inr (λ e. cc)
phase_or Running = inr (λ e. cc)
phase_or Ended = inl refl
phase_or Finished = inr (λ e. cc)

module _ (p : Program) where
  abbrev Looping : Place → Core p → Type 0
  Looping q x = TaskAt p (IsLooping p) q x

  abbrev HoldsEmpty : Place → Book → Core p → Type 0
  HoldsEmpty r b x = (Looping r x → ⊥) → b ≡ empty_book

  looping_task : (u : Task (machine_of p)) → IsLooping p u ⊎ (IsLooping p u → ⊥)
  looping_task u = elim (phase_or u.phase) [
    | inr other ↦ inr (λ h. other h.1)
    | inl ended ↦ by_job (is_loop_job p u.call.job) refl ended
  ]
    where
      by_job : (b : Bool) → is_loop_job p u.call.job ≡ b → u.phase ≡ Ended → IsLooping p u ⊎ (IsLooping p u → ⊥)
      by_job true e ended = inl (e, ended)
      by_job false e ended = inr (λ h. cc (h.0, e))

  looping_or : (q : Place) (F : Forest (machine_of p)) → At (machine_of p) (λ u kids. IsLooping p u) q F ⊎ (At (machine_of p) (λ u kids. IsLooping p u) q F → ⊥)
  looping_or q Nil = inr (λ h. h)
  looping_or Here (Node u kids later) = looping_task u
  looping_or (Down q) (Node u kids later) = looping_or q kids
  looping_or (Later q) (Node u kids later) = looping_or q later

  -- the events elsewhere
  empty_else : (e : order.Event) (x : Core p) (r : Place) (b : Book) → event_place e ≢ r → HoldsEmpty r b x → HoldsEmpty r b (after_event p e x)
  empty_else e x r b ne holds none = holds (λ looping. none (holds_after (machine_of p) (IsLooping p) e x r ne looping))

  looping_run : (es : List order.Event) (x : Core p) (r : Place) → AllOf (λ e. event_place e ≢ r) es → Looping r x → Looping r (after_events p es x)
  looping_run [] x r all looping = looping
  looping_run (e ∷ es) x r all looping = looping_run es (after_event p e x) r all.1 (holds_after (machine_of p) (IsLooping p) e x r all.0 looping)

  loop_run : (es : List order.Event) (x : Core p) (q : Place) → LoopThere p q x → LoopThere p q (after_events p es x)
  loop_run [] x q loop = loop
  loop_run (e ∷ es) x q loop = loop_run es (after_event p e x) q (calls_stay (machine_of p) (λ (c : Placed). is_loop_job p c.job ≡ true) e x q loop)

  -- at a place where the loop was in another phase
  empty_phase : (ph : Phase) → ph ≢ Ended → (q : Place) (b : Book) (x y : Core p) → TaskAt p (λ u. u.phase ≡ ph) q x → HoldsEmpty q b x → HoldsEmpty q b y
  empty_phase ph ne q b x y at holds none =
      holds (λ looping. at_says (machine_of p) ⊥ q x.forest (at_more (machine_of p) (λ u kids. (u.phase ≡ ph) × IsLooping p u) (λ u kids. ⊥)
      (λ u kids h. ne (sym h.0 ∙ h.1.1)) q x.forest (both_at (machine_of p) (λ u kids. u.phase ≡ ph) (λ u kids. IsLooping p u) q x.forest at looping)))

  here_or : (q : Place) (x : Core p) (books : Place → Book) → HoldsEmpty q (books q) x → ((r : Place) → q ≢ r → HoldsEmpty r (books r) x)
      → (r : Place) → HoldsEmpty r (books r) x
  here_or q x books here there r = elim (place_or q r) [
    | inl same ↦ subst (λ s. HoldsEmpty s (books s) x) same here
    | inr ne ↦ there r ne
  ]

  -- the book of a looping loop is another
  changed : (x : Core p) (q : Place) (b : Book) (books : Place → Book) → Looping q x → ((r : Place) → q ≢ r → HoldsEmpty r (books r) x)
      → (r : Place) → HoldsEmpty r (with_book q b books r) x
  changed x q b books looping there r = elim (place_or q r) [
    | inl same ↦ λ none. absurd (none (subst (λ s. Looping s x) same looping))
    | inr ne ↦ subst (λ c. HoldsEmpty r c x) (sym (ap (λ t. cond t b (books r)) (differ q r ne))) (there r ne)
  ]

  -- a loop that finishes has no pieces left
  emptied : (q : Place) (b : Book) (x : Core p) → LoopAt p b q x → At (machine_of p) (λ u kids. (u.phase ≡ Ended) × AllFinished (machine_of p) kids) q x.forest
      → b.unretired ≡ 0 → b ≡ empty_book
  emptied q b x loop ended none =
      at_says (machine_of p) (b ≡ empty_book) q x.forest
      (at_more (machine_of p) (λ u kids. HasBook (machine_of p) (rights_in p) b u kids × ((u.phase ≡ Ended) × AllFinished (machine_of p) kids)) (λ u kids. b ≡ empty_book)
      (λ u kids h. bare_book (no_pieces b.pieces h.0.book.pieces (λ i. h.0.book.covers i ∙ none_untaken (machine_of p) kids i h.1.1))) q x.forest
      (both_at (machine_of p) (HasBook (machine_of p) (rights_in p) b) (λ u kids. (u.phase ≡ Ended) × AllFinished (machine_of p) kids) q x.forest loop ended))
    where
      bare_book : b.pieces ≡ [] → b ≡ empty_book
      bare_book e = λ i. record { pieces = e i; unretired = none i }

  module _ (input : List ℕ) (l : Laws (machine_of p) (rights_in p)) where
    -- a loop that is looping is so after an event of an index
    looping_children : (es : List order.Event) (x : Core p) (home : Place) → AllOf (IsChild home) es → IsLawful p input x → IsRun p es x
        → LoopThere p home x → (r : Place) → Looping r x → Looping r (after_events p es x)
    looping_children [] x home all lawful follows loop r looping = looping
    looping_children (e ∷ es) x home all lawful follows loop r looping =
        looping_children es (after_event p e x) home all.1 (event_keeps p input l e x follows.0 lawful) follows.1
        (calls_stay (machine_of p) (λ (c : Placed). is_loop_job p c.job ≡ true) e x home loop) r (elim (place_or (event_place e) r) [
          | inr ne ↦ holds_after (machine_of p) (IsLooping p) e x r ne looping
          | inl same ↦
              let call = at_more (machine_of p) (λ u kids. IsLooping p u) (λ u kids. IsCall p u) (λ u kids h. loop_is_call p u.call.job h.0) r x.forest looping in
              absurd (no_call_there p home all.0.0 x.forest lawful.shape loop (subst (λ q. TaskAt p (IsCall p) q x) (sym same ∙ all.0.1) call))
        ])

    empty_finish : (q : Place) (y : Booked p) → CanDo p (Finish q) y → IsBooked p input y → HoldsEmpty q (y.books q) y.core → y.books q ≡ empty_book
    empty_finish q y can h holds = elim (looping_or q y.core.forest) [
      | inl looping ↦ emptied q (y.books q) y.core (h.books q looping) can.1 (can.2 looping)
      | inr none ↦ holds none
    ]

    module _ (bodies : BodiesKeep) (direct : LoopsAreDirect) (ok : IsAccepted p) where
      pub empty_kept : (e : CoreEvent) (y : Booked p) → CanDo p e y → IsBooked p input y → ((r : Place) → HoldsEmpty r (y.books r) y.core)
          → (r : Place) → HoldsEmpty r ((after_core p e y).books r) (after_core p e y).core
      empty_kept (ClaimInOrder q) y can h empty =
          here_or q (order.enter (machine_of p) Running q y.core) y.books (empty_phase Unclaimed (λ e. cc) q (y.books q) y.core (order.enter (machine_of p) Running q y.core) can.1.0 (empty q))
          (λ r ne. empty_else (order.ClaimInOrder q) y.core r (y.books r) ne (empty r))
      empty_kept (ClaimReady q) y can h empty =
          here_or q (order.enter (machine_of p) Running q y.core) y.books (empty_phase Unclaimed (λ e. cc) q (y.books q) y.core (order.enter (machine_of p) Running q y.core) can.1.0 (empty q))
          (λ r ne. empty_else (order.ClaimReady q) y.core r (y.books r) ne (empty r))
      empty_kept (Finish q) y can h empty =
          here_or q (order.enter (machine_of p) Finished q y.core) y.books (λ none. empty_finish q y can h (empty q))
          (λ r ne. empty_else (order.Finish q) y.core r (y.books r) ne (empty r))
      empty_kept (Body q) y can h empty =
          let running = at_more (machine_of p) (λ u kids. MayGoOn p u) (λ u kids. u.phase ≡ Running) (λ u kids may. may.running) q y.core.forest can in
          here_or q (after_event p (order.Step q) y.core) y.books (empty_phase Running (λ e. cc) q (y.books q) y.core (after_event p (order.Step q) y.core) running (empty q))
          (λ r ne. empty_else (order.Step q) y.core r (y.books r) ne (empty r))
      empty_kept (Begin q path call) y can h empty =
          let es = begin_events q call.length in
          let goes = loop_begins p input l bodies direct ok y.core h.lawful q path call can in
          let loop = at_more (machine_of p) (λ u kids. CanBegin p path call u) (λ u kids. is_loop_job p u.call.job ≡ true) (λ u kids may. ap (λ (c : Placed). is_loop_job p c.job) may.placed ∙ may.loop) q y.core.forest can in
          let looping = at_more (machine_of p) (λ u kids. HasBook (machine_of p) (rights_in p) (whole_book call.length) u kids × (is_loop_job p u.call.job ≡ true)) (λ u kids. IsLooping p u) (λ u kids g. (g.1, g.0.begun)) q (after_events p es y.core).forest
          (both_at (machine_of p) (HasBook (machine_of p) (rights_in p) (whole_book call.length)) (λ u kids. is_loop_job p u.call.job ≡ true) q (after_events p es y.core).forest goes.2 (loop_run es y.core q loop)) in
          changed (after_events p es y.core) q (whole_book call.length) y.books looping
          (λ r ne none. empty r (λ was. none (looping_run es y.core r (begin_elsewhere q r ne call.length) was)))
      empty_kept (Split q at) y can h empty =
          changed y.core q (record { pieces = cut at (y.books q).pieces; unretired = (y.books q).unretired }) y.books can.0 (λ r ne. empty r)
      empty_kept (Take q at n) y can h empty =
          let es = take_events q at n in
          let goes = takes p input l y.core h.lawful q (y.books q) at n (h.books q can.0) can.2 in
          let stays = looping_children es y.core q (take_places q at n) h.lawful goes.0 (looping_there p q y.core can.0) in
          changed (after_events p es y.core) q (record { pieces = take at n (y.books q).pieces; unretired = (y.books q).unretired }) y.books (stays q can.0)
          (λ r ne none. empty r (λ was. none (stays r was)))
      empty_kept (IndexBody q i) y can h empty = λ r none.
          let w = left_at (machine_of p) (child q i) y.core.forest in
          let there = both_at (machine_of p) (λ u kids. HasBook (machine_of p) (rights_in p) (y.books q) u kids) (λ u kids. nth (phases (machine_of p) kids) i ≡ Some Running) q y.core.forest (h.books q can.0) can.1 in
          let goes = index_goes p input l y.core h.lawful q (y.books q) i there in
          empty r (λ was. none (looping_children (index_events (machine_of p) w q i) y.core q (index_places (machine_of p) w q i) h.lawful goes.0 (looping_there p q y.core can.0) r was))
      empty_kept (Retire q n) y can h empty =
          changed y.core q (record { pieces = (y.books q).pieces; unretired = (y.books q).unretired - n }) y.books can.0 (λ r ne. empty r)
