-- While main is not finished some event of a lawful core can be done.
use Rattle.std.proofs.Common.{◌≡◌, ℕ, zero, suc, Bool, true, false, List, [], ◌∷◌, Some, None, ◌⊎◌, inl, inr, refl, sym, ap, subst, ◌∙◌, arith}
use Rattle.kt_order.specs.Lists.{AllOf}
use Rattle.kt_order.specs.Body.{Stop, Do, Fork}
use Rattle.kt_order.specs.Machine.{Code}
use Rattle.kt_order.specs.Trace.{hearing}
use Rattle.kt_order.specs.Stand.{Standing, stand}
use Rattle.kt_order.specs.Forest.{Phase, Unclaimed, Running, Ended, Finished, Place, Here, Down, Later, Task, Forest, Nil, Node, AllTasks, At, calls}
use Rattle.kt_order.specs.Rest.{left, left_of}
use Rattle.kt_order.specs.Events.{IsFinished, AllFinished, MayPass}
use Rattle.kt_order.specs.Lawful.{PhaseOk, TaskOk, Shape}
use Rattle.kt_order.specs.Books.{Book}
use Rattle.kt_order.specs.Loops.{forks_then, HasBook}
use Rattle.kt_order.proofs.Ats.{frame_all}
use Rattle.kt_order.proofs.Stands.{stand_none, some_is, fork_some}
use Rattle.kt_order.proofs.LoopBooks.{loop_goes, loop_finishes}
use Rattle.kt_prog.specs.Calls.{CallTree, Job, Whole, Index, index_of}
use Rattle.kt_prog.specs.Laws.{BodiesKeep}
use Rattle.kt_prog.specs.Script.{Step, ◌>>=◌, give, fork}
use Rattle.kt_prog.specs.Bodies.{script_with, script_of, indexes, call_body}
use Rattle.kt_prog.specs.Operations.{is_loop_at}
use Rattle.kt_prog.specs.Accepted.{IsAccepted}
use Rattle.kt_prog.specs.Fits.{FitsJob}
use Rattle.kt_prog.specs.Reference.{Placed, placed, machine_of}
use Rattle.kt_prog.specs.declared.programs.Program.{Program}
use Rattle.kt_runs.specs.Rights.{rights_in}
use Rattle.kt_runs.specs.States.{IsDone}
use Rattle.kt_runs.specs.Loops.{index_calls}
use Rattle.kt_runs.specs.CoreEvents.{CoreEvent, ClaimInOrder, ClaimReady, Body, Begin, Split, Take, IndexBody, Retire, Finish, Booked, is_loop_job, IsCall, IsLooping, IsAct, IsRunningLoop, CanDo, IsLawfulCore}
use Rattle.kt_runs.proofs.Zeroes.{behind_zeroing}
use Rattle.kt_runs.proofs.Indexes.{loop_does}
use Rattle.kt_runs.proofs.Forked.{Each, stand_each, no_length, IsCallOf, calls_only}

module _ (p : Program) where
  -- a loop's body is its zeroing, and then so
  abbrev ZeroThen : Code (machine_of p) → Code (machine_of p) → Type 0
  ZeroThen t (Stop f) = Stop f ≡ t
  ZeroThen t (Do q k) = (a : ℕ) → ZeroThen t (k a)
  ZeroThen t (Fork c w) = Fork c w ≡ t

  -- where nothing is forked and it is not over, it is at an act or at what follows the zeroing
  pub stand_zeroing : (t w : Code (machine_of p)) (answers : List ℕ) (n : ℕ) (st : Standing (machine_of p)) → stand (machine_of p) w answers n ≡ Some st
      → ZeroThen t w → st.forks ≡ [] → st.over ≡ false → IsAct p st.left ⊎ (st.left ≡ t)
  stand_zeroing t w answers zero st e zeroing none over =
      subst (λ (s : Standing (machine_of p)). IsAct p s.left ⊎ (s.left ≡ t)) (sym (stand_none (machine_of p) w answers st e).1) (first w zeroing)
    where
      first : (w : Code (machine_of p)) → ZeroThen t w → IsAct p w ⊎ (w ≡ t)
      first (Stop f) z = inr z
      first (Do q k) z = inl tt
      first (Fork c w) z = inr z
  stand_zeroing t (Stop f) [] (suc zero) st e zeroing none over =
      absurd (cc (ap (λ (s : Standing (machine_of p)). s.over) (some_is (machine_of p) (record { left = Stop f; forks = []; over = true }) st e), over))
  stand_zeroing t (Stop f) [] (suc (suc n)) st e zeroing none over = absurd (cc e)
  stand_zeroing t (Stop f) (a ∷ more) (suc n) st e zeroing none over = absurd (cc e)
  stand_zeroing t (Do q k) answers (suc n) st e zeroing none over = heard ((machine_of p).asks q) answers e (λ a more h. stand_zeroing t (k a) more n st h (zeroing a) none over)
    where
      heard : (asks : Bool) (answers : List ℕ) → hearing (machine_of p) asks None (λ a more. stand (machine_of p) (k a) more n) answers ≡ Some st
          → ((a : ℕ) (more : List ℕ) → stand (machine_of p) (k a) more n ≡ Some st → IsAct p st.left ⊎ (st.left ≡ t)) → IsAct p st.left ⊎ (st.left ≡ t)
      heard true [] h f = absurd (cc h)
      heard true (a ∷ more) h f = f a more h
      heard false answers h f = f 0 answers h
  stand_zeroing t (Fork c w) answers (suc n) st e zeroing none over =
      let s = fork_some (machine_of p) c (stand (machine_of p) w answers n) st e in
      absurd (some_forked s.0.forks (sym (ap (λ (x : Standing (machine_of p)). x.forks) s.2) ∙ none))
    where
      some_forked : (fs : List Placed) → c ∷ fs ≡ [] → ⊥
      some_forked fs h = cc

  -- which are its indexes
  pub indexes_are : (c : CallTree) (path : List ℕ) (k i n : ℕ) → placed path k (indexes c i n (λ _. Stop None)) ≡ forks_then (machine_of p) (index_calls path c i n) None
  unfolding ◌>>=◌ fork give
  indexes_are c path k i zero = refl
  indexes_are c path k i (suc n) = ap (λ w. Fork (record { path = path; job = Index c i }) w) (indexes_are c path (suc k) (suc i) n)

  self_zeroing : (cs : List Placed) → ZeroThen (forks_then (machine_of p) cs None) (forks_then (machine_of p) cs None)
  self_zeroing [] = refl
  self_zeroing (c ∷ cs) = refl

  pub loop_zeroing : (c : CallTree) (path : List ℕ) → is_loop_at p c.task ≡ true
      → ZeroThen (forks_then (machine_of p) (index_calls path c 0 c.length) None) (placed path 1 (script_of p (Whole c)))
  unfolding script_with
  loop_zeroing c path loop =
      let t = forks_then (machine_of p) (index_calls path c 0 c.length) None in
      behind_zeroing p (λ w. ZeroThen t (placed path 1 w)) (λ q next h. h) c.accesses (call_body (λ w. w) p c c.task)
      (subst (λ (s : Step (Unit {0})). ZeroThen t (placed path 1 (s (λ _. Stop None)))) (sym (loop_does p c c.task loop))
      (subst (ZeroThen t) (sym (indexes_are c path 1 0 c.length)) (self_zeroing (index_calls path c 0 c.length))))

  abbrev On : Forest (machine_of p) → List ℕ → (Place → Book) → Booked p
  On F s books = record { core = record { forest = F; store = s }; books = books }

  abbrev Some-event : Forest (machine_of p) → List ℕ → (Place → Book) → Type 0
  Some-event F s books = (e : CoreEvent) × CanDo p e (On F s books)

  -- an event of the children
  go_down : (u : Task (machine_of p)) (kids later : Forest (machine_of p)) (s : List ℕ) (books : Place → Book)
      → Some-event kids s (λ q. books (Down q)) → Some-event (Node u kids later) s books
  go_down u kids later s books (ClaimInOrder q, can) = (ClaimInOrder (Down q), can)
  go_down u kids later s books (ClaimReady q, can) = (ClaimReady (Down q), can)
  go_down u kids later s books (Body q, can) = (Body (Down q), can)
  go_down u kids later s books (Begin q path call, can) = (Begin (Down q) path call, can)
  go_down u kids later s books (Split q at, can) = (Split (Down q) at, can)
  go_down u kids later s books (Take q at n, can) = (Take (Down q) at n, can)
  go_down u kids later s books (IndexBody q i, can) = (IndexBody (Down q) i, can)
  go_down u kids later s books (Retire q n, can) = (Retire (Down q) n, can)
  go_down u kids later s books (Finish q, can) = (Finish (Down q), can)

  -- an event of the later tasks of the frame
  go_on : (u : Task (machine_of p)) (kids later : Forest (machine_of p)) (s : List ℕ) (books : Place → Book) → IsFinished (machine_of p) u
      → Some-event later s (λ q. books (Later q)) → Some-event (Node u kids later) s books
  go_on u kids later s books fin (ClaimInOrder q, can) = (ClaimInOrder (Later q), (can.0, (can.1.0, (frame_all (machine_of p) (λ v. IsFinished (machine_of p) u) (λ v. fin) q later, can.1.1))))
  go_on u kids later s books fin (ClaimReady q, can) = (ClaimReady (Later q), (can.0, (can.1.0, (frame_all (machine_of p) (MayPass (machine_of p) (rights_in p) u) (λ v. inl fin) q later, can.1.1))))
  go_on u kids later s books fin (Body q, can) = (Body (Later q), can)
  go_on u kids later s books fin (Begin q path call, can) = (Begin (Later q) path call, can)
  go_on u kids later s books fin (Split q at, can) = (Split (Later q) at, can)
  go_on u kids later s books fin (Take q at n, can) = (Take (Later q) at n, can)
  go_on u kids later s books fin (IndexBody q i, can) = (IndexBody (Later q) i, can)
  go_on u kids later s books fin (Retire q n, can) = (Retire (Later q) n, can)
  go_on u kids later s books fin (Finish q, can) = (Finish (Later q), can)

  -- what a frame owes
  record FrameOk (F : Forest (machine_of p)) (books : Place → Book) : Type 0 where
    shape : Shape (machine_of p) (rights_in p) F
    calls : AllTasks (machine_of p) (IsCall p) F
    has_books : (q : Place) → At (machine_of p) (λ u kids. IsLooping p u) q F → At (machine_of p) (HasBook (machine_of p) (rights_in p) (books q)) q F
    bare : (q : Place) → At (machine_of p) (λ u kids. IsRunningLoop p u) q F → At (machine_of p) (λ u kids. kids ≡ Nil) q F

  abbrev Goes : Forest (machine_of p) → List ℕ → (Place → Book) → Type 0
  Goes F s books = AllFinished (machine_of p) F ⊎ Some-event F s books

  all_calls : (F : Forest (machine_of p)) → AllOf (IsCallOf p) (calls (machine_of p) F) → AllTasks (machine_of p) (IsCall p) F
  all_calls Nil h = tt
  all_calls (Node u kids later) h = (h.0, all_calls later h.1)

  module _ (bodies : BodiesKeep) (ok : IsAccepted p) where
    -- the children of a task that is no loop are calls
    children_are_calls : (u : Task (machine_of p)) (kids : Forest (machine_of p)) → TaskOk (machine_of p) (rights_in p) u kids → (job : Job) → u.call.job ≡ job
        → is_loop_job p job ≡ false → index_of job ≡ None → AllTasks (machine_of p) (IsCall p) kids
    children_are_calls u kids o (Index c i) is other call = absurd (cc call)
    children_are_calls u kids o (Whole c) is other call =
        let fits : FitsJob p (Whole c) = subst (FitsJob p) is o.fits in
        let each : Each p (IsCallOf p) (placed u.call.path 1 (script_of p (Whole c))) = calls_only p c (no_length p c fits other) u.call.path 1 (script_of p (Whole c)) (bodies (λ w. w) p ok (Whole c) fits) in
        all_calls kids (subst (AllOf (IsCallOf p)) (sym o.forked)
        (stand_each p (IsCallOf p) ((machine_of p).tree u.call) u.answers u.done o.st o.stands
        (subst (λ (j : Job). Each p (IsCallOf p) (placed u.call.path 1 (script_of p j))) (sym is) each)))

    module _ (u : Task (machine_of p)) (kids later : Forest (machine_of p)) (s : List ℕ) (books : Place → Book) (h : FrameOk (Node u kids later) books)
        (below : FrameOk kids (λ q. books (Down q)) → Goes kids s (λ q. books (Down q)))
        (after : FrameOk later (λ q. books (Later q)) → Goes later s (λ q. books (Later q))) where
      later_ok : FrameOk later (λ q. books (Later q))
      later_ok = record { shape = h.shape.3; calls = h.calls.1; has_books = λ q. h.has_books (Later q); bare = λ q. h.bare (Later q) }

      finished : u.phase ≡ Finished → Goes (Node u kids later) s books
      finished e = elim (after later_ok) [
        | inl all ↦ inl (e, all)
        | inr some ↦ inr (go_on u kids later s books e some)
      ]

      claims : u.phase ≡ Unclaimed → Goes (Node u kids later) s books
      claims e = inr (ClaimInOrder Here, (h.calls.0, (e, tt)))

      -- a loop
      module _ (loop : is_loop_job p u.call.job ≡ true) where
        zeroes : IsAct p (left (machine_of p) u) → u.phase ≡ Running → Goes (Node u kids later) s books
        zeroes act e = inr (Body Here, record { call = h.calls.0; running = e; zeroing = λ _. act })

        begins : (job : Job) → u.call.job ≡ job → u.phase ≡ Running → Goes (Node u kids later) s books
        begins (Index c i) is e = absurd (cc (loop, ap (is_loop_job p) is))
        begins (Whole c) is e =
            let o = h.shape.0 in
            let t = forks_then (machine_of p) (index_calls u.call.path c 0 c.length) None in
            let looped : is_loop_at p c.task ≡ true = sym (ap (is_loop_job p) is) ∙ loop in
            let zeroing : ZeroThen t ((machine_of p).tree u.call) = subst (λ (j : Job). ZeroThen t (placed u.call.path 1 (script_of p j))) (sym is) (loop_zeroing c u.call.path looped) in
            let none : o.st.forks ≡ [] = sym o.forked ∙ ap (calls (machine_of p)) (h.bare Here (loop, e)) in
            let over : o.st.over ≡ false = subst (λ ph. PhaseOk (machine_of p) ph u o.st kids) e o.phase in
            let same : left (machine_of p) u ≡ o.st.left = left_of_ok o in
            elim (stand_zeroing t ((machine_of p).tree u.call) u.answers u.done o.st o.stands zeroing none over) [
              | inl act ↦ zeroes (subst (IsAct p) (sym same) act) e
              | inr is_t ↦ inr (
                Begin Here u.call.path c,
                record {
                  running = e;
                  placed = ap (λ (j : Job). record { path = u.call.path; job = j }) is;
                  loop = looped;
                  zeroed = same ∙ is_t;
                },
              )
            ]
          where
            left_of_ok : (o : TaskOk (machine_of p) (rights_in p) u kids) → left (machine_of p) u ≡ o.st.left
            left_of_ok o = ap (left_of (machine_of p)) o.stands

        loops : u.phase ≡ Ended → Goes (Node u kids later) s books
        loops e =
            let x = (On (Node u kids later) s books).core in
            let looping : IsLooping p u = (loop, e) in
            let book = h.has_books Here looping in
            elim (loop_goes (machine_of p) (rights_in p) x Here (books Here) book) [
              | inl take ↦ inr (Take Here take.0 1, (looping, omega arith, take.1))
              | inr (inl i) ↦ inr (IndexBody Here i.0, (looping, i.1))
              | inr (inr (inl can)) ↦ inr (Retire Here 1, (looping, omega arith, can))
              | inr (inr (inr none)) ↦ inr (Finish Here, (h.calls.0, loop_finishes (machine_of p) (rights_in p) x Here (books Here) book none, λ _. none))
            ]

        loop_goes_on : (ph : Phase) → u.phase ≡ ph → Goes (Node u kids later) s books
        loop_goes_on Unclaimed e = claims e
        loop_goes_on Running e = begins u.call.job refl e
        loop_goes_on Ended e = loops e
        loop_goes_on Finished e = finished e

      -- any other task
      module _ (other : is_loop_job p u.call.job ≡ false) where
        kids_ok : FrameOk kids (λ q. books (Down q))
        kids_ok = record {
          shape = h.shape.2;
          calls = children_are_calls u kids h.shape.0 u.call.job refl other h.calls.0;
          has_books = λ q. h.has_books (Down q);
          bare = λ q. h.bare (Down q);
        }

        task_goes_on : (ph : Phase) → u.phase ≡ ph → Goes (Node u kids later) s books
        task_goes_on Unclaimed e = claims e
        task_goes_on Running e = inr (Body Here, record { call = h.calls.0; running = e; zeroing = λ loop. absurd (cc (loop, other)) })
        task_goes_on Ended e = elim (below kids_ok) [
          | inl all ↦ inr (Finish Here, (h.calls.0, (e, all), λ looping. absurd (cc (looping.0, other))))
          | inr some ↦ inr (go_down u kids later s books some)
        ]
        task_goes_on Finished e = finished e

      node_goes : (b : Bool) → is_loop_job p u.call.job ≡ b → Goes (Node u kids later) s books
      node_goes true loop = loop_goes_on loop u.phase refl
      node_goes false other = task_goes_on other u.phase refl

    some_in : (F : Forest (machine_of p)) (s : List ℕ) (books : Place → Book) → FrameOk F books → Goes F s books
    some_in Nil s books h = inl tt
    some_in (Node u kids later) s books h =
        node_goes u kids later s books h (some_in kids s (λ q. books (Down q))) (some_in later s (λ q. books (Later q))) (is_loop_job p u.call.job) refl

    pub some_event : (input : List ℕ) (y : Booked p) → IsLawfulCore p input y → IsDone p y.core ⊎ (e : CoreEvent) × CanDo p e y
    some_event input y h = some_in y.core.forest y.core.store y.books (record {
      shape = h.lawful.shape;
      calls = all_calls y.core.forest (subst (AllOf (IsCallOf p)) (sym h.lawful.alone) (refl, tt));
      has_books = h.books;
      bare = h.bare;
    })
