-- An event that nothing refuses is the event of the core at the place of its task, in the core that the table shows.
use Rattle.std.proofs.Common.{◌≡◌, ◌≢◌, ◌≤◌, ◌+◌, ◌-◌, ℕ, zero, suc, Bool, true, false, cond, List, [], ◌∷◌, ◌++◌, length, map, Option, Some, None, ◌⊎◌, inl, inr, ◌||◌, refl, sym, ap, subst, ◌∙◌, arith, slice_get, slice_set}
use Rattle.kt_law.specs.declared.limits.TheConstants.{DEPTH}
use Rattle.kt_order.specs.Lists.{nth}
use Rattle.kt_order.specs.Body.{Stop, Do, Fork}
use Rattle.kt_order.specs.Books.{Book, CanTake, cut, take, whole_book, done_in}
use Rattle.kt_order.specs.Machine.{Machine, Code}
use Rattle.kt_order.specs.Laws.{Laws}
use Rattle.kt_order.specs.Forest as order
use Rattle.kt_order.specs.Forest.{Place, Here, Down, Later, Task, Forest, At}
use Rattle.kt_order.specs.Rest.{left}
use Rattle.kt_order.specs.Events.{MayPass, IsFinished, AllFinished}
use Rattle.kt_order.specs.Loops.{HasBook, phases}
use Rattle.kt_order.specs.Paths.{skip, place_below, place_of, Known, children_at}
use Rattle.kt_order.specs.Named.{count_of}
use Rattle.kt_order.proofs.Ats.{at_more, at_says, at_both}
use Rattle.kt_order.proofs.LoopBooks.{loop_finishes}
use Rattle.kt_order.proofs.PathsAt.{tree_at, tree_before}
use Rattle.kt_prog.specs.Laws.{BodiesKeep, LoopsAreDirect}
use Rattle.kt_prog.specs.Operations.{is_loop_at}
use Rattle.kt_prog.specs.Accepted.{IsAccepted}
use Rattle.kt_prog.specs.Reference.{machine_of}
use Rattle.kt_prog.specs.declared.programs.Program.{Program}
use Rattle.kt_prog.specs.declared.runs.Operation.{Operation}
use Rattle.kt_prog.specs.declared.runs.Operation.TheVariants as O
use Rattle.kt_runs.specs.Bodies.{IsFirst}
use Rattle.kt_runs.specs.Rights.{rights_in}
use Rattle.kt_runs.specs.States.{Core}
use Rattle.kt_runs.specs.CoreEvents.{same_place, with_book, HasInside, Booked, is_loop_job, IsCall, IsLooping, IsAct, MayGoOn, TaskAt, CanDo, books_of, after_core}
use Rattle.kt_runs.proofs.Booked.{same_self, differ}
use Rattle.kt_runs.proofs.LoopActs.{IsActOf, loop_next_is_act}
use Rattle.kt_tables.specs.LoopRows.{row_begun, row_split, row_taken, row_indexed, row_retired}
use Rattle.kt_tables.specs.Tables.{TaskRow, TaskTable, is_finished, open_before, clash_before}
use Rattle.kt_tables.specs.TableEnabled.{CanHappen}
use Rattle.kt_tables.specs.TableEvents.{task_of, IsDue, Suits, CanAsk, is_looping, refusal_of, refusal_at, refusal, in_phase, row_after, added_by, after_of, after_at, table_after}
use Rattle.kt_tables.specs.TableLaws.{phase_of, index_phases, book_of, has_begun, as_task, tasks_by_path, shown, IsLawfulTable}
use Rattle.kt_tables.specs.TableTheory.{core_event, ShowsBooked}
use Rattle.kt_tables.specs.declared.events.Event.{Event}
use Rattle.kt_tables.specs.declared.events.Event.TheVariants as E
use Rattle.kt_tables.specs.declared.events.Phase.{Phase}
use Rattle.kt_tables.specs.declared.events.Phase.TheVariants as P
use Rattle.kt_tables.proofs.TableRows.{the_some, got_set, mapped_is}
use Rattle.kt_tables.proofs.TablePaths.{get_row}
use Rattle.kt_tables.proofs.TableClaims.{all_before, when_ready, all_children}
use Rattle.kt_tables.proofs.TableTests.{happens, none_open, none_clashes, none_open_child}
use Rattle.kt_tables.proofs.TableSteps as steps
use Rattle.kt_tables.proofs.LoopKept as kept
use Rattle.kt_tables.proofs.LoopSteps as loops
use Rattle.kt_tables.proofs.TableKept.{follows, first_of_body}

-- two paths have two places
skipped : (k : ℕ) (q r : Place) → skip k q ≡ skip k r → q ≡ r
skipped zero q r e = e
skipped (suc k) q r e = skipped k q r (later e)
  where
    later : {a b : Place} → Later a ≡ Later b → a ≡ b
    later e = cc

places_below : (k j : ℕ) (q r : List ℕ) → place_below k q ≡ place_below j r → k ∷ q ≡ j ∷ r
places_below zero zero [] [] e = refl
places_below zero zero [] (i ∷ r) e = cc
places_below zero zero (i ∷ q) [] e = cc
places_below zero zero (i ∷ q) (h ∷ r) e = ap (λ (p : List ℕ). 0 ∷ p) (places_below i h q r (down e))
  where
    down : {a b : Place} → Down a ≡ Down b → a ≡ b
    down e = cc
places_below zero (suc j) [] [] e = cc
places_below zero (suc j) [] (i ∷ r) e = cc
places_below zero (suc j) (i ∷ q) [] e = cc
places_below zero (suc j) (i ∷ q) (h ∷ r) e = cc
places_below (suc k) zero [] [] e = cc
places_below (suc k) zero [] (i ∷ r) e = cc
places_below (suc k) zero (i ∷ q) [] e = cc
places_below (suc k) zero (i ∷ q) (h ∷ r) e = cc
places_below (suc k) (suc j) q r e = raised (places_below k j q r (fewer q r e))
  where
    later : {a b : Place} → Later a ≡ Later b → a ≡ b
    later e = cc

    fewer : (q r : List ℕ) → place_below (suc k) q ≡ place_below (suc j) r → place_below k q ≡ place_below j r
    fewer [] [] e = later e
    fewer [] (i ∷ r) e = later e
    fewer (i ∷ q) [] e = later e
    fewer (i ∷ q) (h ∷ r) e = later e

    first : {a b : ℕ} {xs ys : List ℕ} → a ∷ xs ≡ b ∷ ys → a ≡ b
    first e = cc

    rest : {a b : ℕ} {xs ys : List ℕ} → a ∷ xs ≡ b ∷ ys → xs ≡ ys
    rest e = cc

    raised : k ∷ q ≡ j ∷ r → suc k ∷ q ≡ suc j ∷ r
    raised same = ap (λ (n : ℕ). suc n ∷ q) (first same) ∙ ap (λ (p : List ℕ). suc j ∷ p) (rest same)

pub place_is : (q r : List ℕ) → place_of q ≡ place_of r → q ≡ r
place_is [] [] e = refl
place_is [] (j ∷ r) e = cc
place_is (k ∷ q) [] e = cc
place_is (k ∷ q) (j ∷ r) e = places_below k j q r (down e)
  where
    down : {a b : Place} → Down a ≡ Down b → a ≡ b
    down e = cc

module _ (p : Program) (input : List ℕ) (l : Laws (machine_of p) (rights_in p)) (bodies : BodiesKeep) (direct : LoopsAreDirect) (ok : IsAccepted p)
    (x : TaskTable) (h : IsLawfulTable p input x) where
  abbrev M : Machine
  M = machine_of p

  abbrev Get : Known M
  Get = tasks_by_path p x.tasks

  -- the book of each loop that has begun stands at its place
  abbrev HasBooks : List TaskRow → (Place → Book) → Type 0
  HasBooks tasks books =
      (t : ℕ) (r : TaskRow) (q : List ℕ) → slice_get tasks t ≡ Some r → r.path ≡ map suc q → has_begun p r ≡ true → books (place_of q) ≡ book_of r

  module _ (t : ℕ) (r : TaskRow) (at : slice_get x.tasks t ≡ Some r) where
    abbrev Q : List ℕ
    Q = (h.rows.there t r at).0

    q_is : r.path ≡ map suc Q
    q_is = (h.rows.there t r at).1

    here : Get Q ≡ as_task p r
    here = get_row p input l x h.rows t r at Q q_is

    -- what holds of the row's task and of its children holds at the place
    at_place : (P : Task M → Forest M → Type 0) → P (as_task p r) (children_at M (suc DEPTH) Q Get (count_of M Get)) → At M P (place_of Q) (shown p x).forest
    at_place P k = tree_at M P (suc DEPTH) Get (count_of M Get) Q (h.rows.there t r at).2 (subst (λ (u : Task M). P u (children_at M (suc DEPTH) Q Get (count_of M Get))) (sym here) k)

    task_there : (P : Task M → Type 0) → P (as_task p r) → TaskAt p P (place_of Q) (shown p x)
    task_there P k = at_place (λ u kids. P u) k

    looped : r.phase ≡ P.Looping → is_loop_at p r.call.task ≡ true
    looped e = (h.rows.loops t r at).looping e

    loops_there : r.phase ≡ P.Looping → TaskAt p (IsLooping p) (place_of Q) (shown p x)
    loops_there e = task_there (IsLooping p) (looped e, ap phase_of e)

    begun : r.phase ≡ P.Looping → has_begun p r ≡ true
    begun e = kept.is_begun p input l bodies direct ok x h.rows t r at (looped e) e

    own_book : (books : Place → Book) → HasBooks x.tasks books → r.phase ≡ P.Looping → books (place_of Q) ≡ book_of r
    own_book books has e = has t r Q at q_is (begun e)

    -- the next operation of a loop's call is an act
    zeroing : r.phase ≡ P.Running → (operation : Operation) → IsDue p operation r x → is_loop_at p r.call.task ≡ true → IsAct p (left M (as_task p r))
    zeroing running operation due loop =
        act operation (left M (as_task p r)) (loop_next_is_act p r.call loop r.answers r.done operation due.next) (first_of_body p input l bodies direct ok x h t r at operation due running)
      where
        act : (operation : Operation) (w : Code M) → IsActOf operation → IsFirst p operation w → IsAct p w
        act operation (Do q k) a f = tt
        act (O.Load object element v) (Stop f) a none = none
        act (O.Store object element v) (Stop f) a none = none
        act (O.Fold object element g v) (Stop f) a none = none
        act (O.Fork call) (Stop f) a none = a
        act O.End (Stop f) a none = a
        act (O.Fault law line) (Stop f) a none = a
        act (O.Load object element v) (Fork c w) a none = none
        act (O.Store object element v) (Fork c w) a none = none
        act (O.Fold object element g v) (Fork c w) a none = none
        act (O.Fork call) (Fork c w) a none = a
        act O.End (Fork c w) a none = a
        act (O.Fault law line) (Fork c w) a none = a

    module _ (books : Place → Book) (has : HasBooks x.tasks books) where
      abbrev Y : Booked p
      Y = record { core = shown p x; books = books }

      can_finish : CanHappen (E.Finish t) r x.tasks → refusal_of (E.Finish t) r x.tasks ≡ None → CanDo p (core_event (E.Finish t) r (place_of Q)) Y
      can_finish can none = elim can.0 [
        | inl over ↦
            (let plain = plain_end over in
            let open_row = steps.not_begun p input l x h t r at r (ap (λ (ph : Phase). is_looping ph || is_finished ph) over) in (
              task_there (IsCall p) refl,
              at_place (λ u kids. (u.phase ≡ order.Ended) × AllFinished M kids) (ap phase_of over, all_children p input l x h t r at Q q_is (h.rows.there t r at).2 open_row (none_open_child r x.tasks t none)),
              λ looping. absurd (no_loop plain looping),
            ))
        | inr looping ↦ (
          task_there (IsCall p) refl,
          loop_finishes M (rights_in p) (shown p x) (place_of Q) (book_of r) (kept.has p input l bodies direct ok x h.rows t r at (looped looping) looping) can.2,
          λ _. ap (λ (b : Book). b.unretired) (own_book books has looping) ∙ can.2,
        )
      ]
        where
          plain_end : r.phase ≡ P.Ended → is_loop_at p r.call.task ≡ false
          plain_end e = by (is_loop_at p r.call.task) refl
            where
              by : (b : Bool) → is_loop_at p r.call.task ≡ b → b ≡ false
              by true loop = absurd ((h.rows.loops t r at).never_ended loop e)
              by false loop = refl

          no_loop : is_loop_at p r.call.task ≡ false → TaskAt p (IsLooping p) (place_of Q) (shown p x) → ⊥
          no_loop plain looping =
              at_says M ⊥ (place_of Q) (shown p x).forest
              (at_more M (λ u kids. IsLooping p u × (u ≡ as_task p r)) (λ u kids. ⊥) (λ u kids k. absurd (cc (plain, sym (ap (λ (v : Task M). is_loop_job p v.call.job) k.1) ∙ k.0.0))) (place_of Q) (shown p x).forest
              (at_both M (λ u kids. IsLooping p u) (λ u kids. u ≡ as_task p r) (place_of Q) (shown p x).forest looping (task_there (λ u. u ≡ as_task p r) refl)))

      can_do : (e : Event) → task_of e ≡ t → Suits p e r x → refusal_of e r x.tasks ≡ None → CanDo p (core_event e r (place_of Q)) Y
      can_do (E.ClaimInOrder u) same suits none =
          let can = happens r x.tasks (E.ClaimInOrder u) none in
          let open_none = subst (λ (n : ℕ). open_before n r x.tasks ≡ None) same (none_open r x.tasks u none) in (
            task_there (IsCall p) refl,
            (
              task_there (λ v. v.phase ≡ order.Unclaimed) (ap phase_of can.0),
              tree_before M (λ a b. IsFinished M a) (suc DEPTH) Get (count_of M Get) Q (h.rows.there t r at).2 (all_before p input l x h t r at Q q_is (h.rows.there t r at).2 open_none),
            ),
          )
      can_do (E.ClaimReady u) same suits none =
          let can = happens r x.tasks (E.ClaimReady u) none in
          let none_in_way = subst (λ (n : ℕ). clash_before n r x.tasks ≡ None) same (none_clashes r x.tasks u none) in (
            task_there (IsCall p) refl,
            (
              task_there (λ v. v.phase ≡ order.Unclaimed) (ap phase_of can.0),
              tree_before M (MayPass M (rights_in p)) (suc DEPTH) Get (count_of M Get) Q (h.rows.there t r at).2 (when_ready p input l x h t r at Q q_is (h.rows.there t r at).2 none_in_way),
            ),
          )
      can_do (E.Body u operation) same suits none =
          let running = happens r x.tasks (E.Body u operation) none in
          task_there (MayGoOn p) (record { call = refl; running = ap phase_of running; zeroing = λ loop. zeroing running operation (suits running) loop })
      can_do (E.Begin u) same suits none =
          let running = happens r x.tasks (E.Begin u) none in
          kept.can p input l bodies direct ok x h.rows t r at suits.0 running (loops.zeroed_now p input l bodies direct ok x h t r at suits.0 running (suits.1 running))
      can_do (E.Split u n) same suits none =
          let can = happens r x.tasks (E.Split u n) none in
          (loops_there can.0, subst (λ (b : Book). HasInside n b.pieces) (sym (own_book books has can.0)) can.1)
      can_do (E.Take u n k) same suits none =
          let can = happens r x.tasks (E.Take u n k) none in
          (loops_there can.0, can.1, subst (λ (b : Book). CanTake n k b.pieces) (sym (own_book books has can.0)) can.2)
      can_do (E.Index u i operation) same suits none =
          let can = happens r x.tasks (E.Index u i operation) none in (
            loops_there can.0,
            at_more M (λ a kids. HasBook M (rights_in p) (book_of r) a kids × (nth (phases M kids) i ≡ Some order.Running)) (λ a kids. nth (phases M kids) i ≡ Some order.Running) (λ a kids k. k.1) (place_of Q) (shown p x).forest
                (kept.under p input l bodies direct ok x h.rows t r at (looped can.0) can.0 i can.1.0 can.1.1 can.1.2),
          )
      can_do (E.Retire u n) same suits none =
          let can = happens r x.tasks (E.Retire u n) none in
          let loop = looped can.0 in
          let enough = loops.can_retire p input l bodies direct ok x h t r at loop can.0 n can.2 in
          let many = kept.phases_many p input l bodies direct ok x h.rows t r at loop can.0 in (
            loops_there can.0,
            can.1,
            at_more M (kept.Stood p input l bodies direct ok x h.rows t r at loop can.0) (λ a kids. n + length (phases M kids) ≤ (books (place_of Q)).unretired + done_in (phases M kids))
                (λ a kids k.
                subst (λ (b : Book). n + length (phases M kids) ≤ b.unretired + done_in (phases M kids)) (sym (own_book books has can.0))
                (subst (λ (phs : List order.Phase). n + length phs ≤ r.loop.unretired + done_in phs) (sym (ap (phases M) k.1 ∙ many.0)) (let c : n + length r.loop.indexes ≤ r.loop.unretired + done_in (index_phases r.loop.indexes) = enough in let same = many.1 in omega (arith, c, same))))
                (place_of Q) (shown p x).forest (kept.stood p input l bodies direct ok x h.rows t r at loop can.0),
          )
      can_do (E.Finish u) same suits none = can_finish (finish_at u (happens r x.tasks (E.Finish u) none)) none
        where
          finish_at : (u : ℕ) → CanHappen (E.Finish u) r x.tasks → CanHappen (E.Finish t) r x.tasks
          finish_at u can = can

      -- the books afterwards
      other_place : (u : ℕ) (s : TaskRow) (q : List ℕ) → slice_get x.tasks u ≡ Some s → s.path ≡ map suc q → u ≢ t → same_place (place_of Q) (place_of q) ≡ false
      other_place u s q got is ne = differ (place_of Q) (place_of q) (λ same. ne (h.rows.once u t s r got at (is ∙ (ap (map suc) (sym (place_is Q q same)) ∙ sym q_is))))

      -- where the row alone has another book
      rebooked : (r' : TaskRow) (b : Book) → r'.path ≡ r.path → b ≡ book_of r' → HasBooks (slice_set x.tasks t r') (with_book (place_of Q) b books)
      rebooked r' b path is u s q got at_q begun-so = elim (got_set x.tasks t u r r' s at got) [
        | inl k ↦
            (let same : Q ≡ q = mapped_is Q q (sym q_is ∙ (sym path ∙ (sym (ap (λ (z : TaskRow). z.path) k.1) ∙ at_q))) in
            ap (λ (z : List ℕ). with_book (place_of Q) b books (place_of z)) (sym same)
            ∙ (ap (λ (c : Bool). cond c b (books (place_of Q))) (same_self (place_of Q)) ∙ (is ∙ ap book_of (sym k.1))))
        | inr k ↦ ap (λ (c : Bool). cond c b (books (place_of q))) (other_place u s q k.1 at_q k.0) ∙ has u s q k.1 at_q begun-so
      ]

      -- where no book changes
      same_books : (r' : TaskRow) → r'.path ≡ r.path → (has_begun p r' ≡ true → (has_begun p r ≡ true) × (book_of r' ≡ book_of r)) → HasBooks (slice_set x.tasks t r') books
      same_books r' path keeps u s q got at_q begun-so = elim (got_set x.tasks t u r r' s at got) [
        | inl k ↦
            (let kept-so = keeps (subst (λ (z : TaskRow). has_begun p z ≡ true) k.1 begun-so) in
            let at_own : r.path ≡ map suc q = sym path ∙ (sym (ap (λ (z : TaskRow). z.path) k.1) ∙ at_q) in
            has t r q at at_own kept-so.0 ∙ (sym kept-so.1 ∙ ap book_of (sym k.1)))
        | inr k ↦ has u s q k.1 at_q begun-so
      ]

      -- and one more task that has not begun
      with_more : (rows : List TaskRow) (more : List TaskRow) → HasBooks rows books → ((s : TaskRow) → (u : ℕ) → slice_get more u ≡ Some s → has_begun p s ≡ false) → HasBooks (rows ++ more) books
      with_more [] more has-so none u s q got at_q begun-so = absurd (cc (begun-so, none s u got))
      with_more (v ∷ rows) more has-so none zero s q got at_q begun-so = has-so zero s q got at_q begun-so
      with_more (v ∷ rows) more has-so none (suc u) s q got at_q begun-so = with_more rows more (λ u. has-so (suc u)) none u s q got at_q begun-so

      added_open : (operation : Operation) (s : TaskRow) (u : ℕ) → slice_get (added_by operation r x.tasks) u ≡ Some s → has_begun p s ≡ false
      added_open (O.Fork call) s zero got = ap (has_begun p) (sym (the_some got))
      added_open (O.Fork call) s (suc u) got = absurd (cc got)
      added_open (O.Load object element a) s u got = absurd (cc got)
      added_open (O.Store object element v) s u got = absurd (cc got)
      added_open (O.Fold object element g v) s u got = absurd (cc got)
      added_open O.End s u got = absurd (cc got)
      added_open (O.Fault law line) s u got = absurd (cc got)

      never : (s : TaskRow) → (is_looping s.phase || is_finished s.phase) ≡ false → has_begun p s ≡ true → (has_begun p r ≡ true) × (book_of s ≡ book_of r)
      never s none begun-so = absurd (cc (begun-so, steps.not_begun p input l x h t r at s none))

      body_row : (operation : Operation) → r.phase ≡ P.Running → (row_after operation r).path ≡ r.path
      body_row (O.Load object element a) running = refl
      body_row (O.Store object element v) running = refl
      body_row (O.Fold object element g v) running = refl
      body_row (O.Fork call) running = refl
      body_row O.End running = refl
      body_row (O.Fault law line) running = refl

      body_open : (operation : Operation) → r.phase ≡ P.Running → (is_looping (row_after operation r).phase || is_finished (row_after operation r).phase) ≡ false
      body_open (O.Load object element a) running = rw running refl
      body_open (O.Store object element v) running = rw running refl
      body_open (O.Fold object element g v) running = rw running refl
      body_open (O.Fork call) running = rw running refl
      body_open O.End running = refl
      body_open (O.Fault law line) running = refl

      books_after : (e : Event) → task_of e ≡ t → refusal_of e r x.tasks ≡ None → HasBooks (after_of p e r x).tasks (books_of p (core_event e r (place_of Q)) books)
      books_after (E.ClaimInOrder u) same none = subst (λ (n : ℕ). HasBooks (slice_set x.tasks n (in_phase P.Running r)) books) (sym same) (same_books (in_phase P.Running r) refl (never (in_phase P.Running r) refl))
      books_after (E.ClaimReady u) same none = subst (λ (n : ℕ). HasBooks (slice_set x.tasks n (in_phase P.Running r)) books) (sym same) (same_books (in_phase P.Running r) refl (never (in_phase P.Running r) refl))
      books_after (E.Body u operation) same none =
          let running = happens r x.tasks (E.Body u operation) none in
          subst (λ (n : ℕ). HasBooks (slice_set x.tasks n (row_after operation r) ++ added_by operation r x.tasks) books) (sym same)
          (with_more (slice_set x.tasks t (row_after operation r)) (added_by operation r x.tasks)
          (same_books (row_after operation r) (body_row operation running) (never (row_after operation r) (body_open operation running))) (λ s u got. added_open operation s u got))
      books_after (E.Begin u) same none = subst (λ (n : ℕ). HasBooks (slice_set x.tasks n (row_begun r)) (with_book (place_of Q) (whole_book r.call.length) books)) (sym same) (rebooked (row_begun r) (whole_book r.call.length) refl refl)
      books_after (E.Split u n) same none =
          let can = happens r x.tasks (E.Split u n) none in
          subst (λ (m : ℕ). HasBooks (slice_set x.tasks m (row_split n r)) (books_of p (core_event (E.Split u n) r (place_of Q)) books)) (sym same)
          (rebooked (row_split n r) (record { pieces = cut n (books (place_of Q)).pieces; unretired = (books (place_of Q)).unretired }) refl
          (ap (λ (b : Book). record { pieces = cut n b.pieces; unretired = b.unretired }) (own_book books has can.0)))
      books_after (E.Take u n k) same none =
          let can = happens r x.tasks (E.Take u n k) none in
          subst (λ (m : ℕ). HasBooks (slice_set x.tasks m (row_taken n k r)) (books_of p (core_event (E.Take u n k) r (place_of Q)) books)) (sym same)
          (rebooked (row_taken n k r) (record { pieces = take n k (books (place_of Q)).pieces; unretired = (books (place_of Q)).unretired }) refl
          (ap (λ (b : Book). record { pieces = take n k b.pieces; unretired = b.unretired }) (own_book books has can.0)))
      books_after (E.Index u i operation) same none =
          let can = happens r x.tasks (E.Index u i operation) none in
          subst (λ (n : ℕ). HasBooks (slice_set x.tasks n (row_indexed i operation r)) books) (sym same) (same_books (row_indexed i operation r) refl (λ b. (begun can.0, refl)))
      books_after (E.Retire u n) same none =
          let can = happens r x.tasks (E.Retire u n) none in
          subst (λ (m : ℕ). HasBooks (slice_set x.tasks m (row_retired n r)) (books_of p (core_event (E.Retire u n) r (place_of Q)) books)) (sym same)
          (rebooked (row_retired n r) (record { pieces = (books (place_of Q)).pieces; unretired = (books (place_of Q)).unretired - n }) refl
          (ap (λ (b : Book). record { pieces = b.pieces; unretired = b.unretired - n }) (own_book books has can.0)))
      books_after (E.Finish u) same none =
          subst (λ (n : ℕ). HasBooks (slice_set x.tasks n (in_phase P.Finished r)) books) (sym same) (same_books (in_phase P.Finished r) refl (λ loop. (was loop (happens r x.tasks (E.Finish u) none).0, refl)))
        where
          was : is_loop_at p r.call.task ≡ true → (r.phase ≡ P.Ended) ⊎ (r.phase ≡ P.Looping) → has_begun p r ≡ true
          was loop (inl over) = absurd ((h.rows.loops t r at).never_ended loop over)
          was loop (inr looping) = begun looping

  pub tied : (e : Event) → CanAsk p e x → refusal e x ≡ None → (r : TaskRow) (q : List ℕ) → slice_get x.tasks (task_of e) ≡ Some r → r.path ≡ map suc q
      → (y : Booked p) → ShowsBooked p x y
      → CanDo p (core_event e r (place_of q)) y × ShowsBooked p (table_after p e x) (after_core p (core_event e r (place_of q)) y)
  tied e ask none r q at is y shows =
      let Q-same : Q (task_of e) r at ≡ q = mapped_is (Q (task_of e) r at) q (sym (q_is (task_of e) r at) ∙ is) in
      let suits = ask.suits r at in
      let free : refusal_of e r x.tasks ≡ None = subst (λ (o : Option TaskRow). refusal_at e o x.tasks ≡ None) at none in
      let Z : Booked p = record { core = shown p x; books = y.books } in
      let can = can_do (task_of e) r at y.books shows.books e refl suits free in
      let f = follows p input l bodies direct ok x h e r at suits free in
      let books = books_after (task_of e) r at y.books shows.books e refl free in
      let whole : CanDo p (core_event e r (place_of (Q (task_of e) r at))) Z × ShowsBooked p (after_of p e r x) (after_core p (core_event e r (place_of (Q (task_of e) r at))) Z) = (can, record { core = f.shows; books = books }) in
      let moved : CanDo p (core_event e r (place_of q)) Z × ShowsBooked p (after_of p e r x) (after_core p (core_event e r (place_of q)) Z) =
      subst (λ (z : List ℕ). CanDo p (core_event e r (place_of z)) Z × ShowsBooked p (after_of p e r x) (after_core p (core_event e r (place_of z)) Z)) Q-same whole in
      subst (λ (o : Option TaskRow). CanDo p (core_event e r (place_of q)) y × ShowsBooked p (after_at p e o x) (after_core p (core_event e r (place_of q)) y)) (sym at)
      (subst (λ (c : Core p). CanDo p (core_event e r (place_of q)) (record { core = c; books = y.books }) × ShowsBooked p (after_of p e r x) (after_core p (core_event e r (place_of q)) (record { core = c; books = y.books }))) shows.core moved)
