-- While main is not finished some event of a lawful table can be done.
use Rattle.std.proofs.Common.{◌≡◌, ◌<◌, ◌≤◌, ◌+◌, ℕ, zero, suc, Bool, true, false, List, [], ◌∷◌, ◌++◌, map, length, take, Option, Some, None, ◌⊎◌, inl, inr, refl, sym, ap, subst, ◌∙◌, arith, slice_get, ◌&&◌, ◌||◌, not, nat_lt, option_map}
use Rattle.std.proofs.lemmas.List.{map-append}
use Rattle.std.proofs.lemmas.Option.{same_Some, slice_get_within}
use Rattle.kt_law.specs.declared.limits.TheConstants.{DEPTH}
use Rattle.kt_order.specs.Machine.{Machine}
use Rattle.kt_order.specs.Forest as order
use Rattle.kt_order.specs.Forest.{Task, Forest, AllTasks}
use Rattle.kt_order.specs.Laws.{Laws}
use Rattle.kt_order.specs.Stand.{Standing}
use Rattle.kt_order.specs.Rest.{standing}
use Rattle.kt_order.specs.Events.{AllFinished}
use Rattle.kt_order.specs.Lawful.{PhaseOk, TaskOk}
use Rattle.kt_order.specs.Paths.{same_path, shift, IsThere, place_of, Known, children_from, grown, tree_of, children_at, Earlier}
use Rattle.kt_order.specs.Named.{count_of}
use Rattle.kt_order.proofs.Ats.{at_says, at_more, at_shape}
use Rattle.kt_order.proofs.PathsAt.{tree_at}
use Rattle.kt_order.proofs.PathGoes.{Goes, some_goes}
use Rattle.kt_order.proofs.PathThere.{there_child}
use Rattle.kt_order.proofs.Squares.{same_is}
use Rattle.kt_prog.specs.Calls.{Whole}
use Rattle.kt_prog.specs.Laws.{BodiesKeep, LoopsAreDirect}
use Rattle.kt_prog.specs.Operations.{is_loop_at, IsNext}
use Rattle.kt_prog.specs.Accepted.{IsAccepted}
use Rattle.kt_prog.specs.Reference.{machine_of}
use Rattle.kt_prog.specs.declared.programs.Program.{Program}
use Rattle.kt_prog.specs.declared.runs.Operation.{Operation}
use Rattle.kt_prog.specs.declared.runs.Operation.TheVariants as O
use Rattle.kt_runs.specs.Rights.{rights_in}
use Rattle.kt_runs.specs.States.{most_tasks}
use Rattle.kt_tables.specs.Tables.{IndexRow, LoopPart, TaskRow, TaskTable, MainIsFinished, parent_of, is_root, is_child, are_siblings, is_finished, is_open, first_from, open_before, open_child}
use Rattle.kt_tables.specs.TableEnabled.{CanHappen}
use Rattle.kt_tables.specs.TableEvents.{task_of, Finds, NothingIsNext, IsIndexDue, Suits, unless, or_else, CanAsk, FindsRoom, IsDue, is_unclaimed, is_looping, is_ended, wants, refusal, refusal_at}
use Rattle.kt_tables.specs.TableLaws.{phase_of, has_begun, as_task, tasks_by_path, Leads, Stands, as_row, as_child, IsLawfulTable}
use Rattle.kt_tables.specs.declared.events.Event.{Event}
use Rattle.kt_tables.specs.declared.events.Event.TheVariants as E
use Rattle.kt_tables.specs.declared.events.Phase.{Phase}
use Rattle.kt_tables.specs.declared.events.Phase.TheVariants as P
use Rattle.kt_tables.specs.declared.events.Why.{Why}
use Rattle.kt_tables.specs.declared.events.Why.TheVariants as W
use Rattle.kt_tables.specs.declared.events.Stand.TheVariants as S
use Rattle.kt_tables.proofs.TableRows.{mapped_is}
use Rattle.kt_tables.proofs.TablePaths.{get_is}
use Rattle.kt_tables.proofs.TableTests.{unrefused}
use Rattle.kt_tables.proofs.TableSteps.{none_added, was_open}
use Rattle.kt_tables.proofs.LoopSteps.{retire_can}
use Rattle.kt_tables.proofs.Full.{begun_by}
use Rattle.kt_tables.proofs.NextOfLoop.{goes_or_begins, index_goes_on, loop_goes_on}
use Rattle.kt_tables.proofs.TableDone.{phase_finished}
use Rattle.kt_tables.proofs.TableNext.{next_of}

same_or_other : (k i : ℕ) → k ≤ i → (k ≡ i) ⊎ (suc k ≤ i)
same_or_other k i h = grind arith

module _ (m : Machine) where
  -- what Earlier says of each earlier sibling
  earlier_says : (R : Task m → Task m → Type 0) (q : List ℕ) (k : ℕ) (get : Known m) → Earlier m R (q ++ k ∷ []) get
      → (i : ℕ) → i < k → R (get (q ++ i ∷ [])) (get (q ++ k ∷ []))
  earlier_says R [] k get h = h
  earlier_says R (j ∷ []) k get h = h
  earlier_says R (j ∷ i ∷ q) k get h = earlier_says R (i ∷ q) k (shift j get) h

  children_say : (Q : Task m → Type 0) (sub : Known m → (List ℕ → ℕ) → Forest m) (get : Known m) (count : List ℕ → ℕ) (k n : ℕ)
      → AllTasks m Q (children_from m sub get count k n) → (i : ℕ) → k ≤ i → i < k + n → Q (get (i ∷ []))
  children_say Q sub get count k zero h i low high = absurd (omega arith)
  children_say Q sub get count k (suc n) h i low high = elim (same_or_other k i low) [
    | inl e ↦ subst (λ (j : ℕ). Q (get (j ∷ []))) e h.0
    | inr more ↦ children_say Q sub get count (suc k) n h.1 i more (omega arith)
  ]

  -- what holds of the frame of a path's children holds of each of them
  below_says : (Q : Task m → Type 0) (depth : ℕ) (q : List ℕ) (get : Known m) (count : List ℕ → ℕ) (k : ℕ)
      → AllTasks m Q (children_at m depth q get count) → IsThere depth count (q ++ k ∷ []) → Q (get (q ++ k ∷ []))
  below_says Q zero [] get count k h there = absurd there
  below_says Q (suc depth) [] get count k h there = let less = there.0 in children_say Q (grown m depth) get count 0 (count []) h k (omega arith) (omega arith)
  below_says Q zero (j ∷ q) get count k h there = absurd there
  below_says Q (suc depth) (j ∷ q) get count k h there = below_says Q depth q (shift j get) (shift j count) k h there.1

-- none of the rows passes a test that each of them fails
none_passes : (test : TaskRow → Bool) (rows : List TaskRow) (n : ℕ) → ((i : ℕ) (u : TaskRow) → slice_get rows i ≡ Some u → test u ≡ false)
    → first_from n test rows ≡ None
none_passes test [] n h = refl
none_passes test (u ∷ rows) n h = rw (h zero u refl) (none_passes test rows (suc n) (λ i v e. h (suc i) v e))

of_front : (t : ℕ) (rows : List TaskRow) (i : ℕ) (u : TaskRow) → slice_get (take t rows) i ≡ Some u → (i < t) × (slice_get rows i ≡ Some u)
of_front zero rows i u e = absurd (nothing e)
  where
    nothing : slice_get {X = TaskRow} [] i ≡ Some u → ⊥
    nothing h = cc
of_front (suc t) [] i u e = absurd (cc e)
of_front (suc t) (v ∷ rows) zero u e = (omega arith, e)
of_front (suc t) (v ∷ rows) (suc i) u e = let r = of_front t rows i u e in let a = r.0 in (omega arith, r.1)

is_false : (b : Bool) → (b ≡ true → ⊥) → b ≡ false
is_false true h = absurd (h refl)
is_false false h = refl

both : (a b : Bool) → (a && b) ≡ true → (a ≡ true) × (b ≡ true)
both true b h = (refl, h)
both false b h = absurd (cc h)

-- a path that is not the root's is its parent's and one number more
last_cut : (q : List ℕ) → not (is_root q) ≡ true → (k : ℕ) × (q ≡ parent_of q ++ k ∷ [])
last_cut [] e = absurd (cc e)
last_cut (k ∷ []) e = (k, refl)
last_cut (k ∷ (j ∷ q)) e = let r = last_cut (j ∷ q) refl in (r.0, ap (λ l. k ∷ l) r.1)

root_suc : (q : List ℕ) → is_root (map suc q) ≡ is_root q
root_suc [] = refl
root_suc (k ∷ q) = refl

parent_suc : (q : List ℕ) → parent_of (map suc q) ≡ map suc (parent_of q)
parent_suc [] = refl
parent_suc (k ∷ []) = refl
parent_suc (k ∷ (j ∷ q)) = ap (λ l. suc k ∷ l) (parent_suc (j ∷ q))

-- siblings have one parent
siblings_cut : (q r : List ℕ) → are_siblings (map suc q) (map suc r) ≡ true
    → (parent : List ℕ) × (i : ℕ) × (j : ℕ) × (q ≡ parent ++ i ∷ []) × (r ≡ parent ++ j ∷ [])
siblings_cut q r e =
    let a = both (not (is_root (map suc q))) (not (is_root (map suc r)) && same_path (parent_of (map suc q)) (parent_of (map suc r))) e in
    let b = both (not (is_root (map suc r))) (same_path (parent_of (map suc q)) (parent_of (map suc r))) a.1 in
    let one = last_cut q (ap not (sym (root_suc q)) ∙ a.0) in
    let two = last_cut r (ap not (sym (root_suc r)) ∙ b.0) in
    let same = mapped_is (parent_of q) (parent_of r) (sym (parent_suc q) ∙ (same_is (parent_of (map suc q)) (parent_of (map suc r)) b.1 ∙ parent_suc r)) in
    (parent_of r, one.0, two.0, one.1 ∙ ap (λ l. l ++ one.0 ∷ []) same, two.1)

child_cut : (q r : List ℕ) → is_child (map suc q) (map suc r) ≡ true → (k : ℕ) × (r ≡ q ++ k ∷ [])
child_cut q r e =
    let a = both (not (is_root (map suc r))) (same_path (parent_of (map suc r)) (map suc q)) e in
    let one = last_cut r (ap not (sym (root_suc r)) ∙ a.0) in
    let same = mapped_is (parent_of r) q (sym (parent_suc r) ∙ same_is (parent_of (map suc r)) (map suc q) a.1) in
    (one.0, one.1 ∙ ap (λ l. l ++ one.0 ∷ []) same)

suc_last : (q : List ℕ) (k : ℕ) → map suc (q ++ k ∷ []) ≡ map suc q ++ suc k ∷ []
suc_last q k = map-append suc q (k ∷ [])

-- what the phase of the theory says of the row's
phase_unclaimed : (ph : Phase) → phase_of ph ≡ order.Unclaimed → ph ≡ P.Unclaimed
phase_unclaimed P.Unclaimed e = refl
phase_unclaimed P.Running e = absurd (cc e)
phase_unclaimed P.Looping e = absurd (cc e)
phase_unclaimed P.Ended e = absurd (cc e)
phase_unclaimed P.Finished e = absurd (cc e)

phase_running : (ph : Phase) → phase_of ph ≡ order.Running → ph ≡ P.Running
phase_running P.Unclaimed e = absurd (cc e)
phase_running P.Running e = refl
phase_running P.Looping e = absurd (cc e)
phase_running P.Ended e = absurd (cc e)
phase_running P.Finished e = absurd (cc e)

phase_over : (ph : Phase) → phase_of ph ≡ order.Ended → (is_ended ph || is_looping ph) ≡ true
phase_over P.Unclaimed e = absurd (cc e)
phase_over P.Running e = absurd (cc e)
phase_over P.Looping e = refl
phase_over P.Ended e = refl
phase_over P.Finished e = absurd (cc e)

no_reason : (test : Phase → Bool) (ph : Phase) (rest : Option Why) → test ph ≡ true → rest ≡ None → wants test ph rest ≡ None
no_reason test ph rest e h = rw (e, h) refl

finished_shut : (ph : Phase) → ph ≡ P.Finished → not (is_finished ph) ≡ true → ⊥
finished_shut ph e h = cc (subst (λ (w : Phase). not (is_finished w) ≡ true) e h)

room_for : (tasks : List TaskRow) → length tasks < most_tasks → (op : Operation) → FindsRoom tasks op
room_for tasks room (O.Load object element a) = tt
room_for tasks room (O.Store object element v) = tt
room_for tasks room (O.Fold object element g v) = tt
room_for tasks room (O.Fork call) = room
room_for tasks room O.End = tt
room_for tasks room (O.Fault law line) = tt

order_of : (i j : ℕ) → (i < j) ⊎ ((i ≡ j) ⊎ (j < i))
order_of i j = grind arith

module _ (p : Program) (input : List ℕ) (x : TaskTable) (lawful : IsLawfulTable p input x) where
  abbrev get : List ℕ → Task (machine_of p)
  get = tasks_by_path p x.tasks

  abbrev count : List ℕ → ℕ
  count = count_of (machine_of p) get

  abbrev Goal : Type 0
  Goal = (e : Event) × CanAsk p e x × (refusal e x ≡ None)

  not_refused : (e : Event) (t : ℕ) (r : TaskRow) → slice_get x.tasks t ≡ Some r → refusal_at e (Some r) x.tasks ≡ None
      → refusal_at e (slice_get x.tasks t) x.tasks ≡ None
  not_refused e t r at h = subst (λ (o : Option TaskRow). refusal_at e o x.tasks ≡ None) (sym at) h

  module _ (t : ℕ) (r : TaskRow) (at : slice_get x.tasks t ≡ Some r) (q : List ℕ) (path : r.path ≡ map suc q) where
    -- a row at the path of a finished task is not open
    shut : (i : ℕ) (u : TaskRow) (o : List ℕ) → slice_get x.tasks i ≡ Some u → u.path ≡ map suc o → (get o).phase ≡ order.Finished → is_open u ≡ true → ⊥
    shut i u o e h fin unshut =
        finished_shut u.phase (phase_finished u.phase (sym (ap (λ (w : Task (machine_of p)). w.phase) (get_is p x.tasks lawful.rows.once i u e o h)) ∙ fin)) unshut

    apart_by : (i : ℕ) (u : TaskRow) (o parent : List ℕ) (a b : ℕ) → i < t → slice_get x.tasks i ≡ Some u → u.path ≡ map suc o → o ≡ parent ++ a ∷ []
        → q ≡ parent ++ b ∷ [] → Earlier (machine_of p) (λ u v. u.phase ≡ order.Finished) q get → is_open u ≡ true → (a < b) ⊎ ((a ≡ b) ⊎ (b < a)) → ⊥
    apart_by i u o parent a b before e named one two earlier unshut (inl lt) =
        shut i u o e named
        (subst (λ (l : List ℕ). (get l).phase ≡ order.Finished) (sym one)
        (earlier_says (machine_of p) (λ u v. u.phase ≡ order.Finished) parent b get (subst (λ (l : List ℕ). Earlier (machine_of p) (λ u v. u.phase ≡ order.Finished) l get) two earlier) a lt)) unshut
    apart_by i u o parent a b before e named one two earlier unshut (inr (inl same)) =
        let paths : u.path ≡ r.path = named ∙ (ap (map suc) one ∙ (ap (λ (k : ℕ). map suc (parent ++ k ∷ [])) same ∙ (ap (map suc) (sym two) ∙ sym path))) in
        let place = lawful.rows.once i t u r e at paths in
        omega arith
    apart_by i u o parent a b before e named one two earlier unshut (inr (inr gt)) =
        let less = lawful.order t i r u at e (map suc parent) (suc b) (suc a) (path ∙ (ap (map suc) two ∙ suc_last parent b)) (named ∙ (ap (map suc) one ∙ suc_last parent a)) (omega arith) in
        omega arith

    -- the tasks before it in its frame are not open
    none_before : Earlier (machine_of p) (λ u v. u.phase ≡ order.Finished) q get → open_before t r x.tasks ≡ None
    none_before earlier =
        none_passes (λ (u : TaskRow). are_siblings u.path r.path && is_open u) (take t x.tasks) 0
        (λ i u e. is_false (are_siblings u.path r.path && is_open u) (λ h. fails i u (of_front t x.tasks i u e) (both (are_siblings u.path r.path) (is_open u) h)))
      where
        fails : (i : ℕ) (u : TaskRow) → (i < t) × (slice_get x.tasks i ≡ Some u) → (are_siblings u.path r.path ≡ true) × (is_open u ≡ true) → ⊥
        fails i u front h =
            let other = lawful.rows.there i u front.1 in
            let cut = siblings_cut other.0 q (subst (λ (l : List ℕ). are_siblings l (map suc q) ≡ true) other.1 (subst (λ (l : List ℕ). are_siblings u.path l ≡ true) path h.0)) in
            apart_by i u other.0 cut.0 cut.1 cut.2 front.0 front.1 other.1 cut.3 cut.4 earlier h.1 (order_of cut.1 cut.2)

    claims : r.phase ≡ P.Unclaimed → Earlier (machine_of p) (λ u v. u.phase ≡ order.Finished) q get → Goal
    claims unclaimed earlier = (
      E.ClaimInOrder t,
      record { there = slice_get_within x.tasks t r at; suits = λ s e. tt },
      not_refused (E.ClaimInOrder t) t r at (no_reason is_unclaimed r.phase (option_map W.Earlier (open_before t r x.tasks)) (ap is_unclaimed unclaimed) (ap (option_map W.Earlier) (none_before earlier))),
    )

    -- its children are not open
    none_below : AllFinished (machine_of p) (children_at (machine_of p) (suc DEPTH) q get count) → open_child r x.tasks ≡ None
    none_below all =
        none_passes (λ (u : TaskRow). is_child r.path u.path && is_open u) x.tasks 0
        (λ i u e. is_false (is_child r.path u.path && is_open u) (λ h. fails i u e (both (is_child r.path u.path) (is_open u) h)))
      where
        fails : (i : ℕ) (u : TaskRow) → slice_get x.tasks i ≡ Some u → (is_child r.path u.path ≡ true) × (is_open u ≡ true) → ⊥
        fails i u e h =
            let other = lawful.rows.there i u e in
            let cut = child_cut q other.0 (subst (λ (l : List ℕ). is_child (map suc q) l ≡ true) other.1 (subst (λ (l : List ℕ). is_child l u.path ≡ true) path h.0)) in
            let named : u.path ≡ map suc (q ++ cut.0 ∷ []) = other.1 ∙ ap (map suc) cut.1 in
            let there : Leads p x.tasks (q ++ cut.0 ∷ []) = subst (λ (l : List ℕ). Leads p x.tasks l) cut.1 other.2 in
            shut i u (q ++ cut.0 ∷ []) e named (below_says (machine_of p) (λ u. u.phase ≡ order.Finished) (suc DEPTH) q get count cut.0 all there) h.1

    finishes : r.phase ≡ P.Ended → AllFinished (machine_of p) (children_at (machine_of p) (suc DEPTH) q get count) → Goal
    finishes over all = (
      E.Finish t,
      record { there = slice_get_within x.tasks t r at; suits = λ s e. tt },
      not_refused (E.Finish t) t r at (no_reason (λ ph. is_ended ph || is_looping ph) r.phase
          (or_else (option_map W.Child (open_child r x.tasks)) (unless (not (nat_lt 0 r.loop.unretired)) (W.Left r.loop.unretired))) (ap (λ (ph : Phase). is_ended ph || is_looping ph) over) (no_causes (none_below all) none_left)),
    )
      where
        plain : (b : Bool) → has_begun p r ≡ b → r.loop.unretired ≡ 0
        plain true begun = absurd (cc (sym begun ∙ ap (λ (ph : Phase). (is_looping ph || is_finished ph) && is_loop_at p r.call.task) over))
        plain false none = ap (λ (k : LoopPart). k.unretired) ((lawful.rows.loops t r at).other none)

        none_left : r.loop.unretired ≡ 0
        none_left = plain (has_begun p r) refl

        no_causes : open_child r x.tasks ≡ None → r.loop.unretired ≡ 0 → or_else (option_map W.Child (open_child r x.tasks)) (unless (not (nat_lt 0 r.loop.unretired)) (W.Left r.loop.unretired)) ≡ None
        no_causes a b = rw (a, b) refl

    -- where the body of a running task stands
    abbrev BodyStands : Type 0
    BodyStands = (rights_in p).Fits (get q).call × (st : Standing (machine_of p)) × (standing (machine_of p) (get q) ≡ Some st) × ((get q).phase ≡ order.Running → st.over ≡ false)

    stands : Leads p x.tasks q → BodyStands
    stands there =
        let F = tree_of (machine_of p) (suc DEPTH) get count in
        at_says (machine_of p) BodyStands (place_of q) F
        (at_more (machine_of p) (λ u kids. (u ≡ get q) × TaskOk (machine_of p) (rights_in p) u kids) (λ u kids. BodyStands) (λ u kids h. says u kids h.0 h.1) (place_of q) F
        (at_shape (machine_of p) (rights_in p) (λ u kids. u ≡ get q) (place_of q) F lawful.rows.lawful.shape (tree_at (machine_of p) (λ u kids. u ≡ get q) (suc DEPTH) get count q there refl)))
      where
        says : (u : Task (machine_of p)) (kids : Forest (machine_of p)) → u ≡ get q → TaskOk (machine_of p) (rights_in p) u kids → BodyStands
        says u kids same ok = (
          subst (λ (v : Task (machine_of p)). (rights_in p).Fits v.call) same ok.fits,
          ok.st,
          subst (λ (v : Task (machine_of p)). standing (machine_of p) v ≡ Some ok.st) same ok.stands,
          λ e. (let running : u.phase ≡ order.Running = ap (λ (v : Task (machine_of p)). v.phase) same ∙ e in subst (λ ph. PhaseOk (machine_of p) ph u ok.st kids) running ok.phase),
        )

    -- what happens is not refused
    asks : (e : Event) → task_of e ≡ t → CanHappen e r x.tasks → ((s : TaskRow) → slice_get x.tasks t ≡ Some s → Suits p e s x) → Goal
    asks e same can suits = (
      e,
      record { there = subst (λ (u : ℕ). u < length x.tasks) (sym same) (slice_get_within x.tasks t r at); suits = λ s got. suits s (ap (slice_get x.tasks) (sym same) ∙ got) },
      subst (λ (o : Option TaskRow). refusal_at e o x.tasks ≡ None) (sym (ap (slice_get x.tasks) same ∙ at)) (unrefused r x.tasks e can),
    )

    only_row : (Q : TaskRow → Type 0) → Q r → (s : TaskRow) → slice_get x.tasks t ≡ Some s → Q s
    only_row Q h s got = subst Q (same_Some r s (sym at ∙ got)) h

    module _ (l : Laws (machine_of p) (rights_in p)) (bodies : BodiesKeep) (direct : LoopsAreDirect) (ok : IsAccepted p) (room : length x.tasks < most_tasks) where
      -- the operation that is next is asked for
      body : r.phase ≡ P.Running → (op : Operation) → Finds p x.store op → IsNext p (Whole r.call) r.answers r.done op → Goal
      body running op finds next =
          asks (E.Body t op) refl running (only_row (λ s. s.phase ≡ P.Running → IsDue p op s x) (λ _. record { next = next; finds = finds; room = room_for x.tasks room op }))

      goes_plain : r.phase ≡ P.Running → is_loop_at p r.call.task ≡ false → Leads p x.tasks q → Goal
      goes_plain running plain there =
          let same = get_is p x.tasks lawful.rows.once t r at q path in
          let s = stands there in
          let fits : (rights_in p).Fits (as_task p r).call = subst (λ (v : Task (machine_of p)). (rights_in p).Fits v.call) same s.0 in
          let is : standing (machine_of p) (as_task p r) ≡ Some s.1 = subst (λ (v : Task (machine_of p)). standing (machine_of p) v ≡ Some s.1) same s.2 in
          let on = s.3 (ap (λ (v : Task (machine_of p)). v.phase) same ∙ ap phase_of running) in
          let next = next_of p bodies ok x.store r.call r.path r.answers (as_task p r).done s.1 fits plain is on in
          body running next.0 next.1 (subst (λ (n : ℕ). IsNext p (Whole r.call) r.answers n next.0) (none_added p input l x lawful t r at r (was_open p input l x lawful t r at running)) next.2)

      goes_loop : r.phase ≡ P.Running → is_loop_at p r.call.task ≡ true → Goal
      goes_loop running loop = elim (goes_or_begins p input l bodies direct ok x lawful.rows t r at loop running) [
        | inl n ↦ body running n.0 n.1.0 n.1.1
        | inr done ↦ asks (E.Begin t) refl running (only_row (λ s. (is_loop_at p s.call.task ≡ true) × (s.phase ≡ P.Running → NothingIsNext p s)) (loop, λ _. done.1))
      ]

      goes_on : r.phase ≡ P.Running → Leads p x.tasks q → Goal
      goes_on running there = by (is_loop_at p r.call.task) refl
        where
          by : (b : Bool) → is_loop_at p r.call.task ≡ b → Goal
          by true loop = goes_loop running loop
          by false plain = goes_plain running plain there

      -- a loop that loops takes an index, goes on with one, retires one, or finishes
      loops_on : r.phase ≡ P.Looping → Goal
      loops_on looping =
          let loop = (lawful.rows.loops t r at).looping looping in
          elim (loop_goes_on p input l bodies direct ok x lawful.rows t r at loop looping) [
            | inl take ↦ asks (E.Take t take.0 1) refl (looping, omega arith, take.1) (λ s e. tt)
            | inr (inl i) ↦
                (let due = index_goes_on p input l bodies direct ok x lawful.rows t r at loop looping i.0 i.1 i.2 i.3 in
                asks (E.Index t i.0 due.0) refl (looping, (i.1, i.2, i.3))
                (only_row (λ s. s.phase ≡ P.Looping → (v : IndexRow) → slice_get s.loop.indexes i.0 ≡ Some v → v.stand ≡ S.Taken → IsIndexDue p i.0 due.0 v s x)
                (λ _ v got taken. subst (λ (w : IndexRow). IsIndexDue p i.0 due.0 w r x) (same_Some i.1 v (sym i.2 ∙ got)) due.1)))
            | inr (inr (inl can)) ↦ asks (E.Retire t 1) refl (looping, omega arith, retire_can p input l bodies direct ok x lawful t r at loop looping 1 can) (λ s e. tt)
            | inr (inr (inr none)) ↦
                asks (E.Finish t) refl (inr looping, (λ u s got child. absurd (cc (child, lawful.rows.childless t r at loop u s got))), none) (λ s e. tt)
          ]

    -- the children of a finished task are finished
    child_finished : r.phase ≡ P.Finished → (k : ℕ) → Leads p x.tasks q → Leads p x.tasks (q ++ k ∷ []) → (get (q ++ k ∷ [])).phase ≡ order.Finished
    child_finished done k there below =
        let F = tree_of (machine_of p) (suc DEPTH) get count in
        let K = children_at (machine_of p) (suc DEPTH) q get count in
        let A = λ (u : Task (machine_of p)) (kids : Forest (machine_of p)). (u ≡ get q) × (kids ≡ K) in
        let all : AllFinished (machine_of p) K =
        at_says (machine_of p) (AllFinished (machine_of p) K) (place_of q) F
        (at_more (machine_of p) (λ u kids. A u kids × TaskOk (machine_of p) (rights_in p) u kids) (λ u kids. AllFinished (machine_of p) K) (λ u kids h. says u kids h.0.0 h.0.1 h.1) (place_of q) F
        (at_shape (machine_of p) (rights_in p) A (place_of q) F lawful.rows.lawful.shape (tree_at (machine_of p) A (suc DEPTH) get count q there (refl, refl)))) in
        below_says (machine_of p) (λ u. u.phase ≡ order.Finished) (suc DEPTH) q get count k all below
      where
        says : (u : Task (machine_of p)) (kids : Forest (machine_of p)) → u ≡ get q → kids ≡ children_at (machine_of p) (suc DEPTH) q get count → TaskOk (machine_of p) (rights_in p) u kids
            → AllFinished (machine_of p) (children_at (machine_of p) (suc DEPTH) q get count)
        says u kids same is ok =
            let phase : u.phase ≡ order.Finished = ap (λ (v : Task (machine_of p)). v.phase) (same ∙ get_is p x.tasks lawful.rows.once t r at q path) ∙ ap phase_of done in
            subst (AllFinished (machine_of p)) is (subst (λ ph. PhaseOk (machine_of p) ph u ok.st kids) phase ok.phase).1

  not_finished : (q : List ℕ) → Goes (machine_of p) (suc DEPTH) get count q → (get q).phase ≡ order.Finished → ⊥
  not_finished q (inl h) fin = no_unclaimed (sym h.0 ∙ fin)
    where
      no_unclaimed : order.Unclaimed ≡ order.Finished → ⊥
      no_unclaimed e = cc
  not_finished q (inr (inl h)) fin = no_running (sym h ∙ fin)
    where
      no_running : order.Running ≡ order.Finished → ⊥
      no_running e = cc
  not_finished q (inr (inr h)) fin = no_ended (sym h.0 ∙ fin)
    where
      no_ended : order.Ended ≡ order.Finished → ⊥
      no_ended e = cc

  module _ (l : Laws (machine_of p) (rights_in p)) (bodies : BodiesKeep) (direct : LoopsAreDirect) (ok : IsAccepted p) (room : length x.tasks < most_tasks) where
    at_path : (q : List ℕ) → Leads p x.tasks q → Goes (machine_of p) (suc DEPTH) get count q → Goal
    at_path q there goes = by (lawful.all q there)
      where
        ended_or : (ph : Phase) → phase_of ph ≡ order.Ended → (ph ≡ P.Ended) ⊎ (ph ≡ P.Looping)
        ended_or P.Unclaimed e = absurd (cc e)
        ended_or P.Running e = absurd (cc e)
        ended_or P.Looping e = inr refl
        ended_or P.Ended e = inl refl
        ended_or P.Finished e = absurd (cc e)

        row : (t : ℕ) (r : TaskRow) (at : slice_get x.tasks t ≡ Some r) (path : r.path ≡ map suc q) → phase_of r.phase ≡ (get q).phase
            → Goes (machine_of p) (suc DEPTH) get count q → Goal
        row t r at path same (inl h) = claims t r at q path (phase_unclaimed r.phase (same ∙ h.0)) h.1
        row t r at path same (inr (inl h)) = goes_on t r at q path l bodies direct ok room (phase_running r.phase (same ∙ h)) there
        row t r at path same (inr (inr h)) = elim (ended_or r.phase (same ∙ h.0)) [
          | inl ended ↦ finishes t r at q path ended h.1
          | inr looping ↦ loops_on t r at q path l bodies direct ok room looping
        ]

        child : (t : ℕ) (r : TaskRow) (at : slice_get x.tasks t ≡ Some r) (home : List ℕ) (i : ℕ) → r.path ≡ map suc home → q ≡ home ++ i ∷ [] → (ph : Phase) → r.phase ≡ ph
            → has_begun p r ≡ true → Goal
        child t r at home i path is P.Looping phase begun = loops_on t r at home path l bodies direct ok room phase
        child t r at home i path is P.Finished phase begun =
            let below = subst (Leads p x.tasks) is there in
            let above = (there_child (suc DEPTH) count home i below).0 in
            absurd (not_finished q goes (subst (λ (z : List ℕ). (get z).phase ≡ order.Finished) (sym is) (child_finished t r at home path phase i above below)))
        child t r at home i path is P.Unclaimed phase begun = absurd (cc (sym begun ∙ ap (λ (ph : Phase). (is_looping ph || is_finished ph) && is_loop_at p r.call.task) phase))
        child t r at home i path is P.Running phase begun = absurd (cc (sym begun ∙ ap (λ (ph : Phase). (is_looping ph || is_finished ph) && is_loop_at p r.call.task) phase))
        child t r at home i path is P.Ended phase begun = absurd (cc (sym begun ∙ ap (λ (ph : Phase). (is_looping ph || is_finished ph) && is_loop_at p r.call.task) phase))

        by : Stands p x.tasks q → Goal
        by (as_row t r at path) = row t r at path (ap (λ (v : Task (machine_of p)). v.phase) (sym (get_is p x.tasks lawful.rows.once t r at q path))) goes
        by (as_child t r home i v at path is index) = child t r at home i path is r.phase refl (begun_by p input l bodies direct ok x lawful.rows t r at i v index)

    main_done : (get []).phase ≡ order.Finished → MainIsFinished x.tasks
    main_done fin r e =
        phase_finished r.phase (sym (ap (λ (v : Task (machine_of p)). v.phase) (get_is p x.tasks lawful.rows.once 0 r e [] (lawful.main r e))) ∙ fin)

    pub some_event : (MainIsFinished x.tasks → ⊥) → Goal
    some_event unshut = elim (some_goes (machine_of p) (suc DEPTH) get count) [
      | inl fin ↦ absurd (unshut (main_done fin))
      | inr go ↦ at_path go.0 go.1 go.2
    ]
