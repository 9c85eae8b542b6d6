-- A fork of a task that is no loop: the row of its parent goes on, and that of its child comes in addition. It keeps a table lawful, and
-- the table afterwards shows the state of the theory after it.
use Rattle.std.proofs.Common.{◌≡◌, ◌≢◌, ◌<◌, ◌≤◌, ℕ, zero, suc, Bool, true, false, cond, List, [], ◌∷◌, ◌++◌, map, length, Option, Some, None, inl, inr, refl, sym, ap, subst, ◌∙◌, arith, length-set, slice_get, slice_set}
use Rattle.std.proofs.lemmas.Option.{slice_get_within}
use Rattle.kt_law.specs.declared.limits.TheConstants.{DEPTH}
use Rattle.kt_order.specs.Body.{Fork}
use Rattle.kt_order.specs.Machine.{Machine, Code}
use Rattle.kt_order.specs.Laws.{Laws}
use Rattle.kt_order.specs.Forest as order
use Rattle.kt_order.specs.Forest.{Task, Forest, change, add_last, fresh}
use Rattle.kt_order.specs.Rest.{standing, left}
use Rattle.kt_order.specs.Events.{put, forked}
use Rattle.kt_order.specs.Paths.{place_of, set_at, bump, HasRoom, IsThere, Known}
use Rattle.kt_order.specs.Named.{named, count_of, forks_in}
use Rattle.kt_order.proofs.ByPaths.{kept_fork, forks_after_fork}
use Rattle.kt_order.proofs.PathThere.{there_child, child_there, there_more}
use Rattle.kt_order.proofs.Squares.{count_forked, square_forked}
use Rattle.kt_prog.specs.Calls.{CallTree}
use Rattle.kt_prog.specs.Operations.{is_loop_at}
use Rattle.kt_prog.specs.Fits.{Fits}
use Rattle.kt_prog.specs.Reference.{Placed, machine_of, main_placed, opened_with}
use Rattle.kt_prog.specs.declared.programs.Program.{Program}
use Rattle.kt_runs.specs.Rights.{rights_in}
use Rattle.kt_runs.specs.States.{IsLawful}
use Rattle.kt_runs.specs.Theorems.{whole_at}
use Rattle.kt_tables.specs.Tables.{IndexRow, fresh_row, parent_of, is_child, count_rows}
use Rattle.kt_tables.specs.TableLaws.{phase_of}
use Rattle.kt_tables.specs.declared.events.Phase.{Phase}
use Rattle.kt_tables.specs.declared.events.Phase.TheVariants as P
use Rattle.kt_tables.specs.Tables.{LoopPart, TaskRow, TaskTable}
use Rattle.kt_tables.specs.TableLaws.{row_at, last_of, has_begun, as_task, index_or_fresh, child_or_fresh, task_or_child, tasks_by_path, by_path, shown, Leads, LoopOk, ShowsLawful, IsLawfulTable}
use Rattle.kt_tables.proofs.TableRows.{snoc_same, child_snoc, count_app, count_more, count_none, the_some, same_self, by_bool, got_set, got_app, map_snoc, mapped_is, parent_snoc, length_mapped, length_snoc, child_is, row_found, row_where}
use Rattle.kt_tables.proofs.TablePaths.{row_ok, set_is, add_is}
use Rattle.kt_tables.proofs.LoopShown.{has_room}
use Rattle.kt_tables.proofs.LoopKept.{shallow_call}
use Rattle.kt_tables.proofs.TableSteps.{here, moved, none_added, not_begun, open_ok, runs_loop, was_open, no_fault}
use Rattle.kt_tables.proofs.TableChanges.{FaultsOk, old_path, main_set, order_set, count_children, faults_set}
use Rattle.kt_tables.proofs.FullOthers.{all_more}

bump_same : (q : List ℕ) (count : List ℕ → ℕ) → bump q count q ≡ suc (count q)
bump_same q count = ap (λ (b : Bool). cond b (suc (count q)) (count q)) (same_self q)

-- no path is a child of itself
not_own : (path : List ℕ) → is_child path path ≡ true → ⊥
not_own path e = let c = child_is path path e in let a = length_snoc path c.0 in let b : length path ≡ length (path ++ c.0 ∷ []) = ap length c.1 in omega (arith, a, b)

module _ (p : Program) (input : List ℕ) (l : Laws (machine_of p) (rights_in p)) (x : TaskTable) (h : IsLawfulTable p input x) (t : ℕ) (r : TaskRow) (at : slice_get x.tasks t ≡ Some r)
    (running : r.phase ≡ P.Running) (plain : is_loop_at p r.call.task ≡ false) where
  abbrev M : Machine
  M = machine_of p

  abbrev Q : List ℕ
  Q = (h.rows.there t r at).0

  abbrev Get : Known M
  Get = tasks_by_path p x.tasks

  abbrev Count : List ℕ → ℕ
  Count = count_of M Get

  q_is : r.path ≡ map suc Q
  q_is = (h.rows.there t r at).1

  leads : Leads p x.tasks Q
  leads = (h.rows.there t r at).2

  abbrev N : ℕ
  N = Count Q

  fits : Fits p r.call
  fits = row_ok p input l x h.rows (Fits p r.call) t r at (λ kids ok. ok.fits)

  room : HasRoom (suc DEPTH) Q
  room =
      let deep = h.rows.deep t r at in
      let low = shallow_call p r.call fits in
      let same : length r.path ≡ length Q = ap length q_is ∙ length_mapped Q in
      has_room (suc DEPTH) Q (omega (arith, deep, low, same))

  -- its next child is not there
  no_child : (u : ℕ) (s : TaskRow) → slice_get x.tasks u ≡ Some s → s.path ≡ map suc (Q ++ N ∷ []) → ⊥
  no_child u s got is =
      let w = h.rows.there u s got in
      let same : w.0 ≡ Q ++ N ∷ [] = mapped_is w.0 (Q ++ N ∷ []) (sym w.1 ∙ is) in
      let less = (there_child (suc DEPTH) Count Q N (subst (Leads p x.tasks) same w.2)).1 in
      omega (arith, less)

  no_grandchild : (u : ℕ) (s : TaskRow) → slice_get x.tasks u ≡ Some s → (k : ℕ) → s.path ≡ map suc (Q ++ N ∷ []) ++ k ∷ [] → ⊥
  no_grandchild u s got k is =
      let w = h.rows.there u s got in
      by w.0 w.1 w.2 k is
    where
      by : (q : List ℕ) → s.path ≡ map suc q → Leads p x.tasks q → (k : ℕ) → s.path ≡ map suc (Q ++ N ∷ []) ++ k ∷ [] → ⊥
      by q at_q there zero is = no_zero q (Q ++ N ∷ []) (sym at_q ∙ is)
        where
          no_zero : (q o : List ℕ) → map suc q ≡ map suc o ++ 0 ∷ [] → ⊥
          no_zero [] [] e = cc
          no_zero [] (j ∷ o) e = cc
          no_zero (i ∷ q) [] e = first (head_same e)
            where
              head_same : suc i ∷ map suc q ≡ 0 ∷ [] → suc i ≡ 0
              head_same e = cc

              first : suc i ≡ 0 → ⊥
              first e = omega (arith, e)
          no_zero (i ∷ q) (j ∷ o) e = no_zero q o (tail_same e)
            where
              tail_same : suc i ∷ map suc q ≡ suc j ∷ (map suc o ++ 0 ∷ []) → map suc q ≡ map suc o ++ 0 ∷ []
              tail_same e = cc
      by q at_q there (suc k) is =
          let same : q ≡ (Q ++ N ∷ []) ++ k ∷ [] = mapped_is q ((Q ++ N ∷ []) ++ k ∷ []) (sym at_q ∙ (is ∙ sym (map_snoc (Q ++ N ∷ []) k))) in
          let child = there_child (suc DEPTH) Count (Q ++ N ∷ []) k (subst (Leads p x.tasks) same there) in
          let less = (there_child (suc DEPTH) Count Q N child.0).1 in
          omega (arith, less)

  free : row_at x.tasks (map suc (Q ++ N ∷ [])) ≡ None
  free = by (row_at x.tasks (map suc (Q ++ N ∷ []))) refl
    where
      by : (o : Option TaskRow) → row_at x.tasks (map suc (Q ++ N ∷ [])) ≡ o → o ≡ None
      by None e = refl
      by (Some s) e = let w = row_where x.tasks (map suc (Q ++ N ∷ [])) s e in absurd (no_child w.0 s w.1 w.2)

  absent : forks_in M (standing M (Get (Q ++ N ∷ []))) ≡ []
  absent =
      let was = was_open p input l x h t r at running in
      ap (λ (o : Option TaskRow). forks_in M (standing M (task_or_child p x.tasks (Q ++ N ∷ []) o))) free
      ∙ (ap (λ (q : List ℕ). forks_in M (standing M (child_or_fresh p (last_of (Q ++ N ∷ [])) (row_at x.tasks (map suc q))))) (parent_snoc Q N)
      ∙ (ap (λ (o : Option TaskRow). forks_in M (standing M (child_or_fresh p (last_of (Q ++ N ∷ [])) o))) (subst (λ (z : List ℕ). row_at x.tasks z ≡ Some r) q_is (row_found x.tasks h.rows.once t r at))
      ∙ ap (λ (k : LoopPart). forks_in M (standing M (index_or_fresh p r (last_of (Q ++ N ∷ [])) (slice_get k.indexes (last_of (Q ++ N ∷ [])))))) ((h.rows.loops t r at).other was)))

  module _ (c : Placed) (w : Code M) (call : CallTree) (next : left M (as_task p r) ≡ Fork c w) (placed : c ≡ whole_at (map suc (Q ++ N ∷ [])) call) (deeper : call.depth ≡ suc r.call.depth) where
    abbrev Gone : TaskRow
    Gone = moved P.Running r.answers (suc r.done) r.fault r

    abbrev New : TaskRow
    New = fresh_row (map suc (Q ++ N ∷ [])) call

    abbrev Rows : List TaskRow
    Rows = slice_set x.tasks t Gone

    abbrev Tasks : List TaskRow
    Tasks = Rows ++ New ∷ []

    was : has_begun p r ≡ false
    was = was_open p input l x h t r at running

    gone_open : has_begun p Gone ≡ false
    gone_open = not_begun p input l x h t r at Gone refl

    new_open : has_begun p New ≡ false
    new_open = not_begun p input l x h t r at New refl

    gone_is : put M (forked M) (as_task p r) ≡ as_task p Gone
    gone_is =
        let done : suc (as_task p r).done ≡ (as_task p Gone).done = ap suc (none_added p input l x h t r at r was) ∙ sym (none_added p input l x h t r at Gone gone_open) in
        ap (λ (ph : order.Phase). record { call = (as_task p r).call; phase = ph; answers = r.answers; done = suc (as_task p r).done }) (ap phase_of running)
        ∙ ap (λ (d : ℕ). record { call = (as_task p r).call; phase = order.Running; answers = r.answers; done = d }) done

    new_is : as_task p New ≡ fresh M c
    new_is =
        ap (λ (d : ℕ). record { call = whole_at (map suc (Q ++ N ∷ [])) call; phase = order.Unclaimed; answers = []; done = d }) (none_added p input l x h t r at New new_open)
        ∙ ap (fresh M) (sym placed)

    phase_is : (Get Q).phase ≡ order.Running
    phase_is = ap (λ (u : Task M). u.phase) (here p input l x h t r at) ∙ ap phase_of running

    left_is : left M (Get Q) ≡ Fork c w
    left_is = ap (left M) (here p input l x h t r at) ∙ next

    free_now : row_at Rows (map suc (Q ++ N ∷ [])) ≡ None
    free_now = by (row_at Rows (map suc (Q ++ N ∷ []))) refl
      where
        by : (o : Option TaskRow) → row_at Rows (map suc (Q ++ N ∷ [])) ≡ o → o ≡ None
        by None e = refl
        by (Some s) e =
            let z = row_where Rows (map suc (Q ++ N ∷ [])) s e in
            elim (got_set x.tasks t z.0 r Gone s at z.1) [
              | inl k ↦ absurd (no_child t r at (ap (λ (y : TaskRow). y.path) (sym k.1) ∙ z.2))
              | inr k ↦ absurd (no_child z.0 s k.1 z.2)
            ]

    get_is : tasks_by_path p Tasks ≡ set_at (Q ++ N ∷ []) (fresh M c) (set_at Q (put M (forked M) (Get Q)) Get)
    get_is =
        add_is p Rows New (Q ++ N ∷ []) refl refl free_now
        ∙ (ap (λ (u : Task M). set_at (Q ++ N ∷ []) u (tasks_by_path p Rows)) new_is
        ∙ ap (set_at (Q ++ N ∷ []) (fresh M c)) (set_is p x.tasks h.rows.once t r Gone at refl refl refl Q q_is ∙ ap (λ (u : Task M). set_at Q u Get) (sym gone_is ∙ ap (put M (forked M)) (sym (here p input l x h t r at)))))

    more : length (forks_in M (standing M (put M (forked M) (Get Q)))) ≡ suc (Count Q)
    more = forks_after_fork M (suc DEPTH) (rights_in p) l main_placed (opened_with p.families input) c w Q (by_path p x) leads phase_is left_is h.rows.lawful

    counts : count_of M (tasks_by_path p Tasks) ≡ bump Q Count
    counts = ap (count_of M) get_is ∙ count_forked M Get Q N (put M (forked M) (Get Q)) (fresh M c) more refl absent

    -- what stands in the table now
    data Now (u : ℕ) (s : TaskRow) : Type 0 where
      old : (v : TaskRow) → slice_get x.tasks u ≡ Some v → s.path ≡ v.path → s.call ≡ v.call → LoopOk p s → Now u s
      new : u ≡ length Rows → s ≡ New → Now u s

    gone_ok : LoopOk p Gone
    gone_ok = open_ok p input l x h t r at Gone was gone_open refl (λ e. runs_loop p input l x h t r at e) (λ loop e. absurd (cc (loop, plain))) (λ loop. absurd (cc (loop, plain)))

    now : (u : ℕ) (s : TaskRow) → slice_get Tasks u ≡ Some s → Now u s
    now u s e = elim (got_app Rows New u s e) [
      | inl k ↦ elim (got_set x.tasks t u r Gone s at k) [
        | inl j ↦ old r (subst (λ (n : ℕ). slice_get x.tasks n ≡ Some r) (sym j.0) at) (ap (λ (z : TaskRow). z.path) j.1) (ap (λ (z : TaskRow). z.call) j.1) (subst (LoopOk p) (sym j.1) gone_ok)
        | inr j ↦ old s j.1 refl refl (h.rows.loops u s j.1)
      ]
      | inr k ↦ new k.0 k.1
    ]

    new_ok : LoopOk p New
    new_ok = record {
      begun = λ b. absurd (cc (b, new_open));
      other = λ b. refl;
      looping = λ e. unclaimed_loops e;
      never_ended = λ loop e. two P.Unclaimed refl e;
      zeroing = λ loop b. ap (λ (u : Task M). forks_in M (standing M u)) new_is;
    }
      where
        two : (ph : Phase) → ph ≡ P.Unclaimed → ph ≡ P.Ended → ⊥
        two ph e g = cc

        unclaimed_loops : P.Unclaimed ≡ P.Looping → is_loop_at p call.task ≡ true
        unclaimed_loops e = cc

    there : (u : ℕ) (s : TaskRow) → Now u s → (q : List ℕ) × (s.path ≡ map suc q) × Leads p Tasks q
    there u s (old v got path call ok) =
        let z = h.rows.there u v got in
        (z.0, path ∙ z.1, subst (λ f. IsThere (suc DEPTH) f z.0) (sym counts) (there_more (suc DEPTH) Count Q z.0 z.2))
    there u s (new at_end is) = (
      Q ++ N ∷ [],
      ap (λ (z : TaskRow). z.path) is,
      subst (λ f. IsThere (suc DEPTH) f (Q ++ N ∷ [])) (sym counts)
          (child_there (suc DEPTH) (bump Q Count) Q N (there_more (suc DEPTH) Count Q Q leads) (let b = bump_same Q Count in omega (arith, b)) room),
    )

    once : (u v : ℕ) (s z : TaskRow) → Now u s → Now v z → s.path ≡ z.path → u ≡ v
    once u v s z (old a got path call ok) (old b got' path' call' ok') same = h.rows.once u v a b got got' (sym path ∙ (same ∙ path'))
    once u v s z (old a got path call ok) (new at_end is) same = absurd (no_child u a got (sym path ∙ (same ∙ ap (λ (y : TaskRow). y.path) is)))
    once u v s z (new at_end is) (old b got' path' call' ok') same = absurd (no_child v b got' (sym path' ∙ (sym same ∙ ap (λ (y : TaskRow). y.path) is)))
    once u v s z (new at_end is) (new at_end' is') same = at_end ∙ sym at_end'

    deep : (u : ℕ) (s : TaskRow) → Now u s → s.call.depth ≡ length s.path
    deep u s (old a got path call ok) = ap (λ (k : CallTree). k.depth) call ∙ (h.rows.deep u a got ∙ ap length (sym path))
    deep u s (new at_end is) =
        let d = h.rows.deep t r at in
        let a : s.call.depth ≡ call.depth = ap (λ (z : TaskRow). z.call.depth) is in
        let b : length s.path ≡ length (map suc (Q ++ N ∷ [])) = ap (λ (z : TaskRow). length z.path) is in
        let e : length (map suc (Q ++ N ∷ [])) ≡ suc (length Q) = length_mapped (Q ++ N ∷ []) ∙ length_snoc Q N in
        let g : length r.path ≡ length Q = ap length q_is ∙ length_mapped Q in
        omega (arith, a, b, d, e, g, deeper)

    childless : (u : ℕ) (s : TaskRow) → Now u s → is_loop_at p s.call.task ≡ true → (v : ℕ) (z : TaskRow) → Now v z → is_child s.path z.path ≡ false
    childless u s (old a got path call ok) loop v z (old b got' path' call' ok') =
        ap (λ (q : List ℕ). is_child q z.path) path ∙ (ap (is_child a.path) path' ∙ h.rows.childless u a got (subst (λ (k : CallTree). is_loop_at p k.task ≡ true) call loop) v b got')
    childless u s (old a got path call ok) loop v z (new at_end is) = by_bool (is_child s.path z.path) (λ e.
        (let k = child_is s.path z.path e in
        let whole : map suc (Q ++ N ∷ []) ≡ s.path ++ k.0 ∷ [] = ap (λ (y : TaskRow). y.path) (sym is) ∙ k.1 in
        let home : r.path ≡ a.path = q_is ∙ (sym (parent_snoc (map suc Q) (suc N)) ∙ (ap parent_of (sym (map_snoc Q N) ∙ whole) ∙ (parent_snoc s.path k.0 ∙ path))) in
        let place = h.rows.once t u r a at got home in
        let row : a ≡ r = the_some (sym got ∙ (ap (slice_get x.tasks) (sym place) ∙ at)) in
        let looped : is_loop_at p r.call.task ≡ true = subst (λ (y : TaskRow). is_loop_at p y.call.task ≡ true) row (subst (λ (k : CallTree). is_loop_at p k.task ≡ true) call loop) in
        absurd (cc (looped, plain))))
    childless u s (new at_end is) loop v z (old b got' path' call' ok') = by_bool (is_child s.path z.path) (λ e.
        (let k = child_is s.path z.path e in
        no_grandchild v b got' k.0 (sym path' ∙ (k.1 ∙ ap (λ (y : TaskRow). y.path ++ k.0 ∷ []) is))))
    childless u s (new at_end is) loop v z (new at_end' is') = by_bool (is_child s.path z.path) (λ e.
        not_own New.path (subst (λ (y : TaskRow). is_child New.path y.path ≡ true) is' (subst (λ (y : TaskRow). is_child y.path z.path ≡ true) is e)))

    loops : (u : ℕ) (s : TaskRow) → Now u s → LoopOk p s
    loops u s (old a got path call ok) = ok
    loops u s (new at_end is) = subst (LoopOk p) (sym is) new_ok

    rows_forked : ShowsLawful p input (record { store = x.store; tasks = Tasks })
    rows_forked = record {
      lawful = subst (λ (get : Known M). IsLawful p input (named M (suc DEPTH) (record { get = get; store = x.store }))) (sym get_is)
          (kept_fork M (suc DEPTH) (rights_in p) l main_placed (opened_with p.families input) c w Q (by_path p x) leads room absent phase_is left_is h.rows.lawful);
      there = λ u s e. there u s (now u s e);
      once = λ u v s z eu ev same. once u v s z (now u s eu) (now v z ev) same;
      deep = λ u s e. deep u s (now u s e);
      childless = λ u s e loop v z ev. childless u s (now u s e) loop v z (now v z ev);
      loops = λ u s e. loops u s (now u s e);
    }

    -- how many children it has
    number_is : count_rows (λ (u : TaskRow). is_child r.path u.path) x.tasks ≡ N
    number_is = h.counts t r at was ∙ sym (ap (λ (u : Task M). length (forks_in M (standing M u))) (here p input l x h t r at))

    children_in : (z : List ℕ) → count_rows (λ (u : TaskRow). is_child z u.path) Rows ≡ count_rows (λ (u : TaskRow). is_child z u.path) x.tasks
    children_in = count_children p input x h t r Gone at refl

    -- of other tasks the new one is no child
    no_parent : (u : ℕ) (s : TaskRow) → slice_get x.tasks u ≡ Some s → u ≢ t → is_child s.path New.path ≡ false
    no_parent u s got ne = by_bool (is_child s.path New.path) (λ e.
        (let k = child_is s.path New.path e in
        ne (sym (h.rows.once t u r s at got (q_is ∙ (snoc_same (map suc Q) s.path (suc N) k.0 (sym (map_snoc Q N) ∙ k.1)).0)))))

    abbrev HasCount : TaskRow → Type 0
    HasCount s = has_begun p s ≡ false → count_rows (λ (v : TaskRow). is_child s.path v.path) Tasks ≡ length (forks_in M (standing M (as_task p s)))

    count_gone : HasCount Gone
    count_gone none =
        count_more (λ (v : TaskRow). is_child r.path v.path) Rows New (ap (is_child r.path) (map_snoc Q N ∙ ap (λ (z : List ℕ). z ++ suc N ∷ []) (sym q_is)) ∙ child_snoc r.path (suc N))
        ∙ (ap suc (children_in r.path ∙ number_is)
        ∙ (sym more ∙ ap (λ (u : Task M). length (forks_in M (standing M u))) (ap (put M (forked M)) (here p input l x h t r at) ∙ gone_is)))

    count_fresh : HasCount New
    count_fresh none =
        count_app (λ (v : TaskRow). is_child New.path v.path) Rows New (by_bool (is_child New.path New.path) (not_own New.path))
        ∙ (children_in New.path
        ∙ (count_none (λ (v : TaskRow). is_child New.path v.path) x.tasks (λ u v got. by_bool (is_child New.path v.path) (λ e.
        (let k = child_is New.path v.path e in no_grandchild u v got k.0 k.1)))
        ∙ sym (ap (λ (u : Task M). length (forks_in M (standing M u))) new_is)))

    counts_forked : (u : ℕ) (s : TaskRow) → slice_get Tasks u ≡ Some s → HasCount s
    counts_forked u s e = elim (got_app Rows New u s e) [
      | inl k ↦ elim (got_set x.tasks t u r Gone s at k) [
        | inl j ↦ subst HasCount (sym j.1) count_gone
        | inr j ↦ (λ none. count_app (λ (v : TaskRow). is_child s.path v.path) Rows New (no_parent u s j.1 j.0) ∙ (children_in s.path ∙ h.counts u s j.1 none))
      ]
      | inr k ↦ subst HasCount (sym k.1) count_fresh
    ]

    main_forked : (s : TaskRow) → slice_get Tasks 0 ≡ Some s → s.path ≡ []
    main_forked s e = elim (got_app Rows New 0 s e) [
      | inl k ↦ main_set p input x h t r Gone at refl s k
      | inr k ↦ absurd (some_row (slice_get_within x.tasks t r at) k.0)
    ]
      where
        some_row : t < length x.tasks → 0 ≡ length Rows → ⊥
        some_row a b = omega (arith, length-set x.tasks t Gone)

    -- a child that was there has a smaller number
    number_low : (u : ℕ) (v : TaskRow) → slice_get x.tasks u ≡ Some v → (j : ℕ) → v.path ≡ map suc Q ++ j ∷ [] → j ≤ N
    number_low u v got zero e = omega arith
    number_low u v got (suc j) e =
        let w = h.rows.there u v got in
        let is : w.0 ≡ Q ++ j ∷ [] = mapped_is w.0 (Q ++ j ∷ []) (sym w.1 ∙ (e ∙ sym (map_snoc Q j))) in
        let less = (there_child (suc DEPTH) Count Q j (subst (λ (y : List ℕ). Leads p x.tasks y) is w.2)).1 in
        omega (arith, less)

    new_path : (s : TaskRow) → s ≡ New → s.path ≡ map suc Q ++ suc N ∷ []
    new_path s is = ap (λ (z : TaskRow). z.path) is ∙ map_snoc Q N

    order_forked : (u v : ℕ) (a b : TaskRow) → slice_get Tasks u ≡ Some a → slice_get Tasks v ≡ Some b
        → (z : List ℕ) (i j : ℕ) → a.path ≡ z ++ i ∷ [] → b.path ≡ z ++ j ∷ [] → i < j → u < v
    order_forked u v a b ata atb z i j pa pb less = elim (got_app Rows New u a ata) [
      | inl one ↦ elim (got_app Rows New v b atb) [
        | inl two ↦ order_set p input x h t r Gone at refl u v a b one two z i j pa pb less
        | inr two ↦ before (slice_get_within Rows u a one) two.0
      ]
      | inr one ↦ elim (got_app Rows New v b atb) [
        | inl two ↦
            (let same = snoc_same (map suc Q) z (suc N) i (sym (new_path a one.1) ∙ pa) in
            let y = old_path p input x h t r Gone at refl v b two in
            let low = number_low v y.0 y.1 j (sym y.2 ∙ (pb ∙ ap (λ (g : List ℕ). g ++ j ∷ []) (sym same.0))) in
            let is : suc N ≡ i = same.1 in
            absurd (omega (arith, low, is, less)))
        | inr two ↦ (let is : i ≡ j = (snoc_same z z i j (sym pa ∙ (new_path a one.1 ∙ (sym (new_path b two.1) ∙ pb)))).1 in absurd (omega (arith, is, less)))
      ]
    ]
      where
        before : u < length Rows → v ≡ length Rows → u < v
        before a b = omega arith

    gone_faults : FaultsOk p Gone
    gone_faults = record { fault = no_fault p input l x h t r at running; indexes = λ i v e. absurd (nothing i v (sym (ap (λ (k : LoopPart). slice_get k.indexes i) ((h.rows.loops t r at).other was)) ∙ e)) }
      where
        nothing : (i : ℕ) (v : IndexRow) → None ≡ Some v → ⊥
        nothing i v e = cc

    faults_forked : (u : ℕ) (s : TaskRow) → slice_get Tasks u ≡ Some s → FaultsOk p s
    faults_forked u s e = elim (got_app Rows New u s e) [
      | inl k ↦ faults_set p input x h t r Gone at refl gone_faults u s k
      | inr k ↦ subst (FaultsOk p) (sym k.1) (record { fault = refl; indexes = λ i v e. absurd (nothing i v e) })
    ]
      where
        nothing : (i : ℕ) (v : IndexRow) → None ≡ Some v → ⊥
        nothing i v e = cc

    pub forks : IsLawfulTable p input (record { store = x.store; tasks = Tasks })
    forks = record {
      rows = rows_forked;
      all = all_more p x.tasks t r Gone at refl refl Q New refl (ap length absent) counts h.all;
      main = main_forked;
      order = order_forked;
      counts = counts_forked;
      faults = λ u s e. (faults_forked u s e).fault;
      index_faults = λ u s e. (faults_forked u s e).indexes;
    }

    -- what the table shows then
    pub forks_shown : shown p (record { store = x.store; tasks = Tasks })
        ≡ record { forest = change M (put M (forked M)) (add_last M (fresh M c)) (place_of Q) (shown p x).forest; store = x.store }
    forks_shown =
        ap (λ (get : Known M). named M (suc DEPTH) (record { get = get; store = x.store })) get_is
        ∙ ap (λ (F : Forest M). record { forest = F; store = x.store }) (square_forked M (suc DEPTH) c Get Q room leads more absent)
