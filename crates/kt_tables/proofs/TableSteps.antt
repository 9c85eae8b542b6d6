-- The events that are no loop's: claims (of loops too), acts (also those of a zeroing), ends and finishes. Each keeps a table lawful, and
-- the table afterwards shows the state of the theory after it.
use Rattle.std.proofs.Common.{◌≡◌, ◌≢◌, ℕ, suc, Bool, true, false, cond, List, [], ◌++◌, map, length, Option, Some, None, inl, inr, ◌&&◌, ◌||◌, refl, sym, ap, subst, ◌∙◌, arith, slice_get, slice_set}
use Rattle.kt_law.specs.Acts.{Act}
use Rattle.kt_law.specs.declared.limits.TheConstants.{DEPTH}
use Rattle.kt_order.specs.Body.{Stop, Do}
use Rattle.kt_order.specs.Machine.{Machine, Code}
use Rattle.kt_order.specs.Sequential as sequential
use Rattle.kt_order.specs.Laws.{Laws}
use Rattle.kt_order.specs.Forest as order
use Rattle.kt_order.specs.Forest.{Task, Forest, change}
use Rattle.kt_order.specs.Rest.{standing, left, left_of}
use Rattle.kt_order.specs.Shown.{fault_of}
use Rattle.kt_order.specs.Events as events
use Rattle.kt_order.specs.Events.{Now, put, did, ended, same_frame, MayPass, AllFinished}
use Rattle.kt_order.specs.Lawful.{PhaseOk}
use Rattle.kt_order.specs.Paths.{place_of, set_at, IsThere, Known, children_at, Earlier}
use Rattle.kt_order.specs.Named.{Named, named, count_of, forks_in}
use Rattle.kt_order.proofs.ByPaths.{kept_claim, kept_finish, kept_do, kept_end, forks_after_do, forks_after_end}
use Rattle.kt_order.proofs.Nodes.{left_is}
use Rattle.kt_order.proofs.Stands.{stand_ended}
use Rattle.kt_order.proofs.Squares.{count_kept, square}
use Rattle.kt_prog.specs.Calls.{CallTree}
use Rattle.kt_prog.specs.Script.{Fault}
use Rattle.kt_prog.specs.Operations.{is_loop_at}
use Rattle.kt_prog.specs.Reference.{machine_of, main_placed, opened_with}
use Rattle.kt_prog.specs.declared.programs.Program.{Program}
use Rattle.kt_runs.specs.Rights.{rights_in}
use Rattle.kt_runs.specs.States.{IsLawful}
use Rattle.kt_tables.specs.Tables.{is_child, is_finished}
use Rattle.kt_tables.specs.TableEvents.{is_looping}
use Rattle.kt_tables.specs.TableLaws.{phase_of}
use Rattle.kt_tables.specs.declared.events.Phase.{Phase}
use Rattle.kt_tables.specs.declared.events.Phase.TheVariants as P
use Rattle.kt_tables.specs.Tables.{IndexRow, LoopPart, TaskRow, TaskTable}
use Rattle.kt_tables.specs.TableLaws.{has_begun, as_task, tasks_by_path, by_path, shown, Leads, LoopOk, shown_fault, fault_left, ShowsLawful, IsLawfulTable}
use Rattle.kt_tables.proofs.TableRows.{got_set}
use Rattle.kt_tables.proofs.TablePaths.{set_is, get_row, row_ok}
use Rattle.kt_tables.proofs.TableChanges.{ForksAlike, stays}
use Rattle.kt_tables.proofs.FullOthers.{all_same}

begun_not : (b : Bool) (ph : Phase) → (is_looping ph || is_finished ph) ≡ false → ((is_looping ph || is_finished ph) && b) ≡ false
begun_not b ph e = rw e refl

-- the row with another phase, answers, count of operations and fault
abbrev pub moved : Phase → List ℕ → ℕ → Option Fault → TaskRow → TaskRow
moved phase answers done fault r = record { path = r.path; call = r.call; phase = phase; answers = answers; done = done; fault = fault; loop = r.loop }

module _ (p : Program) (input : List ℕ) (l : Laws (machine_of p) (rights_in p)) (x : TaskTable) (h : IsLawfulTable p input x) (t : ℕ) (r : TaskRow) (at : slice_get x.tasks t ≡ Some r) where
  abbrev M : Machine
  M = machine_of p

  abbrev pub Q : List ℕ
  Q = (h.rows.there t r at).0

  abbrev N : Named M
  N = by_path p x

  abbrev Get : Known M
  Get = tasks_by_path p x.tasks

  q_is : r.path ≡ map suc Q
  q_is = (h.rows.there t r at).1

  leads : Leads p x.tasks Q
  leads = (h.rows.there t r at).2

  pub here : Get Q ≡ as_task p r
  here = get_row p input l x h.rows t r at Q q_is

  -- the table with this row in its place and this store is lawful, and shows the forest
  pub record Gives (store : List ℕ) (r' : TaskRow) (F : Forest M) : Type 0 where
    pub table : IsLawfulTable p input (record { store = store; tasks = slice_set x.tasks t r' })
    pub shows : shown p (record { store = store; tasks = slice_set x.tasks t r' }) ≡ record { forest = F; store = store }

  -- the row has a fault only where its body has ended
  pub none_yet : (ph : Phase) → r.phase ≡ ph → r.fault ≡ shown_fault p (moved ph r.answers r.done r.fault r)
  none_yet ph e = subst (λ (w : Phase). r.fault ≡ shown_fault p (moved w r.answers r.done r.fault r)) e (h.faults t r at)

  -- before a loop begins nothing is added to its count of operations
  pub none_added : (s : TaskRow) → has_begun p s ≡ false → (as_task p s).done ≡ s.done
  none_added s e = let zero_is : cond (has_begun p s) (suc s.call.length) 0 ≡ 0 = ap (λ (b : Bool). cond b (suc s.call.length) 0) e in omega (arith, zero_is)

  pub not_begun : (s : TaskRow) → (is_looping s.phase || is_finished s.phase) ≡ false → has_begun p s ≡ false
  not_begun s e = begun_not (is_loop_at p s.call.task) s.phase e

  -- a change of a row that has not begun, which leaves its forks
  module _ (r' : TaskRow) (path : r'.path ≡ r.path) (call : r'.call ≡ r.call) (part : r'.loop ≡ r.loop) (was : has_begun p r ≡ false) (now : Task M → Now M) (is : put M now (as_task p r) ≡ as_task p r')
      (forks : forks_in M (standing M (put M now (Get Q))) ≡ forks_in M (standing M (Get Q))) (good : LoopOk p r') (fault : r'.fault ≡ shown_fault p r') where
    abbrev Tasks : List TaskRow
    Tasks = slice_set x.tasks t r'

    get_is : tasks_by_path p Tasks ≡ set_at Q (put M now (Get Q)) Get
    get_is = set_is p x.tasks h.rows.once t r r' at path call part Q q_is ∙ ap (λ (u : Task M). set_at Q u Get) (sym is ∙ ap (put M now) (sym here))

    counts : count_of M (tasks_by_path p Tasks) ≡ count_of M Get
    counts = ap (count_of M) get_is ∙ count_kept M Get Q (put M now (Get Q)) forks

    record Old (u : ℕ) (s : TaskRow) : Type 0 where
      row : TaskRow
      there : slice_get x.tasks u ≡ Some row
      was_path : s.path ≡ row.path
      was_call : s.call ≡ row.call
      good_row : LoopOk p s

    old : (u : ℕ) (s : TaskRow) → slice_get Tasks u ≡ Some s → Old u s
    old u s e = elim (got_set x.tasks t u r r' s at e) [
      | inl k ↦ record {
        row = r;
        there = subst (λ (n : ℕ). slice_get x.tasks n ≡ Some r) (sym k.0) at;
        was_path = ap (λ (z : TaskRow). z.path) k.1 ∙ path;
        was_call = ap (λ (z : TaskRow). z.call) k.1 ∙ call;
        good_row = subst (LoopOk p) (sym k.1) good;
      }
      | inr k ↦ record { row = s; there = k.1; was_path = refl; was_call = refl; good_row = h.rows.loops u s k.1 }
    ]

    rows_changed : (store : List ℕ) → IsLawful p input (named M (suc DEPTH) (record { get = set_at Q (put M now (Get Q)) Get; store = store }))
        → ShowsLawful p input (record { store = store; tasks = Tasks })
    rows_changed store lawful = record {
      lawful = subst (λ (get : Known M). IsLawful p input (named M (suc DEPTH) (record { get = get; store = store }))) (sym get_is) lawful;
      there = λ u s e. (let o = old u s e in let w = h.rows.there u o.row o.there in (w.0, o.was_path ∙ w.1, subst (λ c. IsThere (suc DEPTH) c w.0) (sym counts) w.2));
      once = λ u v s z eu ev same. (let a = old u s eu in let b = old v z ev in h.rows.once u v a.row b.row a.there b.there (sym a.was_path ∙ (same ∙ b.was_path)));
      deep = λ u s e. (let o = old u s e in ap (λ (c : CallTree). c.depth) o.was_call ∙ (h.rows.deep u o.row o.there ∙ ap length (sym o.was_path)));
      childless = λ u s e looped v z ev. (let a = old u s e in let b = old v z ev in
          ap (λ (q : List ℕ). is_child q z.path) a.was_path ∙ (ap (is_child a.row.path) b.was_path
          ∙ h.rows.childless u a.row a.there (subst (λ (c : CallTree). is_loop_at p c.task ≡ true) a.was_call looped) v b.row b.there));
      loops = λ u s e. (old u s e).good_row;
    }

    -- it has no indexes
    no_index : (i : ℕ) (v : IndexRow) → slice_get r'.loop.indexes i ≡ Some v → ⊥
    no_index i v e = nothing (sym (ap (λ (k : LoopPart). slice_get k.indexes i) (part ∙ (h.rows.loops t r at).other was)) ∙ e)
      where
        nothing : None ≡ Some v → ⊥
        nothing e = cc

    alike : ForksAlike p r' r
    alike none = (was, ap length (ap (λ (u : Task M). forks_in M (standing M u)) (sym is ∙ ap (put M now) (sym here)) ∙ (forks ∙ ap (λ (u : Task M). forks_in M (standing M u)) here)))

    changed : (store : List ℕ) → IsLawful p input (named M (suc DEPTH) (record { get = set_at Q (put M now (Get Q)) Get; store = store }))
        → Gives store r' (change M (put M now) (same_frame M) (place_of Q) (shown p x).forest)
    changed store lawful = record {
      table = stays p input x h t r r' at path store (rows_changed store lawful) (all_same p x.tasks t r r' at path part counts h.all) alike
          (record { fault = fault; indexes = λ i v e. absurd (no_index i v e) });
      shows = ap (λ (get : Known M). named M (suc DEPTH) (record { get = get; store = store })) get_is
          ∙ ap (λ (F : Forest M). record { forest = F; store = store }) (square M (suc DEPTH) now Get Q leads forks);
    }

  -- a row that has not begun, with the loop part that it had
  pub open_ok : (s : TaskRow) → has_begun p r ≡ false → has_begun p s ≡ false → s.loop ≡ r.loop → s.phase ≢ P.Looping → (is_loop_at p s.call.task ≡ true → s.phase ≢ P.Ended)
      → (is_loop_at p s.call.task ≡ true → forks_in M (standing M (as_task p s)) ≡ []) → LoopOk p s
  open_ok s was now part none_loops never none = record {
    begun = λ b. absurd (cc (b, now));
    other = λ b. part ∙ (h.rows.loops t r at).other was;
    looping = λ e. absurd (none_loops e);
    never_ended = never;
    zeroing = λ loop b. none loop;
  }

  runs_on : P.Running ≡ P.Ended → ⊥
  runs_on e = cc

  pub runs_loop : P.Running ≡ P.Looping → ⊥
  runs_loop e = cc

  ended_loops : P.Ended ≡ P.Looping → ⊥
  ended_loops e = cc

  finished_loops : P.Finished ≡ P.Looping → ⊥
  finished_loops e = cc

  -- a claim, in order or ahead of tasks from which it is apart
  pub claims : r.phase ≡ P.Unclaimed → Earlier M (MayPass M (rights_in p)) Q Get
      → Gives x.store (moved P.Running r.answers r.done r.fault r) (change M (put M (events.in_phase M order.Running)) (same_frame M) (place_of Q) (shown p x).forest)
  claims unclaimed before =
      let r' = moved P.Running r.answers r.done r.fault r in
      let was = not_begun r (ap (λ (ph : Phase). is_looping ph || is_finished ph) unclaimed) in
      let now = not_begun r' refl in
      let done : (as_task p r).done ≡ (as_task p r').done = none_added r was ∙ sym (none_added r' now) in
      let same : put M (events.in_phase M order.Running) (as_task p r) ≡ as_task p r' = ap (λ (d : ℕ). record { call = (as_task p r).call; phase = order.Running; answers = r.answers; done = d }) done in
      let forks : forks_in M (standing M (as_task p r')) ≡ forks_in M (standing M (as_task p r)) = ap (λ (u : Task M). forks_in M (standing M u)) (sym same) in
      changed r' refl refl refl was (events.in_phase M order.Running) same refl
      (open_ok r' was now refl (λ e. runs_loop e) (λ loop e. runs_on e) (λ loop. forks ∙ (h.rows.loops t r at).zeroing loop was)) (none_yet P.Unclaimed unclaimed) x.store
      (kept_claim M (suc DEPTH) (rights_in p) l main_placed (opened_with p.families input) Q N leads (ap (λ (u : Task M). u.phase) here ∙ ap phase_of unclaimed) before h.rows.lawful)

  module _ (running : r.phase ≡ P.Running) where
    pub was_open : has_begun p r ≡ false
    was_open = not_begun r (ap (λ (ph : Phase). is_looping ph || is_finished ph) running)

    pub get_phase : (Get Q).phase ≡ order.Running
    get_phase = ap (λ (u : Task M). u.phase) here ∙ ap phase_of running

    pub no_fault : r.fault ≡ None
    no_fault = none_yet P.Running running

    -- an act of the body, also of a loop's zeroing
    pub acts : (q : Act) (k : ℕ → Code M) → left M (as_task p r) ≡ Do q k → (answers store : List ℕ) → sequential.keeps M q (M.answer q x.store) ≡ answers → M.after q x.store ≡ store
        → Gives store (moved P.Running (r.answers ++ answers) (suc r.done) r.fault r) (change M (put M (did M q (M.answer q x.store))) (same_frame M) (place_of Q) (shown p x).forest)
    acts q k e answers store heard after =
        let r' = moved P.Running (r.answers ++ answers) (suc r.done) r.fault r in
        let f = did M q (M.answer q x.store) in
        let now = not_begun r' refl in
        let gone : suc (as_task p r).done ≡ (as_task p r').done = ap suc (none_added r was_open) ∙ sym (none_added r' now) in
        let same : put M f (as_task p r) ≡ as_task p r' =
        ap (λ (ph : order.Phase). record { call = (as_task p r).call; phase = ph; answers = r.answers ++ sequential.keeps M q (M.answer q x.store); done = suc (as_task p r).done }) (ap phase_of running)
        ∙ (ap (λ (ys : List ℕ). record { call = (as_task p r).call; phase = order.Running; answers = r.answers ++ ys; done = suc (as_task p r).done }) heard
        ∙ ap (λ (d : ℕ). record { call = (as_task p r).call; phase = order.Running; answers = r.answers ++ answers; done = d }) gone) in
        let left_is : left M (Get Q) ≡ Do q k = ap (left M) here ∙ e in
        let forks = forks_after_do M (suc DEPTH) (rights_in p) l main_placed (opened_with p.families input) q k Q N leads get_phase left_is h.rows.lawful in
        let forks_row : forks_in M (standing M (as_task p r')) ≡ forks_in M (standing M (as_task p r)) =
        ap (λ (u : Task M). forks_in M (standing M u)) (sym same ∙ ap (put M f) (sym here)) ∙ (forks ∙ ap (λ (u : Task M). forks_in M (standing M u)) here) in
        subst (λ (s : List ℕ). Gives s r' (change M (put M f) (same_frame M) (place_of Q) (shown p x).forest)) after
        (changed r' refl refl refl was_open f same forks
        (open_ok r' was_open now refl (λ e. runs_loop e) (λ loop g. runs_on g) (λ loop. forks_row ∙ (h.rows.loops t r at).zeroing loop was_open)) no_fault (M.after q x.store)
        (kept_do M (suc DEPTH) (rights_in p) l main_placed (opened_with p.families input) q k Q N leads get_phase left_is h.rows.lawful))

    -- what is left once the body has ended so
    over_left : (f : Option Fault) → left M (as_task p r) ≡ Stop f → left M (put M (ended M) (as_task p r)) ≡ Stop f
    over_left f e = row_ok p input l x h.rows (left M (put M (ended M) (as_task p r)) ≡ Stop f) t r at (λ kids ok.
        ap (left_of M) (stand_ended M (M.tree (as_task p r).call) r.answers (as_task p r).done ok.st f ok.stands
        (sym (left_is M (rights_in p) l (as_task p r) kids ok) ∙ e)
        (subst (λ (ph : order.Phase). PhaseOk M ph (as_task p r) ok.st kids) (ap phase_of running) ok.phase)))

    -- the end of a body that is no loop's
    pub ends : (f : Option Fault) → left M (as_task p r) ≡ Stop f → is_loop_at p r.call.task ≡ false
        → Gives x.store (moved P.Ended r.answers (suc r.done) f r) (change M (put M (ended M)) (same_frame M) (place_of Q) (shown p x).forest)
    ends f e plain =
        let r' = moved P.Ended r.answers (suc r.done) f r in
        let now = not_begun r' refl in
        let gone : suc (as_task p r).done ≡ (as_task p r').done = ap suc (none_added r was_open) ∙ sym (none_added r' now) in
        let same : put M (ended M) (as_task p r) ≡ as_task p r' = ap (λ (d : ℕ). record { call = (as_task p r).call; phase = order.Ended; answers = r.answers; done = d }) gone in
        let left-so : left M (Get Q) ≡ Stop f = ap (left M) here ∙ e in
        changed r' refl refl refl was_open (ended M) same
        (forks_after_end M (suc DEPTH) (rights_in p) l main_placed (opened_with p.families input) f Q N leads get_phase left-so h.rows.lawful)
        (open_ok r' was_open now refl (λ e. ended_loops e) (λ loop g. absurd (cc (loop, plain))) (λ loop. absurd (cc (loop, plain))))
        (ap (fault_of M) (sym (over_left f e)) ∙ ap (λ (u : Task M). fault_left p u) same) x.store
        (kept_end M (suc DEPTH) (rights_in p) l main_placed (opened_with p.families input) f Q N leads get_phase left-so h.rows.lawful)

  -- the finish of a task that is no loop
  pub finishes : r.phase ≡ P.Ended → is_loop_at p r.call.task ≡ false → AllFinished M (children_at M (suc DEPTH) Q Get (count_of M Get))
      → Gives x.store (moved P.Finished r.answers r.done r.fault r) (change M (put M (events.in_phase M order.Finished)) (same_frame M) (place_of Q) (shown p x).forest)
  finishes over plain kids =
      let r' = moved P.Finished r.answers r.done r.fault r in
      let was = not_begun r (ap (λ (ph : Phase). is_looping ph || is_finished ph) over) in
      let now : has_begun p r' ≡ false = plain in
      let done : (as_task p r).done ≡ (as_task p r').done = none_added r was ∙ sym (none_added r' now) in
      let same : put M (events.in_phase M order.Finished) (as_task p r) ≡ as_task p r' = ap (λ (d : ℕ). record { call = (as_task p r).call; phase = order.Finished; answers = r.answers; done = d }) done in
      let before : has_begun p (moved P.Ended r.answers r.done r.fault r) ≡ false = refl in
      let same_done : (as_task p (moved P.Ended r.answers r.done r.fault r)).done ≡ (as_task p r').done = none_added (moved P.Ended r.answers r.done r.fault r) before ∙ sym (none_added r' now) in
      changed r' refl refl refl was (events.in_phase M order.Finished) same refl
      (open_ok r' was now refl (λ e. finished_loops e) (λ loop e. absurd (cc (loop, plain))) (λ loop. absurd (cc (loop, plain))))
      (none_yet P.Ended over ∙ ap (λ (d : ℕ). fault_left p (record { call = (as_task p r).call; phase = order.Finished; answers = r.answers; done = d })) same_done) x.store
      (kept_finish M (suc DEPTH) (rights_in p) l main_placed (opened_with p.families input) Q N leads (ap (λ (u : Task M). u.phase) here ∙ ap phase_of over) kids h.rows.lawful)
