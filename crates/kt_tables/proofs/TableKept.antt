-- The opening table is lawful. An event that nothing refuses keeps a table lawful, and the table afterwards shows the state of the theory
-- after the event.
use Rattle.std.proofs.Common.{◌≡◌, ◌<◌, ◌+◌, ℕ, zero, suc, Bool, true, false, List, [], ◌∷◌, ◌++◌, length, map, Option, Some, None, inl, inr, ◌||◌, refl, sym, ap, subst, ◌∙◌, arith, append-nil, slice_get, slice_set}
use Rattle.std.proofs.lemmas.List.{set-get_or}
use Rattle.kt_law.specs.Acts.{Act, Load, Store, Fold}
use Rattle.kt_law.specs.declared.limits.TheConstants.{DEPTH}
use Rattle.kt_order.specs.Body.{Stop, Do, Fork}
use Rattle.kt_order.specs.Machine.{Machine, Code}
use Rattle.kt_order.specs.Laws.{Laws}
use Rattle.kt_order.specs.Forest as order
use Rattle.kt_order.specs.Forest.{Task, Forest, Nil, Node, change, add_last, fresh}
use Rattle.kt_order.specs.Rest.{standing, left}
use Rattle.kt_order.specs.Stand.{Standing}
use Rattle.kt_order.specs.Events as events
use Rattle.kt_order.specs.Events.{put, did, ended, forked, same_frame, operate, MayPass}
use Rattle.kt_order.specs.Paths.{IsThere, grown, place_of, Earlier}
use Rattle.kt_order.specs.Named.{forks_in, count_of}
use Rattle.kt_order.proofs.PathsAdd.{grown_none}
use Rattle.kt_order.proofs.Squares.{left_there}
use Rattle.kt_prog.specs.Calls.{CallTree, main_call, Whole}
use Rattle.kt_prog.specs.Laws.{BodiesKeep, LoopsAreDirect}
use Rattle.kt_prog.specs.Script.{Fault}
use Rattle.kt_prog.specs.Store as plain
use Rattle.kt_prog.specs.Operations.{is_loop_at, IsNext}
use Rattle.kt_prog.specs.Accepted.{IsAccepted}
use Rattle.kt_prog.specs.Reference.{Placed, placed_fork, machine_of, main_placed, opened_with}
use Rattle.kt_prog.specs.declared.programs.Program.{Program}
use Rattle.kt_prog.specs.declared.runs.Operation.{Operation}
use Rattle.kt_prog.specs.declared.runs.Operation.TheVariants as O
use Rattle.kt_runs.specs.Bodies.{IsFirst}
use Rattle.kt_runs.specs.Rights.{rights_in}
use Rattle.kt_runs.specs.States.{IsLawful, after_events}
use Rattle.kt_runs.specs.CoreEvents.{events_of}
use Rattle.kt_runs.specs.Theorems.{whole_at}
use Rattle.kt_tables.specs.Tables.{IndexRow, TaskRow, TaskTable, fresh_row, is_child, is_finished, count_rows, opening_table, open_child, next_child}
use Rattle.kt_tables.specs.TableEvents.{task_of, IsDue, Suits, CanAsk, is_looping, refusal_of, refusal_at, refusal, in_phase, went_on, row_after, store_after, added_by, with_row, after_of, after_at, table_after}
use Rattle.kt_tables.specs.TableLaws.{has_begun, as_task, tasks_by_path, shown, shown_fault, LoopOk, as_row, IsLawfulTable}
use Rattle.kt_tables.specs.TableTheory.{core_event}
use Rattle.kt_tables.specs.declared.events.Event.{Event}
use Rattle.kt_tables.specs.declared.events.Event.TheVariants as E
use Rattle.kt_tables.specs.declared.events.Phase.{Phase}
use Rattle.kt_tables.specs.declared.events.Phase.TheVariants as P
use Rattle.kt_runs.proofs.Runs.{opening_lawful}
use Rattle.kt_runs.proofs.Next.{next_is_first}
use Rattle.kt_runs.proofs.LoopActs.{IsActOf, loop_next_is_act}
use Rattle.kt_tables.proofs.TableRows.{the_some, map_snoc}
use Rattle.kt_tables.proofs.TablePaths.{row_ok}
use Rattle.kt_tables.proofs.TableClaims.{in_order, when_ready, all_children}
use Rattle.kt_runs.proofs.ForkedCalls.{fork_path, fork_deep}
use Rattle.kt_tables.proofs.TableTests.{happens, none_open, none_clashes, none_open_child}
use Rattle.kt_tables.proofs.TableSteps as steps
use Rattle.kt_tables.proofs.TableSteps.{moved, here, no_fault, was_open}
use Rattle.kt_tables.proofs.TableAdds as adds
use Rattle.kt_tables.proofs.LoopSteps as loops

module _ (p : Program) where
  -- what a body begins with, where its first operation is known
  load_first : (object element a : ℕ) (w : Code (machine_of p)) → IsFirst p (O.Load object element a) w
      → (k : ℕ → Code (machine_of p)) × (w ≡ Do (record { object = object; element = element; deed = Load }) k)
  load_first object element a (Stop f) h = absurd h
  load_first object element a (Do q k) h = (k, ap (λ (b : Act). Do b k) h)
  load_first object element a (Fork c w) h = absurd h

  store_first : (object element v : ℕ) (w : Code (machine_of p)) → IsFirst p (O.Store object element v) w
      → (k : ℕ → Code (machine_of p)) × (w ≡ Do (record { object = object; element = element; deed = Store v }) k)
  store_first object element v (Stop f) h = absurd h
  store_first object element v (Do q k) h = (k, ap (λ (b : Act). Do b k) h)
  store_first object element v (Fork c w) h = absurd h

  fork_first : (call : CallTree) (w : Code (machine_of p)) → IsFirst p (O.Fork call) w
      → (c : Placed) × (v : Code (machine_of p)) × (w ≡ Fork c v) × (c.job ≡ Whole call)
  fork_first call (Stop f) h = absurd h
  fork_first call (Do q k) h = absurd h
  fork_first call (Fork c w) h = (c, w, refl, h)

  end_first : (w : Code (machine_of p)) → IsFirst p O.End w → w ≡ Stop None
  end_first (Stop f) h = ap (λ (g : Option Fault). Stop g) h
  end_first (Do q k) h = absurd h
  end_first (Fork c w) h = absurd h

  module _ (input : List ℕ) (l : Laws (machine_of p) (rights_in p)) where
    -- the opening table
    abbrev Main : TaskRow
    Main = fresh_row [] main_call

    abbrev Opening : TaskTable
    Opening = opening_table p input

    abbrev HasCount : TaskRow → Type 0
    HasCount r = count_rows (λ (u : TaskRow). is_child r.path u.path) Opening.tasks ≡ length (forks_in (machine_of p) (standing (machine_of p) (as_task p r)))

    main_ok : LoopOk p Main
    main_ok = record {
      begun = λ e. cc e;
      other = λ e. refl;
      looping = λ e. absurd (not_looping e);
      never_ended = λ loop e. not_ended e;
      zeroing = λ loop e. refl;
    }
      where
        not_looping : P.Unclaimed ≡ P.Looping → ⊥
        not_looping e = cc

        not_ended : P.Unclaimed ≡ P.Ended → ⊥
        not_ended e = cc

    opening_forest : (depth : ℕ) → Node (fresh (machine_of p) main_placed) (grown (machine_of p) depth (tasks_by_path p Opening.tasks) (count_of (machine_of p) (tasks_by_path p Opening.tasks))) Nil
        ≡ Node (fresh (machine_of p) main_placed) Nil Nil
    opening_forest depth = ap (λ (F : Forest (machine_of p)). Node (fresh (machine_of p) main_placed) F Nil) (grown_none (machine_of p) depth (tasks_by_path p Opening.tasks) (count_of (machine_of p) (tasks_by_path p Opening.tasks)) refl)

    alone_there : (depth : ℕ) (count : List ℕ → ℕ) (q : List ℕ) → count [] ≡ 0 → IsThere depth count q → q ≡ []
    alone_there depth count [] none there = refl
    alone_there zero count (k ∷ q) none there = absurd there
    alone_there (suc depth) count (k ∷ q) none there = let less = there.0 in absurd (omega (arith, none))

    only_main : (t : ℕ) (r : TaskRow) → slice_get Opening.tasks t ≡ Some r → (t ≡ 0) × (Main ≡ r)
    only_main zero r at = (refl, the_some at)
    only_main (suc t) r at = cc

    pub opening_table_lawful : IsLawfulTable p input Opening
    opening_table_lawful = record {
      rows = record {
        lawful = subst (λ (F : Forest (machine_of p)). IsLawful p input (record { forest = F; store = opened_with p.families input })) (sym (opening_forest (suc DEPTH))) (opening_lawful p input l);
        there = λ t r at. ([], ap (λ (z : TaskRow). z.path) (sym (only_main t r at).1), tt);
        once = λ t u r s at ats same. (only_main t r at).0 ∙ sym (only_main u s ats).0;
        deep = λ t r at. subst (λ (z : TaskRow). z.call.depth ≡ length z.path) (only_main t r at).1 refl;
        childless = λ t r at loop u s ats. subst (λ (z : TaskRow). is_child r.path z.path ≡ false) (only_main u s ats).1 refl;
        loops = λ t r at. subst (LoopOk p) (only_main t r at).1 main_ok;
      };
      all = λ q there. as_row 0 Main refl (ap (map suc) (sym (alone_there (suc DEPTH) (count_of (machine_of p) (tasks_by_path p Opening.tasks)) q refl there)));
      main = λ r at. ap (λ (z : TaskRow). z.path) (sym (only_main 0 r at).1);
      order = λ t u r s at ats path i j pr ps less. absurd (no_end path i (ap (λ (z : TaskRow). z.path) (only_main t r at).1 ∙ pr));
      counts = λ t r at none. subst HasCount (only_main t r at).1 refl;
      faults = λ t r at. subst (λ (z : TaskRow). z.fault ≡ shown_fault p z) (only_main t r at).1 refl;
      index_faults = λ t r at i v e. absurd (nothing i v (ap (λ (z : TaskRow). slice_get z.loop.indexes i) (only_main t r at).1 ∙ e));
    }
      where
        no_end : (path : List ℕ) (i : ℕ) → [] ≡ path ++ i ∷ [] → ⊥
        no_end [] i e = cc
        no_end (k ∷ path) i e = cc

        nothing : (i : ℕ) (v : IndexRow) → None ≡ Some v → ⊥
        nothing i v e = cc

    module _ (bodies : BodiesKeep) (direct : LoopsAreDirect) (ok : IsAccepted p) (x : TaskTable) (h : IsLawfulTable p input x) where
      module _ (t : ℕ) (r : TaskRow) (at : slice_get x.tasks t ≡ Some r) where
        abbrev M : Machine
        M = machine_of p

        abbrev Q : List ℕ
        Q = (h.rows.there t r at).0

        abbrev Follows : Event → Type 0
        Follows = loops.Follows p input l bodies direct ok x h t r at

        abbrev Gives : List ℕ → TaskRow → Forest M → Type 0
        Gives = steps.Gives p input l x h t r at

        pub first_of_body : (operation : Operation) → IsDue p operation r x → r.phase ≡ P.Running → IsFirst p operation (left M (as_task p r))
        first_of_body operation due running = row_ok p input l x h.rows (IsFirst p operation (left M (as_task p r))) t r at (λ kids ok.
            next_is_first p (as_task p r) ok.st operation ok.stands
            (subst (λ (n : ℕ). IsNext p (Whole r.call) r.answers n operation) (sym (steps.none_added p input l x h t r at r (was_open p input l x h t r at running))) due.next))

        module _ (running : r.phase ≡ P.Running) (operation : Operation) (due : IsDue p operation r x) where
          abbrev After : TaskTable
          After = after_of p (E.Body t operation) r x

          -- what is left at the place
          left_at_place : (w : Code M) → left M (as_task p r) ≡ w → events.left_at M (place_of Q) (shown p x).forest ≡ w
          left_at_place w e = left_there M (suc DEPTH) (tasks_by_path p x.tasks) Q (h.rows.there t r at).2 ∙ (ap (left M) (here p input l x h t r at) ∙ e)

          by_left : (w : Code M) → left M (as_task p r) ≡ w → after_events p (events_of p (core_event (E.Body t operation) r (place_of Q)) (shown p x)) (shown p x) ≡ operate M w (place_of Q) (shown p x)
          by_left w e = ap (λ (c : Code M). operate M c (place_of Q) (shown p x)) (left_at_place w e)

          -- where the table is one with a row changed
          alone : (store : List ℕ) (r' : TaskRow) (F : Forest M) → Gives store r' F → store_after p operation x.store ≡ store → row_after operation r ≡ r' → added_by operation r x.tasks ≡ []
              → after_events p (events_of p (core_event (E.Body t operation) r (place_of Q)) (shown p x)) (shown p x) ≡ record { forest = F; store = store }
              → Follows (E.Body t operation)
          alone store r' F gives stored row none run =
              let same : After ≡ record { store = store; tasks = slice_set x.tasks t r' } =
              ap (λ (s : List ℕ). record { store = s; tasks = slice_set x.tasks t (row_after operation r) ++ added_by operation r x.tasks }) stored
              ∙ (ap (λ (more : List TaskRow). record { store = store; tasks = slice_set x.tasks t (row_after operation r) ++ more }) none
              ∙ (ap (λ (tasks : List TaskRow). record { store = store; tasks = tasks }) (append-nil (slice_set x.tasks t (row_after operation r)))
              ∙ ap (λ (z : TaskRow). record { store = store; tasks = slice_set x.tasks t z }) row)) in
              record { table = subst (IsLawfulTable p input) (sym same) gives.table; shows = ap (shown p) same ∙ (gives.shows ∙ sym run) }

          still : (answers : List ℕ) → went_on answers r ≡ moved P.Running (r.answers ++ answers) (suc r.done) r.fault r
          still answers = ap (λ (ph : Phase). moved ph (r.answers ++ answers) (suc r.done) r.fault r) running

          -- of a loop's call only an act is next
          plain_task : (IsActOf operation → ⊥) → is_loop_at p r.call.task ≡ false
          plain_task none = by (is_loop_at p r.call.task) refl
            where
              by : (b : Bool) → is_loop_at p r.call.task ≡ b → b ≡ false
              by true loop = absurd (none (loop_next_is_act p r.call loop r.answers r.done operation due.next))
              by false loop = refl

        body : (operation : Operation) → r.phase ≡ P.Running → IsDue p operation r x → Follows (E.Body t operation)
        body (O.Load object element a) run due =
            let q : Act = record { object = object; element = element; deed = Load } in
            let op = O.Load object element a in
            let f = load_first object element a (left M (as_task p r)) (first_of_body op due run) in
            let same = set-get_or x.store _ 0 in
            alone run op due x.store (moved P.Running (r.answers ++ a ∷ []) (suc r.done) r.fault r) (change M (put M (did M q (M.answer q x.store))) (same_frame M) (place_of Q) (shown p x).forest)
            (steps.acts p input l x h t r at run q f.0 f.1 (a ∷ []) x.store (ap (λ (b : ℕ). b ∷ []) (sym due.finds)) same) refl (still run op due (a ∷ [])) refl
            (by_left run op due (Do q f.0) f.1 ∙ ap (λ (s : List ℕ). record { forest = change M (put M (did M q (M.answer q x.store))) (same_frame M) (place_of Q) (shown p x).forest; store = s }) same)
        body (O.Store object element v) run due =
            let q : Act = record { object = object; element = element; deed = Store v } in
            let op = O.Store object element v in
            let f = store_first object element v (left M (as_task p r)) (first_of_body op due run) in
            alone run op due (plain.after p.families q x.store) (moved P.Running (r.answers ++ []) (suc r.done) r.fault r) (change M (put M (did M q (M.answer q x.store))) (same_frame M) (place_of Q) (shown p x).forest)
            (steps.acts p input l x h t r at run q f.0 f.1 [] (plain.after p.families q x.store) refl refl) refl (still run op due []) refl (by_left run op due (Do q f.0) f.1)
        body (O.Fold object element g v) run due =
            let q : Act = record { object = object; element = element; deed = Fold g v } in
            let op = O.Fold object element g v in
            let f = fold_first (left M (as_task p r)) (first_of_body op due run) in
            alone run op due (plain.after p.families q x.store) (moved P.Running (r.answers ++ []) (suc r.done) r.fault r) (change M (put M (did M q (M.answer q x.store))) (same_frame M) (place_of Q) (shown p x).forest)
            (steps.acts p input l x h t r at run q f.0 f.1 [] (plain.after p.families q x.store) refl refl) refl (still run op due []) refl (by_left run op due (Do q f.0) f.1)
          where
            fold_first : (w : Code M) → IsFirst p (O.Fold object element g v) w → (k : ℕ → Code M) × (w ≡ Do (record { object = object; element = element; deed = Fold g v }) k)
            fold_first (Stop f) h = absurd h
            fold_first (Do q k) h = (k, ap (λ (b : Act). Do b k) h)
            fold_first (Fork c w) h = absurd h
        body (O.Fork call) run due =
            let op = O.Fork call in
            let f = fork_first call (left M (as_task p r)) (first_of_body op due run) in
            let plain = plain_task run op due (λ none. none) in
            let was = was_open p input l x h t r at run in
            let N = count_of M (tasks_by_path p x.tasks) Q in
            let q_is = (h.rows.there t r at).1 in
            let number : count_rows (λ (u : TaskRow). is_child r.path u.path) x.tasks ≡ N = h.counts t r at was ∙ sym (ap (λ (u : Task M). length (forks_in M (standing M u))) (here p input l x h t r at)) in
            let path : next_child r x.tasks ≡ map suc (Q ++ N ∷ []) = ap (λ (n : ℕ). r.path ++ suc n ∷ []) number ∙ (ap (λ (z : List ℕ). z ++ suc N ∷ []) q_is ∙ sym (map_snoc Q N)) in
            let deeper = row_ok p input l x h.rows ((call.depth ≡ suc r.call.depth) × (r.call.depth < DEPTH)) t r at (λ kids ok. fork_deep p l (as_task p r) kids ok f.0 f.1 f.2 call r.call f.3 refl) in
            let placed : f.0 ≡ whole_at (map suc (Q ++ N ∷ [])) call = row_ok p input l x h.rows (f.0 ≡ whole_at (map suc (Q ++ N ∷ [])) call) t r at (λ kids ok.
            fork_path p l (as_task p r) kids ok f.0 f.1 f.2
            ∙ (ap (placed_fork r.path (1 + length ok.st.forks)) f.3
            ∙ ap (λ (z : List ℕ). whole_at z call) (ap (λ (n : ℕ). r.path ++ n ∷ []) (more (length ok.st.forks) N (ap (λ (u : Task M). length (forks_in M (standing M u))) (here p input l x h t r at) ∙ ap (λ (o : Option (Standing M)). length (forks_in M o)) ok.stands))
            ∙ (ap (λ (z : List ℕ). z ++ suc N ∷ []) q_is ∙ sym (map_snoc Q N))))) in
            let same : after_of p (E.Body t op) r x ≡ record { store = x.store; tasks = slice_set x.tasks t (moved P.Running r.answers (suc r.done) r.fault r) ++ fresh_row (map suc (Q ++ N ∷ [])) call ∷ [] } =
            ap (λ (z : List ℕ). record { store = x.store; tasks = slice_set x.tasks t (went_on [] r) ++ fresh_row z call ∷ [] }) path
            ∙ ap (λ (z : TaskRow). record { store = x.store; tasks = slice_set x.tasks t z ++ fresh_row (map suc (Q ++ N ∷ [])) call ∷ [] })
            (still run op due [] ∙ ap (λ (ys : List ℕ). moved P.Running ys (suc r.done) r.fault r) (append-nil r.answers)) in
            record {
              table = subst (IsLawfulTable p input) (sym same) (adds.forks p input l x h t r at run plain f.0 f.1 call f.2 placed deeper.0);
              shows = ap (shown p) same ∙ (adds.forks_shown p input l x h t r at run plain f.0 f.1 call f.2 placed deeper.0 ∙ sym (by_left run op due (Fork f.0 f.1) f.2));
            }
          where
            more : (k n : ℕ) → n ≡ k → 1 + k ≡ suc n
            more k n e = omega (arith, e)
        body O.End run due =
            let e = end_first (left M (as_task p r)) (first_of_body O.End due run) in
            alone run O.End due x.store (moved P.Ended r.answers (suc r.done) None r) (change M (put M (ended M)) (same_frame M) (place_of Q) (shown p x).forest)
            (steps.ends p input l x h t r at run None e (plain_task run O.End due (λ none. none))) refl
            (ap (λ (ys : List ℕ). moved P.Ended ys (suc r.done) r.fault r) (append-nil r.answers) ∙ ap (λ (f : Option Fault). moved P.Ended r.answers (suc r.done) f r) (no_fault p input l x h t r at run)) refl
            (by_left run O.End due (Stop None) e)
        body (O.Fault law line) run due =
            let op = O.Fault law line in
            let e = fault_first (left M (as_task p r)) (first_of_body op due run) in
            alone run op due x.store (moved P.Ended r.answers (suc r.done) (Some (record { law = law; line = line })) r) (change M (put M (ended M)) (same_frame M) (place_of Q) (shown p x).forest)
            (steps.ends p input l x h t r at run (Some (record { law = law; line = line })) e (plain_task run op due (λ none. none))) refl refl refl
            (by_left run op due (Stop (Some (record { law = law; line = line }))) e)
          where
            fault_first : (w : Code M) → IsFirst p (O.Fault law line) w → w ≡ Stop (Some (record { law = law; line = line }))
            fault_first (Stop f) h = ap (λ (g : Option Fault). Stop g) h
            fault_first (Do q k) h = absurd h
            fault_first (Fork c w) h = absurd h

        looped : r.phase ≡ P.Looping → is_loop_at p r.call.task ≡ true
        looped e = (h.rows.loops t r at).looping e

        plain_end : r.phase ≡ P.Ended → is_loop_at p r.call.task ≡ false
        plain_end e = by (is_loop_at p r.call.task) refl
          where
            by : (b : Bool) → is_loop_at p r.call.task ≡ b → b ≡ false
            by true loop = absurd ((h.rows.loops t r at).never_ended loop e)
            by false loop = refl

        finish_plain : r.phase ≡ P.Ended → open_child r x.tasks ≡ None → Follows (E.Finish t)
        finish_plain over none =
            let plain = plain_end over in
            let open_row : has_begun p r ≡ false = steps.not_begun p input l x h t r at r (ap (λ (ph : Phase). is_looping ph || is_finished ph) over) in
            let gives = steps.finishes p input l x h t r at over plain (all_children p input l x h t r at Q (h.rows.there t r at).1 (h.rows.there t r at).2 open_row none) in
            record { table = gives.table; shows = gives.shows }

        claim : (e : Event) → after_of p e r x ≡ with_row t (in_phase P.Running r) x → after_events p (events_of p (core_event e r (place_of Q)) (shown p x)) (shown p x) ≡ events.enter M order.Running (place_of Q) (shown p x)
            → r.phase ≡ P.Unclaimed → Earlier M (MayPass M (rights_in p)) Q (tasks_by_path p x.tasks) → Follows e
        claim e same run unclaimed before =
            let gives = steps.claims p input l x h t r at unclaimed before in
            record { table = subst (IsLawfulTable p input) (sym same) gives.table; shows = ap (shown p) same ∙ (gives.shows ∙ sym run) }

      pub follows : (e : Event) (r : TaskRow) (at : slice_get x.tasks (task_of e) ≡ Some r) → Suits p e r x → refusal_of e r x.tasks ≡ None
          → loops.Follows p input l bodies direct ok x h (task_of e) r at e
      follows (E.ClaimInOrder t) r at suits none =
          let can = happens r x.tasks (E.ClaimInOrder t) none in
          let there = h.rows.there t r at in
          claim t r at (E.ClaimInOrder t) refl refl can.0 (in_order p input l x h t r at there.0 there.1 there.2 (none_open r x.tasks t none))
      follows (E.ClaimReady t) r at suits none =
          let can = happens r x.tasks (E.ClaimReady t) none in
          let there = h.rows.there t r at in
          claim t r at (E.ClaimReady t) refl refl can.0 (when_ready p input l x h t r at there.0 there.1 there.2 (none_clashes r x.tasks t none))
      follows (E.Body t operation) r at suits none = let run = happens r x.tasks (E.Body t operation) none in body t r at operation run (suits run)
      follows (E.Begin t) r at suits none = let run = happens r x.tasks (E.Begin t) none in loops.begins p input l bodies direct ok x h t r at suits.0 run (suits.1 run)
      follows (E.Split t n) r at suits none = let can = happens r x.tasks (E.Split t n) none in loops.splits p input l bodies direct ok x h t r at (looped t r at can.0) can.0 n
      follows (E.Take t n k) r at suits none =
          let can = happens r x.tasks (E.Take t n k) none in
          loops.takes p input l bodies direct ok x h t r at (looped t r at can.0) can.0 n k can.1 can.2
      follows (E.Index t i operation) r at suits none =
          let can = happens r x.tasks (E.Index t i operation) none in
          loops.indexes p input l bodies direct ok x h t r at (looped t r at can.0) can.0 i can.1.0 can.1.1 can.1.2 operation (suits can.0 can.1.0 can.1.1 can.1.2)
      follows (E.Retire t n) r at suits none =
          let can = happens r x.tasks (E.Retire t n) none in
          loops.retires p input l bodies direct ok x h t r at (looped t r at can.0) can.0 n can.2
      follows (E.Finish t) r at suits none =
          let can = happens r x.tasks (E.Finish t) none in
          elim can.0 [
            | inl over ↦ finish_plain t r at over (none_open_child r x.tasks t none)
            | inr looping ↦ loops.finishes p input l bodies direct ok x h t r at (looped t r at looping) looping can.2
          ]

      some_row : (tasks : List TaskRow) (t : ℕ) → t < length tasks → (r : TaskRow) × (slice_get tasks t ≡ Some r)
      some_row [] t less = absurd (omega arith)
      some_row (r ∷ tasks) zero less = (r, refl)
      some_row (r ∷ tasks) (suc t) less = some_row tasks t (omega arith)

      pub table_kept : (e : Event) → CanAsk p e x → refusal e x ≡ None → IsLawfulTable p input (table_after p e x)
      table_kept e ask none =
          let r = some_row x.tasks (task_of e) ask.there in
          subst (λ (o : Option TaskRow). IsLawfulTable p input (after_at p e o x)) (sym r.1)
          (follows e r.0 r.1 (ask.suits r.0 r.1) (subst (λ (o : Option TaskRow). refusal_at e o x.tasks ≡ None) r.1 none)).table
