-- Each event of a loop leaves a lawful table.
use Rattle.std.proofs.Common.{◌≡◌, ◌≢◌, ◌<◌, ◌≤◌, ◌+◌, ◌-◌, ℕ, zero, suc, Bool, true, false, cond, List, [], ◌∷◌, ◌++◌, map, length, replicate, Option, Some, None, ◌⊎◌, inl, inr, ◌&&◌, ◌||◌, nat_eq, refl, sym, ap, subst, ◌∙◌, arith, slice_get, slice_set}
use mathlib.Core.Path.{fun_ext}
use Rattle.std.proofs.lemmas.List.{set-get_or}
use Rattle.kt_law.specs.Acts.{Act, Load, Store, Fold}
use Rattle.kt_law.specs.declared.limits.TheConstants.{DEPTH}
use Rattle.kt_order.specs.Lists.{nth}
use Rattle.kt_order.specs.Body.{Stop, Do, Fork}
use Rattle.kt_order.specs.Machine.{Machine, Code}
use Rattle.kt_order.specs.Laws.{Laws, Rights, Past}
use Rattle.kt_order.specs.Trace.{hearing}
use Rattle.kt_order.specs.Stand.{Standing, stand}
use Rattle.kt_order.specs.Forest as order
use Rattle.kt_order.specs.Forest.{Place, Task, Forest, Nil, Node, At, calls, change, add_last, fresh}
use Rattle.kt_order.specs.Rest.{standing, left, left_of}
use Rattle.kt_order.specs.Shown.{fault_of}
use Rattle.kt_order.specs.Events as events
use Rattle.kt_order.specs.Events.{put, did, ended, same_frame, left_at, operate, run}
use Rattle.kt_order.specs.Lawful.{PhaseOk, TaskOk}
use Rattle.kt_order.specs.Books.{BookOk, CanTake, take, done_in, whole_book}
use Rattle.kt_order.specs.Loops.{nth_place, child, begin_events, index_events, forks_then, ForksNothing, AreIndexes, phases, HasBook}
use Rattle.kt_order.specs.Paths.{same_path, shift, IsThere, skip, place_below, place_of, Known}
use Rattle.kt_order.specs.Named.{Named, count_of, forks_in}
use Rattle.kt_order.proofs.Ats.{Doing, at_more, at_says, at_shape, change_twice}
use Rattle.kt_order.proofs.Bounds.{IsStop, bounded}
use Rattle.kt_order.proofs.Books.{book_begins, book_splits, can_untaken, book_takes, book_ends, book_retires}
use Rattle.kt_order.proofs.Phases.{running_set, ended_done, done_le}
use Rattle.kt_order.proofs.ByPaths.{at_path}
use Rattle.kt_order.proofs.Children.{at_change}
use Rattle.kt_order.proofs.Kept.{kept}
use Rattle.kt_order.proofs.LoopBooks.{loop_finishes}
use Rattle.kt_order.proofs.Nodes.{no_calls, left_is as node_left}
use Rattle.kt_order.proofs.PathsAt.{tree_at}
use Rattle.kt_order.proofs.PathThere.{child_there}
use Rattle.kt_order.proofs.Squares.{same_is, left_there}
use Rattle.kt_order.proofs.Stands.{stand_none, some_is, stand_ended}
use Rattle.kt_prog.specs.Calls.{CallTree, Index}
use Rattle.kt_prog.specs.Laws.{BodiesKeep, LoopsAreDirect}
use Rattle.kt_prog.specs.Script.{Fault}
use Rattle.kt_prog.specs.Store as plain
use Rattle.kt_prog.specs.Operations.{is_loop_at, IsNext}
use Rattle.kt_prog.specs.Accepted.{IsAccepted}
use Rattle.kt_prog.specs.Fits.{Fits, is_main, is_call}
use Rattle.kt_prog.specs.Reference.{Placed, machine_of, main_placed, opened_with}
use Rattle.kt_prog.specs.declared.programs.Program.{Program}
use Rattle.kt_prog.specs.declared.runs.Operation.{Operation}
use Rattle.kt_prog.specs.declared.runs.Operation.TheVariants as O
use Rattle.kt_runs.specs.Bodies.{IsFirst}
use Rattle.kt_runs.specs.Rights.{rights_in}
use Rattle.kt_runs.specs.States.{Core, IsLawful, after_events}
use Rattle.kt_runs.specs.Loops.{index_calls, CanBegin, LoopAt}
use Rattle.kt_runs.proofs.Indexes.{calls_length, Forking, stand_forking, loop_forking, are_indexes}
use Rattle.kt_runs.proofs.Begins.{loop_begins, takes, index_goes}
use Rattle.kt_runs.proofs.Next.{next_is_first}
use Rattle.kt_tables.specs.Tables.{parent_of, is_child, is_finished}
use Rattle.kt_tables.specs.TableEvents.{is_looping, store_after}
use Rattle.kt_tables.specs.TableLaws.{phase_of}
use Rattle.kt_tables.specs.declared.events.Phase.{Phase}
use Rattle.kt_tables.specs.declared.events.Phase.TheVariants as P
use Rattle.kt_order.specs.Leaves.{leaves}
use Rattle.kt_tables.specs.Tables.{IndexRow, LoopPart, TaskRow, TaskTable, untaken_index}
use Rattle.kt_tables.specs.TableLaws.{phase_of_stand, index_phases, book_of, has_begun, as_task, as_index, index_or_fresh, index_of_row, tasks_by_path, by_path, shown, Leads, IsCounted, LoopOk, shown_index_fault, fault_left, ShowsLawful}
use Rattle.kt_tables.specs.LoopRows.{ends, update, index_after, with_loop, row_begun, row_split, row_taken, row_indexed, row_retired}
use Rattle.kt_tables.specs.TableEvents.{in_phase, with_row, IsIndexDue}
use Rattle.kt_tables.specs.declared.events.Stand.{Stand}
use Rattle.kt_tables.specs.declared.events.Stand.TheVariants as S
use Rattle.kt_tables.proofs.TableRows.{same_self, got_set, snoc_view, parent_snoc, length_mapped}
use Rattle.kt_order.proofs.Replaced.{change_alike}
use Rattle.kt_order.proofs.Leaf.{changed_at, change_leaf, child_change, change_none, taken, take_run, taken_leaves, add_all, begun, begun_is}
use Rattle.kt_tables.proofs.Beginning.{begins_run, fresh_at, add_leaves}
use Rattle.kt_tables.proofs.Indexed.{length_update, length_taken, length_phases, phases_update, phases_kept, phases_taken, nth_phase, untaken_small, phases_untaken, tasks_in, tasks_updated, tasks_taken, calls_in, phases_in, tasks_fresh}
use Rattle.kt_tables.proofs.LoopShown.{nth_leaf, has_room, got_less, index_forks, else_same, task_here, task_was, index_was, forest_after, forest_was}

-- how many indexes have ended that are not retired: n at least
abbrev pub CanRetire : ℕ → TaskRow → Type 0
CanRetire n r = n + length r.loop.indexes ≤ r.loop.unretired + done_in (index_phases r.loop.indexes)

-- the zeroing of a loop's row is done
abbrev pub IsZeroed : Program → TaskRow → Type 0
IsZeroed p r = left (machine_of p) (as_task p r) ≡ forks_then (machine_of p) (index_calls r.path r.call 0 r.call.length) None

pub path_or : (q s : List ℕ) → (q ≡ s) ⊎ (q ≢ s)
path_or q s = by (same_path q s) refl
  where
    by : (b : Bool) → same_path q s ≡ b → (q ≡ s) ⊎ (q ≢ s)
    by true e = inl (same_is q s e)
    by false e = inr (λ same. absurd (cc (e, subst (λ (z : List ℕ). same_path q z ≡ true) same (same_self q))))

there_more : (depth : ℕ) (count count' : List ℕ → ℕ) → ((s : List ℕ) → count s ≤ count' s) → (s : List ℕ) → IsThere depth count s → IsThere depth count' s
there_more depth count count' le [] there = tt
there_more zero count count' le (k ∷ s) there = absurd there
there_more (suc depth) count count' le (k ∷ s) there = (let less = there.0 in omega (arith, le []), there_more depth (shift k count) (shift k count') (λ z. le (k ∷ z)) s there.1)

-- the place of a child is that of its path
child_skip : (k : ℕ) (r : Place) (i : ℕ) → child (skip k r) i ≡ skip k (child r i)
child_skip zero r i = refl
child_skip (suc k) r i = ap order.Later (child_skip k r i)

nth_skip : (i : ℕ) → nth_place i ≡ skip i order.Here
nth_skip zero = refl
nth_skip (suc i) = ap order.Later (nth_skip i)

child_below : (k : ℕ) (q : List ℕ) (i : ℕ) → child (place_below k q) i ≡ place_below k (q ++ i ∷ [])
child_below k [] i = child_skip k order.Here i ∙ ap (λ r. skip k (order.Down r)) (nth_skip i)
child_below k (j ∷ q) i = child_skip k (order.Down (place_below j q)) i ∙ ap (λ r. skip k (order.Down r)) (child_below j q i)

child_place : (q : List ℕ) (i : ℕ) → child (place_of q) i ≡ place_of (q ++ i ∷ [])
child_place [] i = ap order.Down (nth_skip i)
child_place (k ∷ q) i = ap order.Down (child_below k q i)

twice_at : (m : Machine) (f g : Task m → Task m) (i : ℕ) (at : ℕ → Task m) → changed_at m g i (changed_at m f i at) ≡ changed_at m (λ u. g (f u)) i at
twice_at m f g i at = fun_ext (λ j. by j (nat_eq j i))
  where
    by : (j : ℕ) (b : Bool) → cond b (g (cond b (f (at j)) (at j))) (cond b (f (at j)) (at j)) ≡ cond b (g (f (at j))) (at j)
    by j true = refl
    by j false = refl

module _ (m : Machine) where
  -- what is left of a body that forks nothing forks nothing
  abbrev LeafLeft : Standing m → Type 0
  LeafLeft st = ForksNothing m st.left

  leaf_left : (w : Code m) (answers : List m.Answer) (n : ℕ) (st : Standing m) → stand m w answers n ≡ Some st → ForksNothing m w → LeafLeft st
  leaf_left w answers zero st e leaf = subst LeafLeft (sym (stand_none m w answers st e).1) leaf
  leaf_left (Stop f) [] (suc zero) st e leaf = subst LeafLeft (some_is m (record { left = Stop f; forks = []; over = true }) st e) tt
  leaf_left (Stop f) [] (suc (suc n)) st e leaf = absurd (cc e)
  leaf_left (Stop f) (a ∷ more) (suc n) st e leaf = absurd (cc e)
  leaf_left (Do q k) answers (suc n) st e leaf = heard (m.asks q) answers e (λ a more h. leaf_left (k a) more n st h (leaf a))
    where
      heard : (asks : Bool) (answers : List m.Answer) → hearing m asks None (λ a more. stand m (k a) more n) answers ≡ Some st
          → ((a : m.Answer) (more : List m.Answer) → stand m (k a) more n ≡ Some st → LeafLeft st) → LeafLeft st
      heard true [] h f = absurd (cc h)
      heard true (a ∷ more) h f = f a more h
      heard false answers h f = f m.none answers h
  leaf_left (Fork c w) answers (suc n) st e leaf = absurd leaf

calls_many : (m : Machine) (f : ℕ → Task m) (k n : ℕ) → length (calls m (leaves m f k n)) ≡ n
calls_many m f k zero = refl
calls_many m f k (suc n) = ap suc (calls_many m f (suc k) n)

begun_counted : (n : ℕ) → 0 + length (replicate n untaken_index) ≡ n + done_in (index_phases (replicate n untaken_index))
begun_counted zero = refl
begun_counted (suc n) = let more = begun_counted n in omega (arith, more)

replicate_many : {A : Type 0} → (n : ℕ) (v : A) → length (replicate n v) ≡ n
replicate_many zero v = refl
replicate_many (suc n) v = ap suc (replicate_many n v)

module _ (p : Program) where
  pub shallow_call : (call : CallTree) → Fits p call → call.depth ≤ DEPTH
  shallow_call call (is_main main) = let none : call.depth ≡ 0 = ap (λ (c : CallTree). c.depth) main in omega (arith, none)
  shallow_call call (is_call t is f) = f.deep

  stopped : (w : Code (machine_of p)) → IsStop (machine_of p) w → (k : ℕ) → Forking p k w → k ≡ 0
  stopped (Stop f) stop k h = h
  stopped (Do q w) stop k h = absurd stop
  stopped (Fork c w) stop k h = absurd stop

  begun_not : (b : Bool) (ph : Phase) → (is_looping ph || is_finished ph) ≡ false → ((is_looping ph || is_finished ph) && b) ≡ false
  begun_not b ph e = rw e refl

  second_true : (a b : Bool) → (a && b) ≡ true → b ≡ true
  second_true true b e = e
  second_true false b e = cc

  -- a loop that has begun
  begun_ok : (r : TaskRow) → has_begun p r ≡ true → length r.loop.indexes ≡ r.call.length → BookOk (book_of r) (index_phases r.loop.indexes) → IsCounted p r → LoopOk p r
  begun_ok r is many book counted = record {
    begun = λ b. (many, book, counted);
    other = λ b. absurd (cc (is, b));
    looping = λ e. second_true (is_looping r.phase || is_finished r.phase) (is_loop_at p r.call.task) is;
    never_ended = λ loop e. absurd (cc (sym is ∙ begun_not (is_loop_at p r.call.task) r.phase (ap (λ (ph : Phase). is_looping ph || is_finished ph) e)));
    zeroing = λ loop b. absurd (cc (is, b));
  }

  begun_by : (b : Bool) (ph : Phase) → b ≡ true → (is_looping ph || is_finished ph) ≡ true → ((is_looping ph || is_finished ph) && b) ≡ true
  begun_by b ph e f = rw (f, e) refl

  -- what a body begins with, where its first operation is known
  load_first : (object element a : ℕ) (w : Code (machine_of p)) → IsFirst p (O.Load object element a) w
      → (k : ℕ → Code (machine_of p)) × (w ≡ Do (record { object = object; element = element; deed = Load }) k)
  load_first object element a (Stop f) h = absurd h
  load_first object element a (Do q k) h = (k, ap (λ (b : Act). Do b k) h)
  load_first object element a (Fork c w) h = absurd h

  store_first : (object element v : ℕ) (w : Code (machine_of p)) → IsFirst p (O.Store object element v) w
      → (k : ℕ → Code (machine_of p)) × (w ≡ Do (record { object = object; element = element; deed = Store v }) k)
  store_first object element v (Stop f) h = absurd h
  store_first object element v (Do q k) h = (k, ap (λ (b : Act). Do b k) h)
  store_first object element v (Fork c w) h = absurd h

  end_first : (w : Code (machine_of p)) → IsFirst p O.End w → w ≡ Stop None
  end_first (Stop f) h = ap (λ (g : Option Fault). Stop g) h
  end_first (Do q k) h = absurd h
  end_first (Fork c w) h = absurd h

  no_fork_first : (call : CallTree) (w : Code (machine_of p)) → IsFirst p (O.Fork call) w → ForksNothing (machine_of p) w → ⊥
  no_fork_first call (Stop f) h leaf = absurd h
  no_fork_first call (Do q k) h leaf = absurd h
  no_fork_first call (Fork c w) h leaf = leaf

  module _ (input : List ℕ) (l : Laws (machine_of p) (rights_in p)) (bodies : BodiesKeep) (direct : LoopsAreDirect) (ok : IsAccepted p) (x : TaskTable) (h : ShowsLawful p input x)
      (t : ℕ) (r : TaskRow) (at : slice_get x.tasks t ≡ Some r) (loop : is_loop_at p r.call.task ≡ true) where
    abbrev M : Machine
    M = machine_of p

    abbrev R : Rights M
    R = rights_in p

    abbrev pub Q : List ℕ
    Q = (h.there t r at).0

    abbrev N : Named M
    N = by_path p x

    abbrev Get : Known M
    Get = tasks_by_path p x.tasks

    abbrev pub X : Core p
    X = shown p x

    abbrev pub Pl : Place
    Pl = place_of Q

    -- the table with this row in its place and this store shows a lawful state, with this forest
    pub record Becomes (r' : TaskRow) (store : List ℕ) (F : Forest M) : Type 0 where
      pub rows : ShowsLawful p input (record { store = store; tasks = slice_set x.tasks t r' })
      pub shows : shown p (record { store = store; tasks = slice_set x.tasks t r' }) ≡ record { forest = F; store = store }

    named_is : r.path ≡ map suc Q
    named_is = (h.there t r at).1

    leads : Leads p x.tasks Q
    leads = (h.there t r at).2

    pub none_below : (u : ℕ) (s : TaskRow) → slice_get x.tasks u ≡ Some s → is_child r.path s.path ≡ false
    none_below = h.childless t r at loop

    pub here_was : Get Q ≡ as_task p r
    here_was = task_was p bodies direct ok x.tasks h.once t r r at refl Q named_is none_below

    pub child_was : (i : ℕ) → Get (Q ++ i ∷ []) ≡ index_of_row p r i
    child_was = index_was p bodies direct ok x.tasks h.once t r r at refl Q named_is none_below

    pub task_ok : (Z : Type 0) → ((kids : Forest M) → TaskOk M R (as_task p r) kids → Z) → Z
    task_ok Z f = at_path M (suc DEPTH) R l main_placed (opened_with p.families input) Z Q N leads h.lawful (λ kids o. f kids (subst (λ (u : Task M). TaskOk M R u kids) here_was o))

    pub fits : Fits p r.call
    fits = task_ok (Fits p r.call) (λ kids o. o.fits)

    pub shallow : length Q < suc DEPTH
    shallow =
        let deep = h.deep t r at in
        let low = shallow_call r.call fits in
        let same : length r.path ≡ length Q = ap length named_is ∙ length_mapped Q in
        omega (arith, deep, low, same)

    -- a loop that is over has forked all its indexes
    over_forks : ((kids : Forest M) (o : TaskOk M R (as_task p r) kids) → o.st.over ≡ true) → length (forks_in M (standing M (as_task p r))) ≡ r.call.length
    over_forks e = task_ok (length (forks_in M (standing M (as_task p r))) ≡ r.call.length) (λ kids o.
        let u = as_task p r in
        let stop = (bounded M (R.Directly u.call) (R.Handed u.call) (Past M R) (M.tree u.call) u.answers u.done o.st (l.within u.call o.fits) o.stands).stops (e kids o) in
        let parts = stand_forking p (M.tree u.call) u.answers u.done o.st r.call.length o.stands (loop_forking p r.call r.path loop) in
        let none : parts.0 ≡ 0 = stopped o.st.left stop parts.0 parts.2 in
        let sum : length o.st.forks + parts.0 ≡ r.call.length = parts.1 in
        ap (λ (s : Option (Standing M)). length (forks_in M s)) o.stands ∙ omega (arith, none, sum))

    begun_forks : (as_task p r).phase ≡ order.Ended → length (forks_in M (standing M (as_task p r))) ≡ r.call.length
    begun_forks e = over_forks (λ kids o. subst (λ (ph : order.Phase). PhaseOk M ph (as_task p r) o.st kids) e o.phase)

    pub begun_many : has_begun p r ≡ true → length (forks_in M (standing M (as_task p r))) ≡ r.call.length
    begun_many e = by r.phase refl e
      where
        by : (ph : Phase) → r.phase ≡ ph → has_begun p r ≡ true → length (forks_in M (standing M (as_task p r))) ≡ r.call.length
        by P.Looping is e = begun_forks (ap phase_of is)
        by P.Finished is e = over_forks (λ kids o. (subst (λ (ph : order.Phase). PhaseOk M ph (as_task p r) o.st kids) (ap phase_of is) o.phase).0)
        by P.Unclaimed is e = absurd (cc (sym e ∙ begun_not (is_loop_at p r.call.task) r.phase (ap (λ (ph : Phase). is_looping ph || is_finished ph) is)))
        by P.Running is e = absurd (cc (sym e ∙ begun_not (is_loop_at p r.call.task) r.phase (ap (λ (ph : Phase). is_looping ph || is_finished ph) is)))
        by P.Ended is e = absurd (cc (sym e ∙ begun_not (is_loop_at p r.call.task) r.phase (ap (λ (ph : Phase). is_looping ph || is_finished ph) is)))

    module _ (r' : TaskRow) (path : r'.path ≡ r.path) (call : r'.call ≡ r.call) where
      abbrev Tasks : List TaskRow
      Tasks = slice_set x.tasks t r'

      -- what stands at a number now stood there
      record Old (u : ℕ) (s : TaskRow) : Type 0 where
        row : TaskRow
        there : slice_get x.tasks u ≡ Some row
        was_path : s.path ≡ row.path
        was_call : s.call ≡ row.call
        how : (s ≡ r') × (u ≡ t) ⊎ (s ≡ row)

      old : (u : ℕ) (s : TaskRow) → slice_get Tasks u ≡ Some s → Old u s
      old u s e = elim (got_set x.tasks t u r r' s at e) [
        | inl k ↦ record {
          row = r;
          there = subst (λ (n : ℕ). slice_get x.tasks n ≡ Some r) (sym k.0) at;
          was_path = ap (λ (z : TaskRow). z.path) k.1 ∙ path;
          was_call = ap (λ (z : TaskRow). z.call) k.1 ∙ call;
          how = inl (k.1, k.0);
        }
        | inr k ↦ record { row = s; there = k.1; was_path = refl; was_call = refl; how = inr refl }
      ]

      module _ (store : List ℕ) (good : LoopOk p r') (more : length (forks_in M (standing M (as_task p r))) ≤ length (forks_in M (standing M (as_task p r'))))
          (leaf : (i : ℕ) → length (forks_in M (standing M (index_of_row p r i))) ≡ 0) where
        abbrev Get' : Known M
        Get' = tasks_by_path p Tasks

        counts : (s : List ℕ) → count_of M Get s ≤ count_of M Get' s
        counts s = elim (path_or Q s) [
          | inl same ↦ subst (λ (z : List ℕ). count_of M Get z ≤ count_of M Get' z) same
              (let a : count_of M Get Q ≡ length (forks_in M (standing M (as_task p r))) = ap (λ (u : Task M). length (forks_in M (standing M u))) here_was in
              let b : count_of M Get' Q ≡ length (forks_in M (standing M (as_task p r'))) = ap (λ (u : Task M). length (forks_in M (standing M u))) (task_here p bodies direct ok x.tasks h.once t r r' at path Q named_is none_below) in
              omega (arith, more, a, b))
          | inr ne ↦ elim (path_or Q (parent_of s)) [
            | inl same ↦ elim (snoc_view s) [
              | inl root ↦ absurd (ne (same ∙ (ap parent_of root ∙ sym root)))
              | inr v ↦
                  let home : Q ≡ v.0 = same ∙ (ap parent_of v.2 ∙ parent_snoc v.0 v.1) in
                  let whole : s ≡ Q ++ v.1 ∷ [] = v.2 ∙ ap (λ (z : List ℕ). z ++ v.1 ∷ []) (sym home) in
                  let none : count_of M Get s ≡ 0 = ap (count_of M Get) whole ∙ (ap (λ (u : Task M). length (forks_in M (standing M u))) (child_was v.1) ∙ leaf v.1) in
                  omega (arith, none)
            ]
            | inr far ↦ (let same : count_of M Get' s ≡ count_of M Get s = ap (λ (u : Task M). length (forks_in M (standing M u))) (else_same p bodies direct ok x.tasks h.once t r r' at path Q named_is none_below s ne far) in omega (arith, same))
          ]
        ]

        kept_table : IsLawful p input (shown p (record { store = store; tasks = Tasks })) → ShowsLawful p input (record { store = store; tasks = Tasks })
        kept_table lawful = record {
          lawful = lawful;
          there = λ u s e. (let o = old u s e in let w = h.there u o.row o.there in (w.0, o.was_path ∙ w.1, there_more (suc DEPTH) (count_of M Get) (count_of M Get') counts w.0 w.2));
          once = λ u v s z eu ev same. (let a = old u s eu in let b = old v z ev in h.once u v a.row b.row a.there b.there (sym a.was_path ∙ (same ∙ b.was_path)));
          deep = λ u s e. (let o = old u s e in ap (λ (c : CallTree). c.depth) o.was_call ∙ (h.deep u o.row o.there ∙ ap length (sym o.was_path)));
          childless = λ u s e looped v z ev. (let a = old u s e in let b = old v z ev in
              ap (λ (q : List ℕ). is_child q z.path) a.was_path ∙ (ap (is_child a.row.path) b.was_path
              ∙ h.childless u a.row a.there (subst (λ (c : CallTree). is_loop_at p c.task ≡ true) a.was_call looped) v b.row b.there));
          loops = λ u s e. (let o = old u s e in elim o.how [
            | inl k ↦ subst (LoopOk p) (sym k.0) good
            | inr same ↦ subst (LoopOk p) (sym same) (h.loops u o.row o.there)
          ]);
        }

    -- a loop that loops
    module _ (looping : r.phase ≡ P.Looping) where
      pub is_begun : has_begun p r ≡ true
      is_begun = begun_by (is_loop_at p r.call.task) r.phase loop (ap (λ (ph : Phase). is_looping ph || is_finished ph) looping)

      in_phase-ended : (as_task p r).phase ≡ order.Ended
      in_phase-ended = ap phase_of looping

      pub many : length r.loop.indexes ≡ r.call.length
      many = ((h.loops t r at).begun is_begun).0

      pub counted : IsCounted p r
      counted = ((h.loops t r at).begun is_begun).2

      pub book : BookOk (book_of r) (index_phases r.loop.indexes)
      book = ((h.loops t r at).begun is_begun).1

      forks : length (forks_in M (standing M (as_task p r))) ≡ r.call.length
      forks = begun_forks in_phase-ended

      leaf : (i : ℕ) → length (forks_in M (standing M (index_of_row p r i))) ≡ 0
      leaf i = ap length (index_forks p bodies direct ok r fits many i)

      abbrev pub Stood : Task M → Forest M → Type 0
      Stood u kids = (u ≡ as_task p r) × (kids ≡ leaves M (index_of_row p r) 0 r.call.length)

      pub stood : At M Stood Pl X.forest
      stood = forest_was p bodies direct ok x.tasks h.once t r r at refl Q named_is none_below fits many shallow leads forks

      calls_are : calls M (leaves M (index_of_row p r) 0 r.call.length) ≡ index_calls r.path r.call 0 r.call.length
      calls_are = subst (λ (n : ℕ). calls M (leaves M (index_of_row p r) 0 n) ≡ index_calls r.path r.call 0 n) many
          (calls_in p r r.loop.indexes (index_of_row p r) 0 (λ i j e. ap (λ (k : ℕ). index_or_fresh p r j (slice_get r.loop.indexes k)) (let same : 0 + i ≡ j = e in omega (arith, same))))

      phases_are : phases M (leaves M (index_of_row p r) 0 r.call.length) ≡ index_phases r.loop.indexes
      phases_are = subst (λ (n : ℕ). phases M (leaves M (index_of_row p r) 0 n) ≡ index_phases r.loop.indexes) many
          (phases_in p r r.loop.indexes (index_of_row p r) 0 (λ i j e. ap (λ (k : ℕ). index_or_fresh p r j (slice_get r.loop.indexes k)) (let same : 0 + i ≡ j = e in omega (arith, same))))

      pub phases_many : (phases M (leaves M (index_of_row p r) 0 r.call.length) ≡ index_phases r.loop.indexes) × (length (index_phases r.loop.indexes) ≡ length r.loop.indexes)
      phases_many = (phases_are, length_phases r.loop.indexes)

      pub has : LoopAt p (book_of r) Pl X
      has = at_more M Stood (HasBook M R (book_of r)) (λ u kids k. record {
        begun = ap (λ (v : Task M). v.phase) k.0 ∙ in_phase-ended;
        indexes = subst (AreIndexes M R) (sym (ap (calls M) k.1 ∙ calls_are)) (are_indexes p bodies direct ok r.path r.call fits);
        book = subst (BookOk (book_of r)) (sym (ap (phases M) k.1 ∙ phases_are)) book;
      }) Pl X.forest stood

      -- with another row for the loop
      module _ (r' : TaskRow) (path : r'.path ≡ r.path) (call : r'.call ≡ r.call) (begun' : has_begun p r' ≡ true) (long : length r'.loop.indexes ≡ r'.call.length)
          (same-forks : length (forks_in M (standing M (as_task p r'))) ≡ r'.call.length) (book' : BookOk (book_of r') (index_phases r'.loop.indexes)) (counted' : IsCounted p r') where
        shown_after : (store : List ℕ) (f : Task M → Task M) (g : Forest M → Forest M)
            → At M (λ u kids. (as_task p r' ≡ f u) × (leaves M (index_of_row p r') 0 r'.call.length ≡ g kids)) Pl X.forest
            → shown p (record { store = store; tasks = slice_set x.tasks t r' }) ≡ record { forest = change M f g Pl X.forest; store = store }
        shown_after store f g alike =
            ap (λ (G : Forest M). record { forest = G; store = store })
            (forest_after p bodies direct ok x.tasks h.once t r r' at path Q named_is none_below (subst (Fits p) (sym call) fits) long shallow leads same-forks
            ∙ change_alike M (λ u. as_task p r') f (λ K. leaves M (index_of_row p r') 0 r'.call.length) g Pl X.forest alike)

        -- the table is that of a lawful state of the theory
        becomes : (store : List ℕ) (f : Task M → Task M) (g : Forest M → Forest M)
            → At M (λ u kids. (as_task p r' ≡ f u) × (leaves M (index_of_row p r') 0 r'.call.length ≡ g kids)) Pl X.forest
            → IsLawful p input (record { forest = change M f g Pl X.forest; store = store })
            → Becomes r' store (change M f g Pl X.forest)
        becomes store f g alike lawful = record {
          rows = kept_table r' path call store (begun_ok r' begun' long book' counted')
              (let n : r'.call.length ≡ r.call.length = ap (λ (c : CallTree). c.length) call in omega (arith, forks, same-forks, n)) leaf
              (subst (IsLawful p input) (sym (shown_after store f g alike)) lawful);
          shows = shown_after store f g alike;
        }

      -- only the book changes
      booked : (part : LoopPart) → part.indexes ≡ r.loop.indexes → BookOk (record { pieces = part.pieces; unretired = part.unretired }) (index_phases r.loop.indexes) → IsCounted p (with_loop part r)
          → Becomes (with_loop part r) x.store X.forest
      booked part same book' counted' =
          let b = becomes (with_loop part r) refl refl is_begun (ap length same ∙ many) forks (subst (λ (rows : List IndexRow). BookOk (record { pieces = part.pieces; unretired = part.unretired }) (index_phases rows)) (sym same) book') counted' x.store (λ u. u) (λ K. K)
          (at_more M Stood (λ u kids. (as_task p (with_loop part r) ≡ u) × (leaves M (index_of_row p (with_loop part r)) 0 r.call.length ≡ kids))
          (λ u kids k. (sym k.0, ap (λ (rows : List IndexRow). leaves M (tasks_in p r rows) 0 r.call.length) same ∙ sym k.1)) Pl X.forest stood)
          (subst (λ (G : Forest M). IsLawful p input (record { forest = G; store = x.store })) (sym (change_none M Pl X.forest)) h.lawful) in
          record { rows = b.rows; shows = b.shows ∙ ap (λ (G : Forest M). record { forest = G; store = x.store }) (change_none M Pl X.forest) }

      pub splits : (n : ℕ) → Becomes (row_split n r) x.store X.forest
      splits n = booked (row_split n r).loop refl (book_splits (book_of r) (index_phases r.loop.indexes) n book) counted

      pub retires : (n : ℕ) → CanRetire n r → Becomes (row_retired n r) x.store X.forest
      retires n can =
          let same = length_phases r.loop.indexes in
          booked (row_retired n r).loop refl (book_retires (book_of r) (index_phases r.loop.indexes) n (let some : n + length r.loop.indexes ≤ r.loop.unretired + _ = can in omega (arith, some, same)) book)
          (let some : n + length r.loop.indexes ≤ r.loop.unretired + _ = can in let most = done_le (index_phases r.loop.indexes) in let count = counted in omega (arith, some, same, most, count))

      pub taken-rows : (n k : ℕ) → 1 ≤ k → CanTake n k r.loop.pieces → n + k ≤ length r.loop.indexes
      taken-rows n k some can =
          let all = can_untaken (book_of r) (index_phases r.loop.indexes) n k book can in
          let last = untaken_small (n + k - 1) (index_phases r.loop.indexes) (all (n + k - 1) (omega (arith, some)) (omega (arith, some))) in
          let same = length_phases r.loop.indexes in
          omega (arith, last, same, some)

      pub takes-some : (n k : ℕ) → 1 ≤ k → CanTake n k r.loop.pieces → Becomes (row_taken n k r) x.store (change M (λ u. u) (taken M n k) Pl X.forest)
      takes-some n k some can =
          let r' = row_taken n k r in
          let goes = takes p input l X h.lawful Pl (book_of r) n k has can in
          let inside = taken-rows n k some can in
          let phs = index_phases r.loop.indexes in
          let done : done_in (index_phases r'.loop.indexes) ≡ done_in phs = ap done_in (phases_taken k n r.loop.indexes) ∙ (running_set k n phs (can_untaken (book_of r) phs n k book can)).done in
          let many' = length_taken k n r.loop.indexes in
          let count = counted in
          let counted' : IsCounted p r' = omega (arith, done, many', count) in
          let book' = subst (BookOk (record { pieces = take n k r.loop.pieces; unretired = r.loop.unretired })) (sym (phases_taken k n r.loop.indexes)) (book_takes (book_of r) (index_phases r.loop.indexes) n k book can) in
          becomes r' refl refl is_begun (length_taken k n r.loop.indexes ∙ many) forks book' counted' x.store (λ u. u) (taken M n k)
          (at_more M Stood (λ u kids. (as_task p r' ≡ u) × (leaves M (index_of_row p r') 0 r.call.length ≡ taken M n k kids))
          (λ u kids j. (sym j.0, ap (λ (f : ℕ → Task M). leaves M f 0 r.call.length) (tasks_taken p r k n r.loop.indexes inside) ∙ (sym (taken_leaves M k n (index_of_row p r) r.call.length) ∙ ap (taken M n k) (sym j.1)))) Pl X.forest stood)
          (subst (IsLawful p input) (take_run M k n Pl X) goes.1)

      -- the loop finishes
      row_over : TaskRow
      row_over = in_phase P.Finished r

      pub finishes : r.loop.unretired ≡ 0 → Becomes (in_phase P.Finished r) x.store (change M (put M (events.in_phase M order.Finished)) (same_frame M) Pl X.forest)
      finishes none =
          let r' = in_phase P.Finished r in
          let begun' : has_begun p r' ≡ true = begun_by (is_loop_at p r.call.task) P.Finished loop refl in
          let same : as_task p r' ≡ put M (events.in_phase M order.Finished) (as_task p r) =
          ap (λ (b : Bool). record { call = (as_task p r).call; phase = order.Finished; answers = r.answers; done = r.done + cond b (suc r.call.length) 0 }) (begun' ∙ sym is_begun) in
          becomes r' refl refl begun' many (ap (λ (u : Task M). length (forks_in M (standing M u))) same ∙ forks) book counted x.store (put M (events.in_phase M order.Finished)) (same_frame M)
          (at_more M Stood (λ u kids. (as_task p r' ≡ put M (events.in_phase M order.Finished) u) × (leaves M (index_of_row p r') 0 r.call.length ≡ kids))
          (λ u kids k. (same ∙ ap (put M (events.in_phase M order.Finished)) (sym k.0), sym k.1)) Pl X.forest stood)
          (kept M R l main_placed (opened_with p.families input) (events.Finish Pl) X (loop_finishes M R X Pl (book_of r) has none) h.lawful)

      -- an index goes on
      module _ (i : ℕ) (v : IndexRow) (got : slice_get r.loop.indexes i ≡ Some v) (is_taken : v.stand ≡ S.Taken) where
        small : i < r.call.length
        small = let lt = got_less p r.loop.indexes i v got in omega (arith, lt, many)

        child_leads : Leads p x.tasks (Q ++ i ∷ [])
        child_leads =
            let count : count_of M Get Q ≡ r.call.length = ap (λ (u : Task M). length (forks_in M (standing M u))) here_was ∙ forks in
            child_there (suc DEPTH) (count_of M Get) Q i leads (let lt = small in omega (arith, lt, count)) (has_room (suc DEPTH) Q shallow)

        index_is : Get (Q ++ i ∷ []) ≡ as_index p r i v
        index_is = child_was i ∙ ap (index_or_fresh p r i) got

        left_is : left_at M (child Pl i) X.forest ≡ left M (as_index p r i v)
        left_is = ap (λ (q : Place). left_at M q X.forest) (child_place Q i) ∙ (left_there M (suc DEPTH) Get (Q ++ i ∷ []) child_leads ∙ ap (left M) index_is)

        pub index_ok : (Z : Type 0) → ((kids : Forest M) → TaskOk M R (as_index p r i v) kids → Z) → Z
        index_ok Z f = at_path M (suc DEPTH) R l main_placed (opened_with p.families input) Z (Q ++ i ∷ []) N child_leads h.lawful (λ kids o. f kids (subst (λ (u : Task M). TaskOk M R u kids) index_is o))

        first : (operation : Operation) → IsNext p (Index r.call i) v.answers v.done operation → IsFirst p operation (left M (as_index p r i v))
        first operation next = index_ok (IsFirst p operation (left M (as_index p r i v))) (λ kids o. next_is_first p (as_index p r i v) o.st operation o.stands next)

        pub under : At M (λ u kids. HasBook M R (book_of r) u kids × (nth (phases M kids) i ≡ Some order.Running)) Pl X.forest
        under = at_more M Stood (λ u kids. HasBook M R (book_of r) u kids × (nth (phases M kids) i ≡ Some order.Running)) (λ u kids k. (
          record {
            begun = ap (λ (w : Task M). w.phase) k.0 ∙ in_phase-ended;
            indexes = subst (AreIndexes M R) (sym (ap (calls M) k.1 ∙ calls_are)) (are_indexes p bodies direct ok r.path r.call fits);
            book = subst (BookOk (book_of r)) (sym (ap (phases M) k.1 ∙ phases_are)) book;
          },
          ap (λ xs. nth xs i) (ap (phases M) k.1 ∙ phases_are) ∙ (nth_phase i r.loop.indexes v got ∙ ap (λ (s : Stand). Some (phase_of_stand s)) is_taken),
        )) Pl X.forest stood

        goes : IsLawful p input (run M (index_events M (left_at M (child Pl i) X.forest) Pl i) X)
        goes = (index_goes p input l X h.lawful Pl (book_of r) i under).1

        abbrev IndexState : (Task M → events.Now M) → List ℕ → Core p
        IndexState f store = record { forest = change M (λ u. u) (λ K. change M (put M f) (same_frame M) (nth_place i) K) Pl X.forest; store = store }

        abbrev pub Events : List events.Event
        Events = index_events M (left_at M (child Pl i) X.forest) Pl i

        acts_run : (q : Act) (k : ℕ → Code M) → left M (as_index p r i v) ≡ Do q k → run M Events X ≡ IndexState (did M q (M.answer q x.store)) (M.after q x.store)
        acts_run q k e =
            let w : left_at M (child Pl i) X.forest ≡ Do q k = left_is ∙ e in
            ap (λ (c : Code M). run M (index_events M c Pl i) X) w
            ∙ (ap (λ (c : Code M). operate M c (child Pl i) X) w
            ∙ ap (λ (G : Forest M). record { forest = G; store = M.after q x.store }) (child_change M (put M (did M q (M.answer q x.store))) (same_frame M) Pl i X.forest))

        abbrev over : Task M → events.Now M
        over u = record { phase = order.Finished; answers = u.answers; done = suc u.done }

        abbrev Ended : Forest M → Forest M
        Ended K = change M (put M (events.in_phase M order.Finished)) (same_frame M) (nth_place i) (change M (put M (ended M)) (same_frame M) (nth_place i) K)

        ends_run : (f : Option Fault) → left M (as_index p r i v) ≡ Stop f → run M Events X ≡ record { forest = change M (λ u. u) Ended Pl X.forest; store = x.store }
        ends_run f e =
            let w : left_at M (child Pl i) X.forest ≡ Stop f = left_is ∙ e in
            let fin = put M (events.in_phase M order.Finished) in
            let end = put M (ended M) in
            ap (λ (c : Code M). run M (index_events M c Pl i) X) w
            ∙ (ap (λ (c : Code M). events.enter M order.Finished (child Pl i) (operate M c (child Pl i) X)) w
            ∙ ap (λ (G : Forest M). record { forest = G; store = x.store })
            (child_change M fin (same_frame M) Pl i (change M end (same_frame M) (child Pl i) X.forest)
            ∙ (ap (change M (λ u. u) (λ K. change M fin (same_frame M) (nth_place i) K) Pl) (child_change M end (same_frame M) Pl i X.forest)
            ∙ change_twice M (λ u. u) (λ u. u) (λ K. change M end (same_frame M) (nth_place i) K) (λ K. change M fin (same_frame M) (nth_place i) K) Pl X.forest)))

        -- the table after an operation of the index
        pub record Went (operation : Operation) (store : List ℕ) : Type 0 where
          pub rows : ShowsLawful p input (record { store = store; tasks = slice_set x.tasks t (row_indexed i operation r) })
          pub shows : shown p (record { store = store; tasks = slice_set x.tasks t (row_indexed i operation r) }) ≡ run M Events X
          pub fault : v.fault ≡ None → (index_after operation v).fault ≡ shown_index_fault p r i (index_after operation v)

        -- what is left of its body once it has ended so
        over_left : (g : Option Fault) → left M (as_index p r i v) ≡ Stop g → left M (put M (ended M) (as_index p r i v)) ≡ Stop g
        over_left g e = index_ok (left M (put M (ended M) (as_index p r i v)) ≡ Stop g) (λ kids o.
            ap (left_of M) (stand_ended M (M.tree (as_index p r i v).call) v.answers v.done o.st g o.stands
            (sym (node_left M R l (as_index p r i v) kids o) ∙ e)
            (subst (λ (ph : order.Phase). PhaseOk M ph (as_index p r i v) o.st kids) (ap phase_of_stand is_taken) o.phase)))

        -- an act of the index
        acted : (operation : Operation) (q : Act) (k : ℕ → Code M) (store : List ℕ) → left M (as_index p r i v) ≡ Do q k
            → ((w : IndexRow) → (index_after operation w).stand ≡ w.stand) → as_index p r i (index_after operation v) ≡ put M (did M q (M.answer q x.store)) (as_index p r i v)
            → (index_after operation v).fault ≡ v.fault → ends operation ≡ 0
            → M.after q x.store ≡ store → Went operation store
        acted operation q k store e stays same faults on after =
            let r' = row_indexed i operation r in
            let f = did M q (M.answer q x.store) in
            let b = becomes r' refl refl is_begun (length_update i (index_after operation) r.loop.indexes ∙ many) forks
            (subst (BookOk (book_of r)) (sym (phases_kept i (index_after operation) r.loop.indexes stays)) book)
            (let ph = ap done_in (phases_kept i (index_after operation) r.loop.indexes stays) in let many' = length_update i (index_after operation) r.loop.indexes in let count = counted in omega (arith, ph, many', count, on)) store (λ u. u) (λ K. change M (put M f) (same_frame M) (nth_place i) K)
            (at_more M Stood (λ u kids. (as_task p r' ≡ u) × (leaves M (index_of_row p r') 0 r.call.length ≡ change M (put M f) (same_frame M) (nth_place i) kids))
            (λ u kids j. (
              sym j.0,
              ap (λ (g : ℕ → Task M). leaves M g 0 r.call.length) (tasks_updated p r i (index_after operation) f r.loop.indexes v got same)
                  ∙ (sym (change_leaf M f (index_of_row p r) r.call.length i 0 i (omega arith)) ∙ ap (change M (put M f) (same_frame M) (nth_place i)) (sym j.1)),
            )) Pl X.forest stood)
            (subst (λ (s : List ℕ). IsLawful p input (IndexState f s)) after (subst (IsLawful p input) (acts_run q k e) goes)) in
            record {
              rows = b.rows;
              shows = b.shows ∙ sym (acts_run q k e ∙ ap (IndexState f) after);
              fault = λ none. faults ∙ (none ∙ sym (no_end (index_after operation v) (stays v ∙ is_taken)));
            }
          where
            no_end : (w : IndexRow) → w.stand ≡ S.Taken → shown_index_fault p r i w ≡ None
            no_end w e = rw e refl

        ended-so : (operation : Operation) (g : Option Fault) → left M (as_index p r i v) ≡ Stop g → ((w : IndexRow) → (index_after operation w).stand ≡ S.Over)
            → as_index p r i (index_after operation v) ≡ put M over (as_index p r i v) → (v.fault ≡ None → (index_after operation v).fault ≡ g) → ends operation ≡ 1 → Went operation x.store
        ended-so operation g e stays same faults over-one =
            let r' = row_indexed i operation r in
            let fin = put M (events.in_phase M order.Finished) in
            let end = put M (ended M) in
            let running : nth (index_phases r.loop.indexes) i ≡ Some order.Running = nth_phase i r.loop.indexes v got ∙ ap (λ (s : Stand). Some (phase_of_stand s)) is_taken in
            let b = becomes r' refl refl is_begun (length_update i (index_after operation) r.loop.indexes ∙ many) forks
            (subst (BookOk (book_of r)) (sym (phases_update i (index_after operation) S.Over r.loop.indexes stays)) (book_ends (book_of r) (index_phases r.loop.indexes) i book running))
            (let ph : done_in (index_phases (update i (index_after operation) r.loop.indexes)) ≡ suc (done_in (index_phases r.loop.indexes)) = ap done_in (phases_update i (index_after operation) S.Over r.loop.indexes stays) ∙ ended_done i (index_phases r.loop.indexes) running in
            let many' = length_update i (index_after operation) r.loop.indexes in let count = counted in omega (arith, ph, many', count, over-one)) x.store (λ u. u)
            (λ K. change M fin (same_frame M) (nth_place i) (change M end (same_frame M) (nth_place i) K))
            (at_more M Stood (λ u kids. (as_task p r' ≡ u) × (leaves M (index_of_row p r') 0 r.call.length ≡ change M fin (same_frame M) (nth_place i) (change M end (same_frame M) (nth_place i) kids)))
            (λ u kids j. (
              sym j.0,
              ap (λ (g : ℕ → Task M). leaves M g 0 r.call.length) (tasks_updated p r i (index_after operation) over r.loop.indexes v got same ∙ sym (twice_at M end fin i (index_of_row p r)))
                  ∙ (sym (change_leaf M (events.in_phase M order.Finished) (changed_at M end i (index_of_row p r)) r.call.length i 0 i (omega arith))
                  ∙ (ap (change M fin (same_frame M) (nth_place i)) (sym (change_leaf M (ended M) (index_of_row p r) r.call.length i 0 i (omega arith)))
                  ∙ ap (λ K. change M fin (same_frame M) (nth_place i) (change M end (same_frame M) (nth_place i) K)) (sym j.1))),
            )) Pl X.forest stood)
            (subst (IsLawful p input) (ends_run g e) goes) in
            record {
              rows = b.rows;
              shows = b.shows ∙ sym (ends_run g e);
              fault = λ none. faults none ∙ (ap (fault_of M) (sym (over_left g e)) ∙ (sym (ap (fault_left p) same) ∙ sym (at_end (index_after operation v) (stays v))));
            }
          where
            at_end : (w : IndexRow) → w.stand ≡ S.Over → shown_index_fault p r i w ≡ fault_left p (as_index p r i w)
            at_end w e = rw e refl

        pub leaf_tree : ForksNothing M (M.tree (as_index p r i v).call)
        leaf_tree =
            let all = (are_indexes p bodies direct ok r.path r.call fits).leaves in
            let same : 0 + i ≡ i = omega arith in
            subst (λ (j : ℕ). ForksNothing M (M.tree (record { path = r.path; job = Index r.call j }))) same (nth_leaf p r.path r.call r.call.length 0 i all small)

        pub leaf_left_here : ForksNothing M (left M (as_index p r i v))
        leaf_left_here = index_ok (ForksNothing M (left M (as_index p r i v))) (λ kids o.
            subst (ForksNothing M) (sym (ap (left_of M) o.stands)) (leaf_left M (M.tree (as_index p r i v).call) v.answers v.done o.st o.stands leaf_tree))

        pub indexed : (operation : Operation) → IsIndexDue p i operation v r x
            → Went operation (store_after p operation x.store)
        indexed (O.Load object element a) due =
            let q : Act = record { object = object; element = element; deed = Load } in
            let f = load_first object element a (left M (as_index p r i v)) (first (O.Load object element a) due.next) in
            acted (O.Load object element a) q f.0 x.store f.1 (λ w. refl)
            (ap (λ (b : ℕ). record { call = (as_index p r i v).call; phase = phase_of_stand v.stand; answers = v.answers ++ b ∷ []; done = suc v.done }) due.finds) refl refl (set-get_or x.store _ 0)
        indexed (O.Store object element n) due =
            let q : Act = record { object = object; element = element; deed = Store n } in
            let f = store_first object element n (left M (as_index p r i v)) (first (O.Store object element n) due.next) in
            acted (O.Store object element n) q f.0 (plain.after p.families q x.store) f.1 (λ w. refl) refl refl refl refl
        indexed (O.Fold object element op n) due =
            let q : Act = record { object = object; element = element; deed = Fold op n } in
            let f = fold_first (left M (as_index p r i v)) (first (O.Fold object element op n) due.next) in
            acted (O.Fold object element op n) q f.0 (plain.after p.families q x.store) f.1 (λ w. refl) refl refl refl refl
          where
            fold_first : (w : Code M) → IsFirst p (O.Fold object element op n) w
                → (k : ℕ → Code M) × (w ≡ Do (record { object = object; element = element; deed = Fold op n }) k)
            fold_first (Stop f) h = absurd h
            fold_first (Do q k) h = (k, ap (λ (b : Act). Do b k) h)
            fold_first (Fork c w) h = absurd h
        indexed (O.Fork call) due = absurd (no_fork_first call (left M (as_index p r i v)) (first (O.Fork call) due.next) leaf_left_here)
        indexed O.End due = ended-so O.End None (end_first (left M (as_index p r i v)) (first O.End due.next)) (λ w. refl) refl (λ none. none) refl
        indexed (O.Fault law line) due = ended-so (O.Fault law line) (Some (record { law = law; line = line })) (fault_first (left M (as_index p r i v)) (first (O.Fault law line) due.next)) (λ w. refl) refl (λ none. refl) refl
          where
            fault_first : (w : Code M) → IsFirst p (O.Fault law line) w → w ≡ Stop (Some (record { law = law; line = line }))
            fault_first (Stop f) h = ap (λ (g : Option Fault). Stop g) h
            fault_first (Do q k) h = absurd h
            fault_first (Fork c w) h = absurd h

    pub not_begun : r.phase ≡ P.Running → has_begun p r ≡ false
    not_begun running = begun_not (is_loop_at p r.call.task) r.phase (ap (λ (ph : Phase). is_looping ph || is_finished ph) running)

    pub none_forked : r.phase ≡ P.Running → forks_in M (standing M (as_task p r)) ≡ []
    none_forked running = (h.loops t r at).zeroing loop (not_begun running)

    -- a loop whose zeroing is done begins
    module _ (running : r.phase ≡ P.Running) (zeroed : IsZeroed p r) where
      abbrev Cs : List Placed
      Cs = index_calls r.path r.call 0 r.call.length

      cs_many : length Cs ≡ r.call.length
      cs_many = calls_length r.path r.call 0 r.call.length

      abbrev Bare : Task M → Forest M → Type 0
      Bare u kids = (u ≡ as_task p r) × (kids ≡ Nil)

      pub bare : At M Bare Pl X.forest
      bare = at_more M (λ u kids. (u ≡ as_task p r) × TaskOk M R u kids) Bare
          (λ u kids k. (k.0, no_calls M kids (k.1.forked ∙ (sym (ap (forks_in M) k.1.stands) ∙ (ap (λ (w : Task M). forks_in M (standing M w)) k.0 ∙ (none_forked running)))))) Pl X.forest
          (at_shape M R (λ u kids. u ≡ as_task p r) Pl X.forest h.lawful.shape (tree_at M (λ u kids. u ≡ as_task p r) (suc DEPTH) Get (count_of M Get) Q leads here_was))

      pub can : At M (λ u kids. CanBegin p r.path r.call u) Pl X.forest
      can = at_more M Bare (λ u kids. CanBegin p r.path r.call u) (λ u kids k. record {
        running = ap (λ (w : Task M). w.phase) k.0 ∙ ap phase_of running;
        placed = ap (λ (w : Task M). w.call) k.0;
        loop = loop;
        zeroed = ap (left M) k.0 ∙ zeroed;
      }) Pl X.forest bare

      doing : At M (Doing M (forks_then M Cs None)) Pl X.forest
      doing = at_more M Bare (Doing M (forks_then M Cs None)) (λ u kids k. (ap (λ (w : Task M). w.phase) k.0 ∙ ap phase_of running, ap (left M) k.0 ∙ zeroed)) Pl X.forest bare

      abbrev Y : Core p
      Y = record { forest = change M (begun M (length Cs)) (add_all M Cs) Pl X.forest; store = x.store }

      y_lawful : IsLawful p input Y
      y_lawful =
          subst (IsLawful p input) (begins_run M R l main_placed (opened_with p.families input) Cs None Pl X h.lawful doing)
          (subst (λ (n : ℕ). IsLawful p input (after_events p (begin_events Pl n) X)) (sym cs_many) (loop_begins p input l bodies direct ok X h.lawful Pl r.path r.call can).1)

      abbrev Begun : TaskRow
      Begun = row_begun r

      begun-so : has_begun p Begun ≡ true
      begun-so = begun_by (is_loop_at p r.call.task) P.Looping loop refl

      task_is : as_task p Begun ≡ begun M (length Cs) (as_task p r)
      task_is =
          let a : cond (has_begun p Begun) (suc r.call.length) 0 ≡ suc r.call.length = ap (λ (b : Bool). cond b (suc r.call.length) 0) begun-so in
          let b : cond (has_begun p r) (suc r.call.length) 0 ≡ 0 = ap (λ (b : Bool). cond b (suc r.call.length) 0) (not_begun running) in
          let many = cs_many in
          let done : r.done + cond (has_begun p Begun) (suc r.call.length) 0 ≡ r.done + cond (has_begun p r) (suc r.call.length) 0 + suc (length Cs) = omega (arith, a, b, many) in
          ap (λ (d : ℕ). record { call = (as_task p r).call; phase = order.Ended; answers = r.answers; done = d }) done ∙ sym (begun_is M (length Cs) (as_task p r))

      kids_are : leaves M (index_of_row p Begun) 0 r.call.length ≡ add_all M Cs Nil
      kids_are =
          sym (tasks_fresh p r r.call.length)
          ∙ (ap (leaves M (fresh_at p r.path r.call) 0) (let n = r.call.length in omega arith) ∙ sym (add_leaves p r.path r.call r.call.length 0))

      begun_count : length (forks_in M (standing M (as_task p Begun))) ≡ r.call.length
      begun_count =
          let A = λ (u : Task M) (kids : Forest M). (u ≡ as_task p Begun) × (kids ≡ leaves M (index_of_row p Begun) 0 r.call.length) in
          let there : At M A Pl Y.forest = at_change M A (begun M (length Cs)) (add_all M Cs) Pl X.forest
          (at_more M Bare (λ u kids. A (begun M (length Cs) u) (add_all M Cs kids)) (λ u kids k. (ap (begun M (length Cs)) k.0 ∙ sym task_is, ap (add_all M Cs) k.1 ∙ sym kids_are)) Pl X.forest bare) in
          at_says M (length (forks_in M (standing M (as_task p Begun))) ≡ r.call.length) Pl Y.forest
          (at_more M (λ u kids. A u kids × TaskOk M R u kids) (λ u kids. length (forks_in M (standing M (as_task p Begun))) ≡ r.call.length) (λ u kids k.
          ap (λ (w : Task M). length (forks_in M (standing M w))) (sym k.0.0)
          ∙ (ap (λ (o : Option (Standing M)). length (forks_in M o)) k.1.stands
          ∙ (ap length (sym k.1.forked) ∙ (ap (λ (K : Forest M). length (calls M K)) k.0.1 ∙ calls_many M (index_of_row p Begun) 0 r.call.length)))) Pl Y.forest
          (at_shape M R A Pl Y.forest y_lawful.shape there))

      no_index_yet : (i : ℕ) → length (forks_in M (standing M (index_of_row p r i))) ≡ 0
      no_index_yet i = ap (λ (part : LoopPart). length (forks_in M (standing M (index_or_fresh p r i (slice_get part.indexes i))))) ((h.loops t r at).other (not_begun running))

      begun_shows : shown p (with_row t (row_begun r) x) ≡ Y
      begun_shows = ap (λ (G : Forest M). record { forest = G; store = x.store })
          (forest_after p bodies direct ok x.tasks h.once t r Begun at refl Q named_is none_below fits (replicate_many r.call.length untaken_index) shallow leads begun_count
          ∙ change_alike M (λ u. as_task p Begun) (begun M (length Cs)) (λ K. leaves M (index_of_row p Begun) 0 r.call.length) (add_all M Cs) Pl X.forest
          (at_more M Bare (λ u kids. (as_task p Begun ≡ begun M (length Cs) u) × (leaves M (index_of_row p Begun) 0 r.call.length ≡ add_all M Cs kids))
          (λ u kids k. (task_is ∙ ap (begun M (length Cs)) (sym k.0), kids_are ∙ ap (add_all M Cs) (sym k.1))) Pl X.forest bare))

      pub begins : Becomes (row_begun r) x.store (change M (begun M (length Cs)) (add_all M Cs) Pl X.forest)
      begins = record {
        rows = kept_table Begun refl refl x.store
            (begun_ok Begun begun-so (replicate_many r.call.length untaken_index) (subst (BookOk (whole_book r.call.length)) (sym (phases_untaken r.call.length)) (book_begins r.call.length)) (begun_counted r.call.length))
            (let none : length (forks_in M (standing M (as_task p r))) ≡ 0 = ap length (none_forked running) in omega (arith, none)) no_index_yet
            (subst (IsLawful p input) (sym begun_shows) y_lawful);
        shows = begun_shows;
      }

      pub begins_by : run M (begin_events Pl r.call.length) X ≡ Y
      begins_by =
          subst (λ (n : ℕ). run M (begin_events Pl n) X ≡ Y) cs_many (begins_run M R l main_placed (opened_with p.families input) Cs None Pl X h.lawful doing)
