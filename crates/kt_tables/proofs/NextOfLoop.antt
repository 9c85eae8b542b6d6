-- The next operation of a loop's call, and of its indexes; a loop of which none is next has its zeroing done.
use Rattle.std.proofs.Common.{◌≡◌, ◌≤◌, ◌+◌, ℕ, zero, suc, Bool, true, false, cond, List, [], ◌∷◌, ◌++◌, length, Some, None, ◌⊎◌, inl, inr, refl, sym, ap, subst, ◌∙◌, arith, slice_get}
use Rattle.kt_law.specs.Acts.{Deed, Load, Store, Fold}
use Rattle.kt_order.specs.Lists.{nth}
use Rattle.kt_order.specs.Body.{Stop, Do, Fork}
use Rattle.kt_order.specs.Machine.{Code}
use Rattle.kt_order.specs.Laws.{Laws}
use Rattle.kt_order.specs.Stand.{Standing, stand}
use Rattle.kt_order.specs.Forest as order
use Rattle.kt_order.specs.Forest.{Task, Forest}
use Rattle.kt_order.specs.Named.{forks_in}
use Rattle.kt_order.specs.Rest.{left, left_of}
use Rattle.kt_order.specs.Lawful.{PhaseOk}
use Rattle.kt_order.specs.Loops.{forks_then, ForksNothing}
use Rattle.kt_order.specs.Books.{CanTake, done_in}
use Rattle.kt_order.proofs.Books.{book_goes}
use Rattle.kt_order.proofs.Stands.{stand_none, some_is, fork_some}
use Rattle.kt_prog.specs.Calls.{Whole, Index}
use Rattle.kt_prog.specs.Laws.{BodiesKeep, LoopsAreDirect}
use Rattle.kt_prog.specs.Script.{Script}
use Rattle.kt_prog.specs.Bodies.{script_of}
use Rattle.kt_prog.specs.Store.{answer}
use Rattle.kt_prog.specs.Operations.{trace, heard, is_loop_at, end_of, IsNext}
use Rattle.kt_prog.specs.Accepted.{IsAccepted}
use Rattle.kt_prog.specs.Reference.{Placed, placed, placed_fork, machine_of}
use Rattle.kt_prog.specs.declared.programs.Program.{Program}
use Rattle.kt_prog.specs.declared.runs.Operation.{Operation}
use Rattle.kt_prog.specs.declared.runs.Operation.TheVariants as O
use Rattle.kt_runs.specs.Bodies.{IsFirst}
use Rattle.kt_runs.specs.Rights.{rights_in}
use Rattle.kt_runs.specs.CoreEvents.{IsAct}
use Rattle.kt_runs.specs.Loops.{index_calls}
use Rattle.kt_tables.specs.TableEvents.{Finds}
use Rattle.kt_tables.specs.TableLaws.{phase_of}
use Rattle.kt_tables.specs.declared.events.Phase.TheVariants as P
use Rattle.kt_tables.specs.Tables.{IndexRow, TaskRow, TaskTable}
use Rattle.kt_tables.specs.TableLaws.{phase_of_stand, index_phases, book_of, has_begun, as_task, as_index, ShowsLawful}
use Rattle.kt_tables.specs.TableEvents.{IsIndexDue, NothingIsNext}
use Rattle.kt_tables.specs.declared.events.Stand.{Stand}
use Rattle.kt_tables.specs.declared.events.Stand.TheVariants as S
use Rattle.kt_runs.proofs.Going.{stand_zeroing, loop_zeroing}
use Rattle.kt_runs.proofs.Next.{next_is_first}
use Rattle.kt_runs.proofs.LoopActs.{IsActOf, loop_next_is_act}
use Rattle.kt_tables.proofs.Indexed.{length_phases}
use Rattle.kt_tables.proofs.LoopShown.{leaf_has_none}
use Rattle.kt_tables.proofs.LoopKept.{CanRetire, IsZeroed, task_ok, book, not_begun, none_forked, index_ok, leaf_left_here, leaf_tree}

module _ (p : Program) where
  -- the operation is the one after so many, and finds what the store has
  abbrev pub NextIn : List Operation → List ℕ → Script → List ℕ → ℕ → Operation → Type 0
  NextIn end store w answers n op = Finds p store op × (slice_get (trace end w (answers ++ heard op)) n ≡ Some op)

  abbrev pub HasNext : List Operation → List ℕ → Script → List ℕ → ℕ → Type 0
  HasNext end store w answers n = (op : Operation) × NextIn end store w answers n op

  act_first : (end : List Operation) (store : List ℕ) (object element : ℕ) (d : Deed) (next : ℕ → Script) → HasNext end store (Do (record { object = object; element = element; deed = d }) next) [] 0
  act_first end store object element Load next = (O.Load object element (answer p.families (record { object = object; element = element; deed = Load }) store), (refl, refl))
  act_first end store object element (Store v) next = (O.Store object element v, (tt, refl))
  act_first end store object element (Fold g v) next = (O.Fold object element g v, (tt, refl))

  act_next : (end : List Operation) (store : List ℕ) (object element : ℕ) (d : Deed) (path : List ℕ) (k : ℕ) (next : ℕ → Script) (answers : List ℕ) (n : ℕ) (st : Standing (machine_of p))
      → ((a : ℕ) (more : List ℕ) → stand (machine_of p) (placed path k (next a)) more n ≡ Some st → HasNext end store (next a) more n)
      → stand (machine_of p) (placed path k (Do (record { object = object; element = element; deed = d }) next)) answers (suc n) ≡ Some st
      → HasNext end store (Do (record { object = object; element = element; deed = d }) next) answers (suc n)
  act_next end store object element Load path k next [] n st f e = absurd (cc e)
  act_next end store object element Load path k next (a ∷ more) n st f e = f a more e
  act_next end store object element (Store v) path k next answers n st f e = f 0 answers e
  act_next end store object element (Fold g v) path k next answers n st f e = f 0 answers e

  -- it is at an act, or at its end where the end is an operation
  abbrev Stops : Code (machine_of p) → Type 0
  Stops (Stop f) = Unit {0}
  Stops (Do q k) = ⊥
  Stops (Fork c w) = ⊥

  abbrev Due : List Operation → Standing (machine_of p) → Type 0
  Due end st = IsAct p st.left ⊎ (Stops st.left × (st.over ≡ false) × (end ≡ O.End ∷ []))

  first : (end : List Operation) (store : List ℕ) (w : Script) (path : List ℕ) (k : ℕ) → Due end (record { left = placed path k w; forks = []; over = false }) → HasNext end store w [] 0
  first end store (Stop None) path k (inl h) = absurd h
  first end store (Stop None) path k (inr h) = (O.End, (tt, subst (λ (xs : List Operation). slice_get xs 0 ≡ Some O.End) (sym h.2) refl))
  first end store (Stop (Some f)) path k h = (O.Fault f.law f.line, (tt, refl))
  first end store (Do q next) path k h = act_first end store q.object q.element q.deed next
  first end store (Fork job w) path k (inl h) = absurd h
  first end store (Fork job w) path k (inr h) = absurd h.0

  next_in : (end : List Operation) (store : List ℕ) (w : Script) (path : List ℕ) (k : ℕ) (answers : List ℕ) (n : ℕ) (st : Standing (machine_of p))
      → stand (machine_of p) (placed path k w) answers n ≡ Some st → st.forks ≡ [] → Due end st → HasNext end store w answers n
  next_in end store w path k answers zero st e bare due =
      let s = stand_none (machine_of p) (placed path k w) answers st e in
      subst (λ (xs : List ℕ). HasNext end store w xs 0) (sym s.0) (first end store w path k (subst (Due end) s.1 due))
  next_in end store (Stop f) path k [] (suc zero) st e bare due = over_by (some_is (machine_of p) (record { left = Stop f; forks = []; over = true }) st e) due
    where
      over_by : record { left = Stop f; forks = []; over = true } ≡ st → Due end st → HasNext end store (Stop f) [] 1
      over_by same due = over_due (subst (Due end) (sym same) due)
        where
          over_due : Due end (record { left = Stop f; forks = []; over = true }) → HasNext end store (Stop f) [] 1
          over_due (inl h) = absurd h
          over_due (inr h) = absurd (cc (h.1))
  next_in end store (Stop f) path k [] (suc (suc n)) st e bare due = absurd (cc e)
  next_in end store (Stop f) path k (a ∷ more) (suc n) st e bare due = absurd (cc e)
  next_in end store (Do q next) path k answers (suc n) st e bare due =
      act_next end store q.object q.element q.deed path k next answers n st (λ a more h. next_in end store (next a) path k more n st h bare due) e
  next_in end store (Fork job w) path k answers (suc n) st e bare due =
      let s = fork_some (machine_of p) (placed_fork path k job) (stand (machine_of p) (placed path (suc k) w) answers n) st e in
      absurd (forked s.0.forks (sym (ap (λ (x : Standing (machine_of p)). x.forks) s.2) ∙ bare))
    where
      forked : (fs : List Placed) → placed_fork path k job ∷ fs ≡ [] → ⊥
      forked fs h = cc

  module _ (input : List ℕ) (l : Laws (machine_of p) (rights_in p)) (bodies : BodiesKeep) (direct : LoopsAreDirect) (ok : IsAccepted p) (x : TaskTable) (h : ShowsLawful p input x)
      (t : ℕ) (r : TaskRow) (at : slice_get x.tasks t ≡ Some r) (loop : is_loop_at p r.call.task ≡ true) where
    -- where the zeroing is done no operation is next
    nothing_first : (op : Operation) → IsActOf op → (cs : List Placed) → IsFirst p op (forks_then (machine_of p) cs None) → ⊥
    nothing_first (O.Load object element v) act [] h = h
    nothing_first (O.Load object element v) act (c ∷ cs) h = h
    nothing_first (O.Store object element v) act [] h = h
    nothing_first (O.Store object element v) act (c ∷ cs) h = h
    nothing_first (O.Fold object element g v) act [] h = h
    nothing_first (O.Fold object element g v) act (c ∷ cs) h = h
    nothing_first (O.Fork call) act cs h = act
    nothing_first O.End act cs h = act
    nothing_first (O.Fault law line) act cs h = act

    -- a loop that runs is at an act, or its zeroing is done and no operation is next
    pub goes_or_begins : r.phase ≡ P.Running → HasNext (end_of p (Whole r.call)) x.store (script_of p (Whole r.call)) r.answers r.done ⊎ (IsZeroed p r × NothingIsNext p r)
    goes_or_begins running = task_ok p input l bodies direct ok x h t r at loop (HasNext (end_of p (Whole r.call)) x.store (script_of p (Whole r.call)) r.answers r.done ⊎ (IsZeroed p r × NothingIsNext p r)) (λ kids o.
        let T = forks_then (machine_of p) (index_calls r.path r.call 0 r.call.length) None in
        let over : o.st.over ≡ false = subst (λ (ph : order.Phase). PhaseOk (machine_of p) ph (as_task p r) o.st kids) (ap phase_of running) o.phase in
        let bare : o.st.forks ≡ [] = sym (ap (forks_in (machine_of p)) o.stands) ∙ none_forked p input l bodies direct ok x h t r at loop running in
        let none : has_begun p r ≡ false = not_begun p input l bodies direct ok x h t r at loop running in
        let zero : cond (has_begun p r) (suc r.call.length) 0 ≡ 0 = ap (λ (b : Bool). cond b (suc r.call.length) 0) none in
        let count : (as_task p r).done ≡ r.done = omega (arith, zero) in
        let same : left (machine_of p) (as_task p r) ≡ o.st.left = ap (left_of (machine_of p)) o.stands in
        elim (stand_zeroing p T ((machine_of p).tree (as_task p r).call) r.answers (as_task p r).done o.st o.stands (loop_zeroing p r.call r.path loop) bare over) [
          | inl act ↦ inl (subst (HasNext (end_of p (Whole r.call)) x.store (script_of p (Whole r.call)) r.answers) count
              (next_in (end_of p (Whole r.call)) x.store (script_of p (Whole r.call)) r.path 1 r.answers (as_task p r).done o.st o.stands bare (inl act)))
          | inr is ↦ inr (
            same ∙ is,
            λ op next.
                nothing_first op (loop_next_is_act p r.call loop r.answers r.done op next) (index_calls r.path r.call 0 r.call.length)
                (subst (IsFirst p op) (same ∙ is) (next_is_first p (as_task p r) o.st op o.stands (subst (λ (n : ℕ). IsNext p (Whole r.call) r.answers n op) (sym count) next))),
          )
        ])

    -- so where none is next its zeroing is done
    pub zeroed : r.phase ≡ P.Running → NothingIsNext p r → IsZeroed p r
    zeroed running nothing = elim (goes_or_begins running) [
      | inl n ↦ absurd (nothing n.0 n.1.1)
      | inr done ↦ done.0
    ]

    module _ (looping : r.phase ≡ P.Looping) where
      -- an index that is taken has a next operation
      pub index_goes_on : (i : ℕ) (v : IndexRow) (got : slice_get r.loop.indexes i ≡ Some v) (taken : v.stand ≡ S.Taken) → (op : Operation) × IsIndexDue p i op v r x
      index_goes_on i v got taken =
          let leaf = leaf_left_here p input l bodies direct ok x h t r at loop looping i v got taken in
          index_ok p input l bodies direct ok x h t r at loop looping i v got taken ((op : Operation) × IsIndexDue p i op v r x) (λ kids o.
          let u = as_index p r i v in
          let over : o.st.over ≡ false = subst (λ (ph : order.Phase). PhaseOk (machine_of p) ph u o.st kids) (ap phase_of_stand taken) o.phase in
          let same : left (machine_of p) u ≡ o.st.left = ap (left_of (machine_of p)) o.stands in
          let bare : o.st.forks ≡ [] = sym (ap (forks_in (machine_of p)) o.stands) ∙ leaf_has_none p u (leaf_tree p input l bodies direct ok x h t r at loop looping i v got taken) in
          let n = next_in (O.End ∷ []) x.store (script_of p (Index r.call i)) r.path 1 v.answers v.done o.st o.stands bare (due_by o.st o.st.left over (subst (ForksNothing (machine_of p)) same leaf)) in
          (n.0, record { next = n.1.1; finds = n.1.0 }))
        where
          due_by : (st : Standing (machine_of p)) (w : Code (machine_of p)) → st.over ≡ false → ForksNothing (machine_of p) w → IsAct p w ⊎ (Stops w × (st.over ≡ false) × (O.End ∷ [] ≡ O.End ∷ []))
          due_by st (Stop f) over leaf = inr (tt, over, refl)
          due_by st (Do q k) over leaf = inl tt
          due_by st (Fork c w) over leaf = absurd leaf

      row_of : (rows : List IndexRow) (i : ℕ) → nth (index_phases rows) i ≡ Some order.Running → (v : IndexRow) × (slice_get rows i ≡ Some v) × (v.stand ≡ S.Taken)
      row_of [] i e = absurd (cc e)
      row_of (v ∷ rows) zero e = (v, refl, by v.stand refl e)
        where
          by : (s : Stand) → v.stand ≡ s → Some (phase_of_stand s) ≡ Some order.Running → v.stand ≡ S.Taken
          by S.Untaken is e = absurd (cc e)
          by S.Taken is e = is
          by S.Over is e = absurd (cc e)
      row_of (v ∷ rows) (suc i) e = row_of rows i e

      -- an index can be taken, goes on, or can be retired, or none is left
      pub loop_goes_on : ((at : ℕ) × CanTake at 1 r.loop.pieces)
          ⊎ (((i : ℕ) × (v : IndexRow) × (slice_get r.loop.indexes i ≡ Some v) × (v.stand ≡ S.Taken)) ⊎ (CanRetire 1 r ⊎ (r.loop.unretired ≡ 0)))
      loop_goes_on = elim (book_goes (book_of r) (index_phases r.loop.indexes) (book p input l bodies direct ok x h t r at loop looping)) [
        | inl take ↦ inl take
        | inr (inl i) ↦ (let v = row_of r.loop.indexes i.0 i.1 in inr (inl (i.0, v.0, v.1, v.2)))
        | inr (inr (inl can)) ↦ inr (inr (inl (let same = length_phases r.loop.indexes in let c : 1 + length (index_phases r.loop.indexes) ≤ r.loop.unretired + done_in (index_phases r.loop.indexes) = can in omega (arith, same, c))))
        | inr (inr (inr none)) ↦ inr (inr (inr none))
      ]
