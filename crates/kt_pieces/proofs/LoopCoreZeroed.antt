-- A loop's task before it has begun: nobody is below it, there is room below it, and it is at an act of its zeroing or can begin.
use Rattle.std.proofs.Common.{◌≡◌, ℕ, zero, suc, ◌⊎◌, Bool, true, false, List, [], ◌∷◌, ◌++◌, length, map, Some, None, sym, refl, ap, ◌∙◌, subst, inl, inr, arith, slice_get, if◌then◌else◌}
use mathlib.Core.Option as o
use mathlib.Core.Option.{none, some, some-ne-none}
use Rattle.kt_law.specs.Acts.{Deed, Load, Store, Fold}
use Rattle.kt_order.specs.Body.{Stop, Do, Fork}
use Rattle.kt_order.specs.Machine.{Machine}
use Rattle.kt_order.specs.Laws.{Laws}
use Rattle.kt_order.specs.Stand.{Standing, stand}
use Rattle.kt_order.specs.Forest.{Phase, Task, Running}
use Rattle.kt_order.specs.Rest.{standing, left, left_of}
use Rattle.kt_order.specs.Lawful.{PhaseOk}
use Rattle.kt_order.specs.Loops.{forks_then}
use Rattle.kt_order.specs.Paths.{HasRoom}
use Rattle.kt_order.specs.Named.{forks_in}
use Rattle.kt_order.proofs.Stands.{stand_none, some_is, fork_some}
use Rattle.kt_prog.specs.Calls.{CallTree, Whole, Index}
use Rattle.kt_prog.specs.Script.{Script}
use Rattle.kt_prog.specs.Bodies.{script_of}
use Rattle.kt_prog.specs.Laws.{BodiesKeep}
use Rattle.kt_prog.specs.Accepted.{IsAccepted}
use Rattle.kt_prog.specs.Operations.{trace, heard, is_loop_at, IsNext}
use Rattle.kt_prog.specs.Reference.{Placed, placed, placed_fork, machine_of}
use Rattle.kt_prog.specs.declared.programs.Program.{Program}
use Rattle.kt_prog.specs.declared.runs.Operation.{Operation}
use Rattle.kt_prog.specs.declared.runs.Operation.TheVariants as O
use Rattle.kt_runs.specs.Rights.{rights_in}
use Rattle.kt_runs.specs.Loops.{index_calls}
use Rattle.kt_runs.specs.CoreEvents.{IsAct}
use Rattle.kt_runs.specs.ByPath.{Path, child, levels, IsPlacedAt}
use Rattle.kt_runs.proofs.Going.{stand_zeroing, loop_zeroing}
use Rattle.kt_runs.proofs.LoopOperations.{zeroing, nothing_next}
use Rattle.kt_runs.proofs.PathCalls.{fits_deep, task_law, kid_of_loop, calls_fit}
use Rattle.kt_runs.proofs.PathLists.{room_in}
use Rattle.kt_rule.specs.declared.views.Setup.{Setup}
use Rattle.kt_rule.specs.Lies.{Lie, Lies, phase_of, task_of, get_of, core_of, Cored}
use Rattle.kt_rule.proofs.Puts.{get_at}
use Rattle.kt_pieces.proofs.LoopCoreBegins.{nothing_forked}

list_empty : {A : Type 0} (xs : List A) → length xs ≡ 0 → xs ≡ []
list_empty [] e = refl
list_empty (x ∷ xs) e = absurd (omega (arith, e))

module _ (p : Program) where
  abbrev Due : Script → List ℕ → ℕ → Type 0
  Due w answers n = (op : Operation) × (slice_get (trace [] w (answers ++ heard op)) n ≡ Some op)

  act_due : (object element : ℕ) (d : Deed) (next : ℕ → Script) → Due (Do (record { object = object; element = element; deed = d }) next) [] 0
  act_due object element Load next = (O.Load object element 0, refl)
  act_due object element (Store v) next = (O.Store object element v, refl)
  act_due object element (Fold g v) next = (O.Fold object element g v, refl)

  first_due : (w : Script) (path : List ℕ) (k : ℕ) → IsAct p (placed path k w) → Due w [] 0
  first_due (Stop f) path k act = absurd act
  first_due (Do q next) path k act = act_due q.object q.element q.deed next
  first_due (Fork job w) path k act = absurd act

  act_next : (object element : ℕ) (d : Deed) (path : List ℕ) (k : ℕ) (next : ℕ → Script) (answers : List ℕ) (n : ℕ) (st : Standing (machine_of p))
      → ((a : ℕ) (more : List ℕ) → stand (machine_of p) (placed path k (next a)) more n ≡ Some st → Due (next a) more n)
      → stand (machine_of p) (placed path k (Do (record { object = object; element = element; deed = d }) next)) answers (suc n) ≡ Some st
      → Due (Do (record { object = object; element = element; deed = d }) next) answers (suc n)
  act_next object element Load path k next [] n st f e = absurd (cc e)
  act_next object element Load path k next (a ∷ more) n st f e = f a more e
  act_next object element (Store v) path k next answers n st f e = f 0 answers e
  act_next object element (Fold g v) path k next answers n st f e = f 0 answers e

  -- a body that has forked nothing and is at an act has a next operation
  next_due : (w : Script) (path : List ℕ) (k : ℕ) (answers : List ℕ) (n : ℕ) (st : Standing (machine_of p))
      → stand (machine_of p) (placed path k w) answers n ≡ Some st → st.forks ≡ [] → IsAct p st.left → Due w answers n
  next_due w path k answers zero st e bare act =
      let s = stand_none (machine_of p) (placed path k w) answers st e in
      subst (λ (xs : List ℕ). Due w xs 0) (sym s.0)
      (first_due w path k (subst (λ (z : Standing (machine_of p)). IsAct p z.left) s.1 act))
  next_due (Stop f) path k [] (suc zero) st e bare act = absurd (subst (λ (z : Standing (machine_of p)). IsAct p z.left)
      (sym (some_is (machine_of p) (record { left = Stop f; forks = []; over = true }) st e)) act)
  next_due (Stop f) path k [] (suc (suc n)) st e bare act = absurd (cc e)
  next_due (Stop f) path k (a ∷ more) (suc n) st e bare act = absurd (cc e)
  next_due (Do q next) path k answers (suc n) st e bare act =
      act_next q.object q.element q.deed path k next answers n st (λ a more h. next_due (next a) path k more n st h bare act) e
  next_due (Fork job w) path k answers (suc n) st e bare act =
      let s = fork_some (machine_of p) (placed_fork path k job) (stand (machine_of p) (placed path (suc k) w) answers n) st e in
      absurd (forked s.0.forks (sym (ap (λ (x : Standing (machine_of p)). x.forks) s.2) ∙ bare))
    where
      forked : (fs : List Placed) → placed_fork path k job ∷ fs ≡ [] → ⊥
      forked fs h = cc

module _ (j : Setup) (l : Laws (machine_of j.program) (rights_in j.program)) (lies : Lies) (store : List ℕ) (c : Cored j lies store)
    (p : Path) (t : Lie) (is : lies p ≡ some t) where
  abbrev m : Machine
  m = machine_of j.program

  abbrev T : Type 0
  T = Task (machine_of j.program)

  got : get_of j lies p ≡ task_of j p t
  got = get_at j lies p t is

  -- there is room below a task
  pub task_room : BodiesKeep → IsAccepted j.program → HasRoom levels p
  task_room bodies ok =
      let fit = subst (λ (z : T). IsPlacedAt j.program (core_of j lies store) p z.call) got
      (calls_fit j.program j.input l (core_of j lies store) c.lawful bodies ok p (c.there p t is)) in
      let deep = fits_deep j.program t.berth.call fit.2 in
      let long = fit.1 in
      room_in levels p (omega (arith, deep, long))

  module _ (loop : is_loop_at j.program t.berth.call.task ≡ true) where
    -- no task is below a loop
    pub loop_bare : (i : ℕ) → lies (child p i) ≡ none
    loop_bare i = go (lies (child p i)) refl
      where
        clash : (d : CallTree) → Whole d ≡ Index t.berth.call i → ⊥
        clash d e = cc

        go : (z : o.Option Lie) → lies (child p i) ≡ z → z ≡ none
        go none e = refl
        go (some y) e = absurd (clash y.berth.call (ap (λ (z : T). z.call.job) (sym (get_at j lies (child p i) y e))
            ∙ kid_of_loop j.program j.input l (core_of j lies store) c.lawful p i (c.there (child p i) y e) t.berth.call
            (ap (λ (z : T). z.call.job) got) loop))

    module _ (room : HasRoom levels p) (runs : phase_of t.stage ≡ Running) (unlooped : t.indexes ≡ []) where
      abbrev Begun : Type 0
      Begun = left m (task_of j p t) ≡ forks_then m (index_calls (map suc p) t.berth.call 0 t.berth.call.length) None

      abbrev Next : Type 0
      Next = (op : Operation) × IsNext j.program (Whole t.berth.call) t.answers t.count op

      -- an operation of its zeroing is next, or it can begin
      pub loop_stands : Next ⊎ Begun
      loop_stands = task_law j.program j.input l (core_of j lies store) c.lawful (Next ⊎ Begun) p (c.there p t is) (λ kids law.
          at (subst (λ (z : T). standing m z ≡ Some law.st) got law.stands)
          (subst (λ (ph : Phase). PhaseOk m ph (get_of j lies p) law.st kids) (ap (λ (z : T). z.phase) got ∙ runs) law.phase))
        where
          at : {st : Standing (machine_of j.program)} → standing m (task_of j p t) ≡ Some st → st.over ≡ false → Next ⊎ Begun
          at {st} stands over =
              let target = forks_then m (index_calls (map suc p) t.berth.call 0 t.berth.call.length) None in
              let bare : st.forks ≡ [] = list_empty st.forks (sym (ap (λ z. length (forks_in m z)) stands)
              ∙ nothing_forked j l store p room lies c t is loop_bare unlooped) in
              elim (stand_zeroing j.program target (m.tree (task_of j p t).call) t.answers t.count st stands
              (loop_zeroing j.program t.berth.call (map suc p) loop) bare over) [
                | inl act ↦ (let due = next_due j.program (script_of j.program (Whole t.berth.call)) (map suc p) 1 t.answers t.count st stands bare act in
                    inl (
                      due.0,
                      subst (λ (b : Bool). slice_get (trace (if b then [] else O.End ∷ [])
                          (script_of j.program (Whole t.berth.call)) (t.answers ++ heard due.0)) t.count ≡ Some due.0) (sym loop) due.1,
                    ))
                | inr e ↦ inr (ap (left_of m) stands ∙ e)
              ]

      -- its zeroing is done where none is next
      pub loop_zeroed : (Next → ⊥) → Begun
      loop_zeroed nothing = elim loop_stands [ inl next ↦ absurd (nothing next) | inr e ↦ e ]

      -- as after so many operations as it has
      pub loop_counted : t.count ≡ length (zeroing j.program t.berth.call) → Begun
      loop_counted many = loop_zeroed (λ next. nothing_next j.program t.berth.call loop t.answers next.0
          (subst (λ (n : ℕ). IsNext j.program (Whole t.berth.call) t.answers n next.0) many next.1))
