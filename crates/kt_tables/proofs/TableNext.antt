-- The body of a task that is no loop has a next operation while it is not over.
use Rattle.std.proofs.Common.{◌≡◌, ℕ, zero, suc, Bool, true, false, if◌then◌else◌, List, [], ◌∷◌, ◌++◌, Some, None, refl, sym, ap, subst, ◌∙◌, slice_get}
use Rattle.kt_law.specs.Acts.{Deed, Load, Store, Fold}
use Rattle.kt_order.specs.Body.{Stop, Do, Fork}
use Rattle.kt_order.specs.Stand.{Standing, stand}
use Rattle.kt_order.proofs.Stands.{stand_none, fork_some, some_is}
use Rattle.kt_prog.specs.Calls.{CallTree, Whole, Index, index_of}
use Rattle.kt_prog.specs.Laws.{BodiesKeep}
use Rattle.kt_prog.specs.Script.{Script}
use Rattle.kt_prog.specs.Bodies.{script_of}
use Rattle.kt_prog.specs.Accepted.{IsAccepted}
use Rattle.kt_prog.specs.Fits.{Fits}
use Rattle.kt_prog.specs.Store.{answer}
use Rattle.kt_prog.specs.Operations.{trace, heard, is_loop_at, IsNext}
use Rattle.kt_prog.specs.Reference.{placed, placed_fork, machine_of}
use Rattle.kt_prog.specs.declared.programs.Program.{Program}
use Rattle.kt_prog.specs.declared.runs.Operation.{Operation}
use Rattle.kt_prog.specs.declared.runs.Operation.TheVariants as O
use Rattle.kt_tables.specs.TableEvents.{Finds}
use Rattle.kt_runs.proofs.Forked.{Each, IsCallOf, no_length, calls_only}

-- each forked body is that of a call
abbrev ForksCalls : Script → Type 0
ForksCalls (Stop f) = Unit {0}
ForksCalls (Do q k) = (a : ℕ) → ForksCalls (k a)
ForksCalls (Fork job w) = (index_of job ≡ None) × ForksCalls w

module _ (p : Program) where
  -- the operation is the one after so many, and finds what the store has
  abbrev pub NextIn : List ℕ → Script → List ℕ → ℕ → Operation → Type 0
  NextIn store w answers n op = Finds p store op × (slice_get (trace (O.End ∷ []) w (answers ++ heard op)) n ≡ Some op)

  act_first : (store : List ℕ) (object element : ℕ) (d : Deed) (next : ℕ → Script)
      → (op : Operation) × NextIn store (Do (record { object = object; element = element; deed = d }) next) [] 0 op
  act_first store object element Load next = (O.Load object element (answer p.families (record { object = object; element = element; deed = Load }) store), (refl, refl))
  act_first store object element (Store v) next = (O.Store object element v, (tt, refl))
  act_first store object element (Fold g v) next = (O.Fold object element g v, (tt, refl))

  first : (store : List ℕ) (w : Script) → ForksCalls w → (op : Operation) × NextIn store w [] 0 op
  first store (Stop None) calls = (O.End, (tt, refl))
  first store (Stop (Some f)) calls = (O.Fault f.law f.line, (tt, refl))
  first store (Do q next) calls = act_first store q.object q.element q.deed next
  first store (Fork (Whole call) w) calls = (O.Fork call, (tt, refl))
  first store (Fork (Index call i) w) calls = absurd (cc calls.0)

  -- behind an act
  act_next : (store : List ℕ) (object element : ℕ) (d : Deed) (path : List ℕ) (k : ℕ) (next : ℕ → Script) (answers : List ℕ) (n : ℕ) (st : Standing (machine_of p))
      → ((a : ℕ) (more : List ℕ) → stand (machine_of p) (placed path k (next a)) more n ≡ Some st → (op : Operation) × NextIn store (next a) more n op)
      → stand (machine_of p) (placed path k (Do (record { object = object; element = element; deed = d }) next)) answers (suc n) ≡ Some st
      → (op : Operation) × NextIn store (Do (record { object = object; element = element; deed = d }) next) answers (suc n) op
  act_next store object element Load path k next [] n st f e = absurd (cc e)
  act_next store object element Load path k next (a ∷ more) n st f e = f a more e
  act_next store object element (Store v) path k next answers n st f e = f 0 answers e
  act_next store object element (Fold g v) path k next answers n st f e = f 0 answers e

  next_in : (store : List ℕ) (w : Script) (path : List ℕ) (k : ℕ) (answers : List ℕ) (n : ℕ) (st : Standing (machine_of p)) → ForksCalls w
      → stand (machine_of p) (placed path k w) answers n ≡ Some st → st.over ≡ false → (op : Operation) × NextIn store w answers n op
  next_in store w path k answers zero st calls e over =
      subst (λ (xs : List ℕ). (op : Operation) × NextIn store w xs 0 op) (sym (stand_none (machine_of p) (placed path k w) answers st e).0) (first store w calls)
  next_in store (Stop f) path k [] (suc zero) st calls e over =
      absurd (cc (ap (λ (s : Standing (machine_of p)). s.over) (some_is (machine_of p) (record { left = Stop f; forks = []; over = true }) st e), over))
  next_in store (Stop f) path k [] (suc (suc n)) st calls e over = absurd (cc e)
  next_in store (Stop f) path k (a ∷ more) (suc n) st calls e over = absurd (cc e)
  next_in store (Do q next) path k answers (suc n) st calls e over =
      act_next store q.object q.element q.deed path k next answers n st (λ a more h. next_in store (next a) path k more n st (calls a) h over) e
  next_in store (Fork (Whole call) w) path k answers (suc n) st calls e over =
      let s = fork_some (machine_of p) (placed_fork path k (Whole call)) (stand (machine_of p) (placed path (suc k) w) answers n) st e in
      next_in store w path (suc k) answers n s.0 calls.1 s.1 (sym (ap (λ (t : Standing (machine_of p)). t.over) s.2) ∙ over)
  next_in store (Fork (Index call i) w) path k answers (suc n) st calls e over = absurd (cc calls.0)

  -- the body of a call that is no loop's forks calls alone
  script_calls : (w : Script) (path : List ℕ) (k : ℕ) → Each p (IsCallOf p) (placed path k w) → ForksCalls w
  script_calls (Stop f) path k h = tt
  script_calls (Do q next) path k h = λ a. script_calls (next a) path k (h a)
  script_calls (Fork (Whole c) w) path k h = (refl, script_calls w path (suc k) h.1)
  script_calls (Fork (Index c i) w) path k h = absurd (cc h.0)

  -- so where it is not over it has a next operation
  pub next_of : BodiesKeep → IsAccepted p → (store : List ℕ) (call : CallTree) (path answers : List ℕ) (n : ℕ) (st : Standing (machine_of p)) → Fits p call
      → is_loop_at p call.task ≡ false → stand (machine_of p) (placed path 1 (script_of p (Whole call))) answers n ≡ Some st → st.over ≡ false
      → (op : Operation) × Finds p store op × IsNext p (Whole call) answers n op
  next_of bodies ok store call path answers n st fits plain e over =
      let each = calls_only p call (no_length p call fits plain) path 1 (script_of p (Whole call)) (bodies (λ w. w) p ok (Whole call) fits) in
      let r = next_in store (script_of p (Whole call)) path 1 answers n st (script_calls (script_of p (Whole call)) path 1 each) e over in
      (r.0, r.1.0, subst (λ (b : Bool). slice_get (trace (if b then [] else O.End ∷ []) (script_of p (Whole call)) (answers ++ heard r.0)) n ≡ Some r.0) (sym plain) r.1.1)
