-- The next operation of a loop's call is an act of its zeroing: no end, no fault and no fork. Its body has no fault.
use Rattle.std.proofs.Common.{◌≡◌, ℕ, zero, suc, Bool, true, false, List, [], ◌∷◌, ◌++◌, Option, Some, None, refl, sym, subst, slice_get, if◌then◌else◌}
use Rattle.kt_law.specs.Acts.{Deed, Load, Store, Fold}
use Rattle.kt_order.specs.Body.{Stop, Do, Fork}
use Rattle.kt_order.specs.Trace.{hearing}
use Rattle.kt_order.specs.Stand.{Standing, stand}
use Rattle.kt_order.specs.Rest.{left_of}
use Rattle.kt_order.specs.Shown.{fault_of}
use Rattle.kt_order.proofs.Stands.{stand_none, some_is, fork_some}
use Rattle.kt_prog.specs.Calls.{CallTree, Whole, Index}
use Rattle.kt_prog.specs.Script.{Script, Step, ◌>>=◌, give, fork}
use Rattle.kt_prog.specs.Bodies.{script_with, script_of, indexes, call_body}
use Rattle.kt_prog.specs.Operations.{trace, heard, is_loop_at, IsNext}
use Rattle.kt_prog.specs.Reference.{placed, placed_fork, machine_of}
use Rattle.kt_prog.specs.declared.programs.Program.{Program}
use Rattle.kt_prog.specs.declared.runs.Operation.{Operation}
use Rattle.kt_prog.specs.declared.runs.Operation.TheVariants as O
use Rattle.kt_runs.proofs.Zeroes.{behind_zeroing}
use Rattle.kt_runs.proofs.Indexes.{loop_does}

abbrev pub IsActOf : Operation → Type 0
IsActOf (O.Load object element a) = Unit {0}
IsActOf (O.Store object element v) = Unit {0}
IsActOf (O.Fold object element op v) = Unit {0}
IsActOf (O.Fork call) = ⊥
IsActOf O.End = ⊥
IsActOf (O.Fault law line) = ⊥

-- it stops without a fault and forks indexes alone
abbrev Quiet : Script → Type 0
Quiet (Stop None) = Unit {0}
Quiet (Stop (Some f)) = ⊥
Quiet (Do q next) = (a : ℕ) → Quiet (next a)
Quiet (Fork (Whole c) w) = ⊥
Quiet (Fork (Index c i) w) = Quiet w

quiet_indexes : (c : CallTree) (i n : ℕ) → Quiet (indexes c i n (λ _. Stop None))
unfolding ◌>>=◌ fork give
quiet_indexes c i zero = tt
quiet_indexes c i (suc n) = quiet_indexes c (suc i) n

acts_of : (d : Deed) (object element : ℕ) (next : ℕ → Script) (answers : List ℕ) (n : ℕ) (op : Operation)
    → ((a : ℕ) (more : List ℕ) (k : ℕ) → slice_get (trace [] (next a) more) k ≡ Some op → IsActOf op)
    → slice_get (trace [] (Do (record { object = object; element = element; deed = d }) next) answers) n ≡ Some op → IsActOf op
acts_of Load object element next [] n op f e = absurd (cc e)
acts_of Load object element next (a ∷ answers) zero op f e = subst IsActOf (the_some e) tt
  where
    the_some : {x y : Operation} → Some x ≡ Some y → x ≡ y
    the_some h = cc
acts_of Load object element next (a ∷ answers) (suc n) op f e = f a answers n e
acts_of (Store v) object element next answers zero op f e = subst IsActOf (the_some e) tt
  where
    the_some : {x y : Operation} → Some x ≡ Some y → x ≡ y
    the_some h = cc
acts_of (Store v) object element next answers (suc n) op f e = f 0 answers n e
acts_of (Fold g v) object element next answers zero op f e = subst IsActOf (the_some e) tt
  where
    the_some : {x y : Operation} → Some x ≡ Some y → x ≡ y
    the_some h = cc
acts_of (Fold g v) object element next answers (suc n) op f e = f 0 answers n e

quiet_acts : (w : Script) → Quiet w → (answers : List ℕ) (n : ℕ) (op : Operation) → slice_get (trace [] w answers) n ≡ Some op → IsActOf op
quiet_acts (Stop None) quiet answers n op e = absurd (cc e)
quiet_acts (Stop (Some f)) quiet answers n op e = absurd quiet
quiet_acts (Do q next) quiet answers n op e = acts_of q.deed q.object q.element next answers n op (λ a more k h. quiet_acts (next a) (quiet a) more k op h) e
quiet_acts (Fork (Whole c) w) quiet answers n op e = absurd quiet
quiet_acts (Fork (Index c i) w) quiet answers n op e = absurd (cc e)

module _ (p : Program) where
  loop_quiet : (c : CallTree) → is_loop_at p c.task ≡ true → Quiet (script_of p (Whole c))
  unfolding script_with
  loop_quiet c loop =
      behind_zeroing p Quiet (λ q next h. h) c.accesses (call_body (λ w. w) p c c.task)
      (subst (λ (s : Step (Unit {0})). Quiet (s (λ _. Stop None))) (sym (loop_does p c c.task loop)) (quiet_indexes c 0 c.length))

  pub loop_next_is_act : (c : CallTree) → is_loop_at p c.task ≡ true → (answers : List ℕ) (n : ℕ) (op : Operation) → IsNext p (Whole c) answers n op → IsActOf op
  loop_next_is_act c loop answers n op next =
      quiet_acts (script_of p (Whole c)) (loop_quiet c loop) (answers ++ heard op) n op
      (subst (λ (b : Bool). slice_get (trace (if b then [] else O.End ∷ []) (script_of p (Whole c)) (answers ++ heard op)) n ≡ Some op) loop next)

  -- so its body has no fault, wherever it stands
  abbrev FaultFree : Standing (machine_of p) → Type 0
  FaultFree st = fault_of (machine_of p) st.left ≡ None

  quiet_placed : (w : Script) (path : List ℕ) (k : ℕ) → Quiet w → fault_of (machine_of p) (placed path k w) ≡ None
  quiet_placed (Stop None) path k quiet = refl
  quiet_placed (Stop (Some f)) path k quiet = absurd quiet
  quiet_placed (Do q next) path k quiet = refl
  quiet_placed (Fork job w) path k quiet = refl

  quiet_stands : (w : Script) (path : List ℕ) (k : ℕ) (answers : List ℕ) (n : ℕ) (st : Standing (machine_of p)) → Quiet w
      → stand (machine_of p) (placed path k w) answers n ≡ Some st → FaultFree st
  quiet_stands w path k answers zero st quiet e = subst FaultFree (sym (stand_none (machine_of p) (placed path k w) answers st e).1) (quiet_placed w path k quiet)
  quiet_stands (Stop f) path k [] (suc zero) st quiet e =
      subst FaultFree (some_is (machine_of p) (record { left = Stop f; forks = []; over = true }) st e) (quiet_placed (Stop f) path k quiet)
  quiet_stands (Stop f) path k [] (suc (suc n)) st quiet e = absurd (cc e)
  quiet_stands (Stop f) path k (a ∷ more) (suc n) st quiet e = absurd (cc e)
  quiet_stands (Do q next) path k answers (suc n) st quiet e = heard-so ((machine_of p).asks q) answers e (λ a more. quiet_stands (next a) path k more n st (quiet a))
    where
      heard-so : (asks : Bool) (answers : List ℕ) → hearing (machine_of p) asks None (λ a more. stand (machine_of p) (placed path k (next a)) more n) answers ≡ Some st
          → ((a : ℕ) (more : List ℕ) → stand (machine_of p) (placed path k (next a)) more n ≡ Some st → FaultFree st) → FaultFree st
      heard-so true [] h f = absurd (cc h)
      heard-so true (a ∷ more) h f = f a more h
      heard-so false answers h f = f 0 answers h
  quiet_stands (Fork (Whole c) w) path k answers (suc n) st quiet e = absurd quiet
  quiet_stands (Fork (Index c i) w) path k answers (suc n) st quiet e =
      let s = fork_some (machine_of p) (placed_fork path k (Index c i)) (stand (machine_of p) (placed path (suc k) w) answers n) st e in
      subst FaultFree (sym s.2) (quiet_stands w path (suc k) answers n s.0 quiet s.1)

  pub loop_no_fault : (c : CallTree) → is_loop_at p c.task ≡ true → (path answers : List ℕ) (n : ℕ)
      → fault_of (machine_of p) (left_of (machine_of p) (stand (machine_of p) (placed path 1 (script_of p (Whole c))) answers n)) ≡ None
  loop_no_fault c loop path answers n = by (stand (machine_of p) (placed path 1 (script_of p (Whole c))) answers n) refl
    where
      by : (o : Option (Standing (machine_of p))) → stand (machine_of p) (placed path 1 (script_of p (Whole c))) answers n ≡ o
          → fault_of (machine_of p) (left_of (machine_of p) o) ≡ None
      by None e = refl
      by (Some st) e = quiet_stands (script_of p (Whole c)) path 1 answers n st (loop_quiet c loop) e
