-- The next operation of a body, and the act or the end that is left of it.
use Rattle.std.proofs.Common.{◌≡◌, ◌≤◌, ◌<◌, ℕ, ◌+◌, List, [], ◌∷◌, ◌++◌, length, slice_get, slice_index, Some, None, refl, ap, ◌∙◌, arith, append-nil}
use Rattle.kt_law.specs.Acts.{Act, Deed, Load, Store, Fold}
use Rattle.kt_law.specs.declared.limits.TheConstants.{ELEMENTS, LENGTH}
use Rattle.kt_order.specs.Body.{Do, Stop, Fork}
use Rattle.kt_order.specs.Machine.{Code}
use Rattle.kt_prog.proofs.LastWriter.{place_below}
use Rattle.kt_prog.proofs.Plain.{few_objects}
use Rattle.kt_prog.proofs.Rightful.{next_is_rightful}
use Rattle.kt_prog.specs.Accepted.{IsAccepted}
use Rattle.kt_prog.specs.Calls.{CallTree, Job, Index}
use Rattle.kt_prog.specs.Fits.{Fits, FitsJob, is_call, is_main}
use Rattle.kt_prog.specs.Next.{IsElement}
use Rattle.kt_prog.specs.Objects.{elements_of, first_element_of}
use Rattle.kt_prog.specs.Operations.{heard, operations, IsNext}
use Rattle.kt_prog.specs.Reference.{machine_of}
use Rattle.kt_prog.specs.declared.programs.Program.{Program}
use Rattle.kt_prog.specs.declared.runs.Operation.{Operation}
use Rattle.kt_prog.specs.declared.runs.Operation.TheVariants as O
use Rattle.kt_body.specs.Endings.{answers_of}
use Rattle.kt_body.specs.declared.ops.Ended.{Ended}
use Rattle.kt_body.specs.declared.ops.Ended.TheVariants as E
use Rattle.kt_runs.specs.Bodies.{IsFirst}
use Rattle.kt_rule.specs.Steps as Steps
use Rattle.kt_intervals.specs.Indexes.{fault_with}
use Rattle.kt_intervals.specs.Programs.{HasFirsts}

-- an operation on an element
abbrev pub op_of : ℕ → ℕ → Deed → ℕ → Operation
op_of object element Load a = O.Load object element a
op_of object element (Store v) a = O.Store object element v
op_of object element (Fold op v) a = O.Fold object element op v

abbrev pub act_of : ℕ → ℕ → Deed → Act
act_of object element d = record { object = object; element = element; deed = d }

pub heard_same : (object element : ℕ) (d : Deed) (n : ℕ) → Steps.heard (act_of object element d) n ≡ heard (op_of object element d n)
heard_same object element Load n = refl
heard_same object element (Store v) n = refl
heard_same object element (Fold op v) n = refl

module _ (p : Program) where
  pub act_first : (object element : ℕ) (d : Deed) (a : ℕ) (c : Code (machine_of p)) → IsFirst p (op_of object element d a) c
      → (k : ℕ → Code (machine_of p)) × (c ≡ Do (act_of object element d) k)
  act_first object element Load a (Do q k) h = (k, cc)
  act_first object element Load a (Stop f) h = absurd h
  act_first object element Load a (Fork c w) h = absurd h
  act_first object element (Store v) a (Do q k) h = (k, cc)
  act_first object element (Store v) a (Stop f) h = absurd h
  act_first object element (Store v) a (Fork c w) h = absurd h
  act_first object element (Fold op v) a (Do q k) h = (k, cc)
  act_first object element (Fold op v) a (Stop f) h = absurd h
  act_first object element (Fold op v) a (Fork c w) h = absurd h

  end_first : (c : Code (machine_of p)) → IsFirst p O.End c → c ≡ Stop None
  end_first (Do q k) h = absurd h
  end_first (Stop f) h = cc
  end_first (Fork d w) h = absurd h

  fault_first : (law : _) (line : ℕ) (c : Code (machine_of p)) → IsFirst p (O.Fault law line) c → c ≡ Stop (Some (record { law = law; line = line }))
  fault_first law line (Do q k) h = absurd h
  fault_first law line (Stop f) h = cc
  fault_first law line (Fork d w) h = absurd h

  -- the operation with which a body ends so
  abbrev pub last_op : Ended → Operation
  last_op E.Done = O.End
  last_op (E.Fault law line) = O.Fault law line
  last_op E.Halted = O.End

  pub stops_with : (ended : Ended) (c : Code (machine_of p)) → IsFirst p (last_op ended) c → c ≡ Stop (fault_with ended)
  stops_with E.Done c h = end_first c h
  stops_with (E.Fault law line) c h = fault_first law line c h
  stops_with E.Halted c h = end_first c h

  -- an index of an accepted program forks nothing
  pub forks_nothing : IsAccepted p → (call : CallTree) (i : ℕ) → FitsJob p (Index call i) → (answers : List ℕ) (count : ℕ) (child : CallTree)
      → IsNext p (Index call i) answers count (O.Fork child) → ⊥
  forks_nothing ok call i fits answers count child next = next_is_rightful p ok (Index call i) fits answers count (O.Fork child) next

-- a loop is not long
pub short_loop : (p : Program) (call : CallTree) → Fits p call → call.length ≤ LENGTH
short_loop p call (is_main main) = let none : call.length ≡ 0 = ap (λ (c : CallTree). c.length) main in omega (arith, none)
short_loop p call (is_call t is fits) = fits.long

get_last : {A : Type 0} (xs : List A) (m : A) → slice_get (xs ++ m ∷ []) (length xs) ≡ Some m
get_last [] m = refl
get_last (x ∷ xs) m = get_last xs m

pub last_next : (p : Program) (job : Job) (done : List Operation) (op : Operation) → heard op ≡ [] → operations p job (answers_of done) ≡ done ++ op ∷ []
    → IsNext p job (answers_of done) (length done) op
last_next p job done op quiet all =
    let same : answers_of done ++ heard op ≡ answers_of done = ap (λ (xs : List ℕ). answers_of done ++ xs) quiet ∙ append-nil (answers_of done) in
    ap (λ (xs : List ℕ). slice_get (operations p job xs) (length done)) same ∙ ap (λ (ops : List Operation). slice_get ops (length done)) all ∙ get_last done op

-- the element is there, its number is small, and the table has where its object begins
pub record IsPlaced (p : Program) (firsts : List ℕ) (object element : ℕ) : Type 0 where
  pub there : object < length firsts
  pub first : slice_index firsts object ≡ first_element_of p.families object
  pub elements : elements_of p.families ≤ ELEMENTS
  pub number : first_element_of p.families object + element < elements_of p.families

pub placed : (p : Program) (firsts : List ℕ) (object element : ℕ) → IsAccepted p → HasFirsts p.families firsts → IsElement p.families object element
    → IsPlaced p firsts object element
placed p firsts object element ok has there = record {
  there = let n = has.count in let lt = there.0 in omega (arith, n, lt);
  first = has.each object there.0;
  elements = (few_objects p ok).1;
  number = place_below p.families object element there.1;
}
