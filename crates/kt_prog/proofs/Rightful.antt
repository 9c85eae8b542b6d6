-- What is next in a body keeps to the rights of its call.
use Rattle.std.proofs.Common.{◌≡◌, ℕ, zero, suc, Bool, true, false, List, [], ◌∷◌, Some, None, subst, if◌then◌else◌}
use Rattle.std.specs.List.{slice_get}
use Rattle.kt_law.specs.Acts.{Deed, Load, Store, Fold}
use Rattle.kt_order.specs.Body.{Keeps, Stop, Do, Fork}
use Rattle.kt_prog.specs.Bodies.{script_of}
use Rattle.kt_prog.specs.Calls.{Job, Whole, Index}
use Rattle.kt_prog.specs.Operations.{acted, end_of, forked, is_loop_at, trace}
use Rattle.kt_prog.specs.Rights.{Directly, Forks}
use Rattle.kt_prog.specs.Script.{Script}
use Rattle.kt_prog.specs.declared.programs.Program.{Program}
use Rattle.kt_prog.specs.declared.runs.Operation.{Operation}
use Rattle.kt_prog.specs.declared.runs.Operation.TheVariants as O
use Rattle.kt_prog.proofs.Plain.{plain}
use Rattle.kt_prog.specs.Next.{IsRightful, NextIsRightful}

module _ (p : Program) (job : Job) where
  abbrev AllRightful : List Operation → Type 0
  AllRightful ops = (n : ℕ) (op : Operation) → slice_get ops n ≡ Some op → IsRightful p job op

  none_rightful : AllRightful []
  none_rightful n op e = cc

  more_rightful : (first : Operation) (ops : List Operation) → IsRightful p job first → AllRightful ops → AllRightful (first ∷ ops)
  more_rightful first ops h more zero op e = let same : first ≡ op = cc in subst (IsRightful p job) same h
  more_rightful first ops h more (suc n) op e = more n op e

  end_rightful : (b : Bool) → AllRightful (if b then [] else O.End ∷ [])
  end_rightful true = none_rightful
  end_rightful false = more_rightful O.End [] tt none_rightful

  acted_rightful : (object element : ℕ) (deed : Deed) (more : ℕ → List ℕ → List Operation) → Directly p job (record { object = object; element = element; deed = deed })
      → ((a : ℕ) (found : List ℕ) → AllRightful (more a found)) → (found : List ℕ) → AllRightful (acted object element deed more found)
  acted_rightful object element Load more h f [] = none_rightful
  acted_rightful object element Load more h f (a ∷ found) = more_rightful (O.Load object element a) (more a found) h (f a found)
  acted_rightful object element (Store v) more h f found = more_rightful (O.Store object element v) (more 0 found) h (f 0 found)
  acted_rightful object element (Fold op v) more h f found = more_rightful (O.Fold object element op v) (more 0 found) h (f 0 found)

  forked_rightful : (child : Job) (ops : List Operation) → Forks p job child → AllRightful ops → AllRightful (forked child ops)
  forked_rightful (Whole call) ops h more = more_rightful (O.Fork call) ops h more
  forked_rightful (Index call i) ops h more = none_rightful

  trace_rightful : (end : List Operation) → AllRightful end → (s : Script) → Keeps (Directly p job) (Forks p job) s → (found : List ℕ) → AllRightful (trace end s found)
  trace_rightful end h (Stop None) k found = h
  trace_rightful end h (Stop (Some f)) k found = more_rightful (O.Fault f.law f.line) [] tt none_rightful
  trace_rightful end h (Do act next) (d, ks) found =
      acted_rightful act.object act.element act.deed (λ a more. trace end (next a) more) d (λ a more. trace_rightful end h (next a) (ks a) more) found
  trace_rightful end h (Fork child next) (f, k) found = forked_rightful child (trace end next found) f (trace_rightful end h next k found)

ends_rightful : (p : Program) (job : Job) → AllRightful p job (end_of p job)
ends_rightful p (Whole call) = end_rightful p (Whole call) (is_loop_at p call.task)
ends_rightful p (Index call i) = more_rightful p (Index call i) O.End [] tt (none_rightful p (Index call i))

pub next_is_rightful : NextIsRightful
next_is_rightful p ok job fits answers count operation next =
    trace_rightful p job (end_of p job) (ends_rightful p job) (script_of p job) (plain (λ w. w) p ok job fits) _ count operation next
