-- The equations of arguments for objects, at what a `match` finds.
use Rattle.std.proofs.Common.{◌≡◌, ℕ, List, Result, Ok, Err, ap, ◌∙◌}
use Rattle.kt_law.specs.declared.operators.BinOp.{BinOp}
use Rattle.kt_law.specs.declared.places.Place.{Place}
use Rattle.kt_prog.specs.Calls.{Job}
use Rattle.kt_prog.specs.Forks.{member, object_step, range_at, range_step}
use Rattle.kt_prog.specs.Lookups.{nowhere}
use Rattle.kt_prog.specs.Script.{Step, ◌>>=◌, give}
use Rattle.kt_prog.specs.Values.{View, object_at, value_of}
use Rattle.kt_prog.specs.declared.programs.Program.{Program}
use Rattle.kt_prog.specs.declared.programs.Expr.{Expr, Num, Var, Elem, Bin, out-Expr}
use Rattle.kt_prog.specs.declared.programs.Expr.TheViews.{outs-Bin, outs-Elem, outs-Num, outs-Var}
use Rattle.kt_prog.specs.declared.runs.Operation.{Operation}
use Rattle.kt_body.specs.Forking.{Comes}
use Rattle.kt_body.specs.Moves.{Ran}
use Rattle.kt_body.specs.declared.ops.Early.{Early}
use Rattle.kt_body.specs.declared.ops.Early.TheVariants as early
use Rattle.kt_body.proofs.Astray.{astray_is}
use Rattle.kt_body.proofs.Steps.{ran_same, ran_stop}

module _ (v : View) where
  object_of : (a b : Expr) → a ≡ b → object_step (λ w. w) (out-Expr a) v ≡ object_step (λ w. w) (out-Expr b) v
  object_of a b e = ap (λ (k : Expr). object_step (λ w. w) (out-Expr k) v) e

  pub at_num : (e : Expr) (n : ℕ) → e ≡ Num n → object_step (λ w. w) (out-Expr e) v ≡ give 0
  at_num e n is = object_of e (Num n) is ∙ (rw (outs-Num n) (astray_is 0))

  pub at_var : (e : Expr) (name : List ℕ) (p : Place) → e ≡ Var name p → object_step (λ w. w) (out-Expr e) v ≡ object_at (λ w. w) v name
  at_var e name p is = rw (is, outs-Var name p)

  pub at_elem : (e : Expr) (name : List ℕ) (p : Place) (at : Expr) → e ≡ Elem name p at → object_step (λ w. w) (out-Expr e) v ≡ (do
    r ← range_at (λ w. w) v name
    i ← value_of (λ w. w) at v
    member v r i)
  at_elem e name p at is = rw (is, outs-Elem name p at)

  pub at_bin : (e : Expr) (op : BinOp) (a b : Expr) → e ≡ Bin op a b → object_step (λ w. w) (out-Expr e) v ≡ give 0
  at_bin e op a b is = rw (is, outs-Bin op a b) (astray_is 0)

  pub range_num : (e : Expr) (n : ℕ) → e ≡ Num n → range_step (λ w. w) (out-Expr e) v ≡ give nowhere
  range_num e n is = rw (is, outs-Num n) (astray_is nowhere)

  pub range_elem : (e : Expr) (name : List ℕ) (p : Place) (at : Expr) → e ≡ Elem name p at → range_step (λ w. w) (out-Expr e) v ≡ give nowhere
  range_elem e name p at is = rw (is, outs-Elem name p at) (astray_is nowhere)

  pub range_bin : (e : Expr) (op : BinOp) (a b : Expr) → e ≡ Bin op a b → range_step (λ w. w) (out-Expr e) v ≡ give nowhere
  range_bin e op a b is = rw (is, outs-Bin op a b) (astray_is nowhere)

-- a step without operations
module _ {S : Type 0} (at : S → Program → Job → List ℕ → ℕ → Type 0) (goes : S → Operation → S → Type 0) (halted : S → Type 0) where
  pub ran_comes : {A : Type 0} (x : S) (m : Step A) (r : Result A Early) → Comes m r → Ran at goes halted x m x r
  ran_comes x m (Ok a) is = ran_same x m a is
  ran_comes x m (Err (early.Fault law line)) is = rw is (ran_stop x law line)
  ran_comes x m (Err early.Halted) is = absurd is
