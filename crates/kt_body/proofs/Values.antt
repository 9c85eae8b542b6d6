-- The equations of the meanings of expressions, at what a `match` finds.
use Rattle.std.proofs.Common.{◌≡◌, ◌≤◌, ◌<◌, ℕ, List, Bool, true, false, Ok, Err, ap, ◌∙◌, sym, arith, nat_le, nat_lt}
use Rattle.std.proofs.lemmas.Bool.Decides.{nat_tests}
use Rattle.kt_law.specs.Operators.{apply_of}
use Rattle.kt_law.specs.declared.faults.F.{F}
use Rattle.kt_law.specs.declared.operators.BinOp.{BinOp}
use Rattle.kt_law.specs.declared.places.Place.{Place}
use Rattle.kt_prog.specs.Calls.{Job}
use Rattle.kt_prog.specs.Locals.{bound_of}
use Rattle.kt_prog.specs.Lookups.{number_in, object_in}
use Rattle.kt_prog.specs.Script.{Step, ◌>>=◌, give, tested}
use Rattle.kt_prog.specs.Values.{View, ExprMeaning, value_of, expr_step, applied}
use Rattle.kt_prog.specs.declared.programs.Program.{Program}
use Rattle.kt_prog.specs.declared.runs.Operation.{Operation}
use Rattle.kt_prog.specs.declared.programs.Expr.{Expr, Num, Var, Elem, Bin, fold-roll-Expr}
use Rattle.kt_prog.specs.declared.programs.Expr.TheVariants.{rolls-Num, rolls-Var, rolls-Elem, rolls-Bin}
use Rattle.kt_prog.specs.declared.programs.Expr.TheOpen as E
use Rattle.kt_body.specs.Moves.{Ran}
use Rattle.kt_body.specs.Scenes.{fetch}
use Rattle.kt_body.specs.declared.ops.Early.TheVariants as early
use Rattle.kt_body.proofs.Steps.{ran_give, ran_stop}

module _ (v : View) where
  pub value_num : (n : ℕ) → value_of (λ w. w) (Num n) v ≡ give n
  value_num n = ap (λ e. value_of (λ w. w) e v) (sym (rolls-Num n)) ∙ ap (λ (f : ExprMeaning). f v) (fold-roll-Expr ExprMeaning (expr_step (λ w. w)) (E.Num n))

  pub value_var : (name : List ℕ) (p : Place) → value_of (λ w. w) (Var name p) v ≡ number_in (λ w. w) (bound_of v.site v.locals name)
  value_var name p = ap (λ e. value_of (λ w. w) e v) (sym (rolls-Var name p)) ∙ ap (λ (f : ExprMeaning). f v) (fold-roll-Expr ExprMeaning (expr_step (λ w. w)) (E.Var name p))

  pub value_elem : (name : List ℕ) (p : Place) (at : Expr) → value_of (λ w. w) (Elem name p at) v ≡ (do
    o ← object_in (λ w. w) (bound_of v.site v.locals name)
    i ← value_of (λ w. w) at v
    fetch v.site.widths v.line o i)
  value_elem name p at = ap (λ e. value_of (λ w. w) e v) (sym (rolls-Elem name p at)) ∙ ap (λ (f : ExprMeaning). f v) (fold-roll-Expr ExprMeaning (expr_step (λ w. w)) (E.Elem name p at))

  pub value_bin : (op : BinOp) (a b : Expr) → value_of (λ w. w) (Bin op a b) v ≡ (do
    x ← value_of (λ w. w) a v
    y ← value_of (λ w. w) b v
    applied (apply_of op x y) v.line)
  value_bin op a b = ap (λ e. value_of (λ w. w) e v) (sym (rolls-Bin op a b)) ∙ ap (λ (f : ExprMeaning). f v) (fold-roll-Expr ExprMeaning (expr_step (λ w. w)) (E.Bin op a b))

-- a fact on what was matched, at what it was matched with
pub at_value : (v : View) (m : Step ℕ) (e e' : Expr) → e ≡ e' → value_of (λ w. w) e' v ≡ m → value_of (λ w. w) e v ≡ m
at_value v m e e' is same = ap (λ k. value_of (λ w. w) k v) is ∙ same

module _ {S : Type 0} {at : S → Program → Job → List ℕ → ℕ → Type 0} {goes : S → Operation → S → Type 0} {halted : S → Type 0} where
  -- a test that holds, and one that doesn't
  pub ran_tested : (x : S) (b : Bool) (law : F) (line : ℕ) → b ≡ true → Ran at goes halted x (tested b law line) x (Ok tt)
  ran_tested x b law line e = rw e (ran_give x tt)

  pub ran_denied : (x : S) (b : Bool) (law : F) (line : ℕ) → b ≡ false → Ran at goes halted x (tested b law line) x (Err (early.Fault law line))
  ran_denied x b law line e = rw e (ran_stop x law line)

pub below : (i n : ℕ) → i < n → nat_lt i n ≡ true
below i n h = grind (arith, nat_tests)

pub not_below : (i n : ℕ) → n ≤ i → nat_lt i n ≡ false
not_below i n h = grind (arith, nat_tests)

pub at_most : (a b : ℕ) → a ≤ b → nat_le a b ≡ true
at_most a b h = grind (arith, nat_tests)

pub not_at_most : (a b : ℕ) → b < a → nat_le a b ≡ false
not_at_most a b h = grind (arith, nat_tests)
