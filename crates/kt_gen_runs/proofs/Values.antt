-- What the expressions and the arguments of the generated programs give.
use Rattle.std.proofs.Common.{◌≡◌, ◌<◌, ℕ, ◌+◌, ◌-◌, Bool, true, false, List, [], ◌∷◌, Option, Some, None, not, nat_lt, nat_le, refl, sym, ap, ◌∙◌, arith}
use Rattle.std.proofs.lemmas.Bool.Decides.{nat_tests}
use Rattle.kt_law.specs.Accesses.{clashes}
use Rattle.kt_law.specs.Operators.{apply_of}
use Rattle.kt_law.specs.declared.faults.F.{F}
use Rattle.kt_law.specs.declared.limits.TheConstants.{DEPTH, LENGTH}
use Rattle.kt_law.specs.declared.modes.Mode.{Mode}
use Rattle.kt_law.specs.declared.operators.BinOp.{BinOp}
use Rattle.kt_law.specs.declared.places.Place.{Place}
use Rattle.kt_prog.specs.Calls.{Whole}
use Rattle.kt_prog.specs.Forks.{Given, argument, arguments, child, fork_named, length_step, nothing_given, object_step, with_access, with_int}
use Rattle.kt_prog.specs.Locals.{bound_of}
use Rattle.kt_prog.specs.Lookups.{Range, number_in, object_in, range_in}
use Rattle.kt_prog.specs.Script.{Script, Step, ◌>>=◌, fork, give, tested}
use Rattle.kt_prog.specs.Targets.{Target}
use Rattle.kt_prog.specs.Values.{ExprMeaning, View, applied, expr_step, object_at, value_of}
use Rattle.kt_prog.specs.declared.programs.Arg.{Arg}
use Rattle.kt_prog.specs.declared.programs.ArgWhat.TheVariants.{Value}
use Rattle.kt_prog.specs.declared.programs.Expr.{Expr, Num, Var, Elem, Bin, fold-roll-Expr}
use Rattle.kt_prog.specs.declared.programs.Expr.TheVariants.{rolls-Num, rolls-Var, rolls-Elem, rolls-Bin}
use Rattle.kt_prog.specs.declared.programs.Expr.TheViews.{outs-Elem, outs-Var}
use Rattle.kt_prog.specs.declared.programs.Expr.TheOpen as E
use Rattle.kt_prog.specs.declared.programs.Sort.{Sort}
use Rattle.kt_prog.specs.declared.programs.Sort.TheVariants as S
use Rattle.kt_prog.specs.declared.scope.Bound.TheVariants as B
use Rattle.kt_gen.specs.Trees.{bare, member}

-- a step that gives a value hands it to what follows
pub given_then : {A B : Type 0} (m : Step A) (f : A → Step B) (x : A) (y : Step B) → m ≡ give x → f x ≡ y → m >>= f ≡ y
unfolding ◌>>=◌ give
given_then m f x y e g = ap (λ (m : Step _). m >>= f) e ∙ g

pub test_passes : (b : Bool) (law : F) (line : ℕ) → b ≡ true → tested b law line ≡ give tt
test_passes b law line e = ap (λ b. tested b law line) e

module _ (lost : Script → Script) where
  abbrev num_meaning : (n : ℕ) → value_of lost (Num n) ≡ expr_step lost (E.Num n)
  num_meaning n = ap (value_of lost) (sym (rolls-Num n)) ∙ fold-roll-Expr ExprMeaning (expr_step lost) (E.Num n)

  abbrev var_meaning : (name : List ℕ) (p : Place) → value_of lost (Var name p) ≡ expr_step lost (E.Var name p)
  var_meaning name p = ap (value_of lost) (sym (rolls-Var name p)) ∙ fold-roll-Expr ExprMeaning (expr_step lost) (E.Var name p)

  abbrev pub elem_meaning : (name : List ℕ) (p : Place) (e : Expr) → value_of lost (Elem name p e) ≡ expr_step lost (E.Elem name p (value_of lost e))
  elem_meaning name p e =
      ap (value_of lost) (sym (rolls-Elem name p e)) ∙ fold-roll-Expr ExprMeaning (expr_step lost) (E.Elem name p e)

  abbrev bin_meaning : (op : BinOp) (a b : Expr) → value_of lost (Bin op a b) ≡ expr_step lost (E.Bin op (value_of lost a) (value_of lost b))
  bin_meaning op a b = ap (value_of lost) (sym (rolls-Bin op a b)) ∙ fold-roll-Expr ExprMeaning (expr_step lost) (E.Bin op a b)

  pub value_num : (n : ℕ) (v : View) → value_of lost (Num n) v ≡ give n
  value_num n v = ap (λ (m : ExprMeaning). m v) (num_meaning n)

  pub value_var : (name : List ℕ) (p : Place) (n : ℕ) (v : View) → bound_of v.site v.locals name ≡ Some (B.Number n) → value_of lost (Var name p) v ≡ give n
  value_var name p n v h = ap (λ (m : ExprMeaning). m v) (var_meaning name p) ∙ ap (number_in lost) h

  pub value_bin : (op : BinOp) (a b : Expr) (x y z : ℕ) (v : View) → value_of lost a v ≡ give x → value_of lost b v ≡ give y
      → apply_of op x y ≡ Some z → value_of lost (Bin op a b) v ≡ give z
  value_bin op a b x y z v e g h =
      ap (λ (m : ExprMeaning). m v) (bin_meaning op a b)
      ∙ given_then (value_of lost a v) (λ x. value_of lost b v >>= (λ y. applied (apply_of op x y) v.line)) x (give z) e
      (given_then (value_of lost b v) (λ y. applied (apply_of op x y) v.line) y (give z) g (ap (λ (o : Option ℕ). applied o v.line) h))

  pub object_is : (name : List ℕ) (o : ℕ) (v : View) → bound_of v.site v.locals name ≡ Some (B.One o) → object_at lost v name ≡ give o
  object_is name o v h = ap (object_in lost) h

  -- ---- arguments

  -- an argument makes this of what was given before it
  pub record Adds (s : Sort) (a : Arg) (v : View) (g h : Given) : Type 0 where
    pub is : argument lost s a v g ≡ give h

  pub record AddAll (sorts : List Sort) (args : List Arg) (v : View) (g h : Given) : Type 0 where
    pub is : arguments lost sorts args v g ≡ give h

  pub int_given : (at : Place) (e : Expr) (n : ℕ) (v : View) (g : Given) → value_of lost e v ≡ give n
      → Adds S.Int (record { place = at; what = Value e }) v g (with_int g n)
  int_given at e n v g h = record { is = given_then (value_of lost e v) (λ n. give (with_int g n)) n (give (with_int g n)) h refl }

  pub single_given : (at : Place) (name : List ℕ) (mode : Mode) (o : ℕ) (v : View) (g : Given) → bound_of v.site v.locals name ≡ Some (B.One o)
      → Adds (S.One mode) (bare at name) v g (with_access g o (o + 1) mode)
  single_given at name mode o v g h =
      let found : object_step lost (E.Var name at) v ≡ give o = object_is name o v h in
      record { is = given_then _ (λ o. give (with_access g o (o + 1) mode)) o _ (ap (λ (e : _). object_step lost e v) (outs-Var name at) ∙ found) refl }

  pub member_given : (at : Place) (name : List ℕ) (index : Expr) (mode : Mode) (lo hi i o : ℕ) (v : View) (g : Given)
      → bound_of v.site v.locals name ≡ Some (B.Many lo hi) → value_of lost index v ≡ give i → o ≡ lo + i → o < hi
      → Adds (S.One mode) (member at name index) v g (with_access g o (o + 1) mode)
  member_given at name index mode lo hi i o v g h k is lt =
      let inside : nat_lt i (hi - lo) ≡ true = grind (arith, nat_tests) in
      let r : Range = record { lo = lo; hi = hi } in
      let found : object_step lost (E.Elem name at index) v ≡ give o =
      given_then _ _ r _ (ap (range_in lost) h) (given_then _ _ i _ k (given_then _ _ tt _ (test_passes (nat_lt i (hi - lo)) _ v.line inside) (ap give (sym is)))) in
      record { is = given_then _ (λ o. give (with_access g o (o + 1) mode)) o _ (ap (λ (e : _). object_step lost e v) (outs-Elem name at index) ∙ found) refl }

  pub none_given : (v : View) (g : Given) → AddAll [] [] v g g
  none_given v g = record { is = refl }

  pub more_given : (s : Sort) (sorts : List Sort) (a : Arg) (args : List Arg) (v : View) (g h k : Given) → Adds s a v g h
      → AddAll sorts args v h k → AddAll (s ∷ sorts) (a ∷ args) v g k
  more_given s sorts a args v g h k e f = record { is = given_then (argument lost s a v g) (arguments lost sorts args v) h (give k) e.is f.is }

  pub no_length : (v : View) → length_step lost None v ≡ give 0
  no_length v = refl

  pub length_given : (e : Expr) (n : ℕ) (v : View) → value_of lost e v ≡ give n → nat_le n LENGTH ≡ true → length_step lost (Some e) v ≡ give n
  length_given e n v h le = given_then _ _ n _ h (given_then _ _ tt _ (test_passes (nat_le n LENGTH) _ v.line le) refl)

  pub forked : (o : Option Target) (t : Target) (len : Option Expr) (args : List Arg) (v : View) (n : ℕ) (g : Given) → o ≡ Some t → length_step lost len v ≡ give n
      → AddAll t.sorts args v nothing_given g → clashes g.accesses ≡ false → nat_le (v.site.depth + 1) DEPTH ≡ true
      → fork_named lost o len args v ≡ fork (Whole (child t v n g))
  forked o t len args v n g is l a c d =
      ap (λ (o : Option Target). fork_named lost o len args v) is
      ∙ given_then _ _ n _ l (given_then _ _ g _ a.is (given_then _ _ tt _ (test_passes (not (clashes g.accesses)) _ v.line (ap not c))
      (given_then _ _ tt _ (test_passes (nat_le (v.site.depth + 1) DEPTH) _ v.line d) refl)))
