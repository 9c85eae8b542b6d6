-- What a fork does: its length and its arguments with their tests, and the call.
use Rattle.std.specs.Prelude.{ℕ, ◌+◌, ◌-◌, List, [], ◌∷◌, ◌++◌, Option, Some, None, ◌&&◌, not, nat_lt, nat_le}
use Rattle.kt_law.specs.Accesses.{clashes}
use Rattle.kt_law.specs.declared.limits.TheConstants.{DEPTH, LENGTH}
use Rattle.kt_law.specs.declared.faults.F.TheVariants.{F3, F4, F5, F7}
use Rattle.kt_law.specs.declared.accesses.Access.{Access}
use Rattle.kt_law.specs.declared.modes.Mode.{Mode}
use Rattle.kt_prog.specs.Calls.{CallTree, Whole}
use Rattle.kt_prog.specs.Script.{Script, astray, Step, ◌>>=◌, ◌>>◌, give, fork, tested}
use Rattle.kt_prog.specs.Locals.{bound_of}
use Rattle.kt_prog.specs.Lookups.{Range, nowhere, range_in}
use Rattle.kt_prog.specs.Values.{View, value_of, object_at}
use Rattle.kt_prog.specs.Targets.{Target}
use Rattle.kt_prog.specs.declared.programs.Sort.{Sort}
use Rattle.kt_prog.specs.declared.programs.Sort.TheVariants as S
use Rattle.kt_prog.specs.declared.programs.Arg.{Arg}
use Rattle.kt_prog.specs.declared.programs.ArgWhat.{ArgWhat}
use Rattle.kt_prog.specs.declared.programs.ArgWhat.TheVariants as A
use Rattle.kt_prog.specs.declared.programs.Expr.{Expr, Expr-F, out-Expr}
use Rattle.kt_prog.specs.declared.programs.Expr.TheOpen as E

abbrev pub range_length : Range → ℕ
range_length r = r.hi - r.lo

-- member i of a range, F3 where i isn't below the range's length
abbrev pub member : View → Range → ℕ → Step ℕ
member v r i = do
  tested (nat_lt i (range_length r)) F3 v.line
  give (r.lo + i)

-- the members from a up to b, b not included, F3 where a is above b or b above the range's length
abbrev pub members : View → Range → ℕ → ℕ → Step Range
members v r a b = do
  tested (nat_le a b && nat_le b (range_length r)) F3 v.line
  give (record { lo = r.lo + a; hi = r.lo + b })

-- the ints and the accesses of a call so far
pub record Given : Type 0 where
  pub ints : List ℕ
  pub accesses : List Access

abbrev pub nothing_given : Given
nothing_given = record { ints = []; accesses = [] }

abbrev pub with_int : Given → ℕ → Given
with_int g n = record { ints = g.ints ++ n ∷ []; accesses = g.accesses }

abbrev pub with_access : Given → ℕ → ℕ → Mode → Given
with_access g lo hi mode = record { ints = g.ints; accesses = g.accesses ++ record { lo = lo; hi = hi; mode = mode } ∷ [] }

-- the call of a target, whose path is one number longer
abbrev pub child : Target → View → ℕ → Given → CallTree
child t v n g = record { task = t.number; depth = v.site.depth + 1; length = n; ints = g.ints; accesses = g.accesses }

module _ (lost : Script → Script) where
  abbrev pub range_at : View → List ℕ → Step Range
  range_at v name = range_in lost (bound_of v.site v.locals name)

  -- for a parameter that takes one object: a single object by its name, or a member of a range
  abbrev pub object_step : Expr-F Expr → View → Step ℕ
  object_step (E.Num n) v = astray lost 0
  object_step (E.Var name place) v = object_at lost v name
  object_step (E.Elem name place at) v = do
    r ← range_at v name
    i ← value_of lost at v
    member v r i
  object_step (E.Bin op a b) v = astray lost 0

  -- for a parameter that takes a range: the whole range of a name
  abbrev pub range_step : Expr-F Expr → View → Step Range
  range_step (E.Num n) v = astray lost nowhere
  range_step (E.Var name place) v = range_at v name
  range_step (E.Elem name place at) v = astray lost nowhere
  range_step (E.Bin op a b) v = astray lost nowhere

  abbrev pub number_of : ArgWhat → View → Step ℕ
  number_of (A.Value e) v = value_of lost e v
  number_of (A.Span name place a b) v = astray lost 0

  abbrev pub object_of : ArgWhat → View → Step ℕ
  object_of (A.Value e) v = object_step (out-Expr e) v
  object_of (A.Span name place a b) v = astray lost 0

  abbrev pub range_of : ArgWhat → View → Step Range
  range_of (A.Value e) v = range_step (out-Expr e) v
  range_of (A.Span name place a b) v = do
    r ← range_at v name
    from ← value_of lost a v
    to ← value_of lost b v
    members v r from to

  -- an argument for a parameter of this sort
  abbrev pub argument : Sort → Arg → View → Given → Step Given
  argument S.Int a v g = do
    n ← number_of a.what v
    give (with_int g n)
  argument (S.One mode) a v g = do
    o ← object_of a.what v
    give (with_access g o (o + 1) mode)
  argument (S.Many mode) a v g = do
    r ← range_of a.what v
    give (with_access g r.lo r.hi mode)

  -- the arguments in order
  abbrev pub arguments : List Sort → List Arg → View → Given → Step Given
  arguments [] [] v g = give g
  arguments [] (a ∷ args) v g = astray lost g
  arguments (s ∷ sorts) [] v g = astray lost g
  arguments (s ∷ sorts) (a ∷ args) v g = do
    g' ← argument s a v g
    arguments sorts args v g'

  -- a loop's length, F7 where it is above the limit
  abbrev pub length_step : Option Expr → View → Step ℕ
  length_step None v = give 0
  length_step (Some e) v = do
    n ← value_of lost e v
    tested (nat_le n LENGTH) F7 v.line
    give n

  -- the length, the arguments, F4 where two accesses clash, F5 where the child's path is too long, and the fork
  abbrev pub fork_step : Target → Option Expr → List Arg → View → Step (Unit {0})
  fork_step t len args v = do
    n ← length_step len v
    g ← arguments t.sorts args v nothing_given
    tested (not (clashes g.accesses)) F4 v.line
    tested (nat_le (v.site.depth + 1) DEPTH) F5 v.line
    fork (Whole (child t v n g))

  abbrev pub fork_named : Option Target → Option Expr → List Arg → View → Step (Unit {0})
  fork_named None len args v = astray lost tt
  fork_named (Some t) len args v = fork_step t len args v
