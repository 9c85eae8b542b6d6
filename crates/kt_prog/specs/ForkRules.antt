-- The rules of forks.
use Rattle.std.specs.Prelude.{ℕ, List, [], ◌∷◌, ◌++◌, length, Bool, true, false, not, ◌&&◌, Option, Some, None, nat_eq, is_some, if◌then◌else◌}
use Rattle.kt_law.specs.Modes.{hands_on_of}
use Rattle.kt_law.specs.declared.places.P.TheVariants.{P6, P7, P8, P9}
use Rattle.kt_law.specs.declared.places.Place.{Place}
use Rattle.kt_law.specs.declared.modes.Mode.{Mode}
use Rattle.kt_prog.specs.Scope.{Scope, kind_of}
use Rattle.kt_prog.specs.Targets.{Target}
use Rattle.kt_prog.specs.Rules.{Breaches, broken_at, denied, unknown_name, breaches_in, unknown_in}
use Rattle.kt_prog.specs.declared.sight.Kind.{Kind}
use Rattle.kt_prog.specs.declared.sight.Kind.TheVariants.{One, Many}
use Rattle.kt_prog.specs.declared.programs.Sort.{Sort}
use Rattle.kt_prog.specs.declared.programs.Sort.TheVariants as S
use Rattle.kt_prog.specs.declared.programs.Arg.{Arg}
use Rattle.kt_prog.specs.declared.programs.ArgWhat.{ArgWhat}
use Rattle.kt_prog.specs.declared.programs.ArgWhat.TheVariants as A
use Rattle.kt_prog.specs.declared.programs.Expr.{Expr, Expr-F, out-Expr}
use Rattle.kt_prog.specs.declared.programs.Expr.TheOpen as E

-- Of an argument that stands here. P6 has the place of the unknown name, P8 and P9 that of the argument.
module _ (at : Place) where
  -- the parameter takes nothing of this form
  abbrev pub wants_other : Option Kind → Place → Breaches
  wants_other None place = broken_at place P6
  wants_other (Some kind) place = broken_at at P8

  -- P9: the parameter's mode isn't handed on by the mode of the argument's name
  abbrev pub handed_rule : Mode → Mode → Breaches
  handed_rule have want = denied at P9 (not (hands_on_of have want))

  -- the name of a single object, with a mode that hands this one on
  abbrev pub wants_one : Mode → Option Kind → Place → Breaches
  wants_one want None place = broken_at place P6
  wants_one want (Some (One have)) place = handed_rule have want
  wants_one want (Some _) place = broken_at at P8

  -- the name of a range, with a mode that hands this one on
  abbrev pub wants_many : Mode → Option Kind → Place → Breaches
  wants_many want None place = broken_at place P6
  wants_many want (Some (Many have)) place = handed_rule have want
  wants_many want (Some _) place = broken_at at P8

  -- P8: a parameter for one object gets anything but the bare name of a single object, or `N[e]` with N a range
  abbrev pub one_rule : Mode → Scope → Expr-F Expr → Breaches
  one_rule want s (E.Num n) = broken_at at P8
  one_rule want s (E.Var name place) = wants_one want (kind_of s name) place
  one_rule want s (E.Elem name place e) = wants_many want (kind_of s name) place ++ breaches_in e s
  one_rule want s (E.Bin op a b) = broken_at at P8 ++ unknown_in a s ++ unknown_in b s

  -- P8: a range parameter gets anything but the bare name of a range, or a span of a range
  abbrev pub many_rule : Mode → Scope → Expr-F Expr → Breaches
  many_rule want s (E.Num n) = broken_at at P8
  many_rule want s (E.Var name place) = wants_many want (kind_of s name) place
  many_rule want s (E.Elem name place e) = wants_other (kind_of s name) place ++ breaches_in e s
  many_rule want s (E.Bin op a b) = broken_at at P8 ++ unknown_in a s ++ unknown_in b s

  -- of a span, where its name is wanted like this; only a range parameter takes one
  abbrev pub span_rule : (Option Kind → Place → Breaches) → Scope → List ℕ → Place → Expr → Expr → Breaches
  span_rule wanted s name place a b = wanted (kind_of s name) place ++ breaches_in a s ++ breaches_in b s

  abbrev pub argument_rule : Sort → Scope → ArgWhat → Breaches
  argument_rule S.Int s (A.Value e) = breaches_in e s
  argument_rule S.Int s (A.Span name place a b) = span_rule wants_other s name place a b
  argument_rule (S.One want) s (A.Value e) = one_rule want s (out-Expr e)
  argument_rule (S.One want) s (A.Span name place a b) = span_rule wants_other s name place a b
  argument_rule (S.Many want) s (A.Value e) = many_rule want s (out-Expr e)
  argument_rule (S.Many want) s (A.Span name place a b) = span_rule (wants_many want) s name place a b

-- the arguments against the parameters, in order
abbrev pub argument_rules : List Sort → Scope → List Arg → Breaches
argument_rules [] s args = []
argument_rules (sort ∷ sorts) s [] = []
argument_rules (sort ∷ sorts) s (a ∷ args) = argument_rule a.place sort s a.what ++ argument_rules sorts s args

-- only the names in the arguments
abbrev pub unknown_in_argument : Scope → ArgWhat → Breaches
unknown_in_argument s (A.Value e) = unknown_in e s
unknown_in_argument s (A.Span name place a b) = unknown_name (kind_of s name) place ++ unknown_in a s ++ unknown_in b s

abbrev pub unknown_in_all : Scope → List Arg → Breaches
unknown_in_all s [] = []
unknown_in_all s (a ∷ args) = unknown_in_argument s a.what ++ unknown_in_all s args

abbrev pub length_rule : Scope → Option Expr → Breaches
length_rule s None = []
length_rule s (Some e) = breaches_in e s

-- a loop has a length, and nothing else has one
abbrev pub is_formed : Bool → Option Expr → Bool
is_formed true len = is_some len
is_formed false len = not (is_some len)

-- P6: a forked name is no task, loop or kernel. P7: the number of arguments isn't the number of parameters.
-- P8: a task or kernel is forked with a length, or a loop without one.
-- With any of these the arguments aren't tested against parameters, but the names in them are looked up.
abbrev pub fork_rule : Option Target → Place → Scope → Option Expr → List Arg → Breaches
fork_rule None place s len args = broken_at place P6 ++ length_rule s len ++ unknown_in_all s args
fork_rule (Some t) place s len args =
    let counted = nat_eq (length args) (length t.sorts) in
    let formed = is_formed t.is_loop len in
    denied place P7 (not counted) ++ denied place P8 (not formed) ++ length_rule s len
    ++ (if counted && formed then argument_rules t.sorts s args else unknown_in_all s args)
