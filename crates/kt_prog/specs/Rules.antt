-- The rules of names and of expressions. Each gives its breaches.
use Rattle.std.specs.Prelude.{ℕ, List, [], ◌∷◌, ◌++◌, Bool, true, false, not, ◌&&◌, Option, Some, None, nat_lt, ◌+◌, is_some}
use Rattle.kt_law.specs.Modes.{may_load, may_store, may_fold, is_owned}
use Rattle.kt_law.specs.declared.limits.TheConstants.{LOCALS}
use Rattle.kt_law.specs.declared.places.P.{P}
use Rattle.kt_law.specs.declared.places.P.TheVariants.{P5, P6, P8, P10, P11, P12}
use Rattle.kt_law.specs.declared.places.Place.{Place}
use Rattle.kt_law.specs.declared.places.Refusal.{Refusal}
use Rattle.kt_law.specs.declared.operators.Op.{Op}
use Rattle.kt_law.specs.declared.modes.Mode.{Mode}
use Rattle.kt_prog.specs.Scope.{Scope, kind_of}
use Rattle.kt_prog.specs.declared.sight.Kind.{Kind}
use Rattle.kt_prog.specs.declared.sight.Kind.TheVariants.{Variable, Index, One, Many}
use Rattle.kt_prog.specs.declared.programs.Expr.{Expr, Expr-F, fold-Expr}
use Rattle.kt_prog.specs.declared.programs.Expr.TheOpen as E

-- rules that are broken, each with its place
abbrev pub Breaches : Type 0
Breaches = List Refusal

abbrev pub broken_at : Place → P → Breaches
broken_at place code = record { code = code; place = place } ∷ []

-- the rule is broken at this place where the test holds
abbrev pub denied : Place → P → Bool → Breaches
denied place code true = broken_at place code
denied place code false = []

-- P5: a `let` or `for` name is visible already. P12: a `let` or `for` name makes more than 64 of these visible
abbrev pub new_name : Scope → List ℕ → Place → Breaches
new_name s name place = denied place P5 (is_some (kind_of s name)) ++ denied place P12 (nat_lt LOCALS (s.lets + 1))

-- P6: a name isn't visible
abbrev pub unknown_name : Option Kind → Place → Breaches
unknown_name kind place = denied place P6 (not (is_some kind))

-- P8: a name used as a number isn't an int parameter, the index, a `let` or a `for` name
abbrev pub number_rule : Option Kind → Place → Breaches
number_rule None place = broken_at place P6
number_rule (Some (One mode)) place = broken_at place P8
number_rule (Some (Many mode)) place = broken_at place P8
number_rule (Some _) place = []

-- P8: an assignment's name isn't a `let` name
abbrev pub set_rule : Option Kind → Place → Breaches
set_rule None place = broken_at place P6
set_rule (Some Variable) place = []
set_rule (Some _) place = broken_at place P8

-- P8: an element's name isn't a single object. Else its mode may break a rule
abbrev pub element_rule : (Mode → Breaches) → Option Kind → Place → Breaches
element_rule rule None place = broken_at place P6
element_rule rule (Some (One mode)) place = rule mode
element_rule rule (Some _) place = broken_at place P8

abbrev pub is_index : Option Kind → Bool
is_index (Some Index) = true
is_index _ = false

-- the element is the bare name of the index
abbrev pub at_index : Scope → Option (List ℕ) → Bool
at_index s None = false
at_index s (Some name) = is_index (kind_of s name)

-- P11: in a loop's body a load or write of a `w` or `x` object whose element isn't the bare name of the index
abbrev pub own_rule : Scope → Option (List ℕ) → Place → Mode → Breaches
own_rule s bare place mode = denied place P11 (s.in_loop && is_owned mode && not (at_index s bare))

-- P10: a load where the mode isn't `r` or `x`
abbrev pub load_rule : Scope → Option (List ℕ) → Place → Mode → Breaches
load_rule s bare place mode = denied place P10 (not (may_load mode)) ++ own_rule s bare place mode

-- P10: a write where it isn't `w` or `x`
abbrev pub store_rule : Scope → Option (List ℕ) → Place → Mode → Breaches
store_rule s bare place mode = denied place P10 (not (may_store mode)) ++ own_rule s bare place mode

-- P10: a cumulation where it isn't `cw` of that law
abbrev pub fold_rule : Op → Place → Mode → Breaches
fold_rule op place mode = denied place P10 (not (may_fold op mode))

-- of an expression: the name that it is, if it is a bare name, its breaches, and those of unknown names alone
pub record ExprRules : Type 0 where
  pub bare : Option (List ℕ)
  pub breaches : Scope → Breaches
  pub unknown : Scope → Breaches

abbrev pub expr_rules : Expr-F ExprRules → ExprRules
expr_rules (E.Num n) = record { bare = None; breaches = λ s. []; unknown = λ s. [] }
expr_rules (E.Var name place) = record {
  bare = Some name;
  breaches = λ s. number_rule (kind_of s name) place;
  unknown = λ s. unknown_name (kind_of s name) place;
}
expr_rules (E.Elem name place at) = record {
  bare = None;
  breaches = λ s. element_rule (load_rule s at.bare place) (kind_of s name) place ++ at.breaches s;
  unknown = λ s. unknown_name (kind_of s name) place ++ at.unknown s;
}
expr_rules (E.Bin op a b) = record {
  bare = None;
  breaches = λ s. a.breaches s ++ b.breaches s;
  unknown = λ s. a.unknown s ++ b.unknown s;
}

abbrev pub rules_of : Expr → ExprRules
rules_of = fold-Expr ExprRules expr_rules

abbrev pub breaches_in : Expr → Scope → Breaches
breaches_in e s = (rules_of e).breaches s

abbrev pub unknown_in : Expr → Scope → Breaches
unknown_in e s = (rules_of e).unknown s
