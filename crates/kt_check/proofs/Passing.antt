-- What stands behind the least breach so far leaves it as it is.
use Rattle.std.proofs.Common.{◌≡◌, ℕ, List, [], ◌∷◌, ◌++◌, map, Bool, true, false, not, ◌&&◌, ◌||◌, Option, Some, None, nat_eq, nat_lt, refl, ap, sym, subst, ◌∙◌, arith, if◌then◌else◌}
use Rattle.std.proofs.lemmas.Bool.Decides.{nat_tests}
use Rattle.std.specs.Str.{bytes_eq}
use Rattle.kt_law.specs.declared.operators.Op.{Op}
use Rattle.kt_law.specs.declared.modes.Mode.{Mode}
use Rattle.kt_law.specs.declared.places.P.{P}
use Rattle.kt_law.specs.declared.places.P.TheVariants.{P5, P6, P7, P8, P9, P10, P11, P12}
use Rattle.kt_law.specs.declared.places.Place.{Place}
use Rattle.kt_law.specs.declared.places.Refusal.{Refusal}
use Rattle.kt_prog.specs.Scope.{Scope, kind_of}
use Rattle.kt_prog.specs.Targets.{Target}
use Rattle.kt_prog.specs.Declarations.{Declared, is_earlier, names_twice, place_before}
use Rattle.kt_prog.specs.Rules.{Breaches, ExprRules, broken_at, breaches_in, denied, element_rule, expr_rules, fold_rule, load_rule, new_name, number_rule, rules_of, set_rule, store_rule, unknown_in}
use Rattle.kt_prog.specs.ForkRules.{argument_rule, argument_rules, fork_rule, length_rule, many_rule, one_rule, span_rule, unknown_in_all, unknown_in_argument, wants_many, wants_one, wants_other}
use Rattle.kt_prog.specs.Refusals.{goes_before, noted, rule_number}
use Rattle.kt_check.specs.Sights.{declared_family, declared_task}
use Rattle.kt_prog.specs.declared.programs.Family.{Family}
use Rattle.kt_prog.specs.declared.programs.Task.{Task}
use Rattle.kt_check.specs.Late.{argument_late, arguments_late, expr_late, fork_late, late_step, families_from, length_late, place_late, tasks_from}
use Rattle.kt_prog.specs.declared.sight.Kind.{Kind}
use Rattle.kt_prog.specs.declared.sight.Kind.TheVariants.{Number, Variable, Index, One, Many}
use Rattle.kt_prog.specs.declared.programs.Arg.{Arg}
use Rattle.kt_prog.specs.declared.programs.ArgWhat.{ArgWhat}
use Rattle.kt_prog.specs.declared.programs.ArgWhat.TheVariants as A
use Rattle.kt_prog.specs.declared.programs.Sort.{Sort}
use Rattle.kt_prog.specs.declared.programs.Sort.TheVariants as S
use Rattle.kt_prog.specs.declared.programs.Expr.{Expr, Expr-F, roll-Expr, map-Expr, fold-roll-Expr, ind-Expr, out-Expr, fold_out-Expr}
use Rattle.kt_prog.specs.declared.programs.Expr.TheOpen as E
use Rattle.kt_prog.proofs.Lists.{both_hold}
use Rattle.kt_check.proofs.Noted.{noted_append}

behind_not : (l c m d n k : ℕ) → (nat_lt l m || nat_eq l m && nat_lt c d) ≡ true → ((nat_lt m l || nat_eq m l && nat_lt d c) || (nat_eq m l && nat_eq d c) && nat_lt n k) ≡ false
behind_not l c m d n k h = grind (arith, nat_tests)

late_one_is : (b : Option Refusal) (place : Place) (code : P) → place_late b place ≡ true → noted b (broken_at place code) ≡ b
late_one_is None place code h = cc
late_one_is (Some r) place code h =
    let later : goes_before (record { code = code; place = place }) r ≡ false = behind_not r.place.line r.place.column place.line place.column (rule_number code) (rule_number r.code) h in
    rw later refl

-- these breaches leave the least one so far as it is
record Kept (b : Option Refusal) (xs : Breaches) : Type 0 where
  pub is : noted b xs ≡ b

none_late : (b : Option Refusal) → Kept b []
none_late b = record { is = refl }

late_one : (b : Option Refusal) (place : Place) (code : P) → place_late b place ≡ true → Kept b (broken_at place code)
late_one b place code h = record { is = late_one_is b place code h }

late_denied : (b : Option Refusal) (place : Place) (code : P) (test : Bool) → place_late b place ≡ true → Kept b (denied place code test)
late_denied b place code true h = late_one b place code h
late_denied b place code false h = none_late b

both_late : (b : Option Refusal) (xs ys : Breaches) → Kept b xs → Kept b ys → Kept b (xs ++ ys)
both_late b xs ys h g = record { is = noted_append xs ys b ∙ ap (λ f. noted f ys) h.is ∙ g.is }

late_number : (b : Option Refusal) (kind : Option Kind) (place : Place) → place_late b place ≡ true → Kept b (number_rule kind place)
late_number b None place h = late_one b place P6 h
late_number b (Some (One mode)) place h = late_one b place P8 h
late_number b (Some (Many mode)) place h = late_one b place P8 h
late_number b (Some Number) place h = none_late b
late_number b (Some Variable) place h = none_late b
late_number b (Some Index) place h = none_late b

late_set : (b : Option Refusal) (kind : Option Kind) (place : Place) → place_late b place ≡ true → Kept b (set_rule kind place)
late_set b None place h = late_one b place P6 h
late_set b (Some (One mode)) place h = late_one b place P8 h
late_set b (Some (Many mode)) place h = late_one b place P8 h
late_set b (Some Number) place h = late_one b place P8 h
late_set b (Some Variable) place h = none_late b
late_set b (Some Index) place h = late_one b place P8 h

late_element : (b : Option Refusal) (rule : Mode → Breaches) (kind : Option Kind) (place : Place) → ((mode : Mode) → Kept b (rule mode)) → place_late b place ≡ true
    → Kept b (element_rule rule kind place)
late_element b rule None place r h = late_one b place P6 h
late_element b rule (Some (One mode)) place r h = r mode
late_element b rule (Some (Many mode)) place r h = late_one b place P8 h
late_element b rule (Some Number) place r h = late_one b place P8 h
late_element b rule (Some Variable) place r h = late_one b place P8 h
late_element b rule (Some Index) place r h = late_one b place P8 h

late_load : (b : Option Refusal) (s : Scope) (bare : Option (List ℕ)) (kind : Option Kind) (place : Place) → place_late b place ≡ true → Kept b (element_rule (load_rule s bare place) kind place)
late_load b s bare kind place h =
    late_element b (load_rule s bare place) kind place (λ mode. both_late b _ _ (late_denied b place P10 _ h) (late_denied b place P11 _ h)) h

late_store : (b : Option Refusal) (s : Scope) (bare : Option (List ℕ)) (kind : Option Kind) (place : Place) → place_late b place ≡ true → Kept b (element_rule (store_rule s bare place) kind place)
late_store b s bare kind place h =
    late_element b (store_rule s bare place) kind place (λ mode. both_late b _ _ (late_denied b place P10 _ h) (late_denied b place P11 _ h)) h

late_fold : (b : Option Refusal) (op : Op) (kind : Option Kind) (place : Place) → place_late b place ≡ true → Kept b (element_rule (fold_rule op place) kind place)
late_fold b op kind place h = late_element b (fold_rule op place) kind place (λ mode. late_denied b place P10 _ h) h

late_new : (b : Option Refusal) (s : Scope) (name : List ℕ) (place : Place) → place_late b place ≡ true → Kept b (new_name s name place)
late_new b s name place h = both_late b _ _ (late_denied b place P5 _ h) (late_denied b place P12 _ h)

late_name : (b : Option Refusal) (all : List Declared) (name : List ℕ) (place : Place) → place_late b place ≡ true → Kept b (names_twice all (record { name = name; place = place } ∷ []))
late_name b all name place h = both_late b _ [] (late_denied b place P5 _ h) (none_late b)

-- an expression whose places are all late
record ExprLate (b : Option Refusal) (late : Bool) (r : ExprRules) : Type 0 where
  pub breaches : (s : Scope) → late ≡ true → Kept b (r.breaches s)
  pub unknown : (s : Scope) → late ≡ true → Kept b (r.unknown s)

three : (p q r s : Bool) → (p && q && r && s) ≡ true → (p ≡ true) × (q ≡ true) × ((r && s) ≡ true)
three true true true true h = (refl, refl, refl)
three true true true false h = cc
three true true false s h = cc
three true false r s h = cc
three false q r s h = cc

each : (p q r : Bool) → (p && q && r) ≡ true → (p ≡ true) × (q ≡ true) × (r ≡ true)
each true true true h = (refl, refl, refl)
each true true false h = cc
each true false r h = cc
each false q r h = cc

module _ (b : Option Refusal) where
  late_layer : (y : Expr-F ((e : Expr) × ExprLate b (expr_late b e) (rules_of e)))
      → ExprLate b (late_step b (map-Expr _ _ (expr_late b) (map-Expr _ _ (λ e. e.0) y))) (expr_rules (map-Expr _ _ rules_of (map-Expr _ _ (λ e. e.0) y)))
  late_layer (E.Num n) = record { breaches = λ s h. none_late b; unknown = λ s h. none_late b }
  late_layer (E.Var name place) = record {
    breaches = λ s h. late_number b (kind_of s name) place h;
    unknown = λ s h. late_denied b place P6 _ h;
  }
  late_layer (E.Elem name place at) = record {
    breaches = λ s h.
        let both = both_hold (place_late b place) (expr_late b at.0) h in
        both_late b _ _ (late_load b s (rules_of at.0).bare (kind_of s name) place both.0) (at.1.breaches s both.1);
    unknown = λ s h.
        let both = both_hold (place_late b place) (expr_late b at.0) h in
        both_late b _ _ (late_denied b place P6 _ both.0) (at.1.unknown s both.1);
  }
  late_layer (E.Bin op x y) = record {
    breaches = λ s h.
        let both = both_hold (expr_late b x.0) (expr_late b y.0) h in
        both_late b _ _ (x.1.breaches s both.0) (y.1.breaches s both.1);
    unknown = λ s h.
        let both = both_hold (expr_late b x.0) (expr_late b y.0) h in
        both_late b _ _ (x.1.unknown s both.0) (y.1.unknown s both.1);
  }

  late_rules : (e : Expr) → ExprLate b (expr_late b e) (rules_of e)
  late_rules = ind-Expr (λ e. ExprLate b (expr_late b e) (rules_of e)) (λ x y is.
      subst (λ (z : Expr-F Expr). ExprLate b (expr_late b (roll-Expr z)) (rules_of (roll-Expr z))) is
      (rw (
        fold-roll-Expr ExprRules expr_rules (map-Expr _ _ (λ e. e.0) y),
        fold-roll-Expr Bool (late_step b) (map-Expr _ _ (λ e. e.0) y),
      ) (late_layer y)))

  late_expr : (e : Expr) (s : Scope) → expr_late b e ≡ true → Kept b (breaches_in e s)
  late_expr e s h = (late_rules e).breaches s h

  late_unknown : (e : Expr) (s : Scope) → expr_late b e ≡ true → Kept b (unknown_in e s)
  late_unknown e s h = (late_rules e).unknown s h

  late_length : (len : Option Expr) (s : Scope) → length_late b len ≡ true → Kept b (length_rule s len)
  late_length None s h = none_late b
  late_length (Some e) s h = late_expr e s h

  late_other : (at : Place) (kind : Option Kind) (place : Place) → place_late b at ≡ true → place_late b place ≡ true → Kept b (wants_other at kind place)
  late_other at None place h g = late_one b place P6 g
  late_other at (Some kind) place h g = late_one b at P8 h

  late_wants_one : (at : Place) (want : Mode) (kind : Option Kind) (place : Place) → place_late b at ≡ true → place_late b place ≡ true → Kept b (wants_one at want kind place)
  late_wants_one at want None place h g = late_one b place P6 g
  late_wants_one at want (Some (One have)) place h g = late_denied b at P9 _ h
  late_wants_one at want (Some (Many have)) place h g = late_one b at P8 h
  late_wants_one at want (Some Number) place h g = late_one b at P8 h
  late_wants_one at want (Some Variable) place h g = late_one b at P8 h
  late_wants_one at want (Some Index) place h g = late_one b at P8 h

  late_wants_many : (at : Place) (want : Mode) (kind : Option Kind) (place : Place) → place_late b at ≡ true → place_late b place ≡ true → Kept b (wants_many at want kind place)
  late_wants_many at want None place h g = late_one b place P6 g
  late_wants_many at want (Some (Many have)) place h g = late_denied b at P9 _ h
  late_wants_many at want (Some (One have)) place h g = late_one b at P8 h
  late_wants_many at want (Some Number) place h g = late_one b at P8 h
  late_wants_many at want (Some Variable) place h g = late_one b at P8 h
  late_wants_many at want (Some Index) place h g = late_one b at P8 h

  late_one_rule : (at : Place) (want : Mode) (s : Scope) (x : Expr-F Expr) → place_late b at ≡ true → late_step b (map-Expr _ _ (expr_late b) x) ≡ true → Kept b (one_rule at want s x)
  late_one_rule at want s (E.Num n) h g = late_one b at P8 h
  late_one_rule at want s (E.Var name place) h g = late_wants_one at want (kind_of s name) place h g
  late_one_rule at want s (E.Elem name place e) h g =
      let both = both_hold (place_late b place) (expr_late b e) g in
      both_late b _ _ (late_wants_many at want (kind_of s name) place h both.0) (late_expr e s both.1)
  late_one_rule at want s (E.Bin op x y) h g =
      let both = both_hold (expr_late b x) (expr_late b y) g in
      both_late b _ _ (both_late b _ _ (late_one b at P8 h) (late_unknown x s both.0)) (late_unknown y s both.1)

  late_many_rule : (at : Place) (want : Mode) (s : Scope) (x : Expr-F Expr) → place_late b at ≡ true → late_step b (map-Expr _ _ (expr_late b) x) ≡ true → Kept b (many_rule at want s x)
  late_many_rule at want s (E.Num n) h g = late_one b at P8 h
  late_many_rule at want s (E.Var name place) h g = late_wants_many at want (kind_of s name) place h g
  late_many_rule at want s (E.Elem name place e) h g =
      let both = both_hold (place_late b place) (expr_late b e) g in
      both_late b _ _ (late_other at (kind_of s name) place h both.0) (late_expr e s both.1)
  late_many_rule at want s (E.Bin op x y) h g =
      let both = both_hold (expr_late b x) (expr_late b y) g in
      both_late b _ _ (both_late b _ _ (late_one b at P8 h) (late_unknown x s both.0)) (late_unknown y s both.1)

  late_out : (e : Expr) → expr_late b e ≡ true → late_step b (map-Expr _ _ (expr_late b) (out-Expr e)) ≡ true
  late_out e h = sym (fold_out-Expr Bool (late_step b) e) ∙ h

  late_span : (at : Place) (wanted : Option Kind → Place → Breaches) (s : Scope) (name : List ℕ) (place : Place) (x y : Expr) → Kept b (wanted (kind_of s name) place) → (expr_late b x && expr_late b y) ≡ true
      → Kept b (span_rule at wanted s name place x y)
  late_span at wanted s name place x y h g =
      let both = both_hold (expr_late b x) (expr_late b y) g in
      both_late b _ _ (both_late b _ _ h (late_expr x s both.0)) (late_expr y s both.1)

  span_parts : (at place : Place) (x y : Expr) → (place_late b at && place_late b place && expr_late b x && expr_late b y) ≡ true
      → (place_late b at ≡ true) × (place_late b place ≡ true) × ((expr_late b x && expr_late b y) ≡ true)
  span_parts at place x y h = three (place_late b at) (place_late b place) (expr_late b x) (expr_late b y) h

  fork_parts : (place : Place) (len : Option Expr) (args : List Arg) → fork_late b place len args ≡ true → (place_late b place ≡ true) × (length_late b len ≡ true) × (arguments_late b args ≡ true)
  fork_parts place len args h = each (place_late b place) (length_late b len) (arguments_late b args) h

  late_argument : (at : Place) (sort : Sort) (s : Scope) (what : ArgWhat) → argument_late b at what ≡ true → Kept b (argument_rule at sort s what)
  late_argument at S.Int s (A.Value e) h = late_expr e s (both_hold (place_late b at) (expr_late b e) h).1
  late_argument at (S.One want) s (A.Value e) h =
      let both = both_hold (place_late b at) (expr_late b e) h in
      late_one_rule at want s (out-Expr e) both.0 (late_out e both.1)
  late_argument at (S.Many want) s (A.Value e) h =
      let both = both_hold (place_late b at) (expr_late b e) h in
      late_many_rule at want s (out-Expr e) both.0 (late_out e both.1)
  late_argument at S.Int s (A.Span name place x y) h =
      let parts = span_parts at place x y h in
      late_span at (wants_other at) s name place x y (late_other at (kind_of s name) place parts.0 parts.1) parts.2
  late_argument at (S.One want) s (A.Span name place x y) h =
      let parts = span_parts at place x y h in
      late_span at (wants_other at) s name place x y (late_other at (kind_of s name) place parts.0 parts.1) parts.2
  late_argument at (S.Many want) s (A.Span name place x y) h =
      let parts = span_parts at place x y h in
      late_span at (wants_many at want) s name place x y (late_wants_many at want (kind_of s name) place parts.0 parts.1) parts.2

  late_names : (at : Place) (s : Scope) (what : ArgWhat) → argument_late b at what ≡ true → Kept b (unknown_in_argument s what)
  late_names at s (A.Value e) h = late_unknown e s (both_hold (place_late b at) (expr_late b e) h).1
  late_names at s (A.Span name place x y) h =
      let parts = span_parts at place x y h in
      let both = both_hold (expr_late b x) (expr_late b y) parts.2 in
      both_late b _ _ (both_late b _ _ (late_denied b place P6 _ parts.1) (late_unknown x s both.0)) (late_unknown y s both.1)

  late_arguments : (sorts : List Sort) (s : Scope) (args : List Arg) → arguments_late b args ≡ true → Kept b (argument_rules sorts s args)
  late_arguments [] s args h = none_late b
  late_arguments (sort ∷ sorts) s [] h = none_late b
  late_arguments (sort ∷ sorts) s (a ∷ args) h =
      let both = both_hold (argument_late b a.place a.what) (arguments_late b args) h in
      both_late b _ _ (late_argument a.place sort s a.what both.0) (late_arguments sorts s args both.1)

  late_all_names : (s : Scope) (args : List Arg) → arguments_late b args ≡ true → Kept b (unknown_in_all s args)
  late_all_names s [] h = none_late b
  late_all_names s (a ∷ args) h =
      let both = both_hold (argument_late b a.place a.what) (arguments_late b args) h in
      both_late b _ _ (late_names a.place s a.what both.0) (late_all_names s args both.1)

  one_or_other : (test : Bool) (xs ys : Breaches) → Kept b xs → Kept b ys → Kept b (if test then xs else ys)
  one_or_other true xs ys h g = h
  one_or_other false xs ys h g = g

  late_fork : (target : Option Target) (place : Place) (s : Scope) (len : Option Expr) (args : List Arg) → fork_late b place len args ≡ true → Kept b (fork_rule target place s len args)
  late_fork None place s len args h =
      let parts = fork_parts place len args h in
      both_late b _ _ (both_late b _ _ (late_one b place P6 parts.0) (late_length len s parts.1)) (late_all_names s args parts.2)
  late_fork (Some t) place s len args h =
      let parts = fork_parts place len args h in
      both_late b _ _
      (both_late b _ _ (both_late b _ _ (late_denied b place P7 _ parts.0) (late_denied b place P8 _ parts.0)) (late_length len s parts.1))
      (one_or_other _ _ _ (late_arguments t.sorts s args parts.2) (late_all_names s args parts.2))

-- as equations
pub denied_late : (b : Option Refusal) (place : Place) (code : P) (test : Bool) → place_late b place ≡ true → noted b (denied place code test) ≡ b
denied_late b place code test h = (late_denied b place code test h).is

pub number_late : (b : Option Refusal) (kind : Option Kind) (place : Place) → place_late b place ≡ true → noted b (number_rule kind place) ≡ b
number_late b kind place h = (late_number b kind place h).is

pub set_late : (b : Option Refusal) (kind : Option Kind) (place : Place) → place_late b place ≡ true → noted b (set_rule kind place) ≡ b
set_late b kind place h = (late_set b kind place h).is

pub load_late : (b : Option Refusal) (s : Scope) (bare : Option (List ℕ)) (kind : Option Kind) (place : Place) → place_late b place ≡ true → noted b (element_rule (load_rule s bare place) kind place) ≡ b
load_late b s bare kind place h = (late_load b s bare kind place h).is

pub store_late : (b : Option Refusal) (s : Scope) (bare : Option (List ℕ)) (kind : Option Kind) (place : Place) → place_late b place ≡ true → noted b (element_rule (store_rule s bare place) kind place) ≡ b
store_late b s bare kind place h = (late_store b s bare kind place h).is

pub fold_late : (b : Option Refusal) (op : Op) (kind : Option Kind) (place : Place) → place_late b place ≡ true → noted b (element_rule (fold_rule op place) kind place) ≡ b
fold_late b op kind place h = (late_fold b op kind place h).is

pub new_late : (b : Option Refusal) (s : Scope) (name : List ℕ) (place : Place) → place_late b place ≡ true → noted b (new_name s name place) ≡ b
new_late b s name place h = (late_new b s name place h).is

pub name_late : (b : Option Refusal) (all : List Declared) (name : List ℕ) (place : Place) → place_late b place ≡ true → noted b (names_twice all (record { name = name; place = place } ∷ [])) ≡ b
name_late b all name place h = (late_name b all name place h).is

pub argument_is_late : (b : Option Refusal) (at : Place) (sort : Sort) (s : Scope) (what : ArgWhat) → argument_late b at what ≡ true → noted b (argument_rule at sort s what) ≡ b
argument_is_late b at sort s what h = (late_argument b at sort s what h).is

pub fork_is_late : (b : Option Refusal) (target : Option Target) (place : Place) (s : Scope) (len : Option Expr) (args : List Arg) → fork_late b place len args ≡ true → noted b (fork_rule target place s len args) ≡ b
fork_is_late b target place s len args h = (late_fork b target place s len args h).is

-- a place up to which none of the declarations out of reach stands
not_before : (l c m d n e : ℕ) → (nat_lt n m || nat_eq n m && nat_lt e d) ≡ false → (nat_lt m l || nat_eq m l && nat_lt d c) ≡ false → (nat_lt n l || nat_eq n l && nat_lt e c) ≡ false
not_before l c m d n e h g = grind (arith, nat_tests)

not_after : (from place at : Place) → place_before at from ≡ false → place_before from place ≡ false → place_before at place ≡ false
not_after from place at h g = not_before place.line place.column from.line from.column at.line at.column h g

not_true : (b : Bool) → not b ≡ true → b ≡ false
not_true true h = cc
not_true false h = refl

and_false : (a b : Bool) → b ≡ false → (a && b) ≡ false
and_false true b h = h
and_false false b h = refl

families_reached : (from place : Place) (name : List ℕ) (xs : List Family) → place_before from place ≡ false → families_from from xs ≡ true → is_earlier (map declared_family xs) (record { name = name; place = place }) ≡ false
families_reached from place name [] g h = refl
families_reached from place name (x ∷ xs) g h =
    let both = both_hold (not (place_before x.place from)) (families_from from xs) h in
    rw (and_false (bytes_eq x.name name) (place_before x.place place) (not_after from place x.place (not_true _ both.0) g)) (families_reached from place name xs g both.1)

tasks_reached : (from place : Place) (name : List ℕ) (xs : List Task) → place_before from place ≡ false → tasks_from from xs ≡ true → is_earlier (map declared_task xs) (record { name = name; place = place }) ≡ false
tasks_reached from place name [] g h = refl
tasks_reached from place name (x ∷ xs) g h =
    let both = both_hold (not (place_before x.place from)) (tasks_from from xs) h in
    rw (and_false (bytes_eq x.name name) (place_before x.place place) (not_after from place x.place (not_true _ both.0) g)) (tasks_reached from place name xs g both.1)

module _ (is_from : Bool) (from place : Place) (name : List ℕ) (reached : (is_from && not (place_before from place)) ≡ true) where
  pub no_family : (xs : List Family) → (is_from ≡ true → families_from from xs ≡ true) → is_earlier (map declared_family xs) (record { name = name; place = place }) ≡ false
  no_family xs h =
      let both = both_hold is_from (not (place_before from place)) reached in
      families_reached from place name xs (not_true _ both.1) (h both.0)

  pub no_task : (xs : List Task) → (is_from ≡ true → tasks_from from xs ≡ true) → is_earlier (map declared_task xs) (record { name = name; place = place }) ≡ false
  no_task xs h =
      let both = both_hold is_from (not (place_before from place)) reached in
      tasks_reached from place name xs (not_true _ both.1) (h both.0)
