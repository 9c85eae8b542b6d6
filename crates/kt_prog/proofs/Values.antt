-- Expressions keep to the rights.
use Rattle.std.proofs.Common.{◌≡◌, ◌≤◌, ℕ, suc, Bool, true, false, not, ◌&&◌, List, [], Option, Some, None, sym, subst, arith, nat_lt}
use Rattle.std.proofs.lemmas.Bool.Decides.{nat_tests}
use Rattle.kt_law.specs.Operators.{apply_of}
use Rattle.kt_law.specs.Modes.{is_owned}
use Rattle.kt_rights.specs.Rights.{lets, Owns, Permits, Allowed}
use Rattle.kt_rights.proofs.Lists.{some_more}
use Rattle.kt_law.specs.Acts.{Act, Deed, Load}
use Rattle.kt_law.specs.declared.faults.F.TheVariants.{F1, F2}
use Rattle.kt_law.specs.declared.places.P.TheVariants.{P10, P11}
use Rattle.kt_law.specs.declared.modes.Mode.{Mode}
use Rattle.kt_law.specs.declared.places.Place.{Place}
use Rattle.kt_law.specs.declared.accesses.Access.{Access}
use Rattle.kt_prog.specs.Calls.{Job}
use Rattle.kt_prog.specs.Script.{Script, Step}
use Rattle.kt_prog.specs.Locals.{Site, bound_of}
use Rattle.kt_prog.specs.Lookups.{number_in, object_in}
use Rattle.kt_prog.specs.Values.{View, ExprMeaning, value_of, expr_step, applied}
use Rattle.kt_prog.specs.Scope.{Scope, kind_of}
use Rattle.kt_prog.specs.declared.sight.Kind.TheVariants.{Number, Variable, Index, One, Many}
use Rattle.kt_prog.specs.declared.sight.Kind.{Kind}
use Rattle.kt_prog.specs.Rules.{Breaches, ExprRules, expr_rules, rules_of, number_rule, element_rule, is_index, at_index, own_rule, load_rule}
use Rattle.kt_prog.specs.declared.scope.Local.{Local}
use Rattle.kt_prog.specs.declared.scope.Bound.{Bound}
use Rattle.kt_prog.specs.declared.scope.Bound.TheVariants as B
use Rattle.kt_prog.specs.declared.programs.Expr.{Expr, Expr-F, roll-Expr, map-Expr, fold-roll-Expr, ind-Expr}
use Rattle.kt_prog.specs.declared.programs.Expr.TheOpen as E
use Rattle.kt_prog.proofs.Good.{Good, good_give, good_then, good_stop, good_test, good_load}
use Rattle.kt_prog.proofs.Lists.{left_none, right_none, not_denied, not_false}
use Rattle.kt_prog.proofs.Matches.{HasRight, Found, LoopOk, FamiliesMatch, Agrees, looked}

own_lemma : (o : Option ℕ) (b t : Bool) (mode : Mode) (i : ℕ) → (b && is_owned mode && not t) ≡ false → (site : Site) (rights : List Access)
    → LoopOk site rights o o b → (t ≡ true → o ≡ Some i) → Owns o mode i
own_lemma None b t mode i h site rights l k = tt
own_lemma (Some j) b t mode i h site rights l k = λ w.
    let e : t ≡ true = not_false t (rw (l, w) at h) in
    let f : Some j ≡ Some i = k e in
    cc

module _ (lost : Script → Script) (site : Site) (rights : List Access) (own : Option ℕ) (H : Job → Type 0)
    (fam : site.in_main ≡ true → FamiliesMatch site rights own) where
  abbrev pub D : Act → Type 0
  D = Allowed site.widths rights own

  -- where the expression is the bare name of the index, its value is the index
  abbrev pub OwnAt : Scope → Option (List ℕ) → ℕ → Type 0
  OwnAt s bare n = at_index s bare ≡ true → own ≡ Some n

  abbrev pub view_of : List Local → ℕ → View
  view_of locals line = record { site = site; locals = locals; line = line }

  pub record KeepsExpr (r : ExprRules) (m : ExprMeaning) : Type 0 where
    pub good : (s : Scope) (locals : List Local) (line : ℕ) → Agrees site rights own s locals → r.breaches s ≡ []
        → Good D H (OwnAt s r.bare) (m (view_of locals line))

  -- a name used as a number is found as a number, the index as the index
  number_found : (kind : Option Kind) (bound : Option Bound) (place : Place) → number_rule kind place ≡ []
      → Found site rights own kind bound → Good D H (λ n. is_index kind ≡ true → own ≡ Some n) (number_in lost bound)
  number_found None bound place h f = cc
  number_found (Some (One mode)) bound place h f = cc
  number_found (Some (Many mode)) bound place h f = cc
  number_found (Some Index) (Some (B.Number n)) place h f = good_give D H (λ m. is_index (Some Index) ≡ true → own ≡ Some m) n (λ e. f)
  number_found (Some Index) (Some (B.One o)) place h f = absurd f
  number_found (Some Index) (Some (B.Many lo hi)) place h f = absurd f
  number_found (Some Index) None place h f = absurd f
  number_found (Some Number) (Some (B.Number n)) place h f = good_give D H (λ m. is_index (Some Number) ≡ true → own ≡ Some m) n (λ e. cc)
  number_found (Some Number) (Some (B.One o)) place h f = absurd f
  number_found (Some Number) (Some (B.Many lo hi)) place h f = absurd f
  number_found (Some Number) None place h f = absurd f
  number_found (Some Variable) (Some (B.Number n)) place h f = good_give D H (λ m. is_index (Some Variable) ≡ true → own ≡ Some m) n (λ e. cc)
  number_found (Some Variable) (Some (B.One o)) place h f = absurd f
  number_found (Some Variable) (Some (B.Many lo hi)) place h f = absurd f
  number_found (Some Variable) None place h f = absurd f

  -- an object behind a name whose mode breaks no rule
  abbrev pub IsObject : (Mode → Breaches) → ℕ → Type 0
  IsObject rule o = (mode : Mode) × (rule mode ≡ []) × HasRight site rights own mode o (suc o)

  pub element_found : (rule : Mode → Breaches) (kind : Option Kind) (bound : Option Bound) (place : Place)
      → element_rule rule kind place ≡ [] → Found site rights own kind bound → Good D H (IsObject rule) (object_in lost bound)
  element_found rule None bound place h f = cc
  element_found rule (Some Number) bound place h f = cc
  element_found rule (Some Variable) bound place h f = cc
  element_found rule (Some Index) bound place h f = cc
  element_found rule (Some (Many mode)) bound place h f = cc
  element_found rule (Some (One mode)) None place h f = absurd f
  element_found rule (Some (One mode)) (Some (B.Number n)) place h f = absurd f
  element_found rule (Some (One mode)) (Some (B.One o)) place h f = good_give D H (IsObject rule) o (mode, h, f)
  element_found rule (Some (One mode)) (Some (B.Many lo hi)) place h f = absurd f

  -- an act on such an object is allowed
  pub allowed : (mode : Mode) (object i : ℕ) (deed : Deed) → nat_lt i (site.widths object) ≡ true → lets mode deed ≡ true
      → Owns own mode i → HasRight site rights own mode object (suc object) → D (record { object = object; element = i; deed = deed })
  allowed mode object i deed lt l o r = (
    grind (arith, nat_tests),
    some_more (λ (a : Access). (a.lo ≤ object) × (suc object ≤ a.hi) × (a.mode ≡ mode)) (Permits own (record { object = object; element = i; deed = deed }))
        (λ a h. record {
          object = record { from = h.0; below = omega arith };
          lets = subst (λ (m : Mode). lets m deed ≡ true) (sym h.2) l;
          owns = subst (λ (m : Mode). Owns own m i) (sym h.2) o;
        }) rights r,
  )

  pub owned : (s : Scope) (locals : List Local) (bare : Option (List ℕ)) (place : Place) (mode : Mode) (i : ℕ)
      → Agrees site rights own s locals → own_rule s bare place mode ≡ [] → OwnAt s bare i → Owns own mode i
  owned s locals bare place mode i a h o = own_lemma own s.in_loop (at_index s bare) mode i (not_denied place P11 _ h) site rights a.loop o

  pub applied_good : (x : Option ℕ) (line : ℕ) → Good D H (λ (n : ℕ). Unit {0}) (applied x line)
  applied_good None line = good_stop D H (λ (n : ℕ). Unit {0}) F1 line
  applied_good (Some x) line = good_give D H (λ (n : ℕ). Unit {0}) x tt

  pub forget : {A : Type 0} (P : A → Type 0) (m : Step A) → Good D H (λ (x : A). Unit {0}) m → ((x : A) → P x) → Good D H P m
  forget P m g h = record { keeps = λ go k. g.keeps go (λ x u. k x (h x)) }

  expr_layer : (y : Expr-F ((e : Expr) × KeepsExpr (rules_of e) (value_of lost e)))
      → KeepsExpr (expr_rules (map-Expr _ _ rules_of (map-Expr _ _ (λ e. e.0) y))) (expr_step lost (map-Expr _ _ (value_of lost) (map-Expr _ _ (λ e. e.0) y)))
  expr_layer (E.Num n) = record { good = λ s locals line a h. good_give D H (OwnAt s None) n (λ e. cc) }
  expr_layer (E.Var name place) = record {
    good = λ s locals line a h.
        number_found (kind_of s name) (bound_of site locals name) place h (looked site rights own fam s locals name a);
  }
  expr_layer (E.Elem name place at) = record {
    good = λ s locals line a h.
        let r = rules_of at.0 in
        let rule = load_rule s r.bare place in
        good_then D H (IsObject rule) (OwnAt s None) _ _
        (element_found rule (kind_of s name) (bound_of site locals name) place (left_none _ _ h)
        (looked site rights own fam s locals name a)) (λ o f.
        good_then D H (OwnAt s r.bare) (OwnAt s None) _ _ (at.1.good s locals line a (right_none _ _ h)) (λ i w.
        good_then D H (λ _. nat_lt i (site.widths o) ≡ true) (OwnAt s None) _ _ (good_test D H _ F2 line) (λ _ lt.
        forget (OwnAt s None) _ (good_load D H o i
        (allowed f.0 o i Load lt (not_false _ (not_denied place P10 _ (left_none _ _ f.1))) (owned s locals r.bare place f.0 i a (right_none _ _ f.1) w) f.2))
        (λ x e. cc))));
  }
  expr_layer (E.Bin op x y) = record {
    good = λ s locals line a h.
        good_then D H (OwnAt s (rules_of x.0).bare) (OwnAt s None) _ _ (x.1.good s locals line a (left_none _ _ h)) (λ m _.
        good_then D H (OwnAt s (rules_of y.0).bare) (OwnAt s None) _ _ (y.1.good s locals line a (right_none _ _ h)) (λ n _.
        forget (OwnAt s None) _ (applied_good (apply_of op m n) line) (λ z e. cc)));
  }

  pub expr_keeps : (e : Expr) → KeepsExpr (rules_of e) (value_of lost e)
  expr_keeps = ind-Expr (λ e. KeepsExpr (rules_of e) (value_of lost e)) (λ x y is.
      subst (λ (z : Expr-F Expr). KeepsExpr (rules_of (roll-Expr z)) (value_of lost (roll-Expr z))) is
      (rw (
        fold-roll-Expr ExprRules expr_rules (map-Expr _ _ (λ e. e.0) y),
        fold-roll-Expr ExprMeaning (expr_step lost)
            (map-Expr _ _ (λ e. e.0) y),
      ) (expr_layer y)))
