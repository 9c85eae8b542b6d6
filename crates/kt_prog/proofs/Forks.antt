-- Forks hand on what the rights hand on.
use Rattle.std.proofs.Common.{◌≡◌, ◌≤◌, ◌<◌, ℕ, suc, ◌+◌, ◌-◌, Bool, true, false, not, ◌&&◌, List, [], ◌∷◌, ◌++◌, length, Option, Some, None, refl, sym, subst, arith, nat_lt, nat_le, nat_eq, append_assoc, append-nil, is_some, if◌then◌else◌}
use Rattle.std.proofs.lemmas.Bool.Decides.{nat_tests}
use Rattle.kt_law.specs.declared.limits.TheConstants.{DEPTH, LENGTH}
use Rattle.kt_law.specs.Modes.{hands_on_of}
use Rattle.kt_law.specs.Accesses.{clashes}
use Rattle.kt_law.specs.declared.faults.F.TheVariants.{F3, F4, F5, F7}
use Rattle.kt_law.specs.declared.places.P.TheVariants.{P7, P8, P9}
use Rattle.kt_law.specs.declared.modes.Mode.{Mode}
use Rattle.kt_law.specs.declared.places.Place.{Place}
use Rattle.kt_law.specs.declared.accesses.Access.{Access}
use Rattle.kt_prog.specs.Calls.{CallTree, Job, Whole}
use Rattle.kt_prog.specs.Script.{Script, Step}
use Rattle.kt_prog.specs.Locals.{Site, bound_of}
use Rattle.kt_prog.specs.Lookups.{Range, object_in, range_in}
use Rattle.kt_prog.specs.Values.{View, value_of}
use Rattle.kt_prog.specs.Targets.{Target, target_of}
use Rattle.kt_prog.specs.Forks.{range_length, object_step, range_step, range_of, Given, with_int, with_access, argument, arguments, length_step, nothing_given, child, fork_step, fork_named}
use Rattle.kt_prog.specs.Scope.{Scope, kind_of}
use Rattle.kt_prog.specs.declared.sight.Kind.TheVariants.{Number, Variable, Index, One, Many}
use Rattle.kt_prog.specs.declared.sight.Kind.{Kind}
use Rattle.kt_prog.specs.Rules.{breaches_in, Breaches, denied}
use Rattle.kt_prog.specs.ForkRules.{wants_other, wants_one, wants_many, one_rule, many_rule, argument_rule, argument_rules, length_rule, is_formed, fork_rule, unknown_in_all}
use Rattle.kt_rights.specs.Rights.{SomeOf, EachOf, Covers}
use Rattle.kt_rights.proofs.Lists.{some_more, pick}
use Rattle.kt_prog.specs.Fits.{AreGiven, Inside, FitsTarget}
use Rattle.kt_prog.specs.declared.scope.Local.{Local}
use Rattle.kt_prog.specs.declared.scope.Bound.{Bound}
use Rattle.kt_prog.specs.declared.scope.Bound.TheVariants as B
use Rattle.kt_prog.specs.declared.programs.Sort.{Sort}
use Rattle.kt_prog.specs.declared.programs.Sort.TheVariants as S
use Rattle.kt_prog.specs.declared.programs.Arg.{Arg}
use Rattle.kt_prog.specs.declared.programs.ArgWhat.{ArgWhat}
use Rattle.kt_prog.specs.declared.programs.ArgWhat.TheVariants as A
use Rattle.kt_prog.specs.declared.programs.Expr.{Expr, Expr-F, out-Expr}
use Rattle.kt_prog.specs.declared.programs.Expr.TheOpen as E
use Rattle.kt_prog.proofs.Good.{Good, good_give, good_then, good_test, good_fork}
use Rattle.kt_prog.proofs.Lists.{left_none, right_none, not_denied, not_false, each_snoc, both_hold}
use Rattle.kt_prog.proofs.Matches.{HasRight, Found, FamiliesMatch, Agrees, looked}
use Rattle.kt_prog.proofs.Values.{D, view_of, expr_keeps}

never_object : (at place : Place) (kind : Option Kind) (more : Breaches) → wants_other at kind place ++ more ≡ [] → ⊥
never_object at place None more h = cc
never_object at place (Some kind) more h = cc

both_true : (a b : Bool) (x y : Breaches) → not a ≡ false → not b ≡ false → (if a && b then x else y) ≡ [] → x ≡ []
both_true true true x y e f h = h
both_true true false x y e f h = cc
both_true false b x y e f h = cc

not_true : (b : Bool) → not b ≡ true → b ≡ false
not_true true h = cc
not_true false h = refl

module _ (lost : Script → Script) (site : Site) (rights : List Access) (own : Option ℕ) (H : Job → Type 0)
    (fam : site.in_main ≡ true → FamiliesMatch site rights own) where
  -- the rights hand on this mode on the objects from lo up to hi
  abbrev pub HasCover : Mode → ℕ → ℕ → Type 0
  HasCover mode lo hi = SomeOf (Covers (record { lo = lo; hi = hi; mode = mode })) rights

  cover : (have want : Mode) (lo hi lo' hi' : ℕ) → hands_on_of have want ≡ true → HasRight site rights own have lo hi → lo ≤ lo' → hi' ≤ hi
      → HasCover want lo' hi'
  cover have want lo hi lo' hi' h r l k = some_more (λ (a : Access). (a.lo ≤ lo) × (hi ≤ a.hi) × (a.mode ≡ have))
      (Covers (record { lo = lo'; hi = hi'; mode = want }))
      (λ a x. record { from = omega arith; below = omega arith; hands_on = subst (λ (m : Mode). hands_on_of m want ≡ true) (sym x.2) h }) rights r

  abbrev pub GoodAt : {X : Type 0} → (X → Type 0) → Step X → Type 0
  GoodAt = Good (D lost site rights own H fam) H

  abbrev pub IsOne : Mode → ℕ → Type 0
  IsOne want o = HasCover want o (o + 1)

  abbrev pub IsMany : Mode → Range → Type 0
  IsMany want r = (r.lo ≤ r.hi) × HasCover want r.lo r.hi

  -- a range whose mode hands the wanted one on
  abbrev pub IsRange : Mode → Range → Type 0
  IsRange want r = (have : Mode) × (hands_on_of have want ≡ true) × (r.lo ≤ r.hi) × HasRight site rights own have r.lo r.hi

  one_found : (at place : Place) (want : Mode) (kind : Option Kind) (bound : Option Bound) → wants_one at want kind place ≡ []
      → Found site rights own kind bound → GoodAt (IsOne want) (object_in lost bound)
  one_found at place want None bound h f = cc
  one_found at place want (Some Number) bound h f = cc
  one_found at place want (Some Variable) bound h f = cc
  one_found at place want (Some Index) bound h f = cc
  one_found at place want (Some (Many mode)) bound h f = cc
  one_found at place want (Some (One mode)) None h f = absurd f
  one_found at place want (Some (One mode)) (Some (B.Number n)) h f = absurd f
  one_found at place want (Some (One mode)) (Some (B.One o)) h f = good_give _ H (IsOne want) o
      (cover mode want o (suc o) o (o + 1) (not_false _ (not_denied at P9 _ h)) f (omega arith) (omega arith))
  one_found at place want (Some (One mode)) (Some (B.Many lo hi)) h f = absurd f

  many_found : (at place : Place) (want : Mode) (kind : Option Kind) (bound : Option Bound) → wants_many at want kind place ≡ []
      → Found site rights own kind bound → GoodAt (IsRange want) (range_in lost bound)
  many_found at place want None bound h f = cc
  many_found at place want (Some Number) bound h f = cc
  many_found at place want (Some Variable) bound h f = cc
  many_found at place want (Some Index) bound h f = cc
  many_found at place want (Some (One mode)) bound h f = cc
  many_found at place want (Some (Many mode)) None h f = absurd f
  many_found at place want (Some (Many mode)) (Some (B.Number n)) h f = absurd f
  many_found at place want (Some (Many mode)) (Some (B.One o)) h f = absurd f
  many_found at place want (Some (Many mode)) (Some (B.Many lo hi)) h f = good_give _ H (IsRange want) (record { lo = lo; hi = hi })
      (mode, not_false _ (not_denied at P9 _ h), f.0, f.1)

  module _ (s : Scope) (locals : List Local) (line : ℕ) (a : Agrees site rights own s locals) where
    abbrev v : View
    v = view_of lost site rights own H fam locals line

    number_good : (e : Expr) → breaches_in e s ≡ [] → GoodAt (λ (n : ℕ). Unit {0}) (value_of lost e v)
    number_good e h = record { keeps = λ go k. ((expr_keeps lost site rights own H fam e).good s locals line a h).keeps go (λ x o. k x tt) }

    one_good : (at : Place) (want : Mode) (x : Expr-F Expr) → one_rule at want s x ≡ [] → GoodAt (IsOne want) (object_step lost x v)
    one_good at want (E.Num n) h = cc
    one_good at want (E.Var name place) h = one_found at place want (kind_of s name) (bound_of site locals name) h (looked site rights own fam s locals name a)
    one_good at want (E.Elem name place e) h =
        good_then _ H (IsRange want) (IsOne want) _ _
        (many_found at place want (kind_of s name) (bound_of site locals name) (left_none _ _ h)
        (looked site rights own fam s locals name a)) (λ r f.
        good_then _ H (λ (n : ℕ). Unit {0}) (IsOne want) _ _ (number_good e (right_none _ _ h)) (λ i _.
        good_then _ H (λ _. nat_lt i (range_length r) ≡ true) (IsOne want) _ _ (good_test _ H _ F3 line) (λ _ lt.
        let below : i < r.hi - r.lo = grind (arith, nat_tests) in
        good_give _ H (IsOne want) (r.lo + i) (cover f.0 want r.lo r.hi (r.lo + i) (r.lo + i + 1) f.1 f.3 (omega arith) (omega arith)))))
    one_good at want (E.Bin op x y) h = cc

    span_good : (want : Mode) (name : List ℕ) (place at : Place) (x y : Expr)
        → (wants_many at want (kind_of s name) place ++ breaches_in x s ++ breaches_in y s) ≡ []
        → GoodAt (IsMany want) (range_of lost (A.Span name place x y) v)
    span_good want name place at x y h =
        good_then _ H (IsRange want) (IsMany want) _ _
        (many_found at place want (kind_of s name) (bound_of site locals name) (left_none _ _ (left_none _ _ h))
        (looked site rights own fam s locals name a)) (λ r f.
        good_then _ H (λ (n : ℕ). Unit {0}) (IsMany want) _ _ (number_good x (right_none _ _ (left_none _ _ h))) (λ from _.
        good_then _ H (λ (n : ℕ). Unit {0}) (IsMany want) _ _ (number_good y (right_none _ _ h)) (λ to _.
        good_then _ H (λ _. (nat_le from to && nat_le to (range_length r)) ≡ true) (IsMany want) _ _ (good_test _ H _ F3 line) (λ _ lt.
        let ends = both_hold (nat_le from to) (nat_le to (range_length r)) lt in
        let first : from ≤ to = grind (arith, nat_tests, ends.0) in
        let second : to ≤ r.hi - r.lo = grind (arith, nat_tests, ends.1) in
        good_give _ H (IsMany want) (record { lo = r.lo + from; hi = r.lo + to })
        (omega arith, cover f.0 want r.lo r.hi (r.lo + from) (r.lo + to) f.1 f.3 (omega arith) (omega arith))))))

    many_good : (at : Place) (want : Mode) (x : Expr-F Expr) → many_rule at want s x ≡ [] → GoodAt (IsMany want) (range_step lost x v)
    many_good at want (E.Num n) h = cc
    many_good at want (E.Var name place) h =
        let g = many_found at place want (kind_of s name) (bound_of site locals name) h (looked site rights own fam s locals name a) in
        record { keeps = λ go k. g.keeps go (λ r f. k r (f.2, cover f.0 want r.lo r.hi r.lo r.hi f.1 f.3 (omega arith) (omega arith))) }
    many_good at want (E.Elem name place e) h = absurd (never_object at place (kind_of s name) _ h)
    many_good at want (E.Bin op x y) h = cc

    module _ (objects : ℕ) (room : EachOf (Inside objects) rights) (all : List Sort) where
      -- what was given so far goes before what fits the other parameters
      pub record Given_so (sorts : List Sort) (g : Given) : Type 0 where
        pub fits : (ints : List ℕ) (accesses : List Access) → AreGiven sorts ints accesses
            → AreGiven all (g.ints ++ ints) (g.accesses ++ accesses)
        pub covered : EachOf (λ b. SomeOf (Covers b) rights) g.accesses
        pub inside : EachOf (Inside objects) g.accesses

      inside_of : (mode : Mode) (lo hi : ℕ) → HasCover mode lo hi → hi ≤ objects
      inside_of mode lo hi c = let k = pick (Inside objects) (Covers (record { lo = lo; hi = hi; mode = mode })) rights room c in
          let e : k.0.hi ≤ objects = k.1 in
          let f : hi ≤ k.0.hi = k.2.below in
          omega arith

      int_more : (sorts : List Sort) (g : Given) (n : ℕ) → Given_so (S.Int ∷ sorts) g → Given_so sorts (with_int g n)
      int_more sorts g n h = record {
        fits = λ ints accesses r. rw (append_assoc g.ints (n ∷ []) ints) (h.fits (n ∷ ints) accesses r);
        covered = h.covered;
        inside = h.inside;
      }

      access_more : (sort : Sort) (sorts : List Sort) (g : Given) (lo hi : ℕ) (mode : Mode)
          → ((ints : List ℕ) (accesses : List Access) → AreGiven sorts ints accesses → AreGiven (sort ∷ sorts) ints
          (record { lo = lo; hi = hi; mode = mode } ∷ accesses))
          → HasCover mode lo hi → Given_so (sort ∷ sorts) g → Given_so sorts (with_access g lo hi mode)
      access_more sort sorts g lo hi mode one c h = record {
        fits = λ ints accesses r. rw (append_assoc g.accesses (record { lo = lo; hi = hi; mode = mode } ∷ []) accesses)
            (h.fits ints (record { lo = lo; hi = hi; mode = mode } ∷ accesses) (one ints accesses r));
        covered = each_snoc (λ b. SomeOf (Covers b) rights) g.accesses _ h.covered c;
        inside = each_snoc (Inside objects) g.accesses _ h.inside (inside_of mode lo hi c);
      }

      argument_good : (sort : Sort) (sorts : List Sort) (place : Place) (what : ArgWhat) (g : Given) → argument_rule place sort s what ≡ []
          → Given_so (sort ∷ sorts) g → GoodAt (Given_so sorts) (argument lost sort (record { place = place; what = what }) v g)
      argument_good S.Int sorts place (A.Value e) g h so =
          good_then _ H (λ (n : ℕ). Unit {0}) (Given_so sorts) _ _ (number_good e h)
          (λ n _. good_give _ H (Given_so sorts) (with_int g n) (int_more sorts g n so))
      argument_good S.Int sorts place (A.Span name p x y) g h so = absurd
          (never_object place p (kind_of s name) _ (left_none (wants_other place (kind_of s name) p ++ breaches_in x s) (breaches_in y s) h))
      argument_good (S.One want) sorts place (A.Value e) g h so =
          good_then _ H (IsOne want) (Given_so sorts) _ _ (one_good place want (out-Expr e) h) (λ o c.
          good_give _ H (Given_so sorts) (with_access g o (o + 1) want)
          (access_more (S.One want) sorts g o (o + 1) want (λ ints accesses r. (refl, refl, r)) c so))
      argument_good (S.One want) sorts place (A.Span name p x y) g h so = absurd
          (never_object place p (kind_of s name) _ (left_none (wants_other place (kind_of s name) p ++ breaches_in x s) (breaches_in y s) h))
      argument_good (S.Many want) sorts place (A.Value e) g h so =
          good_then _ H (IsMany want) (Given_so sorts) _ _ (many_good place want (out-Expr e) h) (λ r c.
          good_give _ H (Given_so sorts) (with_access g r.lo r.hi want)
          (access_more (S.Many want) sorts g r.lo r.hi want (λ ints accesses q. (refl, c.0, q)) c.1 so))
      argument_good (S.Many want) sorts place (A.Span name p x y) g h so =
          good_then _ H (IsMany want) (Given_so sorts) _ _ (span_good want name p place x y h) (λ r c.
          good_give _ H (Given_so sorts) (with_access g r.lo r.hi want)
          (access_more (S.Many want) sorts g r.lo r.hi want (λ ints accesses q. (refl, c.0, q)) c.1 so))

      arguments_good : (sorts : List Sort) (args : List Arg) (g : Given) → length args ≡ length sorts → argument_rules sorts s args ≡ []
          → Given_so sorts g → GoodAt (Given_so []) (arguments lost sorts args v g)
      arguments_good [] [] g e h so = good_give _ H (Given_so []) g so
      arguments_good [] (x ∷ args) g e h so = absurd (omega (arith, e))
      arguments_good (sort ∷ sorts) [] g e h so = absurd (omega (arith, e))
      arguments_good (sort ∷ sorts) (x ∷ args) g e h so =
          good_then _ H (Given_so sorts) (Given_so []) _ _ (argument_good sort sorts x.place x.what g (left_none _ _ h) so) (λ g' so'.
          arguments_good sorts args g' (omega (arith, e)) (right_none _ _ h) so')

    -- a length that is allowed, and 0 where none is written
    abbrev pub IsLength : Option Expr → ℕ → Type 0
    IsLength len n = (n ≤ LENGTH) × (is_some len ≡ false → n ≡ 0)

    length_good : (len : Option Expr) → length_rule s len ≡ [] → GoodAt (IsLength len) (length_step lost len v)
    length_good None h = good_give _ H (IsLength None) 0 (omega arith, λ e. refl)
    length_good (Some e) h =
        good_then _ H (λ (n : ℕ). Unit {0}) (IsLength (Some e)) _ _ (number_good e h) (λ n _.
        good_then _ H (λ _. nat_le n LENGTH ≡ true) (IsLength (Some e)) _ _ (good_test _ H _ F7 line) (λ _ lt.
        let le : n ≤ LENGTH = grind (arith, nat_tests) in
        good_give _ H (IsLength (Some e)) n (le, λ f. cc)))

    none_formed : (loop : Bool) (len : Option Expr) → is_formed loop len ≡ true → loop ≡ false → is_some len ≡ false
    none_formed true len h e = cc
    none_formed false None h e = refl
    none_formed false (Some x) h e = cc

    module _ (objects : ℕ) (room : EachOf (Inside objects) rights)
        (hands : own ≡ None → (name : List ℕ) (t : Target) → target_of site.tasks name ≡ Some t → (call : CallTree)
        → FitsTarget objects call t → call.depth ≡ suc site.depth → EachOf (λ b. SomeOf (Covers b) rights) call.accesses → H (Whole call)) where
      target_good : (name : List ℕ) (t : Target) (place : Place) (len : Option Expr) (args : List Arg) → own ≡ None
          → target_of site.tasks name ≡ Some t → fork_rule (Some t) place s len args ≡ []
          → GoodAt (λ _. Unit {0}) (fork_step lost t len args v)
      target_good name t place len args none is h =
          let is_counted = nat_eq (length args) (length t.sorts) in
          let is_form = is_formed t.is_loop len in
          let names = denied place P7 (not is_counted) in
          let forms = denied place P8 (not is_form) in
          let lengths = length_rule s len in
          let others = if is_counted && is_form then argument_rules t.sorts s args else unknown_in_all s args in
          let first : names ++ forms ++ lengths ≡ [] = left_none (names ++ forms ++ lengths) others h in
          let counted : not is_counted ≡ false = not_denied place P7 (not is_counted) (left_none names forms (left_none (names ++ forms) lengths first)) in
          let formed : not is_form ≡ false = not_denied place P8 (not is_form) (right_none names forms (left_none (names ++ forms) lengths first)) in
          let long_rule : lengths ≡ [] = right_none (names ++ forms) lengths first in
          let counts : is_counted ≡ true = not_false is_counted counted in
          let same : length args ≡ length t.sorts = grind (arith, nat_tests) in
          let rules = both_true is_counted is_form (argument_rules t.sorts s args) (unknown_in_all s args) counted formed
          (right_none (names ++ forms ++ lengths) others h) in
          good_then _ H (IsLength len) (λ _. Unit {0}) _ _ (length_good len long_rule) (λ n long.
          good_then _ H (Given_so objects room t.sorts []) (λ _. Unit {0}) _ _
          (arguments_good objects room t.sorts t.sorts args nothing_given same rules
          (record { fits = λ ints accesses r. r; covered = tt; inside = tt })) (λ g so.
          good_then _ H (λ _. not (clashes g.accesses) ≡ true) (λ _. Unit {0}) _ _ (good_test _ H _ F4 line) (λ _ apart.
          good_then _ H (λ _. nat_le (site.depth + 1) DEPTH ≡ true) (λ _. Unit {0}) _ _ (good_test _ H _ F5 line) (λ _ deep.
          let depth : site.depth + 1 ≤ DEPTH = grind (arith, nat_tests) in
          good_fork _ H (Whole (child t v n g)) (hands none name t is (child t v n g) (record {
            number = refl;
            given = subst (λ (xs : List ℕ). AreGiven t.sorts xs g.accesses) (append-nil g.ints)
                (subst (λ (xs : List Access). AreGiven t.sorts (g.ints ++ []) xs) (append-nil g.accesses) (so.fits [] [] (refl, refl)));
            inside = so.inside;
            apart = not_true _ apart;
            long = long.0;
            formed = λ e. long.1 (none_formed t.is_loop len (not_false is_form formed) e);
            below_main = omega arith;
            deep = depth;
          }) (omega arith) so.covered)))))

      pub fork_good : (name : List ℕ) (x : Option Target) (place : Place) (len : Option Expr) (args : List Arg) → own ≡ None
          → target_of site.tasks name ≡ x → fork_rule x place s len args ≡ [] → GoodAt (λ _. Unit {0}) (fork_named lost x len args v)
      fork_good name None place len args none is h = cc
      fork_good name (Some t) place len args none is h = target_good name t place len args none is h
