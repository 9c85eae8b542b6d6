-- The parameters stand for what a call gives them.
use Rattle.std.proofs.Common.{◌≡◌, ◌≤◌, ℕ, suc, ◌+◌, Bool, true, false, List, [], ◌∷◌, ◌++◌, length, map, Option, inl, inr, refl, sym, subst, arith, is_some, nat_eq}
use Rattle.std.proofs.lemmas.Bool.Decides.{nat_tests}
use Rattle.kt_law.specs.declared.limits.TheConstants.{ACCESSES, INTS}
use Rattle.kt_law.specs.Modes.{is_postponed}
use Rattle.kt_law.specs.declared.places.P.TheVariants.{P5, P11, P12}
use Rattle.kt_law.specs.declared.accesses.Access.{Access}
use Rattle.kt_law.specs.declared.modes.Mode.{Mode}
use Rattle.kt_prog.specs.Locals.{Site, given_one, given}
use Rattle.kt_prog.specs.Scope.{kind_sort, known_param, known_of}
use Rattle.kt_prog.specs.declared.sight.Known.{Known}
use Rattle.kt_prog.specs.Rules.{denied}
use Rattle.kt_prog.specs.Declarations.{Counts, sort_rule, counted, param_rules}
use Rattle.kt_rights.specs.Rights.{SomeOf, EachOf}
use Rattle.kt_prog.specs.Laws.{IsDirect}
use Rattle.kt_prog.specs.Fits.{GivenOne, AreGiven}
use Rattle.kt_prog.specs.declared.scope.Local.{Local}
use Rattle.kt_prog.specs.declared.programs.Param.{Param}
use Rattle.kt_prog.specs.declared.programs.Sort.{Sort}
use Rattle.kt_prog.specs.declared.programs.Sort.TheVariants as S
use Rattle.kt_prog.proofs.Lists.{left_none, right_none, not_denied}
use Rattle.kt_prog.proofs.Matches.{Matches}

module _ (site : Site) (rights : List Access) (own : Option ℕ) where
  -- what one of the accesses has, one of the rights has
  abbrev pub Among : List Access → Type 1
  Among accesses = (P : Access → Type 0) → SomeOf P accesses → SomeOf P rights

  one_given : (name : List ℕ) (sort : Sort) (ints : List ℕ) (accesses : List Access) (Rest : List ℕ → List Access → Type 0)
      (names : List Known) (more : List ℕ → List Access → List Local)
      → Among accesses
      → ((ints' : List ℕ) (accesses' : List Access) → Among accesses' → Rest ints' accesses' → Matches site rights own names (more ints' accesses'))
      → GivenOne sort ints accesses Rest
      → Matches site rights own (record { name = name; kind = kind_sort sort } ∷ names) (given_one name sort ints accesses more)
  one_given name S.Int [] accesses Rest names more among each h = absurd h
  one_given name S.Int (n ∷ ints) accesses Rest names more among each h = (refl, tt, each ints accesses among h)
  one_given name (S.One mode) ints [] Rest names more among each h = absurd h
  one_given name (S.One mode) ints (a ∷ accesses) Rest names more among each h =
      let one : a.hi ≡ a.lo + 1 = h.1 in
      (refl, among _ (inl (omega arith, omega arith, h.0)), each ints accesses (λ P s. among P (inr s)) h.2)
  one_given name (S.Many mode) ints [] Rest names more among each h = absurd h
  one_given name (S.Many mode) ints (a ∷ accesses) Rest names more among each h =
      (refl, (h.1, among _ (inl (omega arith, omega arith, h.0))), each ints accesses (λ P s. among P (inr s)) h.2)

  pub params_given : (params : List Param) (ints : List ℕ) (accesses : List Access) → Among accesses
      → AreGiven (map (λ (p : Param). p.sort) params) ints accesses
      → Matches site rights own (map known_param params) (given params ints accesses)
  params_given [] ints accesses among h = tt
  params_given (p ∷ params) ints accesses among h =
      one_given p.name p.sort ints accesses (AreGiven (map (λ (q : Param). q.sort) params)) (map known_param params) (given params) among
      (λ ints' accesses' among' r. params_given params ints' accesses' among' r) h

-- at most 8 ints and 8 objects
sort_room : (in_loop : Bool) (c : Counts) (p : Param) (sort : Sort) → sort_rule in_loop c p sort ≡ [] → c.ints ≤ INTS → c.objects ≤ ACCESSES
    → ((counted c sort).ints ≤ INTS) × ((counted c sort).objects ≤ ACCESSES) × ((counted c sort).ints + (counted c sort).objects ≡ suc (c.ints + c.objects))
sort_room in_loop c p S.Int h i o =
    let few : nat_eq c.ints INTS ≡ false = not_denied p.name_place P12 (nat_eq c.ints INTS) h in
    let less : suc c.ints ≤ INTS = grind (arith, nat_tests) in
    (less, o, omega arith)
sort_room in_loop c p (S.One mode) h i o =
    let few : nat_eq c.objects ACCESSES ≡ false = not_denied p.name_place P12 (nat_eq c.objects ACCESSES)
    (right_none (denied p.place P11 _) (denied p.name_place P12 (nat_eq c.objects ACCESSES)) h) in
    let less : suc c.objects ≤ ACCESSES = grind (arith, nat_tests) in
    (i, less, omega arith)
sort_room in_loop c p (S.Many mode) h i o =
    let few : nat_eq c.objects ACCESSES ≡ false = not_denied p.name_place P12 (nat_eq c.objects ACCESSES)
    (right_none (denied p.place P11 _) (denied p.name_place P12 (nat_eq c.objects ACCESSES)) h) in
    let less : suc c.objects ≤ ACCESSES = grind (arith, nat_tests) in
    (i, less, omega arith)

pub params_room : (in_loop : Bool) (before : List Known) (c : Counts) (params : List Param) → param_rules in_loop before c params ≡ []
    → c.ints ≤ INTS → c.objects ≤ ACCESSES → c.ints + c.objects + length params ≤ INTS + ACCESSES
params_room in_loop before c [] h i o = omega arith
params_room in_loop before c (p ∷ params) h i o =
    let sorts = sort_rule in_loop c p p.sort in
    let twice = denied p.name_place P5 (is_some (known_of before p.name)) in
    let more = param_rules in_loop (before ++ known_param p ∷ []) (counted c p.sort) params in
    let room = sort_room in_loop c p p.sort (left_none sorts twice (left_none (sorts ++ twice) more h)) i o in
    let rest = params_room in_loop (before ++ known_param p ∷ []) (counted c p.sort) params (right_none (sorts ++ twice) more h) room.0 room.1 in
    let sums : (counted c p.sort).ints + (counted c p.sort).objects ≡ suc (c.ints + c.objects) = room.2 in
    omega (arith, rest, sums)

direct_one : (c : Counts) (p : Param) (sort : Sort) (ints : List ℕ) (accesses : List Access) (Rest : List ℕ → List Access → Type 0)
    → sort_rule true c p sort ≡ []
    → ((ints' : List ℕ) (accesses' : List Access) → Rest ints' accesses' → EachOf IsDirect accesses') → GivenOne sort ints accesses Rest
    → EachOf IsDirect accesses
direct_one c p S.Int [] accesses Rest h each g = absurd g
direct_one c p S.Int (n ∷ ints) accesses Rest h each g = each ints accesses g
direct_one c p (S.One mode) ints [] Rest h each g = absurd g
direct_one c p (S.One mode) ints (a ∷ accesses) Rest h each g =
    let direct : is_postponed mode ≡ false = not_denied p.place P11 (is_postponed mode)
    (left_none (denied p.place P11 (is_postponed mode)) (denied p.name_place P12 (nat_eq c.objects ACCESSES)) h) in
    (subst (λ (m : Mode). is_postponed m ≡ false) (sym g.0) direct, each ints accesses g.2)
direct_one c p (S.Many mode) ints [] Rest h each g = absurd g
direct_one c p (S.Many mode) ints (a ∷ accesses) Rest h each g =
    let direct : is_postponed mode ≡ false = not_denied p.place P11 (is_postponed mode)
    (left_none (denied p.place P11 (is_postponed mode)) (denied p.name_place P12 (nat_eq c.objects ACCESSES)) h) in
    (subst (λ (m : Mode). is_postponed m ≡ false) (sym g.0) direct, each ints accesses g.2)

pub params_direct : (params : List Param) (before : List Known) (c : Counts) (ints : List ℕ) (accesses : List Access)
    → param_rules true before c params ≡ [] → AreGiven (map (λ (q : Param). q.sort) params) ints accesses → EachOf IsDirect accesses
params_direct [] before c ints accesses h g = subst (EachOf IsDirect) (sym g.1) tt
params_direct (p ∷ params) before c ints accesses h g =
    let sorts = sort_rule true c p p.sort in
    let twice = denied p.name_place P5 (is_some (known_of before p.name)) in
    let more = param_rules true (before ++ known_param p ∷ []) (counted c p.sort) params in
    direct_one c p p.sort ints accesses (AreGiven (map (λ (q : Param). q.sort) params)) (left_none sorts twice (left_none (sorts ++ twice) more h))
    (λ ints' accesses' r. params_direct params (before ++ known_param p ∷ []) (counted c p.sort) ints' accesses' (right_none (sorts ++ twice) more h) r) g
