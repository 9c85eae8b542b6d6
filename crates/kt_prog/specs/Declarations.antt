-- The rules of declarations.
use Rattle.std.specs.Prelude.{ℕ, suc, ◌+◌, ◌*◌, List, [], ◌∷◌, ◌++◌, map, Bool, false, ◌&&◌, ◌||◌, nat_eq, nat_lt, is_some, if◌then◌else◌}
use Rattle.std.specs.Str.{bytes_eq}
use Rattle.kt_law.specs.Modes.{is_postponed}
use Rattle.kt_law.specs.declared.limits.TheConstants.{ACCESSES, DEFINITIONS, ELEMENTS, INTS, OBJECTS, WIDTH}
use Rattle.kt_law.specs.declared.places.P.TheVariants.{P5, P11, P12, P13}
use Rattle.kt_law.specs.declared.places.Place.{Place}
use Rattle.kt_prog.specs.Targets.{kernel_named}
use Rattle.kt_prog.specs.Scope.{known_of, known_param}
use Rattle.kt_prog.specs.Rules.{Breaches, broken_at, denied}
use Rattle.kt_prog.specs.declared.sight.Known.{Known}
use Rattle.kt_prog.specs.declared.programs.Program.{Program}
use Rattle.kt_prog.specs.declared.programs.Family.{Family}
use Rattle.kt_prog.specs.declared.programs.Task.{Task}
use Rattle.kt_prog.specs.declared.programs.Main.{Main}
use Rattle.kt_prog.specs.declared.programs.Param.{Param}
use Rattle.kt_prog.specs.declared.programs.Sort.{Sort}
use Rattle.kt_prog.specs.declared.programs.Sort.TheVariants as S

-- the first place comes before the second in the text
abbrev pub place_before : Place → Place → Bool
place_before a b = nat_lt a.line b.line || nat_eq a.line b.line && nat_lt a.column b.column

-- the name of an object, a task or a loop, and its place
pub record Declared : Type 0 where
  pub name : List ℕ
  pub place : Place

abbrev pub declared_in : Program → List Declared
declared_in p =
    map (λ (f : Family). record { name = f.name; place = f.place }) p.families
    ++ map (λ (t : Task). record { name = t.name; place = t.place }) p.tasks

abbrev pub is_earlier : List Declared → Declared → Bool
is_earlier [] d = false
is_earlier (e ∷ all) d = bytes_eq e.name d.name && place_before e.place d.place || is_earlier all d

-- P5: an object, task or loop has the name of an earlier declaration or of a kernel
abbrev pub names_twice : List Declared → List Declared → Breaches
names_twice all [] = []
names_twice all (d ∷ ds) = denied d.place P5 (is_some (kernel_named d.name) || is_earlier all d) ++ names_twice all ds

-- P5: a second `main`
abbrev pub other_mains : List Main → Breaches
other_mains [] = []
other_mains (m ∷ mains) = broken_at m.place P5 ++ other_mains mains

-- P13: there is no `main`
abbrev pub main_rules : Place → List Main → Breaches
main_rules end [] = broken_at end P13
main_rules end (m ∷ mains) = other_mains mains

-- P12: m is 0, or n is 0 or above 4,096, or with this family there are more than 4,096 objects or more than 1,048,576 elements
abbrev pub too_large : ℕ → ℕ → Family → Bool
too_large objects elements f =
    nat_eq f.members 0 || nat_eq f.elements 0 || nat_lt WIDTH f.elements || nat_lt OBJECTS (objects + f.members)
    || nat_lt ELEMENTS (elements + f.members * f.elements)

-- a family that breaks this isn't counted for later families
abbrev pub family_rules : ℕ → ℕ → List Family → Breaches
family_rules objects elements [] = []
family_rules objects elements (f ∷ families) =
    if too_large objects elements f then broken_at f.place P12 ++ family_rules objects elements families
    else family_rules (objects + f.members) (elements + f.members * f.elements) families

-- P12: the 1,025th task or loop
abbrev pub count_rules : ℕ → List Task → Breaches
count_rules before [] = []
count_rules before (t ∷ tasks) = denied t.place P12 (nat_eq before DEFINITIONS) ++ count_rules (suc before) tasks

-- so many int and object parameters stand before a parameter
pub record Counts : Type 0 where
  pub ints : ℕ
  pub objects : ℕ

abbrev pub no_params : Counts
no_params = record { ints = 0; objects = 0 }

-- P11: a loop's parameter that is postponed. P12: the 9th int or the 9th object parameter of one list
abbrev pub sort_rule : Bool → Counts → Param → Sort → Breaches
sort_rule in_loop c p S.Int = denied p.name_place P12 (nat_eq c.ints INTS)
sort_rule in_loop c p (S.One mode) = denied p.place P11 (in_loop && is_postponed mode) ++ denied p.name_place P12 (nat_eq c.objects ACCESSES)
sort_rule in_loop c p (S.Many mode) = denied p.place P11 (in_loop && is_postponed mode) ++ denied p.name_place P12 (nat_eq c.objects ACCESSES)

abbrev pub counted : Counts → Sort → Counts
counted c S.Int = record { ints = suc c.ints; objects = c.objects }
counted c _ = record { ints = c.ints; objects = suc c.objects }

-- P5: a parameter has the name of an earlier parameter or of the loop's index
abbrev pub param_rules : Bool → List Known → Counts → List Param → Breaches
param_rules in_loop before c [] = []
param_rules in_loop before c (p ∷ params) =
    sort_rule in_loop c p p.sort ++ denied p.name_place P5 (is_some (known_of before p.name))
    ++ param_rules in_loop (before ++ known_param p ∷ []) (counted c p.sort) params
