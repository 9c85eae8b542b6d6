-- An accepted program has no object that is wider than a tile.
use Rattle.std.proofs.Common.{◌≡◌, ◌≤◌, ℕ, ◌+◌, ◌-◌, ◌*◌, Bool, true, false, ◌||◌, List, [], ◌∷◌, ◌++◌, refl, arith, nat_eq, nat_lt, if◌then◌else◌}
use Rattle.std.proofs.lemmas.Bool.Decides.{nat_tests}
use Rattle.kt_law.specs.declared.limits.TheConstants.{ELEMENTS, OBJECTS, WIDTH}
use Rattle.kt_law.specs.declared.places.P.TheVariants.{P12}
use Rattle.kt_prog.specs.Accepted.{IsAccepted, broken, mains_rules, task_rules}
use Rattle.kt_prog.specs.Declarations.{count_rules, declared_in, family_rules, main_rules, names_twice, too_large}
use Rattle.kt_prog.specs.Objects.{width_of}
use Rattle.kt_prog.specs.Rules.{Breaches, broken_at}
use Rattle.kt_prog.specs.declared.programs.Family.{Family}
use Rattle.kt_prog.specs.declared.programs.Program.{Program}
use Rattle.kt_prog.proofs.Lists.{left_none, neither, right_none}

not_large : (b : Bool) (f : Family) (x y : Breaches) → (if b then broken_at f.place P12 ++ x else y) ≡ [] → (b ≡ false) × (y ≡ [])
not_large true f x y h = cc
not_large false f x y h = (refl, h)

one_narrow : (objects elements : ℕ) (f : Family) → too_large objects elements f ≡ false → f.elements ≤ WIDTH
one_narrow objects elements f h =
    let a = nat_eq f.members 0 in
    let b = nat_eq f.elements 0 in
    let c = nat_lt WIDTH f.elements in
    let d = nat_lt OBJECTS (objects + f.members) in
    let e = nat_lt ELEMENTS (elements + f.members * f.elements) in
    let narrow : nat_lt WIDTH f.elements ≡ false = (neither (a || b) c (neither (a || b || c) d (neither (a || b || c || d) e h).0).0).1 in
    grind (arith, nat_tests)

either_narrow : (b : Bool) (x y : ℕ) → x ≤ WIDTH → y ≤ WIDTH → (if b then x else y) ≤ WIDTH
either_narrow true x y h k = h
either_narrow false x y h k = k

families_narrow : (families : List Family) (objects elements object : ℕ) → family_rules objects elements families ≡ [] → width_of families object ≤ WIDTH
families_narrow [] objects elements object h = omega arith
families_narrow (f ∷ families) objects elements object h =
    let s = not_large (too_large objects elements f) f (family_rules objects elements families)
    (family_rules (objects + f.members) (elements + f.members * f.elements) families) h in
    either_narrow (nat_lt object f.members) f.elements (width_of families (object - f.members)) (one_narrow objects elements f s.0)
    (families_narrow families (objects + f.members) (elements + f.members * f.elements) (object - f.members) s.1)

pub narrow : (p : Program) → IsAccepted p → (object : ℕ) → width_of p.families object ≤ WIDTH
unfolding broken
narrow p h object =
    let twice = names_twice (declared_in p) (declared_in p) in
    let main = main_rules p.end p.mains in
    let families = family_rules 0 0 p.families in
    let counts = count_rules 0 p.tasks in
    let tasks = task_rules p p.tasks in
    let mains = mains_rules p p.mains in
    let e5 : twice ++ main ++ families ++ counts ++ tasks ≡ [] = left_none (twice ++ main ++ families ++ counts ++ tasks) mains h in
    let e4 : twice ++ main ++ families ++ counts ≡ [] = left_none (twice ++ main ++ families ++ counts) tasks e5 in
    let e3 : twice ++ main ++ families ≡ [] = left_none (twice ++ main ++ families) counts e4 in
    families_narrow p.families 0 0 object (right_none (twice ++ main) families e3)
