-- The parameters of an accepted program have room in a call.
use Rattle.std.proofs.Common.{◌≡◌, ◌≤◌, ℕ, suc, ◌+◌, Bool, true, false, List, [], ◌∷◌, ◌++◌, length, map, Option, Some, None, codes, is_some, arith, nat_eq, if◌then◌else◌}
use Rattle.std.proofs.lemmas.Bool.Decides.{nat_tests}
use Rattle.std.specs.Str.{bytes_eq}
use Rattle.kt_law.specs.declared.limits.TheConstants.{ACCESSES, DEFINITIONS, INTS}
use Rattle.kt_law.specs.declared.places.P.TheVariants.{P5, P11, P12}
use Rattle.kt_prog.specs.Accepted.{IsAccepted, body_rules, task_rules, task_scope}
use Rattle.kt_prog.specs.Declarations.{Counts, counted, no_params, param_rules, sort_rule}
use Rattle.kt_prog.specs.Forks.{nothing_given}
use Rattle.kt_prog.specs.Locals.{or_else}
use Rattle.kt_prog.specs.Rules.{denied}
use Rattle.kt_prog.specs.Scope.{known_index, known_of, known_param}
use Rattle.kt_prog.specs.Targets.{Target, is_loop_of, kernel_named, target, target_of, task_named}
use Rattle.kt_prog.specs.Targets as T
use Rattle.kt_prog.specs.declared.sight.Known.{Known}
use Rattle.kt_prog.specs.declared.programs.Param.{Param}
use Rattle.kt_prog.specs.declared.programs.Program.{Program}
use Rattle.kt_prog.specs.declared.programs.Sort.{Sort}
use Rattle.kt_prog.specs.declared.programs.Sort.TheVariants as S
use Rattle.kt_prog.specs.declared.programs.Task.{Task}
use Rattle.kt_prog.proofs.Lists.{left_none, right_none, not_denied}
use Rattle.kt_prog.proofs.Plain.{parts}
use Rattle.kt_body.specs.Forking.{HasRoom, ints_in, objects_in, sort_of}

abbrev Fewer : Counts → List Sort → Type 0
Fewer c sorts = (c.ints + ints_in sorts ≤ INTS) × (c.objects + objects_in sorts ≤ ACCESSES)

sort_few : (in_loop : Bool) (c : Counts) (p : Param) (sort : Sort) (rest : List Sort) → sort_rule in_loop c p sort ≡ [] → c.ints ≤ INTS → c.objects ≤ ACCESSES
    → ((counted c sort).ints ≤ INTS → (counted c sort).objects ≤ ACCESSES → Fewer (counted c sort) rest) → Fewer c (sort ∷ rest)
sort_few in_loop c p S.Int rest h i o more =
    let few : nat_eq c.ints INTS ≡ false = not_denied p.name_place P12 (nat_eq c.ints INTS) h in
    let less : suc c.ints ≤ INTS = grind (arith, nat_tests) in
    let m = more less o in
    (omega (arith, m.0), omega (arith, m.1))
sort_few in_loop c p (S.One mode) rest h i o more =
    let few : nat_eq c.objects ACCESSES ≡ false = not_denied p.name_place P12 (nat_eq c.objects ACCESSES)
    (right_none (denied p.place P11 _) (denied p.name_place P12 (nat_eq c.objects ACCESSES)) h) in
    let less : suc c.objects ≤ ACCESSES = grind (arith, nat_tests) in
    let m = more i less in
    (omega (arith, m.0), omega (arith, m.1))
sort_few in_loop c p (S.Many mode) rest h i o more =
    let few : nat_eq c.objects ACCESSES ≡ false = not_denied p.name_place P12 (nat_eq c.objects ACCESSES)
    (right_none (denied p.place P11 _) (denied p.name_place P12 (nat_eq c.objects ACCESSES)) h) in
    let less : suc c.objects ≤ ACCESSES = grind (arith, nat_tests) in
    let m = more i less in
    (omega (arith, m.0), omega (arith, m.1))

params_few : (in_loop : Bool) (before : List Known) (c : Counts) (params : List Param) → param_rules in_loop before c params ≡ []
    → c.ints ≤ INTS → c.objects ≤ ACCESSES → Fewer c (map sort_of params)
params_few in_loop before c [] h i o = (omega arith, omega arith)
params_few in_loop before c (p ∷ params) h i o =
    let sorts = sort_rule in_loop c p p.sort in
    let twice = denied p.name_place P5 (is_some (known_of before p.name)) in
    let more = param_rules in_loop (before ++ known_param p ∷ []) (counted c p.sort) params in
    sort_few in_loop c p p.sort (map sort_of params) (left_none sorts twice (left_none (sorts ++ twice) more h)) i o
    (λ i' o'. params_few in_loop (before ++ known_param p ∷ []) (counted c p.sort) params (right_none (sorts ++ twice) more h) i' o')

abbrev Roomy : Target → Type 0
Roomy t = HasRoom nothing_given t.sorts

task_roomy : (number : ℕ) (t : Task) → param_rules (is_loop_of t.index) (known_index t.index) no_params t.params ≡ [] → Roomy (target number t)
task_roomy number t h =
    let few = params_few (is_loop_of t.index) (known_index t.index) no_params t.params h (omega arith) (omega arith) in
    record { ints = omega (arith, few.0); accesses = omega (arith, few.1) }

found_roomy : (b : Bool) (t u : Target) (x : Option Target) → Roomy t → (x ≡ Some u → Roomy u) → (if b then Some t else x) ≡ Some u → Roomy u
found_roomy true t u x h more e = let same : t ≡ u = cc in rw (← same) h
found_roomy false t u x h more e = more e

tasks_roomy : (p : Program) (number : ℕ) (tasks : List Task) (name : List ℕ) (u : Target) → task_rules p tasks ≡ [] → task_named number tasks name ≡ Some u → Roomy u
tasks_roomy p number [] name u h e = cc
tasks_roomy p number (t ∷ tasks) name u h e =
    let params = param_rules (is_loop_of t.index) (known_index t.index) no_params t.params in
    let body = body_rules (task_scope p t) t.body in
    found_roomy (bytes_eq t.name name) (target number t) u (task_named (suc number) tasks name)
    (task_roomy number t (left_none params body (left_none (params ++ body) (task_rules p tasks) h)))
    (tasks_roomy p (suc number) tasks name u (right_none (params ++ body) (task_rules p tasks) h)) e

kernels_roomy : (name : List ℕ) (u : Target) → kernel_named name ≡ Some u → Roomy u
kernels_roomy name u e =
    found_roomy (bytes_eq (codes "k_mul") name) T.mul u _ (record { ints = omega arith; accesses = omega arith })
    (found_roomy (bytes_eq (codes "k_minplus") name) T.minplus u _ (record { ints = omega arith; accesses = omega arith })
    (found_roomy (bytes_eq (codes "k_stencil") name) T.stencil u _ (record { ints = omega arith; accesses = omega arith })
    (found_roomy (bytes_eq (codes "k_scan") name) T.scan u None (record { ints = omega arith; accesses = omega arith }) (λ none. cc)))) e

either_roomy : (x y : Option Target) (u : Target) → (x ≡ Some u → Roomy u) → (y ≡ Some u → Roomy u) → or_else x y ≡ Some u → Roomy u
either_roomy None y u f g e = g e
either_roomy (Some x) y u f g e = f e

pub target_roomy : (p : Program) (name : List ℕ) (u : Target) → IsAccepted p → target_of p.tasks name ≡ Some u → HasRoom nothing_given u.sorts
target_roomy p name u ok e =
    either_roomy (kernel_named name) (task_named 1 p.tasks name) u (kernels_roomy name u) (tasks_roomy p 1 p.tasks name u (parts p ok).tasks) e

pub few_tasks_of : (p : Program) → IsAccepted p → length p.tasks ≤ DEFINITIONS
few_tasks_of p ok = (parts p ok).few
