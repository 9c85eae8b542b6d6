-- Lists of rules noted item after item.
use Rattle.std.proofs.Common.{◌≡◌, ℕ, suc, ◌+◌, ◌<◌, ◌≤◌, List, [], ◌∷◌, ◌++◌, Bool, true, false, ◌&&◌, ◌||◌, length, map, drop, get_or, Option, Some, None, refl, ap, sym, ◌∙◌, arith, drop-cons, add-one}
use Rattle.std.proofs.lemmas.Grind.{common_steps}
use Rattle.kt_law.specs.declared.places.Place.{Place}
use Rattle.kt_law.specs.declared.places.P.TheVariants.{P5, P6}
use Rattle.kt_law.specs.declared.places.Refusal.{Refusal}
use Rattle.std.specs.Prelude.{is_some}
use Rattle.std.specs.Str.{bytes_eq}
use Rattle.kt_prog.specs.Targets.{Target, kernel, kernel_named, kernel_target, target_of}
use Rattle.kt_prog.specs.Locals.{or_else}
use Rattle.kt_prog.specs.Scope.{Scope, known_index}
use Rattle.kt_prog.specs.Rules.{Breaches, broken_at, denied}
use Rattle.kt_prog.specs.Targets.{is_loop_of, target, task_named}
use Rattle.kt_prog.specs.ForkRules.{argument_rule, argument_rules, fork_rule, length_rule, unknown_in_all, unknown_in_argument}
use Rattle.kt_prog.specs.Declarations.{declared_in, Declared, is_earlier, names_twice, no_params, other_mains, param_rules, place_before}
use Rattle.kt_prog.specs.Accepted.{body_rules, main_scope, mains_rules, task_rules, task_scope}
use Rattle.kt_prog.specs.Refusals.{noted}
use Rattle.kt_check.specs.Sights.{declared_family, declared_task, sort_of}
use Rattle.kt_prog.specs.declared.kernel.Kernel.{Kernel}
use Rattle.kt_prog.specs.declared.kernel.Kernel.TheVariants as K
use Rattle.kt_prog.specs.declared.programs.Arg.{Arg}
use Rattle.kt_prog.specs.declared.programs.Expr.{Expr}
use Rattle.kt_prog.specs.declared.programs.Family.{Family}
use Rattle.kt_prog.specs.declared.programs.Main.{Main}
use Rattle.kt_prog.specs.declared.programs.Param.{Param}
use Rattle.kt_prog.specs.declared.programs.Program.{Program}
use Rattle.kt_prog.specs.declared.programs.Sort.{Sort}
use Rattle.kt_prog.specs.declared.programs.Task.{Task}
use Rattle.kt_prog.proofs.Lists.{append_more}
use Rattle.kt_check.proofs.Noted.{noted_append}

-- a list from its i-th item on
split : {A : Type 0} (xs : List A) (i : ℕ) (x : A) → i < length xs → x ≡ get_or xs i x → drop i xs ≡ x ∷ drop (i + 1) xs
split xs i x h is = rw (add-one, drop-cons xs i x, ← is) refl

-- and one that is noted item after item
module _ {A : Type 0} (rule : List A → Breaches) (step : A → Breaches) (more : (x : A) (xs : List A) → rule (x ∷ xs) ≡ step x ++ rule xs) where
  pub next_noted : (xs : List A) (i : ℕ) (x : A) → i < length xs → x ≡ get_or xs i x → (b : Option Refusal) → noted b (rule (drop i xs)) ≡ noted (noted b (step x)) (rule (drop (i + 1) xs))
  next_noted xs i x h is b = ap (λ l. noted b (rule l)) (split xs i x h is) ∙ ap (noted b) (more x (drop (i + 1) xs)) ∙ noted_append (step x) (rule (drop (i + 1) xs)) b

pub tasks_next : (p : Program) (xs : List Task) (i : ℕ) (t : Task) → i < length xs → t ≡ get_or xs i t → (b : Option Refusal)
    → noted b (task_rules p (drop i xs)) ≡ noted (noted (noted b (param_rules (is_loop_of t.index) (known_index t.index) no_params t.params)) (body_rules (task_scope p t) t.body)) (task_rules p (drop (i + 1) xs))
tasks_next p xs i t h is b =
    next_noted (task_rules p) (λ t. param_rules (is_loop_of t.index) (known_index t.index) no_params t.params ++ body_rules (task_scope p t) t.body) (λ x xs. refl) xs i t h is b
    ∙ ap (λ f. noted f (task_rules p (drop (i + 1) xs))) (noted_append (param_rules (is_loop_of t.index) (known_index t.index) no_params t.params) (body_rules (task_scope p t) t.body) b)

pub mains_next : (p : Program) (xs : List Main) (i : ℕ) (m : Main) → i < length xs → m ≡ get_or xs i m → (b : Option Refusal)
    → noted b (mains_rules p (drop i xs)) ≡ noted (noted b (body_rules (main_scope p) m.body)) (mains_rules p (drop (i + 1) xs))
mains_next p = next_noted (mains_rules p) (λ m. body_rules (main_scope p) m.body) (λ x xs. refl)

pub unknown_next : (s : Scope) (xs : List Arg) (i : ℕ) (a : Arg) → i < length xs → a ≡ get_or xs i a → (b : Option Refusal)
    → noted b (unknown_in_all s (drop i xs)) ≡ noted (noted b (unknown_in_argument s a.what)) (unknown_in_all s (drop (i + 1) xs))
unknown_next s = next_noted (unknown_in_all s) (λ a. unknown_in_argument s a.what) (λ x xs. refl)

pub others_next : (xs : List Main) (i : ℕ) (m : Main) → i < length xs → m ≡ get_or xs i m → (b : Option Refusal)
    → noted b (other_mains (drop i xs)) ≡ noted (noted b (broken_at m.place P5)) (other_mains (drop (i + 1) xs))
others_next = next_noted other_mains (λ m. broken_at m.place P5) (λ x xs. refl)

pub append_twice : (all xs ys : List Declared) → names_twice all (xs ++ ys) ≡ names_twice all xs ++ names_twice all ys
append_twice all [] ys = refl
append_twice all (d ∷ xs) ys =
    let first = denied d.place P5 (is_some (kernel_named d.name) || is_earlier all d) in
    ap (λ l. first ++ l) (append_twice all xs ys) ∙ append_more first (names_twice all xs) (names_twice all ys)

pub families_named : (all : List Declared) (xs : List Family) (i : ℕ) (f : Family) → i < length xs → f ≡ get_or xs i f → (b : Option Refusal)
    → noted b (names_twice all (map declared_family (drop i xs))) ≡ noted (noted b (names_twice all (declared_family f ∷ []))) (names_twice all (map declared_family (drop (i + 1) xs)))
families_named all = next_noted (λ xs. names_twice all (map declared_family xs)) (λ f. names_twice all (declared_family f ∷ [])) (λ x xs. append_twice all (declared_family x ∷ []) (map declared_family xs))

pub tasks_named : (all : List Declared) (xs : List Task) (i : ℕ) (t : Task) → i < length xs → t ≡ get_or xs i t → (b : Option Refusal)
    → noted b (names_twice all (map declared_task (drop i xs))) ≡ noted (noted b (names_twice all (declared_task t ∷ []))) (names_twice all (map declared_task (drop (i + 1) xs)))
tasks_named all = next_noted (λ xs. names_twice all (map declared_task xs)) (λ t. names_twice all (declared_task t ∷ [])) (λ x xs. append_twice all (declared_task x ∷ []) (map declared_task xs))

either_more : (a b c : Bool) → (a || (b || c)) ≡ (a || b || c)
either_more true true true = refl
either_more true true false = refl
either_more true false true = refl
either_more true false false = refl
either_more false true true = refl
either_more false true false = refl
either_more false false true = refl
either_more false false false = refl

pub earlier_append : (xs ys : List Declared) (d : Declared) → is_earlier (xs ++ ys) d ≡ (is_earlier xs d || is_earlier ys d)
earlier_append [] ys d = refl
earlier_append (e ∷ xs) ys d = rw (earlier_append xs ys d) (either_more (bytes_eq e.name d.name && place_before e.place d.place) (is_earlier xs d) (is_earlier ys d))

pub declared_either : (p : Program) (d : Declared) → is_earlier (declared_in p) d ≡ (is_earlier (map declared_family p.families) d || is_earlier (map declared_task p.tasks) d)
declared_either p d = earlier_append (map declared_family p.families) (map declared_task p.tasks) d

pub given_next : (s : Scope) (params : List Param) (args : List Arg) (i : ℕ) (p : Param) (a : Arg) → i < length params → i < length args → p ≡ get_or params i p → a ≡ get_or args i a → (b : Option Refusal)
    → noted b (argument_rules (map sort_of (drop i params)) s (drop i args)) ≡ noted (noted b (argument_rule a.place p.sort s a.what)) (argument_rules (map sort_of (drop (i + 1) params)) s (drop (i + 1) args))
given_next s params args i p a hs ha is ia b =
    ap (λ l. noted b (argument_rules (map sort_of l) s (drop i args))) (split params i p hs is)
    ∙ ap (λ l. noted b (argument_rules (map sort_of (p ∷ drop (i + 1) params)) s l)) (split args i a ha ia)
    ∙ noted_append (argument_rule a.place p.sort s a.what) (argument_rules (map sort_of (drop (i + 1) params)) s (drop (i + 1) args)) b

module _ (place : Place) (s : Scope) (len : Option Expr) (args : List Arg) (name : List ℕ) where
  pub named_here : (xs : List Task) (i : ℕ) (t : Task) → i < length xs → t ≡ get_or xs i t → bytes_eq t.name name ≡ true
      → fork_rule (task_named (suc i) (drop i xs) name) place s len args ≡ fork_rule (Some (target 0 t)) place s len args
  named_here xs i t h is same = ap (λ l. fork_rule (task_named (suc i) l name) place s len args) (split xs i t h is) ∙ rw same refl

  pub named_nowhere : (xs : List Task) (i : ℕ) → length xs ≤ i → (b : Option Refusal)
      → noted b (fork_rule (task_named (suc i) (drop i xs) name) place s len args) ≡ noted (noted (noted b (broken_at place P6)) (length_rule s len)) (unknown_in_all s args)
  named_nowhere xs i h b =
      let e : drop i xs ≡ [] = grind (arith, common_steps) in
      ap (λ l. noted b (fork_rule (task_named (suc i) l name) place s len args)) e
      ∙ noted_append (broken_at place P6 ++ length_rule s len) (unknown_in_all s args) b
      ∙ ap (λ f. noted f (unknown_in_all s args)) (noted_append (broken_at place P6) (length_rule s len) b)

pub arguments_step : (s : Scope) (sorts : List Sort) (args : List Arg) (i : ℕ) (sort d : Sort) (a : Arg) (b new : Option Refusal) → i < length sorts → i < length args → sort ≡ get_or sorts i d → a ≡ get_or args i a
    → new ≡ noted b (argument_rule a.place sort s a.what)
    → noted b (argument_rules (drop i sorts) s (drop i args)) ≡ noted new (argument_rules (drop (i + 1) sorts) s (drop (i + 1) args))
arguments_step s sorts args i sort d a b new hs ha is ia note =
    let front : drop i sorts ≡ sort ∷ drop (i + 1) sorts = rw (add-one, drop-cons sorts i d, ← is) refl in
    ap (λ l. noted b (argument_rules l s (drop i args))) front
    ∙ ap (λ l. noted b (argument_rules (sort ∷ drop (i + 1) sorts) s l)) (split args i a ha ia)
    ∙ noted_append (argument_rule a.place sort s a.what) (argument_rules (drop (i + 1) sorts) s (drop (i + 1) args)) b
    ∙ ap (λ f. noted f (argument_rules (drop (i + 1) sorts) s (drop (i + 1) args))) (sym note)

pub sorts_length : (params : List Param) → length (map (λ (p : Param). p.sort) params) ≡ length params
sorts_length [] = refl
sorts_length (p ∷ params) = ap suc (sorts_length params)

pub task_step : (p : Program) (xs : List Task) (i : ℕ) (t : Task) (seen : Scope) (b mid new : Option Refusal) → i < length xs → t ≡ get_or xs i t → seen ≡ task_scope p t
    → mid ≡ noted b (param_rules (is_loop_of t.index) (known_index t.index) no_params t.params) → new ≡ noted mid (body_rules seen t.body)
    → noted b (task_rules p (drop i xs)) ≡ noted new (task_rules p (drop (i + 1) xs))
task_step p xs i t seen b mid new h is scope first second =
    tasks_next p xs i t h is b
    ∙ ap (λ m. noted (noted m (body_rules (task_scope p t) t.body)) (task_rules p (drop (i + 1) xs))) (sym first)
    ∙ ap (λ s. noted (noted mid (body_rules s t.body)) (task_rules p (drop (i + 1) xs))) (sym scope)
    ∙ ap (λ m. noted m (task_rules p (drop (i + 1) xs))) (sym second)

pub main_step : (p : Program) (xs : List Main) (i : ℕ) (m : Main) (seen : Scope) (b new : Option Refusal) → i < length xs → m ≡ get_or xs i m → seen ≡ main_scope p
    → new ≡ noted b (body_rules seen m.body) → noted b (mains_rules p (drop i xs)) ≡ noted new (mains_rules p (drop (i + 1) xs))
main_step p xs i m seen b new h is scope note =
    mains_next p xs i m h is b
    ∙ ap (λ s. noted (noted b (body_rules s m.body)) (mains_rules p (drop (i + 1) xs))) (sym scope)
    ∙ ap (λ f. noted f (mains_rules p (drop (i + 1) xs))) (sym note)

-- a kernel's rules are those of its parameters
kernel_rule : (k : Kernel) (place : Place) (s : Scope) (len : Option Expr) (args : List Arg)
    → fork_rule (Some (kernel_target k)) place s len args ≡ fork_rule (Some (kernel 0 (kernel_target k).sorts)) place s len args
kernel_rule K.Mul place s len args = refl
kernel_rule K.Minplus place s len args = refl
kernel_rule K.Stencil place s len args = refl
kernel_rule K.Scan place s len args = refl

module _ (tasks : List Task) (name : List ℕ) (place : Place) (s : Scope) (len : Option Expr) (args : List Arg) where
  pub kernel_forked : (k : Kernel) → Some (kernel_target k) ≡ kernel_named name
      → fork_rule (target_of tasks name) place s len args ≡ fork_rule (Some (kernel 0 (kernel_target k).sorts)) place s len args
  kernel_forked k e = rw (← e) (kernel_rule k place s len args)

  pub task_forked : None ≡ kernel_named name → fork_rule (target_of tasks name) place s len args ≡ fork_rule (task_named 1 tasks name) place s len args
  task_forked e = rw (← e) refl
