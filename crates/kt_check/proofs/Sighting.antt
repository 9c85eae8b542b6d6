-- Names in sight: where one list of them follows another.
use Rattle.std.proofs.Common.{Bor, ◌≡◌, ℕ, ◌+◌, ◌<◌, List, [], ◌∷◌, ◌++◌, Bool, true, false, ◌||◌, length, map, drop, take, get_or, Option, Some, None, refl, ap, sym, ◌∙◌, drop-cons, add-one, if◌then◌else◌}
use Rattle.std.proofs.lemmas.List.{take_more}
use Rattle.std.specs.Prelude.{is_some}
use Rattle.std.specs.Str.{bytes_eq}
use Rattle.kt_law.specs.declared.places.P.TheVariants.{P5}
use Rattle.kt_law.specs.declared.places.Refusal.{Refusal}
use Rattle.kt_prog.specs.Locals.{or_else}
use Rattle.kt_prog.specs.Scope.{known_index, known_of, known_param}
use Rattle.kt_prog.specs.Rules.{Breaches, denied}
use Rattle.kt_prog.specs.Declarations.{Counts, counted, param_rules, sort_rule}
use Rattle.kt_prog.specs.Refusals.{noted}
use Rattle.kt_prog.specs.Scope.{Scope, with_name}
use Rattle.kt_prog.specs.Targets.{is_loop_of}
use Rattle.kt_prog.specs.Accepted.{main_scope, task_scope}
use Rattle.kt_check.specs.Lets.{first_let, let_names, lets_at}
use Rattle.kt_check.specs.Sights.{behind, kind_index, lets_in, lets_step, names_in, names_step, scope_of}
use Rattle.kt_check.specs.declared.names.Names.{Names, map-Names, out-Names, fold_out-Names}
use Rattle.kt_check.specs.declared.names.Names as M
use Rattle.kt_check.specs.declared.names.Names.TheViews as V
use Rattle.kt_check.specs.declared.names.Sight.{Sight}
use Rattle.kt_prog.specs.declared.sight.Kind.TheVariants.{Number}
use Rattle.kt_prog.specs.declared.programs.Program.{Program}
use Rattle.kt_prog.specs.declared.programs.Sort.{Sort}
use Rattle.kt_prog.specs.declared.programs.Sort.TheVariants as S
use Rattle.kt_prog.specs.declared.programs.Stmt.{Stmt}
use Rattle.kt_prog.specs.declared.programs.Task.{Task}
use Rattle.kt_prog.specs.declared.sight.Kind.{Kind}
use Rattle.kt_prog.specs.declared.sight.Known.{Known}
use Rattle.kt_prog.specs.declared.programs.Index.{Index}
use Rattle.kt_prog.specs.declared.programs.Param.{Param}
use Rattle.kt_prog.proofs.Lists.{append_more}
use Rattle.kt_check.proofs.Noted.{noted_append}

else_if : (b : Bool) (x : Kind) (y z : Option Kind) → (if b then Some x else or_else y z) ≡ or_else (if b then Some x else y) z
else_if true x y z = refl
else_if false x y z = refl

pub known_append : (xs ys : List Known) (name : List ℕ) → known_of (xs ++ ys) name ≡ or_else (known_of xs name) (known_of ys name)
known_append [] ys name = refl
known_append (k ∷ xs) ys name = rw (known_append xs ys name) (else_if (bytes_eq k.name name) k.kind (known_of xs name) (known_of ys name))

none_else : (x y : Option Kind) → is_some x ≡ false → or_else x y ≡ y
none_else None y h = refl
none_else (Some x) y h = cc

-- a place of a `let` that binds another name is passed
pub place_next : (stmts : List Stmt) (places : List ℕ) (i p d : ℕ) (name : List ℕ) → i < length places → p ≡ get_or places i d → is_some (known_of (first_let (drop p stmts)) name) ≡ false
    → known_of (lets_at stmts (drop i places)) name ≡ known_of (lets_at stmts (drop (i + 1) places)) name
place_next stmts places i p d name h is other =
    let front : drop i places ≡ p ∷ drop (i + 1) places = rw (add-one, drop-cons places i d, ← is) refl in
    ap (λ l. known_of (lets_at stmts l) name) front
    ∙ known_append (first_let (drop p stmts)) (lets_at stmts (drop (i + 1) places)) name
    ∙ none_else (known_of (first_let (drop p stmts)) name) (known_of (lets_at stmts (drop (i + 1) places)) name) other

pub index_known : (index : Option Index) (name : List ℕ) → known_of (known_index index) name ≡ kind_index index name
index_known None name = refl
index_known (Some index) name = refl

some_either : (x y : Option Kind) → is_some (or_else x y) ≡ (is_some x || is_some y)
some_either None None = refl
some_either None (Some y) = refl
some_either (Some x) None = refl
some_either (Some x) (Some y) = refl

-- whether a parameter's name is that of the index or of a parameter before it
pub taken_is : (index : Option Index) (before : List Param) (name : List ℕ) → is_some (known_of (known_index index ++ map known_param before) name)
    ≡ (is_some (kind_index index name) || is_some (known_of (map known_param before) name))
taken_is index before name =
    ap is_some (known_append (known_index index) (map known_param before) name)
    ∙ some_either (known_of (known_index index) name) (known_of (map known_param before) name)
    ∙ ap (λ k. is_some k || is_some (known_of (map known_param before) name)) (index_known index name)

map_one : (xs : List Param) (p : Param) → map known_param (xs ++ p ∷ []) ≡ map known_param xs ++ known_param p ∷ []
map_one [] p = refl
map_one (x ∷ xs) p = ap (λ l. known_param x ∷ l) (map_one xs p)

pub params_next : (in_loop : Bool) (index : List Known) (c : Counts) (xs : List Param) (i : ℕ) (p : Param) → i < length xs → p ≡ get_or xs i p → (b : Option Refusal)
    → noted b (param_rules in_loop (index ++ map known_param (take i xs)) c (drop i xs))
    ≡ noted (noted (noted b (sort_rule in_loop c p p.sort)) (denied p.name_place P5 (is_some (known_of (index ++ map known_param (take i xs)) p.name))))
    (param_rules in_loop (index ++ map known_param (take (i + 1) xs)) (counted c p.sort) (drop (i + 1) xs))
params_next in_loop index c xs i p h is b =
    let before = index ++ map known_param (take i xs) in
    let d : drop i xs ≡ p ∷ drop (i + 1) xs = rw (add-one, drop-cons xs i p, ← is) refl in
    let t : take (i + 1) xs ≡ take i xs ++ p ∷ [] = rw (take_more xs i p, ← is) refl in
    let known : index ++ map known_param (take i xs) ++ known_param p ∷ [] ≡ index ++ map known_param (take (i + 1) xs) =
    sym (append_more index (map known_param (take i xs)) (known_param p ∷ [])) ∙ ap (λ l. index ++ l) (sym (ap (map known_param) t ∙ map_one (take i xs) p)) in
    let first = sort_rule in_loop c p p.sort in
    let name = denied p.name_place P5 (is_some (known_of (index ++ map known_param (take i xs)) p.name)) in
    let rest = param_rules in_loop (index ++ map known_param (take (i + 1) xs)) (counted c p.sort) (drop (i + 1) xs) in
    ap (λ l. noted b (param_rules in_loop (index ++ map known_param (take i xs)) c l)) d
    ∙ ap (λ k. noted b (first ++ name ++ param_rules in_loop k (counted c p.sort) (drop (i + 1) xs))) known
    ∙ noted_append (first ++ name) rest b
    ∙ ap (λ f. noted f rest) (noted_append first name b)

names_out : (n : Names) → names_in n ≡ names_step (map-Names _ _ names_in (out-Names n))
names_out = fold_out-Names (List Known) names_step

lets_out : (n : Names) → lets_in n ≡ lets_step (map-Names _ _ lets_in (out-Names n))
lets_out = fold_out-Names ℕ lets_step

pub names_block : (outer : Bor Names) (stmts : Bor (List Stmt)) → names_in (V.Block outer stmts) ≡ names_in outer.now ++ let_names stmts.now
names_block outer stmts = names_out (V.Block outer stmts) ∙ ap (λ x. names_step (map-Names _ _ names_in x)) (V.outs-Block outer stmts)

pub names_lets : (outer : Bor Names) (stmts : Bor (List Stmt)) (places : Bor (List ℕ)) → names_in (V.Lets outer stmts places) ≡ names_in outer.now ++ lets_at stmts.now places.now
names_lets outer stmts places = names_out (V.Lets outer stmts places) ∙ ap (λ x. names_step (map-Names _ _ names_in x)) (V.outs-Lets outer stmts places)

pub names_turn : (outer : Bor Names) (name : Bor (List ℕ)) → names_in (V.Turn outer name) ≡ names_in outer.now ++ record { name = name.now; kind = Number } ∷ []
names_turn outer name = names_out (V.Turn outer name) ∙ ap (λ x. names_step (map-Names _ _ names_in x)) (V.outs-Turn outer name)

pub lets_lets : (outer : Bor Names) (stmts : Bor (List Stmt)) (places : Bor (List ℕ)) → lets_in (V.Lets outer stmts places) ≡ lets_in outer.now + length places.now
lets_lets outer stmts places = lets_out (V.Lets outer stmts places) ∙ ap (λ x. lets_step (map-Names _ _ lets_in x)) (V.outs-Lets outer stmts places)

pub lets_block : (outer : Bor Names) (stmts : Bor (List Stmt)) → lets_in (V.Block outer stmts) ≡ lets_in outer.now + length (let_names stmts.now)
lets_block outer stmts = lets_out (V.Block outer stmts) ∙ ap (λ x. lets_step (map-Names _ _ lets_in x)) (V.outs-Block outer stmts)

lets_turn : (outer : Bor Names) (name : Bor (List ℕ)) → lets_in (V.Turn outer name) ≡ lets_in outer.now + 1
lets_turn outer name = lets_out (V.Turn outer name) ∙ ap (λ x. lets_step (map-Names _ _ lets_in x)) (V.outs-Turn outer name)

abbrev scope_with : Sight → List Known → ℕ → Scope
scope_with s names lets = record { families = s.program.now.families; tasks = s.program.now.tasks; in_main = s.in_main; in_loop = s.in_loop; names = names; lets = lets }

pub turn_scope : (s : Sight) (name : Bor (List ℕ)) → scope_with s (names_in (V.Turn s.names name)) (lets_in (V.Turn s.names name)) ≡ with_name (scope_of s) name.now Number
turn_scope s name =
    ap (λ k. scope_with s k (lets_in (V.Turn s.names name))) (names_turn s.names name)
    ∙ ap (λ k. scope_with s (names_in s.names.now ++ record { name = name.now; kind = Number } ∷ []) k) (lets_turn s.names name)

pub block_scope : (s : Sight) (names : Names) (stmts : List Stmt) → names_in names ≡ names_in s.names.now ++ let_names stmts → lets_in names ≡ lets_in s.names.now + length (let_names stmts)
    → scope_with s (names_in names) (lets_in names) ≡ behind (scope_of s) stmts
block_scope s names stmts is count = ap (λ k. scope_with s k (lets_in names)) is ∙ ap (λ k. scope_with s (names_in s.names.now ++ let_names stmts) k) count

abbrev begun : Program → Bool → Bool → List Known → ℕ → Scope
begun p in_main in_loop names lets = record { families = p.families; tasks = p.tasks; in_main = in_main; in_loop = in_loop; names = names; lets = lets }

names_head : (t : Bor Task) → names_in (M.Head t) ≡ known_index t.now.index ++ map known_param t.now.params
names_head t = names_out (M.Head t) ∙ ap (λ x. names_step (map-Names _ _ names_in x)) (V.outs-Head t)

lets_head : (t : Bor Task) → lets_in (M.Head t) ≡ 0
lets_head t = lets_out (M.Head t) ∙ ap (λ x. lets_step (map-Names _ _ lets_in x)) (V.outs-Head t)

loop_some : (index : Option Index) → is_some index ≡ is_loop_of index
loop_some None = refl
loop_some (Some index) = refl

pub head_scope : (p : Program) (t : Bor Task) (b : Bool) → b ≡ is_some t.now.index → begun p false b (names_in (M.Head t)) (lets_in (M.Head t)) ≡ task_scope p t.now
head_scope p t b is =
    ap (λ l. begun p false l (names_in (M.Head t)) (lets_in (M.Head t))) (is ∙ loop_some t.now.index)
    ∙ ap (λ k. begun p false (is_loop_of t.now.index) k (lets_in (M.Head t))) (names_head t)
    ∙ ap (λ k. begun p false (is_loop_of t.now.index) (known_index t.now.index ++ map known_param t.now.params) k) (lets_head t)

pub main_scope_is : (p : Program) → begun p true false (names_in M.Nothing) (lets_in M.Nothing) ≡ main_scope p
main_scope_is p =
    ap (λ k. begun p true false k (lets_in M.Nothing)) (names_out M.Nothing ∙ ap (λ x. names_step (map-Names _ _ names_in x)) V.outs-Nothing)
    ∙ ap (λ k. begun p true false [] k) (lets_out M.Nothing ∙ ap (λ x. lets_step (map-Names _ _ lets_in x)) V.outs-Nothing)

counted_apart : (ints objects : ℕ) (sort : Sort) → counted (record { ints = ints; objects = objects }) sort
    ≡ record { ints = (counted (record { ints = ints; objects = 0 }) sort).ints; objects = (counted (record { ints = 0; objects = objects }) sort).objects }
counted_apart ints objects S.Int = refl
counted_apart ints objects (S.One mode) = refl
counted_apart ints objects (S.Many mode) = refl

pub param_step : (in_loop : Bool) (index : Option Index) (ints objects ints' objects' : ℕ) (taken : Bool) (xs : List Param) (i : ℕ) (p : Param) (b mid new : Option Refusal)
    → i < length xs → p ≡ get_or xs i p
    → taken ≡ (is_some (kind_index index p.name) || is_some (known_of (map known_param (take i xs)) p.name))
    → ints' ≡ (counted (record { ints = ints; objects = 0 }) p.sort).ints → objects' ≡ (counted (record { ints = 0; objects = objects }) p.sort).objects
    → mid ≡ noted b (sort_rule in_loop (record { ints = ints; objects = objects }) p p.sort) → new ≡ noted mid (denied p.name_place P5 taken)
    → noted b (param_rules in_loop (known_index index ++ map known_param (take i xs)) (record { ints = ints; objects = objects }) (drop i xs))
    ≡ noted new (param_rules in_loop (known_index index ++ map known_param (take (i + 1) xs)) (record { ints = ints'; objects = objects' }) (drop (i + 1) xs))
param_step in_loop index ints objects ints' objects' taken xs i p b mid new h is t wi wo first second =
    let before = known_index index ++ map known_param (take (i + 1) xs) in
    let rest : Counts → Breaches = λ c. param_rules in_loop (known_index index ++ map known_param (take (i + 1) xs)) c (drop (i + 1) xs) in
    let c : Counts = record { ints = ints; objects = objects } in
    let m : mid ≡ noted b (sort_rule in_loop (record { ints = ints; objects = objects }) p p.sort) = first in
    params_next in_loop (known_index index) (record { ints = ints; objects = objects }) xs i p h is b
    ∙ ap (λ q. noted (noted q (denied p.name_place P5 (is_some (known_of (known_index index ++ map known_param (take i xs)) p.name)))) (rest (counted (record { ints = ints; objects = objects }) p.sort))) (sym first)
    ∙ ap (λ q. noted (noted mid (denied p.name_place P5 q)) (rest (counted (record { ints = ints; objects = objects }) p.sort))) (taken_is index (take i xs) p.name ∙ sym t)
    ∙ ap (λ q. noted q (rest (counted (record { ints = ints; objects = objects }) p.sort))) (sym second)
    ∙ ap (λ q. noted new (rest q)) (counted_apart ints objects p.sort)
    ∙ ap (λ q. noted new (rest (record { ints = q; objects = (counted (record { ints = 0; objects = objects }) p.sort).objects }))) (sym wi)
    ∙ ap (λ q. noted new (rest (record { ints = ints'; objects = q }))) (sym wo)
