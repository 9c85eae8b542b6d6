-- The generated programs break no rule.
use Rattle.std.proofs.Common.{◌≡◌, ◌≤◌, true, false, ℕ, ◌+◌, ◌*◌, List, [], ◌∷◌, ◌++◌, Option, Some, None, codes, map, nat_eq, nat_lt, refl, ap, sym, ◌∙◌, arith}
use Rattle.std.proofs.Math.Nat.{one-le-mul}
use Rattle.std.proofs.lemmas.Bool.Decides.{nat_tests}
use Rattle.std.proofs.lemmas.Nat.{mul-le}
use Rattle.kt_law.specs.declared.limits.TheConstants.{ELEMENTS, OBJECTS, WIDTH}
use Rattle.kt_law.specs.declared.modes.Mode.{Mode}
use Rattle.kt_law.specs.declared.modes.Mode.TheVariants.{R, W, X, Cw}
use Rattle.kt_law.specs.declared.operators.BinOp.{BinOp}
use Rattle.kt_law.specs.declared.operators.BinOp.TheVariants as B
use Rattle.kt_law.specs.declared.operators.Op.{Op}
use Rattle.kt_law.specs.declared.operators.Op.TheVariants as O
use Rattle.kt_law.specs.declared.places.P.TheVariants.{P11}
use Rattle.kt_law.specs.declared.places.Place.{Place}
use Rattle.kt_prog.specs.Accepted.{IsAccepted, broken, main_scope, task_scope}
use Rattle.kt_prog.specs.Declarations.{family_rules, too_large}
use Rattle.kt_prog.specs.ForkRules.{argument_rule, argument_rules, fork_rule, one_rule, wants_many, wants_one}
use Rattle.kt_prog.specs.Rules.{Breaches, ExprRules, breaches_in, denied, element_rule, expr_rules, fold_rule, load_rule, new_name, number_rule, rules_of, store_rule}
use Rattle.kt_prog.specs.Scope.{Scope, kind_of, with_name}
use Rattle.kt_prog.specs.StatementRules.{Ruled, StmtRules, block_rules, plainly, rules_of_stmt, rules_of_what, stmt_rules, what_rules}
use Rattle.kt_prog.specs.Targets.{Target, target_of}
use Rattle.kt_prog.specs.declared.programs.Arg.{Arg}
use Rattle.kt_prog.specs.declared.programs.Expr.{Expr, Num, Var, Elem, Bin, fold-roll-Expr}
use Rattle.kt_prog.specs.declared.programs.Expr.TheVariants.{rolls-Num, rolls-Var, rolls-Elem, rolls-Bin}
use Rattle.kt_prog.specs.declared.programs.Expr.TheViews.{outs-Elem, outs-Var}
use Rattle.kt_prog.specs.declared.programs.Expr.TheOpen as E
use Rattle.kt_prog.specs.declared.programs.Family.{Family}
use Rattle.kt_prog.specs.declared.programs.Program.{Program}
use Rattle.kt_prog.specs.declared.programs.Sort.{Sort}
use Rattle.kt_prog.specs.declared.programs.Sort.TheVariants as S
use Rattle.kt_prog.specs.declared.programs.Stmt.{Stmt, fold_out-Stmt}
use Rattle.kt_prog.specs.declared.programs.What.{Store, Fold, For, Fork, fold-roll-What}
use Rattle.kt_prog.specs.declared.programs.What.TheVariants as W
use Rattle.kt_prog.specs.declared.programs.What.TheOpen as F
use Rattle.kt_prog.specs.declared.sight.Kind.TheVariants.{Number}
use Rattle.kt_text.specs.declared.commands.Kind.{Kind}
use Rattle.kt_text.specs.declared.commands.Kind.TheVariants.{Mul, Walks, Stencil, Scan}
use Rattle.kt_gen.specs.Jobs.{IsSize}
use Rattle.kt_gen.specs.Texts.{rounds_of}
use Rattle.kt_gen.specs.Trees.{bare, below, copies, copy, each, fork, member, mul_program, object, on, one_added, one_copied, program_of, range, round, row_args, scan_all, scan_program, smooth, stencil_program, sum_all, sums, tile, tile_args, tiles, walks_program}

-- ---- the rules of each form

rules_num : (n : ℕ) → rules_of (Num n) ≡ expr_rules (E.Num n)
rules_num n = ap rules_of (sym (rolls-Num n)) ∙ fold-roll-Expr ExprRules expr_rules (E.Num n)

rules_var : (name : List ℕ) (p : Place) → rules_of (Var name p) ≡ expr_rules (E.Var name p)
rules_var name p = ap rules_of (sym (rolls-Var name p)) ∙ fold-roll-Expr ExprRules expr_rules (E.Var name p)

rules_elem : (name : List ℕ) (p : Place) (e : Expr) → rules_of (Elem name p e) ≡ expr_rules (E.Elem name p (rules_of e))
rules_elem name p e = ap rules_of (sym (rolls-Elem name p e)) ∙ fold-roll-Expr ExprRules expr_rules (E.Elem name p e)

rules_bin : (op : BinOp) (a b : Expr) → rules_of (Bin op a b) ≡ expr_rules (E.Bin op (rules_of a) (rules_of b))
rules_bin op a b = ap rules_of (sym (rolls-Bin op a b)) ∙ fold-roll-Expr ExprRules expr_rules (E.Bin op a b)

rules_stmt : (x : Stmt) (s : Scope) → rules_of_stmt x s ≡ rules_of_what x.what x.place s
rules_stmt x s = ap (λ (r : StmtRules). r s) (fold_out-Stmt (Place → StmtRules) StmtRules what_rules stmt_rules x)

rules_each : (name : List ℕ) (p : Place) (a b : Expr) (body : List Stmt) (at : Place) (s : Scope) →
    rules_of_what (For name p a b body) at s ≡ what_rules (F.For name p a b (map rules_of_stmt body)) at s
rules_each name p a b body at s =
    ap (λ w. rules_of_what w at s) (sym (W.rolls-For name p a b body))
    ∙ ap (λ (r : Place → StmtRules). r at s) (fold-roll-What (Place → StmtRules) StmtRules what_rules stmt_rules (F.For name p a b body))

rules_fork : (name : List ℕ) (p : Place) (len : Option Expr) (args : List Arg) (at : Place) (s : Scope) →
    rules_of_what (Fork name p len args) at s ≡ what_rules (F.Fork name p len args) at s
rules_fork name p len args at s =
    ap (λ w. rules_of_what w at s) (sym (W.rolls-Fork name p len args))
    ∙ ap (λ (r : Place → StmtRules). r at s) (fold-roll-What (Place → StmtRules) StmtRules what_rules stmt_rules (F.Fork name p len args))

rules_store : (name : List ℕ) (p : Place) (i e : Expr) (at : Place) (s : Scope) → rules_of_what (Store name p i e) at s ≡ what_rules (F.Store name p i e) at s
rules_store name p i e at s =
    ap (λ w. rules_of_what w at s) (sym (W.rolls-Store name p i e))
    ∙ ap (λ (r : Place → StmtRules). r at s) (fold-roll-What (Place → StmtRules) StmtRules what_rules stmt_rules (F.Store name p i e))

rules_fold : (name : List ℕ) (p : Place) (i : Expr) (op : Op) (e : Expr) (at : Place) (s : Scope) →
    rules_of_what (Fold name p i op e) at s ≡ what_rules (F.Fold name p i op e) at s
rules_fold name p i op e at s =
    ap (λ w. rules_of_what w at s) (sym (W.rolls-Fold name p i op e))
    ∙ ap (λ (r : Place → StmtRules). r at s) (fold-roll-What (Place → StmtRules) StmtRules what_rules stmt_rules (F.Fold name p i op e))

-- ---- expressions that break none

none_and : {xs ys : Breaches} → xs ≡ [] → ys ≡ [] → xs ++ ys ≡ []
none_and {xs} {ys} h k = ap (λ (zs : Breaches). zs ++ ys) h ∙ k

num_fine : (n : ℕ) (s : Scope) → breaches_in (Num n) s ≡ []
num_fine n s = ap (λ (r : ExprRules). r.breaches s) (rules_num n)

var_fine : (name : List ℕ) (p : Place) (s : Scope) → number_rule (kind_of s name) p ≡ [] → breaches_in (Var name p) s ≡ []
var_fine name p s h = ap (λ (r : ExprRules). r.breaches s) (rules_var name p) ∙ h

bin_fine : (op : BinOp) (a b : Expr) (s : Scope) → breaches_in a s ≡ [] → breaches_in b s ≡ [] → breaches_in (Bin op a b) s ≡ []
bin_fine op a b s h k = ap (λ (r : ExprRules). r.breaches s) (rules_bin op a b) ∙ none_and h k

elem_fine : (name : List ℕ) (p : Place) (e : Expr) (s : Scope) → element_rule (load_rule s (rules_of e).bare p) (kind_of s name) p ≡ [] → breaches_in e s ≡ [] →
    breaches_in (Elem name p e) s ≡ []
elem_fine name p e s h k = ap (λ (r : ExprRules). r.breaches s) (rules_elem name p e) ∙ none_and h k

-- ---- arguments that break none

-- the name of a range of objects with a mode that hands on the one that is wanted
member_fine : (at : Place) (name : List ℕ) (index : Expr) (want : Mode) (s : Scope) → wants_many at want (kind_of s name) at ≡ [] → breaches_in index s ≡ [] →
    argument_rule at (S.One want) s (member at name index).what ≡ []
member_fine at name index want s h k = ap (one_rule at want s) (outs-Elem name at index) ∙ none_and h k

single_fine : (at : Place) (name : List ℕ) (want : Mode) (s : Scope) → wants_one at want (kind_of s name) at ≡ [] → argument_rule at (S.One want) s (bare at name).what ≡ []
single_fine at name want s h = ap (one_rule at want s) (outs-Var name at) ∙ h

-- ---- statements that break none

-- a statement that breaks none, and leaves in sight what was
record IsFine (s : Scope) (x : Stmt) : Type 0 where
  none : (rules_of_stmt x s).breaches ≡ []
  after : (rules_of_stmt x s).after ≡ s

block_fine : (s : Scope) (x : Stmt) (xs : List Stmt) → IsFine s x → block_rules (map rules_of_stmt xs) s ≡ [] → block_rules (map rules_of_stmt (x ∷ xs)) s ≡ []
block_fine s x xs f h = none_and f.none (ap (block_rules (map rules_of_stmt xs)) f.after ∙ h)

plainly_fine : (s : Scope) (x : Stmt) (breaches : Breaches) → rules_of_stmt x s ≡ plainly s breaches → breaches ≡ [] → IsFine s x
plainly_fine s x breaches is h = record { none = ap (λ (r : Ruled). r.breaches) is ∙ h; after = ap (λ (r : Ruled). r.after) is }

each_fine : (s : Scope) (at : Place) (name : List ℕ) (from to : Expr) (body : List Stmt) → new_name s name at ≡ [] → breaches_in from s ≡ [] → breaches_in to s ≡ [] →
    block_rules (map rules_of_stmt body) (with_name s name Number) ≡ [] → IsFine s (each at name from to body)
each_fine s at name from to body n f t h =
    plainly_fine s (each at name from to body) _ (rules_stmt (each at name from to body) s ∙ rules_each name at from to body at s)
    (none_and (none_and (none_and n f) t) h)

below_fine : (s : Scope) (at : Place) (name : List ℕ) (to : ℕ) (inner : Stmt) → new_name s name at ≡ [] → IsFine (with_name s name Number) inner →
    IsFine s (below at name to inner)
below_fine s at name to inner n f =
    each_fine s at name (Num 0) (Num to) (inner ∷ []) n (num_fine 0 s) (num_fine to s) (block_fine (with_name s name Number) inner [] f refl)

fork_fine : (s : Scope) (at : Place) (name : List ℕ) (len : Option Expr) (args : List Arg) → s.in_loop ≡ false →
    fork_rule (target_of s.tasks name) at s len args ≡ [] → IsFine s (fork at name len args)
fork_fine s at name len args none h =
    plainly_fine s (fork at name len args) _ (rules_stmt (fork at name len args) s ∙ rules_fork name at len args at s)
    (none_and (ap (denied at P11) none) h)

store_fine : (s : Scope) (at : Place) (name : List ℕ) (i e : Expr) → element_rule (store_rule s (rules_of i).bare at) (kind_of s name) at ≡ [] →
    breaches_in i s ≡ [] → breaches_in e s ≡ [] → IsFine s (record { place = at; what = Store name at i e })
store_fine s at name i e h f g =
    let x : Stmt = record { place = at; what = Store name at i e } in
    plainly_fine s x _ (rules_stmt x s ∙ rules_store name at i e at s) (none_and (none_and h f) g)

fold_fine : (s : Scope) (at : Place) (name : List ℕ) (i : Expr) (op : Op) (e : Expr) → element_rule (fold_rule op at) (kind_of s name) at ≡ [] →
    breaches_in i s ≡ [] → breaches_in e s ≡ [] → IsFine s (record { place = at; what = Fold name at i op e })
fold_fine s at name i op e h f g =
    let x : Stmt = record { place = at; what = Fold name at i op e } in
    plainly_fine s x _ (rules_stmt x s ∙ rules_fold name at i op e at s) (none_and (none_and h f) g)

-- ---- families that break none

few_enough : (objects elements : ℕ) (f : Family) → 1 ≤ f.members → 1 ≤ f.elements → f.elements ≤ WIDTH → objects + f.members ≤ OBJECTS →
    elements + f.members * f.elements ≤ ELEMENTS → too_large objects elements f ≡ false
few_enough objects elements f some width narrow few all =
    let a : nat_eq f.members 0 ≡ false = grind (arith, nat_tests) in
    let b : nat_eq f.elements 0 ≡ false = grind (arith, nat_tests) in
    let c : nat_lt WIDTH f.elements ≡ false = grind (arith, nat_tests) in
    let d : nat_lt OBJECTS (objects + f.members) ≡ false = grind (arith, nat_tests) in
    let e : nat_lt ELEMENTS (elements + f.members * f.elements) ≡ false = grind (arith, nat_tests) in
    rw (a, b, c, d, e) refl

family_fine : (objects elements : ℕ) (f : Family) (families : List Family) → too_large objects elements f ≡ false →
    family_rules (objects + f.members) (elements + f.members * f.elements) families ≡ [] → family_rules objects elements (f ∷ families) ≡ []
family_fine objects elements f families fits h = rw fits h

-- ---- products of tiles

abbrev sorts_of_tiles : Mode → List Sort
sorts_of_tiles last = S.Int ∷ S.Int ∷ S.Int ∷ S.One R ∷ S.One R ∷ S.One last ∷ []

tile_fine : (at : Place) (name row column : List ℕ) (size : ℕ) (want : Mode) (s : Scope) → wants_many at want (kind_of s name) at ≡ [] →
    number_rule (kind_of s row) at ≡ [] → number_rule (kind_of s column) at ≡ [] → argument_rule at (S.One want) s (tile at name row size column).what ≡ []
tile_fine at name row column size want s h r c =
    member_fine at name (Bin B.Add (Bin B.Mul (Var row at) (Num size)) (Var column at)) want s h
    (bin_fine B.Add (Bin B.Mul (Var row at) (Num size)) (Var column at) s (bin_fine B.Mul (Var row at) (Num size) s (var_fine row at s r) (num_fine size s)) (var_fine column at s c))

tile_args_fine : (at : Place) (size : ℕ) (a b c : List ℕ) (last : Mode) (s : Scope) →
    wants_many at R (kind_of s a) at ≡ [] → wants_many at R (kind_of s b) at ≡ [] → wants_many at last (kind_of s c) at ≡ [] →
    number_rule (kind_of s (codes "i")) at ≡ [] → number_rule (kind_of s (codes "j")) at ≡ [] → number_rule (kind_of s (codes "k")) at ≡ [] →
    argument_rules (sorts_of_tiles last) s (tile_args at size a b c) ≡ []
tile_args_fine at size a b c last s ha hb hc i j k =
    none_and (num_fine 16 s) (none_and (num_fine 16 s) (none_and (num_fine 16 s)
    (none_and (tile_fine at a (codes "i") (codes "k") size R s ha i k)
    (none_and (tile_fine at b (codes "k") (codes "j") size R s hb k j)
    (none_and (tile_fine at c (codes "i") (codes "j") size last s hc i j) refl)))))

-- three names more are in sight
abbrev in_tiles : Scope → Scope
in_tiles s = with_name (with_name (with_name s (codes "i") Number) (codes "j") Number) (codes "k") Number

record TilesFit (s : Scope) (line : ℕ) (kernel a b c : List ℕ) (last : Mode) : Type 0 where
  i : new_name s (codes "i") (on line) ≡ []
  j : new_name (with_name s (codes "i") Number) (codes "j") (on (line + 1)) ≡ []
  k : new_name (with_name (with_name s (codes "i") Number) (codes "j") Number) (codes "k") (on (line + 2)) ≡ []
  outside : s.in_loop ≡ false
  number : ℕ
  target : target_of s.tasks kernel ≡ Some (record { number = number; is_loop = false; sorts = sorts_of_tiles last })
  a_fits : wants_many (on (line + 3)) R (kind_of (in_tiles s) a) (on (line + 3)) ≡ []
  b_fits : wants_many (on (line + 3)) R (kind_of (in_tiles s) b) (on (line + 3)) ≡ []
  c_fits : wants_many (on (line + 3)) last (kind_of (in_tiles s) c) (on (line + 3)) ≡ []
  i_is : number_rule (kind_of (in_tiles s) (codes "i")) (on (line + 3)) ≡ []
  j_is : number_rule (kind_of (in_tiles s) (codes "j")) (on (line + 3)) ≡ []
  k_is : number_rule (kind_of (in_tiles s) (codes "k")) (on (line + 3)) ≡ []

tiles_fine : (s : Scope) (line size : ℕ) (kernel a b c : List ℕ) (last : Mode) → TilesFit s line kernel a b c last → IsFine s (tiles line size kernel a b c)
tiles_fine s line size kernel a b c last f =
    let at = on (line + 3) in
    let args = tile_args at size a b c in
    let rule : fork_rule (target_of s.tasks kernel) at (in_tiles s) None args ≡ [] =
    ap (λ (t : Option Target). fork_rule t at (in_tiles s) None args) f.target
    ∙ tile_args_fine at size a b c last (in_tiles s) f.a_fits f.b_fits f.c_fits f.i_is f.j_is f.k_is in
    below_fine s (on line) (codes "i") size _ f.i (below_fine _ (on (line + 1)) (codes "j") size _ f.j
    (below_fine _ (on (line + 2)) (codes "k") size _ f.k (fork_fine (in_tiles s) at kernel None args f.outside rule)))

mul_accepted : (size : ℕ) → 1 ≤ size → size ≤ 25 → IsAccepted (mul_program size)
unfolding broken
mul_accepted size low high =
    let p : Program = mul_program size in
    let s : Scope = main_scope p in
    let q : ℕ = size * size in
    let some : 1 ≤ q = one-le-mul low low in
    let few : q ≤ 25 * 25 = mul-le size size 25 25 high high in
    let a = few_enough 0 0 (range (on 1) (codes "A") q 256 true false) some (omega arith) (omega arith) (omega arith) (omega arith) in
    let b = few_enough (0 + q) (0 + q * 256) (range (on 2) (codes "B") q 256 true false) some (omega arith) (omega arith) (omega arith) (omega arith) in
    let c = few_enough (0 + q + q) (0 + q * 256 + q * 256) (range (on 3) (codes "C") q 256 false true) some (omega arith) (omega arith) (omega arith) (omega arith) in
    let families : family_rules 0 0 p.families ≡ [] =
    family_fine 0 0 (range (on 1) (codes "A") q 256 true false) (range (on 2) (codes "B") q 256 true false ∷ range (on 3) (codes "C") q 256 false true ∷ []) a
    (family_fine (0 + q) (0 + q * 256) (range (on 2) (codes "B") q 256 true false) (range (on 3) (codes "C") q 256 false true ∷ []) b
    (family_fine (0 + q + q) (0 + q * 256 + q * 256) (range (on 3) (codes "C") q 256 false true) [] c refl)) in
    let fits : TilesFit s 5 (codes "k_mul") (codes "A") (codes "B") (codes "C") (Cw O.Add) = record {
      i = refl;
      j = refl;
      k = refl;
      outside = refl;
      number = _;
      target = refl;
      a_fits = refl;
      b_fits = refl;
      c_fits = refl;
      i_is = refl;
      j_is = refl;
      k_is = refl;
    } in
    let body = block_fine s _ [] (tiles_fine s 5 size (codes "k_mul") (codes "A") (codes "B") (codes "C") (Cw O.Add) fits) refl in
    none_and (none_and (none_and (none_and refl families) refl) refl) (none_and body refl)

-- ---- walks

record CopiesFit (s : Scope) (line : ℕ) (from to : List ℕ) : Type 0 where
  t : new_name s (codes "t") (on line) ≡ []
  outside : s.in_loop ≡ false
  number : ℕ
  target : target_of s.tasks (codes "copy") ≡ Some (record { number = number; is_loop = false; sorts = S.One R ∷ S.One W ∷ [] })
  from_fits : wants_many (on (line + 1)) R (kind_of (with_name s (codes "t") Number) from) (on (line + 1)) ≡ []
  to_fits : wants_many (on (line + 1)) W (kind_of (with_name s (codes "t") Number) to) (on (line + 1)) ≡ []
  t_is : number_rule (kind_of (with_name s (codes "t") Number) (codes "t")) (on (line + 1)) ≡ []

copies_fine : (s : Scope) (line members : ℕ) (from to : List ℕ) → CopiesFit s line from to → IsFine s (copies line members from to)
copies_fine s line members from to f =
    let at = on (line + 1) in
    let inner = with_name s (codes "t") Number in
    let t : Expr = Var (codes "t") at in
    let args : List Arg = member at from t ∷ member at to t ∷ [] in
    let bare : breaches_in t inner ≡ [] = var_fine (codes "t") at inner f.t_is in
    let rule : fork_rule (target_of s.tasks (codes "copy")) at inner None args ≡ [] =
    ap (λ (t : Option Target). fork_rule t at inner None args) f.target
    ∙ none_and (member_fine at from t R inner f.from_fits bare) (none_and (member_fine at to t W inner f.to_fits bare) refl) in
    below_fine s (on line) (codes "t") members _ f.t (fork_fine inner at (codes "copy") None args f.outside rule)

walks_accepted : (size : ℕ) → 1 ≤ size → size ≤ 12 → IsAccepted (walks_program size)
unfolding broken
walks_accepted size low high =
    let p : Program = walks_program size in
    let s : Scope = with_name (main_scope p) (codes "h") Number in
    let q : ℕ = size * size in
    let some : 1 ≤ q = one-le-mul low low in
    let few : q ≤ 12 * 12 = mul-le size size 12 12 high high in
    let d = few_enough 0 0 (range (on 1) (codes "D") q 256 true true) some (omega arith) (omega arith) (omega arith) (omega arith) in
    let e = few_enough (0 + q) (0 + q * 256) (range (on 2) (codes "E") q 256 false false) some (omega arith) (omega arith) (omega arith) (omega arith) in
    let families : family_rules 0 0 p.families ≡ [] =
    family_fine 0 0 (range (on 1) (codes "D") q 256 true true) (range (on 2) (codes "E") q 256 false false ∷ []) d
    (family_fine (0 + q) (0 + q * 256) (range (on 2) (codes "E") q 256 false false) [] e refl) in
    let own : Scope = task_scope p copy in
    let inner : Scope = with_name own (codes "i") Number in
    let i = var_fine (codes "i") (on 5) inner refl in
    let copied = store_fine inner (on 5) (codes "R") (Var (codes "i") (on 5)) (Elem (codes "P") (on 5) (Var (codes "i") (on 5))) refl i
    (elem_fine (codes "P") (on 5) (Var (codes "i") (on 5)) inner refl i) in
    let task = block_fine own _ [] (below_fine own (on 4) (codes "i") 256 (one_copied (on 5)) refl copied) refl in
    let there : CopiesFit s 10 (codes "D") (codes "E") = record { t = refl; outside = refl; number = _; target = refl; from_fits = refl; to_fits = refl; t_is = refl } in
    let back : CopiesFit s 20 (codes "E") (codes "D") = record { t = refl; outside = refl; number = _; target = refl; from_fits = refl; to_fits = refl; t_is = refl } in
    let ahead : TilesFit s 13 (codes "k_minplus") (codes "D") (codes "D") (codes "E") (Cw O.Min) = record {
      i = refl;
      j = refl;
      k = refl;
      outside = refl;
      number = _;
      target = refl;
      a_fits = refl;
      b_fits = refl;
      c_fits = refl;
      i_is = refl;
      j_is = refl;
      k_is = refl;
    } in
    let again : TilesFit s 23 (codes "k_minplus") (codes "E") (codes "E") (codes "D") (Cw O.Min) = record {
      i = refl;
      j = refl;
      k = refl;
      outside = refl;
      number = _;
      target = refl;
      a_fits = refl;
      b_fits = refl;
      c_fits = refl;
      i_is = refl;
      j_is = refl;
      k_is = refl;
    } in
    let one : Stmt = copies 10 q (codes "D") (codes "E") in
    let two : Stmt = tiles 13 size (codes "k_minplus") (codes "D") (codes "D") (codes "E") in
    let three : Stmt = copies 20 q (codes "E") (codes "D") in
    let four : Stmt = tiles 23 size (codes "k_minplus") (codes "E") (codes "E") (codes "D") in
    let rounds =
    block_fine s one (two ∷ three ∷ four ∷ []) (copies_fine s 10 q (codes "D") (codes "E") there)
    (block_fine s two (three ∷ four ∷ []) (tiles_fine s 13 size (codes "k_minplus") (codes "D") (codes "D") (codes "E") (Cw O.Min) ahead)
    (block_fine s three (four ∷ []) (copies_fine s 20 q (codes "E") (codes "D") back)
    (block_fine s four [] (tiles_fine s 23 size (codes "k_minplus") (codes "E") (codes "E") (codes "D") (Cw O.Min) again) refl))) in
    let body = block_fine (main_scope p) _ [] (each_fine (main_scope p) (on 9) (codes "h") (Num 0) (Num (rounds_of size)) (round size) refl
    (num_fine 0 (main_scope p)) (num_fine (rounds_of size) (main_scope p)) rounds) refl in
    none_and (none_and (none_and (none_and refl families) refl) (none_and (none_and refl task) refl)) (none_and body refl)

-- ---- stencils

record RowsFit (s : Scope) (line : ℕ) (from to : List ℕ) : Type 0 where
  j : new_name s (codes "j") (on line) ≡ []
  outside : s.in_loop ≡ false
  number : ℕ
  target : target_of s.tasks (codes "k_stencil") ≡ Some (record { number = number; is_loop = false; sorts = S.Int ∷ S.One R ∷ S.One R ∷ S.One R ∷ S.One W ∷ [] })
  from_fits : wants_many (on (line + 1)) R (kind_of (with_name s (codes "j") Number) from) (on (line + 1)) ≡ []
  to_fits : wants_many (on (line + 1)) W (kind_of (with_name s (codes "j") Number) to) (on (line + 1)) ≡ []
  j_is : number_rule (kind_of (with_name s (codes "j") Number) (codes "j")) (on (line + 1)) ≡ []

smooth_fine : (s : Scope) (line size : ℕ) (from to : List ℕ) → RowsFit s line from to → IsFine s (smooth line size from to)
smooth_fine s line size from to f =
    let at = on (line + 1) in
    let inner = with_name s (codes "j") Number in
    let j : Expr = Var (codes "j") at in
    let args : List Arg = row_args at from to in
    let bare : breaches_in j inner ≡ [] = var_fine (codes "j") at inner f.j_is in
    let before : breaches_in (Bin B.Sub j (Num 1)) inner ≡ [] = bin_fine B.Sub j (Num 1) inner bare (num_fine 1 inner) in
    let behind : breaches_in (Bin B.Add j (Num 1)) inner ≡ [] = bin_fine B.Add j (Num 1) inner bare (num_fine 1 inner) in
    let rule : fork_rule (target_of s.tasks (codes "k_stencil")) at inner None args ≡ [] =
    ap (λ (t : Option Target). fork_rule t at inner None args) f.target
    ∙ none_and (num_fine 16 inner) (none_and (member_fine at from (Bin B.Sub j (Num 1)) R inner f.from_fits before)
    (none_and (member_fine at from j R inner f.from_fits bare) (none_and (member_fine at from (Bin B.Add j (Num 1)) R inner f.from_fits behind)
    (none_and (member_fine at to j W inner f.to_fits bare) refl)))) in
    each_fine s (on line) (codes "j") (Num 1) (Num (size + 1)) _ f.j (num_fine 1 s) (num_fine (size + 1) s)
    (block_fine inner _ [] (fork_fine inner at (codes "k_stencil") None args f.outside rule) refl)

stencil_accepted : (size : ℕ) → 1 ≤ size → size ≤ 1024 → IsAccepted (stencil_program size)
unfolding broken
stencil_accepted size low high =
    let p : Program = stencil_program size in
    let s : Scope = with_name (main_scope p) (codes "h") Number in
    let t : ℕ = size + 2 in
    let a = few_enough 0 0 (range (on 1) (codes "A") t 16 true true) (omega arith) (omega arith) (omega arith) (omega arith) (omega arith) in
    let b = few_enough (0 + t) (0 + t * 16) (range (on 2) (codes "B") t 16 false false) (omega arith) (omega arith) (omega arith) (omega arith) (omega arith) in
    let families : family_rules 0 0 p.families ≡ [] =
    family_fine 0 0 (range (on 1) (codes "A") t 16 true true) (range (on 2) (codes "B") t 16 false false ∷ []) a
    (family_fine (0 + t) (0 + t * 16) (range (on 2) (codes "B") t 16 false false) [] b refl) in
    let there : RowsFit s 5 (codes "A") (codes "B") = record { j = refl; outside = refl; number = _; target = refl; from_fits = refl; to_fits = refl; j_is = refl } in
    let back : RowsFit s 8 (codes "B") (codes "A") = record { j = refl; outside = refl; number = _; target = refl; from_fits = refl; to_fits = refl; j_is = refl } in
    let turn = block_fine s (smooth 5 size (codes "A") (codes "B")) (smooth 8 size (codes "B") (codes "A") ∷ []) (smooth_fine s 5 size (codes "A") (codes "B") there)
    (block_fine s _ [] (smooth_fine s 8 size (codes "B") (codes "A") back) refl) in
    let body = block_fine (main_scope p) _ [] (each_fine (main_scope p) (on 4) (codes "h") (Num 0) (Num 2) _ refl
    (num_fine 0 (main_scope p)) (num_fine 2 (main_scope p)) turn) refl in
    none_and (none_and (none_and (none_and refl families) refl) refl) (none_and body refl)

-- ---- sums

scan_accepted : (size : ℕ) → 1 ≤ size → size ≤ 1024 → IsAccepted (scan_program size)
unfolding broken
scan_accepted size low high =
    let p : Program = scan_program size in
    let s : Scope = main_scope p in
    let a = few_enough 0 0 (range (on 1) (codes "A") size 16 true true) low (omega arith) (omega arith) (omega arith) (omega arith) in
    let b = few_enough (0 + size) (0 + size * 16) (object (on 2) (codes "P") size) (omega arith) low (omega arith) (omega arith) (omega arith) in
    let families : family_rules 0 0 p.families ≡ [] =
    family_fine 0 0 (range (on 1) (codes "A") size 16 true true) (object (on 2) (codes "P") size ∷ []) a
    (family_fine (0 + size) (0 + size * 16) (object (on 2) (codes "P") size) [] b refl) in
    let own : Scope = task_scope p sums in
    let deep : Scope = with_name own (codes "u") Number in
    let added = fold_fine deep (on 5) (codes "R") (Var (codes "u") (on 5)) O.Add (Elem (codes "Q") (on 5) (Var (codes "i") (on 5))) refl
    (var_fine (codes "u") (on 5) deep refl) (elem_fine (codes "Q") (on 5) (Var (codes "i") (on 5)) deep refl (var_fine (codes "i") (on 5) deep refl)) in
    let task = block_fine own _ [] (each_fine own (on 4) (codes "u") (Bin B.Add (Var (codes "t") (on 4)) (Num 1)) (Var (codes "m") (on 4)) _ refl
    (bin_fine B.Add (Var (codes "t") (on 4)) (Num 1) own (var_fine (codes "t") (on 4) own refl) (num_fine 1 own))
    (var_fine (codes "m") (on 4) own refl) (block_fine deep (one_added (on 5)) [] added refl)) refl in
    let inner : Scope = with_name s (codes "t") Number in
    let t = λ (line : ℕ). var_fine (codes "t") (on line) inner refl in
    let first = none_and (num_fine 16 inner) (none_and (t 10) (none_and (num_fine size inner)
    (none_and (member_fine (on 10) (codes "A") (Var (codes "t") (on 10)) R inner refl (t 10)) (none_and (single_fine (on 10) (codes "P") (Cw O.Add) inner refl) refl)))) in
    let second = none_and (num_fine 16 inner) (none_and (t 13) (none_and (single_fine (on 13) (codes "P") R inner refl)
    (none_and (member_fine (on 13) (codes "A") (Var (codes "t") (on 13)) X inner refl (t 13)) refl))) in
    let body = block_fine s (sum_all size) (scan_all size ∷ []) (below_fine s (on 9) (codes "t") size _ refl (fork_fine inner (on 10) (codes "sums") (Some (Num 16)) _ refl first))
    (block_fine s _ [] (below_fine s (on 12) (codes "t") size _ refl (fork_fine inner (on 13) (codes "k_scan") None _ refl second)) refl) in
    none_and (none_and (none_and (none_and refl families) refl) (none_and (none_and refl task) refl)) (none_and body refl)

pub accepted : (kind : Kind) (size : ℕ) → IsSize kind size → IsAccepted (program_of kind size)
accepted Mul size h = mul_accepted size h.0 h.1
accepted Walks size h = walks_accepted size h.0 h.1
accepted Stencil size h = stencil_accepted size h.0 h.1
accepted Scan size h = scan_accepted size h.0 h.1
