-- The generated sums complete.
use Rattle.std.proofs.Common.{◌≡◌, ◌<◌, ◌≤◌, ℕ, zero, suc, ◌+◌, ◌-◌, ◌*◌, ◌^◌, List, [], ◌∷◌, Some, None, true, false, codes, map, nat_lt, refl, sym, ap, subst, ◌∙◌, arith}
use Rattle.std.proofs.Math.Nat.{mod-eq_of_lt, mul-one}
use Rattle.std.proofs.lemmas.Bool.Decides.{nat_tests}
use Rattle.kt_law.specs.Accesses.{clash_of, clashes}
use Rattle.kt_law.specs.declared.accesses.Access.{Access}
use Rattle.kt_law.specs.declared.limits.TheConstants.{DEFINITIONS}
use Rattle.kt_law.specs.declared.modes.Mode.TheVariants.{R, X, Cw}
use Rattle.kt_law.specs.declared.operators.BinOp.TheVariants as B
use Rattle.kt_law.specs.declared.operators.Op.TheVariants.{Add}
use Rattle.kt_order.specs.Body.{Stop}
use Rattle.kt_prog.specs.Bodies.{call_body, indexes, script_of, script_with, site_of}
use Rattle.kt_prog.specs.Calls.{CallTree, Job, Whole, Index}
use Rattle.kt_prog.specs.Locals.{Site}
use Rattle.kt_prog.specs.Objects.{width_of}
use Rattle.kt_prog.specs.Script as script
use Rattle.kt_prog.specs.Script.{Script, ◌>>=◌, ◌>>◌, give}
use Rattle.kt_prog.specs.Statements.{stmt_of}
use Rattle.kt_prog.specs.Targets.{scan, target}
use Rattle.kt_prog.specs.Values.{View}
use Rattle.kt_prog.specs.declared.programs.Expr.{Expr, Num, Var, Elem, Bin}
use Rattle.kt_prog.specs.declared.programs.Program.{Program}
use Rattle.kt_prog.specs.declared.scope.Bound.TheVariants.{One}
use Rattle.kt_prog.specs.declared.scope.Local.{Local}
use Rattle.kt_text.specs.declared.commands.Kind.TheVariants.{Scan}
use Rattle.kt_gen_runs.specs.Completes.{KindCompletes}
use Rattle.kt_gen.specs.Trees.{bare, each, fork, member, number, on, one_added, scan_all, scan_program, sum_all, sums}
use Rattle.kt_gen_runs.proofs.Quiet.{Quiet}
use Rattle.kt_gen_runs.proofs.Runs.{IsChild, IsLeaf, Nothing, completes}
use Rattle.kt_gen_runs.proofs.Values.{forked, int_given, length_given, member_given, more_given, no_length, none_given, object_is, single_given, value_bin, value_num, value_var}
use Rattle.kt_gen_runs.proofs.Passing.{Passes, elem_calm, numbered, passes_each, passes_fold, passes_fork, passes_more, passes_one, seen_at, statements_calm, times}
use Rattle.kt_gen_runs.proofs.Kernels.{call_quiet, scan_calm, zeroing_calm}
use Rattle.kt_gen_runs.proofs.Forking.{above_apart, apart, below_apart, main_quiet, one_object, passes_below, times_is, times_le, times_none}

abbrev lost : Script → Script
lost w = w

two_apart : (a b : Access) → clash_of a b ≡ false → clashes (a ∷ b ∷ []) ≡ false
two_apart a b e = rw e refl

-- the sums of the object a, and its scan; s is the object of the sums
abbrev sums_call : ℕ → ℕ → ℕ → ℕ → CallTree
sums_call t m a s = record { task = 1; depth = 1; length = 16; ints = t ∷ m ∷ []; accesses = one_object a R ∷ one_object s (Cw Add) ∷ [] }

abbrev scan_call : ℕ → ℕ → ℕ → CallTree
scan_call t a s = record { task = DEFINITIONS + 4; depth = 1; length = 0; ints = 16 ∷ t ∷ []; accesses = one_object s R ∷ one_object a X ∷ [] }

abbrev turn_at : ℕ → List Local
turn_at t = numbered (codes "t") t ∷ []

-- the locals of an index of `sums`
abbrev index_at : ℕ → ℕ → ℕ → ℕ → ℕ → List Local
index_at k t m a s =
    numbered (codes "i") k ∷ numbered (codes "t") t ∷ numbered (codes "m") m ∷ record { name = codes "Q"; bound = One a }
    ∷ record { name = codes "R"; bound = One s } ∷ []

abbrev added_at : ℕ → ℕ → ℕ → ℕ → ℕ → ℕ → List Local
added_at k t m a s u =
    numbered (codes "i") k ∷ numbered (codes "t") t ∷ numbered (codes "m") m ∷ record { name = codes "Q"; bound = One a }
    ∷ record { name = codes "R"; bound = One s } ∷ numbered (codes "u") u ∷ []

-- a loop forks its indexes and nothing else
indexes_quiet : (Q : Job → Type 0) (call : CallTree) (i n : ℕ) → ((k : ℕ) → i ≤ k → k < i + n → Q (Index call k)) → (j : ℕ) → j ≡ n
    → Quiet Q 0 j (indexes call i n (λ _. Stop None))
unfolding ◌>>=◌ give script.fork
indexes_quiet Q call i zero all j e = (refl, refl, e)
indexes_quiet Q call i (suc n) all j e = (
  0,
  n,
  refl,
  omega (arith, e),
  all i (omega arith) (omega arith),
  indexes_quiet Q call (suc i) n (λ k le lt. all k (omega (arith, le)) (omega (arith, lt))) n refl,
)

loop_quiet : (p : Program) (call : CallTree) (n : ℕ) → call_body lost p call call.task ≡ indexes call 0 n → ((k : ℕ) → k < n → IsLeaf p (Index call k))
    → Quiet (IsLeaf p) 0 n (script_of p (Whole call))
unfolding script_with ◌>>=◌
loop_quiet p call n is all =
    (zeroing_calm (IsLeaf p) (width_of p.families) call.accesses).rest 0 n (λ _. call_body lost p call call.task (λ _. Stop None)) (λ _ _.
    subst (λ m. Quiet (IsLeaf p) 0 n (m (λ _. Stop None))) (sym is) (indexes_quiet (IsLeaf p) call 0 n (λ k le lt. all k (omega (arith, lt))) n refl))

module _ (size : ℕ) (few : size ≤ 1024) where
  abbrev p : Program
  p = scan_program size

  abbrev site : Site
  site = site_of p true 0

  abbrev inner : Site
  inner = site_of p false 1

  row_width : (o : ℕ) → o < size → width_of p.families o ≡ 16
  row_width o lt = let first : nat_lt o size ≡ true = grind (arith, nat_tests) in rw first refl

  sums_width : width_of p.families (0 + size) ≡ size
  sums_width =
      let past : nat_lt (0 + size) size ≡ false = grind (arith, nat_tests) in
      let one : nat_lt (0 + size - size) 1 ≡ true = grind (arith, nat_tests) in
      rw (past, one) refl

  -- ---- an index

  one_passes : (k t a u : ℕ) → k < 16 → a < size → u < size
      → Passes (Nothing p) lost inner (added_at k t size a (0 + size) u) 1 0 0 (stmt_of lost (one_added (on 5)))
  one_passes k t a u lk la lu =
      let L = added_at k t size a (0 + size) u in
      let view : View = seen_at (Nothing p) lost inner L 5 in
      let at_row : nat_lt k 16 ≡ true = grind (arith, nat_tests) in
      let at_sum : nat_lt u size ≡ true = grind (arith, nat_tests) in
      passes_fold (Nothing p) lost inner (on 5) (codes "R") (Var (codes "u") (on 5)) Add (Elem (codes "Q") (on 5) (Var (codes "i") (on 5))) L (0 + size) u
      (object_is lost (codes "R") (0 + size) view refl) (value_var lost (codes "u") (on 5) u view refl)
      (elem_calm (Nothing p) lost inner (codes "Q") (on 5) (Var (codes "i") (on 5)) a k view (object_is lost (codes "Q") a view refl)
      (value_var lost (codes "i") (on 5) k view refl) (ap (nat_lt k) (row_width a la) ∙ at_row)) (ap (nat_lt u) sums_width ∙ at_sum)

  index_quiet : (k t a : ℕ) → k < 16 → t < size → a < size → IsLeaf p (Index (sums_call t size a (0 + size)) k)
  unfolding script_with ◌>>=◌
  index_quiet k t a lk lt la =
      let L = index_at k t size a (0 + size) in
      let view : View = seen_at (Nothing p) lost inner L 4 in
      let from : Expr = Bin B.Add (Var (codes "t") (on 4)) (Num 1) in
      let to : Expr = Var (codes "m") (on 4) in
      let turns = size - (t + 1) in
      let small : t + 1 < 2 ^ 64 = omega (arith, lt, few) in
      let steps : times turns 2 ≤ 2048 = times_le turns 1024 2 2 (omega (arith, few)) (omega arith) in
      let stmt = each (on 4) (codes "u") from to (one_added (on 5) ∷ []) in
      let calm = statements_calm (Nothing p) lost inner L (stmt ∷ []) (suc (times turns 2)) (times turns 0) (times turns 0)
      (passes_one (Nothing p) lost inner L (suc (times turns 2)) (times turns 0) (times turns 0) (stmt_of lost stmt)
      (passes_each (Nothing p) lost inner (on 4) (codes "u") from to (one_added (on 5) ∷ []) L (t + 1) size 1 0 0
      (value_bin lost B.Add (Var (codes "t") (on 4)) (Num 1) t 1 (t + 1) view (value_var lost (codes "t") (on 4) t view refl) (value_num lost 1 view) (ap Some (mod-eq_of_lt small)))
      (value_var lost (codes "m") (on 4) size view refl) refl (λ v. refl) (λ u low high.
      passes_one (Nothing p) lost inner (added_at k t size a (0 + size) u) 1 0 0 (stmt_of lost (one_added (on 5))) (one_passes k t a u lk la high))))
      (omega (arith, steps)) (times_none turns) (times_none turns) in
      calm.rest 0 0 (λ _. Stop None) (λ _ _. (refl, refl, refl))

  sums_child : (t a : ℕ) → t < size → a < size → IsChild p (Whole (sums_call t size a (0 + size)))
  sums_child t a lt la = loop_quiet p (sums_call t size a (0 + size)) 16 refl (λ k lk. index_quiet k t a lk lt la)

  scan_child : (t a : ℕ) → t < size → a < size → IsChild p (Whole (scan_call t a (0 + size)))
  scan_child t a lt la =
      let below : nat_lt t size ≡ true = grind (arith, nat_tests) in
      call_quiet (IsLeaf p) p (scan_call t a (0 + size))
      (scan_calm (IsLeaf p) (width_of p.families) 16 t (0 + size) a (rw (row_width a la, sums_width, below) refl))

  -- ---- main

  sums_pass : Passes (IsChild p) lost site [] (suc (times size 2)) (times size 1) (times size 16) (stmt_of lost (sum_all size))
  sums_pass =
      let at = on 10 in
      let args = bare at (codes "t") ∷ number at size ∷ member at (codes "A") (Var (codes "t") at) ∷ bare at (codes "P") ∷ [] in
      passes_below (IsChild p) lost site (on 9) (codes "t") size (fork at (codes "sums") (Some (Num 16)) args) [] 1 1 16 refl (λ v. refl) (λ t lt.
      let v : View = seen_at (IsChild p) lost site (turn_at t) 10 in
      let t_is = value_var lost (codes "t") at t v refl in
      let call = sums_call t size (0 + t) (0 + size) in
      let clear = two_apart (one_object (0 + t) R) (one_object (0 + size) (Cw Add))
      (apart (one_object (0 + t) R) (one_object (0 + size) (Cw Add)) (below_apart (0 + t) (0 + size) (omega (arith, lt)))) in
      passes_fork (IsChild p) lost site at (codes "sums") (Some (Num 16)) args (turn_at t) call
      (forked lost _ (target 1 sums) (Some (Num 16)) args v 16 (record { ints = call.ints; accesses = call.accesses }) refl
      (length_given lost (Num 16) 16 v (value_num lost 16 v) refl)
      (more_given lost _ _ _ _ v _ _ _ (int_given lost at (Var (codes "t") at) t v _ t_is)
      (more_given lost _ _ _ _ v _ _ _ (int_given lost at (Num size) size v _ (value_num lost size v))
      (more_given lost _ _ _ _ v _ _ _ (member_given lost at (codes "A") (Var (codes "t") at) R 0 (0 + size) t (0 + t) v _ refl t_is refl (omega (arith, lt)))
      (more_given lost _ _ _ _ v _ _ _ (single_given lost at (codes "P") (Cw Add) (0 + size) v _ refl)
      (none_given lost v _))))) clear refl) (sums_child t (0 + t) lt (omega (arith, lt))))

  scans_pass : Passes (IsChild p) lost site [] (suc (times size 2)) (times size 1) (times size 0) (stmt_of lost (scan_all size))
  scans_pass =
      let at = on 13 in
      let args = number at 16 ∷ bare at (codes "t") ∷ bare at (codes "P") ∷ member at (codes "A") (Var (codes "t") at) ∷ [] in
      passes_below (IsChild p) lost site (on 12) (codes "t") size (fork at (codes "k_scan") None args) [] 1 1 0 refl (λ v. refl) (λ t lt.
      let v : View = seen_at (IsChild p) lost site (turn_at t) 13 in
      let t_is = value_var lost (codes "t") at t v refl in
      let call = scan_call t (0 + t) (0 + size) in
      let clear = two_apart (one_object (0 + size) R) (one_object (0 + t) X)
      (apart (one_object (0 + size) R) (one_object (0 + t) X) (above_apart (0 + size) (0 + t) (omega (arith, lt)))) in
      passes_fork (IsChild p) lost site at (codes "k_scan") None args (turn_at t) call
      (forked lost _ scan None args v 0 (record { ints = call.ints; accesses = call.accesses }) refl (no_length lost v)
      (more_given lost _ _ _ _ v _ _ _ (int_given lost at (Num 16) 16 v _ (value_num lost 16 v))
      (more_given lost _ _ _ _ v _ _ _ (int_given lost at (Var (codes "t") at) t v _ t_is)
      (more_given lost _ _ _ _ v _ _ _ (single_given lost at (codes "P") R (0 + size) v _ refl)
      (more_given lost _ _ _ _ v _ _ _ (member_given lost at (codes "A") (Var (codes "t") at) X 0 (0 + size) t (0 + t) v _ refl t_is refl (omega (arith, lt)))
      (none_given lost v _))))) clear refl) (scan_child t (0 + t) lt (omega (arith, lt))))

pub scan_completes : KindCompletes Scan
scan_completes size h input =
    let p = scan_program size in
    let few : size ≤ 1024 = h.1 in
    let steps : times size 2 ≤ 2048 = times_le size 1024 2 2 few (omega arith) in
    let many : times size 1 ≡ size = times_is size 1 ∙ mul-one size in
    let some : times size 16 ≡ size * 16 = times_is size 16 in
    let none : times size 0 ≡ 0 = times_none size in
    let body = sum_all size ∷ scan_all size ∷ [] in
    let c = suc (times size 2) + suc (times size 2) in
    let t = times size 1 + times size 1 in
    let i = times size 16 + times size 0 in
    completes p t i (2 * size + 1) (16 * size)
    (main_quiet (IsChild p) p.families (sums ∷ []) 8 body 16 c t i
    (passes_more (IsChild p) lost (site_of p true 0) [] _ _ _ _ _ _ _ (map (stmt_of lost) (scan_all size ∷ [])) (sums_pass size few)
    (passes_one (IsChild p) lost (site_of p true 0) [] _ _ _ (stmt_of lost (scan_all size)) (scans_pass size few))) (omega (arith, steps)))
    (omega (arith, many)) (omega (arith, some, none)) (omega (arith, few)) (omega (arith, few)) input
