-- The generated programs are written: their canonical texts are jobs of them, whatever stands behind.
use Rattle.std.proofs.Common.{◌≤◌, ◌<◌, Bool, true, false, ℕ, suc, ◌+◌, ◌*◌, ◌^◌, List, [], ◌∷◌, Some, None, codes, refl, ap, arith}
use Rattle.std.specs.Prelude.{◌||◌}
use Rattle.std.proofs.lemmas.Nat.{mul-le}
use Rattle.kt_law.specs.declared.modes.Mode.TheVariants.{R, W, Cw}
use Rattle.kt_law.specs.declared.operators.BinOp.{BinOp}
use Rattle.kt_law.specs.declared.operators.BinOp.TheVariants as B
use Rattle.kt_law.specs.declared.operators.Op.TheVariants as O
use Rattle.kt_law.specs.declared.places.Place.{Place}
use Rattle.kt_prog.specs.declared.programs.Arg.{Arg}
use Rattle.kt_prog.specs.declared.programs.ArgWhat.TheVariants.{Value}
use Rattle.kt_prog.specs.declared.programs.Expr.{Expr, Num, Var, Elem, Bin}
use Rattle.kt_prog.specs.declared.programs.Program.{Program}
use Rattle.kt_prog.specs.declared.programs.Stmt.{Stmt}
use Rattle.kt_print.specs.CanonicalExpressions.{left_grouped, level_of, printed, right_grouped}
use Rattle.kt_print.specs.declared.printing.operators.Level.{Level}
use Rattle.kt_print.specs.declared.printing.operators.Level.TheVariants.{Comparison, Sum, Product, Atom}
use Rattle.kt_text.specs.declared.commands.Kind.{Kind}
use Rattle.kt_text.specs.declared.commands.Kind.TheVariants.{Mul, Walks, Stencil, Scan}
use Rattle.kt_tokens.specs.Words.{reserved}
use Rattle.kt_canon.specs.Laws.{IsJobAgain, IsWritten}
use Rattle.kt_canon.proofs.FineTokens.{IsFreeWord}
use Rattle.kt_canon.proofs.Fits.{MayOpen, is_not_le}
use Rattle.kt_canon.proofs.Scanning.{free_word}
use Rattle.kt_canon.proofs.PrintedExpressions.{IsPrinted, bin_depth, bin_printed, bin_size, elem_printed, num_printed, plus_most, var_printed}
use Rattle.kt_canon.proofs.PrintedPrograms as P
use Rattle.kt_canon.proofs.PrintedStatements as S
use Rattle.kt_canon.proofs.ReadAgain.{job_again}
use Rattle.kt_gen.proofs.Rounds.{few_rounds}
use Rattle.kt_gen.specs.Jobs.{IsSize}
use Rattle.kt_gen.specs.Texts.{rounds_of}
use Rattle.kt_gen.specs.Trees.{bare, below, copies, copy, each, fork, member, mul_program, number, on, one_added, one_copied, program_of, range, round, scan_program, smooth, stencil_program, sums, tile, tile_args, tiles, walks_program}

-- ---- words

a_free : IsFreeWord (codes "A")
unfolding reserved
a_free = free_word (codes "A") refl refl

b_free : IsFreeWord (codes "B")
unfolding reserved
b_free = free_word (codes "B") refl refl

c_free : IsFreeWord (codes "C")
unfolding reserved
c_free = free_word (codes "C") refl refl

d_free : IsFreeWord (codes "D")
unfolding reserved
d_free = free_word (codes "D") refl refl

e_free : IsFreeWord (codes "E")
unfolding reserved
e_free = free_word (codes "E") refl refl

p_free : IsFreeWord (codes "P")
unfolding reserved
p_free = free_word (codes "P") refl refl

q_free : IsFreeWord (codes "Q")
unfolding reserved
q_free = free_word (codes "Q") refl refl

r_free : IsFreeWord (codes "R")
unfolding reserved
r_free = free_word (codes "R") refl refl

h_free : IsFreeWord (codes "h")
unfolding reserved
h_free = free_word (codes "h") refl refl

i_free : IsFreeWord (codes "i")
unfolding reserved
i_free = free_word (codes "i") refl refl

j_free : IsFreeWord (codes "j")
unfolding reserved
j_free = free_word (codes "j") refl refl

k_free : IsFreeWord (codes "k")
unfolding reserved
k_free = free_word (codes "k") refl refl

m_free : IsFreeWord (codes "m")
unfolding reserved
m_free = free_word (codes "m") refl refl

t_free : IsFreeWord (codes "t")
unfolding reserved
t_free = free_word (codes "t") refl refl

u_free : IsFreeWord (codes "u")
unfolding reserved
u_free = free_word (codes "u") refl refl

copy_free : IsFreeWord (codes "copy")
unfolding reserved
copy_free = free_word (codes "copy") refl refl

sums_free : IsFreeWord (codes "sums")
unfolding reserved
sums_free = free_word (codes "sums") refl refl

mul_free : IsFreeWord (codes "k_mul")
unfolding reserved
mul_free = free_word (codes "k_mul") refl refl

minplus_free : IsFreeWord (codes "k_minplus")
unfolding reserved
minplus_free = free_word (codes "k_minplus") refl refl

stencil_free : IsFreeWord (codes "k_stencil")
unfolding reserved
stencil_free = free_word (codes "k_stencil") refl refl

scan_free : IsFreeWord (codes "k_scan")
unfolding reserved
scan_free = free_word (codes "k_scan") refl refl

-- ---- expressions of at most so many tokens and so deep

bin_few : (l la lb : Level) (sa sb : ℕ) → bin_size l la lb sa sb ≤ (sa + sb) + 5
bin_few Comparison la lb sa sb = omega (arith, plus_most (left_grouped Comparison la) 2 sa, plus_most (right_grouped Comparison lb) 2 sb)
bin_few Sum la lb sa sb = omega (arith, plus_most (left_grouped Sum la) 2 sa, plus_most (right_grouped Sum lb) 2 sb)
bin_few Product la lb sa sb = omega (arith, plus_most (left_grouped Product la) 2 sa, plus_most (right_grouped Product lb) 2 sb)
bin_few Atom la lb sa sb = omega arith

bin_low : (l la lb : Level) (da db : ℕ) → bin_depth l la lb da db ≤ (da + db) + 1
bin_low Comparison la lb da db = omega (arith, plus_most (left_grouped Comparison la) 1 da, plus_most (right_grouped Comparison lb) 1 db)
bin_low Sum la lb da db = omega (arith, plus_most (left_grouped Sum la) 1 da, plus_most (right_grouped Sum lb) 1 db)
bin_low Product la lb da db = omega (arith, plus_most (left_grouped Product la) 1 da, plus_most (right_grouped Product lb) 1 db)
bin_low Atom la lb da db = omega arith

-- the limits of jobs
abbrev brackets : ℕ
brackets = 64

abbrev tokens : ℕ
tokens = 256

record Short (e : Expr) (k d : ℕ) : Type 0 where
  printed_so : IsPrinted brackets tokens e
  few : printed_so.size ≤ k
  low : printed_so.depth ≤ d

short_num : (n : ℕ) → n < 2 ^ 64 → Short (Num n) 1 0
short_num n small = record { printed_so = num_printed brackets tokens n small; few = omega arith; low = omega arith }

short_var : (name : List ℕ) (p : Place) → IsFreeWord name → Short (Var name p) 1 0
short_var name p w = record { printed_so = var_printed brackets tokens name p w; few = omega arith; low = omega arith }

short_elem : (name : List ℕ) (p : Place) (e : Expr) (k d : ℕ) → IsFreeWord name → Short e k d → Short (Elem name p e) (k + 3) (d + 1)
short_elem name p e k d w s = record {
  printed_so = elem_printed brackets tokens name p e w s.printed_so;
  few = omega (arith, s.few);
  low = omega (arith, s.low);
}

short_bin : (op : BinOp) (a b : Expr) (k l d c : ℕ) → Short a k d → Short b l c → Short (Bin op a b) ((k + l) + 5) ((d + c) + 1)
short_bin op a b k l d c s t = record {
  printed_so = bin_printed brackets tokens op a b s.printed_so t.printed_so;
  few = omega (arith, s.few, t.few, bin_few (level_of op) (printed a).level (printed b).level s.printed_so.size t.printed_so.size);
  low = omega (arith, s.low, t.low, bin_low (level_of op) (printed a).level (printed b).level s.printed_so.depth t.printed_so.depth);
}

outer : (f : Bool) (n : ℕ) (e : Expr) (k d : ℕ) → Short e k d → k ≤ tokens → n + d ≤ brackets → S.OuterPrinted brackets tokens f n e
outer f n e k d s few deep = S.outer_printed brackets tokens f n e s.printed_so (omega (arith, s.few)) (omega (arith, s.low))

-- ---- arguments, where n brackets are open

abbrev ArgPrinted : ℕ → Arg → Type 0
ArgPrinted n a = S.ArgPrinted brackets tokens n a

value_printed : (n : ℕ) (at : Place) (e : Expr) (k d : ℕ) → Short e k d → k ≤ tokens → n + d ≤ brackets → ArgPrinted n (record { place = at; what = Value e })
value_printed n at e k d s few deep = S.value_prints brackets tokens n e at (outer true n e k d s few deep)

number_printed : (n : ℕ) (at : Place) (m : ℕ) → m < 2 ^ 64 → n ≤ brackets → ArgPrinted n (number at m)
number_printed n at m small deep = value_printed n at (Num m) 1 0 (short_num m small) (omega arith) (omega arith)

bare_printed : (n : ℕ) (at : Place) (name : List ℕ) → IsFreeWord name → n ≤ brackets → ArgPrinted n (bare at name)
bare_printed n at name w deep = value_printed n at (Var name at) 1 0 (short_var name at w) (omega arith) (omega arith)

member_printed : (n : ℕ) (at : Place) (name : List ℕ) (e : Expr) (k d : ℕ) → IsFreeWord name → Short e k d → k + 3 ≤ tokens → n + (d + 1) ≤ brackets →
    ArgPrinted n (member at name e)
member_printed n at name e k d w s few deep = value_printed n at (Elem name at e) (k + 3) (d + 1) (short_elem name at e k d w s) few deep

tile_printed : (n : ℕ) (at : Place) (name row : List ℕ) (size : ℕ) (column : List ℕ) → IsFreeWord name → IsFreeWord row → IsFreeWord column → size < 2 ^ 64 →
    n ≤ 50 → ArgPrinted n (tile at name row size column)
tile_printed n at name row size column w r c small deep =
    let product = short_bin B.Mul (Var row at) (Num size) 1 1 0 0 (short_var row at r) (short_num size small) in
    member_printed n at name _ _ _ w (short_bin B.Add _ (Var column at) _ 1 _ 0 product (short_var column at c)) (omega arith) (omega arith)

abbrev ArgsPrinted : ℕ → List Arg → Type 0
ArgsPrinted n args = S.ArgsPrinted brackets tokens n args

last_arg : (n : ℕ) (a : Arg) → ArgPrinted n a → ArgsPrinted n (a ∷ [])
last_arg n a h = S.one_printed brackets tokens n a h

more_args : (n : ℕ) (a b : Arg) (args : List Arg) → ArgPrinted n a → ArgsPrinted n (b ∷ args) → ArgsPrinted n (a ∷ b ∷ args)
more_args n a b args h k = S.more_printed brackets tokens n a (b ∷ args) refl h k

-- ---- statements, where m brackets are open

abbrev StmtPrinted : ℕ → Stmt → Type 0
StmtPrinted m x = S.StmtPrinted brackets tokens m x

abbrev BlockPrinted : ℕ → List Stmt → Type 0
BlockPrinted m body = S.BlockPrinted brackets tokens m body

may : (m : ℕ) → m < brackets → MayOpen brackets tokens m
may m h = ap (λ (b : Bool). b || false) (is_not_le brackets m h)

last_stmt : (m : ℕ) (x : Stmt) → StmtPrinted m x → BlockPrinted m (x ∷ [])
last_stmt m x h = S.more_stmts brackets tokens m x [] h (S.no_stmts brackets tokens m)

more_stmts : (m : ℕ) (x : Stmt) (xs : List Stmt) → StmtPrinted m x → BlockPrinted m xs → BlockPrinted m (x ∷ xs)
more_stmts m x xs h k = S.more_stmts brackets tokens m x xs h k

fork_printed : (m : ℕ) (at : Place) (name : List ℕ) (args : List Arg) → IsFreeWord name → m < brackets → ArgsPrinted (suc m) args → StmtPrinted m (fork at name None args)
fork_printed m at name args w deep h = S.fork_printed brackets tokens m name at at None args w (may m deep) (S.plain_printed brackets tokens (suc m) args h)

each_printed : (m : ℕ) (at : Place) (v : List ℕ) (from to : Expr) (k d l c : ℕ) (body : List Stmt) → IsFreeWord v → m < brackets → Short from k d → k ≤ tokens →
    m + d ≤ brackets → Short to l c → l ≤ tokens → m + c ≤ brackets → BlockPrinted (suc m) body → StmtPrinted m (each at v from to body)
each_printed m at v from to k d l c body w deep f few low t few_too low_too h =
    S.for_printed brackets tokens m v at at from to body w (may m deep) (outer false m from k d f few low) (outer false m to l c t few_too low_too) h

below_printed : (m : ℕ) (at : Place) (v : List ℕ) (to : ℕ) (inner : Stmt) → IsFreeWord v → to < 2 ^ 64 → m < brackets → StmtPrinted (suc m) inner →
    StmtPrinted m (below at v to inner)
below_printed m at v to inner w small deep h =
    each_printed m at v (Num 0) (Num to) 1 0 1 0 (inner ∷ []) w deep (short_num 0 (omega arith)) (omega arith) (omega arith) (short_num to small) (omega arith) (omega arith)
    (last_stmt (suc m) inner h)

tiles_printed : (m line size : ℕ) (kernel a b c : List ℕ) → m < 10 → size < 2 ^ 64 → IsFreeWord kernel → IsFreeWord a → IsFreeWord b → IsFreeWord c →
    StmtPrinted m (tiles line size kernel a b c)
tiles_printed m line size kernel a b c deep small w wa wb wc =
    let at = on (line + 3) in
    let n : ℕ = suc (suc (suc (suc m))) in
    let sixteen = number_printed n at 16 (omega arith) (omega arith) in
    let args =
    more_args n _ _ _ sixteen (more_args n _ _ _ sixteen (more_args n _ _ _ sixteen
    (more_args n _ _ _ (tile_printed n at a (codes "i") size (codes "k") wa i_free k_free small (omega arith))
    (more_args n _ _ _ (tile_printed n at b (codes "k") size (codes "j") wb k_free j_free small (omega arith))
    (last_arg n _ (tile_printed n at c (codes "i") size (codes "j") wc i_free j_free small (omega arith))))))) in
    below_printed m (on line) (codes "i") size _ i_free small (omega arith) (below_printed (suc m) (on (line + 1)) (codes "j") size _ j_free small (omega arith)
    (below_printed (suc (suc m)) (on (line + 2)) (codes "k") size _ k_free small (omega arith)
    (fork_printed (suc (suc (suc m))) at kernel (tile_args at size a b c) w (omega arith) args)))

-- ---- declarations

range_printed : (at : Place) (name : List ℕ) (members elements : ℕ) (input output : Bool) → IsFreeWord name → members < 2 ^ 64 → elements < 2 ^ 64 →
    P.FamilyPrinted brackets tokens (range at name members elements input output)
range_printed at name members elements input output w some small =
    P.family_printed brackets tokens name at true input output members elements w small (P.range_printed brackets tokens members some refl refl)

main_printed : (at : Place) (body : List Stmt) → BlockPrinted 1 body → P.MainPrinted brackets tokens (record { place = at; body = body })
main_printed at body h = P.main_printed brackets tokens at body refl h

abbrev ProgramPrinted : Program → Type 0
ProgramPrinted p = P.ProgramPrinted brackets tokens p

-- ---- the programs

mul_printed : (size : ℕ) → size ≤ 25 → ProgramPrinted (mul_program size)
mul_printed size high =
    let q : ℕ = size * size in
    let few : q ≤ 25 * 25 = mul-le size size 25 25 high high in
    record {
      families = (
        range_printed (on 1) (codes "A") q 256 true false a_free (omega arith) (omega arith),
        (
          range_printed (on 2) (codes "B") q 256 true false b_free (omega arith) (omega arith),
          (range_printed (on 3) (codes "C") q 256 false true c_free (omega arith) (omega arith), tt),
        ),
      );
      tasks = tt;
      mains = (main_printed (on 4) _ (last_stmt 1 _ (tiles_printed 1 5 size (codes "k_mul") (codes "A") (codes "B") (codes "C") (omega arith) (omega arith) mul_free a_free b_free c_free)), tt);
    }

copies_printed : (m line members : ℕ) (from to : List ℕ) → m < 10 → members < 2 ^ 64 → IsFreeWord from → IsFreeWord to → StmtPrinted m (copies line members from to)
copies_printed m line members from to deep small wf wt =
    let at = on (line + 1) in
    let t = short_var (codes "t") at t_free in
    let args = more_args (suc (suc m)) _ _ [] (member_printed (suc (suc m)) at from _ 1 0 wf t (omega arith) (omega arith))
    (last_arg (suc (suc m)) _ (member_printed (suc (suc m)) at to _ 1 0 wt t (omega arith) (omega arith))) in
    below_printed m (on line) (codes "t") members _ t_free small (omega arith) (fork_printed (suc m) at (codes "copy") _ copy_free (omega arith) args)

copy_printed : P.TaskPrinted brackets tokens copy
copy_printed =
    let params = P.some_printed brackets tokens _ refl (P.more_printed brackets tokens _ _ refl
    (P.direct_printed brackets tokens (codes "P") (on 3) (on 3) R p_free (P.plain_direct brackets tokens R tt))
    (P.one_printed brackets tokens _ (P.direct_printed brackets tokens (codes "R") (on 3) (on 3) W r_free (P.plain_direct brackets tokens W tt)))) in
    let i = short_var (codes "i") (on 5) i_free in
    let copied = S.store_printed brackets tokens 2 (codes "R") (on 5) (on 5) (Var (codes "i") (on 5)) (Elem (codes "P") (on 5) (Var (codes "i") (on 5))) r_free refl
    (outer false 3 (Var (codes "i") (on 5)) 1 0 i (omega arith) (omega arith))
    (outer false 2 (Elem (codes "P") (on 5) (Var (codes "i") (on 5))) 4 1 (short_elem (codes "P") (on 5) _ 1 0 p_free i) (omega arith) (omega arith)) in
    P.task_printed brackets tokens (codes "copy") (on 3) _ _ copy_free refl params
    (last_stmt 1 _ (below_printed 1 (on 4) (codes "i") 256 (one_copied (on 5)) i_free (omega arith) (omega arith) copied))

small_rounds : (size : ℕ) → rounds_of size < 2 ^ 64
small_rounds size = omega (arith, few_rounds size)

walks_printed : (size : ℕ) → size ≤ 12 → ProgramPrinted (walks_program size)
walks_printed size high =
    let q : ℕ = size * size in
    let few : q ≤ 12 * 12 = mul-le size size 12 12 high high in
    let rounds =
    more_stmts 2 _ _ (copies_printed 2 10 q (codes "D") (codes "E") (omega arith) (omega arith) d_free e_free)
    (more_stmts 2 _ _ (tiles_printed 2 13 size (codes "k_minplus") (codes "D") (codes "D") (codes "E") (omega arith) (omega arith) minplus_free d_free d_free e_free)
    (more_stmts 2 _ _ (copies_printed 2 20 q (codes "E") (codes "D") (omega arith) (omega arith) e_free d_free)
    (last_stmt 2 _ (tiles_printed 2 23 size (codes "k_minplus") (codes "E") (codes "E") (codes "D") (omega arith) (omega arith) minplus_free e_free e_free d_free)))) in
    let body = last_stmt 1 _ (each_printed 1 (on 9) (codes "h") (Num 0) (Num (rounds_of size)) 1 0 1 0 (round size) h_free (omega arith)
    (short_num 0 (omega arith)) (omega arith) (omega arith) (short_num (rounds_of size) (small_rounds size)) (omega arith) (omega arith) rounds) in
    record {
      families = (
        range_printed (on 1) (codes "D") q 256 true true d_free (omega arith) (omega arith),
        (range_printed (on 2) (codes "E") q 256 false false e_free (omega arith) (omega arith), tt),
      );
      tasks = (copy_printed, tt);
      mains = (main_printed (on 8) _ body, tt);
    }

smooth_printed : (m line size : ℕ) (from to : List ℕ) → m < 10 → size ≤ 1024 → IsFreeWord from → IsFreeWord to → StmtPrinted m (smooth line size from to)
smooth_printed m line size from to deep small wf wt =
    let at = on (line + 1) in
    let n : ℕ = suc (suc m) in
    let j = short_var (codes "j") at j_free in
    let one = short_num 1 (omega arith) in
    let args =
    more_args n _ _ _ (number_printed n at 16 (omega arith) (omega arith))
    (more_args n _ _ _ (member_printed n at from _ _ _ wf (short_bin B.Sub _ _ 1 1 0 0 j one) (omega arith) (omega arith))
    (more_args n _ _ _ (member_printed n at from _ 1 0 wf j (omega arith) (omega arith))
    (more_args n _ _ _ (member_printed n at from _ _ _ wf (short_bin B.Add _ _ 1 1 0 0 j one) (omega arith) (omega arith))
    (last_arg n _ (member_printed n at to _ 1 0 wt j (omega arith) (omega arith)))))) in
    each_printed m (on line) (codes "j") (Num 1) (Num (size + 1)) 1 0 1 0 _ j_free (omega arith) one (omega arith) (omega arith) (short_num (size + 1) (omega arith))
    (omega arith) (omega arith) (last_stmt (suc m) _ (fork_printed (suc m) at (codes "k_stencil") _ stencil_free (omega arith) args))

stencil_printed : (size : ℕ) → size ≤ 1024 → ProgramPrinted (stencil_program size)
stencil_printed size high =
    let turn = more_stmts 2 _ _ (smooth_printed 2 5 size (codes "A") (codes "B") (omega arith) high a_free b_free)
    (last_stmt 2 _ (smooth_printed 2 8 size (codes "B") (codes "A") (omega arith) high b_free a_free)) in
    let body = last_stmt 1 _ (each_printed 1 (on 4) (codes "h") (Num 0) (Num 2) 1 0 1 0 _ h_free (omega arith)
    (short_num 0 (omega arith)) (omega arith) (omega arith) (short_num 2 (omega arith)) (omega arith) (omega arith) turn) in
    record {
      families = (
        range_printed (on 1) (codes "A") (size + 2) 16 true true a_free (omega arith) (omega arith),
        (range_printed (on 2) (codes "B") (size + 2) 16 false false b_free (omega arith) (omega arith), tt),
      );
      tasks = tt;
      mains = (main_printed (on 3) _ body, tt);
    }

sums_printed : P.TaskPrinted brackets tokens sums
sums_printed =
    let params = P.some_printed brackets tokens _ refl (P.more_printed brackets tokens _ _ refl (P.int_printed brackets tokens (codes "t") (on 3) (on 3) t_free)
    (P.more_printed brackets tokens _ _ refl (P.int_printed brackets tokens (codes "m") (on 3) (on 3) m_free)
    (P.more_printed brackets tokens _ _ refl (P.direct_printed brackets tokens (codes "Q") (on 3) (on 3) R q_free (P.plain_direct brackets tokens R tt))
    (P.one_printed brackets tokens _ (P.direct_printed brackets tokens (codes "R") (on 3) (on 3) (Cw O.Add) r_free (P.cw_printed brackets tokens O.Add refl)))))) in
    let i = short_var (codes "i") (on 5) i_free in
    let u = short_var (codes "u") (on 5) u_free in
    let t = short_var (codes "t") (on 4) t_free in
    let m = short_var (codes "m") (on 4) m_free in
    let added = S.fold_printed brackets tokens 2 (codes "R") (on 5) (on 5) (Var (codes "u") (on 5)) O.Add (Elem (codes "Q") (on 5) (Var (codes "i") (on 5))) r_free refl
    (outer false 3 (Var (codes "u") (on 5)) 1 0 u (omega arith) (omega arith))
    (outer false 2 (Elem (codes "Q") (on 5) (Var (codes "i") (on 5))) 4 1 (short_elem (codes "Q") (on 5) _ 1 0 q_free i) (omega arith) (omega arith)) in
    P.loop_printed brackets tokens (codes "sums") (codes "i") (on 3) (on 3) _ _ sums_free i_free refl params
    (last_stmt 1 _ (each_printed 1 (on 4) (codes "u") (Bin B.Add (Var (codes "t") (on 4)) (Num 1)) (Var (codes "m") (on 4)) 7 1 1 0 (one_added (on 5) ∷ []) u_free (omega arith)
    (short_bin B.Add _ _ 1 1 0 0 t (short_num 1 (omega arith))) (omega arith) (omega arith) m (omega arith) (omega arith) (last_stmt 2 _ added)))

scan_printed : (size : ℕ) → size ≤ 1024 → ProgramPrinted (scan_program size)
scan_printed size high =
    let t = λ (line : ℕ). short_var (codes "t") (on line) t_free in
    let bare_t = λ (line : ℕ). bare_printed 3 (on line) (codes "t") t_free (omega arith) in
    let bare_p = λ (line : ℕ). bare_printed 3 (on line) (codes "P") p_free (omega arith) in
    let a = λ (line : ℕ). member_printed 3 (on line) (codes "A") _ 1 0 a_free (t line) (omega arith) (omega arith) in
    let first = more_args 3 _ _ _ (bare_t 10) (more_args 3 _ _ _ (number_printed 3 (on 10) size (omega arith) (omega arith)) (more_args 3 _ _ _ (a 10) (last_arg 3 _ (bare_p 10)))) in
    let second = more_args 3 _ _ _ (number_printed 3 (on 13) 16 (omega arith) (omega arith)) (more_args 3 _ _ _ (bare_t 13) (more_args 3 _ _ _ (bare_p 13) (last_arg 3 _ (a 13)))) in
    let long = outer true 3 (Num 16) 1 0 (short_num 16 (omega arith)) (omega arith) (omega arith) in
    let one = below_printed 1 (on 9) (codes "t") size _ t_free (omega arith) (omega arith)
    (S.fork_printed brackets tokens 2 (codes "sums") (on 10) (on 10) (Some (Num 16)) _ sums_free refl (S.length_printed brackets tokens 3 (Num 16) _ refl long first)) in
    let two = below_printed 1 (on 12) (codes "t") size _ t_free (omega arith) (omega arith) (fork_printed 2 (on 13) (codes "k_scan") _ scan_free (omega arith) second) in
    record {
      families = (
        range_printed (on 1) (codes "A") size 16 true true a_free (omega arith) (omega arith),
        (P.family_printed brackets tokens (codes "P") (on 2) false false false 1 size p_free (omega arith) (P.single_printed brackets tokens), tt),
      );
      tasks = (sums_printed, tt);
      mains = (main_printed (on 8) _ (more_stmts 1 _ _ one (last_stmt 1 _ two)), tt);
    }

all_printed : (kind : Kind) (size : ℕ) → IsSize kind size → ProgramPrinted (program_of kind size)
all_printed Mul size h = mul_printed size h.1
all_printed Walks size h = walks_printed size h.1
all_printed Stencil size h = stencil_printed size h.1
all_printed Scan size h = scan_printed size h.1

-- the canonical text is a job of the program, whatever stands behind it
pub read_again : (kind : Kind) (size : ℕ) (behind : List ℕ) → IsSize kind size → IsJobAgain (program_of kind size) behind
read_again kind size behind h =
    job_again (program_of kind size) behind (P.text_again brackets tokens (program_of kind size) behind (all_printed kind size h))

pub written : (kind : Kind) (size : ℕ) → IsSize kind size → IsWritten (program_of kind size)
written kind size h =
    let a = read_again kind size [] h in record { bytes = _; program = a.program; from = _; job = a.job; same = a.same }
