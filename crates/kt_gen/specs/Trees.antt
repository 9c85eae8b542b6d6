-- The generated programs as trees, for the functions that build them. Each part has the place of the first byte of its line.
use Rattle.std.specs.Prelude.{ℕ, ◌+◌, ◌*◌, Bool, true, false, List, [], ◌∷◌, Option, Some, None, codes}
use Rattle.kt_law.specs.declared.modes.Mode.TheVariants.{R, W, Cw}
use Rattle.kt_law.specs.declared.operators.BinOp.TheVariants as B
use Rattle.kt_law.specs.declared.operators.Op.TheVariants as O
use Rattle.kt_law.specs.declared.places.Place.{Place}
use Rattle.kt_prog.specs.declared.programs.Arg.{Arg}
use Rattle.kt_prog.specs.declared.programs.ArgWhat.TheVariants.{Value}
use Rattle.kt_prog.specs.declared.programs.Expr.{Expr, Num, Var, Elem, Bin}
use Rattle.kt_prog.specs.declared.programs.Family.{Family}
use Rattle.kt_prog.specs.declared.programs.Param.{Param}
use Rattle.kt_prog.specs.declared.programs.Program.{Program}
use Rattle.kt_prog.specs.declared.programs.Sort.{Sort}
use Rattle.kt_prog.specs.declared.programs.Sort.TheVariants.{Int, One}
use Rattle.kt_prog.specs.declared.programs.Stmt.{Stmt}
use Rattle.kt_prog.specs.declared.programs.Task.{Task}
use Rattle.kt_prog.specs.declared.programs.What.{Store, Fold, For, Fork}
use Rattle.kt_text.specs.declared.commands.Kind.{Kind}
use Rattle.kt_text.specs.declared.commands.Kind.TheVariants.{Mul, Walks, Stencil, Scan}
use Rattle.kt_gen.specs.Texts.{rounds_of}

abbrev pub on : ℕ → Place
on line = record { line = line; column = 1 }

-- ---- arguments

abbrev pub number : Place → ℕ → Arg
number at n = record { place = at; what = Value (Num n) }

abbrev pub bare : Place → List ℕ → Arg
bare at name = record { place = at; what = Value (Var name at) }

-- `N[E]`
abbrev pub member : Place → List ℕ → Expr → Arg
member at name index = record { place = at; what = Value (Elem name at index) }

-- `N[row * S + column]`
abbrev pub tile : Place → List ℕ → List ℕ → ℕ → List ℕ → Arg
tile at name row size column = member at name (Bin B.Add (Bin B.Mul (Var row at) (Num size)) (Var column at))

-- ---- statements

-- `for v in E..E { .. }`
abbrev pub each : Place → List ℕ → Expr → Expr → List Stmt → Stmt
each at name from to body = record { place = at; what = For name at from to body }

-- `for v in 0..N { .. }` of one statement
abbrev pub below : Place → List ℕ → ℕ → Stmt → Stmt
below at name to inner = each at name (Num 0) (Num to) (inner ∷ [])

abbrev pub fork : Place → List ℕ → Option Expr → List Arg → Stmt
fork at name length args = record { place = at; what = Fork name at length args }

-- ---- declarations

abbrev pub range : Place → List ℕ → ℕ → ℕ → Bool → Bool → Family
range at name members elements input output =
    record { name = name; place = at; many = true; members = members; elements = elements; input = input; output = output }

abbrev pub object : Place → List ℕ → ℕ → Family
object at name elements = record { name = name; place = at; many = false; members = 1; elements = elements; input = false; output = false }

abbrev pub param : Place → List ℕ → Sort → Param
param at name sort = record { place = at; name = name; name_place = at; sort = sort }

abbrev pub program : List Family → List Task → ℕ → List Stmt → ℕ → Program
program families tasks main body end =
    record { families = families; tasks = tasks; mains = record { place = on main; body = body } ∷ []; end = on end }

-- ---- products of tiles

-- the sizes of a tile, and the tiles
abbrev pub tile_args : Place → ℕ → List ℕ → List ℕ → List ℕ → List Arg
tile_args at size a b c =
    number at 16 ∷ number at 16 ∷ number at 16 ∷ tile at a (codes "i") size (codes "k") ∷ tile at b (codes "k") size (codes "j")
    ∷ tile at c (codes "i") size (codes "j") ∷ []

-- three `for`, and in them the fork of this kernel, from this line on
abbrev pub tiles : ℕ → ℕ → List ℕ → List ℕ → List ℕ → List ℕ → Stmt
tiles line size kernel a b c =
    below (on line) (codes "i") size (below (on (line + 1)) (codes "j") size (below (on (line + 2)) (codes "k") size
    (fork (on (line + 3)) kernel None (tile_args (on (line + 3)) size a b c))))

abbrev pub mul_program : ℕ → Program
mul_program size =
    let q = size * size in
    program
    (range (on 1) (codes "A") q 256 true false ∷ range (on 2) (codes "B") q 256 true false ∷ range (on 3) (codes "C") q 256 false true ∷ [])
    [] 4 (tiles 5 size (codes "k_mul") (codes "A") (codes "B") (codes "C") ∷ []) 13

-- ---- walks

-- `R[i] = P[i];`
abbrev pub one_copied : Place → Stmt
one_copied at = record { place = at; what = Store (codes "R") at (Var (codes "i") at) (Elem (codes "P") at (Var (codes "i") at)) }

-- `task copy(r P, w R) { for i in 0..256 { R[i] = P[i]; } }`
abbrev pub copy : Task
copy = record {
  name = codes "copy";
  place = on 3;
  index = None;
  params = param (on 3) (codes "P") (One R) ∷ param (on 3) (codes "R") (One W) ∷ [];
  body = below (on 4) (codes "i") 256 (one_copied (on 5)) ∷ [];
}

-- `for t in 0..Q { fork copy(D[t], E[t]); }`, from this line on
abbrev pub copies : ℕ → ℕ → List ℕ → List ℕ → Stmt
copies line members from to =
    let at = on (line + 1) in
    below (on line) (codes "t") members
    (fork at (codes "copy") None (member at from (Var (codes "t") at) ∷ member at to (Var (codes "t") at) ∷ []))

abbrev pub round : ℕ → List Stmt
round size =
    copies 10 (size * size) (codes "D") (codes "E") ∷ tiles 13 size (codes "k_minplus") (codes "D") (codes "D") (codes "E")
    ∷ copies 20 (size * size) (codes "E") (codes "D") ∷ tiles 23 size (codes "k_minplus") (codes "E") (codes "E") (codes "D") ∷ []

abbrev pub walks_program : ℕ → Program
walks_program size =
    let q = size * size in
    program (range (on 1) (codes "D") q 256 true true ∷ range (on 2) (codes "E") q 256 false false ∷ []) (copy ∷ []) 8
    (each (on 9) (codes "h") (Num 0) (Num (rounds_of size)) (round size) ∷ []) 32

-- ---- stencils

-- the size of a row, the rows before, at and behind j, and the row to be written
abbrev pub row_args : Place → List ℕ → List ℕ → List Arg
row_args at from to =
    let j = Var (codes "j") at in
    number at 16 ∷ member at from (Bin B.Sub j (Num 1)) ∷ member at from j ∷ member at from (Bin B.Add j (Num 1)) ∷ member at to j ∷ []

-- `for j in 1..U { fork k_stencil(16, A[j - 1], A[j], A[j + 1], B[j]); }`, from this line on
abbrev pub smooth : ℕ → ℕ → List ℕ → List ℕ → Stmt
smooth line size from to =
    each (on line) (codes "j") (Num 1) (Num (size + 1))
    (fork (on (line + 1)) (codes "k_stencil") None (row_args (on (line + 1)) from to) ∷ [])

abbrev pub stencil_program : ℕ → Program
stencil_program size =
    program (range (on 1) (codes "A") (size + 2) 16 true true ∷ range (on 2) (codes "B") (size + 2) 16 false false ∷ []) [] 3
    (each (on 4) (codes "h") (Num 0) (Num 2)
    (smooth 5 size (codes "A") (codes "B") ∷ smooth 8 size (codes "B") (codes "A") ∷ []) ∷ []) 13

-- ---- sums

-- `R[u] add= Q[i];`
abbrev pub one_added : Place → Stmt
one_added at = record { place = at; what = Fold (codes "R") at (Var (codes "u") at) O.Add (Elem (codes "Q") at (Var (codes "i") at)) }

-- `loop sums(i; int t, int m, r Q, cw(add) R) { for u in t + 1..m { R[u] add= Q[i]; } }`
abbrev pub sums : Task
sums = record {
  name = codes "sums";
  place = on 3;
  index = Some (record { name = codes "i"; place = on 3 });
  params = param (on 3) (codes "t") Int ∷ param (on 3) (codes "m") Int ∷ param (on 3) (codes "Q") (One R)
      ∷ param (on 3) (codes "R") (One (Cw O.Add)) ∷ [];
  body = each (on 4) (codes "u") (Bin B.Add (Var (codes "t") (on 4)) (Num 1)) (Var (codes "m") (on 4))
      (one_added (on 5) ∷ []) ∷ [];
}

-- `for t in 0..S { fork sums(16; t, S, A[t], P); }`
abbrev pub sum_all : ℕ → Stmt
sum_all size =
    let at = on 10 in
    below (on 9) (codes "t") size (fork at (codes "sums") (Some (Num 16))
    (bare at (codes "t") ∷ number at size ∷ member at (codes "A") (Var (codes "t") at) ∷ bare at (codes "P") ∷ []))

-- `for t in 0..S { fork k_scan(16, t, P, A[t]); }`
abbrev pub scan_all : ℕ → Stmt
scan_all size =
    let at = on 13 in
    below (on 12) (codes "t") size (fork at (codes "k_scan") None
    (number at 16 ∷ bare at (codes "t") ∷ bare at (codes "P") ∷ member at (codes "A") (Var (codes "t") at) ∷ []))

abbrev pub scan_program : ℕ → Program
scan_program size =
    program (range (on 1) (codes "A") size 16 true true ∷ object (on 2) (codes "P") size ∷ []) (sums ∷ []) 8
    (sum_all size ∷ scan_all size ∷ []) 16

abbrev pub program_of : Kind → ℕ → Program
program_of Mul size = mul_program size
program_of Walks size = walks_program size
program_of Stencil size = stencil_program size
program_of Scan size = scan_program size
