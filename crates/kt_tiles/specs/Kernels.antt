-- Which calls are kernels', and parts of a kernel as the code has them.
use Rattle.std.specs.Prelude.{ℕ, ◌*◌, ◌<◌, Bool, ◌&&◌, List, nat_le, nat_lt, slice_index}
use Rattle.kt_law.specs.Acts.{Store, Fold}
use Rattle.kt_law.specs.PlainKernels.{mul_of, minplus_of, stencil_of, scan_of}
use Rattle.kt_law.specs.declared.accesses.Access.{Access}
use Rattle.kt_law.specs.declared.limits.TheConstants.{DEFINITIONS}
use Rattle.kt_law.specs.declared.operators.Op.{Op}
use Rattle.kt_law.specs.declared.operators.Op.TheVariants.{Add, Min}
use Rattle.kt_prog.specs.Calls.{CallTree}
use Rattle.kt_prog.specs.Kernels.{has, is_side, load_all, object_at, perform_all, product, stencil_body, scan_body}
use Rattle.kt_prog.specs.Script.{Step, ◌>>=◌, load}
use Rattle.kt_tiles.specs.declared.products.Product.{Product}
use Rattle.kt_tiles.specs.declared.products.Ring.{Ring}
use Rattle.kt_tiles.specs.declared.products.Ring.TheVariants as R
use Rattle.kt_tiles.specs.declared.lines.Line.{Line}
use Rattle.kt_tiles.specs.declared.lines.Sum.{Sum}

-- a kernel's call
abbrev pub IsKernel : CallTree → Type 0
IsKernel call = DEFINITIONS < call.task

abbrev pub made_by : Ring → ℕ → ℕ → ℕ → List ℕ → List ℕ → List ℕ
made_by R.Wrapping = mul_of
made_by R.Tropical = minplus_of

abbrev pub op_of : Ring → Op
op_of R.Wrapping = Add
op_of R.Tropical = Min

-- the test of a product
abbrev pub fits_product : (ℕ → ℕ) → Product → Bool
fits_product widths s =
    is_side s.n && is_side s.p && is_side s.q && has widths s.a (s.n * s.p) && has widths s.b (s.p * s.q) && has widths s.c (s.n * s.q)

abbrev pub product_in : (ℕ → ℕ) → Ring → Product → Step (Unit {0})
product_in widths ring s = product widths (made_by ring) (Fold (op_of ring)) s.n s.p s.q s.a s.b s.c

-- behind its test
abbrev pub product_loaded : Ring → Product → Step (Unit {0})
product_loaded ring s = do
  xs ← load_all s.a 0 (s.n * s.p)
  ys ← load_all s.b 0 (s.p * s.q)
  perform_all (Fold (op_of ring)) s.c 0 (made_by ring s.n s.p s.q xs ys)

abbrev pub fits_line : (ℕ → ℕ) → Line → Bool
fits_line widths s = is_side s.n && has widths s.left s.n && has widths s.row s.n && has widths s.right s.n && has widths s.out s.n

abbrev pub line_in : (ℕ → ℕ) → Line → Step (Unit {0})
line_in widths s = stencil_body widths s.n s.left s.row s.right s.out

-- a row that isn't empty, behind its test
abbrev pub line_loaded : Line → ℕ → Step (Unit {0})
line_loaded s last = do
  left ← load s.left last
  row ← load_all s.row 0 s.n
  right ← load s.right 0
  perform_all Store s.out 0 (stencil_of left row right)

abbrev pub fits_sum : (ℕ → ℕ) → Sum → Bool
fits_sum widths s = is_side s.n && has widths s.row s.n && nat_lt s.first (widths s.start)

abbrev pub sum_in : (ℕ → ℕ) → Sum → Step (Unit {0})
sum_in widths s = scan_body widths s.n s.first s.start s.row

abbrev pub sum_loaded : Sum → Step (Unit {0})
sum_loaded s = do
  start ← load s.start s.first
  row ← load_all s.row 0 s.n
  perform_all Store s.row 0 (scan_of start row)

-- what the ints and the accesses of a call are to a kernel, in order
abbrev pub product_given : List ℕ → List Access → Product
product_given ints accesses = record {
  n = slice_index ints 0;
  p = slice_index ints 1;
  q = slice_index ints 2;
  a = object_at accesses 0;
  b = object_at accesses 1;
  c = object_at accesses 2;
}

abbrev pub line_given : List ℕ → List Access → Line
line_given ints accesses = record {
  n = slice_index ints 0;
  left = object_at accesses 0;
  row = object_at accesses 1;
  right = object_at accesses 2;
  out = object_at accesses 3;
}

abbrev pub sum_given : List ℕ → List Access → Sum
sum_given ints accesses = record {
  n = slice_index ints 0;
  first = slice_index ints 1;
  start = object_at accesses 0;
  row = object_at accesses 1;
}
