-- What the four kernels do. A kernel's fault has line 0.
use Rattle.std.specs.Prelude.{ℕ, zero, suc, ◌*◌, List, [], ◌∷◌, Bool, ◌&&◌, nat_lt, nat_le, slice_index}
use Rattle.kt_law.specs.Acts.{Deed, Store, Fold}
use Rattle.kt_law.specs.PlainKernels.{mul_of, minplus_of, stencil_of, scan_of}
use Rattle.kt_law.specs.declared.limits.TheConstants.{LENGTH}
use Rattle.kt_law.specs.declared.faults.F.TheVariants.{F2}
use Rattle.kt_law.specs.declared.operators.Op.TheVariants.{Add, Min}
use Rattle.kt_law.specs.declared.accesses.Access.{Access}
use Rattle.kt_prog.specs.Script.{Step, ◌>>=◌, ◌>>◌, give, load, perform, tested}

-- n elements of an object, from this one on, in rising order
abbrev pub load_all : ℕ → ℕ → ℕ → Step (List ℕ)
load_all object from zero = give []
load_all object from (suc n) = do
  x ← load object from
  xs ← load_all object (suc from) n
  give (x ∷ xs)

-- the deed of each number, done to one element after another, from this one on
abbrev pub perform_all : (ℕ → Deed) → ℕ → ℕ → List ℕ → Step (Unit {0})
perform_all deed object from [] = give tt
perform_all deed object from (x ∷ xs) = do
  perform object from (deed x)
  perform_all deed object (suc from) xs

-- the object of the k-th access
abbrev pub object_at : List Access → ℕ → ℕ
object_at [] k = 0
object_at (a ∷ accesses) zero = a.lo
object_at (a ∷ accesses) (suc k) = object_at accesses k

-- a side of a tile, or the length of a row, is within the limit
abbrev pub is_side : ℕ → Bool
is_side n = nat_le n LENGTH

module _ (widths : ℕ → ℕ) where
  -- the object has at least so many elements
  abbrev pub has : ℕ → ℕ → Bool
  has object n = nat_le n (widths object)

  -- an n by p tile of a and a p by q tile of b, and what f makes of them for an n by q tile of c
  abbrev pub product : (ℕ → ℕ → ℕ → List ℕ → List ℕ → List ℕ) → (ℕ → Deed) → (n p q : ℕ) → (a b c : ℕ) → Step (Unit {0})
  product f deed n p q a b c = do
    tested (is_side n && is_side p && is_side q && has a (n * p) && has b (p * q) && has c (n * q)) F2 0
    xs ← load_all a 0 (n * p)
    ys ← load_all b 0 (p * q)
    perform_all deed c 0 (f n p q xs ys)

  -- the last element of l, a row of a, the first element of r, and the stores into b; nothing where the row is empty
  abbrev pub smooth : ℕ → ℕ → ℕ → ℕ → ℕ → Step (Unit {0})
  smooth zero l a r b = give tt
  smooth (suc n) l a r b = do
    left ← load l n
    row ← load_all a 0 (suc n)
    right ← load r 0
    perform_all Store b 0 (stencil_of left row right)

  abbrev pub stencil_body : ℕ → ℕ → ℕ → ℕ → ℕ → Step (Unit {0})
  stencil_body n l a r b = do
    tested (is_side n && has l n && has a n && has r n && has b n) F2 0
    smooth n l a r b

  -- element t of s, a row of a, and the stores into a
  abbrev pub scan_body : ℕ → ℕ → ℕ → ℕ → Step (Unit {0})
  scan_body n t s a = do
    tested (is_side n && has a n && nat_lt t (widths s)) F2 0
    start ← load s t
    row ← load_all a 0 n
    perform_all Store a 0 (scan_of start row)

  -- the four by their numbers from 0 on, with the ints and the objects of their calls in order
  abbrev pub kernel_body : ℕ → List ℕ → List Access → Step (Unit {0})
  kernel_body zero ints accesses =
      product mul_of (Fold Add) (slice_index ints 0) (slice_index ints 1) (slice_index ints 2)
      (object_at accesses 0) (object_at accesses 1) (object_at accesses 2)
  kernel_body (suc zero) ints accesses =
      product minplus_of (Fold Min) (slice_index ints 0) (slice_index ints 1) (slice_index ints 2)
      (object_at accesses 0) (object_at accesses 1) (object_at accesses 2)
  kernel_body (suc (suc zero)) ints accesses =
      stencil_body (slice_index ints 0) (object_at accesses 0) (object_at accesses 1) (object_at accesses 2) (object_at accesses 3)
  kernel_body (suc (suc (suc k))) ints accesses =
      scan_body (slice_index ints 0) (slice_index ints 1) (object_at accesses 0) (object_at accesses 1)
