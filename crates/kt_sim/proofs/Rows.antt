-- Lists of tasks after a task was changed and others were added.
use Rattle.std.proofs.Common.{◌≡◌, ◌≢◌, ℕ, zero, suc, ◌+◌, List, [], ◌∷◌, ◌++◌, length, Some, refl, ap, subst, arith, slice_get, slice_set}
use Rattle.kt_tables.specs.Tables.{TaskRow, count_indexes}
use Rattle.kt_sim.specs.Left.{row_left, rows_left}
use Rattle.kt_sim.specs.Simulated.{EachRow}

pub get_same : (tasks : List TaskRow) (t : ℕ) (r s : TaskRow) → slice_get tasks t ≡ Some r → slice_get (slice_set tasks t s) t ≡ Some s
get_same [] t r s e = cc
get_same (u ∷ tasks) zero r s e = refl
get_same (u ∷ tasks) (suc t) r s e = get_same tasks t r s e

pub get_other : (tasks : List TaskRow) (t k : ℕ) (s : TaskRow) → k ≢ t → slice_get (slice_set tasks t s) k ≡ slice_get tasks k
get_other [] t k s d = refl
get_other (u ∷ tasks) zero zero s d = absurd (d refl)
get_other (u ∷ tasks) zero (suc k) s d = refl
get_other (u ∷ tasks) (suc t) zero s d = refl
get_other (u ∷ tasks) (suc t) (suc k) s d = get_other tasks t k s (λ e. d (ap suc e))

pub get_more : (tasks more : List TaskRow) (t : ℕ) (r : TaskRow) → slice_get tasks t ≡ Some r → slice_get (tasks ++ more) t ≡ Some r
get_more [] more t r e = cc
get_more (u ∷ tasks) more zero r e = e
get_more (u ∷ tasks) more (suc t) r e = get_more tasks more t r e

-- what holds of each task by its number
pub each_set : (P : ℕ → TaskRow → Type 0) (tasks : List TaskRow) (t : ℕ) (s : TaskRow) → ((k : ℕ) (r : TaskRow) → k ≢ t → slice_get tasks k ≡ Some r → P k r) → P t s
    → EachRow P (slice_set tasks t s)
each_set P [] t s h p k r e = cc
each_set P (u ∷ tasks) zero s h p zero r e = let same : s ≡ r = cc in subst (P 0) same p
each_set P (u ∷ tasks) zero s h p (suc k) r e = h (suc k) r (λ x. cc) e
each_set P (u ∷ tasks) (suc t) s h p zero r e = h 0 r (λ x. cc) e
each_set P (u ∷ tasks) (suc t) s h p (suc k) r e =
    each_set (λ n v. P (suc n) v) tasks t s (λ n v d f. h (suc n) v (λ x. d (cc)) f) p k r e

pub each_more : (P : ℕ → TaskRow → Type 0) (tasks more : List TaskRow) → EachRow P tasks
    → ((n k : ℕ) (r : TaskRow) → slice_get more n ≡ Some r → P k r) → EachRow P (tasks ++ more)
each_more P [] more h f k r e = f k k r e
each_more P (u ∷ tasks) more h f zero r e = h 0 r e
each_more P (u ∷ tasks) more h f (suc k) r e = each_more (λ n v. P (suc n) v) tasks more (λ n v g. h (suc n) v g) (λ n j v g. f n (suc j) v g) k r e

-- what is left
pub left_set : (tasks : List TaskRow) (t : ℕ) (r s : TaskRow) → slice_get tasks t ≡ Some r
    → rows_left (slice_set tasks t s) + row_left r ≡ rows_left tasks + row_left s
left_set [] t r s e = cc
left_set (u ∷ tasks) zero r s e = let same : u ≡ r = cc in let one : row_left u ≡ row_left r = ap row_left same in omega (arith, one)
left_set (u ∷ tasks) (suc t) r s e = let rest = left_set tasks t r s e in omega (arith, rest)

pub left_more : (tasks more : List TaskRow) → rows_left (tasks ++ more) ≡ rows_left tasks + rows_left more
left_more [] more = omega arith
left_more (u ∷ tasks) more = let rest = left_more tasks more in omega (arith, rest)

-- indexes
abbrev size : TaskRow → ℕ
size r = length r.loop.indexes

pub count_set : (tasks : List TaskRow) (t : ℕ) (r s : TaskRow) → slice_get tasks t ≡ Some r
    → count_indexes (slice_set tasks t s) + length r.loop.indexes ≡ count_indexes tasks + length s.loop.indexes
count_set [] t r s e = cc
count_set (u ∷ tasks) zero r s e = let same : u ≡ r = cc in let one : size u ≡ size r = ap size same in omega (arith, one)
count_set (u ∷ tasks) (suc t) r s e = let rest = count_set tasks t r s e in omega (arith, rest)

pub count_more : (tasks more : List TaskRow) → count_indexes (tasks ++ more) ≡ count_indexes tasks + count_indexes more
count_more [] more = omega arith
count_more (u ∷ tasks) more = let rest = count_more tasks more in omega (arith, rest)
