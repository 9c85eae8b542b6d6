-- A search by the numbers of a frame is the search through all tasks.
use Rattle.std.proofs.Common.{◌≡◌, ◌<◌, ◌≤◌, ℕ, zero, suc, ◌+◌, ◌-◌, Bool, true, false, cond, ◌&&◌, nat_lt, List, [], ◌∷◌, length, take, drop, get_or, Some, None, refl, sym, ap, ◌∙◌, arith}
use Rattle.std.specs.List.{slice_get, All}
use Rattle.std.proofs.lemmas.Bool.Decides.{nat_tests}
use Rattle.std.proofs.lemmas.List.{length-map, at_drop_more, at_drop_all}
use Rattle.kt_tables.specs.Tables.{TaskRow, first_from, count_rows}
use Rattle.kt_core.specs.Links.{first_below, holds_of, numbers_from, numbers_of, paths_of}

take_none : {X : Type 0} → (n : ℕ) → take n (let xs : List X = [] in xs) ≡ []
take_none zero = refl
take_none (suc n) = refl

module _ (A : List ℕ → Bool) (B : TaskRow → Bool) (bound : ℕ) (all : List TaskRow) where
  abbrev pub both : TaskRow → Bool
  both u = A u.path && B u

  -- the list stands in all from its n-th on
  abbrev StandsAt : ℕ → List TaskRow → Type 0
  StandsAt n rest = (k : ℕ) → slice_get all (n + k) ≡ slice_get rest k

  abbrev Searched : ℕ → List TaskRow → Type 0
  Searched n rest = first_below bound B all (numbers_from n A (paths_of rest)) ≡ first_from n both (take (bound - n) rest)

  past : (n : ℕ) (r : TaskRow) (rest : List TaskRow) → bound ≤ n → first_from n both (take (bound - n) (r ∷ rest)) ≡ None
  past n r rest le = let e : bound - n ≡ 0 = omega arith in rw e refl

  over : (n : ℕ) (rest : List TaskRow) → bound ≤ n → Searched (suc n) rest → first_below bound B all (numbers_from (suc n) A (paths_of rest)) ≡ None
  over n rest le h = let e : bound - suc n ≡ 0 = omega arith in h ∙ rw e refl

  within : (n : ℕ) (r : TaskRow) (rest : List TaskRow) → n < bound
      → first_from n both (take (bound - n) (r ∷ rest)) ≡ cond (A r.path && B r) (Some n) (first_from (suc n) both (take (bound - suc n) rest))
  within n r rest lt = let e : bound - n ≡ suc (bound - suc n) = omega arith in rw e refl

  searched_at : (n : ℕ) (r : TaskRow) (rest : List TaskRow) → slice_get all n ≡ Some r → Searched (suc n) rest
      → (a b : Bool) → A r.path ≡ a → nat_lt n bound ≡ b → Searched n (r ∷ rest)
  searched_at n r rest there more true true a b =
      let lt : n < bound = grind (arith, nat_tests) in
      rw (within n r rest lt, a, b, there, more) refl
  searched_at n r rest there more true false a b =
      let le : bound ≤ n = grind (arith, nat_tests) in
      rw (past n r rest le, a, b) refl
  searched_at n r rest there more false true a b =
      let lt : n < bound = grind (arith, nat_tests) in
      rw (within n r rest lt, a) more
  searched_at n r rest there more false false a b =
      let le : bound ≤ n = grind (arith, nat_tests) in
      rw (past n r rest le, a) (over n rest le more)

  searched : (n : ℕ) (rest : List TaskRow) → StandsAt n rest → Searched n rest
  searched n [] h = rw (take_none {X = TaskRow} (bound - n)) refl
  searched n (r ∷ rest) h =
      let first : n + 0 ≡ n = omega arith in
      let there : slice_get all n ≡ Some r = ap (slice_get all) (sym first) ∙ h 0 in
      let next : (k : ℕ) → slice_get all (suc n + k) ≡ slice_get rest k =
      (λ k. let e : suc n + k ≡ n + suc k = omega arith in ap (slice_get all) e ∙ h (suc k)) in
      searched_at n r rest there (searched (suc n) rest next) (A r.path) (nat_lt n bound) refl refl

  pub search_by_numbers : first_below bound B all (numbers_of A (paths_of all)) ≡ first_from 0 both (take bound all)
  search_by_numbers =
      let from : (k : ℕ) → slice_get all (0 + k) ≡ slice_get all k = (λ k. let e : 0 + k ≡ k = omega arith in ap (slice_get all) e) in
      let e : bound - 0 ≡ bound = omega arith in
      searched 0 all from ∙ ap (λ n. first_from 0 both (take n all)) e

-- one turn of a search
pub first_below_more : (B : TaskRow → Bool) (bound : ℕ) (all : List TaskRow) (numbers : List ℕ) (i k : ℕ) → i < length numbers → k ≡ get_or numbers i 0
    → first_below bound B all (drop i numbers)
    ≡ cond (nat_lt k bound) (cond (holds_of B (slice_get all k)) (Some k) (first_below bound B all (drop (i + 1) numbers))) None
first_below_more B bound all numbers i k lt is =
    at_drop_more (first_below bound B all) numbers i 0 lt
    ∙ ap (λ n. cond (nat_lt n bound) (cond (holds_of B (slice_get all n)) (Some n) (first_below bound B all (drop (i + 1) numbers))) None) (sym is)

pub first_below_end : (B : TaskRow → Bool) (bound : ℕ) (all : List TaskRow) (numbers : List ℕ) (i : ℕ) → length numbers ≤ i
    → first_below bound B all (drop i numbers) ≡ None
first_below_end B bound all numbers i le = at_drop_all (first_below bound B all) numbers i le

pub first_below_past : (B : TaskRow → Bool) (bound : ℕ) (all : List TaskRow) (numbers : List ℕ) (i k : ℕ) → i < length numbers → k ≡ get_or numbers i 0
    → bound ≤ k → first_below bound B all (drop i numbers) ≡ None
first_below_past B bound all numbers i k lt is le =
    let b : nat_lt k bound ≡ false = grind (arith, nat_tests) in
    rw (first_below_more B bound all numbers i k lt is, b) refl

pub first_below_found : (B : TaskRow → Bool) (bound : ℕ) (all : List TaskRow) (numbers : List ℕ) (i k : ℕ) (r : TaskRow) → i < length numbers
    → k ≡ get_or numbers i 0 → k < bound → slice_get all k ≡ Some r → B r ≡ true → first_below bound B all (drop i numbers) ≡ Some k
first_below_found B bound all numbers i k r lt is below there holds =
    let b : nat_lt k bound ≡ true = grind (arith, nat_tests) in
    rw (first_below_more B bound all numbers i k lt is, b, there, holds) refl

pub first_below_next : (B : TaskRow → Bool) (bound : ℕ) (all : List TaskRow) (numbers : List ℕ) (i k : ℕ) (r : TaskRow) → i < length numbers
    → k ≡ get_or numbers i 0 → k < bound → slice_get all k ≡ Some r → B r ≡ false
    → first_below bound B all (drop (i + 1) numbers) ≡ first_below bound B all (drop i numbers)
first_below_next B bound all numbers i k r lt is below there holds =
    let b : nat_lt k bound ≡ true = grind (arith, nat_tests) in
    rw (first_below_more B bound all numbers i k lt is, b, there, holds) refl

-- the numbers are those of tasks that there are
numbers_within : (A : List ℕ → Bool) (n : ℕ) (paths : List (List ℕ)) (k d : ℕ) → k < length (numbers_from n A paths)
    → get_or (numbers_from n A paths) k d < n + length paths
numbers_within A n [] k d lt = absurd (omega arith)
numbers_within A n (path ∷ paths) k d lt =
    chosen (A path) k (λ j h. let more = numbers_within A (suc n) paths j d h in omega (arith, more)) lt
  where
    chosen : (a : Bool) (k : ℕ) → ((j : ℕ) → j < length (numbers_from (suc n) A paths) → get_or (numbers_from (suc n) A paths) j d < n + suc (length paths))
        → k < length (cond a (n ∷ numbers_from (suc n) A paths) (numbers_from (suc n) A paths))
        → get_or (cond a (n ∷ numbers_from (suc n) A paths) (numbers_from (suc n) A paths)) k d < n + suc (length paths)
    chosen true zero later h = omega arith
    chosen true (suc k) later h = later k (omega (arith, h))
    chosen false k later h = later k h

pub numbers_there : (A : List ℕ → Bool) (paths : List (List ℕ)) → All (λ k. k < length paths) (numbers_of A paths)
numbers_there A paths k d lt = let h = numbers_within A 0 paths k d lt in omega (arith, h)

pub numbers_of_rows : (A : List ℕ → Bool) (rows : List TaskRow) → All (λ k. k < length rows) (numbers_of A (paths_of rows))
numbers_of_rows A rows k d lt = let h = numbers_there A (paths_of rows) k d lt in omega (arith, h, length-map rows (λ (r : TaskRow). r.path))

numbers_count : (A : List ℕ → Bool) (n : ℕ) (tasks : List TaskRow) → length (numbers_from n A (paths_of tasks)) ≡ count_rows (λ (u : TaskRow). A u.path) tasks
numbers_count A n [] = refl
numbers_count A n (r ∷ rest) = chosen (A r.path) (numbers_count A (suc n) rest)
  where
    chosen : (a : Bool) → length (numbers_from (suc n) A (paths_of rest)) ≡ count_rows (λ (u : TaskRow). A u.path) rest
        → length (cond a (n ∷ numbers_from (suc n) A (paths_of rest)) (numbers_from (suc n) A (paths_of rest)))
        ≡ cond a (suc (count_rows (λ (u : TaskRow). A u.path) rest)) (count_rows (λ (u : TaskRow). A u.path) rest)
    chosen true h = ap suc h
    chosen false h = h

pub numbers_counted : (A : List ℕ → Bool) (tasks : List TaskRow) → length (numbers_of A (paths_of tasks)) ≡ count_rows (λ (u : TaskRow). A u.path) tasks
numbers_counted A tasks = numbers_count A 0 tasks

-- tests that agree give the same numbers
pub numbers_alike : (A B : List ℕ → Bool) → ((path : List ℕ) → A path ≡ B path) → (n : ℕ) (paths : List (List ℕ)) → numbers_from n A paths ≡ numbers_from n B paths
numbers_alike A B same n [] = refl
numbers_alike A B same n (path ∷ paths) = rw (same path, numbers_alike A B same (suc n) paths) refl

pub numbers_none : (A : List ℕ → Bool) → ((path : List ℕ) → A path ≡ false) → (n : ℕ) (paths : List (List ℕ)) → numbers_from n A paths ≡ []
numbers_none A none n [] = refl
numbers_none A none n (path ∷ paths) = rw (none path) (numbers_none A none (suc n) paths)
