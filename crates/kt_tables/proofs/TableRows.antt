-- The rows of a table: by number, by path, and how many pass a test.
use Rattle.std.proofs.Common.{◌≡◌, ◌≢◌, ◌<◌, ℕ, zero, suc, Bool, true, false, cond, List, [], ◌∷◌, ◌++◌, length, take, map, Option, Some, None, ◌⊎◌, inl, inr, ◌&&◌, not, nat_eq, refl, sym, ap, subst, ◌∙◌, arith, slice_get, slice_set}
use Rattle.std.proofs.lemmas.Bool.Decides.{nat_tests}
use Rattle.kt_order.specs.Paths.{same_path}
use Rattle.kt_order.proofs.PathChanges.{eq_self}
use Rattle.kt_order.proofs.Squares.{same_is}
use Rattle.kt_tables.specs.Tables.{TaskRow, parent_of, is_root, is_child, are_siblings, first_from, count_rows}
use Rattle.kt_tables.specs.TableLaws.{row_at}

pub the_some : {X : Type 0} → {x y : X} → Some x ≡ Some y → x ≡ y
the_some e = cc

pub same_or : (k j : ℕ) → (k ≡ j) ⊎ (k ≢ j)
same_or k j = grind arith

pub both_true : (b c : Bool) → b && c ≡ true → (b ≡ true) × (c ≡ true)
both_true true true e = (refl, refl)
both_true true false e = cc
both_true false c e = cc

pub second_false : (b c : Bool) → b ≡ true → b && c ≡ false → c ≡ false
second_false true c e h = h
second_false false c e h = cc

-- a list after a write
pub get_set : {X : Type 0} → (xs : List X) (t : ℕ) (x y : X) → slice_get xs t ≡ Some x → slice_get (slice_set xs t y) t ≡ Some y
get_set [] t x y e = cc
get_set (z ∷ xs) zero x y e = refl
get_set (z ∷ xs) (suc t) x y e = get_set xs t x y e

pub get_set_other : {X : Type 0} → (xs : List X) (t u : ℕ) (y : X) → u ≢ t → slice_get (slice_set xs t y) u ≡ slice_get xs u
get_set_other [] t u y ne = refl
get_set_other (z ∷ xs) zero zero y ne = absurd (ne refl)
get_set_other (z ∷ xs) zero (suc u) y ne = refl
get_set_other (z ∷ xs) (suc t) zero y ne = refl
get_set_other (z ∷ xs) (suc t) (suc u) y ne = get_set_other xs t u y (λ e. ne (ap suc e))

pub got_set : {X : Type 0} → (xs : List X) (t u : ℕ) (x y s : X) → slice_get xs t ≡ Some x → slice_get (slice_set xs t y) u ≡ Some s
    → (u ≡ t) × (s ≡ y) ⊎ (u ≢ t) × (slice_get xs u ≡ Some s)
got_set xs t u x y s at e = elim (same_or u t) [
  | inl is ↦ inl (is, the_some (sym e ∙ (ap (slice_get (slice_set xs t y)) is ∙ get_set xs t x y at)))
  | inr ne ↦ inr (ne, sym (get_set_other xs t u y ne) ∙ e)
]

-- with one more at the end
pub get_front : {X : Type 0} → (xs : List X) (y : X) (u : ℕ) (s : X) → slice_get xs u ≡ Some s → slice_get (xs ++ y ∷ []) u ≡ Some s
get_front [] y u s e = cc
get_front (x ∷ xs) y zero s e = e
get_front (x ∷ xs) y (suc u) s e = get_front xs y u s e

pub get_last : {X : Type 0} → (xs : List X) (y : X) → slice_get (xs ++ y ∷ []) (length xs) ≡ Some y
get_last [] y = refl
get_last (x ∷ xs) y = get_last xs y

pub got_app : {X : Type 0} → (xs : List X) (y : X) (u : ℕ) (s : X) → slice_get (xs ++ y ∷ []) u ≡ Some s
    → (slice_get xs u ≡ Some s) ⊎ (u ≡ length xs) × (s ≡ y)
got_app [] y zero s e = inr (refl, sym (the_some e))
got_app [] y (suc u) s e = cc
got_app (x ∷ xs) y zero s e = inl e
got_app (x ∷ xs) y (suc u) s e = elim (got_app xs y u s e) [
  | inl r ↦ inl r
  | inr r ↦ inr (ap suc r.0, r.1)
]

pub get_take : {X : Type 0} → (xs : List X) (t u : ℕ) → u < t → slice_get (take t xs) u ≡ slice_get xs u
get_take xs zero u lt = absurd (omega arith)
get_take [] (suc t) u lt = refl
get_take (x ∷ xs) (suc t) zero lt = refl
get_take (x ∷ xs) (suc t) (suc u) lt = get_take xs t u (omega arith)

-- where no row passes the test, each fails it
cond_none : (b : Bool) (n : ℕ) (o : Option ℕ) → cond b (Some n) o ≡ None → (b ≡ false) × (o ≡ None)
cond_none true n o e = cc
cond_none false n o e = (refl, e)

pub first_none : (n : ℕ) (test : TaskRow → Bool) (rows : List TaskRow) → first_from n test rows ≡ None
    → (t : ℕ) (r : TaskRow) → slice_get rows t ≡ Some r → test r ≡ false
first_none n test [] h t r at = cc
first_none n test (v ∷ rows) h zero r at = subst (λ z. test z ≡ false) (the_some at) (cond_none (test v) n (first_from (suc n) test rows) h).0
first_none n test (v ∷ rows) h (suc t) r at = first_none (suc n) test rows (cond_none (test v) n (first_from (suc n) test rows) h).1 t r at

-- paths
pub same_self : (p : List ℕ) → same_path p p ≡ true
same_self [] = refl
same_self (k ∷ p) = rw (eq_self k, same_self p) refl

pub by_bool : (b : Bool) → (b ≡ true → ⊥) → b ≡ false
by_bool true h = absurd (h refl)
by_bool false h = refl

pub not_same : (p q : List ℕ) → p ≢ q → same_path p q ≡ false
not_same p q ne = by_bool (same_path p q) (λ e. ne (same_is p q e))

eq_suc : (k j : ℕ) → nat_eq (suc k) (suc j) ≡ nat_eq k j
eq_suc k j = grind (arith, nat_tests)

eq_turned : (k j : ℕ) → nat_eq k j ≡ nat_eq j k
eq_turned k j = grind (arith, nat_tests)

pub same_mapped : (p q : List ℕ) → same_path (map suc p) (map suc q) ≡ same_path p q
same_mapped [] [] = refl
same_mapped [] (j ∷ q) = refl
same_mapped (k ∷ p) [] = refl
same_mapped (k ∷ p) (j ∷ q) = rw (eq_suc k j, same_mapped p q) refl

pub same_turned : (p q : List ℕ) → same_path p q ≡ same_path q p
same_turned [] [] = refl
same_turned [] (j ∷ q) = refl
same_turned (k ∷ p) [] = refl
same_turned (k ∷ p) (j ∷ q) = rw (eq_turned k j, same_turned p q) refl

pub mapped_is : (p q : List ℕ) → map suc p ≡ map suc q → p ≡ q
mapped_is p q e = same_is p q (sym (same_mapped p q) ∙ (ap (λ (r : List ℕ). same_path (map suc p) r) (sym e) ∙ same_self (map suc p)))

pub map_snoc : (p : List ℕ) (k : ℕ) → map suc (p ++ k ∷ []) ≡ map suc p ++ suc k ∷ []
map_snoc [] k = refl
map_snoc (j ∷ p) k = ap (λ r. suc j ∷ r) (map_snoc p k)

-- a path is empty, or one with a last number
pub snoc_view : (q : List ℕ) → (q ≡ []) ⊎ (p : List ℕ) × (k : ℕ) × (q ≡ p ++ k ∷ [])
snoc_view [] = inl refl
snoc_view (j ∷ q) = elim (snoc_view q) [
  | inl e ↦ inr ([], j, ap (λ r. j ∷ r) e)
  | inr r ↦ inr (j ∷ r.0, r.1, ap (λ r. j ∷ r) r.2)
]

pub parent_snoc : (p : List ℕ) (k : ℕ) → parent_of (p ++ k ∷ []) ≡ p
parent_snoc [] k = refl
parent_snoc (i ∷ []) k = refl
parent_snoc (i ∷ (j ∷ p)) k = ap (λ r. i ∷ r) (parent_snoc (j ∷ p) k)

pub root_snoc : (p : List ℕ) (k : ℕ) → is_root (p ++ k ∷ []) ≡ false
root_snoc [] k = refl
root_snoc (i ∷ p) k = refl

last_same : (p : List ℕ) (i j : ℕ) → p ++ i ∷ [] ≡ p ++ j ∷ [] → i ≡ j
last_same [] i j e = cc
last_same (k ∷ p) i j e = last_same p i j cc

pub snoc_same : (p q : List ℕ) (i j : ℕ) → p ++ i ∷ [] ≡ q ++ j ∷ [] → (p ≡ q) × (i ≡ j)
snoc_same p q i j e =
    let same : p ≡ q = sym (parent_snoc p i) ∙ (ap parent_of e ∙ parent_snoc q j) in
    (same, last_same q i j (subst (λ (r : List ℕ). r ++ i ∷ [] ≡ q ++ j ∷ []) same e))

pub length_snoc : (p : List ℕ) (k : ℕ) → length (p ++ k ∷ []) ≡ suc (length p)
length_snoc [] k = refl
length_snoc (j ∷ p) k = ap suc (length_snoc p k)

pub length_mapped : (p : List ℕ) → length (map suc p) ≡ length p
length_mapped [] = refl
length_mapped (k ∷ p) = ap suc (length_mapped p)

pub child_snoc : (p : List ℕ) (k : ℕ) → is_child p (p ++ k ∷ []) ≡ true
child_snoc p k = rw (root_snoc p k, parent_snoc p k, same_self p) refl

pub siblings_snoc : (p : List ℕ) (i j : ℕ) → are_siblings (p ++ i ∷ []) (p ++ j ∷ []) ≡ true
siblings_snoc p i j = rw (root_snoc p i, root_snoc p j, parent_snoc p i, parent_snoc p j, same_self p) refl

-- the path of a child is that of its parent with a number
pub child_is : (p q : List ℕ) → is_child p q ≡ true → (k : ℕ) × (q ≡ p ++ k ∷ [])
child_is p q h =
    let two = both_true (not (is_root q)) (same_path (parent_of q) p) h in
    elim (snoc_view q) [
      | inl e ↦ absurd (no_root q e two.0)
      | inr r ↦ (r.1, r.2 ∙ ap (λ (z : List ℕ). z ++ r.1 ∷ []) (sym (parent_snoc r.0 r.1) ∙ (ap parent_of (sym r.2) ∙ same_is (parent_of q) p two.1)))
    ]
  where
    no_root : (z : List ℕ) → z ≡ [] → not (is_root z) ≡ true → ⊥
    no_root [] e b = cc
    no_root (j ∷ z) e b = cc

-- no two rows have one path
abbrev pub Once : List TaskRow → Type 0
Once rows = (t u : ℕ) (r s : TaskRow) → slice_get rows t ≡ Some r → slice_get rows u ≡ Some s → r.path ≡ s.path → t ≡ u

once_later : (v : TaskRow) (rows : List TaskRow) → Once (v ∷ rows) → Once rows
once_later v rows once t u r s at ats e = omega (arith, once (suc t) (suc u) r s at ats e)

first_differs : (v : TaskRow) (rows : List TaskRow) → Once (v ∷ rows) → (t : ℕ) (r : TaskRow) → slice_get rows t ≡ Some r → v.path ≢ r.path
first_differs v rows once t r at e = absurd (omega (arith, once 0 (suc t) v r refl at e))

pub row_found : (rows : List TaskRow) → Once rows → (t : ℕ) (r : TaskRow) → slice_get rows t ≡ Some r → row_at rows r.path ≡ Some r
row_found [] once t r at = cc
row_found (v ∷ rows) once zero r at = subst (λ (z : TaskRow). row_at (v ∷ rows) z.path ≡ Some z) (the_some at) (rw (same_self v.path) refl)
row_found (v ∷ rows) once (suc t) r at = rw (not_same v.path r.path (first_differs v rows once t r at)) (row_found rows (once_later v rows once) t r at)

pub row_where : (rows : List TaskRow) (path : List ℕ) (s : TaskRow) → row_at rows path ≡ Some s
    → (t : ℕ) × (slice_get rows t ≡ Some s) × (s.path ≡ path)
row_where [] path s e = cc
row_where (v ∷ rows) path s e = go (same_path v.path path) refl e (row_where rows path s)
  where
    go : (b : Bool) → same_path v.path path ≡ b → cond b (Some v) (row_at rows path) ≡ Some s
        → (row_at rows path ≡ Some s → (t : ℕ) × (slice_get rows t ≡ Some s) × (s.path ≡ path))
        → (t : ℕ) × (slice_get (v ∷ rows) t ≡ Some s) × (s.path ≡ path)
    go true same h more = (0, h, subst (λ (z : TaskRow). z.path ≡ path) (the_some h) (same_is v.path path same))
    go false same h more = let r = more h in (suc r.0, r.1, r.2)

cond_turned : (a b : Bool) (x y z : Option TaskRow) → (a ≡ true → b ≡ true → ⊥) → cond a x (cond b y z) ≡ cond b y (cond a x z)
cond_turned true true x y z ne = absurd (ne refl refl)
cond_turned true false x y z ne = refl
cond_turned false true x y z ne = refl
cond_turned false false x y z ne = refl

cond_twice : (a : Bool) (x y z : Option TaskRow) → cond a x z ≡ cond a x (cond a y z)
cond_twice true x y z = refl
cond_twice false x y z = refl

-- the rows by path after one has changed and kept its path
pub row_set : (rows : List TaskRow) → Once rows → (t : ℕ) (r r' : TaskRow) → slice_get rows t ≡ Some r → r'.path ≡ r.path
    → (path : List ℕ) → row_at (slice_set rows t r') path ≡ cond (same_path r.path path) (Some r') (row_at rows path)
row_set [] once t r r' at e path = cc
row_set (v ∷ rows) once zero r r' at e path =
    ap (λ (z : List ℕ). cond (same_path z path) (Some r') (row_at rows path)) e
    ∙ (cond_twice (same_path r.path path) (Some r') (Some v) (row_at rows path)
    ∙ ap (λ (z : TaskRow). cond (same_path r.path path) (Some r') (cond (same_path z.path path) (Some v) (row_at rows path))) (sym (the_some at)))
row_set (v ∷ rows) once (suc t) r r' at e path =
    ap (λ (o : Option TaskRow). cond (same_path v.path path) (Some v) o) (row_set rows (once_later v rows once) t r r' at e path)
    ∙ cond_turned (same_path v.path path) (same_path r.path path) (Some v) (Some r') (row_at rows path) (λ a b. first_differs v rows once t r at (same_is v.path path a ∙ sym (same_is r.path path b)))

-- and after one more
pub row_front : (rows : List TaskRow) (y : TaskRow) (path : List ℕ) → same_path y.path path ≡ false → row_at (rows ++ y ∷ []) path ≡ row_at rows path
row_front [] y path e = rw e refl
row_front (v ∷ rows) y path e = ap (λ (o : Option TaskRow). cond (same_path v.path path) (Some v) o) (row_front rows y path e)

pub row_last : (rows : List TaskRow) (y : TaskRow) (path : List ℕ) → same_path y.path path ≡ true → row_at rows path ≡ None → row_at (rows ++ y ∷ []) path ≡ Some y
row_last [] y path e none = rw e refl
row_last (v ∷ rows) y path e none = go (same_path v.path path) none (row_last rows y path e)
  where
    go : (b : Bool) → cond b (Some v) (row_at rows path) ≡ None → (row_at rows path ≡ None → row_at (rows ++ y ∷ []) path ≡ Some y)
        → cond b (Some v) (row_at (rows ++ y ∷ []) path) ≡ Some y
    go true h more = cc
    go false h more = more h

-- how many pass a test
pub count_app : (test : TaskRow → Bool) (rows : List TaskRow) (y : TaskRow) → test y ≡ false → count_rows test (rows ++ y ∷ []) ≡ count_rows test rows
count_app test [] y e = rw e refl
count_app test (v ∷ rows) y e = ap (λ (n : ℕ). cond (test v) (suc n) n) (count_app test rows y e)

pub count_more : (test : TaskRow → Bool) (rows : List TaskRow) (y : TaskRow) → test y ≡ true → count_rows test (rows ++ y ∷ []) ≡ suc (count_rows test rows)
count_more test [] y e = rw e refl
count_more test (v ∷ rows) y e = go (test v) (count_more test rows y e)
  where
    go : (b : Bool) → count_rows test (rows ++ y ∷ []) ≡ suc (count_rows test rows)
        → cond b (suc (count_rows test (rows ++ y ∷ []))) (count_rows test (rows ++ y ∷ [])) ≡ suc (cond b (suc (count_rows test rows)) (count_rows test rows))
    go true h = ap suc h
    go false h = h

pub count_set : (test : TaskRow → Bool) (rows : List TaskRow) (t : ℕ) (r r' : TaskRow) → slice_get rows t ≡ Some r → test r' ≡ test r
    → count_rows test (slice_set rows t r') ≡ count_rows test rows
count_set test [] t r r' at e = refl
count_set test (v ∷ rows) zero r r' at e = ap (λ (b : Bool). cond b (suc (count_rows test rows)) (count_rows test rows)) (e ∙ ap test (sym (the_some at)))
count_set test (v ∷ rows) (suc t) r r' at e = ap (λ (n : ℕ). cond (test v) (suc n) n) (count_set test rows t r r' at e)

pub count_none : (test : TaskRow → Bool) (rows : List TaskRow) → ((t : ℕ) (r : TaskRow) → slice_get rows t ≡ Some r → test r ≡ false)
    → count_rows test rows ≡ 0
count_none test [] h = refl
count_none test (v ∷ rows) h = rw (h 0 v refl) (count_none test rows (λ t r at. h (suc t) r at))
