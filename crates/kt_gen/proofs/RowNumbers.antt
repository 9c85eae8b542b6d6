-- Rows one after another, and their numbers.
use Rattle.std.proofs.Common.{◌≡◌, ◌≤◌, ◌<◌, ℕ, zero, suc, ◌+◌, ◌-◌, ◌*◌, List, [], ◌∷◌, ◌++◌, length, take, drop, map, refl, ap, sym, ◌∙◌, append_assoc, add-zero, add-one, arith}
use Rattle.std.proofs.lemmas.List.{map-append, length-append}
use Rattle.std.specs.List.{flat_map, range_with_len}
use Rattle.kt_text.specs.declared.commands.Kind.{Kind}
use Rattle.kt_text.specs.declared.commands.Kind.TheVariants.{Mul, Walks, Stencil, Scan}
use Rattle.kt_gen.specs.Numbers.{drawn, element_of, lines_text, members_of, mul_rows, numbers_of, row_of, row_text, rows_of, width_of}

range_more : (a n : ℕ) → range_with_len a (suc n) ≡ range_with_len a n ++ (a + n) ∷ []
range_more a zero = rw (add-zero) refl
range_more a (suc n) =
    let step : (a + 1) + n ≡ a + suc n = omega arith in
    ap (λ (ks : List ℕ). a ∷ ks) (rw (← step) (range_more (a + 1) n))

-- one more of what a range gives
pub row_more : (old mid new : List ℕ) (f : ℕ → ℕ) (k x : ℕ) → mid ≡ old ++ map f (range_with_len 0 k) → new ≡ mid ++ x ∷ [] → x ≡ f k →
    new ≡ old ++ map f (range_with_len 0 (k + 1))
row_more old mid new f k x so_far pushed is =
    let next : map f (range_with_len 0 (k + 1)) ≡ map f (range_with_len 0 k) ++ f k ∷ [] =
    rw (add-one) (ap (map f) (range_more 0 k) ∙ map-append f (range_with_len 0 k) ((0 + k) ∷ []) ∙ ap (λ (j : ℕ). map f (range_with_len 0 k) ++ f j ∷ []) (omega arith)) in
    pushed ∙ ap (λ (xs : List ℕ). xs ++ x ∷ []) so_far ∙ append_assoc old (map f (range_with_len 0 k)) (x ∷ [])
    ∙ ap (λ (y : ℕ). old ++ (map f (range_with_len 0 k) ++ y ∷ [])) is ∙ ap (λ (xs : List ℕ). old ++ xs) (sym next)

flat_append : {A B : Type 0} (g : A → List B) (xs ys : List A) → flat_map g (xs ++ ys) ≡ flat_map g xs ++ flat_map g ys
flat_append g [] ys = refl
flat_append g (x ∷ xs) ys = ap (λ (zs : List _). g x ++ zs) (flat_append g xs ys) ∙ sym (append_assoc (g x) (flat_map g xs) (flat_map g ys))

nothing_more : {B : Type 0} (xs : List B) → xs ++ [] ≡ xs
nothing_more [] = refl
nothing_more (x ∷ xs) = ap (λ (ys : List _). x ∷ ys) (nothing_more xs)

pub rows_more : (g : ℕ → List ℕ) (k : ℕ) (mid new : List ℕ) → mid ≡ flat_map g (range_with_len 0 k) → new ≡ mid ++ g k → new ≡ flat_map g (range_with_len 0 (k + 1))
rows_more g k mid new so_far grown =
    let next : flat_map g (range_with_len 0 (k + 1)) ≡ flat_map g (range_with_len 0 k) ++ g k =
    rw (add-one) (ap (flat_map g) (range_more 0 k) ∙ flat_append g (range_with_len 0 k) ((0 + k) ∷ [])
    ∙ ap (λ (j : ℕ). flat_map g (range_with_len 0 k) ++ (g j ++ [])) (omega arith)
    ∙ ap (λ (xs : List ℕ). flat_map g (range_with_len 0 k) ++ xs) (nothing_more (g k))) in
    grown ∙ ap (λ (xs : List ℕ). xs ++ g k) so_far ∙ sym next

-- ---- the rows by their places among all

flat_mapped : {A B : Type 0} (g : A → List B) (h : ℕ → A) (ks : List ℕ) → flat_map g (map h ks) ≡ flat_map (λ k. g (h k)) ks
flat_mapped g h [] = refl
flat_mapped g h (k ∷ ks) = ap (λ (zs : List _). g (h k) ++ zs) (flat_mapped g h ks)

map_same : {B : Type 0} (f g : ℕ → B) → ((k : ℕ) → f k ≡ g k) → (ks : List ℕ) → map f ks ≡ map g ks
map_same f g same [] = refl
map_same f g same (k ∷ ks) = λ i. same k i ∷ map_same f g same ks i

range_shifted : (a b n : ℕ) → range_with_len (a + b) n ≡ map (λ k. a + k) (range_with_len b n)
range_shifted a b zero = refl
range_shifted a b (suc n) =
    let step : (a + b) + 1 ≡ a + (b + 1) = omega arith in
    ap (λ (ks : List ℕ). (a + b) ∷ ks) (rw step (range_shifted a (b + 1) n))

range_joined : (a m n : ℕ) → range_with_len a (m + n) ≡ range_with_len a m ++ range_with_len (a + m) n
range_joined a zero n =
    let here : a + 0 ≡ a = omega arith in
    let none : 0 + n ≡ n = omega arith in
    ap (range_with_len a) none ∙ ap (λ (j : ℕ). range_with_len j n) (sym here)
range_joined a (suc m) n =
    let grown : suc m + n ≡ suc (m + n) = omega arith in
    let step : (a + 1) + m ≡ a + suc m = omega arith in
    ap (range_with_len a) grown
    ∙ ap (λ (ks : List ℕ). a ∷ ks) (range_joined (a + 1) m n ∙ ap (λ (j : ℕ). range_with_len (a + 1) m ++ range_with_len j n) step)

map_mapped : {B : Type 0} (f : ℕ → B) (g : ℕ → ℕ) (ks : List ℕ) → map f (map g ks) ≡ map (λ k. f (g k)) ks
map_mapped f g [] = refl
map_mapped f g (k ∷ ks) = ap (λ (ys : List _). f (g k) ∷ ys) (map_mapped f g ks)

mul_by_place : (size number : ℕ) → mul_rows size number ≡ map (λ t. row_of Mul size number t) (range_with_len 0 (size * size + size * size))
mul_by_place size number =
    let q : ℕ = size * size in
    let row : ℕ → List ℕ = λ t. row_of Mul size number t in
    let other : ℕ → List ℕ = λ t. map (λ e. drawn number (256 * q + 256 * t + e)) (range_with_len 0 256) in
    let same : (t : ℕ) → row (q + t) ≡ other t = λ t. map_same (λ e. drawn number (256 * (q + t) + e)) (λ e. drawn number (256 * q + 256 * t + e))
    (λ e. ap (drawn number) (omega arith)) (range_with_len 0 256) in
    let here : q + 0 ≡ 0 + q = omega arith in
    let second : map row (range_with_len (0 + q) q) ≡ map other (range_with_len 0 q) =
    ap (λ (a : ℕ). map row (range_with_len a q)) (sym here) ∙ ap (map row) (range_shifted q 0 q) ∙ map_mapped row (λ k. q + k) (range_with_len 0 q)
    ∙ map_same (λ t. row (q + t)) other same (range_with_len 0 q) in
    sym (ap (map row) (range_joined 0 q q) ∙ map-append row (range_with_len 0 q) (range_with_len (0 + q) q) ∙ ap (λ (ys : List (List ℕ)). map row (range_with_len 0 q) ++ ys) second)

pub rows_by_place : (kind : Kind) (size number : ℕ) → rows_of kind size number ≡ map (λ t. row_of kind size number t) (range_with_len 0 (members_of kind size))
rows_by_place Mul size number = mul_by_place size number
rows_by_place Walks size number = refl
rows_by_place Stencil size number = refl
rows_by_place Scan size number = refl

pub all_numbers : (kind : Kind) (size number : ℕ) →
    flat_map (λ t. row_of kind size number t) (range_with_len 0 (members_of kind size)) ≡ numbers_of kind size number
all_numbers kind size number =
    sym (ap (flat_map (λ row. row)) (rows_by_place kind size number)
    ∙ flat_mapped (λ row. row) (λ t. row_of kind size number t) (range_with_len 0 (members_of kind size)))

pub all_lines : (kind : Kind) (size number : ℕ) →
    flat_map (λ t. row_text (row_of kind size number t)) (range_with_len 0 (members_of kind size)) ≡ lines_text (rows_of kind size number)
all_lines kind size number =
    sym (ap (flat_map row_text) (rows_by_place kind size number)
    ∙ flat_mapped row_text (λ t. row_of kind size number t) (range_with_len 0 (members_of kind size)))

-- ---- a row off the front of the others

pub length_range : (a n : ℕ) → length (range_with_len a n) ≡ n
length_range a zero = refl
length_range a (suc n) = ap suc (length_range (a + 1) n)

length_map : (f : ℕ → ℕ) (ks : List ℕ) → length (map f ks) ≡ length ks
length_map f [] = refl
length_map f (k ∷ ks) = ap suc (length_map f ks)

pub row_length : (kind : Kind) (size number t : ℕ) → length (row_of kind size number t) ≡ width_of kind
row_length kind size number t =
    length_map (λ e. element_of kind size number t e) (range_with_len 0 (width_of kind)) ∙ length_range 0 (width_of kind)

take_all : (xs ys : List ℕ) → take (length xs) (xs ++ ys) ≡ xs
take_all [] ys = refl
take_all (x ∷ xs) ys = ap (λ (zs : List ℕ). x ∷ zs) (take_all xs ys)

drop_all : (xs ys : List ℕ) → drop (length xs) (xs ++ ys) ≡ ys
drop_all [] ys = refl
drop_all (x ∷ xs) ys = drop_all xs ys

pub record NextRow (g : ℕ → List ℕ) (w m k : ℕ) (rest : List ℕ) : Type 0 where
  pub enough : w ≤ length rest
  pub own : take w rest ≡ g k
  pub behind : drop w rest ≡ flat_map g (range_with_len (k + 1) (m - (k + 1)))

pub next_row : (g : ℕ → List ℕ) (w m k : ℕ) (rest : List ℕ) → length (g k) ≡ w → k < m → rest ≡ flat_map g (range_with_len k (m - k)) → NextRow g w m k rest
next_row g w m k rest width more is =
    let count : m - k ≡ suc (m - (k + 1)) = omega arith in
    let others : List ℕ = flat_map g (range_with_len (k + 1) (m - (k + 1))) in
    let split : rest ≡ g k ++ others = is ∙ ap (λ (n : ℕ). flat_map g (range_with_len k n)) count in
    record {
      enough = omega (arith, ap (λ (xs : List ℕ). length xs) split, length-append (g k) others, width);
      own = ap (λ (xs : List ℕ). take w xs) split ∙ ap (λ (n : ℕ). take n (g k ++ others)) (sym width) ∙ take_all (g k) others;
      behind = ap (λ (xs : List ℕ). drop w xs) split ∙ ap (λ (n : ℕ). drop n (g k ++ others)) (sym width) ∙ drop_all (g k) others;
    }
