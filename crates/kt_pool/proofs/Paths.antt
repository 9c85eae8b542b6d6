-- Lists of paths in which each path stands as often as in the other.
use Rattle.std.proofs.Common.{◌≡◌, ◌<◌, Bool, true, false, List, [], ◌∷◌, ◌++◌, map, append_assoc, refl, sym, ap, ◌∙◌, subst, arith}
use Rattle.std.specs.List.{flat_map}
use Rattle.std.specs.List.Sorted.{IsPermutation}
use Rattle.std.proofs.lemmas.List.Concat.{flat_map-append}
use Rattle.std.proofs.lemmas.List.Sorted.{IsPermutation-refl, IsPermutation-append_left, IsPermutation-append_right, IsPermutation-append_comm, IsPermutation-sym, IsPermutation-trans}
use Rattle.kt_order.specs.Paths.{same_path}
use Rattle.kt_runs.specs.ByPath.{Path}
use Rattle.kt_rule.specs.Lists.{times, one_if, In, here, there}
use Rattle.kt_rule.proofs.Puts.{same_is}
use Rattle.kt_rule.proofs.Sums.{one_self, times_append}

-- a path that stands in a list, and the list without it
parted : (x : Path) (ys : List Path) → 0 < times x ys → (a : List Path) × (b : List Path) × (ys ≡ a ++ x ∷ b)
parted x [] some_times = absurd (omega arith)
parted x (y ∷ ys) some_times = go (same_path x y) refl (parted x ys)
  where
    go : (b : Bool) → same_path x y ≡ b → (0 < times x ys → (a : List Path) × (b : List Path) × (ys ≡ a ++ x ∷ b))
        → (a : List Path) × (b : List Path) × (y ∷ ys ≡ a ++ x ∷ b)
    go true e rest = ([], ys, λ i. sym (same_is x y e) i ∷ ys)
    go false e rest = let none : one_if (same_path x y) ≡ 0 = ap one_if e in let r = rest (omega arith) in
        (y ∷ r.0, r.1, ap (λ (zs : List Path). y ∷ zs) r.2)

none_left : (ys : List Path) → ((p : Path) → times p ys ≡ 0) → ys ≡ []
none_left [] h = refl
none_left (y ∷ ys) h = let a = h y in let b = one_self y y refl in absurd (omega arith)

module _ {B : Type 0} (f : Path → List B) where
  cut_moves : (x : Path) (a b : List Path) → IsPermutation (flat_map f (a ++ x ∷ b)) (f x ++ flat_map f (a ++ b))
  cut_moves x a b =
      subst (λ l. IsPermutation l (f x ++ flat_map f (a ++ b)))
      (append_assoc (flat_map f a) (f x) (flat_map f b) ∙ sym (flat_map-append f a (x ∷ b)))
      (subst (λ l. IsPermutation ((flat_map f a ++ f x) ++ flat_map f b) l)
      (append_assoc (f x) (flat_map f a) (flat_map f b) ∙ ap (λ l. f x ++ l) (sym (flat_map-append f a b)))
      (IsPermutation-append_left (flat_map f b) (flat_map f a ++ f x) (f x ++ flat_map f a) (IsPermutation-append_comm (flat_map f a) (f x))))

  -- so what is listed of the paths of the one is listed of those of the other
  permutes : (xs ys : List Path) → ((p : Path) → times p xs ≡ times p ys) → IsPermutation (flat_map f xs) (flat_map f ys)
  permutes [] ys same = subst (λ (zs : List Path). IsPermutation [] (flat_map f zs)) (sym (none_left ys (λ p. sym (same p)))) (IsPermutation-refl [])
  permutes (x ∷ xs) ys same =
      let a = same x in let one = one_self x x refl in let cut = parted x ys (omega arith) in
      let rest = permutes xs (cut.0 ++ cut.1) (λ p.
      let s = same p in let e = ap (times p) cut.2 in let c = times_append p cut.0 (x ∷ cut.1) in let d = times_append p cut.0 cut.1 in
      omega arith) in
      subst (λ (zs : List Path). IsPermutation (f x ++ flat_map f xs) (flat_map f zs)) (sym cut.2)
      (IsPermutation-trans (f x ++ flat_map f xs) (f x ++ flat_map f (cut.0 ++ cut.1)) (flat_map f (cut.0 ++ x ∷ cut.1))
      (IsPermutation-append_right (f x) (flat_map f xs) (flat_map f (cut.0 ++ cut.1)) rest)
      (IsPermutation-sym (flat_map f (cut.0 ++ x ∷ cut.1)) (f x ++ flat_map f (cut.0 ++ cut.1)) (cut_moves x cut.0 cut.1)))

flat_mapped : {A B C : Type 0} (e : A → B) (g : B → List C) (xs : List A) → flat_map (λ x. g (e x)) xs ≡ flat_map g (map e xs)
flat_mapped e g [] = refl
flat_mapped e g (x ∷ xs) = ap (λ zs. g (e x) ++ zs) (flat_mapped e g xs)

pub permutes_map : {A B : Type 0} (e : Path → A) (g : A → List B) (xs ys : List Path) → ((p : Path) → times p xs ≡ times p ys)
    → IsPermutation (flat_map g (map e xs)) (flat_map g (map e ys))
permutes_map {A} {B} e g xs ys same = subst (λ (z : List B × List B). IsPermutation z.0 z.1) (λ i. (flat_mapped e g xs i, flat_mapped e g ys i))
    (permutes (λ p. g (e p)) xs ys same)

pub flat_self : {A : Type 0} (xs : List A) → flat_map (λ x. x ∷ []) xs ≡ xs
flat_self [] = refl
flat_self (x ∷ xs) = ap (λ zs. x ∷ zs) (flat_self xs)

-- a member's path stands there
pub in_times : (p : Path) (ps : List Path) → In p ps → 0 < times p ps
in_times p [] x = elim x [ ]
in_times p (q ∷ ps) here = let a = one_self p p refl in omega arith
in_times p (q ∷ ps) (there i) = let a = in_times p ps i in omega arith

-- and what stands there is that of a member
pub times_in : {A : Type 0} (f : A → Path) (p : Path) (es : List A) → 0 < times p (map f es) → (e : A) × In e es × (f e ≡ p)
times_in f p [] some_times = absurd (omega arith)
times_in {A} f p (e ∷ es) some_times = go (same_path p (f e)) refl (times_in f p es)
  where
    go : (b : Bool) → same_path p (f e) ≡ b → (0 < times p (map f es) → (x : A) × In x es × (f x ≡ p)) → (x : A) × In x (e ∷ es) × (f x ≡ p)
    go true is rest = (e, here, sym (same_is p (f e) is))
    go false is rest = let none : one_if (same_path p (f e)) ≡ 0 = ap one_if is in let r = rest (omega arith) in (r.0, there r.1, r.2)

pub map_same : {A B : Type 0} (f g : A → B) (xs : List A) → ((x : A) → In x xs → f x ≡ g x) → map f xs ≡ map g xs
map_same f g [] h = refl
map_same f g (x ∷ xs) h = λ i. h x here i ∷ map_same f g xs (λ y m. h y (there m)) i

pub map_map : {A B C : Type 0} (f : A → B) (g : B → C) (xs : List A) → map g (map f xs) ≡ map (λ x. g (f x)) xs
map_map f g [] = refl
map_map f g (x ∷ xs) = ap (λ zs. g (f x) ∷ zs) (map_map f g xs)

pub none_in : {A : Type 0} (xs : List A) → ((x : A) → In x xs → ⊥) → xs ≡ []
none_in [] h = refl
none_in (x ∷ xs) h = absurd (h x here)
