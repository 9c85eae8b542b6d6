-- Elements that are loaded and written one after another.
use Rattle.std.proofs.Common.{◌≡◌, ◌≤◌, ◌<◌, ℕ, zero, suc, ◌+◌, ◌-◌, List, [], ◌∷◌, ◌++◌, length, take, drop, set, get_or, refl, sym, ap, ◌∙◌, arith, add-one, append-nil, drop-cons}
use mathlib.Core.Path.{fun_ext}
use Rattle.std.proofs.lemmas.Grind.{common_steps}
use Rattle.kt_law.specs.Acts.{Deed}
use Rattle.kt_prog.specs.Kernels.{load_all, perform_all}
use Rattle.kt_prog.specs.Script.{Step, ◌>>=◌, ◌>>◌, give, load, perform}

-- what is left to be loaded, behind what stands in front of i already
abbrev pub loads_left : ℕ → ℕ → ℕ → List ℕ → Step (List ℕ)
loads_left object i n into = load_all object i (n - i) >>= (λ ys. give (take i into ++ ys))

pub load_begin : (object n : ℕ) (into : List ℕ) → load_all object 0 n ≡ loads_left object 0 n into
unfolding ◌>>=◌ give
load_begin object n into = let same : n - 0 ≡ n = omega arith in rw same refl

pub load_more : (object i n : ℕ) (into : List ℕ) → i < n → loads_left object i n into
    ≡ (load object i >>= (λ x. load_all object (i + 1) (n - (i + 1)) >>= (λ ys. give (take i into ++ x ∷ ys))))
unfolding ◌>>=◌ give
load_more object i n into h = let e : n - i ≡ suc (n - (i + 1)) = omega arith in rw (e, add-one) refl

take_set : (into : List ℕ) (i v : ℕ) (ys : List ℕ) → i < length into → take (suc i) (set into i v) ++ ys ≡ take i into ++ v ∷ ys
take_set [] i v ys h = absurd (omega (arith, h))
take_set (x ∷ into) zero v ys h = refl
take_set (x ∷ into) (suc i) v ys h = ap (λ (zs : List ℕ). x ∷ zs) (take_set into i v ys (omega (arith, h)))

pub load_kept : (object i n v : ℕ) (into : List ℕ) → i < length into
    → (load_all object (i + 1) (n - (i + 1)) >>= (λ ys. give (take i into ++ v ∷ ys))) ≡ loads_left object (i + 1) n (set into i v)
load_kept object i n v into h =
    ap (λ (f : List ℕ → Step (List ℕ)). load_all object (i + 1) (n - (i + 1)) >>= f)
    (fun_ext (λ ys. let e : take (i + 1) (set into i v) ++ ys ≡ take i into ++ v ∷ ys = rw add-one (take_set into i v ys h) in ap (give {A = List ℕ}) (sym e)))

pub load_done : (object i n : ℕ) (into : List ℕ) → n ≤ i → length into ≡ n → loads_left object i n into ≡ give into
unfolding ◌>>=◌ give
load_done object i n into h e =
    let none : n - i ≡ 0 = omega arith in
    let all : take i into ≡ into = grind (arith, common_steps) in
    let whole : take i into ++ [] ≡ into = append-nil (take i into) ∙ all in
    rw none (ap (λ (xs : List ℕ). give {A = List ℕ} xs) whole)

module _ (deed : ℕ → Deed) (object : ℕ) where
  pub write_more : (xs : List ℕ) (i : ℕ) → i < length xs
      → perform_all deed object i (drop i xs) ≡ (perform object i (deed (get_or xs i 0)) >> perform_all deed object (i + 1) (drop (i + 1) xs))
  write_more xs i h =
      let split : drop i xs ≡ get_or xs i 0 ∷ drop (i + 1) xs = rw (add-one, drop-cons xs i 0 h) refl in
      rw (split, add-one) refl

  pub write_none : (xs : List ℕ) (i : ℕ) → length xs ≤ i → perform_all deed object i (drop i xs) ≡ give tt
  write_none xs i h = let none : drop i xs ≡ [] = grind (arith, common_steps) in rw none refl
