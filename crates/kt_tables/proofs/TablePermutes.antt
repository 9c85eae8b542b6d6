-- Two lists of the same members, none of them twice, are permutations of each other, and so are the lists made of their members.
use Rattle.std.proofs.Common.{◌≡◌, ℕ, zero, suc, List, [], ◌∷◌, ◌++◌, Some, ◌⊎◌, inl, inr, refl, sym, ap, subst, ◌∙◌, append_assoc, slice_get}
use Rattle.std.specs.List.{flat_map}
use Rattle.std.specs.List.Sorted.{IsPermutation}
use Rattle.std.proofs.lemmas.List.Concat.{flat_map-append}
use Rattle.std.proofs.lemmas.List.Sorted.{IsPermutation-refl, IsPermutation-append, IsPermutation-append_left, IsPermutation-append_comm, IsPermutation-trans}
use Rattle.kt_runs.specs.ByPath.{NoTwice}
use Rattle.kt_runs.proofs.PathsListed.{In}

module _ {X : Type 0} where
  in_left : (z : X) (a b : List X) → In z a → In z (a ++ b)
  in_left z [] b h = absurd h
  in_left z (x ∷ a) b (inl e) = inl e
  in_left z (x ∷ a) b (inr h) = inr (in_left z a b h)

  in_right : (z : X) (a b : List X) → In z b → In z (a ++ b)
  in_right z [] b h = h
  in_right z (x ∷ a) b h = inr (in_right z a b h)

  pub in_either : (z : X) (a b : List X) → In z (a ++ b) → In z a ⊎ In z b
  in_either z [] b h = inr h
  in_either z (x ∷ a) b (inl e) = inl (inl e)
  in_either z (x ∷ a) b (inr h) = elim (in_either z a b h) [ inl l ↦ inl (inr l) | inr r ↦ inr r ]

  -- a list is cut at a member
  in_cut : (x : X) (xs : List X) → In x xs → (a : List X) × (b : List X) × (xs ≡ a ++ x ∷ b)
  in_cut x [] h = absurd h
  in_cut x (y ∷ ys) (inl e) = ([], ys, λ i. sym e i ∷ ys)
  in_cut x (y ∷ ys) (inr h) = let r = in_cut x ys h in (y ∷ r.0, r.1, ap (λ zs. y ∷ zs) r.2)

  in_less : (z y : X) (a b : List X) → In z (a ++ b) → In z (a ++ y ∷ b)
  in_less z y a b h = elim (in_either z a b h) [ inl l ↦ in_left z a (y ∷ b) l | inr r ↦ in_right z a (y ∷ b) (inr r) ]

  in_more : (z y : X) (a b : List X) → In z (a ++ y ∷ b) → (z ≡ y) ⊎ In z (a ++ b)
  in_more z y [] b h = h
  in_more z y (x ∷ a) b (inl e) = inr (inl e)
  in_more z y (x ∷ a) b (inr h) = elim (in_more z y a b h) [ inl e ↦ inl e | inr r ↦ inr (inr r) ]

  -- without one of its members a list has none twice, and not that one
  once_less : (y : X) (a b : List X) → NoTwice (a ++ y ∷ b) → NoTwice (a ++ b) × (In y (a ++ b) → ⊥)
  once_less y [] b h = (h.1, h.0)
  once_less y (x ∷ a) b h =
      let r = once_less y a b h.1 in (
        ((λ i. h.0 (in_less x y a b i)), r.0),
        λ i. other i r.1,
      )
    where
      other : In y (x ∷ (a ++ b)) → (In y (a ++ b) → ⊥) → ⊥
      other (inl e) no_more = h.0 (in_right x a (y ∷ b) (inl (sym e)))
      other (inr i) no_more = no_more i

  module _ {Y : Type 0} (f : X → List Y) where
    cut_moves : (y : X) (a b : List X) → IsPermutation (flat_map f (a ++ y ∷ b)) (f y ++ flat_map f (a ++ b))
    cut_moves y a b =
        subst (λ l. IsPermutation l (f y ++ flat_map f (a ++ b))) (append_assoc (flat_map f a) (f y) (flat_map f b) ∙ sym (flat_map-append f a (y ∷ b)))
        (subst (λ l. IsPermutation ((flat_map f a ++ f y) ++ flat_map f b) l) (append_assoc (f y) (flat_map f a) (flat_map f b) ∙ ap (λ l. f y ++ l) (sym (flat_map-append f a b)))
        (IsPermutation-append_left (flat_map f b) (flat_map f a ++ f y) (f y ++ flat_map f a) (IsPermutation-append_comm (flat_map f a) (f y))))

    pub members_permute : (ys xs : List X) → NoTwice xs → NoTwice ys → ((z : X) → In z xs → In z ys) → ((z : X) → In z ys → In z xs)
        → IsPermutation (flat_map f xs) (flat_map f ys)
    members_permute [] [] once_x once_y to from = IsPermutation-refl []
    members_permute [] (x ∷ xs) once_x once_y to from = absurd (to x (inl refl))
    members_permute (y ∷ ys) xs once_x once_y to from =
        let cut = in_cut y xs (from y (inl refl)) in
        let a = cut.0 in
        let b = cut.1 in
        let less = once_less y a b (subst NoTwice cut.2 once_x) in
        let more = members_permute ys (a ++ b) less.0 once_y.1
        (λ z i. below (a ++ b) z i (to z (subst (In z) (sym cut.2) (in_less z y a b i))) less.1)
        (λ z i. above (a ++ b) z i (in_more z y a b (subst (In z) cut.2 (from z (inr i))))) in
        subst (λ l. IsPermutation (flat_map f l) (f y ++ flat_map f ys)) (sym cut.2)
        (IsPermutation-trans (flat_map f (a ++ y ∷ b)) (f y ++ flat_map f (a ++ b)) (f y ++ flat_map f ys) (cut_moves y a b)
        (IsPermutation-append (f y) (f y) (flat_map f (a ++ b)) (flat_map f ys) (IsPermutation-refl (f y)) more))
      where
        below : (l : List X) (z : X) → In z l → In z (y ∷ ys) → (In y l → ⊥) → In z ys
        below l z i (inl e) other = absurd (other (subst (λ (w : X). In w l) e i))
        below l z i (inr h) other = h

        above : (l : List X) (z : X) → In z ys → (z ≡ y) ⊎ In z l → In z l
        above l z i (inl e) = absurd (once_y.0 (subst (λ (w : X). In w ys) e i))
        above l z i (inr h) = h

  pub in_get : (z : X) (xs : List X) → In z xs → (k : ℕ) × (slice_get xs k ≡ Some z)
  in_get z [] h = absurd h
  in_get z (x ∷ xs) (inl e) = (zero, ap Some (sym e))
  in_get z (x ∷ xs) (inr h) = let r = in_get z xs h in (suc r.0, r.1)

  pub get_in : (z : X) (xs : List X) (k : ℕ) → slice_get xs k ≡ Some z → In z xs
  get_in z [] k e = absurd (cc e)
  get_in z (x ∷ xs) zero e = inl (the_some e)
    where
      the_some : Some x ≡ Some z → z ≡ x
      the_some h = cc
  get_in z (x ∷ xs) (suc k) e = inr (get_in z xs k e)

  -- what stands at one place only is there once
  pub places_once : (xs : List X) → ((t u : ℕ) (x : X) → slice_get xs t ≡ Some x → slice_get xs u ≡ Some x → t ≡ u) → NoTwice xs
  places_once [] h = tt
  places_once (x ∷ xs) h = (
    λ i. (let r = in_get x xs i in absurd (cc (h zero (suc r.0) x refl r.1))),
    places_once xs (λ t u y e e'. next (h (suc t) (suc u) y e e')),
  )
    where
      next : {t u : ℕ} → suc t ≡ suc u → t ≡ u
      next e = cc

module _ {X Y : Type 0} (f : X → List Y) where
  pub in_flat : (x : X) (y : Y) (xs : List X) → In x xs → In y (f x) → In y (flat_map f xs)
  in_flat x y [] h i = absurd h
  in_flat x y (z ∷ xs) (inl e) i = in_left y (f z) (flat_map f xs) (subst (λ (w : X). In y (f w)) e i)
  in_flat x y (z ∷ xs) (inr h) i = in_right y (f z) (flat_map f xs) (in_flat x y xs h i)

  pub in_flattened : (y : Y) (xs : List X) → In y (flat_map f xs) → (x : X) × In x xs × In y (f x)
  in_flattened y [] h = absurd h
  in_flattened y (x ∷ xs) h = elim (in_either y (f x) (flat_map f xs) h) [
    | inl l ↦ (x, inl refl, l)
    | inr r ↦ (let s = in_flattened y xs r in (s.0, inr s.1, s.2))
  ]
