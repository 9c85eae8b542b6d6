-- The list of paths has each path that leads to a task once, and no other.
use Rattle.std.proofs.Common.{◌≡◌, ◌≤◌, ◌<◌, ◌+◌, ℕ, zero, suc, List, [], ◌∷◌, ◌++◌, map, ◌⊎◌, inl, inr, refl, sym, ap, subst, ◌∙◌, arith}
use Rattle.kt_order.specs.Lists.{SomeOf}
use Rattle.kt_order.specs.Paths.{shift, IsThere}
use Rattle.kt_order.specs.Listed.{each_from, listed, all_paths}
use Rattle.kt_runs.specs.ByPath.{NoTwice}

abbrev pub In : {X : Type 0} → X → List X → Type 0
In x xs = SomeOf (λ y. x ≡ y) xs

module _ {X : Type 0} where
  in_left : (z : X) (a b : List X) → In z a → In z (a ++ b)
  in_left z [] b h = absurd h
  in_left z (x ∷ a) b (inl e) = inl e
  in_left z (x ∷ a) b (inr h) = inr (in_left z a b h)

  in_right : (z : X) (a b : List X) → In z b → In z (a ++ b)
  in_right z [] b h = h
  in_right z (x ∷ a) b h = inr (in_right z a b h)

  in_either : (z : X) (a b : List X) → In z (a ++ b) → In z a ⊎ In z b
  in_either z [] b h = inr h
  in_either z (x ∷ a) b (inl e) = inl (inl e)
  in_either z (x ∷ a) b (inr h) = elim (in_either z a b h) [ inl l ↦ inl (inr l) | inr r ↦ inr r ]

module _ {X Y : Type 0} (g : X → Y) where
  pub in_map : (x : X) (xs : List X) → In x xs → In (g x) (map g xs)
  in_map x [] h = absurd h
  in_map x (y ∷ ys) (inl e) = inl (ap g e)
  in_map x (y ∷ ys) (inr h) = inr (in_map x ys h)

  in_mapped : (z : Y) (xs : List X) → In z (map g xs) → (x : X) × In x xs × (z ≡ g x)
  in_mapped z [] h = absurd h
  in_mapped z (x ∷ xs) (inl e) = (x, inl refl, e)
  in_mapped z (x ∷ xs) (inr h) = let r = in_mapped z xs h in (r.0, inr r.1, r.2)

  -- where the members have different images
  map_once : (xs : List X) → ((x y : X) → In x xs → In y xs → g x ≡ g y → x ≡ y) → NoTwice xs → NoTwice (map g xs)
  map_once [] h once = tt
  map_once (x ∷ xs) h once = (
    λ i. (let r = in_mapped (g x) xs i in once.0 (subst (λ (w : X). In w xs) (sym (h x r.0 (inl refl) (inr r.1) r.2)) r.1)),
    map_once xs (λ y z i j e. h y z (inr i) (inr j) e) once.1,
  )

head_is : (i j : ℕ) (p q : List ℕ) → i ∷ p ≡ j ∷ q → i ≡ j
head_is i j p q e = cc

tail_is : (i j : ℕ) (p q : List ℕ) → i ∷ p ≡ j ∷ q → p ≡ q
tail_is i j p q e = cc

no_cons : (i : ℕ) (p : List ℕ) → [] ≡ i ∷ p → ⊥
no_cons i p e = cc

same_or_other : (k i : ℕ) → k ≤ i → (k ≡ i) ⊎ (suc k ≤ i)
same_or_other k i h = grind arith

-- a path of the list goes by one of the numbers, and then by a path of that child
module _ (sub : (List ℕ → ℕ) → List (List ℕ)) (count : List ℕ → ℕ) where
  abbrev Goes : ℕ → ℕ → List ℕ → Type 0
  Goes k n q = (i : ℕ) × (p : List ℕ) × (q ≡ i ∷ p) × (k ≤ i) × (i < k + n) × In p ([] ∷ sub (shift i count))

  each_goes : (k n : ℕ) (q : List ℕ) → In q (each_from sub count k n) → Goes k n q
  each_goes k zero q h = absurd h
  each_goes k (suc n) q (inl e) = (k, [], e, omega arith, omega arith, inl refl)
  each_goes k (suc n) q (inr h) = elim (in_either q (map (λ p. k ∷ p) (sub (shift k count))) (each_from sub count (suc k) n) h) [
    | inl l ↦ (let r = in_mapped (λ (p : List ℕ). k ∷ p) q (sub (shift k count)) l in (k, r.0, r.2, omega arith, omega arith, inr r.1))
    | inr l ↦ (let r = each_goes (suc k) n q l in let a = r.3 in let b = r.4 in (r.0, r.1, r.2, omega arith, omega arith, r.5))
  ]

  goes_each : (k n i : ℕ) (p : List ℕ) → k ≤ i → i < k + n → In p ([] ∷ sub (shift i count)) → In (i ∷ p) (each_from sub count k n)
  goes_each k zero i p low high h = absurd (omega arith)
  goes_each k (suc n) i p low high h = elim (same_or_other k i low) [
    | inl e ↦ subst (λ (j : ℕ). In (j ∷ p) (each_from sub count k (suc n))) e (here (subst (λ (j : ℕ). In p ([] ∷ sub (shift j count))) (sym e) h))
    | inr more ↦ inr (in_right (i ∷ p) (map (λ (p : List ℕ). k ∷ p) (sub (shift k count))) (each_from sub count (suc k) n) (goes_each (suc k) n i p more (omega arith) h))
  ]
    where
      here : In p ([] ∷ sub (shift k count)) → In (k ∷ p) (each_from sub count k (suc n))
      here (inl e) = inl (ap (λ (p : List ℕ). k ∷ p) e)
      here (inr j) = inr (in_left (k ∷ p) (map (λ (p : List ℕ). k ∷ p) (sub (shift k count))) (each_from sub count (suc k) n) (in_map (λ (p : List ℕ). k ∷ p) p (sub (shift k count)) j))

  module _ (once : (count : List ℕ → ℕ) → NoTwice ([] ∷ sub count)) where
    append_once : (xs ys : List (List ℕ)) → NoTwice xs → NoTwice ys → ((q : List ℕ) → In q xs → In q ys → ⊥) → NoTwice (xs ++ ys)
    append_once [] ys a b apart = b
    append_once (x ∷ xs) ys a b apart = (
      λ i. elim (in_either x xs ys i) [ inl l ↦ a.0 l | inr r ↦ apart x (inl refl) r ],
      append_once xs ys a.1 b (λ q i j. apart q (inr i) j),
    )

    each_once : (k n : ℕ) → NoTwice (each_from sub count k n)
    each_once k zero = tt
    each_once k (suc n) = (
      λ i. first (in_either (k ∷ []) (map (λ (p : List ℕ). k ∷ p) (sub (shift k count))) (each_from sub count (suc k) n) i),
      append_once (map (λ (p : List ℕ). k ∷ p) (sub (shift k count))) (each_from sub count (suc k) n)
          (map_once (λ (p : List ℕ). k ∷ p) (sub (shift k count)) (λ x y i j e. tail_is k k x y e) (once (shift k count)).1) (each_once (suc k) n) apart,
    )
      where
        first : In (k ∷ []) (map (λ (p : List ℕ). k ∷ p) (sub (shift k count))) ⊎ In (k ∷ []) (each_from sub count (suc k) n) → ⊥
        first (inl l) =
            let r = in_mapped (λ (p : List ℕ). k ∷ p) (k ∷ []) (sub (shift k count)) l in
            (once (shift k count)).0 (subst (λ (p : List ℕ). In p (sub (shift k count))) (sym (tail_is k k [] r.0 r.2)) r.1)
        first (inr l) = let r = each_goes (suc k) n (k ∷ []) l in let e = head_is k r.0 [] r.1 r.2 in let a = r.3 in omega arith

        apart : (q : List ℕ) → In q (map (λ (p : List ℕ). k ∷ p) (sub (shift k count))) → In q (each_from sub count (suc k) n) → ⊥
        apart q i j =
            let r = in_mapped (λ (p : List ℕ). k ∷ p) q (sub (shift k count)) i in
            let s = each_goes (suc k) n q j in
            let e = head_is k s.0 r.0 s.1 (sym r.2 ∙ s.2) in let a = s.3 in omega arith

-- the root is none of the paths below it
no_root : (depth : ℕ) (count : List ℕ → ℕ) → In [] (listed depth count) → ⊥
no_root zero count h = h
no_root (suc depth) count h = let r = each_goes (listed depth) count 0 (count []) [] h in no_cons r.0 r.1 r.2

pub paths_once : (depth : ℕ) (count : List ℕ → ℕ) → NoTwice (all_paths depth count)
paths_once zero count = ((λ h. h), tt)
paths_once (suc depth) count = (no_root (suc depth) count, each_once (listed depth) count (paths_once depth) 0 (count []))

-- the list has just the paths that are there
pub there_in : (depth : ℕ) (count : List ℕ → ℕ) (q : List ℕ) → IsThere depth count q → In q (all_paths depth count)
there_in depth count [] h = inl refl
there_in zero count (k ∷ q) h = absurd h
there_in (suc depth) count (k ∷ q) h =
    inr (goes_each (listed depth) count 0 (count []) k q (omega arith) (let a = h.0 in omega arith) (there_in depth (shift k count) q h.1))

pub in_there : (depth : ℕ) (count : List ℕ → ℕ) (q : List ℕ) → In q (all_paths depth count) → IsThere depth count q
in_there depth count [] h = tt
in_there depth count (k ∷ q) (inl e) = absurd (no_cons k q (sym e))
in_there zero count (k ∷ q) (inr h) = absurd h
in_there (suc depth) count (k ∷ q) (inr h) =
    let r = each_goes (listed depth) count 0 (count []) (k ∷ q) h in
    let same = head_is k r.0 q r.1 r.2 in
    let a = r.4 in
    (omega arith, in_there depth (shift k count) q (subst (λ (p : List ℕ). In p (all_paths depth (shift k count))) (sym (tail_is k r.0 q r.1 r.2)) (subst (λ (j : ℕ). In r.1 (all_paths depth (shift j count))) (sym same) r.5)))
