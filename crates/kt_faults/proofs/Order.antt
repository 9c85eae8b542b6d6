-- The order of faults: by path, and at one path by index.
use Rattle.std.proofs.Common.{◌≡◌, ◌<◌, ℕ, Bool, true, false, List, [], ◌∷◌, Option, Some, None, ◌⊎◌, inl, inr, refl, sym, ap, subst, ◌∙◌, arith, nat_eq, nat_lt, not, ◌&&◌, ◌||◌, if◌then◌else◌}
use Rattle.std.proofs.lemmas.Bool.Decides.{nat_tests}
use Rattle.kt_prog.specs.Runs.{FaultRun}
use Rattle.kt_prog.specs.Outcome.{path_before, index_before, fault_before, first_fault}
use Rattle.kt_faults.specs.First.{IsAmong}

order_of : (m n : ℕ) → (m < n) ⊎ ((m ≡ n) ⊎ (n < m))
order_of m n = grind arith

same_first : (m : ℕ) → nat_eq m m ≡ true
same_first m = grind (arith, nat_tests)

less_first : (m n : ℕ) → m < n → (nat_eq m n ≡ false) × (nat_lt m n ≡ true)
less_first m n h = (grind (arith, nat_tests), grind (arith, nat_tests))

more_first : (m n : ℕ) → n < m → (nat_eq m n ≡ false) × (nat_lt m n ≡ false)
more_first m n h = (grind (arith, nat_tests), grind (arith, nat_tests))

-- what the order of two paths says of their first numbers
before_same : (m : ℕ) (p q : List ℕ) → path_before (m ∷ p) (m ∷ q) ≡ path_before p q
before_same m p q = rw (same_first m) refl

before_less : (m n : ℕ) (p q : List ℕ) → m < n → path_before (m ∷ p) (n ∷ q) ≡ true
before_less m n p q h = let f = less_first m n h in rw (f.0, f.1) refl

before_more : (m n : ℕ) (p q : List ℕ) → n < m → path_before (m ∷ p) (n ∷ q) ≡ false
before_more m n p q h = let f = more_first m n h in rw (f.0, f.1) refl

before_on : (p q r : List ℕ) → path_before p q ≡ true → path_before q r ≡ true → path_before p r ≡ true
before_on [] [] r a b = absurd (cc a)
before_on [] (n ∷ q) [] a b = absurd (cc b)
before_on [] (n ∷ q) (k ∷ r) a b = refl
before_on (m ∷ p) [] r a b = absurd (cc a)
before_on (m ∷ p) (n ∷ q) [] a b = absurd (cc b)
before_on (m ∷ p) (n ∷ q) (k ∷ r) a b = by (order_of m n) (order_of n k) (before_on p q r)
  where
    by : (m < n) ⊎ ((m ≡ n) ⊎ (n < m)) → (n < k) ⊎ ((n ≡ k) ⊎ (k < n)) → (path_before p q ≡ true → path_before q r ≡ true → path_before p r ≡ true)
        → path_before (m ∷ p) (k ∷ r) ≡ true
    by (inl lt) (inl lt') deeper = before_less m k p r (omega arith)
    by (inl lt) (inr (inl e)) deeper = before_less m k p r (omega arith)
    by (inr (inl e)) (inl lt) deeper = before_less m k p r (omega arith)
    by (inr (inl e)) (inr (inl e')) deeper =
        let a' : path_before p q ≡ true = sym (before_same n p q) ∙ subst (λ (i : ℕ). path_before (i ∷ p) (n ∷ q) ≡ true) e a in
        let b' : path_before q r ≡ true = sym (before_same k q r) ∙ subst (λ (i : ℕ). path_before (i ∷ q) (k ∷ r) ≡ true) e' b in
        subst (λ (i : ℕ). path_before (m ∷ p) (i ∷ r) ≡ true) (e ∙ e') (before_same m p r ∙ deeper a' b')
    by (inr (inr gt)) other deeper = absurd (cc (sym a ∙ before_more m n p q gt))
    by (inl lt) (inr (inr gt)) deeper = absurd (cc (sym b ∙ before_more n k q r gt))
    by (inr (inl e)) (inr (inr gt)) deeper = absurd (cc (sym b ∙ before_more n k q r gt))

neither_before : (p q : List ℕ) → path_before p q ≡ false → path_before q p ≡ false → p ≡ q
neither_before [] [] a b = refl
neither_before [] (n ∷ q) a b = absurd (cc a)
neither_before (m ∷ p) [] a b = absurd (cc b)
neither_before (m ∷ p) (n ∷ q) a b = by (order_of m n) (neither_before p q)
  where
    by : (m < n) ⊎ ((m ≡ n) ⊎ (n < m)) → (path_before p q ≡ false → path_before q p ≡ false → p ≡ q) → m ∷ p ≡ n ∷ q
    by (inl lt) deeper = absurd (cc (sym a ∙ before_less m n p q lt))
    by (inr (inr gt)) deeper = absurd (cc (sym b ∙ before_less n m q p gt))
    by (inr (inl e)) deeper =
        let a' : path_before p q ≡ false = sym (before_same n p q) ∙ subst (λ (i : ℕ). path_before (i ∷ p) (n ∷ q) ≡ false) e a in
        let b' : path_before q p ≡ false = sym (before_same n q p) ∙ subst (λ (i : ℕ). path_before (n ∷ q) (i ∷ p) ≡ false) e b in
        let r = deeper a' b' in
        λ i. e i ∷ r i

pub irreflexive : (p : List ℕ) → path_before p p ≡ false
irreflexive [] = refl
irreflexive (k ∷ p) = before_same k p p ∙ irreflexive p

-- the order of indexes
index_on : (i j k : Option ℕ) → index_before i j ≡ true → index_before j k ≡ true → index_before i k ≡ true
index_on None None k a b = absurd (cc a)
index_on None (Some j) None a b = absurd (cc b)
index_on None (Some j) (Some k) a b = refl
index_on (Some i) None k a b = absurd (cc a)
index_on (Some i) (Some j) None a b = absurd (cc b)
index_on (Some i) (Some j) (Some k) a b = less_on i j k a b
  where
    less_on : (i j k : ℕ) → nat_lt i j ≡ true → nat_lt j k ≡ true → nat_lt i k ≡ true
    less_on i j k a b = grind (arith, nat_tests)

index_same : (i : Option ℕ) → index_before i i ≡ false
index_same None = refl
index_same (Some i) = not_less i
  where
    not_less : (i : ℕ) → nat_lt i i ≡ false
    not_less i = grind (arith, nat_tests)

neither_index : (i j : Option ℕ) → index_before i j ≡ false → index_before j i ≡ false → i ≡ j
neither_index None None a b = refl
neither_index None (Some j) a b = absurd (cc a)
neither_index (Some i) None a b = absurd (cc b)
neither_index (Some i) (Some j) a b = ap Some (neither_less i j a b)
  where
    neither_less : (i j : ℕ) → nat_lt i j ≡ false → nat_lt j i ≡ false → i ≡ j
    neither_less i j a b = grind (arith, nat_tests)

-- one fault is before another by its path, or at one path by its index
abbrev Before : FaultRun → FaultRun → Type 0
Before f g = (path_before f.path g.path ≡ true) ⊎ ((f.path ≡ g.path) × (index_before f.index g.index ≡ true))

two_tests : (a b : Bool) (i : Bool) → (a || not b && i) ≡ true → (a ≡ true) ⊎ ((a ≡ false) × (b ≡ false) × (i ≡ true))
two_tests true b i e = inl refl
two_tests false true i e = absurd (cc e)
two_tests false false i e = inr (refl, refl, e)

before_view : (f g : FaultRun) → fault_before f g ≡ true → Before f g
before_view f g e = elim (two_tests (path_before f.path g.path) (path_before g.path f.path) (index_before f.index g.index) e) [
  | inl a ↦ inl a
  | inr b ↦ inr (neither_before f.path g.path b.0 b.1, b.2)
]

view_before : (f g : FaultRun) → Before f g → fault_before f g ≡ true
view_before f g (inl a) = rw a refl
view_before f g (inr b) = by (path_before f.path g.path) (path_before g.path f.path) (index_before f.index g.index) (ap (path_before g.path) b.0 ∙ irreflexive g.path) b.1
  where
    by : (a c i : Bool) → c ≡ false → i ≡ true → (a || not c && i) ≡ true
    by true c i e h = refl
    by false c i e h = rw (e, h) refl

fault_on : (f g h : FaultRun) → fault_before f g ≡ true → fault_before g h ≡ true → fault_before f h ≡ true
fault_on f g h a b = view_before f h (both (before_view f g a) (before_view g h b))
  where
    both : Before f g → Before g h → Before f h
    both (inl p) (inl q) = inl (before_on f.path g.path h.path p q)
    both (inl p) (inr q) = inl (subst (λ (w : List ℕ). path_before f.path w ≡ true) q.0 p)
    both (inr p) (inl q) = inl (subst (λ (w : List ℕ). path_before w h.path ≡ true) (sym p.0) q)
    both (inr p) (inr q) = inr (p.0 ∙ q.0, index_on f.index g.index h.index p.1 q.1)

fault_self : (f : FaultRun) → fault_before f f ≡ false
fault_self f = rw (irreflexive f.path, index_same f.index) refl

pub neither_fault : (f g : FaultRun) → fault_before f g ≡ false → fault_before g f ≡ false → (f.path ≡ g.path) × (f.index ≡ g.index)
neither_fault f g a b =
    let one = split (path_before f.path g.path) (path_before g.path f.path) (index_before f.index g.index) a in
    let two = split (path_before g.path f.path) (path_before f.path g.path) (index_before g.index f.index) b in
    (neither_before f.path g.path one.0 two.0, neither_index f.index g.index (one.1 two.0) (two.1 one.0))
  where
    split : (a c i : Bool) → (a || not c && i) ≡ false → (a ≡ false) × (c ≡ false → i ≡ false)
    split true c i e = absurd (cc e)
    split false true i e = (refl, λ h. absurd (cc h))
    split false false i e = (refl, λ h. e)

-- the first of the faults is one of them
pub first_in : (f : FaultRun) (fs : List FaultRun) → IsAmong (first_fault f fs) (f ∷ fs)
first_in f [] = inl refl
first_in f (g ∷ fs) = by (fault_before g f) (first_in f fs) (first_in g fs)
  where
    by : (b : Bool) → IsAmong (first_fault f fs) (f ∷ fs) → IsAmong (first_fault g fs) (g ∷ fs) → IsAmong (first_fault (if b then g else f) fs) (f ∷ (g ∷ fs))
    by true mine other = inr other
    by false (inl e) other = inl e
    by false (inr h) other = inr (inr h)

-- what is not before the one is not before the other, which is before it
pub not_later : (f g h : FaultRun) → fault_before f h ≡ false → fault_before g h ≡ true → fault_before f g ≡ false
not_later f g h none less = decide (fault_before f g) refl
  where
    decide : (b : Bool) → fault_before f g ≡ b → b ≡ false
    decide true e = absurd (cc (sym none ∙ fault_on f g h e less))
    decide false e = refl

-- and the other way: nothing is before the first of two that is not before a third
not_sooner : (f g h : FaultRun) → fault_before g f ≡ true → fault_before g h ≡ false → fault_before f h ≡ false
not_sooner f g h less none = decide (fault_before f h) refl
  where
    decide : (b : Bool) → fault_before f h ≡ b → b ≡ false
    decide true e = absurd (cc (sym none ∙ fault_on g f h less e))
    decide false e = refl

-- two places in the order that are the same
moved : (a b c : FaultRun) → (b.path ≡ c.path) × (b.index ≡ c.index) → Before a b → Before a c
moved a b c same (inl p) = inl (subst (λ (q : List ℕ). path_before a.path q ≡ true) same.0 p)
moved a b c same (inr p) = inr (p.0 ∙ same.0, subst (λ (k : Option ℕ). index_before a.index k ≡ true) same.1 p.1)

-- what is not before g, which is not before f, is not before f
pub not_through : (h g f : FaultRun) → fault_before h g ≡ false → fault_before g f ≡ false → fault_before h f ≡ false
not_through h g f later none = decide (fault_before h f) refl (fault_before f g) refl
  where
    decide : (b : Bool) → fault_before h f ≡ b → (c : Bool) → fault_before f g ≡ c → b ≡ false
    decide false d c e = refl
    decide true d true e = absurd (cc (sym later ∙ fault_on h f g d e))
    decide true d false e =
        let same = neither_fault f g e none in
        absurd (cc (sym later ∙ view_before h g (moved h f g same (before_view h f d))))

-- none of them is before the first
pub first_least : (f : FaultRun) (fs : List FaultRun) (g : FaultRun) → IsAmong g (f ∷ fs) → fault_before g (first_fault f fs) ≡ false
first_least f [] g (inl e) = subst (λ (h : FaultRun). fault_before h f ≡ false) (sym e) (fault_self f)
first_least f [] g (inr h) = absurd h
first_least f (h ∷ fs) g i = by (fault_before h f) refl (first_least f fs) (first_least h fs) i
  where
    by : (b : Bool) → fault_before h f ≡ b
        → ((u : FaultRun) → IsAmong u (f ∷ fs) → fault_before u (first_fault f fs) ≡ false)
        → ((u : FaultRun) → IsAmong u (h ∷ fs) → fault_before u (first_fault h fs) ≡ false)
        → IsAmong g (f ∷ (h ∷ fs)) → fault_before g (first_fault (if b then h else f) fs) ≡ false
    by true e mine other (inr j) = other g j
    by true e mine other (inl same) =
        subst (λ (w : FaultRun). fault_before w (first_fault h fs) ≡ false) (sym same) (not_sooner f h (first_fault h fs) e (other h (inl refl)))
    by false e mine other (inl same) = mine g (inl same)
    by false e mine other (inr (inr j)) = mine g (inr j)
    by false e mine other (inr (inl same)) =
        subst (λ (w : FaultRun). fault_before w (first_fault f fs) ≡ false) (sym same) (through (first_fault f fs) (first_in f fs) (mine f (inl refl)))
      where
        -- what is not before f is not before the least, which is f or before it
        through : (w : FaultRun) → IsAmong w (f ∷ fs) → fault_before f w ≡ false → fault_before h w ≡ false
        through w there least = decide (fault_before h w) refl (fault_before w f) refl
          where
            decide : (b : Bool) → fault_before h w ≡ b → (c : Bool) → fault_before w f ≡ c → b ≡ false
            decide false d c e' = refl
            decide true d true e' = absurd (cc (sym e ∙ fault_on h w f d e'))
            decide true d false e' =
                let same = neither_fault w f e' least in
                absurd (cc (sym e ∙ view_before h f (moved h w f same (before_view h w d))))
