-- The kernels keep to the rights.
use Rattle.std.proofs.Common.{◌≡◌, ◌≤◌, ◌<◌, ℕ, zero, suc, ◌+◌, ◌*◌, ◌/◌, ◌%◌, true, ◌&&◌, List, [], ◌∷◌, length, Some, None, inl, inr, refl, sym, ap, subst, arith, nat_le, nat_lt, slice_index}
use Rattle.std.proofs.lemmas.Bool.Decides.{nat_tests}
use Rattle.std.proofs.lemmas.List.FromFn.{length-map-range_with_len}
use Rattle.kt_law.specs.Operators.{satadd_of}
use Rattle.kt_law.specs.Acts.{Deed, Load, Store, Fold}
use Rattle.kt_law.specs.declared.faults.F.TheVariants.{F2}
use Rattle.kt_law.specs.declared.operators.Op.TheVariants.{Add, Min}
use Rattle.kt_law.specs.declared.modes.Mode.{Mode}
use Rattle.kt_law.specs.declared.modes.Mode.TheVariants.{R, W, X, Cw}
use Rattle.kt_law.specs.declared.accesses.Access.{Access}
use Rattle.kt_rights.specs.Rights.{SomeOf, Permits, Allowed, lets}
use Rattle.kt_rights.proofs.Lists.{some_more}
use Rattle.kt_prog.specs.Calls.{Job}
use Rattle.kt_prog.specs.Script.{Step}
use Rattle.kt_law.specs.PlainKernels.{tile, sum_below, least_below, mul_of, minplus_of, stencil_of, scan_of}
use Rattle.kt_prog.specs.Kernels.{load_all, perform_all, object_at, is_side, has, product, smooth, stencil_body, scan_body, kernel_body}
use Rattle.kt_prog.specs.Fits.{AreGiven, kernel_at}
use Rattle.kt_prog.specs.Targets.{Target}
use Rattle.kt_prog.specs.declared.programs.Sort.TheVariants as S
use Rattle.kt_prog.proofs.Good.{Good, good_give, good_then, good_test, good_load, good_perform}
use Rattle.kt_prog.proofs.Lists.{both_hold}

length-tile : (f : ℕ → ℕ → ℕ) (n q : ℕ) → length (tile f n q) ≡ n * q
length-tile f n q = length-map-range_with_len (λ e. f (e / q) (e % q)) 0 (n * q)

length-mul : (n p q : ℕ) (xs ys : List ℕ) → length (mul_of n p q xs ys) ≡ n * q
length-mul n p q xs ys = length-tile (λ i j. sum_below (λ k. slice_index xs (i * p + k) * slice_index ys (k * q + j)) p) n q

length-minplus : (n p q : ℕ) (xs ys : List ℕ) → length (minplus_of n p q xs ys) ≡ n * q
length-minplus n p q xs ys = length-tile (λ i j. least_below (λ k. satadd_of (slice_index xs (i * p + k)) (slice_index ys (k * q + j))) p) n q

length-stencil : (left : ℕ) (row : List ℕ) (right : ℕ) → length (stencil_of left row right) ≡ length row
length-stencil left row right = length-map-range_with_len _ 0 (length row)

length-scan : (row : List ℕ) (start : ℕ) → length (scan_of start row) ≡ length row
length-scan row start = length-map-range_with_len _ 0 (length row)

module _ (widths : ℕ → ℕ) (rights : List Access) (H : Job → Type 0) where
  abbrev GoodAt : {A : Type 0} → (A → Type 0) → Step A → Type 0
  GoodAt = Good (Allowed widths rights None) H

  abbrev Nothing : Unit {0} → Type 0
  Nothing x = Unit {0}

  abbrev pub Has : Mode → ℕ → Type 0
  Has mode o = SomeOf (λ (a : Access). (a.lo ≤ o) × (suc o ≤ a.hi) × (a.mode ≡ mode)) rights

  may : (mode : Mode) (o e : ℕ) (deed : Deed) → lets mode deed ≡ true → e < widths o → Has mode o
      → Allowed widths rights None (record { object = o; element = e; deed = deed })
  may mode o e deed l lt h = (
    lt,
    some_more (λ (a : Access). (a.lo ≤ o) × (suc o ≤ a.hi) × (a.mode ≡ mode)) (Permits None (record { object = o; element = e; deed = deed }))
        (λ a x. record { object = record { from = x.0; below = omega arith }; lets = subst (λ (m : Mode). lets m deed ≡ true) (sym x.2) l; owns = tt }) rights h,
  )

  loads_good : (mode : Mode) (o from n : ℕ) → lets mode Load ≡ true → Has mode o → from + n ≤ widths o
      → GoodAt (λ xs. length xs ≡ n) (load_all o from n)
  loads_good mode o from zero l h le = good_give _ H (λ xs. length xs ≡ 0) [] refl
  loads_good mode o from (suc n) l h le =
      let below : from < widths o = omega arith in
      good_then _ H (λ (x : ℕ). Unit {0}) (λ xs. length xs ≡ suc n) _ _ (good_load _ H o from (may mode o from Load l below h)) (λ x _.
      good_then _ H (λ xs. length xs ≡ n) (λ xs. length xs ≡ suc n) _ _ (loads_good mode o (suc from) n l h (omega arith)) (λ xs e.
      good_give _ H (λ xs. length xs ≡ suc n) (x ∷ xs) (ap suc e)))

  performs_good : (mode : Mode) (f : ℕ → Deed) (o from : ℕ) (xs : List ℕ) → ((x : ℕ) → lets mode (f x) ≡ true) → Has mode o
      → from + length xs ≤ widths o → GoodAt Nothing (perform_all f o from xs)
  performs_good mode f o from [] l h le = good_give _ H Nothing tt tt
  performs_good mode f o from (x ∷ xs) l h le =
      let room : from + suc (length xs) ≤ widths o = le in
      let below : from < widths o = omega arith in
      good_then _ H Nothing Nothing _ _ (good_perform _ H o from (f x) (may mode o from (f x) (l x) below h))
      (λ _ _. performs_good mode f o (suc from) xs l h (omega arith))

  has_room : (o n : ℕ) → has widths o n ≡ true → 0 + n ≤ widths o
  has_room o n h = let le : nat_le n (widths o) ≡ true = h in grind (arith, nat_tests)

  product_good : (f : ℕ → ℕ → ℕ → List ℕ → List ℕ → List ℕ) (deed : ℕ → Deed) (mode : Mode) (n p q a b c : ℕ)
      → ((xs ys : List ℕ) → length (f n p q xs ys) ≡ n * q) → ((x : ℕ) → lets mode (deed x) ≡ true) → Has R a → Has R b → Has mode c
      → GoodAt Nothing (product widths f deed n p q a b c)
  product_good f deed mode n p q a b c long l ra rb rc =
      let t1 = is_side n && is_side p && is_side q in
      let t2 = has widths a (n * p) in
      let t3 = has widths b (p * q) in
      let t4 = has widths c (n * q) in
      good_then _ H (λ _. (t1 && t2 && t3 && t4) ≡ true) Nothing _ _ (good_test _ H _ F2 0) (λ _ t.
      let e4 = both_hold (t1 && t2 && t3) t4 t in
      let e3 = both_hold (t1 && t2) t3 e4.0 in
      let e2 = both_hold t1 t2 e3.0 in
      good_then _ H (λ xs. length xs ≡ n * p) Nothing _ _ (loads_good R a 0 (n * p) refl ra (has_room a (n * p) e2.1)) (λ xs _.
      good_then _ H (λ ys. length ys ≡ p * q) Nothing _ _ (loads_good R b 0 (p * q) refl rb (has_room b (p * q) e3.1)) (λ ys _.
      performs_good mode deed c 0 (f n p q xs ys) l rc (rw (long xs ys) (has_room c (n * q) e4.1)))))

  smooth_good : (n l a r b : ℕ) → Has R l → Has R a → Has R r → Has W b → n ≤ widths l → n ≤ widths a
      → n ≤ widths r → n ≤ widths b → GoodAt Nothing (smooth widths n l a r b)
  smooth_good zero l a r b hl ha hr hb wl wa wr wb = good_give _ H Nothing tt tt
  smooth_good (suc n) l a r b hl ha hr hb wl wa wr wb =
      let left_there : n < widths l = omega arith in
      let right_there : 0 < widths r = omega arith in
      good_then _ H (λ (x : ℕ). Unit {0}) Nothing _ _ (good_load _ H l n (may R l n Load refl left_there hl)) (λ left _.
      good_then _ H (λ xs. length xs ≡ suc n) Nothing _ _ (loads_good R a 0 (suc n) refl ha (omega arith)) (λ row e.
      good_then _ H (λ (x : ℕ). Unit {0}) Nothing _ _ (good_load _ H r 0 (may R r 0 Load refl right_there hr)) (λ right _.
      performs_good W Store b 0 (stencil_of left row right) (λ x. refl) hb (rw (length-stencil left row right, e) (omega arith)))))

  stencil_good : (n l a r b : ℕ) → Has R l → Has R a → Has R r → Has W b → GoodAt Nothing (stencil_body widths n l a r b)
  stencil_good n l a r b hl ha hr hb =
      let t1 = is_side n in
      let t2 = has widths l n in
      let t3 = has widths a n in
      let t4 = has widths r n in
      let t5 = has widths b n in
      good_then _ H (λ _. (t1 && t2 && t3 && t4 && t5) ≡ true) Nothing _ _ (good_test _ H _ F2 0) (λ _ t.
      let e5 = both_hold (t1 && t2 && t3 && t4) t5 t in
      let e4 = both_hold (t1 && t2 && t3) t4 e5.0 in
      let e3 = both_hold (t1 && t2) t3 e4.0 in
      let e2 = both_hold t1 t2 e3.0 in
      let wl : 0 + n ≤ widths l = has_room l n e2.1 in
      let wa : 0 + n ≤ widths a = has_room a n e3.1 in
      let wr : 0 + n ≤ widths r = has_room r n e4.1 in
      let wb : 0 + n ≤ widths b = has_room b n e5.1 in
      smooth_good n l a r b hl ha hr hb (omega arith) (omega arith) (omega arith) (omega arith))

  scan_good : (n t s a : ℕ) → Has R s → Has X a → GoodAt Nothing (scan_body widths n t s a)
  scan_good n t s a hs ha =
      let t1 = is_side n in
      let t2 = has widths a n in
      let t3 = nat_lt t (widths s) in
      good_then _ H (λ _. (t1 && t2 && t3) ≡ true) Nothing _ _ (good_test _ H _ F2 0) (λ _ h.
      let e3 = both_hold (t1 && t2) t3 h in
      let e2 = both_hold t1 t2 e3.0 in
      let test : nat_lt t (widths s) ≡ true = e3.1 in
      let below : t < widths s = grind (arith, nat_tests) in
      good_then _ H (λ (x : ℕ). Unit {0}) Nothing _ _ (good_load _ H s t (may R s t Load refl below hs)) (λ start _.
      good_then _ H (λ xs. length xs ≡ n) Nothing _ _ (loads_good X a 0 n refl ha (has_room a n e2.1)) (λ row e.
      performs_good X Store a 0 (scan_of start row) (λ x. refl) ha (rw (length-scan row start, e) (has_room a n e2.1)))))

-- the first objects of a kernel's call
abbrev HasOf : List Access → Mode → ℕ → Type 0
HasOf accesses mode o = SomeOf (λ (a : Access). (a.lo ≤ o) × (suc o ≤ a.hi) × (a.mode ≡ mode)) accesses

own_first : (a : Access) (mode : Mode) → a.mode ≡ mode → a.hi ≡ a.lo + 1 → (a.lo ≤ a.lo) × (suc a.lo ≤ a.hi) × (a.mode ≡ mode)
own_first a mode m e = (omega arith, omega (arith, e), m)

products : (m : Mode) (ints : List ℕ) (accesses : List Access)
    → AreGiven (S.Int ∷ S.Int ∷ S.Int ∷ S.One R ∷ S.One R ∷ S.One m ∷ []) ints accesses
    → HasOf accesses R (object_at accesses 0) × HasOf accesses R (object_at accesses 1) × HasOf accesses m (object_at accesses 2)
products m (n ∷ p ∷ q ∷ ints) (a ∷ b ∷ c ∷ more) h =
    (inl (own_first a R h.0 h.1), inr (inl (own_first b R h.2.0 h.2.1)), inr (inr (inl (own_first c m h.2.2.0 h.2.2.1))))
products m (n ∷ p ∷ q ∷ ints) (a ∷ []) h = absurd h.2
products m (n ∷ p ∷ q ∷ ints) (a ∷ b ∷ []) h = absurd h.2.2
products m ints accesses h = absurd h

stencils : (ints : List ℕ) (accesses : List Access) → AreGiven (S.Int ∷ S.One R ∷ S.One R ∷ S.One R ∷ S.One W ∷ []) ints accesses
    → HasOf accesses R (object_at accesses 0) × HasOf accesses R (object_at accesses 1) × HasOf accesses R
    (object_at accesses 2) × HasOf accesses W (object_at accesses 3)
stencils (n ∷ ints) (a ∷ b ∷ c ∷ d ∷ more) h = (
  inl (own_first a R h.0 h.1),
  inr (inl (own_first b R h.2.0 h.2.1)),
  inr (inr (inl (own_first c R h.2.2.0 h.2.2.1))),
  inr
      (inr (inr (inl (own_first d W h.2.2.2.0 h.2.2.2.1)))),
)
stencils (n ∷ ints) (a ∷ []) h = absurd h.2
stencils (n ∷ ints) (a ∷ b ∷ []) h = absurd h.2.2
stencils (n ∷ ints) (a ∷ b ∷ c ∷ []) h = absurd h.2.2.2
stencils ints accesses h = absurd h

scans : (ints : List ℕ) (accesses : List Access) → AreGiven (S.Int ∷ S.Int ∷ S.One R ∷ S.One X ∷ []) ints accesses
    → HasOf accesses R (object_at accesses 0) × HasOf accesses X (object_at accesses 1)
scans (n ∷ t ∷ ints) (a ∷ b ∷ more) h = (inl (own_first a R h.0 h.1), inr (inl (own_first b X h.2.0 h.2.1)))
scans (n ∷ t ∷ ints) (a ∷ []) h = absurd h.2
scans ints accesses h = absurd h

some_is : {A : Type 0} {x y : A} → Some x ≡ Some y → x ≡ y
some_is e = cc

module _ (widths : ℕ → ℕ) (H : Job → Type 0) where
  -- a kernel keeps to the accesses of its call
  pub kernel_good : (k : ℕ) (ints : List ℕ) (accesses : List Access) (t : Target) → kernel_at k ≡ Some t → AreGiven t.sorts ints accesses
      → Good (Allowed widths accesses None) H (λ _. Unit {0}) (kernel_body widths k ints accesses)
  kernel_good zero ints accesses t is given =
      let r = products (Cw Add) ints accesses (subst (λ (y : Target). AreGiven y.sorts ints accesses) (sym (some_is is)) given) in
      product_good widths accesses H mul_of (Fold Add) (Cw Add) (slice_index ints 0) (slice_index ints 1) (slice_index ints 2) _ _ _
      (length-mul (slice_index ints 0) (slice_index ints 1) (slice_index ints 2)) (λ x. refl) r.0 r.1 r.2
  kernel_good (suc zero) ints accesses t is given =
      let r = products (Cw Min) ints accesses (subst (λ (y : Target). AreGiven y.sorts ints accesses) (sym (some_is is)) given) in
      product_good widths accesses H minplus_of (Fold Min) (Cw Min) (slice_index ints 0) (slice_index ints 1) (slice_index ints 2) _ _ _
      (length-minplus (slice_index ints 0) (slice_index ints 1) (slice_index ints 2)) (λ x. refl) r.0 r.1 r.2
  kernel_good (suc (suc zero)) ints accesses t is given =
      let r = stencils ints accesses (subst (λ (y : Target). AreGiven y.sorts ints accesses) (sym (some_is is)) given) in
      stencil_good widths accesses H (slice_index ints 0) _ _ _ _ r.0 r.1 r.2 r.3
  kernel_good (suc (suc (suc zero))) ints accesses t is given =
      let r = scans ints accesses (subst (λ (y : Target). AreGiven y.sorts ints accesses) (sym (some_is is)) given) in
      scan_good widths accesses H (slice_index ints 0) (slice_index ints 1) _ _ r.0 r.1
  kernel_good (suc (suc (suc (suc k)))) ints accesses t is given = cc
