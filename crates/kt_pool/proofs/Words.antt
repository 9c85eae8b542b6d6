-- The words that a pool makes are those of an opening.
use Rattle.std.proofs.Common.{◌≡◌, ◌≢◌, ℕ, ◌+◌, ◌-◌, ◌*◌, ◌<◌, List, [], ◌++◌, length, take, set, get_or, replicate, length-set, get_or-set_same, get_or-set_other, refl, sym, ap, ◌∙◌, subst, arith}
use Rattle.std.proofs.lemmas.List.{length-append, length-replicate, get_or-replicate, get_or_append_left, take_all, take_at, drop_at, drop-append-le}
use Rattle.kt_law.specs.declared.modes.Mode.TheVariants as M
use Rattle.kt_prog.specs.Reference.{opened_with}
use Rattle.kt_words.specs.Places.{Place, place, total_of, first_element, IsWithin, Shared, seats, tasks_drawn, positions_drawn, stop, Own, request, post, answer, interval, home, shared_word, worker_word, record_word, element_word, version_word, shared_number, own_number}
use Rattle.kt_words.specs.Words.{packed_state, packed_head, packed_pair, packed_access}
use Rattle.kt_words.specs.declared.layouts.TheConstants.{RECORDS, FIELDS}
use Rattle.kt_words.specs.declared.layouts.Layout.{Layout}
use Rattle.kt_words.proofs.PlaceLaws.{places_differ}
use Rattle.kt_rule.specs.declared.views.Setup.{Setup}
use Rattle.kt_rule.specs.Views.{main_berth}
use Rattle.kt_rule.specs.Records.{layout_of, word_at, elements, drawn_at, state_of, head_of}
use Rattle.kt_rule.specs.Facts.{IsHeadAt, IsAccessAt}
use Rattle.kt_rule.specs.Steps.{new_lie}
use Rattle.kt_rule.specs.Close.{IsOpening}

abbrev main_state : ℕ
main_state = packed_state (state_of (new_lie main_berth))

-- the words in front of the elements
abbrev pub front : Layout → List ℕ
front l = set (set (replicate (first_element l) 0) (place l drawn_at) 1) (place l (record_word 0 0)) main_state

-- behind them the elements, and the versions
abbrev pub words : Layout → List ℕ → List ℕ
words l xs = front l ++ xs ++ replicate l.objects 0

-- the places in front of the elements
abbrev IsInFront : Layout → Place → Type 0
IsInFront l (shared_word w) = Unit {0}
IsInFront l (worker_word k w) = k < l.workers
IsInFront l (record_word a f) = (a < RECORDS * l.workers) × (f < FIELDS)
IsInFront l (element_word e) = ⊥
IsInFront l (version_word o) = ⊥

within : (l : Layout) (q : Place) → IsInFront l q → IsWithin l q
within l (shared_word w) h = h
within l (worker_word k w) h = h
within l (record_word a f) h = h
within l (element_word e) h = absurd h
within l (version_word o) h = absurd h

shared_few : (w : Shared) → shared_number w < 4
shared_few seats = omega arith
shared_few tasks_drawn = omega arith
shared_few positions_drawn = omega arith
shared_few stop = omega arith

own_few : (w : Own) → own_number w < 8
own_few request = omega arith
own_few post = omega arith
own_few answer = omega arith
own_few interval = omega arith
own_few home = omega arith

pub in_front : (l : Layout) (q : Place) → IsInFront l q → place l q < first_element l
unfolding place
in_front l (shared_word w) h = omega (arith, shared_few w)
in_front l (worker_word k w) h = omega (arith, own_few w)
in_front l (record_word a f) h = omega arith
in_front l (element_word e) h = absurd h
in_front l (version_word o) h = absurd h

front_long : (l : Layout) → length (front l) ≡ first_element l
front_long l =
    length-set (set (replicate (first_element l) 0) (place l drawn_at) 1) (place l (record_word 0 0)) main_state
    ∙ (length-set (replicate (first_element l) 0) (place l drawn_at) 1 ∙ length-replicate {A = ℕ} (first_element l) 0)

pub total_is : (l : Layout) → total_of l ≡ first_element l + l.elements + l.objects
unfolding total_of
total_is l = refl

pub words_long : (l : Layout) (xs : List ℕ) → length xs ≡ l.elements → length (words l xs) ≡ total_of l
unfolding total_of
words_long l xs long =
    let a = length-append (front l ++ xs) (replicate l.objects 0) in let b = length-append (front l) xs in let c = front_long l in
    let d = length-replicate {A = ℕ} l.objects 0 in omega arith

module _ (l : Layout) (xs : List ℕ) (some_workers : 0 < l.workers) where
  -- a word in front
  at_front : (q : Place) → IsInFront l q → word_at l (words l xs) q ≡ get_or (front l) (place l q) 0
  at_front q h =
      let a = in_front l q h in let b = front_long l in let c = length-append (front l) xs in
      get_or_append_left (front l ++ xs) (replicate l.objects 0) 0 (place l q) (omega arith) ∙ get_or_append_left (front l) xs 0 (place l q) (omega arith)

  apart : (q r : Place) → IsInFront l q → IsInFront l r → q ≢ r → place l q ≢ place l r
  apart q r in_q in_r other e = other (places_differ l q r (within l q in_q) (within l r in_r) e)

  pub main_in : IsInFront l (record_word 0 0)
  main_in = (omega arith, omega arith)

  not_drawn : (q : Place) → IsInFront l q → q ≢ drawn_at → q ≢ record_word 0 0 → word_at l (words l xs) q ≡ 0
  not_drawn q h undrawn no_main =
      at_front q h ∙ (get_or-set_other (set (replicate (first_element l) 0) (place l drawn_at) 1) (place l (record_word 0 0)) (place l q) main_state 0
      (apart q (record_word 0 0) h main_in no_main) ∙ (get_or-set_other (replicate (first_element l) 0) (place l drawn_at) (place l q) 1 0
      (apart q drawn_at h tt undrawn) ∙ get_or-replicate {A = ℕ} (first_element l) (place l q) 0 0 (in_front l q h)))

  drawn_is : word_at l (words l xs) drawn_at ≡ 1
  drawn_is =
      let a = in_front l drawn_at tt in let b = length-replicate {A = ℕ} (first_element l) 0 in
      at_front drawn_at tt ∙ (get_or-set_other (set (replicate (first_element l) 0) (place l drawn_at) 1) (place l (record_word 0 0)) (place l drawn_at) main_state 0
      (apart drawn_at (record_word 0 0) tt main_in (λ e. cc)) ∙ get_or-set_same (replicate (first_element l) 0) (place l drawn_at) 1 0 (omega arith))

  main_is : word_at l (words l xs) (record_word 0 0) ≡ main_state
  main_is =
      let a = in_front l (record_word 0 0) main_in in let b = length-replicate {A = ℕ} (first_element l) 0 in
      let c : length (set (replicate {A = ℕ} (first_element l) 0) (place l drawn_at) 1) ≡ length (replicate {A = ℕ} (first_element l) 0)
      = length-set (replicate {A = ℕ} (first_element l) 0) (place l drawn_at) 1 in
      at_front (record_word 0 0) main_in
      ∙ get_or-set_same (set (replicate (first_element l) 0) (place l drawn_at) 1) (place l (record_word 0 0)) main_state 0 (omega arith)

  elements_are : length xs ≡ l.elements → elements l (words l xs) ≡ xs
  elements_are long =
      let a = front_long l in let b = length-append (front l) xs in
      ap (take l.elements) (drop-append-le (first_element l) (front l ++ xs) (replicate l.objects 0) (omega arith)
      ∙ ap (λ (z : List ℕ). z ++ replicate l.objects 0) (drop_at (front l) xs (first_element l) a)) ∙ take_at xs (replicate l.objects 0) l.elements long

head_zero : 0 ≡ packed_head (head_of (new_lie main_berth))
unfolding packed_head
head_zero = refl

pair_zero : 0 ≡ packed_pair (record { low = 0; high = 0 })
unfolding packed_pair
pair_zero = refl

access_zero : 0 ≡ packed_access (record { lo = 0; hi = 0; mode = M.R })
unfolding packed_access
access_zero = refl

no_head : (n : ℕ) → n ≡ 0 → IsHeadAt n
no_head n e = (
  head_of (new_lie main_berth),
  record { task_fits = omega arith; depth_fits = omega arith; number_fits = omega arith; ints_fit = omega arith; accesses_fit = omega arith },
  e ∙ head_zero,
)

no_access : (objects n : ℕ) → n ≡ 0 → IsAccessAt objects n
no_access objects n e = (
  record { lo = 0; hi = 0; mode = M.R },
  record { ordered = omega arith; hi_fits = omega arith },
  omega arith,
  e ∙ access_zero,
)

pub opens : (j : Setup) (xs : List ℕ) → 0 < j.workers → xs ≡ opened_with j.program.families j.input → length xs ≡ (layout_of j).elements
    → IsOpening j (words (layout_of j) xs)
opens j xs some_workers xs_are long =
    let l = layout_of j in record {
      wide = let a = words_long l xs long in omega arith;
      input = elements_are l xs some_workers long ∙ xs_are;
      drawn = drawn_is l xs some_workers;
      positions = not_drawn l xs some_workers Rattle.kt_rule.specs.Records.positions_at tt (λ e. cc) (λ e. cc);
      stop = not_drawn l xs some_workers Rattle.kt_rule.specs.Records.stop_at tt (λ e. cc) (λ e. cc);
      state = main_is l xs some_workers;
      head = field 1 (omega arith) (omega arith) ∙ head_zero;
      parent = field 2 (omega arith) (omega arith);
      extent = field 3 (omega arith) (omega arith) ∙ pair_zero;
      unretired = field 4 (omega arith) (omega arith);
      own = λ k o less. not_drawn l xs some_workers (worker_word k o) less (λ e. cc) (λ e. cc);
      others = λ a other less. not_drawn l xs some_workers (record_word a 0) (less, omega arith) (λ e. cc) (λ e. other (let z : a ≡ 0 = cc in z));
      heads = λ a less. no_head _ (later a 1 less (omega arith) (omega arith));
      accesses = λ a k less few. no_access _ _ (later a (13 + k) less (omega arith) (omega arith));
    }
  where
    later : (a f : ℕ) → a < RECORDS * j.workers → 0 < f → f < FIELDS → word_at (layout_of j) (words (layout_of j) xs) (record_word a f) ≡ 0
    later a f less some_field few = not_drawn (layout_of j) xs some_workers (record_word a f) (less, few) (λ e. cc)
        (λ e. let z : f ≡ 0 = cc in absurd (omega arith))

    field : (f : ℕ) → 0 < f → f < FIELDS → word_at (layout_of j) (words (layout_of j) xs) (record_word 0 f) ≡ 0
    field f some_field few = later 0 f (omega arith) some_field few

-- the same of words that were made in this way
pub opens_so : (j : Setup) (xs ws : List ℕ) → 0 < j.workers → xs ≡ opened_with j.program.families j.input → length xs ≡ (layout_of j).elements
    → ws ≡ words (layout_of j) xs → IsOpening j ws
opens_so j xs ws some_workers xs_are long are = subst (IsOpening j) (sym are) (opens j xs some_workers xs_are long)

pub zeros_so : (n len : ℕ) (old all : List ℕ) → old ≡ [] → len ≡ 0 → all ≡ take n old ++ replicate (n - len) 0 → all ≡ replicate n 0
zeros_so n len old all old_is len_is all_is =
    let none : n - len ≡ n = omega arith in
    all_is ∙ ((λ i. take n (old_is i) ++ replicate (none i) 0) ∙ ap (λ (z : List ℕ). z ++ replicate n 0) (take_all n [] (omega arith)))

-- zeros, two words set, the elements, and zeros up to the total
pub made_so : (l : Layout) (xs zeros filled all : List ℕ) (n a b s total len : ℕ) → length xs ≡ l.elements → total ≡ total_of l
    → n + l.elements + l.objects ≡ total → zeros ≡ replicate n 0 → a ≡ place l drawn_at → b ≡ place l (record_word 0 0) → s ≡ main_state
    → filled ≡ set (set zeros a 1) b s ++ xs → len ≡ length filled → all ≡ take total filled ++ replicate (total - len) 0 → all ≡ words l xs
made_so l xs zeros filled all n a b s total len long total_now n_is zeros_are a_is b_is s_is filled_is len_is all_is =
    let t = total_is l in let n_first : n ≡ first_element l = omega arith in
    let fronts : set (set zeros a 1) b s ≡ front l = (λ i. set (set ((zeros_are ∙ ap (λ (k : ℕ). replicate k 0) n_first) i) (a_is i) 1) (b_is i) (s_is i)) in
    let filled_now : filled ≡ front l ++ xs = filled_is ∙ ap (λ (z : List ℕ). z ++ xs) fronts in
    let f = front_long l in let g = length-append (front l) xs in let h = ap (λ (z : List ℕ). length z) filled_now in
    let rest : total - len ≡ l.objects = omega arith in
    all_is ∙ (λ i. (take_all total filled (omega arith) ∙ filled_now) i ++ replicate (rest i) 0)
