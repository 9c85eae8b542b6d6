-- The indexes of a loop, of which some change.
use Rattle.std.proofs.Common.{◌≡◌, ◌≢◌, ℕ, zero, suc, ◌+◌, ◌<◌, ◌≤◌, ◌⊎◌, ◌&&◌, Bool, true, false, cond, nat_eq, List, [], ◌∷◌, length, map, sym, refl, ap, ◌∙◌, subst, inl, inr, arith}
use Rattle.std.proofs.lemmas.Bool.Decides.{nat_tests}
use mathlib.Core.Option.{some, some-injective, some-ne-none}
use lib.ListN.{get_elem?}
use Rattle.kt_order.specs.Books.{is_untaken, untaken, set_phase, set_running}
use Rattle.kt_order.specs.Forest.{Phase, Unclaimed, Running, Ended, Finished}
use Rattle.kt_order.specs.Paths.{same_path}
use Rattle.kt_runs.specs.ByPath.{Path}
use Rattle.kt_rule.specs.declared.views.Spot.{Spot}
use Rattle.kt_rule.specs.declared.views.IndexRun.{IndexRun}
use Rattle.kt_rule.specs.Lists.{one_if, In}
use Rattle.kt_rule.specs.Lies.{IndexLie}
use Rattle.kt_rule.specs.LoopWords.{between}
use Rattle.kt_rule.specs.LoopFacts.{in_indexes, index_times, phase_in}
use Rattle.kt_rule.proofs.Sums.{in_cons}
use Rattle.kt_pieces.specs.Changes.{change_index, runs_now, run_indexes, chunk_of}
use Rattle.kt_pieces.proofs.Changed.{one_or}

-- ONE INDEX

module _ (f : IndexLie → IndexLie) where
  pub change_at : (i : ℕ) (x : IndexLie) (xs : List IndexLie) → get_elem? xs i ≡ some x → get_elem? (change_index i f xs) i ≡ some (f x)
  change_at i x [] e = absurd (some-ne-none x (sym e))
  change_at zero x (y ∷ xs) e = ap (λ z. some (f z)) (some-injective y x e)
  change_at (suc i) x (y ∷ xs) e = change_at i x xs e

  pub change_else : (i j : ℕ) (xs : List IndexLie) → j ≢ i → get_elem? (change_index i f xs) j ≡ get_elem? xs j
  change_else i j [] ne = refl
  change_else zero zero (y ∷ xs) ne = absurd (ne refl)
  change_else zero (suc j) (y ∷ xs) ne = refl
  change_else (suc i) zero (y ∷ xs) ne = refl
  change_else (suc i) (suc j) (y ∷ xs) ne = change_else i j xs (λ e. ne (ap suc e))

  pub change_long : (i : ℕ) (xs : List IndexLie) → length (change_index i f xs) ≡ length xs
  change_long i [] = refl
  change_long zero (y ∷ xs) = refl
  change_long (suc i) (y ∷ xs) = ap suc (change_long i xs)

  -- its phases, where the new phase is always the same
  pub change_phases : (ph : Phase) → ((x : IndexLie) → (f x).phase ≡ ph) → (i : ℕ) (xs : List IndexLie)
      → map phase_in (change_index i f xs) ≡ set_phase i ph (map phase_in xs)
  change_phases ph is i [] = refl
  change_phases ph is zero (y ∷ xs) = ap (λ z. z ∷ map phase_in xs) (is y)
  change_phases ph is (suc i) (y ∷ xs) = ap (λ zs. y.phase ∷ zs) (change_phases ph is i xs)

  -- or the phase stays
  pub change_no_phase : ((x : IndexLie) → (f x).phase ≡ x.phase) → (i : ℕ) (xs : List IndexLie)
      → map phase_in (change_index i f xs) ≡ map phase_in xs
  change_no_phase is i [] = refl
  change_no_phase is zero (y ∷ xs) = ap (λ z. z ∷ map phase_in xs) (is y)
  change_no_phase is (suc i) (y ∷ xs) = ap (λ zs. y.phase ∷ zs) (change_no_phase is i xs)

pub phases_long : (xs : List IndexLie) → length (map phase_in xs) ≡ length xs
phases_long [] = refl
phases_long (x ∷ xs) = ap suc (phases_long xs)

-- an index that is there
pub there_at : {A : Type 0} (xs : List A) (i : ℕ) → i < length xs → (x : A) × (get_elem? xs i ≡ some x)
there_at [] i less = absurd (omega (arith, less))
there_at (x ∷ xs) zero less = (x, refl)
there_at (x ∷ xs) (suc i) less = there_at xs i (omega (arith, less))

-- an index that is not taken
is_unclaimed : (ph : Phase) → is_untaken ph ≡ 1 → ph ≡ Unclaimed
is_unclaimed Unclaimed e = refl
is_unclaimed Running e = absurd (omega (arith, e))
is_unclaimed Ended e = absurd (omega (arith, e))
is_unclaimed Finished e = absurd (omega (arith, e))

pub untaken_at : (xs : List IndexLie) (i : ℕ) → untaken (map phase_in xs) i ≡ 1 → (x : IndexLie) × (get_elem? xs i ≡ some x) × (x.phase ≡ Unclaimed)
untaken_at [] i e = absurd (omega (arith, e))
untaken_at (x ∷ xs) zero e = (x, refl, is_unclaimed x.phase e)
untaken_at (x ∷ xs) (suc i) e = untaken_at xs i e

-- SOME THAT FOLLOW ONE ANOTHER

pub run_long : (n at : ℕ) (xs : List IndexLie) → length (run_indexes at n xs) ≡ length xs
run_long zero at xs = refl
run_long (suc n) at xs = run_long n (suc at) (change_index at runs_now xs) ∙ change_long runs_now at xs

pub run_phases : (n at : ℕ) (xs : List IndexLie) → map phase_in (run_indexes at n xs) ≡ set_running at n (map phase_in xs)
run_phases zero at xs = refl
run_phases (suc n) at xs = run_phases n (suc at) (change_index at runs_now xs)
    ∙ ap (set_running (suc at) n) (change_phases runs_now Running (λ x. refl) at xs)

pub run_else : (n at j : ℕ) (xs : List IndexLie) → (j < at) ⊎ (at + n ≤ j) → get_elem? (run_indexes at n xs) j ≡ get_elem? xs j
run_else zero at j xs out = refl
run_else (suc n) at j xs out =
    run_else n (suc at) j (change_index at runs_now xs) (elim out [ inl less ↦ inl (omega (arith, less)) | inr more ↦ inr (omega (arith, more)) ])
    ∙ change_else runs_now at j xs (elim out [ inl less ↦ (λ e. omega (arith, less, e)) | inr more ↦ (λ e. omega (arith, more, e)) ])

pub run_at : (n at j : ℕ) (x : IndexLie) (xs : List IndexLie) → at ≤ j → j < at + n → get_elem? xs j ≡ some x
    → get_elem? (run_indexes at n xs) j ≡ some (runs_now x)
run_at zero at j x xs low high e = absurd (omega (arith, low, high))
run_at (suc n) at j x xs low high e = elim (one_or j at) [
  | inl same ↦ run_else n (suc at) j (change_index at runs_now xs) (inl (omega (arith, same)))
      ∙ (ap (get_elem? (change_index at runs_now xs)) same ∙ change_at runs_now at x xs (ap (get_elem? xs) (sym same) ∙ e))
  | inr ne ↦ run_at n (suc at) j x (change_index at runs_now xs) (omega (arith, low, ne)) (omega (arith, high)) (change_else runs_now at j xs ne ∙ e)
]

pub range_or : (at n j : ℕ) → ((at ≤ j) × (j < at + n)) ⊎ ((j < at) ⊎ (at + n ≤ j))
range_or at n j = grind arith

-- THE INDEXES OF A CHUNK

one_index : (b : Bool) (i at : ℕ) → one_if (b && nat_eq i at) ≡ cond b (between at (suc at) i) 0
one_index true i at = elim (one_or i at) [
  | inl e ↦ (let a : nat_eq i at ≡ true = grind (arith, nat_tests) in let k : between at (suc at) i ≡ 1 = omega (arith, e) in ap one_if a ∙ sym k)
  | inr n ↦ (let a : nat_eq i at ≡ false = grind (arith, nat_tests) in let k : between at (suc at) i ≡ 0 = omega (arith, n) in ap one_if a ∙ sym k)
]
one_index false i at = refl

pub chunk_times : (q : Path) (i : ℕ) (m : Spot) (first n at : ℕ)
    → index_times q i (chunk_of m first at n) ≡ cond (same_path q m.path) (between at (at + n) i) 0
chunk_times q i m first n at = go (same_path q m.path) refl n at
  where
    go : (b : Bool) → same_path q m.path ≡ b → (n at : ℕ) → index_times q i (chunk_of m first at n) ≡ cond b (between at (at + n) i) 0
    go true e zero at = omega arith
    go false e zero at = refl
    go true e (suc n) at =
        let a = ap (λ (c : Bool). one_if (c && nat_eq i at)) e in
        let k = one_index true i at in
        let r = go true e n (suc at) in
        omega (arith, a, k, r)
    go false e (suc n) at =
        let a = ap (λ (c : Bool). one_if (c && nat_eq i at)) e in
        let r = go false e n (suc at) in
        omega (arith, a, r)

pub chunk_positions : (x : ℕ) (m : Spot) (first n at : ℕ) → in_indexes x (chunk_of m first at n) ≡ between (first + at) (first + (at + n)) x
chunk_positions x m first zero at = omega arith
chunk_positions x m first (suc n) at = let r = chunk_positions x m first n (suc at) in omega (arith, r)

-- what is known of each of them
pub record InChunk (m : Spot) (first at n : ℕ) (e : IndexRun) : Type 0 where
  pub spot : e.spot ≡ m
  pub low : at ≤ e.index
  pub high : e.index < at + n
  pub position : e.position ≡ first + e.index
  pub answers : e.answers ≡ []
  pub done : e.done ≡ 0

pub in_chunk : (m : Spot) (first n at : ℕ) (e : IndexRun) → In e (chunk_of m first at n) → InChunk m first at n e
in_chunk m first zero at e i = elim i [ ]
in_chunk m first (suc n) at e i = elim (in_cons e (record { spot = m; index = at; position = first + at; answers = []; done = 0 }) (chunk_of m first (suc at) n) i) [
  | inl h ↦ subst (InChunk m first at (suc n)) (sym h) (record { spot = refl; low = omega arith; high = omega arith; position = refl; answers = refl; done = refl })
  | inr h ↦ (let r = in_chunk m first n (suc at) e h in record {
    spot = r.spot;
    low = (let a = r.low in omega (arith, a));
    high = (let a = r.high in omega (arith, a));
    position = r.position;
    answers = r.answers;
    done = r.done;
  })
]
