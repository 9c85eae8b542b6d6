-- What a chunk answers follows from what its two steps tell.
use Rattle.std.proofs.Common.{◌≡◌, ◌≢◌, ℕ, ◌+◌, ◌-◌, ◌<◌, ◌≤◌, ◌⊎◌, ◌==◌, Bool, true, false, min, sym, ap, ◌∙◌, subst, inl, inr, arith, MatchBool, eq-eqb, ne_eqb}
use mathlib.Core.Option.{none}
use Rattle.atomic_table.specs.Table.{step}
use Rattle.kt_split.specs.Chunks.{IsChunk}
use Rattle.kt_split.specs.Intervals.{size}
use Rattle.kt_split.specs.declared.chunks.Chunk.{Chunk}
use Rattle.kt_words.specs.Words.{packed_pair, IsPair}
use Rattle.kt_words.specs.declared.pairs.Pair.{Pair}
use Rattle.kt_rule.specs.declared.views.Spot.{Spot}
use Rattle.kt_rule.specs.declared.views.View.{View}
use Rattle.kt_loops.specs.Calls.{HasTaken}
use Rattle.kt_loops.specs.Hands.{finds_empty, takes_chunk}
use Rattle.kt_loops.specs.Told.{IsPairWord, IsOwnLoop, FindsInterval}
use Rattle.kt_loops.specs.declared.pieces.Taken.TheVariants as T
use Rattle.kt_loops.proofs.TurningWords.{pair_same}

pub some_size : (x : Pair) → (size x ≡ 0 → true ≡ false) → 1 ≤ size x
some_size x ne = elim (zero_or (size x)) [ inl e ↦ absurd (cc (ne e)) | inr h ↦ h ]
  where
    zero_or : (n : ℕ) → (n ≡ 0) ⊎ (1 ≤ n)
    zero_or n = grind arith

-- the two ends of an exchange
pub hit : (n old : ℕ) (P Q : Type 0) → n ≡ old → MatchBool (n == old) P Q → P
hit n old P Q e = subst (λ (b : Bool). MatchBool b P Q) (eq-eqb n old e)

pub miss : (n old : ℕ) (P Q : Type 0) → n ≢ old → MatchBool (n == old) P Q → Q
miss n old P Q ne = subst (λ (b : Bool). MatchBool b P Q) (ne_eqb n old ne)

-- THE LOAD, where the word says this pair

module _ (v w : View) (word : ℕ) (x : Pair) (fits : IsPair x) (says : packed_pair x ≡ word) where
  pub found_none : FindsInterval (step 0 0 0 0 none) v word w → size x ≡ 0 → w ≡ finds_empty v
  found_none h hollow =
      let p = pair_same (record { low = h.0; high = h.1 }) x h.2.0 fits (sym h.2.1 ∙ sym says) in
      let a = ap (λ (z : Pair). z.low) p in let b = ap (λ (z : Pair). z.high) p in
      elim h.3 [ inl c ↦ absurd (let less = c.0 in omega (arith, a, b, less, hollow)) | inr c ↦ c.1 ]

  pub found_some : FindsInterval (step 0 0 0 0 none) v word w → 1 ≤ size x → w ≡ v
  found_some h long =
      let p = pair_same (record { low = h.0; high = h.1 }) x h.2.0 fits (sym h.2.1 ∙ sym says) in
      let a = ap (λ (z : Pair). z.low) p in let b = ap (λ (z : Pair). z.high) p in
      elim h.3 [ inl c ↦ c.1 | inr c ↦ absurd (let less = c.0 in omega (arith, a, b, less, long)) ]

-- THE EXCHANGE of this word for that of what is left

module _ (v seen w : View) (grain : ℕ) (x : Pair) (cut : Chunk) (is : IsChunk x grain cut) (long : 1 ≤ size x) (some_grain : 1 ≤ grain)
    (fits : IsPair x) where
  pub takes_some : x.low < cut.left.low
  takes_some = let a = is.taken in let b = is.next in omega (arith, a, b, long, some_grain)

  pub leaves : cut.left.low ≤ x.high
  leaves = let a = is.taken in let b = is.next in omega (arith, a, b, long)

  -- the word of what is left
  pub left_word : (left : ℕ) → left ≡ packed_pair cut.left → IsPairWord left cut.left.low x.high
  left_word left e = (
    record { low_fits = (let a = leaves in let b = fits.high_fits in omega (arith, a, b)); high_fits = fits.high_fits },
    e ∙ (λ i. packed_pair (record { low = cut.left.low; high = is.last i })),
  )

  abbrev pub Chunked : ℕ → ℕ → ℕ → Type 0
  Chunked low middle high = (m : Spot) × (first : ℕ) × IsOwnLoop seen m first low high × (w ≡ takes_chunk seen m first low (middle - low))

  abbrev pub Tells : ℕ → ℕ → ℕ → Type 0
  Tells n old left = (low middle high : ℕ) → IsPairWord old low high → IsPairWord left middle high → low < middle → middle ≤ high
      → MatchBool (n == old) (Chunked low middle high) (w ≡ seen)

  module _ (same : seen ≡ v) (n old left : ℕ) (old_is : packed_pair x ≡ old) (left_is : left ≡ packed_pair cut.left) (told : Tells n old left) where
    told_here : MatchBool (n == old) (Chunked x.low cut.left.low x.high) (w ≡ seen)
    told_here = told x.low cut.left.low x.high (fits, sym old_is) (left_word left left_is) takes_some leaves

    pub chunk_got : n ≡ old → HasTaken v grain w (T.Got cut.taken)
    chunk_got e =
        let h = hit n old (Chunked x.low cut.left.low x.high) (w ≡ seen) e told_here in
        let a = is.first in let b = is.taken in let c = is.next in (
          x.high,
          omega (arith, a, long),
          b ∙ ap (λ (n : ℕ). n + min grain (x.high - n)) (sym a),
          (
            h.0,
            h.1,
            subst (λ (z : View × ℕ). IsOwnLoop z.0 h.0 h.1 z.1 x.high) (λ i. (same i, sym a i)) h.2,
            h.3 ∙ (λ i. takes_chunk (same i) h.0 h.1 (sym a i) (c i - sym a i)),
          ),
        )

    pub chunk_moved : n ≢ old → HasTaken v grain w (T.Moved n)
    chunk_moved ne = (
      miss n old (Chunked x.low cut.left.low x.high) (w ≡ seen) ne told_here ∙ same,
      (x.low, x.high, omega (arith, long), (λ e. ne (e ∙ old_is))),
    )
