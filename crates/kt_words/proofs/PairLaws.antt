-- Pairs are a packing.
use Rattle.std.proofs.Common.{◌≡◌, ℕ, ◌/◌, ◌%◌, ◌^◌, ◌<◌, Some, sym, ◌∙◌, arith}
use Rattle.kt_words.specs.BitFields.{AllFit, packed, HasFields, Unpacks}
use Rattle.kt_words.specs.Words.{pair_fields, IsPair, packed_pair}
use Rattle.kt_words.specs.Laws.{IsPacking}
use Rattle.kt_words.specs.declared.pairs.Pair.{Pair}
use Rattle.kt_words.proofs.Packings.{unpacks_some, packing}

pair_fit : (v : Pair) → IsPair v → AllFit (pair_fields v)
pair_fit v h = (h.low_fits, (h.high_fits, tt))

pair_fixed : (word : ℕ) (v w : Pair) → HasFields word (pair_fields v) → HasFields word (pair_fields w) → v ≡ w
pair_fixed word v w a b =
    let low : v.low ≡ w.low = sym a.0 ∙ b.0 in
    let high : v.high ≡ w.high = sym a.1.0 ∙ b.1.0 in
    λ i. record { low = low i; high = high i }

pair_below : (v : Pair) → IsPair v → packed (pair_fields v) < 2 ^ 64
pair_below v h = omega arith

pub pairs : IsPacking IsPair packed_pair
unfolding packed_pair
pairs = packing IsPair pair_fields pair_fit pair_fixed pair_below

pub pair_found : (word low high : ℕ) → word < 2 ^ 64 → low ≡ word % 2 ^ 32 → high ≡ word / 2 ^ 32
    → Unpacks IsPair packed_pair word (Some (record { low = low; high = high }))
unfolding packed_pair
pair_found word low high small low_is high_is =
    let range : IsPair (record { low = low; high = high }) = record { low_fits = omega arith; high_fits = omega arith } in
    unpacks_some IsPair pair_fields pair_fit pair_fixed word (record { low = low; high = high }) range (omega arith)
