-- What a split answers follows from what its three steps tell.
use Rattle.std.proofs.Common.{◌≡◌, ◌≢◌, ℕ, suc, ◌+◌, ◌-◌, ◌*◌, ◌^◌, ◌<◌, ◌≤◌, ◌==◌, List, sym, refl, ap, ◌∙◌, subst, inl, inr, arith, MatchBool, None, Some}
use mathlib.Core.Option.{none}
use Rattle.atomic_table.specs.Table.{Step, step}
use Rattle.kt_split.specs.Intervals.{size}
use Rattle.kt_split.specs.Splits.{IsCut}
use Rattle.kt_words.specs.Places.{place, worker_word, interval, home}
use Rattle.kt_words.specs.Words.{packed_pair, IsPair}
use Rattle.kt_words.specs.declared.layouts.TheConstants.{RECORDS}
use Rattle.kt_words.specs.declared.pairs.Pair.{Pair}
use Rattle.kt_rule.specs.declared.views.Setup.{Setup}
use Rattle.kt_rule.specs.declared.views.Spot.{Spot}
use Rattle.kt_rule.specs.declared.views.View.{View}
use Rattle.kt_rule.specs.Records.{layout_of}
use Rattle.kt_rule.specs.Rule.{Slots}
use Rattle.kt_loops.specs.Hands.{finds_interval, sights, sights_home, forgets, takes_pieces}
use Rattle.kt_loops.specs.Told.{IsLoopAt, AreNew, Sights, SightsHome, Splits}
use Rattle.kt_pieces.proofs.Splits.{cut_gives}
use Rattle.kt_loops.proofs.TurningWords.{pair_same}

-- THE LOAD, where the word says this pair

module _ (st : Step Slots) (v w : View) (word : ℕ) (x : Pair) (fits : IsPair x) (says : packed_pair x ≡ word) (j : Setup)
    (told : v.setup ≡ Some j) (victim : ℕ) (less : victim < j.workers) (at : st.word ≡ place (layout_of j) (worker_word victim interval)) where
  pub sights_short : Sights st v word w → size x < 2 → w ≡ forgets (finds_interval v victim (packed_pair x))
  sights_short h short =
      let p = pair_same (record { low = h.0; high = h.1 }) x h.2.0 fits (sym h.2.1 ∙ sym says) in
      let a = ap (λ (z : Pair). z.low) p in let b = ap (λ (z : Pair). z.high) p in
      elim (h.3 j told victim less at) [
        | inl c ↦ absurd (let long = c.0 in omega (arith, a, b, long, short))
        | inr c ↦ c.1 ∙ ap (λ (z : ℕ). forgets (finds_interval v victim z)) (sym says)
      ]

  pub sights_long : Sights st v word w → 2 ≤ size x → w ≡ sights v victim x.low x.high
  sights_long h long =
      let p = pair_same (record { low = h.0; high = h.1 }) x h.2.0 fits (sym h.2.1 ∙ sym says) in
      let a = ap (λ (z : Pair). z.low) p in let b = ap (λ (z : Pair). z.high) p in
      elim (h.3 j told victim less at) [
        | inl c ↦ c.1 ∙ (λ i. sights v victim (a i) (b i))
        | inr c ↦ absurd (let short = c.0 in omega (arith, a, b, long, short))
      ]

-- BOTH LOADS

module _ (slots : ℕ) (v seen then : View) (at at_home victim word home_word : ℕ) (x : Pair) (fits : IsPair x) (says : packed_pair x ≡ word)
    (two : 2 ≤ size x) (j : Setup) (told : v.setup ≡ Some j) (less : victim < j.workers) (at_is : at ≡ place (layout_of j) (worker_word victim interval)) where
  pub saw_one : Sights (step slots at 0 0 none) v word seen → seen ≡ sights v victim x.low x.high
  saw_one h = sights_long (step slots at 0 0 none) v seen word x fits says j told victim less at_is h two

  pub saw_two : at_home ≡ place (layout_of j) (worker_word victim home) → Sights (step slots at 0 0 none) v word seen
      → SightsHome (step slots at_home 0 0 none) seen home_word then → then ≡ sights_home (finds_interval v victim (packed_pair x)) victim x.low x.high home_word
  saw_two home_is h k =
      let one = saw_one h in
      k (record { victim = victim; low = x.low; high = x.high; home = None }) (ap (λ (z : View). z.loops.sight) one) j
      (ap (λ (z : View). z.setup) one ∙ told) home_is ∙ ap (λ (z : View). sights_home z victim x.low x.high home_word) one

-- what a victim keeps of a pair is one
pub kept_fits : (x kept : Pair) (parts : ℕ) (dealt : List Pair) → IsPair x → 2 ≤ size x → 1 ≤ parts → IsCut x parts kept dealt → IsPair kept
kept_fits x kept parts dealt fits two some_parts cut =
    let h = cut_gives x.low x.high parts kept dealt (omega (arith, two)) some_parts cut in
    let less = h.1 in let low = cut.first in
    record { low_fits = (let a = fits.low_fits in omega (arith, a, low)); high_fits = (let a = fits.high_fits in omega (arith, a, less)) }

-- THE EXCHANGE

module _ (v seen w : View) (victim word parts : ℕ) (x kept : Pair) (dealt : List Pair)
    (saw : seen ≡ sights_home (finds_interval v victim (packed_pair x)) victim x.low x.high word) (fits : IsPair x) (two : 2 ≤ size x) where
  abbrev pub Given : Type 0
  Given = (m : Spot) × (suc m.berth.at ≡ word) × IsLoopAt seen m m.berth.at × AreNew seen x.low x.high × (w ≡ takes_pieces seen m dealt)

  -- what the exchange tells of this cut
  pub told_here : (slots at old left n : ℕ) → packed_pair x ≡ old → IsPair kept → left ≡ packed_pair kept → IsCut x parts kept dealt
      → Splits parts (step slots at old left none) seen n w → MatchBool (n == old) Given (w ≡ forgets seen)
  told_here slots at old left n says small left_is cut h =
      h (record { victim = victim; low = x.low; high = x.high; home = Some word }) (ap (λ (z : View). z.loops.sight) saw) word refl kept dealt cut
      (sym says) (small, left_is)

  -- the home word is no 0, and its record's number fits 32 bits
  pub home_small : Given → (j : Setup) → v.setup ≡ Some j → (1 ≤ word) × (word < 2 ^ 32)
  home_small h j told =
      let a = h.1 in let b = h.2.inside j (ap (λ (z : View). z.setup) saw ∙ told) in let less = b.0 in let few = b.1 in
      (omega (arith, a), omega (arith, a, less, few))

  pub split_got : (at : ℕ) → at ≡ word - 1 → Given → IsCut x parts kept dealt
      → (m : Spot) × IsLoopAt v m at × ((found left : Pair) × IsPair found × (found.low + 2 ≤ found.high) × IsCut found parts left dealt
      × AreNew v found.low found.high × (w ≡ takes_pieces (finds_interval v victim (packed_pair found)) m dealt))
  split_got at is h cut =
      let same : h.0.berth.at ≡ at = (let a = h.1 in omega (arith, a, is)) in (
        h.0,
        record {
          lies = same;
          inside = λ j told. subst (λ (n : ℕ). (n < RECORDS * j.workers) × (j.workers ≤ 8)) same
              (h.2.inside j (ap (λ (z : View). z.setup) saw ∙ told));
        },
        (
          x,
          kept,
          fits,
          omega (arith, two),
          cut,
          subst (λ (z : View). AreNew z x.low x.high) saw h.3,
          h.4 ∙ ap (λ (z : View). takes_pieces z h.0 dealt) saw,
        ),
      )

  pub split_moved : (found : ℕ) → found ≢ packed_pair x → w ≡ forgets seen
      → (y : Pair) × IsPair y × (y.low + 2 ≤ y.high) × (found ≢ packed_pair y) × (w ≡ forgets (finds_interval v victim (packed_pair y)))
  split_moved found other same = (x, fits, omega (arith, two), other, same ∙ ap forgets saw)
