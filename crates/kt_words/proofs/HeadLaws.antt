-- Head words are a packing.
use Rattle.std.proofs.Common.{◌≡◌, ℕ, ◌/◌, ◌%◌, ◌^◌, ◌<◌, ◌≤◌, Some, None, sym, ◌∙◌, arith}
use Rattle.kt_words.specs.BitFields.{AllFit, packed, HasFields, Unpacks}
use Rattle.kt_words.specs.Words.{head_fields, IsHeadWord, packed_head}
use Rattle.kt_words.specs.Laws.{IsPacking}
use Rattle.kt_words.specs.declared.heads.HeadWord.{HeadWord}
use Rattle.kt_words.proofs.Packings.{unpacks_some, unpacks_none, packing}

head_fit : (v : HeadWord) → IsHeadWord v → AllFit (head_fields v)
head_fit v h = (h.task_fits, (h.depth_fits, (h.number_fits, (omega arith, (omega arith, tt)))))

head_fixed : (word : ℕ) (v w : HeadWord) → HasFields word (head_fields v) → HasFields word (head_fields w) → v ≡ w
head_fixed word v w a b =
    let task : v.task ≡ w.task = sym a.0 ∙ b.0 in
    let depth : v.depth ≡ w.depth = sym a.1.0 ∙ b.1.0 in
    let number : v.number ≡ w.number = sym a.1.1.0 ∙ b.1.1.0 in
    let ints : v.ints ≡ w.ints = sym a.1.1.1.0 ∙ b.1.1.1.0 in
    let accesses : v.accesses ≡ w.accesses = sym a.1.1.1.1.0 ∙ b.1.1.1.1.0 in
    λ i. record { task = task i; depth = depth i; number = number i; ints = ints i; accesses = accesses i }

head_below : (v : HeadWord) → IsHeadWord v → packed (head_fields v) < 2 ^ 64
head_below v h = omega arith

pub head_words : IsPacking IsHeadWord packed_head
unfolding packed_head
head_words = packing IsHeadWord head_fields head_fit head_fixed head_below

pub head_found : (word task depth number ints accesses a b c : ℕ) → word < 2 ^ 64
    → task ≡ word % 2 ^ 16 → a ≡ word / 2 ^ 16 → depth ≡ a % 2 ^ 6 → b ≡ a / 2 ^ 6 → number ≡ b % 2 ^ 26 → c ≡ b / 2 ^ 26
    → ints ≡ c % 2 ^ 4 → accesses ≡ c / 2 ^ 4 → ints ≤ 8 → accesses ≤ 8
    → Unpacks IsHeadWord packed_head word (Some (record { task = task; depth = depth; number = number; ints = ints; accesses = accesses }))
unfolding packed_head
head_found word task depth number ints accesses a b c small task_is a_is depth_is b_is number_is c_is ints_is accesses_is few_ints few_accesses =
    let v : HeadWord = record { task = task; depth = depth; number = number; ints = ints; accesses = accesses } in
    let range : IsHeadWord v = record {
      task_fits = omega arith;
      depth_fits = omega arith;
      number_fits = omega arith;
      ints_fit = few_ints;
      accesses_fit = few_accesses;
    } in
    unpacks_some IsHeadWord head_fields head_fit head_fixed word v range (omega arith)

pub no_head : (word ints accesses a b c : ℕ) → a ≡ word / 2 ^ 16 → b ≡ a / 2 ^ 6 → c ≡ b / 2 ^ 26
    → ints ≡ c % 2 ^ 4 → accesses ≡ c / 2 ^ 4 → (ints ≤ 8 → accesses ≤ 8 → ⊥)
    → Unpacks IsHeadWord packed_head word None
unfolding packed_head
no_head word ints accesses a b c a_is b_is c_is ints_is accesses_is many =
    unpacks_none IsHeadWord head_fields head_fit head_fixed word (λ v h has.
    let same_ints = has.1.1.1.0 in
    let same_accesses = has.1.1.1.1.0 in
    let nothing_above = has.1.1.1.1.1 in
    many (omega (arith, h.ints_fit)) (omega (arith, h.accesses_fit)))
