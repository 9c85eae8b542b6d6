-- A word has the fields from which it is packed, and is packed from the fields that it has.
use Rattle.std.proofs.Common.{◌≡◌, ℕ, ◌+◌, ◌-◌, ◌*◌, ◌/◌, ◌%◌, ◌^◌, ◌<◌, [], ◌∷◌, refl, sym, ap, ◌∙◌, subst, arith, bit_or, bit_and}
use Rattle.std.proofs.Math.Nat.{mod-eq_of_lt}
use Rattle.std.proofs.lemmas.Nat.{pow_pos, mod_low, shr_high, shr_split, mod_below, or_shifted, and_mask, one_shl}
use Rattle.kt_words.specs.BitFields.{Fields, AllFit, packed, HasFields}
use Rattle.kt_words.specs.Laws.{FieldsAreExact}

-- a value of w bits below a rest
turned : (value w rest : ℕ) → value + 2 ^ w * rest ≡ rest * 2 ^ w + value
turned value w rest = omega arith

low_of : (value w rest : ℕ) → value < 2 ^ w → (value + 2 ^ w * rest) % 2 ^ w ≡ value
low_of value w rest fits = ap (λ n. n % 2 ^ w) (turned value w rest) ∙ mod_low rest w value fits

rest_of : (value w rest : ℕ) → value < 2 ^ w → (value + 2 ^ w * rest) / 2 ^ w ≡ rest
rest_of value w rest fits = ap (λ n. n / 2 ^ w) (turned value w rest) ∙ shr_high rest w value fits

pub has_fields : (fields : Fields) → AllFit fields → HasFields (packed fields) fields
has_fields [] fit = refl
has_fields (field ∷ fields) fit =
    let rest : packed (field ∷ fields) / 2 ^ field.0 ≡ packed fields = rest_of field.1 field.0 (packed fields) fit.0 in
    (low_of field.1 field.0 (packed fields) fit.0, subst (λ n. HasFields n fields) (sym rest) (has_fields fields fit.1))

pub all_fit : (word : ℕ) (fields : Fields) → HasFields word fields → AllFit fields
all_fit word [] has = tt
all_fit word (field ∷ fields) has =
    (subst (λ n. n < 2 ^ field.0) has.0 (mod_below word (2 ^ field.0) (pow_pos field.0)), all_fit (word / 2 ^ field.0) fields has.1)

pub packed_again : (word : ℕ) (fields : Fields) → HasFields word fields → packed fields ≡ word
packed_again word [] has = sym has
packed_again word (field ∷ fields) has =
    let rest = packed_again (word / 2 ^ field.0) fields has.1 in
    ap (λ n. n + 2 ^ field.0 * packed fields) (sym has.0) ∙ ap (λ n. word % 2 ^ field.0 + 2 ^ field.0 * n) rest
    ∙ turned (word % 2 ^ field.0) field.0 (word / 2 ^ field.0) ∙ shr_split word field.0

pub fields_are_exact : FieldsAreExact
fields_are_exact word fields =
    (λ has. (all_fit word fields has, packed_again word fields has), λ from. subst (λ n. HasFields n fields) from.1 (has_fields fields from.0))

-- what the shift and the `|` of the code give
pub joined_is : (low w high : ℕ) → low < 2 ^ w → low + 2 ^ w * high < 2 ^ 64 → bit_or (high * 2 ^ w % 2 ^ 64) low ≡ low + 2 ^ w * high
joined_is low w high fits whole =
    let shifted : high * 2 ^ w < 2 ^ 64 = omega arith in
    ap (λ n. bit_or n low) (mod-eq_of_lt shifted) ∙ or_shifted high w low fits ∙ sym (turned low w high)

-- and what its mask gives
pub masked_is : (word w : ℕ) → w < 64 → bit_and word (1 * 2 ^ w % 2 ^ 64 - 1) ≡ word % 2 ^ w
masked_is word w below = ap (λ n. bit_and word (n - 1)) (one_shl w 64 below) ∙ and_mask word w
