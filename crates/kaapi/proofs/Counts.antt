-- How many numbers the data of a job are.
use Rattle.std.proofs.Common.{◌≡◌, ◌≤◌, ◌-◌, ℕ, Bool, true, false, List, [], ◌∷◌, length, map, drop, nat_lt, if◌then◌else◌, Option, Some, None, Result, Ok, Err, refl, sym, ap, ◌∙◌, arith}
use Rattle.std.proofs.lemmas.Bool.Decides.{nat_tests}
use Rattle.std.proofs.lemmas.List.{length-drop, length-map}
use Rattle.kt_text.specs.Bytes.{value_of}
use Rattle.kt_text.specs.Data.{Item, answer_of, counted, items_of, numbers}
use Rattle.kt_text.specs.declared.data.DataError.{DataError}
use Rattle.kt_text.specs.declared.data.DataError.TheVariants.{TooFew}

given : {xs ys : List ℕ} → (let r : Result (List ℕ) DataError = Ok xs in r) ≡ Ok ys → xs ≡ ys
given e = cc

refused : {e : DataError} {xs : List ℕ} → (let r : Result (List ℕ) DataError = Err e in r) ≡ Ok xs → ⊥
refused e = cc

enough : (few : Bool) (items : List Item) (wanted : ℕ) (xs : List ℕ) → few ≡ nat_lt (length items) wanted → length items ≤ wanted →
    (if few then Err (TooFew (length items) wanted) else Ok (map (λ (item : Item). value_of item.text) items)) ≡ Ok xs → length xs ≡ wanted
enough true items wanted xs is most e = absurd (refused e)
enough false items wanted xs is most e =
    let each : length items ≡ length xs = sym (length-map items (λ (item : Item). value_of item.text)) ∙ ap (λ (ns : List ℕ). length ns) (given e) in
    let all : wanted ≤ length items = grind (arith, nat_tests) in
    omega arith

counts : (items left : List Item) (wanted : ℕ) (xs : List ℕ) → left ≡ drop wanted items → counted items wanted left ≡ Ok xs → length xs ≡ wanted
counts items (item ∷ more) wanted xs is e = absurd (refused e)
counts items [] wanted xs is e =
    let none : length items - wanted ≡ 0 = sym (length-drop wanted items) ∙ sym (ap (λ (left : List Item). length left) is) in
    enough (nat_lt (length items) wanted) items wanted xs refl (omega arith) e

answers : (items : List Item) (bad : Option Item) (wanted : ℕ) (xs : List ℕ) → answer_of items wanted bad ≡ Ok xs → length xs ≡ wanted
answers items (Some item) wanted xs e = absurd (refused e)
answers items None wanted xs e = counts items (drop wanted items) wanted xs refl e

-- as many as are wanted
pub as_many : (job : List ℕ) (from wanted : ℕ) (xs : List ℕ) → numbers job from wanted ≡ Ok xs → length xs ≡ wanted
as_many job from wanted xs e = answers (items_of job from) _ wanted xs e
