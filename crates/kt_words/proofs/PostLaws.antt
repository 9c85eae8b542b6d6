-- Post words are a packing.
use Rattle.std.proofs.Common.{◌≡◌, ◌≢◌, ℕ, ◌/◌, ◌%◌, ◌^◌, ◌<◌, ◌≤◌, [], ◌∷◌, get_or, Option, Some, None, IfSome, IfNone, refl, sym, ◌∙◌, arith}
use Rattle.kt_words.specs.BitFields.{AllFit, packed, HasFields, Unpacks}
use Rattle.kt_words.specs.Words.{post_kind, post_number, post_fields, IsPost, packed_post}
use Rattle.kt_words.specs.Laws.{IsPacking}
use Rattle.kt_words.specs.declared.posts.Post.{Post}
use Rattle.kt_words.specs.declared.posts.Post.TheVariants as P
use Rattle.kt_words.proofs.Packings.{unpacks_some, unpacks_none, packing}

abbrev post_at : ℕ → ℕ → Post
post_at kind number = get_or (P.Idle ∷ P.Posted number ∷ P.Held number ∷ P.Failed ∷ P.Task number ∷ P.Piece number ∷ []) kind P.Idle

post_at-numbers : (post : Post) → post_at (post_kind post) (post_number post) ≡ post
post_at-numbers P.Idle = refl
post_at-numbers (P.Posted victim) = refl
post_at-numbers (P.Held victim) = refl
post_at-numbers P.Failed = refl
post_at-numbers (P.Task at) = refl
post_at-numbers (P.Piece at) = refl

post_kind-below : (post : Post) → post_kind post < 2 ^ 3
post_kind-below P.Idle = omega arith
post_kind-below (P.Posted victim) = omega arith
post_kind-below (P.Held victim) = omega arith
post_kind-below P.Failed = omega arith
post_kind-below (P.Task at) = omega arith
post_kind-below (P.Piece at) = omega arith

post_fit : (v : Post) → IsPost v → AllFit (post_fields v)
post_fit v h = (post_kind-below v, (omega arith, tt))

post_fixed : (word : ℕ) (v w : Post) → HasFields word (post_fields v) → HasFields word (post_fields w) → v ≡ w
post_fixed word v w a b =
    let kind : post_kind v ≡ post_kind w = sym a.0 ∙ b.0 in
    let number : post_number v ≡ post_number w = sym a.1.0 ∙ b.1.0 in
    sym (post_at-numbers v) ∙ (λ i. post_at (kind i) (number i)) ∙ post_at-numbers w

post_below : (v : Post) → IsPost v → packed (post_fields v) < 2 ^ 64
post_below v h = omega (arith, post_kind-below v)

pub post_words : IsPacking IsPost packed_post
unfolding packed_post
post_words = packing IsPost post_fields post_fit post_fixed post_below

pub post_found : (word kind rest : ℕ) (found : Option Post) → word < 2 ^ 64 → kind ≡ word % 2 ^ 3 → rest ≡ word / 2 ^ 3 → rest < 2 ^ 32
    → IfSome found (λ post. (post_kind post ≡ kind) × (post_number post ≡ rest))
    → IfNone found ((post : Post) → post_kind post ≡ kind → post_number post ≢ rest)
    → Unpacks IsPost packed_post word found
unfolding packed_post
post_found word kind rest (Some post) small kind_is rest_is few same none =
    let same_kind = same.0 in
    let same_number = same.1 in
    unpacks_some IsPost post_fields post_fit post_fixed word post (record { number_fits = omega arith }) (omega arith)
post_found word kind rest None small kind_is rest_is few same none =
    unpacks_none IsPost post_fields post_fit post_fixed word (λ v h has.
    let same_number = has.1.0 in
    let nothing_above = has.1.1 in
    none v (sym has.0 ∙ sym kind_is) (omega arith))

pub no_post : (word rest : ℕ) → rest ≡ word / 2 ^ 3 → 2 ^ 32 ≤ rest → Unpacks IsPost packed_post word None
unfolding packed_post
no_post word rest rest_is much =
    unpacks_none IsPost post_fields post_fit post_fixed word (λ v h has.
    let fits = h.number_fits in
    let same_number = has.1.0 in
    let nothing_above = has.1.1 in
    omega arith)
