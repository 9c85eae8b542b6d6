-- Access words are a packing.
use Rattle.std.proofs.Common.{◌≡◌, ◌≢◌, ℕ, ◌/◌, ◌%◌, ◌^◌, ◌<◌, ◌≤◌, [], ◌∷◌, get_or, Some, None, refl, sym, ap, ◌∙◌, arith}
use Rattle.kt_law.specs.Modes.{op_number}
use Rattle.kt_law.specs.declared.operators.Op.{Op}
use Rattle.kt_law.specs.declared.operators.Op.TheVariants as O
use Rattle.kt_law.specs.declared.modes.Mode.{Mode}
use Rattle.kt_law.specs.declared.modes.Mode.TheVariants as M
use Rattle.kt_law.specs.declared.accesses.Access.{Access}
use Rattle.kt_words.specs.BitFields.{AllFit, packed, HasFields, Unpacks}
use Rattle.kt_words.specs.Words.{mode_number, mode_op, access_fields, IsAccess, packed_access}
use Rattle.kt_words.specs.Laws.{IsPacking}
use Rattle.kt_words.proofs.Packings.{unpacks_some, unpacks_none, packing}

abbrev op_at : ℕ → Op
op_at number = get_or (O.Add ∷ O.Min ∷ O.Max ∷ O.And ∷ O.Or ∷ O.Xor ∷ []) number O.Add

op_at-number : (op : Op) → op_at (op_number op) ≡ op
op_at-number O.Add = refl
op_at-number O.Min = refl
op_at-number O.Max = refl
op_at-number O.And = refl
op_at-number O.Or = refl
op_at-number O.Xor = refl

op_number-below : (op : Op) → op_number op < 2 ^ 3
op_number-below O.Add = omega arith
op_number-below O.Min = omega arith
op_number-below O.Max = omega arith
op_number-below O.And = omega arith
op_number-below O.Or = omega arith
op_number-below O.Xor = omega arith

abbrev mode_at : ℕ → ℕ → Mode
mode_at number op = get_or (M.R ∷ M.W ∷ M.X ∷ M.Cw (op_at op) ∷ M.Rp ∷ M.Wp ∷ M.Xp ∷ M.Cwp (op_at op) ∷ []) number M.R

mode_at-numbers : (mode : Mode) → mode_at (mode_number mode) (mode_op mode) ≡ mode
mode_at-numbers M.R = refl
mode_at-numbers M.W = refl
mode_at-numbers M.X = refl
mode_at-numbers (M.Cw op) = ap M.Cw (op_at-number op)
mode_at-numbers M.Rp = refl
mode_at-numbers M.Wp = refl
mode_at-numbers M.Xp = refl
mode_at-numbers (M.Cwp op) = ap M.Cwp (op_at-number op)

mode_number-below : (mode : Mode) → mode_number mode < 2 ^ 3
mode_number-below M.R = omega arith
mode_number-below M.W = omega arith
mode_number-below M.X = omega arith
mode_number-below (M.Cw op) = omega arith
mode_number-below M.Rp = omega arith
mode_number-below M.Wp = omega arith
mode_number-below M.Xp = omega arith
mode_number-below (M.Cwp op) = omega arith

mode_op-below : (mode : Mode) → mode_op mode < 2 ^ 3
mode_op-below M.R = omega arith
mode_op-below M.W = omega arith
mode_op-below M.X = omega arith
mode_op-below (M.Cw op) = op_number-below op
mode_op-below M.Rp = omega arith
mode_op-below M.Wp = omega arith
mode_op-below M.Xp = omega arith
mode_op-below (M.Cwp op) = op_number-below op

access_fit : (v : Access) → IsAccess v → AllFit (access_fields v)
access_fit v h = (omega arith, (h.hi_fits, (mode_number-below v.mode, (mode_op-below v.mode, tt))))

access_fixed : (word : ℕ) (v w : Access) → HasFields word (access_fields v) → HasFields word (access_fields w) → v ≡ w
access_fixed word v w a b =
    let lo : v.lo ≡ w.lo = sym a.0 ∙ b.0 in
    let hi : v.hi ≡ w.hi = sym a.1.0 ∙ b.1.0 in
    let number : mode_number v.mode ≡ mode_number w.mode = sym a.1.1.0 ∙ b.1.1.0 in
    let op : mode_op v.mode ≡ mode_op w.mode = sym a.1.1.1.0 ∙ b.1.1.1.0 in
    let mode : v.mode ≡ w.mode = sym (mode_at-numbers v.mode) ∙ (λ i. mode_at (number i) (op i)) ∙ mode_at-numbers w.mode in
    λ i. record { lo = lo i; hi = hi i; mode = mode i }

access_below : (v : Access) → IsAccess v → packed (access_fields v) < 2 ^ 64
access_below v h = omega (arith, mode_number-below v.mode, mode_op-below v.mode)

pub access_words : IsPacking IsAccess packed_access
unfolding packed_access
access_words = packing IsAccess access_fields access_fit access_fixed access_below

pub access_found : (word lo hi number op a b : ℕ) (mode : Mode) → word < 2 ^ 64
    → lo ≡ word % 2 ^ 20 → a ≡ word / 2 ^ 20 → hi ≡ a % 2 ^ 20 → b ≡ a / 2 ^ 20 → number ≡ b % 2 ^ 3 → op ≡ b / 2 ^ 3
    → lo ≤ hi → (mode_number mode ≡ number) × (mode_op mode ≡ op)
    → Unpacks IsAccess packed_access word (Some (record { lo = lo; hi = hi; mode = mode }))
unfolding packed_access
access_found word lo hi number op a b mode small lo_is a_is hi_is b_is number_is op_is ordered same =
    let same_number = same.0 in
    let same_op = same.1 in
    let v : Access = record { lo = lo; hi = hi; mode = mode } in
    unpacks_some IsAccess access_fields access_fit access_fixed word v (record { ordered = ordered; hi_fits = omega arith }) (omega arith)

pub no_access : (word lo hi a : ℕ) → lo ≡ word % 2 ^ 20 → a ≡ word / 2 ^ 20 → hi ≡ a % 2 ^ 20 → hi < lo
    → Unpacks IsAccess packed_access word None
unfolding packed_access
no_access word lo hi a lo_is a_is hi_is crossed =
    unpacks_none IsAccess access_fields access_fit access_fixed word (λ v h has.
    let same_lo = has.0 in
    let same_hi = has.1.0 in
    let ordered = h.ordered in
    omega arith)

pub no_mode : (word number op a b : ℕ) → a ≡ word / 2 ^ 20 → b ≡ a / 2 ^ 20 → number ≡ b % 2 ^ 3 → op ≡ b / 2 ^ 3
    → ((mode : Mode) → mode_number mode ≡ number → mode_op mode ≢ op)
    → Unpacks IsAccess packed_access word None
unfolding packed_access
no_mode word number op a b a_is b_is number_is op_is nowhere =
    unpacks_none IsAccess access_fields access_fit access_fixed word (λ v h has.
    let same_number = has.1.1.0 in
    let same_op = has.1.1.1.0 in
    let nothing_above = has.1.1.1.1 in
    nowhere v.mode (omega arith) (omega arith))
