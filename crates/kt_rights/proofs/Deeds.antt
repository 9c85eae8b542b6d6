-- What modes that agree, or of which one hands the other on, let be done to one element.
use Rattle.std.proofs.Common.{◌≡◌, ℕ, true, ◌⊎◌, inl, inr, refl, sym, ap, subst}
use Rattle.kt_law.specs.Modes.{same_op, is_reading, is_folding, hands_on_of, agree_of}
use Rattle.kt_law.specs.declared.operators.Op.{Op}
use Rattle.kt_law.specs.declared.operators.Op.TheVariants as O
use Rattle.kt_law.specs.declared.modes.Mode.{Mode}
use Rattle.kt_law.specs.declared.modes.Mode.TheVariants as M
use Rattle.kt_law.specs.Acts.{Deed, Load, Store, Fold}
use Rattle.kt_rights.specs.Acts.{is_load}
use Rattle.kt_rights.specs.Rights.{lets, has, is_fold}

-- two deeds that may be done in either order on one element: two loads, or two values cumulated by one law
abbrev pub DeedsAgree : Deed → Deed → Type 0
DeedsAgree j k = ((j ≡ Load) × (k ≡ Load)) ⊎ ((op : Op) × (v : ℕ) × (w : ℕ) × (j ≡ Fold op v) × (k ≡ Fold op w))

pub deeds_turned : (j k : Deed) → DeedsAgree j k → DeedsAgree k j
deeds_turned j k (inl h) = inl (h.1, h.0)
deeds_turned j k (inr h) = inr (h.0, h.2, h.1, h.4, h.3)

pub same_op_is : (a b : Op) → same_op a b ≡ true → a ≡ b
same_op_is O.Add O.Add h = refl
same_op_is O.Min O.Min h = refl
same_op_is O.Max O.Max h = refl
same_op_is O.And O.And h = refl
same_op_is O.Or O.Or h = refl
same_op_is O.Xor O.Xor h = refl
same_op_is a b h = cc

pub same_self : (op : Op) → same_op op op ≡ true
same_self O.Add = refl
same_self O.Min = refl
same_self O.Max = refl
same_self O.And = refl
same_self O.Or = refl
same_self O.Xor = refl

load_is : (k : Deed) → is_load k ≡ true → k ≡ Load
load_is Load h = refl
load_is (Store v) h = cc
load_is (Fold op v) h = cc

fold_is : (op : Op) (k : Deed) → is_fold op k ≡ true → (v : ℕ) × (k ≡ Fold op v)
fold_is op Load h = cc
fold_is op (Store v) h = cc
fold_is op (Fold other v) h = (v, ap (λ x. Fold x v) (sym (same_op_is op other h)))

reading_has : (m : Mode) (k : Deed) → is_reading m ≡ true → has m k ≡ true → is_load k ≡ true
reading_has M.R k r h = h
reading_has M.Rp k r h = h
reading_has M.W k r h = cc
reading_has M.X k r h = cc
reading_has M.Wp k r h = cc
reading_has M.Xp k r h = cc
reading_has (M.Cw op) k r h = cc
reading_has (M.Cwp op) k r h = cc

folding_has : (op : Op) (m : Mode) (k : Deed) → is_folding op m ≡ true → has m k ≡ true → is_fold op k ≡ true
folding_has op (M.Cw other) k r h = subst (λ (x : Op). is_fold x k ≡ true) (sym (same_op_is op other r)) h
folding_has op (M.Cwp other) k r h = subst (λ (x : Op). is_fold x k ≡ true) (sym (same_op_is op other r)) h
folding_has op M.R k r h = cc
folding_has op M.Rp k r h = cc
folding_has op M.W k r h = cc
folding_has op M.X k r h = cc
folding_has op M.Wp k r h = cc
folding_has op M.Xp k r h = cc

loads_agree : (j k : Deed) → is_load j ≡ true → is_load k ≡ true → DeedsAgree j k
loads_agree j k x y = inl (load_is j x, load_is k y)

folds_agree : (op : Op) (j k : Deed) → is_fold op j ≡ true → is_fold op k ≡ true → DeedsAgree j k
folds_agree op j k x y = let a = fold_is op j x in let b = fold_is op k y in inr (op, a.0, b.0, a.1, b.1)

-- modes that agree let only deeds that agree be done
pub agree_deeds : (a b : Mode) (j k : Deed) → agree_of a b ≡ true → has a j ≡ true → has b k ≡ true → DeedsAgree j k
agree_deeds M.R b j k h x y = loads_agree j k x (reading_has b k h y)
agree_deeds M.Rp b j k h x y = loads_agree j k x (reading_has b k h y)
agree_deeds (M.Cw op) b j k h x y = folds_agree op j k x (folding_has op b k h y)
agree_deeds (M.Cwp op) b j k h x y = folds_agree op j k x (folding_has op b k h y)
agree_deeds M.W b j k h x y = cc
agree_deeds M.X b j k h x y = cc
agree_deeds M.Wp b j k h x y = cc
agree_deeds M.Xp b j k h x y = cc

-- what is handed on may do no more
pub hands_has : (a b : Mode) (k : Deed) → hands_on_of a b ≡ true → has b k ≡ true → has a k ≡ true
hands_has M.R b k h x = reading_has b k h x
hands_has M.Rp b k h x = reading_has b k h x
hands_has (M.Cw op) b k h x = folding_has op b k h x
hands_has (M.Cwp op) b k h x = folding_has op b k h x
hands_has M.W b k h x = refl
hands_has M.X b k h x = refl
hands_has M.Wp b k h x = refl
hands_has M.Xp b k h x = refl

-- nor may the body itself
pub lets_has : (a : Mode) (k : Deed) → lets a k ≡ true → has a k ≡ true
lets_has M.R Load h = refl
lets_has M.R (Store v) h = cc
lets_has M.R (Fold op v) h = cc
lets_has (M.Cw op) Load h = cc
lets_has (M.Cw op) (Store v) h = cc
lets_has (M.Cw op) (Fold other v) h = subst (λ (x : Op). same_op x other ≡ true) (same_op_is other op h) (same_self other)
lets_has M.W k h = refl
lets_has M.X k h = refl
lets_has M.Wp k h = refl
lets_has M.Xp k h = refl
lets_has M.Rp Load h = cc
lets_has M.Rp (Store v) h = cc
lets_has M.Rp (Fold op v) h = cc
lets_has (M.Cwp op) Load h = cc
lets_has (M.Cwp op) (Store v) h = cc
lets_has (M.Cwp op) (Fold other v) h = cc

-- a right of which a body makes use agrees with what it hands on
pub used_agrees : (a b : Mode) (k : Deed) → hands_on_of a b ≡ true → lets a k ≡ true → agree_of a b ≡ true
used_agrees M.R b k h x = h
used_agrees (M.Cw op) b k h x = h
used_agrees M.Rp b k h x = h
used_agrees (M.Cwp op) b k h x = h
used_agrees M.W b k h x = cc
used_agrees M.X b k h x = cc
used_agrees M.Wp b Load h x = cc
used_agrees M.Wp b (Store v) h x = cc
used_agrees M.Wp b (Fold op v) h x = cc
used_agrees M.Xp b Load h x = cc
used_agrees M.Xp b (Store v) h x = cc
used_agrees M.Xp b (Fold op v) h x = cc
