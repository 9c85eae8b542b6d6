-- What two acts may be, by the accesses of their calls, agrees where it meets.
use Rattle.std.proofs.Common.{◌≡◌, ◌≢◌, ◌≤◌, ◌<◌, ℕ, true, false, List, Option, Some, None, ◌⊎◌, inl, inr, refl, sym, subst, arith}
use Rattle.kt_law.specs.Modes.{agree_of, is_postponed, is_owned}
use Rattle.kt_law.specs.Accesses.{HasObject, clash_of, clashes, clash_between}
use Rattle.kt_law.specs.declared.modes.Mode.{Mode}
use Rattle.kt_law.specs.declared.modes.Mode.TheVariants as M
use Rattle.kt_law.specs.declared.accesses.Access.{Access}
use Rattle.kt_law.specs.Acts.{Act, Deed}
use Rattle.kt_rights.specs.Rights.{SomeOf, EachOf, lets, has, Permits, Touches, Covers}
use Rattle.kt_rights.proofs.Deeds.{DeedsAgree, deeds_turned, same_self, agree_deeds, hands_has, lets_has, used_agrees}
use Rattle.kt_rights.proofs.Lists.{some_more, some_each, pick, met_agree, none_between, two}

-- the acts agree if they are done to one element
abbrev pub MeetAgree : Act → Act → Type 0
MeetAgree q r = q.object ≡ r.object → q.element ≡ r.element → DeedsAgree q.deed r.deed

moved_object : (b : Access) (o o' : ℕ) → o ≡ o' → HasObject b o' → HasObject b o
moved_object b o o' e h = subst (HasObject b) (sym e) h

-- two accesses that do not clash, one way or the other
apart_agree : (a b : Access) (object : ℕ) (j k : Deed) → (clash_of a b ≡ false) ⊎ (clash_of b a ≡ false) → HasObject a object
    → HasObject b object → has a.mode j ≡ true → has b.mode k ≡ true → DeedsAgree j k
apart_agree a b object j k (inl h) x y p q = agree_deeds a.mode b.mode j k (met_agree a b object h x y) p q
apart_agree a b object j k (inr h) x y p q = deeds_turned k j (agree_deeds b.mode a.mode k j (met_agree b a object h y x) q p)

-- calls that do not clash
pub between_agree : (xs ys : List Access) (own own' : Option ℕ) (q r : Act) → clash_between xs ys ≡ false
    → SomeOf (Touches own q) xs → SomeOf (Touches own' r) ys → MeetAgree q r
between_agree xs ys own own' q r h x y e e' =
    let k = none_between (Touches own q) (Touches own' r) xs ys h x y in
    apart_agree k.0 k.1 q.object q.deed r.deed (inl k.4) k.2.object (moved_object k.1 q.object r.object e k.3.object) k.2.has k.3.has

-- what a body does itself, and what a call may do that it forks
covered_agree : (a c b : Access) (own own' : Option ℕ) (q r : Act) → q.object ≡ r.object → Covers b a → Permits own q c
    → Touches own' r b → (a ≡ c) ⊎ ((clash_of a c ≡ false) ⊎ (clash_of c a ≡ false)) → DeedsAgree r.deed q.deed
covered_agree a c b own own' q r e cover permit touch (inl same) =
    let used : lets a.mode q.deed ≡ true = subst (λ (z : Access). lets z.mode q.deed ≡ true) (sym same) permit.lets in
    deeds_turned q.deed r.deed (agree_deeds a.mode b.mode q.deed r.deed (used_agrees a.mode b.mode q.deed cover.hands_on used) (lets_has a.mode q.deed used) touch.has)
covered_agree a c b own own' q r e cover permit touch (inr apart) =
    let from : a.lo ≤ r.object = omega (arith, cover.from, touch.object.from) in
    let below : r.object < a.hi = omega (arith, cover.below, touch.object.below) in
    apart_agree a c r.object r.deed q.deed apart (record { from = from; below = below }) (moved_object c r.object q.object (sym e) permit.object) (hands_has a.mode b.mode r.deed cover.hands_on touch.has) (lets_has c.mode q.deed permit.lets)

pub forked_agree : (xs ys : List Access) (own own' : Option ℕ) (q r : Act) → clashes xs ≡ false
    → EachOf (λ b. SomeOf (Covers b) xs) ys → SomeOf (Permits own q) xs → SomeOf (Touches own' r) ys → MeetAgree r q
forked_agree xs ys own own' q r unalike covered x y e e' =
    let j = pick (λ b. SomeOf (Covers b) xs) (Touches own' r) ys covered y in
    let k = two (Covers j.0) (Permits own q) xs unalike j.1 x in
    covered_agree k.0 k.1 j.0 own own' q r (sym e) k.2 k.3 j.2 k.4

-- what is handed on may do no more
pub covered_touches : (xs ys : List Access) (r : Act) → EachOf (λ b. SomeOf (Covers b) xs) ys → SomeOf (Touches None r) ys
    → SomeOf (Touches None r) xs
covered_touches xs ys r covered y =
    let j = pick (λ b. SomeOf (Covers b) xs) (Touches None r) ys covered y in
    let b = j.0 in
    some_more (Covers b) (Touches None r) (λ a c.
    (let from : a.lo ≤ r.object = omega (arith, c.from, j.2.object.from) in
    let below : r.object < a.hi = omega (arith, c.below, j.2.object.below) in
    record { object = record { from = from; below = below }; has = hands_has a.mode b.mode r.deed c.hands_on j.2.has; owns = tt })) xs j.1

-- of one direct access two indexes have each its own element, or it agrees with itself
pub self_agrees : (a : Mode) → is_postponed a ≡ false → (is_owned a ≡ true) ⊎ (agree_of a a ≡ true)
self_agrees M.R h = inr refl
self_agrees M.W h = inl refl
self_agrees M.X h = inl refl
self_agrees (M.Cw op) h = inr (same_self op)
self_agrees M.Rp h = cc
self_agrees M.Wp h = cc
self_agrees M.Xp h = cc
self_agrees (M.Cwp op) h = cc

-- two indexes of one loop
pub indexes_agree : (xs : List Access) (i j : ℕ) (q r : Act) → i ≢ j → EachOf (λ a. is_postponed a.mode ≡ false) xs
    → clashes xs ≡ false → SomeOf (Touches (Some i) q) xs → SomeOf (Touches (Some j) r) xs → MeetAgree q r
indexes_agree xs i j q r ne direct unalike x y e e' =
    let k = two (λ a. (is_postponed a.mode ≡ false) × Touches (Some i) q a) (Touches (Some j) r) xs unalike (some_each (λ a. is_postponed a.mode ≡ false) (Touches (Some i) q) xs direct x) y in
    by_two k.0 k.1 k.2.0 k.2.1 k.3 k.4
  where
    one : (a b : Access) → a ≡ b → (is_owned a.mode ≡ true) ⊎ (agree_of a.mode a.mode ≡ true) → Touches (Some i) q a
        → Touches (Some j) r b → DeedsAgree q.deed r.deed
    one a b same (inl owned) t u =
        let first : q.element ≡ i = t.owns owned in
        let second : r.element ≡ j = u.owns (subst (λ (z : Access). is_owned z.mode ≡ true) same owned) in
        absurd (ne (omega (arith, first, second, e')))
    one a b same (inr agree) t u = agree_deeds a.mode a.mode q.deed r.deed agree t.has (subst (λ (z : Access). has z.mode r.deed ≡ true) (sym same) u.has)

    by_two : (a b : Access) → is_postponed a.mode ≡ false → Touches (Some i) q a → Touches (Some j) r b
        → (a ≡ b) ⊎ ((clash_of a b ≡ false) ⊎ (clash_of b a ≡ false)) → DeedsAgree q.deed r.deed
    by_two a b direct t u (inl same) = one a b same (self_agrees a.mode direct) t u
    by_two a b direct t u (inr apart) = apart_agree a b q.object q.deed r.deed apart t.object (moved_object b q.object r.object e u.object) t.has u.has
