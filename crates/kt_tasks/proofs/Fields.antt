-- What the fields of a record say of the task that lies there.
use Rattle.std.proofs.Common.{◌≡◌, ℕ, zero, suc, ◌+◌, ◌-◌, ◌*◌, ◌^◌, ◌<◌, ◌≤◌, Bool, true, false, cond, nat_lt, List, [], ◌∷◌, ◌++◌, take, length, sym, refl, ap, ◌∙◌, subst, arith, Option, Some, None}
use mathlib.Core.Option as o
use mathlib.Core.Option.{none, some, some-injective, some-ne-none}
use lib.ListN.{get_elem?}
use Rattle.kt_law.specs.declared.accesses.Access.{Access}
use Rattle.kt_words.specs.BitFields.{Unpacks}
use Rattle.kt_words.specs.Words.{packed_head, packed_pair, packed_access, IsHeadWord, IsPair, IsAccess}
use Rattle.kt_words.specs.declared.layouts.TheConstants.{FIELDS}
use Rattle.kt_words.specs.declared.heads.HeadWord.{HeadWord}
use Rattle.kt_words.specs.declared.pairs.Pair.{Pair}
use Rattle.kt_rule.specs.declared.views.Berth.{Berth}
use Rattle.kt_rule.specs.declared.views.Stored.{Stored}
use Rattle.kt_rule.specs.Lists.{In}
use Rattle.kt_rule.specs.Lies.{Lie}
use Rattle.kt_rule.specs.Records.{head_of, access_word, later_field, task_field}
use Rattle.kt_rule.specs.Steps.{new_lie, IsBuilt}
use Rattle.kt_steps.proofs.Looks.{access_field}
use Rattle.kt_tasks.specs.Hands.{IsFieldOf}

the_some : {X : Type 0} → {x y : X} → Some x ≡ Some y → x ≡ y
the_some h = cc

-- FOUND

pub head_found : (b : Berth) (n : ℕ) (found : Option HeadWord) → IsFieldOf b 1 n → Unpacks IsHeadWord packed_head n found
    → found ≡ Some (head_of (new_lie b))
head_found b n found h u =
    u.complete (head_of h.task) h.head (sym (h.says (packed_head (head_of h.task)) refl))
    ∙ ap (λ (z : Berth). Some (head_of (new_lie z))) h.berth

pub head_there : (b : Berth) (n : ℕ) (x : HeadWord) → IsFieldOf b 1 n → Unpacks IsHeadWord packed_head n (Some x)
    → x ≡ head_of (new_lie b)
head_there b n x h u = the_some (head_found b n (Some x) h u)

pub no_head : (b : Berth) (n : ℕ) (found : Option HeadWord) → IsFieldOf b 1 n → Unpacks IsHeadWord packed_head n found → found ≡ None → ⊥
no_head b n found h u e = let x : None ≡ Some (head_of (new_lie b)) = sym e ∙ head_found b n found h u in absurd (cc x)

-- the lower half of a pair is the pair's, whatever the upper one is
low_half : (a b c d : ℕ) → a < 2 ^ 32 → c < 2 ^ 32 → a + 2 ^ 32 * b ≡ c + 2 ^ 32 * d → a ≡ c
low_half a b c d x y e = omega arith

pub length_found : (b : Berth) (n : ℕ) (x : Pair) → IsFieldOf b 3 n → b.call.length < 2 ^ 32 → Unpacks IsPair packed_pair n (Some x)
    → x.low ≡ b.call.length
unfolding packed_pair
length_found b n x h small u =
    let said : n ≡ packed_pair (record { low = h.task.berth.call.length; high = h.task.first }) = h.says _ refl in
    let found = u.sound in
    let same : h.task.berth.call.length ≡ b.call.length = ap (λ (z : Berth). z.call.length) h.berth in
    let both : packed_pair x ≡ packed_pair (record { low = h.task.berth.call.length; high = h.task.first }) = found.1 ∙ said in
    let fits = found.0.low_fits in
    low_half x.low x.high h.task.berth.call.length h.task.first fits (omega arith) (omega arith) ∙ same

-- the field of an int
int_field : (t : Lie) (k : ℕ) → k < 8 → task_field t (5 + k) ≡ get_elem? t.berth.call.ints k
int_field t k less = ap (task_field t) e ∙
    ap (λ (b : Bool). cond b (get_elem? t.berth.call.ints k) (access_word (get_elem? t.berth.call.accesses (k - 8)))) before
  where
    e : 5 + k ≡ suc (suc (suc (suc (suc k))))
    e = omega arith

    before : nat_lt k 8 ≡ true
    before = grind arith

pub int_found : (b : Berth) (k n x : ℕ) → IsFieldOf b (5 + k) n → k < 8 → get_elem? b.call.ints k ≡ some x → n ≡ x
int_found b k n x h less is = h.says x (int_field h.task k less ∙ (ap (λ (z : Berth). get_elem? z.call.ints k) h.berth ∙ is))

pub access_found : (b : Berth) (k n : ℕ) (a : Access) (found : Option Access) → IsFieldOf b (13 + k) n
    → get_elem? b.call.accesses k ≡ some a → Unpacks IsAccess packed_access n found → found ≡ Some a
access_found b k n a found h is u = u.complete a (h.accesses k a is)
    (sym (h.says (packed_access a)
    (access_field h.task k ∙ ap access_word (ap (λ (z : Berth). get_elem? z.call.accesses k) h.berth ∙ is))))

pub access_there : (b : Berth) (k n : ℕ) (a x : Access) → IsFieldOf b (13 + k) n → get_elem? b.call.accesses k ≡ some a
    → Unpacks IsAccess packed_access n (Some x) → get_elem? b.call.accesses k ≡ some x
access_there b k n a x h is u = is ∙ ap some (sym (the_some (access_found b k n a (Some x) h is u)))

pub no_access : (b : Berth) (k n : ℕ) (a : Access) (found : Option Access) → IsFieldOf b (13 + k) n
    → get_elem? b.call.accesses k ≡ some a → Unpacks IsAccess packed_access n found → found ≡ None → ⊥
no_access b k n a found h is u e = let x : None ≡ Some a = sym e ∙ access_found b k n a found h is u in absurd (cc x)

-- WRITTEN

pub all_built : (b : Berth) (built : List Stored)
    → In (record { field = 1; word = packed_head (head_of (new_lie b)) }) built
    → In (record { field = 2; word = b.parent }) built
    → In (record { field = 3; word = packed_pair (record { low = b.call.length; high = 0 }) }) built
    → In (record { field = 4; word = b.call.length }) built
    → ((k n : ℕ) → get_elem? b.call.ints k ≡ some n → In (record { field = 5 + k; word = n }) built)
    → ((k : ℕ) (a : Access) → get_elem? b.call.accesses k ≡ some a → In (record { field = 13 + k; word = packed_access a }) built)
    → IsBuilt built b
all_built b built head parent extent unretired ints accesses = each
  where
    there : (f x y : ℕ) → some x ≡ some y → In (record { field = f; word = x }) built → In (record { field = f; word = y }) built
    there f x y e i = subst (λ (z : ℕ). In (record { field = f; word = z }) built) (some-injective x y e) i

    argument : (k x : ℕ) (t : Bool) → nat_lt k 8 ≡ t
        → cond t (get_elem? b.call.ints k) (access_word (get_elem? b.call.accesses (k - 8))) ≡ some x
        → In (record { field = suc (suc (suc (suc (suc k)))); word = x }) built
    argument k x true e is = subst (λ (z : ℕ). In (record { field = z; word = x }) built)
        (let d : 5 + k ≡ suc (suc (suc (suc (suc k)))) = omega arith in d) (ints k x is)
    argument k x false e is = of_access (get_elem? b.call.accesses (k - 8)) refl is
      where
        behind : 8 ≤ k
        behind = grind arith

        of_access : (found : o.Option Access) → get_elem? b.call.accesses (k - 8) ≡ found → access_word found ≡ some x
            → In (record { field = suc (suc (suc (suc (suc k)))); word = x }) built
        of_access none d g = absurd (some-ne-none x (sym g))
        of_access (some a) d g = let at : 13 + (k - 8) ≡ suc (suc (suc (suc (suc k)))) = (let h = behind in omega arith) in
            subst (λ (z : ℕ × ℕ). In (record { field = z.0; word = z.1 }) built)
            (λ i. (at i, some-injective (packed_access a) x g i)) (accesses (k - 8) a d)

    each : (f x : ℕ) → suc f < FIELDS → later_field (new_lie b) f ≡ some x → In (record { field = suc f; word = x }) built
    each zero x less is = there 1 _ x is head
    each (suc zero) x less is = there 2 _ x is parent
    each (suc (suc zero)) x less is = there 3 _ x is extent
    each (suc (suc (suc zero))) x less is = there 4 _ x is unretired
    each (suc (suc (suc (suc k)))) x less is = argument k x (nat_lt k 8) refl is

-- LISTS, read from the front

pub get_below : {A : Type 0} (xs : List A) (i : ℕ) → i < length xs → (x : A) × (get_elem? xs i ≡ some x)
get_below [] i h = absurd (omega arith)
get_below (x ∷ xs) zero h = (x, refl)
get_below (x ∷ xs) (suc i) h = get_below xs i (omega arith)

pub take_next : {A : Type 0} (xs : List A) (i : ℕ) (x : A) → get_elem? xs i ≡ some x → take i xs ++ x ∷ [] ≡ take (suc i) xs
take_next [] i x e = absurd (some-ne-none x (sym e))
take_next (y ∷ xs) zero x e = ap (λ z. z ∷ []) (sym (some-injective y x e))
take_next (y ∷ xs) (suc i) x e = ap (λ z. y ∷ z) (take_next xs i x e)

pub take_whole : {A : Type 0} (n : ℕ) (xs : List A) → n ≡ length xs → take n xs ≡ xs
take_whole zero [] e = refl
take_whole zero (x ∷ xs) e = absurd (omega arith)
take_whole (suc n) [] e = refl
take_whole (suc n) (x ∷ xs) e = ap (λ z. x ∷ z) (take_whole n xs (omega arith))
