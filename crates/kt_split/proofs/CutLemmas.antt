-- An interval is cut in one way, which is that of the pieces that are dealt.
use Rattle.std.proofs.Common.{◌≡◌, ◌≤◌, ◌<◌, ◌+◌, ◌*◌, ◌-◌, ◌/◌, ◌%◌, ℕ, zero, suc, min, List, [], ◌∷◌, length, All, slice_index_or, cond, ◌&&◌, nat_lt, nat_le, fold, true, false, inl, inr, inl, inr, refl, sym, ap, subst, ◌∙◌, arith}
use Rattle.std.proofs.Math.Nat.{div-add-mod}
use Rattle.std.proofs.lemmas.List.Kept.{AllPairs-cons}
use Rattle.kt_words.specs.declared.pairs.Pair.{Pair}
use Rattle.kt_split.specs.Intervals.{size}
use Rattle.kt_split.specs.Splits.{IsKept, Fill, AreEven, IsCut}
use Rattle.kt_split.specs.Laws.{OneCut, CutsKeepPositions, CutsAreEven, SharesAreEven}
use Rattle.kt_split.specs.Dealt.{dealt}
use Rattle.kt_split.proofs.DealtLemmas.{dealt_fills, dealt_many, dealt_even, SizeAt, size_at, quotient_some, rest_less, parts_sum}

times_most : (n a b : ℕ) → a ≤ b → n * a ≤ n * b
times_most zero a b most = omega arith
times_most (suc n) a b most = omega (arith, times_most n a b most, most)

-- THE VICTIM'S SHARE

-- the victim keeps a position, and one less for each share would be too few
record IsLeast (n parts c : ℕ) : Type 0 where
  before : ℕ
  is : c ≡ suc before
  less : before * (parts + 1) < n

kept_least : (n parts c : ℕ) → 1 ≤ n → IsKept n parts c → IsLeast n parts c
kept_least n parts zero long kept = absurd (omega (arith, kept.enough, long))
kept_least n parts (suc d) long kept = record { before = d; is = refl; less = below (d * (parts + 1)) (kept.least d) }
  where
    below : (m : ℕ) → (n ≤ m → suc d ≤ d) → m < n
    below m least = grind (arith, least)

-- nor does it keep all
pub kept_between : (n parts c : ℕ) → 1 ≤ parts → 2 ≤ n → IsKept n parts c → (1 ≤ c) × (c < n)
kept_between n zero c some long kept = absurd (omega (arith, some))
kept_between n (suc k) c some long kept = between (kept_least n (suc k) c (omega (arith, long)) kept)
  where
    below : (d : ℕ) → d * (suc k + 1) < n → suc d < n
    below zero less = omega (arith, long)
    below (suc d) less =
        let product : suc d * (suc k + 1) ≡ suc d + suc d * suc k = omega arith in
        let more : 1 ≤ suc d * suc k = omega arith in
        omega (arith, product, more, less)

    between : IsLeast n (suc k) c → (1 ≤ c) × (c < n)
    between least = (omega (arith, least.is), subst (λ e. e < n) (sym least.is) (below least.before least.less))

kept_once : (n parts c d : ℕ) → IsKept n parts c → IsKept n parts d → c ≡ d
kept_once n parts c d one other = omega (arith, one.least d other.enough, other.least c one.enough)

-- PIECES THAT LIE SIDE BY SIDE

fills_up : (pieces : List Pair) (from to : ℕ) → Fill from pieces to → from ≤ to
fills_up [] from to fill = omega (arith, fill)
fills_up (x ∷ pieces) from to fill = omega (arith, fill.0, fill.1, fills_up pieces x.high to fill.2)

-- pieces of at most so many positions hold at most so many times as many
fills_at_most : (s : ℕ) (pieces : List Pair) (from to : ℕ) → Fill from pieces to → All (λ x. size x ≤ s) pieces
    → to ≤ from + length pieces * s
fills_at_most s [] from to fill most = omega (arith, fill)
fills_at_most s (x ∷ pieces) from to fill most =
    let rest = fills_at_most s pieces x.high to fill.2 (λ k d less. most (suc k) d (omega (arith, less))) in
    let first : size x ≤ s = most 0 x (omega arith) in
    sum (length pieces) rest (omega (arith, fill.0, fill.1, first))
  where
    sum : (n : ℕ) → to ≤ x.high + n * s → x.high ≤ from + s → to ≤ from + suc n * s
    sum n h k = omega (arith, h, k)

-- and of at least so many but one
fills_at_least : (s : ℕ) (pieces : List Pair) (from to : ℕ) → Fill from pieces to → All (λ x. s ≤ size x + 1) pieces
    → from + length pieces * s ≤ to + length pieces
fills_at_least s [] from to fill least = omega (arith, fill)
fills_at_least s (x ∷ pieces) from to fill least =
    let rest = fills_at_least s pieces x.high to fill.2 (λ k d less. least (suc k) d (omega (arith, less))) in
    let first : s ≤ size x + 1 = least 0 x (omega arith) in
    sum (length pieces) rest (omega (arith, fill.0, fill.1, first))
  where
    sum : (n : ℕ) → x.high + n * s ≤ to + n → from + s ≤ x.high + 1 → from + suc n * s ≤ to + suc n
    sum n h k = omega (arith, h, k)

-- the length of the first piece is known by the number of pieces and of their positions
record IsFirst (n total s : ℕ) : Type 0 where
  most : total ≤ suc n * s
  least : suc n * s ≤ total + n

is_first : (x : Pair) (pieces : List Pair) (from to : ℕ) → Fill from (x ∷ pieces) to → AreEven (x ∷ pieces)
    → IsFirst (length pieces) (to - from) (size x)
is_first x pieces from to fill even =
    let most : to ≤ x.high + length pieces * size x =
    fills_at_most (size x) pieces x.high to fill.2 (λ k d less. (even 0 (suc k) d (omega arith) (omega (arith, less))).0) in
    let least : x.high + length pieces * size x ≤ to + length pieces =
    fills_at_least (size x) pieces x.high to fill.2 (λ k d less. (even 0 (suc k) d (omega arith) (omega (arith, less))).1) in
    let up : x.high ≤ to = fills_up pieces x.high to fill.2 in
    let own : x.high ≡ from + size x = omega (arith, fill.0, fill.1) in
    bounds (length pieces) (size x) x.high most least up own
  where
    bounds : (n s high : ℕ) → to ≤ high + n * s → high + n * s ≤ to + n → high ≤ to → high ≡ from + s → IsFirst n (to - from) s
    bounds n s high most least up own = record { most = omega (arith, most, own); least = omega (arith, least, up, own) }

first_most : (n total s t : ℕ) → IsFirst n total s → IsFirst n total t → s ≤ t
first_most n total s t one other = by_order (nat_le s t) refl
  where
    by_order : (b : _) → nat_le s t ≡ b → s ≤ t
    by_order true h = grind (arith, h)
    by_order false h =
        let above : suc t ≤ s = grind (arith, h) in
        let product : suc n * suc t ≤ suc n * s = times_most (suc n) (suc t) s above in
        absurd (omega (arith, product, one.least, other.most))

-- even pieces, as many of as many positions, are the same
pub same_pieces : (pieces others : List Pair) (from to : ℕ) → length pieces ≡ length others → Fill from pieces to → Fill from others to
    → AreEven pieces → AreEven others → pieces ≡ others
same_pieces [] [] from to many one other even evens = refl
same_pieces [] (y ∷ others) from to many one other even evens = absurd (omega (arith, many))
same_pieces (x ∷ pieces) [] from to many one other even evens = absurd (omega (arith, many))
same_pieces (x ∷ pieces) (y ∷ others) from to many one other even evens =
    let count : length pieces ≡ length others = omega (arith, many) in
    let first = is_first x pieces from to one even in
    let second = subst (λ n. IsFirst n (to - from) (size y)) (sym count) (is_first y others from to other evens) in
    let less : size x ≤ size y = first_most (length pieces) (to - from) (size x) (size y) first second in
    let more : size y ≤ size x = first_most (length pieces) (to - from) (size y) (size x) second first in
    let high : x.high ≡ y.high = omega (arith, less, more, one.0, one.1, other.0, other.1) in
    let low : x.low ≡ y.low = one.0 ∙ sym other.0 in
    let rest : pieces ≡ others = same_pieces pieces others x.high to count one.2 (subst (λ h. Fill h others to) (sym high) other.2)
    (λ i j d less short. even (suc i) (suc j) d (omega (arith, less)) (omega (arith, short)))
    (λ i j d less short. evens (suc i) (suc j) d (omega (arith, less)) (omega (arith, short))) in
    ap (λ h. record { low = x.low; high = h } ∷ pieces) high ∙ (ap (λ l. record { low = l; high = y.high } ∷ pieces) low ∙ ap (λ ps. y ∷ ps) rest)

-- ONE CUT

pub one_cut : OneCut
one_cut x parts left other pieces others long some a b =
    let is : size left ≡ size other = kept_once (size x) parts (size left) (size other) a.kept b.kept in
    let keeps : 1 ≤ size left = (kept_between (size x) parts (size left) some long a.kept).0 in
    let low : left.low ≡ other.low = a.first ∙ sym b.first in
    let high : left.high ≡ other.high = omega (arith, is, keeps, low) in
    let many : length pieces ≡ length others = a.many ∙ (ap (λ k. min parts (size x - k)) is ∙ sym b.many) in (
      ap (λ h. record { low = left.low; high = h }) high ∙ ap (λ l. record { low = l; high = other.high }) low,
      same_pieces pieces others left.high x.high many a.fill (subst (λ h. Fill h others x.high) (sym high) b.fill) a.even b.even,
    )

-- EACH POSITION ONCE

abbrev in_span : ℕ → ℕ → ℕ → ℕ
in_span position low high = cond (nat_le low position && nat_lt position high) 1 0

joined : (q a b c : ℕ) → a ≤ b → b ≤ c → in_span q a b + in_span q b c ≡ in_span q a c
joined q a b c less more = grind (arith, less, more)

none_in : (q a : ℕ) → in_span q a a ≡ 0
none_in q a = grind arith

counted : (q : ℕ) (pieces : List Pair) (from to n : ℕ) → Fill from pieces to
    → fold (λ (k : ℕ) (x : Pair). k + in_span q x.low x.high) n pieces ≡ n + in_span q from to
counted q [] from to n fill = omega (arith, subst (λ k. in_span q from k ≡ 0) fill (none_in q from))
counted q (x ∷ pieces) from to n fill =
    let rest = counted q pieces x.high to (n + in_span q x.low x.high) fill.2 in
    let up : x.high ≤ to = fills_up pieces x.high to fill.2 in
    let sum : in_span q x.low x.high + in_span q x.high to ≡ in_span q x.low to = joined q x.low x.high to (omega (arith, fill.1)) up in
    let at : in_span q x.low to ≡ in_span q from to = ap (λ k. in_span q k to) fill.0 in
    total _ _ _ _ rest sum at
  where
    total : {r : ℕ} (a b c d : ℕ) → r ≡ n + a + b → a + b ≡ c → c ≡ d → r ≡ n + d
    total a b c d h k l = omega (arith, h, k, l)

pub cuts_keep_positions : CutsKeepPositions
cuts_keep_positions x parts left pieces long some cut position =
    let keeps : 1 ≤ size left = (kept_between (size x) parts (size left) some long cut.kept).0 in
    counted position (left ∷ pieces) x.low x.high 0 (cut.first, omega (arith, keeps), cut.fill)

-- EVEN SHARES

-- so many times a number, and a rest, between d times as many and once more
quotient_between : (m each longer d : ℕ) → longer < m → d * m ≤ m * each + longer → m * each + longer ≤ suc d * m
    → (d ≤ each) × (each ≤ suc d) × (each ≡ suc d → longer ≡ 0)
quotient_between m each longer d short low high =
    (by_order (nat_le d each) refl, by_other (nat_le each (suc d)) refl, λ is. none is)
  where
    by_order : (b : _) → nat_le d each ≡ b → d ≤ each
    by_order true h = grind (arith, h)
    by_order false h =
        let above : suc each ≤ d = grind (arith, h) in
        let product : m * suc each ≤ m * d = times_most m (suc each) d above in
        let more : m * suc each ≡ m * each + m = omega arith in
        absurd (omega (arith, product, more, low, short))

    by_other : (b : _) → nat_le each (suc d) ≡ b → each ≤ suc d
    by_other true h = grind (arith, h)
    by_other false h =
        let above : suc (suc d) ≤ each = grind (arith, h) in
        let product : m * suc (suc d) ≤ m * each = times_most m (suc (suc d)) each above in
        let more : m * suc (suc d) ≡ suc d * m + m = omega arith in
        absurd (omega (arith, product, more, high, short))

    none : each ≡ suc d → longer ≡ 0
    none is =
        let product : m * each ≡ suc d * m = ap (λ k. m * k) is ∙ omega arith in
        omega (arith, product, high)

-- a piece has as many positions as the victim, or one less
each_share : (d each longer s k : ℕ) → d ≤ each → each ≤ suc d → (each ≡ suc d → longer ≡ 0) → SizeAt each longer k s → (s ≤ suc d) × (suc d ≤ s + 1)
each_share d each longer s k low high none (inl at) = by_order (nat_le each d) refl
  where
    by_order : (b : _) → nat_le each d ≡ b → (s ≤ suc d) × (suc d ≤ s + 1)
    by_order true h = let most : each ≤ d = grind (arith, h) in (omega (arith, at.1, most), omega (arith, at.1, low))
    by_order false h =
        let is : each ≡ suc d = let above : suc d ≤ each = grind (arith, h) in omega (arith, above, high) in
        absurd (omega (arith, none is, at.0))
each_share d each longer s k low high none (inr at) = (omega (arith, at.1, high), omega (arith, at.1, low))

-- what is given of so many positions, where the victim keeps one more than d
record Given (parts d rest : ℕ) : Type 0 where
  low : d * parts ≤ rest
  high : rest ≤ suc d * parts

given : (n parts d : ℕ) → n ≤ suc d * (parts + 1) → d * (parts + 1) < n → Given parts d (n - suc d)
given n parts d enough less =
    let one : suc d * (parts + 1) ≡ suc d * parts + suc d = omega arith in
    let two : d * (parts + 1) ≡ d * parts + d = omega arith in
    record { low = omega (arith, two, less); high = omega (arith, one, enough) }

-- fewer positions than parts are given only where the victim keeps one
record Shared (parts d rest m : ℕ) : Type 0 where
  low : d * m ≤ rest
  high : rest ≤ suc d * m
  many : suc m ≡ min (suc parts) (rest + suc d)

shared : (parts d rest m : ℕ) → m ≡ min parts rest → Given parts d rest → Shared parts d rest m
shared parts d rest m many given = by_order (nat_le parts rest) refl
  where
    by_order : (b : _) → nat_le parts rest ≡ b → Shared parts d rest m
    by_order true h =
        let most : parts ≤ rest = grind (arith, h) in
        let is : m ≡ parts = omega (arith, most, many) in
        record {
          low = subst (λ k. d * k ≤ rest) (sym is) given.low;
          high = subst (λ k. rest ≤ suc d * k) (sym is) given.high;
          many = omega (arith, is, most);
        }
    by_order false h = by_number d given.low
      where
        less : rest < parts
        less = grind (arith, h)

        is : m ≡ rest
        is = omega (arith, less, many)

        by_number : (e : ℕ) → e * parts ≤ rest → Shared parts e rest m
        by_number zero low = record { low = omega arith; high = omega (arith, is); many = omega (arith, is, less) }
        by_number (suc e) low =
            let more : parts ≤ suc e * parts = omega arith in
            absurd (omega (arith, more, low, less))

-- the pieces are those that are dealt, of so many positions each
is_dealt : (pieces : List Pair) (from to m : ℕ) → 1 ≤ m → m ≤ to - from → length pieces ≡ m → Fill from pieces to → AreEven pieces
    → pieces ≡ dealt from ((to - from) / m) m ((to - from) % m)
is_dealt pieces from to m some few many fill even =
    let rest = to - from in
    let short : rest % m < m = rest_less rest m some in
    let up : from ≤ to = fills_up pieces from to fill in
    let end : from + (m * (rest / m) + rest % m) ≡ to = parts_sum from rest m ∙ omega (arith, up) in
    same_pieces pieces (dealt from (rest / m) m (rest % m)) from to (many ∙ sym (dealt_many m from (rest / m) (rest % m))) fill
    (subst (Fill from (dealt from (rest / m) m (rest % m))) end
    (dealt_fills m from (rest / m) (rest % m) (quotient_some rest m some few) (omega (arith, short))))
    even (dealt_even m from (rest / m) (rest % m))

pub cuts_are_even : CutsAreEven
cuts_are_even x parts left pieces long some cut = shares (kept_least (size x) parts (size left) (omega (arith, long)) cut.kept)
  where
    between : (1 ≤ size left) × (size left < size x)
    between = kept_between (size x) parts (size left) some long cut.kept

    rest_is : x.high - left.high ≡ size x - size left
    rest_is = omega (arith, cut.first, between.0)

    m : ℕ
    m = length pieces

    gives : 1 ≤ m
    gives = omega (arith, cut.many, some, between.1)

    few : m ≤ x.high - left.high
    few = omega (arith, cut.many, rest_is)

    shares : IsLeast (size x) parts (size left) → SharesAreEven x parts left pieces
    shares least =
        let rest = x.high - left.high in
        let enough : size x ≤ suc least.before * (parts + 1) = subst (λ k. size x ≤ k * (parts + 1)) least.is cut.kept.enough in
        let given-so : Given parts least.before rest =
        subst (Given parts least.before) (ap (λ k. size x - k) (sym least.is) ∙ sym rest_is) (given (size x) parts least.before enough least.less) in
        let share : Shared parts least.before rest m = shared parts least.before rest m (cut.many ∙ ap (min parts) (sym rest_is)) given-so in
        let whole : m * (rest / m) + rest % m ≡ rest = div-add-mod rest m in
        let bounds = quotient_between m (rest / m) (rest % m) least.before (rest_less rest m gives)
        (subst (λ k. least.before * m ≤ k) (sym whole) share.low) (subst (λ k. k ≤ suc least.before * m) (sym whole) share.high) in
        let dealt-so = is_dealt pieces left.high x.high m gives few refl cut.fill cut.even in
        let all : All (λ y. (size y ≤ size left) × (size left ≤ size y + 1)) pieces =
        subst (λ ps. All (λ y. (size y ≤ size left) × (size left ≤ size y + 1)) ps) (sym dealt-so)
        (λ k d less. subst (λ c. (size (slice_index_or (dealt left.high (rest / m) m (rest % m)) k d) ≤ c) × (c ≤ size (slice_index_or (dealt left.high (rest / m) m (rest % m)) k d) + 1)) (sym least.is)
        (each_share least.before (rest / m) (rest % m) _ k bounds.0 bounds.1 bounds.2
        (size_at m left.high (rest / m) (rest % m) k d (subst (λ n. k < n) (dealt_many m left.high (rest / m) (rest % m)) less)))) in
        record {
          even = AllPairs-cons (λ a b. (size b ≤ size a) × (size a ≤ size b + 1)) left pieces all cut.even;
          many = share.many ∙ ap (min (suc parts)) (omega (arith, rest_is, least.is, between.1));
          keeps = between.0;
          gives = gives;
        }

-- WHAT IS CUT BY NUMBERS

pub dealt_is_cut : (low high parts kept count : ℕ) (pieces : List Pair) → low + 2 ≤ high → 1 ≤ parts → IsKept (high - low) parts kept
    → count ≡ min parts (high - low - kept)
    → pieces ≡ dealt (low + kept) ((high - low - kept) / count) count ((high - low - kept) % count)
    → IsCut (record { low = low; high = high }) parts (record { low = low; high = low + kept }) pieces
dealt_is_cut low high parts kept count pieces long some is many dealt-so =
    let between = kept_between (high - low) parts kept some (omega (arith, long)) is in
    let rest = high - low - kept in
    let few : count ≤ rest = omega (arith, many) in
    let more : 1 ≤ count = omega (arith, many, some, between.1) in
    let short : rest % count < count = rest_less rest count more in
    let from = low + kept in
    let end : from + (count * (rest / count) + rest % count) ≡ high = parts_sum from rest count ∙ omega (arith, between.1) in
    let own : from - low ≡ kept = omega arith in
    subst (λ ps. IsCut (record { low = low; high = high }) parts (record { low = low; high = from }) ps) (sym dealt-so) (record {
      first = refl;
      kept = subst (IsKept (high - low) parts) (sym own) is;
      many = dealt_many count from (rest / count) (rest % count) ∙ (many ∙ ap (λ k. min parts (high - low - k)) (sym own));
      fill = subst (Fill from (dealt from (rest / count) count (rest % count))) end
          (dealt_fills count from (rest / count) (rest % count) (quotient_some rest count more few) (omega (arith, short)));
      even = dealt_even count from (rest / count) (rest % count);
    })
