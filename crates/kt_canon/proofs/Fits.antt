-- Tokens none of which nests too deep, by the gauge, with any two limits.
use Rattle.std.proofs.Common.{◌≡◌, ℕ, suc, ◌+◌, ◌<◌, ◌≤◌, Bool, true, false, List, [], ◌∷◌, Some, refl, ap, sym, subst, ◌∙◌, arith, nat_eq, nat_le, eq-eqb, max}
use Rattle.std.specs.Prelude.{◌&&◌, ◌||◌, not}
use Rattle.std.proofs.lemmas.Bool.{eqb-true}
use Rattle.std.proofs.lemmas.Bool.Decides.{nat_tests}
use Rattle.kt_law.specs.declared.operators.BinOp.{BinOp}
use Rattle.kt_law.specs.declared.places.Place.{Place}
use Rattle.kt_tokens.specs.declared.gauge.Gauge.{Gauge}
use Rattle.kt_tokens.specs.declared.gauge.Reach.{Reach}
use Rattle.kt_tokens.specs.declared.gauge.Reach.TheVariants.{Within}
use Rattle.kt_tokens.specs.declared.tokens.Mark.TheVariants as T
use Rattle.kt_tokens.specs.declared.tokens.Symbol.{Symbol}
use Rattle.kt_tokens.specs.declared.tokens.Symbol.TheVariants as S
use Rattle.kt_tokens.specs.declared.tokens.Tok.{Tok}
use Rattle.kt_tokens.specs.Gauge.{ends_span, is_end_sign, is_opening, reach_ended, open_behind}
use Rattle.kt_tokens.specs.Tokens.{◌·◌, named}
use Rattle.kt_read.specs.Operators.{additive_of, comparison_of, multiplicative_of}
use Rattle.kt_read.proofs.Spans.{apart, behind, within}

-- ---- in general

abbrev pub too_long : ℕ → ℕ → Reach → Symbol → Bool
too_long most n (Within span) s = not (ends_span n span s) && nat_le most span.count
too_long most n _ s = false

-- at most `deep` brackets, and at most `most` tokens of an expression
abbrev pub over : ℕ → ℕ → Gauge → Symbol → Bool
over deep most g s = is_opening s && nat_le deep g.brackets || too_long most g.brackets g.reach s

abbrev pub Fits : ℕ → ℕ → Gauge → List Tok → Type 0
Fits deep most g [] = Unit {0}
Fits deep most g (t ∷ ts) = (over deep most g t.symbol ≡ false) × Fits deep most (behind g t.symbol) ts

pub no_sign : (a : Bool) {e : Bool} → e ≡ false → (a && e) ≡ false
no_sign true h = h
no_sign false h = refl

differ : (n b : ℕ) → b < n → nat_eq n b ≡ false
differ n b h = by (nat_eq n b) refl
  where
    by : (v : Bool) → nat_eq n b ≡ v → nat_eq n b ≡ false
    by true e = let same = eqb-true n b e in absurd (omega arith)
    by false e = e

-- a token of an expression that is no bracket and no sign that ends it
pub record IsPlain (s : Symbol) : Type 0 where
  pub no_end : is_end_sign s ≡ false
  pub no_open : is_opening s ≡ false
  pub stays : (n : ℕ) → open_behind n s ≡ n

not_le : (m n : ℕ) → nat_le m n ≡ false → n < m
not_le m n h = grind (arith, nat_tests)

pub is_not_le : (m n : ℕ) → n < m → nat_le m n ≡ false
is_not_le m n h = grind (arith, nat_tests)

or_parts : (x y : Bool) → (x || y) ≡ false → (x ≡ false) × (y ≡ false)
or_parts true y h = absurd cc
or_parts false y h = (refl, h)

pub or_both : (x y : Bool) → x ≡ false → y ≡ false → (x || y) ≡ false
or_both x y h k = rw (h, k) refl

module _ (B E : ℕ) where
  -- ---- tokens of an expression

  over_plain : (f : Bool) (b c n : ℕ) (s : Symbol) → (nat_eq n b && is_end_sign s) ≡ false → over B E (within f b c n) s ≡ (is_opening s && nat_le B n || nat_le E c)
  over_plain f b c n s h = rw h refl

  behind_plain : (f : Bool) (b c n : ℕ) (s : Symbol) → (nat_eq n b && is_end_sign s) ≡ false → behind (within f b c n) s ≡ within f b (c + 1) (open_behind n s)
  behind_plain f b c n s h = rw h refl

  -- what such a token says of the counts, and what is behind it
  pub inner : (f : Bool) (b c n : ℕ) (t : Tok) (ts : List Tok) → (nat_eq n b && is_end_sign t.symbol) ≡ false → Fits B E (within f b c n) (t ∷ ts) →
      ((is_opening t.symbol && nat_le B n) ≡ false) × (c < E) × Fits B E (within f b (c + 1) (open_behind n t.symbol)) ts
  inner f b c n t ts h x =
      let parts = or_parts (is_opening t.symbol && nat_le B n) (nat_le E c) (sym (over_plain f b c n t.symbol h) ∙ x.0) in
      (parts.0, not_le E c parts.1, subst (λ (g : Gauge). Fits B E g ts) (behind_plain f b c n t.symbol h) x.1)

  pub outer : (f : Bool) (b c n : ℕ) (t : Tok) (ts : List Tok) → (nat_eq n b && is_end_sign t.symbol) ≡ false → (is_opening t.symbol && nat_le B n) ≡ false → c < E →
      Fits B E (within f b (c + 1) (open_behind n t.symbol)) ts → Fits B E (within f b c n) (t ∷ ts)
  outer f b c n t ts h o l x = (
    over_plain f b c n t.symbol h ∙ or_both (is_opening t.symbol && nat_le B n) (nat_le E c) o (is_not_le E c l),
    subst (λ (g : Gauge). Fits B E g ts) (sym (behind_plain f b c n t.symbol h)) x,
  )

  pub inner_plain : (f : Bool) (b c n : ℕ) (t : Tok) (ts : List Tok) → IsPlain t.symbol → Fits B E (within f b c n) (t ∷ ts) → (c < E) × Fits B E (within f b (c + 1) n) ts
  inner_plain f b c n t ts p x =
      let parts = inner f b c n t ts (no_sign (nat_eq n b) p.no_end) x in
      (parts.1, subst (λ (m : ℕ). Fits B E (within f b (c + 1) m) ts) (p.stays n) parts.2)

  pub outer_plain : (f : Bool) (b c n : ℕ) (t : Tok) (ts : List Tok) → IsPlain t.symbol → c < E → Fits B E (within f b (c + 1) n) ts → Fits B E (within f b c n) (t ∷ ts)
  outer_plain f b c n t ts p l x =
      outer f b c n t ts (no_sign (nat_eq n b) p.no_end) (ap (λ (v : Bool). v && nat_le B n) p.no_open) l
      (subst (λ (m : ℕ). Fits B E (within f b (c + 1) m) ts) (sym (p.stays n)) x)

  -- a token where a bracket of the expression is open
  deeper : (n b : ℕ) (e : Bool) → b ≤ n → (nat_eq (suc n) b && e) ≡ false
  deeper n b e h = rw (differ (suc n) b (omega arith)) refl

  pub at_count : (f : Bool) (b n : ℕ) (ts : List Tok) (c d : ℕ) → c ≡ d → Fits B E (within f b c n) ts → Fits B E (within f b d n) ts
  at_count f b n ts c d e x = subst (λ (c : ℕ). Fits B E (within f b c n) ts) e x

  -- a bracket that opens in an expression, one that closes, and a comma between them
  pub opened_one : (f : Bool) (b c n : ℕ) (t : Tok) (ts : List Tok) → is_end_sign t.symbol ≡ false → ((m : ℕ) → open_behind m t.symbol ≡ suc m) → is_opening t.symbol ≡ true →
      Fits B E (within f b c n) (t ∷ ts) → (suc n ≤ B) × (c < E) × Fits B E (within f b (c + 1) (suc n)) ts
  opened_one f b c n t ts h k o x =
      let parts = inner f b c n t ts (no_sign (nat_eq n b) h) x in
      let few : n < B = not_le B n (sym (ap (λ (v : Bool). v && nat_le B n) o) ∙ parts.0) in
      (omega (arith, few), parts.1, subst (λ (m : ℕ). Fits B E (within f b (c + 1) m) ts) (k n) parts.2)

  pub closed_one : (f : Bool) (b c n : ℕ) (t : Tok) (ts : List Tok) → b ≤ n → is_opening t.symbol ≡ false → ((m : ℕ) → open_behind (suc m) t.symbol ≡ m) →
      Fits B E (within f b c (suc n)) (t ∷ ts) → (c < E) × Fits B E (within f b (c + 1) n) ts
  closed_one f b c n t ts le o k x =
      let parts = inner f b c (suc n) t ts (deeper n b (is_end_sign t.symbol) le) x in
      (parts.1, subst (λ (m : ℕ). Fits B E (within f b (c + 1) m) ts) (k n) parts.2)

  pub comma_one : (f : Bool) (b c n : ℕ) (p : Place) (ts : List Tok) → b ≤ n → Fits B E (within f b c (suc n)) (T.Comma · p ∷ ts) →
      (c < E) × Fits B E (within f b (c + 1) (suc n)) ts
  comma_one f b c n p ts le x = let parts = inner f b c (suc n) (T.Comma · p) ts (deeper n b true le) x in (parts.1, parts.2)

  -- ---- the end of an expression

  over_ended : (f : Bool) (c n : ℕ) (s : Symbol) → is_end_sign s ≡ true → over B E (within f n c n) s ≡ (is_opening s && nat_le B n || false)
  over_ended f c n s h = rw (eq-eqb n n refl, h) refl

  behind_ended : (f : Bool) (c n : ℕ) (s : Symbol) → is_end_sign s ≡ true →
      behind (within f n c n) s ≡ record { brackets = open_behind n s; reach = reach_ended (record { in_fork = f; base = n; count = c }) s }
  behind_ended f c n s h = rw (eq-eqb n n refl, h) refl

  -- what the sign that ends it says, and what is behind it
  pub left : (f : Bool) (c n : ℕ) (t : Tok) (ts : List Tok) → is_end_sign t.symbol ≡ true → Fits B E (within f n c n) (t ∷ ts) →
      ((is_opening t.symbol && nat_le B n || false) ≡ false) × Fits B E (record { brackets = open_behind n t.symbol; reach = reach_ended (record { in_fork = f; base = n; count = c }) t.symbol }) ts
  left f c n t ts h x = (sym (over_ended f c n t.symbol h) ∙ x.0, subst (λ (g : Gauge). Fits B E g ts) (behind_ended f c n t.symbol h) x.1)

  pub leave : (f : Bool) (c n : ℕ) (t : Tok) (ts : List Tok) → is_end_sign t.symbol ≡ true → (is_opening t.symbol && nat_le B n || false) ≡ false →
      Fits B E (record { brackets = open_behind n t.symbol; reach = reach_ended (record { in_fork = f; base = n; count = c }) t.symbol }) ts → Fits B E (within f n c n) (t ∷ ts)
  leave f c n t ts h o x = (over_ended f c n t.symbol h ∙ o, subst (λ (g : Gauge). Fits B E g ts) (sym (behind_ended f c n t.symbol h)) x)

  -- ---- tokens of an expression: how many, and how deep

  pub record Slots (size depth : ℕ) (ts us : List Tok) : Type 0 where
    pub fits : (f : Bool) (b c n : ℕ) → b ≤ n → c + size ≤ E → n + depth ≤ B → Fits B E (within f b (c + size) n) us → Fits B E (within f b c n) ts

  pub one_slot : (t : Tok) (us : List Tok) → IsPlain t.symbol → Slots 1 0 (t ∷ us) us
  one_slot t us p = record { fits = λ f b c n le few deep x. outer_plain f b c n t us p (omega arith) x }

  pub join_slots : {s d r e : ℕ} {ts us vs : List Tok} → Slots s d ts us → Slots r e us vs → Slots (s + r) (max d e) ts vs
  join_slots {s} {d} {r} {e} {ts} {us} {vs} p q = record {
    fits = λ f b c n le few deep x.
        p.fits f b c n le (omega arith) (omega arith)
        (q.fits f b (c + s) n le (omega arith) (omega arith) (at_count f b n vs (c + (s + r)) ((c + s) + r) (omega arith) x));
  }

  pub as_slots : {s d r e : ℕ} {ts us : List Tok} → s ≡ r → d ≤ e → Slots s d ts us → Slots r e ts us
  as_slots {s} {d} {r} {e} {ts} {us} same le p = record {
    fits = λ f b c n l few deep x. p.fits f b c n l (omega (arith, same)) (omega (arith, le)) (at_count f b n us (c + r) (c + s) (omega (arith, same)) x);
  }

  opens : (n : ℕ) → n < B → (true && nat_le B n) ≡ false
  opens n h = is_not_le B n h

  -- in brackets that are no braces
  pub paren_slots : {s d : ℕ} {p q : Place} {ts us : List Tok} → Slots s d ts (T.ParenClose · q ∷ us) → Slots (s + 2) (d + 1) (T.ParenOpen · p ∷ ts) us
  paren_slots {s} {d} {p} {q} {ts} {us} h = record {
    fits = λ f b c n le few deep x.
        outer f b c n (T.ParenOpen · p) ts (no_sign (nat_eq n b) refl) (opens n (omega arith)) (omega arith)
        (h.fits f b (c + 1) (suc n) (omega arith) (omega arith) (omega arith)
        (outer f b ((c + 1) + s) (suc n) (T.ParenClose · q) us (deeper n b true le) refl (omega arith)
        (at_count f b n us (c + (s + 2)) (((c + 1) + s) + 1) (omega arith) x)));
  }

  pub element_slots : {s d : ℕ} {name : List ℕ} {o p q : Place} {ts us : List Tok} → Slots s d ts (T.SquareClose · q ∷ us) →
      Slots (s + 3) (d + 1) (named name o ∷ T.SquareOpen · p ∷ ts) us
  element_slots {s} {d} {name} {o} {p} {q} {ts} {us} h = record {
    fits = λ f b c n le few deep x.
        outer f b c n (named name o) (T.SquareOpen · p ∷ ts) (no_sign (nat_eq n b) refl) refl (omega arith)
        (outer f b (c + 1) n (T.SquareOpen · p) ts (no_sign (nat_eq n b) refl) (opens n (omega arith)) (omega arith)
        (h.fits f b ((c + 1) + 1) (suc n) (omega arith) (omega arith) (omega arith)
        (outer f b (((c + 1) + 1) + s) (suc n) (T.SquareClose · q) us (deeper n b true le) refl (omega arith)
        (at_count f b n us (c + (s + 3)) ((((c + 1) + 1) + s) + 1) (omega arith) x))));
  }

  pub call_slots : {s d r e : ℕ} {name : List ℕ} {o p q m : Place} {ts us vs : List Tok} → Slots s d ts (T.Comma · m ∷ us) → Slots r e us (T.ParenClose · q ∷ vs) →
      Slots ((s + r) + 4) (max d e + 1) (named name o ∷ T.ParenOpen · p ∷ ts) vs
  call_slots {s} {d} {r} {e} {name} {o} {p} {q} {m} {ts} {us} {vs} h k = record {
    fits = λ f b c n le few deep x.
        outer f b c n (named name o) (T.ParenOpen · p ∷ ts) (no_sign (nat_eq n b) refl) refl (omega arith)
        (outer f b (c + 1) n (T.ParenOpen · p) ts (no_sign (nat_eq n b) refl) (opens n (omega arith)) (omega arith)
        (h.fits f b ((c + 1) + 1) (suc n) (omega arith) (omega arith) (omega arith)
        (outer f b (((c + 1) + 1) + s) (suc n) (T.Comma · m) us (deeper n b true le) refl (omega arith)
        (k.fits f b ((((c + 1) + 1) + s) + 1) (suc n) (omega arith) (omega arith) (omega arith)
        (outer f b (((((c + 1) + 1) + s) + 1) + r) (suc n) (T.ParenClose · q) vs (deeper n b true le) refl (omega arith)
        (at_count f b n vs (c + ((s + r) + 4)) ((((((c + 1) + 1) + s) + 1) + r) + 1) (omega arith) x))))));
  }

  pub span_slots : {s d r e : ℕ} {name : List ℕ} {o p q m : Place} {ts us vs : List Tok} → Slots s d ts (T.Dots · m ∷ us) → Slots r e us (T.SquareClose · q ∷ vs) →
      Slots ((s + r) + 4) (max d e + 1) (named name o ∷ T.SquareOpen · p ∷ ts) vs
  span_slots {s} {d} {r} {e} {name} {o} {p} {q} {m} {ts} {us} {vs} h k = record {
    fits = λ f b c n le few deep x.
        outer f b c n (named name o) (T.SquareOpen · p ∷ ts) (no_sign (nat_eq n b) refl) refl (omega arith)
        (outer f b (c + 1) n (T.SquareOpen · p) ts (no_sign (nat_eq n b) refl) (opens n (omega arith)) (omega arith)
        (h.fits f b ((c + 1) + 1) (suc n) (omega arith) (omega arith) (omega arith)
        (outer f b (((c + 1) + 1) + s) (suc n) (T.Dots · m) us (deeper n b true le) refl (omega arith)
        (k.fits f b ((((c + 1) + 1) + s) + 1) (suc n) (omega arith) (omega arith) (omega arith)
        (outer f b (((((c + 1) + 1) + s) + 1) + r) (suc n) (T.SquareClose · q) vs (deeper n b true le) refl (omega arith)
        (at_count f b n vs (c + ((s + r) + 4)) ((((((c + 1) + 1) + s) + 1) + r) + 1) (omega arith) x))))));
  }

  -- from one outermost expression to the sign behind it, and from one statement to the next
  pub record AtEnd (f : Bool) (n k : ℕ) (us : List Tok) : Type 0 where
    pub fits : Fits B E (within f n k n) us

  pub record Goes (f : Bool) (n : ℕ) (ts us : List Tok) : Type 0 where
    pub steps : ((k : ℕ) → AtEnd f n k us) → Fits B E (within f n 0 n) ts

  pub goes : {s d : ℕ} {ts us : List Tok} (f : Bool) (n : ℕ) → Slots s d ts us → s ≤ E → n + d ≤ B → Goes f n ts us
  goes {s} f n p few deep = record { steps = λ h. p.fits f n 0 n (omega arith) (omega (arith, few)) deep (h (0 + s)).fits }

  pub leaves : {f : Bool} {n k : ℕ} {t : Tok} {ts : List Tok} → is_end_sign t.symbol ≡ true → (is_opening t.symbol && nat_le B n || false) ≡ false →
      Fits B E (record { brackets = open_behind n t.symbol; reach = reach_ended (record { in_fork = f; base = n; count = k }) t.symbol }) ts → AtEnd f n k (t ∷ ts)
  leaves {f} {n} {k} {t} {ts} h o x = record { fits = leave f k n t ts h o x }

  pub record Calm (n : ℕ) (ts us : List Tok) : Type 0 where
    pub steps : Fits B E (apart n) us → Fits B E (apart n) ts

  -- one more bracket may be opened
  abbrev pub MayOpen : ℕ → Type 0
  MayOpen n = (nat_le B n || false) ≡ false

  pub may_open : (n : ℕ) → MayOpen n → suc n ≤ B
  may_open n h = let l = not_le B n (or_parts (nat_le B n) false h).0 in omega arith

  pub dots_one : (f : Bool) (b c n : ℕ) (p : Place) (ts : List Tok) → b ≤ n → Fits B E (within f b c (suc n)) (T.Dots · p ∷ ts) →
      (c < E) × Fits B E (within f b (c + 1) (suc n)) ts
  dots_one f b c n p ts le x = let parts = inner f b c (suc n) (T.Dots · p) ts (deeper n b true le) x in (parts.1, parts.2)

-- ---- the signs of operators

pub plain_comparison : (s : Symbol) {op : BinOp} → comparison_of s ≡ Some op → IsPlain s
plain_comparison (S.Mark T.Eq) h = record { no_end = refl; no_open = refl; stays = λ n. refl }
plain_comparison (S.Mark T.Ne) h = record { no_end = refl; no_open = refl; stays = λ n. refl }
plain_comparison (S.Mark T.Lt) h = record { no_end = refl; no_open = refl; stays = λ n. refl }
plain_comparison (S.Mark T.Le) h = record { no_end = refl; no_open = refl; stays = λ n. refl }
plain_comparison (S.Mark T.Gt) h = record { no_end = refl; no_open = refl; stays = λ n. refl }
plain_comparison (S.Mark T.Ge) h = record { no_end = refl; no_open = refl; stays = λ n. refl }
plain_comparison _ h = absurd cc

pub plain_additive : (s : Symbol) {op : BinOp} → additive_of s ≡ Some op → IsPlain s
plain_additive (S.Mark T.Plus) h = record { no_end = refl; no_open = refl; stays = λ n. refl }
plain_additive (S.Mark T.Minus) h = record { no_end = refl; no_open = refl; stays = λ n. refl }
plain_additive _ h = absurd cc

pub plain_multiplicative : (s : Symbol) {op : BinOp} → multiplicative_of s ≡ Some op → IsPlain s
plain_multiplicative (S.Mark T.Star) h = record { no_end = refl; no_open = refl; stays = λ n. refl }
plain_multiplicative (S.Mark T.Slash) h = record { no_end = refl; no_open = refl; stays = λ n. refl }
plain_multiplicative (S.Mark T.Percent) h = record { no_end = refl; no_open = refl; stays = λ n. refl }
plain_multiplicative _ h = absurd cc
