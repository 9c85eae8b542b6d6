-- How the gauge moves from one token to a later one, and where an expression stands on the way that it calls too long.
use Rattle.std.proofs.Common.{◌≡◌, ℕ, suc, ◌+◌, ◌<◌, ◌≤◌, List, ◌∷◌, length, Bool, true, false, ◌&&◌, not, nat_eq, nat_le, refl, arith, eq-eqb}
use Rattle.std.proofs.lemmas.Bool.{eqb-true}
use Rattle.kt_law.specs.declared.limits.TheConstants.{EXPRESSION_TOKENS}
use Rattle.kt_tokens.specs.declared.gauge.Gauge.{Gauge}
use Rattle.kt_tokens.specs.declared.gauge.Reach.{Reach}
use Rattle.kt_tokens.specs.declared.gauge.Reach.TheVariants.{Apart, Forking, Within}
use Rattle.kt_tokens.specs.declared.tokens.Symbol.{Symbol}
use Rattle.kt_tokens.specs.declared.tokens.Tok.{Tok}
use Rattle.kt_tokens.specs.Gauge.{open_behind, is_end_sign, is_long, reach_behind, reach_ended}

-- ---- states

abbrev pub apart : ℕ → Gauge
apart n = record { brackets = n; reach = Apart }

abbrev pub forking : ℕ → Gauge
forking n = record { brackets = n; reach = Forking }

-- in an expression that began where b brackets were open, behind c of its tokens, and n are open
abbrev pub within : Bool → ℕ → ℕ → ℕ → Gauge
within in_fork b c n = record { brackets = n; reach = Within (record { in_fork = in_fork; base = b; count = c }) }

abbrev pub behind : Gauge → Symbol → Gauge
behind g s = record { brackets = open_behind g.brackets s; reach = reach_behind g.brackets g.reach s }

-- ---- the tokens of one expression

-- Each token from ts to us belongs to an expression that began where b brackets were open; n are open before them, m behind.
pub data Inside (b : ℕ) : ℕ → List Tok → ℕ → List Tok → Type 0 where
  stay : {n : ℕ} {us : List Tok} → Inside b n us n us
  on : {n m : ℕ} {t : Tok} {ts us : List Tok} → (nat_eq n b && is_end_sign t.symbol) ≡ false → Inside b (open_behind n t.symbol) ts m us →
      Inside b n (t ∷ ts) m us

pub inside_join : {b n m k : ℕ} {ts us vs : List Tok} → Inside b n ts m us → Inside b m us k vs → Inside b n ts k vs
inside_join stay d = d
inside_join (on a c) d = on a (inside_join c d)

pub no_sign : (a : Bool) {e : Bool} → e ≡ false → (a && e) ≡ false
no_sign true h = h
no_sign false h = refl

not_true : (v : Bool) → (v ≡ true → ⊥) → v ≡ false
not_true true h = absurd (h refl)
not_true false h = refl

pub deeper : {n b : ℕ} (e : Bool) → b < n → (nat_eq n b && e) ≡ false
deeper {n} {b} e h =
    let differ : nat_eq n b ≡ true → ⊥ = λ k. let same = eqb-true n b k in omega arith in
    rw (not_true _ differ) refl

-- ---- where an expression is too long

-- an expression that began so many tokens ago, and that does not end before `more`
pub record Found (P : List Tok → List Tok → Type 0) (count : ℕ) (more : List Tok) : Type 0 where
  pub from : List Tok
  pub rest : List Tok
  pub outer : P from rest
  pub long : length from ≡ count + suc (length more)
  pub inside : length rest ≤ length more

abbrev pub FoundIn : (List Tok → List Tok → Type 0) → Reach → List Tok → Type 0
FoundIn P (Within span) more = Found P span.count more
FoundIn P _ more = ⊥

-- if t is too much of an expression, then P has that one
pub record At (P : List Tok → List Tok → Type 0) (g : Gauge) (t : Tok) (more : List Tok) : Type 0 where
  pub found : is_long g.brackets g.reach t.symbol ≡ true → FoundIn P g.reach more

-- The gauge goes from g to h over the tokens from ts to us, and P has each expression that is too long there.
pub data Cover (P : List Tok → List Tok → Type 0) : Gauge → List Tok → Gauge → List Tok → Type 0 where
  here : {g : Gauge} {us : List Tok} → Cover P g us g us
  next : {g h : Gauge} {t : Tok} {ts us : List Tok} → At P g t ts → Cover P (behind g t.symbol) ts h us → Cover P g (t ∷ ts) h us

pub join : {P : List Tok → List Tok → Type 0} {g h k : Gauge} {ts us vs : List Tok} → Cover P g ts h us → Cover P h us k vs → Cover P g ts k vs
join here d = d
join (next a c) d = next a (join c d)

found_as : {P Q : List Tok → List Tok → Type 0} (f : (xs ys : List Tok) → P xs ys → Q xs ys) (r : Reach) (more : List Tok) → FoundIn P r more → FoundIn Q r more
found_as f (Within span) more h = record { from = h.from; rest = h.rest; outer = f h.from h.rest h.outer; long = h.long; inside = h.inside }
found_as f Apart more h = h
found_as f Forking more h = h

pub wider : {P Q : List Tok → List Tok → Type 0} {g h : Gauge} {ts us : List Tok} → ((xs ys : List Tok) → P xs ys → Q xs ys) → Cover P g ts h us → Cover Q g ts h us
wider f here = here
wider f (next {g} a c) = next (record { found = λ h. found_as f g.reach _ (a.found h) }) (wider f c)

-- ---- steps

pub free : {P : List Tok → List Tok → Type 0} {n : ℕ} {h : Gauge} {t : Tok} {ts us : List Tok} →
    Cover P (behind (apart n) t.symbol) ts h us → Cover P (apart n) (t ∷ ts) h us
free c = next (record { found = λ h. absurd cc }) c

pub forked : {P : List Tok → List Tok → Type 0} {n : ℕ} {h : Gauge} {t : Tok} {ts us : List Tok} →
    Cover P (behind (forking n) t.symbol) ts h us → Cover P (forking n) (t ∷ ts) h us
forked c = next (record { found = λ h. absurd cc }) c

not_both : (a b : Bool) → a ≡ true → (not a && b) ≡ true → ⊥
not_both true b h k = cc
not_both false b h k = cc

ends : (n : ℕ) {e : Bool} → e ≡ true → (nat_eq n n && e) ≡ true
ends n h = rw (eq-eqb n n refl) h

-- a sign ends the expression, and none of its own brackets is open
pub ended : {P : List Tok → List Tok → Type 0} {f : Bool} {n c : ℕ} {h : Gauge} {t : Tok} {ts us : List Tok} → is_end_sign t.symbol ≡ true →
    Cover P (record { brackets = open_behind n t.symbol; reach = reach_ended (record { in_fork = f; base = n; count = c }) t.symbol }) ts h us →
    Cover P (within f n c n) (t ∷ ts) h us
ended {f} {n} {c} {t} e d =
    next (record { found = λ h. absurd (not_both _ _ (ends n e) h) }) (rw (ends n e) d)

-- ---- the whole of an expression

inside_short : {b n m : ℕ} {ts us : List Tok} → Inside b n ts m us → length us ≤ length ts
inside_short stay = omega arith
inside_short (on a c) = let h = inside_short c in omega arith

pub grown : (f : Bool) (b c n : ℕ) (s : Symbol) → (nat_eq n b && is_end_sign s) ≡ false →
    behind (within f b c n) s ≡ within f b (c + 1) (open_behind n s)
grown f b c n s a = rw a refl

-- the gauge goes over such an expression, from its first token to its end
pub record Passed (P : List Tok → List Tok → Type 0) (f : Bool) (b c n : ℕ) (ts : List Tok) (m : ℕ) (us : List Tok) : Type 0 where
  pub count : ℕ
  pub cover : Cover P (within f b c n) ts (within f b count m) us

passed_on : {P : List Tok → List Tok → Type 0} {f : Bool} {b c n m : ℕ} {t : Tok} {ts ys : List Tok} → (nat_eq n b && is_end_sign t.symbol) ≡ false →
    At P (within f b c n) t ts → Passed P f b (c + 1) (open_behind n t.symbol) ts m ys → Passed P f b c n (t ∷ ts) m ys
passed_on {f} {b} {c} {n} {t} e a r = record { count = r.count; cover = next a (rw (grown f b c n t.symbol e) r.cover) }

-- it began at xs
passed_from : {P : List Tok → List Tok → Type 0} {f : Bool} {b : ℕ} (xs : List Tok) {ys : List Tok} → P xs ys → (c : ℕ) {n m : ℕ} {ts : List Tok} →
    length xs ≡ c + length ts → Inside b n ts m ys → Passed P f b c n ts m ys
passed_from xs p c l stay = record { count = c; cover = here }
passed_from xs {ys} p c l (on {ts} a i) =
    let short = inside_short i in
    let long : length xs ≡ c + suc (length ts) = omega (arith, l) in
    let more : length xs ≡ (c + 1) + length ts = omega (arith, l) in
    passed_on a (record { found = λ h. record { from = xs; rest = ys; outer = p; long = long; inside = short } })
    (passed_from xs p (c + 1) more i)

-- P has the expression
pub passed : {P : List Tok → List Tok → Type 0} {f : Bool} {b : ℕ} {ts us : List Tok} → P ts us → Inside b b ts b us → Passed P f b 0 b ts b us
passed {ts} p i = passed_from ts p 0 (omega arith) i

pub spanned : {P : List Tok → List Tok → Type 0} {f : Bool} {b : ℕ} {h : Gauge} {ts us vs : List Tok} → P ts us → Inside b b ts b us →
    ((k : ℕ) → Cover P (within f b k b) us h vs) → Cover P (within f b 0 b) ts h vs
spanned p i d = let r = passed p i in join r.cover (d r.count)

no_short : (a : Bool) {b : Bool} → b ≡ false → (a && b) ≡ true → ⊥
no_short true h k = cc
no_short false h k = cc

-- too few tokens so far
pub counted : {P : List Tok → List Tok → Type 0} {f : Bool} {b c n : ℕ} {h : Gauge} {t : Tok} {ts us : List Tok} →
    nat_le EXPRESSION_TOKENS c ≡ false → (nat_eq n b && is_end_sign t.symbol) ≡ false → Cover P (within f b (c + 1) (open_behind n t.symbol)) ts h us →
    Cover P (within f b c n) (t ∷ ts) h us
counted {f} {b} {c} {n} {t} l a d = next (record { found = λ h. absurd (no_short _ l h) }) (rw (grown f b c n t.symbol a) d)
