-- In a text the gauge calls a token over where it nests too deep, and nowhere else.
use Rattle.std.proofs.Common.{◌≡◌, ℕ, ◌+◌, ◌<◌, ◌≤◌, List, [], ◌∷◌, ◌++◌, length, Bool, true, false, ◌&&◌, ◌||◌, not, nat_eq, nat_le, if◌then◌else◌, refl, ap, sym, subst, ◌∙◌, arith, ◌⊎◌, inl, inr, length-append}
use Rattle.std.proofs.lemmas.Bool.{le-leb, leb-true, leb-false}
use Rattle.kt_law.specs.declared.limits.TheConstants.{BRACKETS, EXPRESSION_TOKENS}
use Rattle.kt_prog.specs.declared.programs.Program.{Program}
use Rattle.kt_tokens.specs.declared.gauge.Gauge.{Gauge}
use Rattle.kt_tokens.specs.declared.gauge.Reach.{Reach}
use Rattle.kt_tokens.specs.declared.gauge.Reach.TheVariants.{Apart, Forking, Within}
use Rattle.kt_tokens.specs.declared.tokens.Mark.TheVariants as T
use Rattle.kt_tokens.specs.declared.tokens.Symbol.{Symbol}
use Rattle.kt_tokens.specs.declared.tokens.Symbol.TheVariants as S
use Rattle.kt_tokens.specs.declared.tokens.Tok.{Tok}
use Rattle.kt_tokens.specs.Gauge.{ends_span, gauge_after, gauge_behind, is_end_sign, is_long, is_opening, is_over, longer, reach_apart, reach_behind, reach_ended, reach_forking, start_gauge}
use Rattle.kt_tokens.specs.Ahead.{Ahead, all_ahead, rest_of, Moved, still, moved}
use Rattle.kt_read.specs.Outermost.{OuterProgram}
use Rattle.kt_read.specs.Programs.{ReadsProgram}
use Rattle.kt_read.specs.Jobs.{IsOpening, IsLong, IsDeep, IsShallow, opened}
use Rattle.kt_read.proofs.Endings.{same_head, same_tail}
use Rattle.kt_read.proofs.Spans.{within, behind, Inside, stay, on, Found, FoundIn, At, Cover, here, next, grown}
use Rattle.kt_read.proofs.SpanPrograms.{program_cover}
use Rattle.kt_read.proofs.SpanStarts.{Reaches, reaches, program_reaches}

-- ---- lists of tokens

after_join : (toks more : List Tok) (g : Gauge) → gauge_after g (toks ++ more) ≡ gauge_after (gauge_after g toks) more
after_join [] more g = refl
after_join (t ∷ toks) more g = after_join toks more (gauge_behind g t.symbol)

pub brackets_after : (toks : List Tok) (g : Gauge) → (gauge_after g toks).brackets ≡ opened g.brackets toks
unfolding gauge_behind
brackets_after [] g = refl
brackets_after (t ∷ toks) g = brackets_after toks (gauge_behind g t.symbol)

-- what stands between the beginnings of two parts of one list
record Between (toks pre from more : List Tok) : Type 0 where
  mid : List Tok
  front : toks ≡ pre ++ mid
  back : from ≡ mid ++ more

between : (pre toks from more : List Tok) → toks ++ more ≡ pre ++ from → length pre ≤ length toks → Between toks pre from more
between [] toks from more e l = record { mid = toks; front = refl; back = sym e }
between (u ∷ pre) [] from more e l = absurd (omega arith)
between (u ∷ pre) (t ∷ toks) from more e l =
    let short : length pre ≤ length toks = omega (arith, l) in
    let r = between pre toks from more (same_tail e) short in
    let h = same_head e in
    let f = r.front in
    record { mid = r.mid; front = cc; back = r.back }

-- ---- the way of the gauge

record Way (g : Gauge) (ts : List Tok) (h : Gauge) (us : List Tok) : Type 0 where
  toks : List Tok
  split : ts ≡ toks ++ us
  after : gauge_after g toks ≡ h

way : {P : List Tok → List Tok → Type 0} {g h : Gauge} {ts us : List Tok} → Cover P g ts h us → Way g ts h us
unfolding gauge_behind
way here = record { toks = []; split = refl; after = refl }
way (next {t} a c) = let r = way c in record { toks = t ∷ r.toks; split = ap (λ ts. t ∷ ts) r.split; after = r.after }

no_room : (toks us more : List Tok) (t : Tok) → us ≡ toks ++ t ∷ more → length us ≤ length more → ⊥
no_room toks us more t e l =
    let sizes = ap (λ (ts : List Tok). length ts) e ∙ length-append toks (t ∷ more) in
    omega (arith, sizes, l)

at_head : (P : List Tok → List Tok → Type 0) (g : Gauge) {t u : Tok} {ts us : List Tok} → t ∷ ts ≡ u ∷ us → At P g t ts → At P g u us
at_head P g {t} {u} {ts} {us} e a = subst (λ ts. At P g u ts) (same_tail e) (subst (λ t. At P g t ts) (same_head e) a)

at_of : {P : List Tok → List Tok → Type 0} {g h : Gauge} {ts us : List Tok} → Cover P g ts h us → (toks : List Tok) (t : Tok) (more : List Tok) →
    ts ≡ toks ++ t ∷ more → length us ≤ length more → At P (gauge_after g toks) t more
unfolding gauge_behind
at_of here toks t more e l = absurd (no_room toks _ more t e l)
at_of {P} (next {g} a c) [] t more e l = at_head P g e a
at_of {P} (next {g} a c) (u ∷ toks) t more e l =
    subst (λ (v : Tok). At P (gauge_after (behind g v.symbol) toks) t more) (same_head e) (at_of c toks t more (same_tail e) l)

-- ---- what nests too deep is over

long_here : (n b c : ℕ) (f : Bool) (s : Symbol) → (nat_eq n b && is_end_sign s) ≡ false → EXPRESSION_TOKENS ≤ c →
    is_long n (Within (record { in_fork = f; base = b; count = c })) s ≡ true
long_here n b c f s a l = rw (a, le-leb EXPRESSION_TOKENS c l) refl

-- in an expression, once it has so many tokens
record LongAt (g : Gauge) (t : Tok) : Type 0 where
  long : is_long g.brackets g.reach t.symbol ≡ true

inside_long : (f : Bool) {b n m : ℕ} (c : ℕ) {ts us : List Tok} → Inside b n ts m us → (toks : List Tok) (t : Tok) (more : List Tok) →
    ts ≡ toks ++ t ∷ more → length us ≤ length more → EXPRESSION_TOKENS ≤ c + length toks → LongAt (gauge_after (within f b c n) toks) t
unfolding gauge_behind
inside_long f c stay toks t more e l k = absurd (no_room toks _ more t e l)
inside_long f {b} {n} c (on {t = v} a i) [] t more e l k =
    let enough : EXPRESSION_TOKENS ≤ c = omega (arith, k) in
    subst (λ t. LongAt (within f b c n) t) (same_head e) (record { long = long_here n b c f v.symbol a enough })
inside_long f {b} {n} c (on {t = v} a i) (u ∷ toks) t more e l k =
    let enough : EXPRESSION_TOKENS ≤ (c + 1) + length toks = omega (arith, k) in
    subst (λ (u : Tok). LongAt (gauge_after (behind (within f b c n) u.symbol) toks) t) (same_head e)
    (subst (λ g. LongAt (gauge_after g toks) t) (sym (grown f b c n v.symbol a)) (inside_long f (c + 1) i toks t more (same_tail e) l enough))

from_start : {g : Gauge} {ts xs ys : List Tok} → Reaches g ts xs ys → (pre toks : List Tok) (t : Tok) (more : List Tok) → ts ≡ toks ++ t ∷ more →
    ts ≡ pre ++ xs → length toks ≡ length pre + EXPRESSION_TOKENS → length ys ≤ length more → LongAt (gauge_after g toks) t
from_start {g} {ts} {xs} (reaches {f} c i) pre toks t more e s k l =
    let w = way c in
    let size = ap (λ (ts : List Tok). length ts) s ∙ length-append pre xs in
    let size_too = ap (λ (ts : List Tok). length ts) w.split ∙ length-append w.toks xs in
    let behind_start : length w.toks ≤ length toks = omega (arith, size, size_too, k) in
    let m = between w.toks toks xs (t ∷ more) (sym e ∙ w.split) behind_start in
    let parts = ap (λ (ts : List Tok). length ts) m.front ∙ length-append w.toks m.mid in
    let far : EXPRESSION_TOKENS ≤ 0 + length m.mid = omega (arith, size, size_too, k, parts) in
    let there = after_join w.toks m.mid g ∙ ap (λ g. gauge_after g m.mid) w.after in
    subst (λ toks. LongAt (gauge_after g toks) t) (sym m.front)
    (subst (λ g. LongAt g t) (sym there) (inside_long f 0 i m.mid t more m.back l far))

opening_true : (s : Symbol) → IsOpening s → is_opening s ≡ true
opening_true (S.Mark T.BraceOpen) h = refl
opening_true (S.Mark T.ParenOpen) h = refl
opening_true (S.Mark T.SquareOpen) h = refl
opening_true _ h = absurd h

or_true : (a : Bool) {b : Bool} → b ≡ true → (a || b) ≡ true
or_true true h = refl
or_true false h = h

-- the gauge says so of each token that nests too deep
pub deep_is_over : (toks : List Tok) (t : Tok) → IsDeep toks t → is_over (gauge_after start_gauge toks) t.symbol ≡ true
unfolding is_over
deep_is_over toks t (inl h) =
    rw (opening_true t.symbol h.0, brackets_after toks start_gauge, le-leb BRACKETS (opened 0 toks) h.1) refl
deep_is_over toks t (inr h) =
    or_true _ (from_start (program_reaches h.outermost) h.before toks t h.more refl h.stands h.counted h.inside).long

-- ---- what is over nests too deep

-- none of these tokens is over
pub data AllFit : Gauge → List Tok → Type 0 where
  all_fit : {g : Gauge} → AllFit g []
  one_fits : {g : Gauge} {t : Tok} {ts : List Tok} → is_over g t.symbol ≡ false → AllFit (gauge_behind g t.symbol) ts → AllFit g (t ∷ ts)

-- no expression has more tokens so far than it may have
abbrev IsCounted : Reach → Type 0
IsCounted (Within span) = span.count ≤ EXPRESSION_TOKENS
IsCounted _ = Unit {0}

begun_counted : (0 ≤ EXPRESSION_TOKENS)
begun_counted = omega arith

apart_counted : (n : ℕ) (s : Symbol) → IsCounted (reach_apart n s)
apart_counted n (S.Mark T.Becomes) = begun_counted
apart_counted n (S.Mark T.SquareOpen) = begun_counted
apart_counted n (S.Mark T.If) = begun_counted
apart_counted n (S.Mark T.In) = begun_counted
apart_counted n (S.Mark T.Fork) = tt
apart_counted n _ = tt

forking_counted : (n : ℕ) (s : Symbol) → IsCounted (reach_forking n s)
forking_counted n (S.Mark T.ParenOpen) = begun_counted
forking_counted n _ = tt

ended_counted : (f : Bool) (b c : ℕ) (s : Symbol) → IsCounted (reach_ended (record { in_fork = f; base = b; count = c }) s)
ended_counted f b c (S.Mark T.Comma) = begun_counted
ended_counted f b c (S.Mark T.Dots) = begun_counted
ended_counted true b c (S.Mark T.Semicolon) = begun_counted
ended_counted false b c (S.Mark T.Semicolon) = tt
ended_counted f b c _ = tt

within_counted : (e : Bool) (r l : Reach) (c : ℕ) → (not e && nat_le EXPRESSION_TOKENS c) ≡ false → IsCounted r → (c < EXPRESSION_TOKENS → IsCounted l) →
    IsCounted (if e then r else l)
within_counted true r l c h k m = k
within_counted false r l c h k m = m (leb-false EXPRESSION_TOKENS c h)

not_second : (a : Bool) {b : Bool} → (a || b) ≡ false → b ≡ false
not_second true h = absurd cc
not_second false h = h

reach_counted : (n : ℕ) (r : Reach) (s : Symbol) → is_long n r s ≡ false → IsCounted r → IsCounted (reach_behind n r s)
reach_counted n Apart s h k = apart_counted n s
reach_counted n Forking s h k = forking_counted n s
reach_counted n (Within span) s h k =
    within_counted (ends_span n span s) (reach_ended span s) (longer span) span.count h
    (ended_counted span.in_fork span.base span.count s) (λ l. omega (arith, l))

after_counted : {g : Gauge} {toks : List Tok} → AllFit g toks → IsCounted g.reach → IsCounted (gauge_after g toks).reach
unfolding gauge_behind is_over
after_counted all_fit k = k
after_counted (one_fits {g} {t} o f) k = after_counted f (reach_counted g.brackets g.reach t.symbol (not_second _ o) k)

either_true : (a b : Bool) → (a || b) ≡ true → (a ≡ true) ⊎ (b ≡ true)
either_true true b h = inl refl
either_true false b h = inr h

both_true : (a b : Bool) → (a && b) ≡ true → (a ≡ true) × (b ≡ true)
both_true true b h = (refl, h)
both_true false b h = absurd cc

is_opening_so : (s : Symbol) → is_opening s ≡ true → IsOpening s
is_opening_so (S.Mark T.BraceOpen) h = tt
is_opening_so (S.Mark T.ParenOpen) h = tt
is_opening_so (S.Mark T.SquareOpen) h = tt
is_opening_so _ h = absurd cc

just_enough : (e : Bool) (c : ℕ) → (not e && nat_le EXPRESSION_TOKENS c) ≡ true → c ≤ EXPRESSION_TOKENS → c ≡ EXPRESSION_TOKENS
just_enough true c h k = absurd cc
just_enough false c h k = let enough = leb-true EXPRESSION_TOKENS c h in omega (arith, enough, k)

exactly : (P : List Tok → List Tok → Type 0) (n : ℕ) (r : Reach) (s : Symbol) (more : List Tok) → is_long n r s ≡ true → IsCounted r →
    FoundIn P r more → Found P EXPRESSION_TOKENS more
exactly P n (Within span) s more h k f =
    subst (λ c. Found P c more) (just_enough (ends_span n span s) span.count h k) f
exactly P n Apart s more h k f = absurd f
exactly P n Forking s more h k f = absurd f

record Stands (ts xs : List Tok) : Type 0 where
  pre : List Tok
  split : ts ≡ pre ++ xs

stands_in : {g : Gauge} {ts xs ys : List Tok} → Reaches g ts xs ys → Stands ts xs
stands_in (reaches c i) = let w = way c in record { pre = w.toks; split = w.split }

long_of : (program : Program) (toks : List Tok) (t : Tok) (more : List Tok) → ReadsProgram program (toks ++ t ∷ more) [] →
    Found (OuterProgram (toks ++ t ∷ more)) EXPRESSION_TOKENS more → IsLong toks t
long_of program toks t more r f =
    let s = stands_in (program_reaches f.outer) in
    let size = length-append toks (t ∷ more) in
    let parts = ap (λ (ts : List Tok). length ts) s.split ∙ length-append s.pre f.from in
    let apart : length toks ≡ length s.pre + EXPRESSION_TOKENS = omega (arith, size, parts, f.long) in
    record {
      more = more;
      program = program;
      reads = r;
      before = s.pre;
      from = f.from;
      rest = f.rest;
      outermost = f.outer;
      stands = s.split;
      counted = apart;
      inside = f.inside;
    }

deep_of : (program : Program) (toks : List Tok) (t : Tok) (more : List Tok) → ReadsProgram program (toks ++ t ∷ more) [] → IsCounted (gauge_after start_gauge toks).reach →
    At (OuterProgram (toks ++ t ∷ more)) (gauge_after start_gauge toks) t more →
    ((is_opening t.symbol && nat_le BRACKETS (gauge_after start_gauge toks).brackets) ≡ true) ⊎ (is_long (gauge_after start_gauge toks).brackets (gauge_after start_gauge toks).reach t.symbol ≡ true) →
    IsDeep toks t
deep_of program toks t more r k a (inl h) =
    let b = both_true _ _ h in
    let open_there = leb-true BRACKETS _ b.1 in
    inl (is_opening_so t.symbol b.0, subst (λ n. BRACKETS ≤ n) (brackets_after toks start_gauge) open_there)
deep_of program toks t more r k a (inr h) =
    inr (long_of program toks t more r (exactly _ _ (gauge_after start_gauge toks).reach t.symbol more h k (a.found h)))

-- where none before is over, what is over nests too deep
pub over_is_deep : (program : Program) (toks : List Tok) (t : Tok) (more : List Tok) → ReadsProgram program (toks ++ t ∷ more) [] → AllFit start_gauge toks →
    is_over (gauge_after start_gauge toks) t.symbol ≡ true → IsDeep toks t
unfolding is_over
over_is_deep program toks t more r f h =
    deep_of program toks t more r (after_counted f tt) (at_of (program_cover r) toks t more refl (omega arith)) (either_true _ _ h)

-- ---- the same of all tokens

fits_at : {g : Gauge} {ts : List Tok} → AllFit g ts → (toks : List Tok) (t : Tok) (more : List Tok) → ts ≡ toks ++ t ∷ more → is_over (gauge_after g toks) t.symbol ≡ false
fits_at all_fit [] t more e = absurd cc
fits_at all_fit (u ∷ toks) t more e = absurd cc
fits_at (one_fits {g} o f) [] t more e = subst (λ (t : Tok). is_over g t.symbol ≡ false) (same_head e) o
fits_at (one_fits {g} o f) (u ∷ toks) t more e =
    subst (λ (u : Tok). is_over (gauge_after (gauge_behind g u.symbol) toks) t.symbol ≡ false) (same_head e) (fits_at f toks t more (same_tail e))

not_true_too : {b : Bool} → b ≡ false → b ≡ true → ⊥
not_true_too h k = cc

-- so none nests too deep
pub fits_shallow : {toks : List Tok} → AllFit start_gauge toks → IsShallow toks
fits_shallow f before more t e d = not_true_too (fits_at f before t more e) (deep_is_over before t d)

-- ---- what was read

pub moved_fits : {a b : Ahead} {toks : List Tok} → Moved a toks b → AllFit a.gauge toks
unfolding rest_of
moved_fits still = all_fit
moved_fits (moved {a} {toks} p m) =
    one_fits p.fits (subst (λ (t : Tok). AllFit (gauge_behind a.gauge t.symbol) toks) p.is_next (moved_fits m))

pub moved_gauge : {a b : Ahead} {toks : List Tok} → Moved a toks b → b.gauge ≡ gauge_after a.gauge toks
unfolding rest_of
moved_gauge still = refl
moved_gauge (moved {a} {toks} p m) = moved_gauge m ∙ ap (λ (t : Tok). gauge_after (gauge_behind a.gauge t.symbol) toks) p.is_next

-- no token that was read nests too deep
pub read_shallow : {bytes : List ℕ} {b : Ahead} {toks : List Tok} → Moved (all_ahead bytes) toks b → IsShallow toks
read_shallow m = fits_shallow (moved_fits m)

-- the next token of a text nests too deep where the gauge says so
pub read_deep : {bytes : List ℕ} {b : Ahead} {toks : List Tok} (program : Program) (t : Tok) (more : List Tok) → Moved (all_ahead bytes) toks b →
    ReadsProgram program (toks ++ t ∷ more) [] → is_over b.gauge t.symbol ≡ true → IsDeep toks t
read_deep {toks} program t more m r h =
    over_is_deep program toks t more r (moved_fits m) (subst (λ g. is_over g t.symbol ≡ true) (moved_gauge m) h)
