-- What lies ahead of a source, from its fields.
use Rattle.std.proofs.Common.{◌≡◌, ℕ, suc, zero, ◌≤◌, Bool, false, List, ap, sym, subst, arith, nat_le}
use Rattle.std.specs.Prelude.{◌&&◌, ◌||◌}
use Rattle.std.proofs.lemmas.Bool.Decides.{nat_tests}
use Rattle.kt_law.specs.declared.limits.TheConstants.{BRACKETS}
use Rattle.kt_text.specs.Tokens.{next_token, stop_of}
use Rattle.kt_tokens.specs.declared.gauge.Gauge.{Gauge}
use Rattle.kt_tokens.specs.declared.tokens.Mark.TheVariants as T
use Rattle.kt_tokens.specs.declared.tokens.Symbol.{Symbol}
use Rattle.kt_tokens.specs.declared.tokens.Symbol.TheVariants as S
use Rattle.kt_tokens.specs.declared.tokens.Tok.{Tok}
use Rattle.kt_tokens.specs.Ahead.{Ahead, next_of, rest_of, tok_or_end}
use Rattle.kt_tokens.specs.Gauge.{gauge_behind, is_long, is_opening, is_over, open_behind}

abbrev pub ahead_at : List ℕ → ℕ → Gauge → Ahead
ahead_at bytes at gauge = record { bytes = bytes; at = at; gauge = gauge }

pub next_is : (bytes : List ℕ) (at : ℕ) (gauge : Gauge) (t : Tok) (a : Ahead) → ahead_at bytes at gauge ≡ a →
    t ≡ tok_or_end bytes (next_token bytes at) → t ≡ next_of a
unfolding next_of
next_is bytes at gauge t a e h = subst (λ (a : Ahead). t ≡ next_of a) e h

pub over_is : (bytes : List ℕ) (at : ℕ) (gauge : Gauge) (t : Tok) (a : Ahead) {b : Bool} → ahead_at bytes at gauge ≡ a → t ≡ next_of a →
    is_over gauge t.symbol ≡ b → is_over a.gauge (next_of a).symbol ≡ b
over_is bytes at gauge t a {b} e next over =
    subst (λ (t : Tok). is_over a.gauge t.symbol ≡ b) next (subst (λ (a : Ahead). is_over a.gauge t.symbol ≡ b) e over)

pub rest_is : (bytes : List ℕ) (at stop : ℕ) (gauge behind : Gauge) (t : Tok) (a : Ahead) → ahead_at bytes at gauge ≡ a →
    t ≡ next_of a → stop ≡ stop_of (next_token bytes at) at → behind ≡ gauge_behind gauge t.symbol →
    ahead_at bytes stop behind ≡ rest_of a
unfolding rest_of
rest_is bytes at stop gauge behind t a e next stops behinds =
    let same : gauge ≡ a.gauge = ap (λ (a : Ahead). a.gauge) e in
    let text : bytes ≡ a.bytes = ap (λ (a : Ahead). a.bytes) e in
    let place : at ≡ a.at = ap (λ (a : Ahead). a.at) e in
    cc (stops, behinds, next, same, text, place)

all_bounds : (n : ℕ) (over : Bool) → (nat_le BRACKETS n || over) ≡ false → suc n ≤ BRACKETS
all_bounds n over e = grind (arith, nat_tests)

less_bound : (n : ℕ) → n ≤ BRACKETS → open_behind n (S.Mark T.BraceClose) ≤ BRACKETS
less_bound zero h = h
less_bound (suc n) h = omega arith

bound_behind : (n : ℕ) (s : Symbol) (over : Bool) → (is_opening s && nat_le BRACKETS n || over) ≡ false → n ≤ BRACKETS → open_behind n s ≤ BRACKETS
bound_behind n (S.Mark T.BraceOpen) over e h = all_bounds n over e
bound_behind n (S.Mark T.ParenOpen) over e h = all_bounds n over e
bound_behind n (S.Mark T.SquareOpen) over e h = all_bounds n over e
bound_behind n (S.Mark T.BraceClose) over e h = less_bound n h
bound_behind n (S.Mark T.ParenClose) over e h = less_bound n h
bound_behind n (S.Mark T.SquareClose) over e h = less_bound n h
bound_behind n _ over e h = h

pub brackets_fit : (g behind : Gauge) (s : Symbol) → behind ≡ gauge_behind g s → is_over g s ≡ false → g.brackets ≤ BRACKETS → behind.brackets ≤ BRACKETS
unfolding is_over gauge_behind
brackets_fit g behind s e fits h = subst (λ (g : Gauge). g.brackets ≤ BRACKETS) (sym e) (bound_behind g.brackets s (is_long g.brackets g.reach s) fits h)
