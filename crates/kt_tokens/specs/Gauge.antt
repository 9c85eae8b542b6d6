-- How deep a text nests, counted over its tokens alone: how many brackets are open, and how many tokens were read of an argument
-- or another outermost expression. Such a one ends at the first sign, outside its own brackets, that no expression holds there.
use Rattle.std.specs.Prelude.{ℕ, zero, suc, ◌+◌, List, [], ◌∷◌, Bool, true, false, ◌&&◌, ◌||◌, not, nat_eq, nat_le, if◌then◌else◌}
use Rattle.kt_law.specs.declared.limits.TheConstants.{BRACKETS, EXPRESSION_TOKENS}
use Rattle.kt_tokens.specs.declared.gauge.Gauge.{Gauge}
use Rattle.kt_tokens.specs.declared.gauge.Reach.{Reach}
use Rattle.kt_tokens.specs.declared.gauge.Reach.TheVariants.{Apart, Forking, Within}
use Rattle.kt_tokens.specs.declared.gauge.Span.{Span}
use Rattle.kt_tokens.specs.declared.tokens.Mark.TheVariants as T
use Rattle.kt_tokens.specs.declared.tokens.Symbol.{Symbol}
use Rattle.kt_tokens.specs.declared.tokens.Symbol.TheVariants as S
use Rattle.kt_tokens.specs.declared.tokens.Tok.{Tok}

abbrev pub less_one : ℕ → ℕ
less_one zero = zero
less_one (suc n) = n

-- how many brackets are open behind a token
abbrev pub open_behind : ℕ → Symbol → ℕ
open_behind n (S.Mark T.BraceOpen) = suc n
open_behind n (S.Mark T.ParenOpen) = suc n
open_behind n (S.Mark T.SquareOpen) = suc n
open_behind n (S.Mark T.BraceClose) = less_one n
open_behind n (S.Mark T.ParenClose) = less_one n
open_behind n (S.Mark T.SquareClose) = less_one n
open_behind n _ = n

abbrev pub start_gauge : Gauge
start_gauge = record { brackets = 0; reach = Apart }

abbrev pub is_opening : Symbol → Bool
is_opening (S.Mark T.BraceOpen) = true
is_opening (S.Mark T.ParenOpen) = true
is_opening (S.Mark T.SquareOpen) = true
is_opening _ = false

-- a sign that no expression holds outside its own brackets
abbrev pub is_end_sign : Symbol → Bool
is_end_sign (S.Mark T.BraceOpen) = true
is_end_sign (S.Mark T.ParenClose) = true
is_end_sign (S.Mark T.SquareClose) = true
is_end_sign (S.Mark T.Comma) = true
is_end_sign (S.Mark T.Semicolon) = true
is_end_sign (S.Mark T.Dots) = true
is_end_sign _ = false

abbrev pub ends_span : ℕ → Span → Symbol → Bool
ends_span brackets span s = nat_eq brackets span.base && is_end_sign s

-- an expression begins, and so many brackets are open
abbrev pub begun : Bool → ℕ → Reach
begun in_fork brackets = Within (record { in_fork = in_fork; base = brackets; count = 0 })

-- behind a token outside expressions, before which so many brackets were open
abbrev pub reach_apart : ℕ → Symbol → Reach
reach_apart n (S.Mark T.Becomes) = begun false n
reach_apart n (S.Mark T.SquareOpen) = begun false (suc n)
reach_apart n (S.Mark T.If) = begun false n
reach_apart n (S.Mark T.In) = begun false n
reach_apart n (S.Mark T.Fork) = Forking
reach_apart n _ = Apart

-- between the word `fork` and its bracket
abbrev pub reach_forking : ℕ → Symbol → Reach
reach_forking n (S.Mark T.ParenOpen) = begun true (suc n)
reach_forking n _ = Forking

-- behind the sign that ends an expression another one begins, or none
abbrev pub reach_ended : Span → Symbol → Reach
reach_ended span (S.Mark T.Comma) = begun span.in_fork span.base
reach_ended span (S.Mark T.Dots) = begun span.in_fork span.base
reach_ended span (S.Mark T.Semicolon) = if span.in_fork then begun true span.base else Apart
reach_ended span _ = Apart

abbrev pub longer : Span → Reach
longer span = Within (record { in_fork = span.in_fork; base = span.base; count = span.count + 1 })

abbrev pub reach_behind : ℕ → Reach → Symbol → Reach
reach_behind n Apart s = reach_apart n s
reach_behind n Forking s = reach_forking n s
reach_behind n (Within span) s = if ends_span n span s then reach_ended span s else longer span

unfoldable pub gauge_behind : Gauge → Symbol → Gauge
gauge_behind g s = record { brackets = open_behind g.brackets s; reach = reach_behind g.brackets g.reach s }

-- one token too many of an expression
abbrev pub is_long : ℕ → Reach → Symbol → Bool
is_long n (Within span) s = not (ends_span n span s) && nat_le EXPRESSION_TOKENS span.count
is_long n _ s = false

-- one bracket or one token of an expression too many
unfoldable pub is_over : Gauge → Symbol → Bool
is_over g s = is_opening s && nat_le BRACKETS g.brackets || is_long g.brackets g.reach s

-- behind these tokens
abbrev pub gauge_after : Gauge → List Tok → Gauge
gauge_after g [] = g
gauge_after g (t ∷ ts) = gauge_after (gauge_behind g t.symbol) ts
