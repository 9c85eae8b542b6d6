-- From one place of a text to another.
use Rattle.std.proofs.Common.{◌≡◌, false, List, [], ◌∷◌, ◌++◌, refl, ap, sym, subst}
use Rattle.kt_tokens.specs.declared.tokens.Symbol.TheVariants as S
use Rattle.kt_tokens.specs.declared.tokens.Tok.{Tok}
use Rattle.kt_tokens.specs.Ahead.{Ahead, Moved, still, moved, next_of, rest_of}
use Rattle.kt_tokens.specs.Gauge.{is_over}

-- the next token was read
pub record Advanced (cur new : Ahead) : Type 0 where
  pub behind : new ≡ rest_of cur
  pub is_token : (next_of cur).symbol ≡ S.End → ⊥
  pub fits : is_over cur.gauge (next_of cur).symbol ≡ false

-- the tokens that were read, and a further one, begin with the token that was next before
pub heads : (cur new : Ahead) (toks more : List Tok) → Moved cur toks new → (tail : List Tok) × (toks ++ next_of new ∷ more ≡ next_of cur ∷ tail)
heads cur new toks more still = (more, refl)
heads cur new toks more (moved {toks = ts} p m) = (ts ++ next_of new ∷ more, ap (λ u. u ∷ (ts ++ next_of new ∷ more)) (sym p.is_next))

pub first_is : {a b : Ahead} {toks : List Tok} → Moved a toks b → (toks ≡ [] → ⊥) → (ts : List Tok) × (toks ≡ next_of a ∷ ts)
first_is still h = absurd (h refl)
first_is (moved {toks = ts} p m) h = (ts, ap (λ t. t ∷ ts) (sym p.is_next))

pub moved_all : {a b c : Ahead} {xs ys : List Tok} → Moved a xs b → Moved b ys c → Moved a (xs ++ ys) c
moved_all still q = q
moved_all (moved p m) q = moved p (moved_all m q)

pub moved_one : {a b : Ahead} → Advanced a b → Moved a (next_of a ∷ []) b
moved_one {a = a} p = subst (λ x. Moved a (next_of a ∷ []) x) (sym p.behind) (moved (record { is_next = refl; is_token = p.is_token; fits = p.fits }) still)
