-- Each token leaves less of a text.
use Rattle.std.proofs.Common.{◌≡◌, ℕ, ◌+◌, ◌-◌, ◌<◌, ◌≤◌, List, [], ◌∷◌, ◌++◌, length, drop, refl, ap, sym, subst, arith, Bool, Result, Ok, Err, inl, inr, slice_range}
use Rattle.std.proofs.lemmas.Bool.{cases_lt}
use Rattle.std.proofs.lemmas.List.{drop_all}
use Rattle.kt_law.specs.declared.places.Refusal.{Refusal}
use Rattle.kt_text.specs.declared.tokens.Token.{Token}
use Rattle.kt_text.specs.declared.tokens.TokenKind.TheVariants as K
use Rattle.kt_text.specs.Gaps.{start_of}
use Rattle.kt_text.specs.Lexemes.{lexeme_of}
use Rattle.kt_text.specs.Places.{place_of}
use Rattle.kt_text.specs.Tokens.{next_token, stop_of, token_at}
use Rattle.kt_text.proofs.Fits.{next_token-behind}
use Rattle.kt_tokens.specs.declared.tokens.Symbol.{Symbol}
use Rattle.kt_tokens.specs.declared.tokens.Symbol.TheVariants as S
use Rattle.kt_tokens.specs.declared.tokens.Tok.{Tok}
use Rattle.kt_tokens.specs.Ahead.{Ahead, Moved, still, moved, next_of, rest_of, tok_or_end}
use Rattle.kt_law.specs.declared.places.Place.{Place}
use Rattle.kt_tokens.specs.declared.tokens.Mark.{Mark}
use Rattle.kt_tokens.specs.Reading.{any, Reads, Sign, AName}
use Rattle.kt_tokens.specs.Words.{symbol_of}
use Rattle.kt_tokens.proofs.Moves.{Advanced}

-- the bytes behind the last token that was read
abbrev pub left : Ahead → ℕ
left a = length a.bytes - a.at

-- a token that is not the end of the text
record Solid (r : Result Token Refusal) : Type 0 where
  token : Token
  is : r ≡ Ok token
  kind : token.kind ≡ K.End → ⊥

solid : (bytes : List ℕ) (r : Result Token Refusal) → ((tok_or_end bytes r).symbol ≡ S.End → ⊥) → Solid r
solid bytes (Ok token) h = record { token = token; is = refl; kind = λ e. h (ap (λ k. symbol_of k (slice_range bytes token.start token.stop)) e) }
solid bytes (Err refusal) h = absurd (h refl)

past_end : (bytes : List ℕ) (at : ℕ) (token : Token) → length bytes ≤ at → next_token bytes at ≡ Ok token → token.kind ≡ K.End
past_end bytes at token h e =
    let none : drop (start_of bytes at) bytes ≡ [] = drop_all (start_of bytes at) bytes (omega arith) in
    let f : token_at bytes (start_of bytes at) (lexeme_of []) ≡ Ok token = subst (λ ts. token_at bytes (start_of bytes at) (lexeme_of ts) ≡ Ok token) none e in
    let g : record { kind = K.End; place = place_of bytes (start_of bytes at); start = start_of bytes at; stop = start_of bytes at + 0 } ≡ token = cc in
    ap (λ (t : Token). t.kind) (sym g)

solid_shrinks : (bytes : List ℕ) (at : ℕ) → Solid (next_token bytes at) → length bytes - stop_of (next_token bytes at) at < length bytes - at
solid_shrinks bytes at s =
    elim (cases_lt at (length bytes)) [
      | inl lt ↦
          let b = next_token-behind bytes at s.token (omega arith) s.is in
          let some = b.filled s.kind in
          subst (λ r. length bytes - stop_of r at < length bytes - at) (sym s.is) (omega (arith, b.behind, b.within, some, lt))
      | inr le ↦ absurd (s.kind (past_end bytes at s.token le s.is))
    ]

pub left_falls : (a : Ahead) → ((next_of a).symbol ≡ S.End → ⊥) → left (rest_of a) < left a
unfolding next_of rest_of
left_falls a h = solid_shrinks a.bytes a.at (solid a.bytes (next_token a.bytes a.at) h)

pub advanced_falls : {a b : Ahead} → Advanced a b → left b < left a
advanced_falls {a = a} p = subst (λ x. left x < left a) (sym p.behind) (left_falls a p.is_token)

pub moved_left : {a b : Ahead} {toks : List Tok} → Moved a toks b → left b + length toks ≤ left a
moved_left still = omega arith
moved_left {a = a} {b = b} (moved {t = t} {toks = toks} p m) =
    let f : left (rest_of a) < left a = left_falls a (subst (λ t. t.symbol ≡ S.End → ⊥) (sym p.is_next) p.is_token) in
    let g : left b + length toks ≤ left (rest_of a) = moved_left m in
    omega arith

-- what was read leaves no more than before
pub reads_left : {A : Type 0} {X : A → List Tok → List Tok → Type 0} {may : Symbol → Bool} {old new : Ahead} {a : A} → Reads X may old new a → left new ≤ left old
reads_left r = let f = moved_left r.moved in omega arith

some_toks : (toks : List Tok) → (toks ≡ [] → ⊥) → 0 < length toks
some_toks [] h = absurd (h refl)
some_toks (t ∷ toks) h = omega arith

-- and less, if it has any tokens
pub reads_falls : {A : Type 0} {X : A → List Tok → List Tok → Type 0} {may : Symbol → Bool} {old new : Ahead} {a : A} → Reads X may old new a →
    (X a [] [] → ⊥) → left new < left old
reads_falls {X = X} {a = a} r none =
    let f = moved_left r.moved in
    let g = some_toks r.toks (λ e. none (subst (λ ts. X a (ts ++ []) []) e (r.reads []))) in
    omega (arith, f, g)

no_sign : {m : Mark} {p : Place} → Sign m p [] [] → ⊥
no_sign s = elim s [ ]

pub sign_falls : {m : Mark} {p : Place} {old new : Ahead} → Reads (Sign m) any old new p → left new < left old
sign_falls r = reads_falls r no_sign

no_name : {n : List ℕ × Place} → AName n [] [] → ⊥
no_name s = elim s [ ]

pub name_falls : {n : List ℕ × Place} {old new : Ahead} → Reads AName any old new n → left new < left old
name_falls r = reads_falls r no_name
