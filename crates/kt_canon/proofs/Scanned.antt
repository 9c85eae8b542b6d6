-- A text as tokens that stand one after another in it, with blanks between them.
use Rattle.kt_canon.proofs.Regrouped.{take_front}
use Rattle.std.proofs.Common.{◌≡◌, ℕ, ◌+◌, ◌-◌, true, false, List, [], ◌∷◌, ◌++◌, length, take, drop, refl, ap, sym, subst, ◌∙◌, append_assoc, arith, Ok}
use Rattle.std.proofs.lemmas.List.{length-append}
use Rattle.std.proofs.Math.Seq.{drop-append_seam}
use Rattle.kt_law.specs.declared.places.Place.{Place}
use Rattle.kt_text.specs.declared.tokens.Token.{Token}
use Rattle.kt_text.specs.declared.tokens.TokenKind.{TokenKind}
use Rattle.kt_text.specs.Gaps.{BeginsNoGap, gap, goes_on, is_gap, start_of}
use Rattle.kt_text.specs.Lexemes.{lexeme_of}
use Rattle.kt_text.specs.Places.{place_of}
use Rattle.kt_text.specs.Tokens.{Lexes, next_token, token_at}
use Rattle.kt_tokens.specs.declared.tokens.Symbol.{Symbol}
use Rattle.kt_tokens.specs.declared.tokens.Tok.{Tok}
use Rattle.kt_tokens.specs.Words.{symbol_of, tok_of, toks_of}

-- the place where such an end of the bytes begins
abbrev pub where_at : List ℕ → List ℕ → Place
where_at bytes text = place_of bytes (length bytes - length text)

-- the text, an end of the bytes, is these tokens and blanks between them, and then `rest`
pub data Scans (bytes : List ℕ) : List ℕ → List Tok → List ℕ → Type 0 where
  done : {text : List ℕ} → Scans bytes text [] text
  blank : {b : ℕ} {text rest : List ℕ} {t : Tok} {ts : List Tok} →
      is_gap false b ≡ true → goes_on false b ≡ false → Scans bytes text (t ∷ ts) rest → Scans bytes (b ∷ text) (t ∷ ts) rest
  token : (kind : TokenKind) (lexeme : List ℕ) (symbol : Symbol) (text : List ℕ) {rest : List ℕ} {ts : List Tok} →
      BeginsNoGap (lexeme ++ text) → lexeme_of (lexeme ++ text) ≡ Ok (kind, length lexeme) → symbol_of kind lexeme ≡ symbol →
      Scans bytes text ts rest → Scans bytes (lexeme ++ text) (record { symbol = symbol; place = where_at bytes (lexeme ++ text) } ∷ ts) rest

-- the tokens that a lexer finds from `at` on
pub record Lexed (bytes : List ℕ) (at : ℕ) (toks : List Tok) (rest : List ℕ) : Type 0 where
  pub tokens : List Token
  pub stop : ℕ
  pub lexed : Lexes bytes at tokens stop
  pub are : toks_of bytes tokens ≡ toks
  pub left : stop + length rest ≡ length bytes

same_answer : (bytes : List ℕ) (at now : ℕ) → start_of bytes at ≡ start_of bytes now → next_token bytes at ≡ next_token bytes now
same_answer bytes at now e = ap (λ start. token_at bytes start (lexeme_of (drop start bytes))) e

moved : (bytes : List ℕ) (at now stop : ℕ) (tokens : List Token) (t : Tok) (ts : List Tok) → next_token bytes at ≡ next_token bytes now →
    toks_of bytes tokens ≡ t ∷ ts → Lexes bytes now tokens stop → Lexes bytes at tokens stop
moved bytes at now stop [] t ts e are lexed = absurd cc
moved bytes at now stop (next ∷ tokens) t ts e are lexed = (e ∙ lexed.0, lexed.1)

drop_front : (bytes front text : List ℕ) → bytes ≡ front ++ text → drop (length front) bytes ≡ text
drop_front bytes front text is = ap (λ b. drop (length front) b) is ∙ drop-append_seam front text

gap_of_blank : (b : ℕ) (text : List ℕ) → is_gap false b ≡ true → goes_on false b ≡ false → gap false (b ∷ text) ≡ gap false text + 1
gap_of_blank b text g o = rw (g, o) refl

no_gap : (text : List ℕ) → BeginsNoGap text → gap false text ≡ 0
no_gap [] h = refl
no_gap (b ∷ text) h = rw h refl

start_behind : (bytes front text : List ℕ) (b : ℕ) → bytes ≡ front ++ b ∷ text → bytes ≡ (front ++ b ∷ []) ++ text → is_gap false b ≡ true → goes_on false b ≡ false →
    start_of bytes (length front) ≡ start_of bytes (length (front ++ b ∷ []))
start_behind bytes front text b is as_is g o =
    rw (drop_front bytes front (b ∷ text) is, drop_front bytes (front ++ b ∷ []) text as_is) (omega (arith, gap_of_blank b text g o, length-append front (b ∷ [])))

start_here : (bytes front text : List ℕ) → bytes ≡ front ++ text → BeginsNoGap text → start_of bytes (length front) ≡ length front
start_here bytes front text is h = rw (drop_front bytes front text is, no_gap text h) (omega arith)

found_token : (bytes front lexeme text : List ℕ) (kind : TokenKind) → bytes ≡ front ++ (lexeme ++ text) → BeginsNoGap (lexeme ++ text) →
    lexeme_of (lexeme ++ text) ≡ Ok (kind, length lexeme) →
    next_token bytes (length front) ≡ Ok (record { kind = kind; place = place_of bytes (length front); start = length front; stop = length front + length lexeme })
found_token bytes front lexeme text kind is h found =
    ap (λ start. token_at bytes start (lexeme_of (drop start bytes))) (start_here bytes front (lexeme ++ text) is h)
    ∙ ap (λ text. token_at bytes (length front) (lexeme_of text)) (drop_front bytes front (lexeme ++ text) is)
    ∙ ap (λ found. token_at bytes (length front) found) found

seen_token : (bytes front lexeme text : List ℕ) (kind : TokenKind) (symbol : Symbol) → bytes ≡ front ++ (lexeme ++ text) → symbol_of kind lexeme ≡ symbol →
    tok_of bytes (record { kind = kind; place = place_of bytes (length front); start = length front; stop = length front + length lexeme })
    ≡ record { symbol = symbol; place = where_at bytes (lexeme ++ text) }
seen_token bytes front lexeme text kind symbol is h =
    let size : (length front + length lexeme) - length front ≡ length lexeme = omega arith in
    let all : length bytes ≡ length front + length (lexeme ++ text) = ap (λ b. length b) is ∙ length-append front (lexeme ++ text) in
    let at : length front ≡ length bytes - length (lexeme ++ text) = omega (arith, all) in
    let own : take ((length front + length lexeme) - length front) (drop (length front) bytes) ≡ lexeme =
    rw (size, drop_front bytes front (lexeme ++ text) is) (take_front lexeme text) in
    let symbol_is : symbol_of kind (take ((length front + length lexeme) - length front) (drop (length front) bytes)) ≡ symbol = ap (symbol_of kind) own ∙ h in
    let place_is : place_of bytes (length front) ≡ where_at bytes (lexeme ++ text) = ap (place_of bytes) at in
    λ i. record { symbol = symbol_is i; place = place_is i }

pub lexes : (bytes front text rest : List ℕ) (toks : List Tok) → bytes ≡ front ++ text → Scans bytes text toks rest → Lexed bytes (length front) toks rest
lexes bytes front text rest toks is done = record {
  tokens = [];
  stop = length front;
  lexed = refl;
  are = refl;
  left = sym (ap (λ b. length b) is ∙ length-append front text);
}
lexes bytes front text rest toks is (blank {b} {text = inner} {t} {ts} g o s) =
    let as_is : bytes ≡ (front ++ b ∷ []) ++ inner = is ∙ sym (append_assoc front (b ∷ []) inner) in
    let l = lexes bytes (front ++ b ∷ []) inner rest (t ∷ ts) as_is s in
    let same = same_answer bytes (length front) (length (front ++ b ∷ [])) (start_behind bytes front inner b is as_is g o) in
    record {
      tokens = l.tokens;
      stop = l.stop;
      lexed = moved bytes (length front) (length (front ++ b ∷ [])) l.stop l.tokens t ts same l.are l.lexed;
      are = l.are;
      left = l.left;
    }
lexes bytes front text rest toks is (token kind lexeme symbol inner {ts} h found symbol_is s) =
    let as_is : bytes ≡ (front ++ lexeme) ++ inner = is ∙ sym (append_assoc front lexeme inner) in
    let l = lexes bytes (front ++ lexeme) inner rest ts as_is s in
    record {
      tokens = record { kind = kind; place = place_of bytes (length front); start = length front; stop = length front + length lexeme } ∷ l.tokens;
      stop = l.stop;
      lexed = (found_token bytes front lexeme inner kind is h found, subst (λ i. Lexes bytes i l.tokens l.stop) (length-append front lexeme) l.lexed);
      are = λ i. seen_token bytes front lexeme inner kind symbol is symbol_is i ∷ l.are i;
      left = l.left;
    }
