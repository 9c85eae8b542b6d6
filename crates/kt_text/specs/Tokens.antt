-- The tokens of a text.
use Rattle.std.specs.Prelude.{◌≡◌, ℕ, ◌+◌, List, [], ◌∷◌, drop, Result, Ok, Err}
use Rattle.kt_law.specs.declared.places.P.{P}
use Rattle.kt_law.specs.declared.places.Refusal.{Refusal}
use Rattle.kt_text.specs.declared.tokens.Token.{Token}
use Rattle.kt_text.specs.declared.tokens.TokenKind.{TokenKind}
use Rattle.kt_text.specs.Gaps.{start_of}
use Rattle.kt_text.specs.Lexemes.{lexeme_of}
use Rattle.kt_text.specs.Places.{place_of}

-- what was found at the front of the text from `start` on, with its place
abbrev pub token_at : List ℕ → ℕ → Result (TokenKind × ℕ) P → Result Token Refusal
token_at text start (Ok found) = Ok (record { kind = found.0; place = place_of text start; start = start; stop = start + found.1 })
token_at text start (Err code) = Err (record { code = code; place = place_of text start })

-- the first token behind `at`, or its refusal
abbrev pub next_token : List ℕ → ℕ → Result Token Refusal
next_token text at = token_at text (start_of text at) (lexeme_of (drop (start_of text at) text))

-- where the text goes on behind such an answer
abbrev pub stop_of : Result Token Refusal → ℕ → ℕ
stop_of (Ok token) at = token.stop
stop_of (Err refusal) at = at

-- these tokens come one after another behind `at`, and the last of them ends at `stop`
abbrev pub Lexes : List ℕ → ℕ → List Token → ℕ → Type 0
Lexes text at [] stop = at ≡ stop
Lexes text at (token ∷ tokens) stop = (next_token text at ≡ Ok token) × Lexes text token.stop tokens stop
