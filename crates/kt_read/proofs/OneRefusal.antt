-- No bytes are refused in two ways.
use Rattle.std.proofs.Common.{◌≡◌, ℕ, List, [], ◌∷◌, ◌++◌, Result, Ok, Err, refl, ap, sym, subst, ◌∙◌, append_assoc}
use Rattle.std.proofs.lemmas.List.{map-append}
use Rattle.kt_law.specs.declared.places.P.TheVariants.{P4, P14}
use Rattle.kt_law.specs.declared.places.Refusal.{Refusal}
use Rattle.kt_text.specs.declared.tokens.Token.{Token}
use Rattle.kt_text.specs.Tokens.{Lexes, next_token}
use Rattle.kt_tokens.specs.declared.tokens.Tok.{Tok}
use Rattle.kt_tokens.specs.Words.{tok_of, toks_of}
use Rattle.kt_read.specs.Jobs.{IsPrefix, IsDeep, GoesOn, IsUnread, malformed, unexpected, too_deep}
use Rattle.kt_read.specs.Programs.{ReadsProgram}
use Rattle.kt_read.proofs.Fronts.{at_front}
use Rattle.kt_read.proofs.OneText.{one_answer}

-- why the reader goes no further than `at`
data Because (bytes : List ℕ) (tokens : List Token) (at : ℕ) : Refusal → Type 0 where
  bad : {refusal : Refusal} → next_token bytes at ≡ Err refusal → Because bytes tokens at refusal
  none : {token : Token} → next_token bytes at ≡ Ok token → (IsPrefix (toks_of bytes tokens ++ tok_of bytes token ∷ []) → ⊥) →
      Because bytes tokens at (record { code = P4; place = token.place })
  deep : {token : Token} → next_token bytes at ≡ Ok token → IsPrefix (toks_of bytes tokens ++ tok_of bytes token ∷ []) →
      IsDeep (toks_of bytes tokens) (tok_of bytes token) → Because bytes tokens at (record { code = P14; place = token.place })

record Halt (bytes : List ℕ) (refusal : Refusal) : Type 0 where
  tokens : List Token
  at : ℕ
  goes : GoesOn bytes tokens at
  because : Because bytes tokens at refusal

halt : {bytes : List ℕ} {refusal : Refusal} → IsUnread bytes refusal → Halt bytes refusal
halt (malformed g h) = record { tokens = _; at = _; goes = g; because = bad h }
halt (unexpected g h no_text) = record { tokens = _; at = _; goes = g; because = none h no_text }
halt (too_deep g h prefix is_deep) = record { tokens = _; at = _; goes = g; because = deep h prefix is_deep }

no_error : {answer : Result Token Refusal} {t : Token} {refusal : Refusal} → answer ≡ Ok t → answer ≡ Err refusal → ⊥
no_error h k = cc

one_error : {answer : Result Token Refusal} {r s : Refusal} → answer ≡ Err r → answer ≡ Err s → r ≡ s
one_error h k = cc

-- of two lists of tokens of the same bytes one goes on where the other ends, or they are the same
data Parts (bytes : List ℕ) (ts us : List Token) (at bt : ℕ) : Type 0 where
  same : ts ≡ us → at ≡ bt → Parts bytes ts us at bt
  first_ends : (t : Token) (more : List Token) → us ≡ ts ++ t ∷ more → next_token bytes at ≡ Ok t → Parts bytes ts us at bt
  second_ends : (t : Token) (more : List Token) → ts ≡ us ++ t ∷ more → next_token bytes bt ≡ Ok t → Parts bytes ts us at bt

parts_behind : {bytes : List ℕ} {ts us : List Token} {at bt : ℕ} (t : Token) → Parts bytes ts us at bt → Parts bytes (t ∷ ts) (t ∷ us) at bt
parts_behind t (same is at) = same (ap (λ ts. t ∷ ts) is) at
parts_behind t (first_ends u more is next) = first_ends u more (ap (λ us. t ∷ us) is) next
parts_behind t (second_ends u more is next) = second_ends u more (ap (λ ts. t ∷ ts) is) next

parts : (bytes : List ℕ) (at bt : ℕ) (ts us : List Token) (now : ℕ) → Lexes bytes now ts at → Lexes bytes now us bt → Parts bytes ts us at bt
parts bytes at bt [] [] now h k = same refl (sym h ∙ k)
parts bytes at bt [] (u ∷ us) now h k = first_ends u us refl (subst (λ now. next_token bytes now ≡ Ok u) h k.0)
parts bytes at bt (t ∷ ts) [] now h k = second_ends t ts refl (subst (λ now. next_token bytes now ≡ Ok t) k h.0)
parts bytes at bt (t ∷ ts) (u ∷ us) now h k =
    let is = one_answer h.0 k.0 in
    subst (λ (u : Token). Parts bytes (t ∷ ts) (u ∷ us) at bt) is
    (parts_behind t (parts bytes at bt ts us t.stop h.1 (subst (λ (u : Token). Lexes bytes u.stop us bt) (sym is) k.1)))

toks_are : (bytes : List ℕ) (all ts more : List Token) (t : Token) → all ≡ ts ++ t ∷ more → toks_of bytes all ≡ toks_of bytes ts ++ tok_of bytes t ∷ toks_of bytes more
toks_are bytes all ts more t is = ap (toks_of bytes) is ∙ map-append (tok_of bytes) ts (t ∷ more)

begins : (toks more : List Tok) (t : Tok) → IsPrefix (toks ++ t ∷ more) → IsPrefix (toks ++ t ∷ [])
begins toks more t p = record {
  program = p.program;
  more = more ++ p.more;
  reads = at_front ReadsProgram (append_assoc toks (t ∷ []) (more ++ p.more) ∙ sym (append_assoc toks (t ∷ more) p.more)) p.reads;
}

-- the reader does not go on where it stops
stops : (bytes : List ℕ) (at bt : ℕ) (ts us more : List Token) (t : Token) (refusal : Refusal) → Because bytes ts at refusal → us ≡ ts ++ t ∷ more →
    next_token bytes at ≡ Ok t → GoesOn bytes us bt → ⊥
stops bytes at bt ts us more t refusal (bad h) is next g = no_error next h
stops bytes at bt ts us more t refusal (none {token} h no_text) is next g =
    let are = subst (λ (t : Token). toks_of bytes us ≡ toks_of bytes ts ++ tok_of bytes t ∷ toks_of bytes more) (one_answer next h) (toks_are bytes us ts more t is) in
    no_text (begins (toks_of bytes ts) (toks_of bytes more) (tok_of bytes token) (subst IsPrefix are g.prefix))
stops bytes at bt ts us more t refusal (deep {token} h prefix is_deep) is next g =
    let are = subst (λ (t : Token). toks_of bytes us ≡ toks_of bytes ts ++ tok_of bytes t ∷ toks_of bytes more) (one_answer next h) (toks_are bytes us ts more t is) in
    g.shallow (toks_of bytes ts) (toks_of bytes more) (tok_of bytes token) are is_deep

one_place : {answer : Result Token Refusal} {t u : Token} → answer ≡ Ok t → answer ≡ Ok u → t.place ≡ u.place
one_place h k = ap (λ (t : Token). t.place) (one_answer h k)

one_cause : (bytes : List ℕ) (at : ℕ) (ts : List Token) (r s : Refusal) → Because bytes ts at r → Because bytes ts at s → r ≡ s
one_cause bytes at ts r s (bad h) (bad k) = one_error h k
one_cause bytes at ts r s (bad h) (none k no_text) = absurd (no_error k h)
one_cause bytes at ts r s (bad h) (deep k prefix is_deep) = absurd (no_error k h)
one_cause bytes at ts r s (none h no_text) (bad k) = absurd (no_error h k)
one_cause bytes at ts r s (none h no_text) (none k other) = ap (λ place. record { code = P4; place = place }) (one_place h k)
one_cause bytes at ts r s (none h no_text) (deep k prefix is_deep) =
    absurd (no_text (subst (λ (t : Token). IsPrefix (toks_of bytes ts ++ tok_of bytes t ∷ [])) (one_answer k h) prefix))
one_cause bytes at ts r s (deep h prefix is_deep) (bad k) = absurd (no_error h k)
one_cause bytes at ts r s (deep h prefix is_deep) (none k no_text) =
    absurd (no_text (subst (λ (t : Token). IsPrefix (toks_of bytes ts ++ tok_of bytes t ∷ [])) (one_answer h k) prefix))
one_cause bytes at ts r s (deep h prefix is_deep) (deep k other also) = ap (λ place. record { code = P14; place = place }) (one_place h k)

one_halt : (bytes : List ℕ) (r s : Refusal) (a : Halt bytes r) (b : Halt bytes s) → Parts bytes a.tokens b.tokens a.at b.at → r ≡ s
one_halt bytes r s a b (same is at) =
    one_cause bytes a.at a.tokens r s a.because
    (subst (λ at. Because bytes a.tokens at s) (sym at) (subst (λ ts. Because bytes ts b.at s) (sym is) b.because))
one_halt bytes r s a b (first_ends t more is next) = absurd (stops bytes a.at b.at a.tokens b.tokens more t r a.because is next b.goes)
one_halt bytes r s a b (second_ends t more is next) = absurd (stops bytes b.at a.at b.tokens a.tokens more t s b.because is next a.goes)

pub one_refusal : (bytes : List ℕ) (r s : Refusal) → IsUnread bytes r → IsUnread bytes s → r ≡ s
one_refusal bytes r s x y =
    let a = halt x in
    let b = halt y in
    one_halt bytes r s a b (parts bytes a.at b.at a.tokens b.tokens 0 a.goes.lexed b.goes.lexed)
