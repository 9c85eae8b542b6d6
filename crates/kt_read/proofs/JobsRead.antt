-- No bytes are a job and are refused too.
use Rattle.std.proofs.Common.{◌≡◌, ℕ, List, [], ◌∷◌, ◌++◌, Result, Ok, Err, refl, ap, sym, subst, ◌∙◌, append_assoc}
use Rattle.std.proofs.lemmas.List.{append-nil, map-append}
use Rattle.kt_law.specs.declared.places.Refusal.{Refusal}
use Rattle.kt_prog.specs.declared.programs.Program.{Program}
use Rattle.kt_text.specs.declared.tokens.Token.{Token}
use Rattle.kt_text.specs.Tokens.{Lexes, next_token}
use Rattle.kt_tokens.specs.declared.tokens.Tok.{Tok}
use Rattle.kt_tokens.specs.Words.{tok_of, toks_of}
use Rattle.kt_read.specs.Jobs.{IsJob, GoesOn, IsUnread, malformed, unexpected, too_deep}
use Rattle.kt_read.specs.Programs.{ReadsProgram}
use Rattle.kt_read.proofs.Fronts.{at_front}
use Rattle.kt_read.proofs.MoreTokens.{program_more}
use Rattle.kt_read.proofs.OneProgram.{program_is}
use Rattle.kt_read.proofs.OneText.{one_answer, no_toks}

-- of two lists of tokens of the same bytes `all` goes on where `ts` ends, or `ts` goes on
data Met (bytes : List ℕ) (all ts : List Token) (at stop : ℕ) : Type 0 where
  goes_on : (more : List Token) → all ≡ ts ++ more → Lexes bytes at more stop → Met bytes all ts at stop
  ends : (more : List Token) → ts ≡ all ++ more → Met bytes all ts at stop

met_behind : (bytes : List ℕ) (all ts : List Token) (at stop : ℕ) (t : Token) → Met bytes all ts at stop → Met bytes (t ∷ all) (t ∷ ts) at stop
met_behind bytes all ts at stop t (goes_on more is lexed) = goes_on more (ap (λ (ts : List Token). t ∷ ts) is) lexed
met_behind bytes all ts at stop t (ends more is) = ends more (ap (λ (ts : List Token). t ∷ ts) is)

met : (bytes : List ℕ) (at stop : ℕ) (all ts : List Token) (now : ℕ) → Lexes bytes now all stop → Lexes bytes now ts at → Met bytes all ts at stop
met bytes at stop all [] now h k = goes_on all refl (subst (λ now. Lexes bytes now all stop) k h)
met bytes at stop [] (t ∷ ts) now h k = ends (t ∷ ts) refl
met bytes at stop (u ∷ all) (t ∷ ts) now h k =
    let same = one_answer h.0 k.0 in
    subst (λ (u : Token). Met bytes (u ∷ all) (t ∷ ts) at stop) (sym same)
    (met_behind bytes all ts at stop t (met bytes at stop all ts t.stop (subst (λ (u : Token). Lexes bytes u.stop all stop) same h.1) k.1))

-- nothing is read behind a program
nothing_behind : (p q : Program) (ts more : List Tok) → ReadsProgram p ts [] → ReadsProgram q (ts ++ more) [] → more ≡ []
nothing_behind p q ts more r s = (program_is (program_more more r) s).1

no_front : (ts us : List Tok) → ts ++ us ≡ [] → ts ≡ []
no_front [] us h = refl
no_front (t ∷ ts) us h = absurd cc

-- the next token behind those that the reader has, and the job's tokens behind it
record Next (bytes : List ℕ) (all ts : List Token) (at : ℕ) : Type 0 where
  token : Token
  more : List Tok
  next : next_token bytes at ≡ Ok token
  are : toks_of bytes all ≡ toks_of bytes ts ++ tok_of bytes token ∷ more

toks_append : (bytes : List ℕ) (ts us : List Token) → toks_of bytes (ts ++ us) ≡ toks_of bytes ts ++ toks_of bytes us
toks_append bytes ts us = map-append (tok_of bytes) ts us

next_of : (bytes : List ℕ) (p : Program) (all ts : List Token) (at stop : ℕ) → Met bytes all ts at stop → ReadsProgram p (toks_of bytes all) [] → GoesOn bytes ts at →
    Next bytes all ts at
next_of bytes p all ts at stop (goes_on [] is lexed) r g =
    absurd (g.unfinished p (at_front ReadsProgram (sym (ap (toks_of bytes) (is ∙ append-nil ts))) r))
next_of bytes p all ts at stop (goes_on (t ∷ more) is lexed) r g =
    record { token = t; more = toks_of bytes more; next = lexed.0; are = ap (toks_of bytes) is ∙ toks_append bytes ts (t ∷ more) }
next_of bytes p all ts at stop (ends more is) r g =
    let split = ap (λ toks. toks ++ g.prefix.more) (ap (toks_of bytes) is ∙ toks_append bytes all more) ∙ append_assoc (toks_of bytes all) (toks_of bytes more) g.prefix.more in
    let none = nothing_behind p g.prefix.program (toks_of bytes all) (toks_of bytes more ++ g.prefix.more) r (at_front ReadsProgram (sym split) g.prefix.reads) in
    let empty = no_toks bytes more (no_front (toks_of bytes more) g.prefix.more none) in
    absurd (g.unfinished p (at_front ReadsProgram (ap (toks_of bytes) (is ∙ ap (λ more. all ++ more) empty ∙ append-nil all)) r))

job_next : (bytes : List ℕ) (p : Program) (i at : ℕ) (ts : List Token) (job : IsJob bytes p i) → GoesOn bytes ts at → Next bytes job.text.tokens ts at
job_next bytes p i at ts job g = next_of bytes p job.text.tokens ts at i (met bytes at i job.text.tokens ts 0 job.text.lexed g.lexed) job.text.derived g

no_error : {answer : Result Token Refusal} {t : Token} {refusal : Refusal} → answer ≡ Ok t → answer ≡ Err refusal → ⊥
no_error h k = cc

pub job_is_read : (bytes : List ℕ) (p : Program) (i : ℕ) (refusal : Refusal) → IsJob bytes p i → IsUnread bytes refusal → ⊥
job_is_read bytes p i refusal job (malformed {tokens} {at} g bad) =
    let n = job_next bytes p i at tokens job g in no_error n.next bad
job_is_read bytes p i refusal job (unexpected {tokens} {at} {token} g next none) =
    let n = job_next bytes p i at tokens job g in
    let are = subst (λ (t : Token). toks_of bytes job.text.tokens ≡ toks_of bytes tokens ++ tok_of bytes t ∷ n.more) (one_answer n.next next) n.are in
    none (record {
      program = p;
      more = n.more;
      reads = at_front ReadsProgram (append_assoc (toks_of bytes tokens) (tok_of bytes token ∷ []) n.more ∙ sym are) job.text.derived;
    })
job_is_read bytes p i refusal job (too_deep {tokens} {at} {token} g next prefix deep) =
    let n = job_next bytes p i at tokens job g in
    let are = subst (λ (t : Token). toks_of bytes job.text.tokens ≡ toks_of bytes tokens ++ tok_of bytes t ∷ n.more) (one_answer n.next next) n.are in
    job.shallow (toks_of bytes tokens) n.more (tok_of bytes token) are deep
