-- The same bytes are read as one program, which ends in one place.
use Rattle.std.proofs.Common.{◌≡◌, ℕ, List, [], ◌∷◌, ◌++◌, Result, Ok, refl, ap, sym, subst, ◌∙◌}
use Rattle.std.proofs.lemmas.List.{append-nil, map-append}
use Rattle.kt_law.specs.declared.places.Refusal.{Refusal}
use Rattle.kt_prog.specs.declared.programs.Program.{Program}
use Rattle.kt_text.specs.declared.tokens.Token.{Token}
use Rattle.kt_text.specs.Tokens.{Lexes}
use Rattle.kt_tokens.specs.Words.{tok_of, toks_of}
use Rattle.kt_read.specs.Programs.{ReadsProgram}
use Rattle.kt_read.specs.Texts.{IsText}
use Rattle.kt_read.proofs.Fronts.{at_front}
use Rattle.kt_read.proofs.MoreTokens.{program_more}
use Rattle.kt_read.proofs.OneProgram.{program_is}

pub one_answer : {answer : Result Token Refusal} {t u : Token} → answer ≡ Ok t → answer ≡ Ok u → t ≡ u
one_answer h k = cc

lexed_stop : (bytes : List ℕ) (i j : ℕ) (ts : List Token) (at : ℕ) → Lexes bytes at ts i → Lexes bytes at ts j → i ≡ j
lexed_stop bytes i j [] at h k = sym h ∙ k
lexed_stop bytes i j (t ∷ ts) at h k = lexed_stop bytes i j ts t.stop h.1 k.1

-- one list of tokens goes on where the other ends
data Goes : List Token → List Token → Type 0 where
  first_goes_on : (ts more : List Token) → Goes (ts ++ more) ts
  second_goes_on : (ts more : List Token) → Goes ts (ts ++ more)

goes_behind : (t : Token) {ts us : List Token} → Goes ts us → Goes (t ∷ ts) (t ∷ us)
goes_behind t (first_goes_on ts more) = first_goes_on (t ∷ ts) more
goes_behind t (second_goes_on ts more) = second_goes_on (t ∷ ts) more

goes : (bytes : List ℕ) (i j : ℕ) (ts us : List Token) (at : ℕ) → Lexes bytes at ts i → Lexes bytes at us j → Goes ts us
goes bytes i j [] us at h k = second_goes_on [] us
goes bytes i j (t ∷ ts) [] at h k = first_goes_on [] (t ∷ ts)
goes bytes i j (t ∷ ts) (u ∷ us) at h k =
    let same = one_answer k.0 h.0 in
    subst (λ (u : Token). Goes (t ∷ ts) (u ∷ us)) (sym same)
    (goes_behind t (goes bytes i j ts us t.stop h.1 (subst (λ (u : Token). Lexes bytes u.stop us j) same k.1)))

pub no_toks : (bytes : List ℕ) (more : List Token) → toks_of bytes more ≡ [] → more ≡ []
no_toks bytes [] h = refl
no_toks bytes (t ∷ more) h = absurd cc

-- nothing stands behind a program
record AreSame (p q : Program) (ts us : List Token) : Type 0 where
  program : p ≡ q
  tokens : ts ≡ us

ends : (bytes : List ℕ) (p q : Program) (ts more : List Token) → ReadsProgram p (toks_of bytes ts) [] → ReadsProgram q (toks_of bytes (ts ++ more)) [] → AreSame p q ts (ts ++ more)
ends bytes p q ts more r s =
    let h = program_is (program_more (toks_of bytes more) r) (at_front ReadsProgram (sym (map-append (tok_of bytes) ts more)) s) in
    record { program = h.0; tokens = sym (ap (λ more. ts ++ more) (no_toks bytes more h.1) ∙ append-nil ts) }

same_lists : (bytes : List ℕ) (p q : Program) {ts us : List Token} → Goes ts us → ReadsProgram p (toks_of bytes ts) [] → ReadsProgram q (toks_of bytes us) [] → AreSame p q ts us
same_lists bytes p q (first_goes_on ts more) r s =
    let h = ends bytes q p ts more s r in record { program = sym h.program; tokens = sym h.tokens }
same_lists bytes p q (second_goes_on ts more) r s = ends bytes p q ts more r s

pub text_is : (bytes : List ℕ) (p q : Program) (i j : ℕ) → IsText bytes p i → IsText bytes q j → (p ≡ q) × (i ≡ j)
text_is bytes p q i j a b =
    let h = same_lists bytes p q (goes bytes i j a.tokens b.tokens 0 a.lexed b.lexed) a.derived b.derived in
    (h.program, lexed_stop bytes i j a.tokens 0 a.lexed (subst (λ ts. Lexes bytes 0 ts j) (sym h.tokens) b.lexed))
