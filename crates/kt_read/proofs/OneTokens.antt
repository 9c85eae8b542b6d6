-- A part that is one token.
use Rattle.std.proofs.Common.{◌≡◌, Bool, true, false, List, [], ◌∷◌, ap, subst, sym, ◌∙◌, Option, Some, None, ℕ}
use Rattle.kt_tokens.specs.declared.tokens.Mark.{Mark}
use Rattle.kt_tokens.specs.declared.tokens.Symbol.{Symbol}
use Rattle.kt_tokens.specs.declared.tokens.Symbol.TheVariants as S
use Rattle.kt_tokens.specs.declared.tokens.Tok.{Tok}
use Rattle.kt_tokens.specs.Ahead.{Ahead, still, next_of, mark_of}
use Rattle.kt_tokens.specs.Reading.{Follows, any, Reads, Refuses, Deep}
use Rattle.kt_tokens.specs.Gauge.{is_over}
use Rattle.kt_tokens.proofs.Signs.{mark_at}
use Rattle.kt_tokens.proofs.Moves.{Advanced, moved_one}
use Rattle.kt_read.specs.DeclarationParts.{named_in}

pub token_read : {A : Type 0} (X : A → List Tok → List Tok → Type 0) (old new : Ahead) (a : A) → Advanced old new → ((rest : List Tok) → X a (next_of old ∷ rest) rest) →
    ((b : A) (more rest : List Tok) → X b (next_of old ∷ more) rest → (b ≡ a) × (rest ≡ more)) → Reads X any old new a
token_read X old new a p there only = record {
  toks = next_of old ∷ [];
  moved = moved_one p;
  reads = λ more. there more;
  only = λ b more rest x h. only b (next_of new ∷ more) rest x;
}

pub token_refused : {A : Type 0} (X : A → List Tok → List Tok → Type 0) (old : Ahead) (a : A) (t : Tok) → ((rest : List Tok) → X a (t ∷ rest) rest) →
    ((b : A) (more rest : List Tok) → X b (next_of old ∷ more) rest → ⊥) → Refuses X any old old
token_refused X old a t there none = record {
  toks = [];
  moved = still;
  value = a;
  end = t ∷ [];
  begins = λ rest. there rest;
  ends = λ b more rest x h. none b more rest x;
}

pub token_deep : {A : Type 0} (X : A → List Tok → List Tok → Type 0) (old : Ahead) (a : A) → ((rest : List Tok) → X a (next_of old ∷ rest) rest) →
    ((next_of old).symbol ≡ S.End → ⊥) → is_over old.gauge (next_of old).symbol ≡ true → Deep X old old
token_deep X old a there token over = record {
  toks = [];
  moved = still;
  value = a;
  end = [];
  begins = λ rest. there rest;
  is_token = token;
  over = over;
}

-- a word of a table is no end of the text
pub named_token : {A : Type 0} (entry : List ℕ → Option A) (s : Symbol) (x : A) → named_in entry s ≡ Some x → s ≡ S.End → ⊥
named_token entry s x e h = let f : None ≡ Some x = ap (named_in entry) (sym h) ∙ e in absurd cc

abbrev Passes : Bool → Type 0
Passes b = elim b [ true ↦ Unit {0} | false ↦ ⊥ ]

-- the next token carries on
pub bars : (may : Symbol → Bool) (t : Tok) (us : List Tok) (m : Mark) → mark_of t.symbol ≡ Some m → may (S.Mark m) ≡ false → Follows may (t ∷ us) → ⊥
bars may t us m e f h =
    let g : may t.symbol ≡ false = ap (λ (t : Tok). may t.symbol) (mark_at t m e) ∙ f in
    subst Passes g h

pub bars_word : (may : Symbol → Bool) (t : Tok) (us : List Tok) (n : List ℕ) → t.symbol ≡ S.Name n → may (S.Name n) ≡ false → Follows may (t ∷ us) → ⊥
bars_word may t us n e f h =
    let g : may t.symbol ≡ false = ap may e ∙ f in
    subst Passes g h

-- the value and the rest may be given by equations
pub settled : {A : Type 0} (X : A → List Tok → List Tok → Type 0) {a b : A} {ts us vs : List Tok} → b ≡ a → vs ≡ us → X a ts us → X b ts vs
settled X {a = a} {ts = ts} {vs = vs} e f x = subst (λ b. X b ts vs) (sym e) (subst (λ vs. X a ts vs) (sym f) x)

-- where nothing is left, the same follows
pub done_follows : {A : Type 0} (may : Symbol → Bool) {a b : A} {vs us : List Tok} → (b ≡ a) × (us ≡ vs) → Follows may us → Follows may vs
done_follows may d h = subst (λ ts. Follows may ts) d.1 h
