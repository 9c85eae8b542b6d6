-- One word or one number.
use Rattle.std.proofs.Common.{◌≡◌, ℕ, true, List, [], ◌∷◌, refl, sym, subst}
use Rattle.kt_law.specs.declared.places.Place.{Place}
use Rattle.kt_tokens.specs.declared.tokens.Symbol.{Symbol}
use Rattle.kt_tokens.specs.declared.tokens.Symbol.TheVariants as S
use Rattle.kt_tokens.specs.declared.tokens.Tok.{Tok}
use Rattle.kt_tokens.specs.Ahead.{Ahead, still, next_of}
use Rattle.kt_tokens.specs.Reading.{any, Reads, Refuses, Deep, AWord, a_word, ANumber, a_number}
use Rattle.kt_tokens.specs.Gauge.{is_over}
use Rattle.kt_tokens.specs.Tokens.{named, numbered}
use Rattle.kt_tokens.proofs.Signs.{name_at, name_is_token, number_at}
use Rattle.kt_tokens.proofs.Moves.{Advanced, moved_one}

pub number_is_token : (s : Symbol) (k : ℕ) → s ≡ S.Number k → s ≡ S.End → ⊥
number_is_token s k e f = cc

word_rest : {n : List ℕ} {b : Place} {t : Tok} {us rest : List Tok} → AWord n b (t ∷ us) rest → (b ≡ t.place) × (rest ≡ us)
word_rest a_word = (refl, refl)

pub word_head : {n : List ℕ} {b : Place} {t : Tok} {us rest : List Tok} → AWord n b (t ∷ us) rest → t.symbol ≡ S.Name n
word_head a_word = refl

word_there : (t : Tok) (n : List ℕ) → t.symbol ≡ S.Name n → (rest : List Tok) → AWord n t.place (t ∷ rest) rest
word_there t n e rest = subst (λ x. AWord n t.place (x ∷ rest) rest) (sym (name_at t n e)) a_word

pub word_read : (a new : Ahead) (n : List ℕ) → (next_of a).symbol ≡ S.Name n → Advanced a new → Reads (AWord n) any a new (next_of a).place
word_read a new n e p = record {
  toks = next_of a ∷ [];
  moved = moved_one p;
  reads = λ more. word_there (next_of a) n e more;
  only = λ b more rest x h. word_rest x;
}

pub word_refused : (a : Ahead) (n : List ℕ) → ((next_of a).symbol ≡ S.Name n → ⊥) → Refuses (AWord n) any a a
word_refused a n f = record {
  toks = [];
  moved = still;
  value = (next_of a).place;
  end = named n (next_of a).place ∷ [];
  begins = λ rest. a_word;
  ends = λ b more rest x h. f (word_head x);
}

pub word_deep : (a : Ahead) (n : List ℕ) → (next_of a).symbol ≡ S.Name n → is_over a.gauge (next_of a).symbol ≡ true → Deep (AWord n) a a
word_deep a n e o = record {
  toks = [];
  moved = still;
  value = (next_of a).place;
  end = [];
  begins = λ rest. word_there (next_of a) n e rest;
  is_token = name_is_token (next_of a).symbol n e;
  over = o;
}

number_rest : {k b : ℕ} {p : Place} {us rest : List Tok} → ANumber b (numbered k p ∷ us) rest → (b ≡ k) × (rest ≡ us)
number_rest a_number = (refl, refl)

pub number_head : {b : ℕ} {t : Tok} {us rest : List Tok} → ANumber b (t ∷ us) rest → t.symbol ≡ S.Number b
number_head a_number = refl

number_there : (t : Tok) (k : ℕ) → t.symbol ≡ S.Number k → (rest : List Tok) → ANumber k (t ∷ rest) rest
number_there t k e rest = subst (λ x. ANumber k (x ∷ rest) rest) (sym (number_at t k e)) a_number

pub number_read : (a new : Ahead) (k : ℕ) → (next_of a).symbol ≡ S.Number k → Advanced a new → Reads ANumber any a new k
number_read a new k e p = record {
  toks = next_of a ∷ [];
  moved = moved_one p;
  reads = λ more. number_there (next_of a) k e more;
  only = λ b more rest x h. number_rest (subst (λ t. ANumber b (t ∷ (next_of new ∷ more)) rest) (number_at (next_of a) k e) x);
}

pub number_refused : (a : Ahead) → ((k : ℕ) → (next_of a).symbol ≡ S.Number k → ⊥) → Refuses ANumber any a a
number_refused a f = record {
  toks = [];
  moved = still;
  value = 0;
  end = numbered 0 (next_of a).place ∷ [];
  begins = λ rest. a_number;
  ends = λ b more rest x h. f b (number_head x);
}

pub number_deep : (a : Ahead) (k : ℕ) → (next_of a).symbol ≡ S.Number k → is_over a.gauge (next_of a).symbol ≡ true → Deep ANumber a a
number_deep a k e o = record {
  toks = [];
  moved = still;
  value = k;
  end = [];
  begins = λ rest. number_there (next_of a) k e rest;
  is_token = number_is_token (next_of a).symbol k e;
  over = o;
}
