-- One sign, one reserved word or one name.
use Rattle.std.proofs.Common.{◌≡◌, ℕ, true, List, [], ◌∷◌, refl, ap, sym, subst, ◌∙◌, Some, None}
use denote.Enum.Bare.{sameb}
use Rattle.kt_law.specs.declared.places.Place.{Place}
use Rattle.kt_tokens.specs.contracts.tokens.Mark.{the_type}
use Rattle.kt_tokens.specs.declared.tokens.Mark.{Mark}
use Rattle.kt_tokens.specs.declared.tokens.Mark.TheVariants as T
use Rattle.kt_tokens.specs.declared.tokens.Symbol.{Symbol}
use Rattle.kt_tokens.specs.declared.tokens.Symbol.TheVariants as S
use Rattle.kt_tokens.specs.declared.tokens.Tok.{Tok}
use Rattle.kt_tokens.specs.Ahead.{Ahead, still, next_of, mark_of}
use Rattle.kt_tokens.specs.Reading.{any, Reads, Refuses, Deep, Sign, sign, AName, a_name}
use Rattle.kt_tokens.specs.Gauge.{is_over}
use Rattle.kt_tokens.specs.Tokens.{◌·◌, named, numbered}
use Rattle.kt_tokens.proofs.Moves.{Advanced, moved_one}

is_mark : (s : Symbol) (m : Mark) → mark_of s ≡ Some m → s ≡ S.Mark m
is_mark (S.Mark x) m e = let f : x ≡ m = cc in ap (λ y. S.Mark y) f
is_mark (S.Name n) m e = cc
is_mark (S.Number n) m e = cc
is_mark S.End m e = cc

abbrev with_symbol : Place → Symbol → Tok
with_symbol p s = record { symbol = s; place = p }

pub mark_at : (t : Tok) (m : Mark) → mark_of t.symbol ≡ Some m → t ≡ m · t.place
mark_at t m e = ap (with_symbol t.place) (is_mark t.symbol m e)

pub name_at : (t : Tok) (n : List ℕ) → t.symbol ≡ S.Name n → t ≡ named n t.place
name_at t n e = ap (with_symbol t.place) e

pub number_at : (t : Tok) (k : ℕ) → t.symbol ≡ S.Number k → t ≡ numbered k t.place
number_at t k e = ap (with_symbol t.place) e

pub mark_same : (m : Mark) → sameb the_type m m ≡ true
mark_same T.Object = refl
mark_same _ = refl

pub mark_is_token : (s : Symbol) (m : Mark) → mark_of s ≡ Some m → s ≡ S.End → ⊥
mark_is_token s m e f = let g : None ≡ Some m = ap mark_of (sym f) ∙ e in absurd cc

pub name_is_token : (s : Symbol) (n : List ℕ) → s ≡ S.Name n → s ≡ S.End → ⊥
name_is_token s n e f = let g : S.Name n ≡ S.End = sym e ∙ f in absurd cc

sign_rest : {m : Mark} {b : Place} {t : Tok} {us rest : List Tok} → Sign m b (t ∷ us) rest → (b ≡ t.place) × (rest ≡ us)
sign_rest sign = (refl, refl)

pub sign_head : {m : Mark} {b : Place} {t : Tok} {us rest : List Tok} → Sign m b (t ∷ us) rest → mark_of t.symbol ≡ Some m
sign_head sign = refl

sign_there : (t : Tok) (m : Mark) → mark_of t.symbol ≡ Some m → (rest : List Tok) → Sign m t.place (t ∷ rest) rest
sign_there t m e rest = subst (λ x. Sign m t.place (x ∷ rest) rest) (sym (mark_at t m e)) sign

pub sign_read : (a new : Ahead) (m : Mark) → mark_of (next_of a).symbol ≡ Some m → Advanced a new → Reads (Sign m) any a new (next_of a).place
sign_read a new m e p = record {
  toks = next_of a ∷ [];
  moved = moved_one p;
  reads = λ more. sign_there (next_of a) m e more;
  only = λ b more rest n h. sign_rest n;
}

pub sign_refused : (a : Ahead) (m : Mark) → (mark_of (next_of a).symbol ≡ Some m → ⊥) → Refuses (Sign m) any a a
sign_refused a m h' = record {
  toks = [];
  moved = still;
  value = (next_of a).place;
  end = (m · (next_of a).place) ∷ [];
  begins = λ rest. sign;
  ends = λ b more rest n h. h' (sign_head n);
}

pub sign_deep : (a : Ahead) (m : Mark) → mark_of (next_of a).symbol ≡ Some m → is_over a.gauge (next_of a).symbol ≡ true → Deep (Sign m) a a
sign_deep a m e o = record {
  toks = [];
  moved = still;
  value = (next_of a).place;
  end = [];
  begins = λ rest. sign_there (next_of a) m e rest;
  is_token = mark_is_token (next_of a).symbol m e;
  over = o;
}

name_rest : {n : List ℕ} {p : Place} {b : List ℕ × Place} {us rest : List Tok} → AName b (named n p ∷ us) rest → (b ≡ (n, p)) × (rest ≡ us)
name_rest a_name = (refl, refl)

name_head : {b : List ℕ × Place} {t : Tok} {us rest : List Tok} → AName b (t ∷ us) rest → t.symbol ≡ S.Name b.0
name_head a_name = refl

name_there : (t : Tok) (n : List ℕ) → t.symbol ≡ S.Name n → (rest : List Tok) → AName (n, t.place) (t ∷ rest) rest
name_there t n e rest = subst (λ x. AName (n, t.place) (x ∷ rest) rest) (sym (name_at t n e)) a_name

pub name_read : (a new : Ahead) (n : List ℕ) → (next_of a).symbol ≡ S.Name n → Advanced a new → Reads AName any a new (n, (next_of a).place)
name_read a new n e p = record {
  toks = next_of a ∷ [];
  moved = moved_one p;
  reads = λ more. name_there (next_of a) n e more;
  only = λ b more rest x h. name_rest (subst (λ t. AName b (t ∷ (next_of new ∷ more)) rest) (name_at (next_of a) n e) x);
}

pub name_refused : (a : Ahead) → ((n : List ℕ) → (next_of a).symbol ≡ S.Name n → ⊥) → Refuses AName any a a
name_refused a f = record {
  toks = [];
  moved = still;
  value = ([], (next_of a).place);
  end = named [] (next_of a).place ∷ [];
  begins = λ rest. a_name;
  ends = λ b more rest x h. f b.0 (name_head x);
}

pub name_deep : (a : Ahead) (n : List ℕ) → (next_of a).symbol ≡ S.Name n → is_over a.gauge (next_of a).symbol ≡ true → Deep AName a a
name_deep a n e o = record {
  toks = [];
  moved = still;
  value = (n, (next_of a).place);
  end = [];
  begins = λ rest. name_there (next_of a) n e rest;
  is_token = name_is_token (next_of a).symbol n e;
  over = o;
}
