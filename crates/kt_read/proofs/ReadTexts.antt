-- What was read is a job, and what was refused is none.
use Rattle.std.proofs.Common.{◌≡◌, ℕ, List, [], ◌∷◌, ◌++◌, Result, Ok, Err, refl, ap, sym, subst, ◌∙◌, append_assoc}
use Rattle.std.proofs.lemmas.List.{append-nil}
use Rattle.kt_law.specs.declared.places.P.TheVariants.{P4, P14}
use Rattle.kt_law.specs.declared.places.Refusal.{Refusal}
use Rattle.kt_prog.specs.declared.programs.Program.{Program}
use Rattle.kt_text.specs.declared.tokens.Token.{Token}
use Rattle.kt_text.specs.Tokens.{Lexes, next_token, stop_of}
use Rattle.kt_tokens.specs.declared.source.Unread.{Unread}
use Rattle.kt_tokens.specs.declared.tokens.Symbol.TheVariants as S
use Rattle.kt_tokens.specs.declared.tokens.Tok.{Tok}
use Rattle.kt_tokens.specs.Ahead.{Ahead, all_ahead, Moved, still, moved, next_of, refusal_in, rest_of, tok_or_end}
use Rattle.kt_tokens.specs.Reading.{any, Answers, Deep, Reads, Refuses}
use Rattle.kt_tokens.specs.Words.{tok_of, toks_of}
use Rattle.kt_read.specs.Jobs.{GoesOn, IsDeep, IsJob, IsPrefix, IsShallow, IsUnread, malformed, unexpected, too_deep}
use Rattle.kt_read.specs.Programs.{ReadsProgram}
use Rattle.kt_read.specs.ReadRefusals.{refused_at, refusal_or}
use Rattle.kt_read.proofs.Depths.{read_deep, read_shallow}
use Rattle.kt_read.proofs.MoreTokens.{program_more}
use Rattle.kt_read.proofs.OneProgram.{program_is}
use Rattle.kt_read.proofs.Fronts.{at_front}

-- ---- tokens that were read

-- the tokens between two places are tokens of the bytes
pub record Lexed (bytes : List ℕ) (at : ℕ) (toks : List Tok) (new : Ahead) : Type 0 where
  pub tokens : List Token
  pub are : toks ≡ toks_of bytes tokens
  pub lexed : Lexes bytes at tokens new.at
  pub same : new.bytes ≡ bytes

-- a token is next
record Found (bytes : List ℕ) (answer : Result Token Refusal) : Type 0 where
  token : Token
  is : answer ≡ Ok token
  tok : tok_or_end bytes answer ≡ tok_of bytes token

found : (bytes : List ℕ) (answer : Result Token Refusal) → ((tok_or_end bytes answer).symbol ≡ S.End → ⊥) → Found bytes answer
found bytes (Ok token) f = record { token = token; is = refl; tok = refl }
found bytes (Err refusal) f = absurd (f refl)

next_found : (a : Ahead) → ((next_of a).symbol ≡ S.End → ⊥) → Found a.bytes (next_token a.bytes a.at)
unfolding next_of
next_found a f = found a.bytes (next_token a.bytes a.at) f

next_is_found : (a : Ahead) (f : Found a.bytes (next_token a.bytes a.at)) → next_of a ≡ tok_of a.bytes f.token
unfolding next_of
next_is_found a f = f.tok

rest_stops : (a : Ahead) (token : Token) → next_token a.bytes a.at ≡ Ok token → (rest_of a).at ≡ token.stop
unfolding rest_of
rest_stops a token e = ap (λ answer. stop_of answer a.at) e

rest_bytes : (a : Ahead) → (rest_of a).bytes ≡ a.bytes
unfolding rest_of
rest_bytes a = refl

pub lexed_of : {a b : Ahead} {toks : List Tok} → Moved a toks b → Lexed a.bytes a.at toks b
lexed_of still = record { tokens = []; are = refl; lexed = refl; same = refl }
lexed_of (moved {a = a} {b = b} {t = t} {toks = toks} p m) =
    let f = next_found a (λ e. p.is_token (ap (λ (t : Tok). t.symbol) (sym p.is_next) ∙ e)) in
    let more : Lexed a.bytes f.token.stop toks b =
    subst (λ at. Lexed a.bytes at toks b) (rest_stops a f.token f.is) (subst (λ bytes. Lexed bytes (rest_of a).at toks b) (rest_bytes a) (lexed_of m)) in
    record {
      tokens = f.token ∷ more.tokens;
      are = ap (λ (t : Tok). t ∷ toks) (sym p.is_next ∙ next_is_found a f) ∙ ap (λ ts. tok_of a.bytes f.token ∷ ts) more.are;
      lexed = (f.is, more.lexed);
      same = more.same;
    }

-- ---- a job

all_of : {toks : List Tok} {p : Program} → ReadsProgram p (toks ++ []) [] → ReadsProgram p toks []
all_of {toks = toks} r = at_front ReadsProgram (sym (append-nil toks)) r

pub job_read : {bytes : List ℕ} {new : Ahead} {p : Program} → Reads ReadsProgram any (all_ahead bytes) new p → IsJob bytes p new.at
job_read {bytes = bytes} {new = new} {p = p} r =
    let l = lexed_of r.moved in
    record {
      text = record { tokens = l.tokens; lexed = l.lexed; derived = at_front ReadsProgram (sym l.are) (all_of (r.reads [])) };
      shallow = subst (λ ts. IsShallow ts) l.are (read_shallow r.moved);
    }

-- ---- a refusal

going_on : {bytes : List ℕ} {new : Ahead} {toks : List Tok} (l : Lexed bytes 0 toks new) → IsPrefix toks → ((p : Program) → ReadsProgram p toks [] → ⊥) → IsShallow toks → GoesOn bytes l.tokens new.at
going_on l prefix unfinished shallow = record {
  lexed = l.lexed;
  prefix = subst (λ ts. IsPrefix ts) l.are prefix;
  unfinished = λ p r. unfinished p (at_front ReadsProgram l.are r);
  shallow = subst (λ ts. IsShallow ts) l.are shallow;
}

some_prefix : (p : Program) (toks end : List Tok) → ReadsProgram p (toks ++ (end ++ [])) [] → IsPrefix toks
some_prefix p toks end r = record { program = p; more = end ++ []; reads = r }

refused_goes : {bytes : List ℕ} {new : Ahead} (r : Refuses ReadsProgram any (all_ahead bytes) new) → GoesOn bytes (lexed_of r.moved).tokens new.at
refused_goes {new = new} r =
    going_on (lexed_of r.moved) (some_prefix r.value r.toks r.end (r.begins [])) (λ p x. r.ends p [] (next_of new ∷ []) (program_more (next_of new ∷ []) x) tt) (read_shallow r.moved)

-- with the next token no text begins so
refused_ends : {bytes : List ℕ} {new : Ahead} (r : Refuses ReadsProgram any (all_ahead bytes) new) → IsPrefix (r.toks ++ next_of new ∷ []) → ⊥
refused_ends {new = new} r p = r.ends p.program p.more [] (at_front ReadsProgram (sym (append_assoc r.toks (next_of new ∷ []) p.more)) p.reads) tt

next_place : (a : Ahead) (token : Token) → next_token a.bytes a.at ≡ Ok token → next_of a ≡ tok_of a.bytes token
unfolding next_of
next_place a token e = ap (λ answer. tok_or_end a.bytes answer) e

unread : {bytes : List ℕ} {new : Ahead} (r : Refuses ReadsProgram any (all_ahead bytes) new) (answer : Result Token Refusal) → next_token bytes new.at ≡ answer → new.bytes ≡ bytes →
    IsUnread bytes (refusal_or (refusal_in answer) (record { code = P4; place = (next_of new).place }))
unread {bytes = bytes} r (Err refusal) e same = malformed (refused_goes r) e
unread {bytes = bytes} {new = new} r (Ok token) e same =
    let next : next_of new ≡ tok_of bytes token =
    subst (λ bytes. next_token bytes new.at ≡ Ok token → next_of new ≡ tok_of bytes token) same (next_place new token) e in
    let l = lexed_of r.moved in
    subst (λ (t : Tok). IsUnread bytes (record { code = P4; place = t.place })) (sym next)
    (unexpected (refused_goes r) e
    (λ p. refused_ends r (subst (λ (t : Tok). IsPrefix (r.toks ++ t ∷ [])) (sym next) (subst (λ ts. IsPrefix (ts ++ tok_of bytes token ∷ [])) (sym l.are) p))))

pub job_refused : {bytes : List ℕ} {new : Ahead} → Refuses ReadsProgram any (all_ahead bytes) new → IsUnread bytes (refused_at new)
job_refused {bytes = bytes} {new = new} r =
    let same = (lexed_of r.moved).same in
    unread r (next_token new.bytes new.at) (ap (λ bytes. next_token bytes new.at) (sym same)) same

-- ---- a token that nests too deep

deep_goes : {bytes : List ℕ} {new : Ahead} (r : Deep ReadsProgram (all_ahead bytes) new) → GoesOn bytes (lexed_of r.moved).tokens new.at
deep_goes {new = new} r =
    going_on (lexed_of r.moved) (record { program = r.value; more = next_of new ∷ (r.end ++ []); reads = r.begins [] })
    (λ p x. let same = program_is (program_more (next_of new ∷ (r.end ++ [])) x) (r.begins []) in
    let none : next_of new ∷ (r.end ++ []) ≡ [] = same.1 in cc) (read_shallow r.moved)

pub job_deep : {bytes : List ℕ} {new : Ahead} → Deep ReadsProgram (all_ahead bytes) new → IsUnread bytes (record { code = P14; place = (next_of new).place })
job_deep {bytes = bytes} {new = new} r =
    let l = lexed_of r.moved in
    let f : Found bytes (next_token bytes new.at) = subst (λ bytes. Found bytes (next_token bytes new.at)) l.same (next_found new r.is_token) in
    let next : next_of new ≡ tok_of bytes f.token =
    subst (λ bytes. next_token bytes new.at ≡ Ok f.token → next_of new ≡ tok_of bytes f.token) l.same (next_place new f.token) f.is in
    let text : ReadsProgram r.value (r.toks ++ tok_of bytes f.token ∷ (r.end ++ [])) [] = subst (λ (t : Tok). ReadsProgram r.value (r.toks ++ t ∷ (r.end ++ [])) []) next (r.begins []) in
    let deep = read_deep r.value (next_of new) (r.end ++ []) r.moved (r.begins []) r.over in
    subst (λ (t : Tok). IsUnread bytes (record { code = P14; place = t.place })) (sym next)
    (too_deep (deep_goes r) f.is
    (subst (λ ts. IsPrefix (ts ++ tok_of bytes f.token ∷ [])) l.are
    (record {
      program = r.value;
      more = r.end ++ [];
      reads = at_front ReadsProgram (append_assoc r.toks (tok_of bytes f.token ∷ []) (r.end ++ [])) text;
    }))
    (subst (λ ts. IsDeep ts (tok_of bytes f.token)) l.are (subst (λ (t : Tok). IsDeep r.toks t) next deep)))

pub same_bytes : {bytes : List ℕ} {new : Ahead} {p : Program} → Reads ReadsProgram any (all_ahead bytes) new p → new.bytes ≡ bytes
same_bytes r = (lexed_of r.moved).same

-- the answer of a reader that began with the first token
pub from_start : (bytes : List ℕ) (old new : Ahead) (why other : Unread) → old ≡ all_ahead bytes → why ≡ other → Answers ReadsProgram any old new (Err why) →
    Answers ReadsProgram any (all_ahead bytes) new (Err other)
from_start bytes old new why other e f h =
    subst (λ (why : Unread). Answers ReadsProgram any (all_ahead bytes) new (Err why)) f (subst (λ (old : Ahead). Answers ReadsProgram any old new (Err why)) e h)
