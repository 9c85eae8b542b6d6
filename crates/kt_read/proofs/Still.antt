-- The one schema of the reader: what is left of a part after the tokens that were read.
use Rattle.std.proofs.Common.{◌≡◌, Bool, true, List, [], ◌∷◌, ◌++◌, refl, sym, subst, append_assoc, Result, Ok, Err, MatchResult}
use Rattle.kt_tokens.specs.declared.source.Unread.{Unread}
use Rattle.kt_tokens.specs.declared.source.Unread.TheVariants as U
use Rattle.kt_tokens.specs.declared.tokens.Symbol.{Symbol}
use Rattle.kt_tokens.specs.declared.tokens.Symbol.TheVariants as S
use Rattle.kt_tokens.specs.declared.tokens.Tok.{Tok}
use Rattle.kt_tokens.specs.Ahead.{Ahead, Moved, still, next_of}
use Rattle.kt_tokens.specs.Reading.{Follows, any, Reads, Refuses, Deep, Answers, Adds}
use Rattle.kt_tokens.specs.Gauge.{is_over}
use Rattle.kt_tokens.proofs.Moves.{Advanced, heads, moved_all, moved_one}
use Rattle.kt_read.specs.Residuals.{Then, Done}

-- an N began at old, and at cur this is left of it
pub record Still {A : Type 0} (N : A → List Tok → List Tok → Type 0) (may : Symbol → Bool) (old cur : Ahead) (R : A → List Tok → List Tok → Type 0) : Type 0 where
  pub toks : List Tok
  pub moved : Moved old toks cur
  pub reads : (a : A) (more rest : List Tok) → R a more rest → N a (toks ++ more) rest
  pub only : (a : A) (more rest : List Tok) → N a (toks ++ next_of cur ∷ more) rest → Follows may rest → R a (next_of cur ∷ more) rest

-- what an N is at its beginning
pub here : {A : Type 0} {N : A → List Tok → List Tok → Type 0} {may : Symbol → Bool} (old : Ahead) → Still N may old old N
here old = record { toks = []; moved = still; reads = λ a more rest r. r; only = λ a more rest r f. r }

-- what is left may be said otherwise, in the light of the next token
pub is : {A : Type 0} {N R Q : A → List Tok → List Tok → Type 0} {may : Symbol → Bool} {old cur : Ahead} → Still N may old cur R →
    ((a : A) (more rest : List Tok) → Q a more rest → R a more rest) →
    ((a : A) (more rest : List Tok) → R a (next_of cur ∷ more) rest → Follows may rest → Q a (next_of cur ∷ more) rest) → Still N may old cur Q
is s f g = record {
  toks = s.toks;
  moved = s.moved;
  reads = λ a more rest q. s.reads a more rest (f a more rest q);
  only = λ a more rest n h. g a more rest (s.only a more rest n h) h;
}

-- an X was read
pub next : {A B : Type 0} {N : A → List Tok → List Tok → Type 0} {X : B → List Tok → List Tok → Type 0} {K : B → A → List Tok → List Tok → Type 0} {may mayX : Symbol → Bool}
    {old cur new : Ahead} {b : B} → Still N may old cur (Then X K) → Reads X mayX cur new b →
    ((x : B) (a : A) (vs us : List Tok) → K x a vs us → Follows may us → Follows mayX vs) → Still N may old new (K b)
next {X = X} {K = K} {cur = cur} {new = new} {b = b} s r follow = record {
  toks = s.toks ++ r.toks;
  moved = moved_all s.moved r.moved;
  reads = λ a more rest k. rw append_assoc (s.reads a (r.toks ++ more) rest (b, more, r.reads more, k));
  only = λ a more rest n h.
      let t = heads cur new r.toks more r.moved in
      let n' = rw append_assoc at n in
      let q = s.only a t.0 rest (rw t.1 at n') h in
      let o = r.only q.0 more q.1 (rw (← t.1) at q.2) (follow q.0 a q.1 rest q.3 h) in
      let k = subst (λ x. K x a q.1 rest) o.0 q.3 in
      subst (λ vs. K b a vs rest) o.1 k;
}

-- some end completes it
abbrev pub Completes : {A : Type 0} → (A → List Tok → List Tok → Type 0) → Type 0
Completes {A} R = (a : A) × (end : List Tok) × ((rest : List Tok) → R a (end ++ rest) rest)

-- an X was refused
refuses : {A B : Type 0} {N : A → List Tok → List Tok → Type 0} {X : B → List Tok → List Tok → Type 0} {K : B → A → List Tok → List Tok → Type 0} {may mayX : Symbol → Bool}
    {old cur new : Ahead} → Still N may old cur (Then X K) → Refuses X mayX cur new →
    ((x : B) (a : A) (vs us : List Tok) → K x a vs us → Follows may us → Follows mayX vs) → ((x : B) → Completes (K x)) → Refuses N may old new
refuses {X = X} {K = K} {cur = cur} {new = new} s r follow completes = record {
  toks = s.toks ++ r.toks;
  moved = moved_all s.moved r.moved;
  value = (completes r.value).0;
  end = r.end ++ (completes r.value).1;
  begins = λ rest.
      let c = completes r.value in
      let k = s.reads c.0 (r.toks ++ (r.end ++ (c.1 ++ rest))) rest (r.value, c.1 ++ rest, r.begins (c.1 ++ rest), c.2 rest) in
      simp append_assoc k;
  ends = λ a more rest n h.
      let t = heads cur new r.toks more r.moved in
      let n' = rw append_assoc at n in
      let q = s.only a t.0 rest (rw t.1 at n') h in
      r.ends q.0 more q.1 (rw (← t.1) at q.2) (follow q.0 a q.1 rest q.3 h);
}

-- the last token of an X nests too deep
deepens : {A B : Type 0} {N : A → List Tok → List Tok → Type 0} {X : B → List Tok → List Tok → Type 0} {K : B → A → List Tok → List Tok → Type 0} {may : Symbol → Bool}
    {old cur new : Ahead} → Still N may old cur (Then X K) → Deep X cur new → ((x : B) → Completes (K x)) → Deep N old new
deepens {new = new} s r completes = record {
  toks = s.toks ++ r.toks;
  moved = moved_all s.moved r.moved;
  value = (completes r.value).0;
  end = r.end ++ (completes r.value).1;
  begins = λ rest.
      let c = completes r.value in
      let k = s.reads c.0 (r.toks ++ (next_of new ∷ (r.end ++ (c.1 ++ rest)))) rest (r.value, c.1 ++ rest, r.begins (c.1 ++ rest), c.2 rest) in
      simp append_assoc k;
  is_token = r.is_token;
  over = r.over;
}

-- an X failed
pub fails : {A B : Type 0} {N : A → List Tok → List Tok → Type 0} {X : B → List Tok → List Tok → Type 0} {K : B → A → List Tok → List Tok → Type 0} {may : Symbol → Bool}
    {old cur : Ahead} (mayX : Symbol → Bool) (new : Ahead) (why : Unread) → Still N may old cur (Then X K) → Answers X mayX cur new (Err why) →
    ((x : B) (a : A) (vs us : List Tok) → K x a vs us → Follows may us → Follows mayX vs) → ((x : B) → Completes (K x)) → Answers N may old new (Err why)
fails mayX new U.Refused s r follow completes = refuses s r follow completes
fails mayX new U.TooDeep s r follow completes = deepens s r completes
fails mayX new U.NoMemory s r follow completes = tt

-- all was read
pub done : {A : Type 0} {N : A → List Tok → List Tok → Type 0} {may : Symbol → Bool} {old cur : Ahead} {a : A} → Still N may old cur (Done a) → Reads N may old cur a
done {a = a} s = record {
  toks = s.toks;
  moved = s.moved;
  reads = λ more. s.reads a more more (refl, refl);
  only = λ b more rest n h. s.only b more rest n h;
}

-- nothing goes on with the next token
pub stuck : {A : Type 0} {N R : A → List Tok → List Tok → Type 0} {may : Symbol → Bool} {old cur : Ahead} → Still N may old cur R →
    ((a : A) (more rest : List Tok) → R a (next_of cur ∷ more) rest → Follows may rest → ⊥) → Completes R → Refuses N may old cur
stuck s none c = record {
  toks = s.toks;
  moved = s.moved;
  value = c.0;
  end = c.1;
  begins = λ rest. s.reads c.0 (c.1 ++ rest) rest (c.2 rest);
  ends = λ b more rest n h. none b more rest (s.only b more rest n h) h;
}

-- the next token was read
pub step : {A : Type 0} {N R Q : A → List Tok → List Tok → Type 0} {may : Symbol → Bool} {old cur new : Ahead} → Still N may old cur R → Advanced cur new →
    ((a : A) (more rest : List Tok) → Q a more rest → R a (next_of cur ∷ more) rest) →
    ((a : A) (more rest : List Tok) → R a (next_of cur ∷ more) rest → Follows may rest → Q a more rest) → Still N may old new Q
step {N = N} {R = R} {cur = cur} {new = new} s p f g = record {
  toks = s.toks ++ next_of cur ∷ [];
  moved = moved_all s.moved (moved_one p);
  reads = λ a more rest q. rw append_assoc (s.reads a (next_of cur ∷ more) rest (f a more rest q));
  only = λ a more rest n h.
      let n' = rw append_assoc at n in g a (next_of new ∷ more) rest (s.only a (next_of new ∷ more) rest n' h) h;
}

-- The next token nests too deep. The rest of a text goes on with it.
abbrev pub GoesOnWith : {A : Type 0} → Tok → (A → List Tok → List Tok → Type 0) → Type 0
GoesOnWith {A} t R = (a : A) × (end : List Tok) × ((rest : List Tok) → R a (t ∷ (end ++ rest)) rest)

pub deep : {A : Type 0} {N R : A → List Tok → List Tok → Type 0} {may : Symbol → Bool} {old cur : Ahead} → Still N may old cur R → GoesOnWith (next_of cur) R →
    ((next_of cur).symbol ≡ S.End → ⊥) → is_over cur.gauge (next_of cur).symbol ≡ true → Deep N old cur
deep {cur = cur} s c t o = record {
  toks = s.toks;
  moved = s.moved;
  value = c.0;
  end = c.1;
  begins = λ rest. s.reads c.0 (next_of cur ∷ (c.1 ++ rest)) rest (c.2 rest);
  is_token = t;
  over = o;
}

pub deep_at : {A : Type 0} {N R : A → List Tok → List Tok → Type 0} {may : Symbol → Bool} {old cur : Ahead} → Still N may old cur R → (new : Ahead) (why : Unread) →
    (why ≡ U.TooDeep) × (new ≡ cur) × (is_over cur.gauge (next_of cur).symbol ≡ true) → ((next_of cur).symbol ≡ S.End → ⊥) → GoesOnWith (next_of cur) R →
    Answers N may old new (Err why)
deep_at {N = N} {may = may} {old = old} s new why q t c =
    subst (λ w. Answers N may old new (Err w)) (sym q.0) (subst (λ x. Deep N old x) (sym q.1) (deep s c t q.2))

-- the rest of an N is an X
as_then : {A : Type 0} {N X : A → List Tok → List Tok → Type 0} {may : Symbol → Bool} {old cur : Ahead} → Still N may old cur X → Still N may old cur (Then X (λ b. Done b))
as_then {X = X} s = is s
    (λ a more rest q. subst (λ x. X x more rest) (sym q.3.0) (subst (λ ts. X q.0 more ts) (sym q.3.1) q.2))
    (λ a more rest x h. (a, rest, x, (refl, refl)))

pub answers : {A : Type 0} {N X : A → List Tok → List Tok → Type 0} {may : Symbol → Bool} {old cur : Ahead} (mayX : Symbol → Bool) (new : Ahead) (r : Result A Unread) →
    Still N may old cur X → Answers X mayX cur new r → ((us : List Tok) → Follows may us → Follows mayX us) → Answers N may old new r
answers mayX new (Ok a) s r f = done (next (as_then s) r (λ x b vs us d h. subst (λ ts. Follows mayX ts) d.1 (f us h)))
answers mayX new (Err why) s r f = fails mayX new why (as_then s) r (λ x b vs us d h. subst (λ ts. Follows mayX ts) d.1 (f us h)) (λ x. (x, [], λ rest. (refl, refl)))

-- the same where the value is added to a list
pub adds : {A B : Type 0} {N X : A → List Tok → List Tok → Type 0} {may : Symbol → Bool} {old cur : Ahead} (mayX : Symbol → Bool) (new : Ahead) (before after : List A) (r : Result B Unread) →
    Still N may old cur X → Adds X mayX cur new before after r → ((us : List Tok) → Follows may us → Follows mayX us) → Adds N may old new before after r
adds mayX new before after (Ok b) s r f = (r.0, r.1, answers mayX new (Ok r.0) s r.2 f)
adds mayX new before after (Err why) s r f = answers mayX new (Err why) s r f

-- the value was made, or there was no memory
pub made : {A : Type 0} {N : A → List Tok → List Tok → Type 0} {may : Symbol → Bool} {old new : Ahead} {x : A} (r : Result A Unread) →
    MatchResult r (λ a. a ≡ x) (λ why. why ≡ U.NoMemory) → Reads N may old new x → Answers N may old new r
made {N = N} {may = may} {old = old} {new = new} (Ok a) e s = subst (λ y. Reads N may old new y) (sym e) s
made {N = N} {may = may} {old = old} {new = new} (Err why) e s = subst (λ w. Answers N may old new (Err w)) (sym e) tt

pub then_completes : {A B : Type 0} (X : B → List Tok → List Tok → Type 0) (K : B → A → List Tok → List Tok → Type 0) (b : B) (end : List Tok) →
    ((rest : List Tok) → X b (end ++ rest) rest) → Completes (K b) → Completes (Then X K)
then_completes X K b end r k = (
  k.0,
  end ++ k.1,
  λ rest.
      (b, k.1 ++ rest, subst (λ ts. X b ts (k.1 ++ rest)) (sym (append_assoc end k.1 rest)) (r (k.1 ++ rest)), k.2 rest),
)

pub any_follows : (ts : List Tok) → Follows any ts
any_follows [] = tt
any_follows (t ∷ ts) = tt

-- where anything may follow an X
pub next_any : {A B : Type 0} {N : A → List Tok → List Tok → Type 0} {X : B → List Tok → List Tok → Type 0} {K : B → A → List Tok → List Tok → Type 0} {may : Symbol → Bool}
    {old cur new : Ahead} {b : B} → Still N may old cur (Then X K) → Reads X any cur new b → Still N may old new (K b)
next_any s r = next s r (λ x a vs us k h. any_follows vs)

pub fails_any : {A B : Type 0} {N : A → List Tok → List Tok → Type 0} {X : B → List Tok → List Tok → Type 0} {K : B → A → List Tok → List Tok → Type 0} {may : Symbol → Bool}
    {old cur : Ahead} (new : Ahead) (why : Unread) → Still N may old cur (Then X K) → Answers X any cur new (Err why) → ((x : B) → Completes (K x)) → Answers N may old new (Err why)
fails_any new why s r completes = fails any new why s r (λ x a vs us k h. any_follows vs) completes
