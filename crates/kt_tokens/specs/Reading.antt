-- What a reader of one part of the grammar promises. The part is a relation `X value tokens rest`.
use Rattle.std.specs.Prelude.{◌≡◌, ℕ, Bool, true, false, List, [], ◌∷◌, ◌++◌, Result, Ok, Err}
use Rattle.kt_law.specs.declared.places.Place.{Place}
use Rattle.kt_tokens.specs.declared.source.Unread.{Unread}
use Rattle.kt_tokens.specs.declared.source.Unread.TheVariants as U
use Rattle.kt_tokens.specs.declared.tokens.Mark.{Mark}
use Rattle.kt_tokens.specs.declared.tokens.Symbol.{Symbol}
use Rattle.kt_tokens.specs.declared.tokens.Symbol.TheVariants as S
use Rattle.kt_tokens.specs.declared.tokens.Tok.{Tok}
use Rattle.kt_tokens.specs.Ahead.{Ahead, Moved, next_of}
use Rattle.kt_tokens.specs.Gauge.{is_over}
use Rattle.kt_tokens.specs.Tokens.{◌·◌, named, numbered}

-- anything may follow
abbrev pub any : Symbol → Bool
any _ = true

-- the first of these tokens, if there is one, carries nothing on
abbrev pub Follows : (Symbol → Bool) → List Tok → Type 0
Follows may [] = Unit {0}
Follows may (t ∷ ts) = elim (may t.symbol) [ true ↦ Unit {0} | false ↦ ⊥ ]

-- The tokens from old to new are a text of this value, whatever follows. Of every text that goes on with the next token they are
-- all, where what follows it may do so.
pub record Reads {A : Type 0} (X : A → List Tok → List Tok → Type 0) (may : Symbol → Bool) (old new : Ahead) (a : A) : Type 0 where
  pub toks : List Tok
  pub moved : Moved old toks new
  pub reads : (more : List Tok) → X a (toks ++ more) more
  pub only : (b : A) (more rest : List Tok) → X b (toks ++ next_of new ∷ more) rest → Follows may rest → (b ≡ a) × (rest ≡ next_of new ∷ more)

-- The tokens from old to new begin a text. With the next token they begin none that is followed by what may follow.
pub record Refuses {A : Type 0} (X : A → List Tok → List Tok → Type 0) (may : Symbol → Bool) (old new : Ahead) : Type 0 where
  pub toks : List Tok
  pub moved : Moved old toks new
  pub value : A
  pub end : List Tok
  pub begins : (rest : List Tok) → X value (toks ++ (end ++ rest)) rest
  pub ends : (b : A) (more rest : List Tok) → X b (toks ++ next_of new ∷ more) rest → Follows may rest → ⊥

-- The tokens from old to new and the next one begin a text, and the next one nests too deep.
pub record Deep {A : Type 0} (X : A → List Tok → List Tok → Type 0) (old new : Ahead) : Type 0 where
  pub toks : List Tok
  pub moved : Moved old toks new
  pub value : A
  pub end : List Tok
  pub begins : (rest : List Tok) → X value (toks ++ (next_of new ∷ (end ++ rest))) rest
  pub is_token : (next_of new).symbol ≡ S.End → ⊥
  pub over : is_over new.gauge (next_of new).symbol ≡ true

abbrev pub Answers : {A : Type 0} → (A → List Tok → List Tok → Type 0) → (Symbol → Bool) → Ahead → Ahead → Result A Unread → Type 0
Answers X may old new (Ok a) = Reads X may old new a
Answers X may old new (Err U.Refused) = Refuses X may old new
Answers X may old new (Err U.TooDeep) = Deep X old new
Answers X may old new (Err U.NoMemory) = Unit {0}

-- The same of a reader that adds what it reads to a list. Where it failed, nothing is said of the list.
abbrev pub Adds : {A B : Type 0} → (A → List Tok → List Tok → Type 0) → (Symbol → Bool) → Ahead → Ahead → List A → List A → Result B Unread → Type 0
Adds {A} X may old new before after (Ok _) = (a : A) × (after ≡ before ++ a ∷ []) × Reads X may old new a
Adds X may old new before after (Err why) = Answers X may old new (Err why)

-- one sign or reserved word
pub data Sign : Mark → Place → List Tok → List Tok → Type 0 where
  sign : {m : Mark} {p : Place} {rest : List Tok} → Sign m p (m · p ∷ rest) rest

-- one name, and its place
pub data AName : List ℕ × Place → List Tok → List Tok → Type 0 where
  a_name : {n : List ℕ} {p : Place} {rest : List Tok} → AName (n, p) (named n p ∷ rest) rest

-- this name, and its place
pub data AWord : List ℕ → Place → List Tok → List Tok → Type 0 where
  a_word : {n : List ℕ} {p : Place} {rest : List Tok} → AWord n p (named n p ∷ rest) rest

-- one number
pub data ANumber : ℕ → List Tok → List Tok → Type 0 where
  a_number : {k : ℕ} {p : Place} {rest : List Tok} → ANumber k (numbered k p ∷ rest) rest
