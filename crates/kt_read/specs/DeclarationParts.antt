-- Parts of declarations as they are read.
use Rattle.std.specs.Prelude.{◌≡◌, ℕ, Bool, true, false, not, ◌||◌, List, [], ◌∷◌, ◌++◌, Option, Some, None, codes, is_some}
use Rattle.std.specs.Str.{bytes_eq}
use Rattle.kt_law.specs.declared.modes.Mode.{Mode}
use Rattle.kt_law.specs.declared.operators.Op.{Op}
use Rattle.kt_law.specs.declared.places.Place.{Place}
use Rattle.kt_prog.specs.declared.programs.Family.{Family}
use Rattle.kt_prog.specs.declared.programs.Index.{Index}
use Rattle.kt_prog.specs.declared.programs.Main.{Main}
use Rattle.kt_prog.specs.declared.programs.Param.{Param}
use Rattle.kt_prog.specs.declared.programs.Sort.{Sort}
use Rattle.kt_prog.specs.declared.programs.Sort.TheVariants.{Int, One, Many}
use Rattle.kt_prog.specs.declared.programs.Task.{Task}
use Rattle.kt_tokens.specs.declared.tokens.Mark.TheVariants as T
use Rattle.kt_tokens.specs.declared.tokens.Symbol.{Symbol}
use Rattle.kt_tokens.specs.declared.tokens.Symbol.TheVariants as S
use Rattle.kt_tokens.specs.declared.tokens.Tok.{Tok}
use Rattle.kt_tokens.specs.Reading.{Sign, AName, AWord}
use Rattle.kt_tokens.specs.Tokens.{◌·◌}
use Rattle.kt_read.specs.declared.reader.declarations.Declared.{Declared}
use Rattle.kt_read.specs.declared.reader.declarations.Declared.TheVariants as D
use Rattle.kt_read.specs.Operators.{direct_of}
use Rattle.kt_read.specs.Programs.{ReadsSize, ReadsFamily, ReadsDirect, ReadsPostponed, ReadsParams, ReadsMaybeParams, ReadsTask, ReadsMain}
use Rattle.kt_read.specs.Residuals.{Then, Done}
use Rattle.kt_read.specs.Statements.{ReadsOp, ReadsBlock}

-- ---- what may follow

-- anything but `[`
abbrev pub not_square : Symbol → Bool
not_square (S.Mark T.SquareOpen) = false
not_square _ = true

-- anything but this word
abbrev pub not_word : List ℕ → Symbol → Bool
not_word word (S.Name name) = not (bytes_eq name word)
not_word word _ = true

-- `)` alone
abbrev pub closing : Symbol → Bool
closing (S.Mark T.ParenClose) = true
closing _ = false

-- ---- words

-- what a table has for a name
abbrev pub named_in : {A : Type 0} → (List ℕ → Option A) → Symbol → Option A
named_in entry (S.Name name) = entry name
named_in entry _ = None

-- a direct mode begins so
abbrev pub begins_direct : Symbol → Bool
begins_direct (S.Name name) = is_some (direct_of name) || bytes_eq name (codes "cw")
begins_direct _ = false

-- the first of these tokens stands there
abbrev pub StandsAt : Place → List Tok → Type 0
StandsAt place [] = ⊥
StandsAt place (t ∷ ts) = t.place ≡ place

-- an X, and the place of its first token
pub record Placed {A : Type 0} (X : A → List Tok → List Tok → Type 0) (value : A × Place) (ts us : List Tok) : Type 0 where
  pub reads : X value.0 ts us
  pub stands : StandsAt value.1 ts

-- "(" op ")"
abbrev pub Bracketed : Op → List Tok → List Tok → Type 0
Bracketed = Then (Sign T.ParenOpen) (λ _. Then ReadsOp (λ op. Then (Sign T.ParenClose) (λ _. Done op)))

-- ---- parameters

abbrev pub param_at : Place → List ℕ × Place → Sort → Param
param_at place name sort = record { place = place; name = name.0; name_place = name.1; sort = sort }

abbrev pub IntParam : Param → List Tok → List Tok → Type 0
IntParam = Then (AWord (codes "int")) (λ place. Then AName (λ name. Done (param_at place name Int)))

abbrev pub DirectParam : Param → List Tok → List Tok → Type 0
DirectParam = Then (Placed ReadsDirect) (λ mode. Then AName (λ name. Done (param_at mode.1 name (One mode.0))))

-- [ "[" "]" ]: whether it is there
pub data Squares : Bool → List Tok → List Tok → Type 0 where
  no_squares : {us : List Tok} → Squares false us us
  squares : {p q : Place} {us : List Tok} → Squares true (T.SquareOpen · p ∷ T.SquareClose · q ∷ us) us

abbrev pub one_or_many : Bool → Mode → Sort
one_or_many true mode = Many mode
one_or_many false mode = One mode

abbrev pub PostponedParam : Param → List Tok → List Tok → Type 0
PostponedParam = Then (Placed ReadsPostponed) (λ mode. Then AName (λ name. Then Squares (λ many. Done (param_at mode.1 name (one_or_many many mode.0)))))

-- what is left of parameters behind some of them
pub data ParamsLeft (read : List Param) : List Param → List Tok → List Tok → Type 0 where
  ended : {us : List Tok} → ParamsLeft read read us us
  goes_on : {more all : List Param} {p : Place} {us vs : List Tok} → ReadsParams more us vs → all ≡ read ++ more → ParamsLeft read all (T.Comma · p ∷ us) vs

-- ---- declarations

abbrev pub Sized : Bool × ℕ → List Tok → List Tok → Type 0
Sized size ts us = ReadsSize size.0 size.1 ts us

-- [ params ] ")" block
abbrev pub Outset : List ℕ × Place → Option Index → Task → List Tok → List Tok → Type 0
Outset name index = Then ReadsMaybeParams (λ params. Then (Sign T.ParenClose) (λ _. Then ReadsBlock (λ body.
    Done (record { name = name.0; place = name.1; index = index; params = params; body = body }))))

-- "task" NAME "(" [ params ] ")" block
abbrev pub TaskOf : Task → List Tok → List Tok → Type 0
TaskOf = Then (Sign T.Task) (λ _. Then AName (λ name. Then (Sign T.ParenOpen) (λ _. Outset name None)))

-- "loop" NAME "(" NAME ";" [ params ] ")" block
abbrev pub LoopOf : Task → List Tok → List Tok → Type 0
LoopOf = Then (Sign T.Loop) (λ _. Then AName (λ name. Then (Sign T.ParenOpen) (λ _. Then AName (λ index. Then (Sign T.Semicolon) (λ _.
    Outset name (Some (record { name = index.0; place = index.1 })))))))

pub data ReadsDeclaration : Declared → List Tok → List Tok → Type 0 where
  family : {f : Family} {ts us : List Tok} → ReadsFamily f ts us → ReadsDeclaration (D.Family f) ts us
  task : {t : Task} {ts us : List Tok} → ReadsTask t ts us → ReadsDeclaration (D.Task t) ts us
  main : {m : Main} {ts us : List Tok} → ReadsMain m ts us → ReadsDeclaration (D.Main m) ts us
