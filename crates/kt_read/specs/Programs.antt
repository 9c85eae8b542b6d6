-- Declarations and whole programs, a constructor for each production.
use Rattle.std.specs.Prelude.{◌≡◌, ℕ, Bool, true, false, List, [], ◌∷◌, Some, None, codes}
use Rattle.kt_law.specs.declared.places.Place.{Place}
use Rattle.kt_law.specs.declared.operators.Op.{Op}
use Rattle.kt_law.specs.declared.modes.Mode.{Mode}
use Rattle.kt_law.specs.declared.modes.Mode.TheVariants.{Cw, Cwp}
use Rattle.kt_prog.specs.declared.programs.Family.{Family}
use Rattle.kt_prog.specs.declared.programs.Main.{Main}
use Rattle.kt_prog.specs.declared.programs.Param.{Param}
use Rattle.kt_prog.specs.declared.programs.Program.{Program}
use Rattle.kt_prog.specs.declared.programs.Sort.TheVariants.{Int, One, Many}
use Rattle.kt_prog.specs.declared.programs.Stmt.{Stmt}
use Rattle.kt_prog.specs.declared.programs.Task.{Task}
use Rattle.kt_tokens.specs.declared.tokens.Mark.TheVariants as T
use Rattle.kt_tokens.specs.declared.tokens.Tok.{Tok}
use Rattle.kt_tokens.specs.Tokens.{◌·◌, named, numbered}
use Rattle.kt_read.specs.Operators.{direct_of, postponed_of}
use Rattle.kt_read.specs.Statements.{ReadsOp, ReadsBlock}

-- [ the word ]
pub data ReadsMaybe (word : List ℕ) : Bool → List Tok → List Tok → Type 0 where
  left_out : {us : List Tok} → ReadsMaybe word false us us
  written : {p : Place} {us : List Tok} → ReadsMaybe word true (named word p ∷ us) us

-- [ "[" NUMBER "]" ]: whether it is there, and the number, or 1
pub data ReadsSize : Bool → ℕ → List Tok → List Tok → Type 0 where
  single : {us : List Tok} → ReadsSize false 1 us us
  range : {m : ℕ} {p q r : Place} {us : List Tok} → ReadsSize true m (T.SquareOpen · p ∷ numbered m q ∷ T.SquareClose · r ∷ us) us

-- object = "object" NAME [ "[" NUMBER "]" ] "of" NUMBER [ "input" ] [ "output" ] ";"
pub data ReadsFamily : Family → List Tok → List Tok → Type 0 where
  family : {n : List ℕ} {p q r s t : Place} {many input output : Bool} {m k : ℕ} {ts us vs ws : List Tok} →
      ReadsSize many m ts (named (codes "of") r ∷ numbered k s ∷ us) →
      ReadsMaybe (codes "input") input us vs → ReadsMaybe (codes "output") output vs (T.Semicolon · t ∷ ws) →
      ReadsFamily (record { name = n; place = q; many = many; members = m; elements = k; input = input; output = output })
      (T.Object · p ∷ named n q ∷ ts) ws

-- direct = "r" | "w" | "x" | "cw" "(" op ")"
pub data ReadsDirect : Mode → List Tok → List Tok → Type 0 where
  direct : {n : List ℕ} {mode : Mode} {p : Place} {us : List Tok} → direct_of n ≡ Some mode → ReadsDirect mode (named n p ∷ us) us
  cumulative : {p q r : Place} {op : Op} {ts us : List Tok} →
      ReadsOp op ts (T.ParenClose · r ∷ us) → ReadsDirect (Cw op) (named (codes "cw") p ∷ T.ParenOpen · q ∷ ts) us

-- postponed = "rp" | "wp" | "xp" | "cwp" "(" op ")"
pub data ReadsPostponed : Mode → List Tok → List Tok → Type 0 where
  postponed : {n : List ℕ} {mode : Mode} {p : Place} {us : List Tok} → postponed_of n ≡ Some mode → ReadsPostponed mode (named n p ∷ us) us
  postponed_cumulative : {p q r : Place} {op : Op} {ts us : List Tok} →
      ReadsOp op ts (T.ParenClose · r ∷ us) → ReadsPostponed (Cwp op) (named (codes "cwp") p ∷ T.ParenOpen · q ∷ ts) us

-- param = "int" NAME | direct NAME | postponed NAME [ "[" "]" ], at the place of its first word
pub data ReadsParam : Param → List Tok → List Tok → Type 0 where
  int : {n : List ℕ} {p q : Place} {us : List Tok} →
      ReadsParam (record { place = p; name = n; name_place = q; sort = Int }) (named (codes "int") p ∷ named n q ∷ us) us
  one_direct : {n : List ℕ} {q : Place} {t : Tok} {mode : Mode} {ts us : List Tok} →
      ReadsDirect mode (t ∷ ts) (named n q ∷ us) →
      ReadsParam (record { place = t.place; name = n; name_place = q; sort = One mode }) (t ∷ ts) us
  one_postponed : {n : List ℕ} {q : Place} {t : Tok} {mode : Mode} {ts us : List Tok} →
      ReadsPostponed mode (t ∷ ts) (named n q ∷ us) →
      ReadsParam (record { place = t.place; name = n; name_place = q; sort = One mode }) (t ∷ ts) us
  many_postponed : {n : List ℕ} {q r s : Place} {t : Tok} {mode : Mode} {ts us : List Tok} →
      ReadsPostponed mode (t ∷ ts) (named n q ∷ T.SquareOpen · r ∷ T.SquareClose · s ∷ us) →
      ReadsParam (record { place = t.place; name = n; name_place = q; sort = Many mode }) (t ∷ ts) us

-- params = param { "," param }
pub data ReadsParams : List Param → List Tok → List Tok → Type 0 where
  one_param : {a : Param} {ts us : List Tok} → ReadsParam a ts us → ReadsParams (a ∷ []) ts us
  more_params : {a : Param} {params : List Param} {p : Place} {ts us vs : List Tok} →
      ReadsParam a ts (T.Comma · p ∷ us) → ReadsParams params us vs → ReadsParams (a ∷ params) ts vs

-- [ params ]
pub data ReadsMaybeParams : List Param → List Tok → List Tok → Type 0 where
  no_params : {us : List Tok} → ReadsMaybeParams [] us us
  some_params : {params : List Param} {ts us : List Tok} → ReadsParams params ts us → ReadsMaybeParams params ts us

pub data ReadsTask : Task → List Tok → List Tok → Type 0 where
  -- task = "task" NAME "(" [ params ] ")" block
  task : {n : List ℕ} {p q r s : Place} {params : List Param} {stmts : List Stmt} {ts us vs : List Tok} →
      ReadsMaybeParams params ts (T.ParenClose · s ∷ us) → ReadsBlock stmts us vs →
      ReadsTask (record { name = n; place = q; index = None; params = params; body = stmts })
      (T.Task · p ∷ named n q ∷ T.ParenOpen · r ∷ ts) vs
  -- loop = "loop" NAME "(" NAME ";" [ params ] ")" block
  loop : {n i : List ℕ} {p q r s t u : Place} {params : List Param} {stmts : List Stmt} {ts us vs : List Tok} →
      ReadsMaybeParams params ts (T.ParenClose · u ∷ us) → ReadsBlock stmts us vs →
      ReadsTask (record { name = n; place = q; index = Some (record { name = i; place = s }); params = params; body = stmts })
      (T.Loop · p ∷ named n q ∷ T.ParenOpen · r ∷ named i s ∷ T.Semicolon · t ∷ ts) vs

-- main = "main" block, at the place of the word `main`
pub data ReadsMain : Main → List Tok → List Tok → Type 0 where
  main : {p : Place} {stmts : List Stmt} {ts us : List Tok} →
      ReadsBlock stmts ts us → ReadsMain (record { place = p; body = stmts }) (T.Main · p ∷ ts) us

-- program = { object | task | loop | main } "data": its declarations in three lists, each in the order of the text
pub data ReadsProgram : Program → List Tok → List Tok → Type 0 where
  data_word : {p : Place} {us : List Tok} → ReadsProgram (record { families = []; tasks = []; mains = []; end = p }) (T.Data · p ∷ us) us
  one_family : {f : Family} {program : Program} {ts us vs : List Tok} →
      ReadsFamily f ts us → ReadsProgram program us vs → ReadsProgram (record program { families = f ∷ program.families }) ts vs
  one_task : {t : Task} {program : Program} {ts us vs : List Tok} →
      ReadsTask t ts us → ReadsProgram program us vs → ReadsProgram (record program { tasks = t ∷ program.tasks }) ts vs
  one_main : {m : Main} {program : Program} {ts us vs : List Tok} →
      ReadsMain m ts us → ReadsProgram program us vs → ReadsProgram (record program { mains = m ∷ program.mains }) ts vs
