-- What statements do.
use Rattle.std.specs.Prelude.{ℕ, zero, suc, ◌+◌, ◌-◌, List, [], ◌∷◌, length, take}
use Rattle.kt_law.specs.Acts.{Store, Fold}
use Rattle.kt_law.specs.declared.faults.F.TheVariants.{F6}
use Rattle.kt_prog.specs.Script.{Script, Step, ◌>>=◌, ◌>>◌, give, stop, perform}
use Rattle.kt_prog.specs.Locals.{Site}
use Rattle.kt_prog.specs.Lookups.{assigned, with_local}
use Rattle.kt_prog.specs.Values.{View, value_of, object_at, element_within}
use Rattle.kt_prog.specs.Targets.{target_of}
use Rattle.kt_prog.specs.Forks.{fork_named}
use Rattle.kt_prog.specs.declared.scope.Local.{Local}
use Rattle.kt_prog.specs.declared.programs.What.{What, What-F, fold-What}
use Rattle.kt_prog.specs.declared.programs.What.TheOpen as W
use Rattle.kt_prog.specs.declared.programs.Stmt.{Stmt, Stmt-F, fold-Stmt}

-- the locals, and how many more steps may be made
pub record State : Type 0 where
  pub locals : List Local
  pub steps : ℕ

abbrev pub StmtMeaning : Type 0
StmtMeaning = Site → State → Step State

-- one statement after another
abbrev pub block : List StmtMeaning → StmtMeaning
block [] site s = give s
block (m ∷ ms) site s = do
  s' ← m site s
  block ms site s'

abbrev pub at_locals : State → List Local → State
at_locals s locals = record { locals = locals; steps = s.steps }

-- behind a block its own names are gone; n names were there before it
abbrev pub scoped : ℕ → State → State
scoped n s = at_locals s (take n s.locals)

-- a step, F6 where no more may be made
abbrev pub step_at : ℕ → ℕ → State → Step State
step_at zero line s = stop F6 line
step_at (suc left) line s = give (record { locals = s.locals; steps = left })

abbrev pub view : Site → State → ℕ → View
view site s line = record { site = site; locals = s.locals; line = line }

-- the second block where the number is 0
abbrev pub either : ℕ → StmtMeaning → StmtMeaning → StmtMeaning
either zero then_do else_do = else_do
either (suc n) then_do else_do = then_do

module _ (lost : Script → Script) where
  -- so many turns of a `for`, with this value and those after it for its name; `before` names were there before it
  abbrev pub turns : ℕ → ℕ → ℕ → List ℕ → ℕ → StmtMeaning → StmtMeaning
  turns zero before line name value body site s = give s
  turns (suc n) before line name value body site s = do
    s' ← step_at s.steps line s
    locals ← with_local lost s'.locals name value
    s'' ← body site (at_locals s' locals)
    turns n before line name (value + 1) body site (scoped before s'')

  abbrev pub what_step : What-F (ℕ → StmtMeaning) StmtMeaning → ℕ → StmtMeaning
  what_step (W.Let name place e) line site s = do
    n ← value_of lost e (view site s line)
    locals ← with_local lost s.locals name n
    give (at_locals s locals)
  what_step (W.Set name place e) line site s = do
    n ← value_of lost e (view site s line)
    locals ← assigned lost s.locals name n
    give (at_locals s locals)
  -- the index, the value, the test of the index, and the store
  what_step (W.Store name place at e) line site s = do
    o ← object_at lost (view site s line) name
    i ← value_of lost at (view site s line)
    n ← value_of lost e (view site s line)
    element_within (view site s line) o i
    perform o i (Store n)
    give s
  -- the same with a fold
  what_step (W.Fold name place at op e) line site s = do
    o ← object_at lost (view site s line) name
    i ← value_of lost at (view site s line)
    n ← value_of lost e (view site s line)
    element_within (view site s line) o i
    perform o i (Fold op n)
    give s
  what_step (W.If test then_do else_do) line site s = do
    n ← value_of lost test (view site s line)
    s' ← either n (block then_do) (block else_do) site s
    give (scoped (length s.locals) s')
  -- both bounds, once, and a turn for each number from the first up to the second, which is not included
  what_step (W.For name place a b body) line site s = do
    from ← value_of lost a (view site s line)
    to ← value_of lost b (view site s line)
    turns (to - from) (length s.locals) line name from (block body) site s
  what_step (W.Fork name place len args) line site s = do
    fork_named lost (target_of site.tasks name) len args (view site s line)
    give s

  -- a statement begins with a step; its line is that of its first token
  abbrev pub stmt_step : Stmt-F (ℕ → StmtMeaning) StmtMeaning → StmtMeaning
  stmt_step x site s = do
    s' ← step_at s.steps x.place.line s
    x.what x.place.line site s'

  abbrev pub what_of : What → ℕ → StmtMeaning
  what_of = fold-What (ℕ → StmtMeaning) StmtMeaning what_step stmt_step

  abbrev pub stmt_of : Stmt → StmtMeaning
  stmt_of = fold-Stmt (ℕ → StmtMeaning) StmtMeaning what_step stmt_step
