-- The equations of the meanings of statements, at what a `match` finds.
use Rattle.std.proofs.Common.{Option, ◌≡◌, ◌≢◌, ℕ, zero, suc, ◌+◌, ◌-◌, ◌<◌, ◌≤◌, List, [], ◌∷◌, length, drop, get_or, map, Result, Ok, Err, refl, ap, ◌∙◌, sym, arith, add-one}
use Rattle.std.proofs.lemmas.Grind.{common_steps}
use Rattle.kt_law.specs.declared.operators.Op.{Op}
use Rattle.kt_law.specs.declared.places.Place.{Place}
use Rattle.kt_prog.specs.Calls.{Job}
use Rattle.kt_prog.specs.Forks.{fork_named}
use Rattle.kt_prog.specs.Locals.{Site}
use Rattle.kt_prog.specs.Script.{Step, ◌>>=◌, ◌>>◌, give}
use Rattle.kt_prog.specs.Statements.{view, State, StmtMeaning, what_of, stmt_of, what_step, stmt_step, block, scoped, either, turns, step_at}
use Rattle.kt_prog.specs.Targets.{target_of}
use Rattle.kt_prog.specs.Values.{value_of}
use Rattle.kt_prog.specs.declared.programs.Program.{Program}
use Rattle.kt_prog.specs.declared.programs.Arg.{Arg}
use Rattle.kt_prog.specs.declared.programs.Expr.{Expr}
use Rattle.kt_prog.specs.declared.programs.Stmt.{Stmt, fold_out-Stmt}
use Rattle.kt_prog.specs.declared.programs.What.{What, fold-roll-What}
use Rattle.kt_prog.specs.declared.programs.What.TheVariants as W
use Rattle.kt_prog.specs.declared.programs.What.TheOpen as F
use Rattle.kt_prog.specs.declared.runs.Operation.{Operation}
use Rattle.kt_body.specs.Moves.{Ran, RanTo}
use Rattle.kt_body.specs.Scenes.{Gives, bound_to, changed, named, written}
use Rattle.kt_body.specs.declared.ops.Early.{Early}
use Rattle.kt_body.specs.declared.ops.Early.TheVariants as early
use Rattle.kt_body.specs.declared.writes.Write.TheVariants as Wr
use Rattle.kt_body.proofs.Steps.{ran_err, ran_give, ran_stop, ran_then}

abbrev id_what : What → ℕ → StmtMeaning
id_what = what_of (λ w. w)

abbrev id_stmt : Stmt → StmtMeaning
id_stmt = stmt_of (λ w. w)

abbrev at_line : ℕ → Site → State → (ℕ → StmtMeaning) → Step State
at_line line site s m = m line site s

module _ (line : ℕ) (site : Site) (s : State) where
  pub what_let : (name : List ℕ) (p : Place) (e : Expr) → what_of (λ w. w) (W.Let name p e) line site s ≡ bound_to name e line site s
  what_let name p e = ap (λ w. what_of (λ w. w) w line site s) (sym (W.rolls-Let name p e))
      ∙ ap (at_line line site s) (fold-roll-What (ℕ → StmtMeaning) StmtMeaning (what_step (λ w. w)) (stmt_step (λ w. w)) (F.Let name p e))

  pub what_set : (name : List ℕ) (p : Place) (e : Expr) → what_of (λ w. w) (W.Set name p e) line site s ≡ changed name e line site s
  what_set name p e = ap (λ w. what_of (λ w. w) w line site s) (sym (W.rolls-Set name p e))
      ∙ ap (at_line line site s) (fold-roll-What (ℕ → StmtMeaning) StmtMeaning (what_step (λ w. w)) (stmt_step (λ w. w)) (F.Set name p e))

  pub what_store : (name : List ℕ) (p : Place) (at e : Expr) → what_of (λ w. w) (W.Store name p at e) line site s ≡ (do
    written Wr.Store name at e (view site s line)
    give s)
  unfolding ◌>>=◌
  what_store name p at e = ap (λ w. what_of (λ w. w) w line site s) (sym (W.rolls-Store name p at e))
      ∙ ap (at_line line site s) (fold-roll-What (ℕ → StmtMeaning) StmtMeaning (what_step (λ w. w)) (stmt_step (λ w. w)) (F.Store name p at e))

  pub what_fold : (name : List ℕ) (p : Place) (at : Expr) (op : Op) (e : Expr) → what_of (λ w. w) (W.Fold name p at op e) line site s ≡ (do
    written (Wr.Fold op) name at e (view site s line)
    give s)
  unfolding ◌>>=◌
  what_fold name p at op e = ap (λ w. what_of (λ w. w) w line site s) (sym (W.rolls-Fold name p at op e))
      ∙ ap (at_line line site s) (fold-roll-What (ℕ → StmtMeaning) StmtMeaning (what_step (λ w. w)) (stmt_step (λ w. w)) (F.Fold name p at op e))

  pub what_fork : (name : List ℕ) (p : Place) (len : Option Expr) (args : List Arg) → what_of (λ w. w) (W.Fork name p len args) line site s ≡ (do
    fork_named (λ w. w) (target_of site.tasks name) len args (view site s line)
    give s)
  what_fork name p len args = ap (λ w. what_of (λ w. w) w line site s) (sym (W.rolls-Fork name p len args))
      ∙ ap (at_line line site s) (fold-roll-What (ℕ → StmtMeaning) StmtMeaning (what_step (λ w. w)) (stmt_step (λ w. w)) (F.Fork name p len args))

  pub what_if : (e : Expr) (xs ys : List Stmt) → what_of (λ w. w) (W.If e xs ys) line site s ≡ (do
    n ← value_of (λ w. w) e (view site s line)
    s' ← either n (block (map (stmt_of (λ w. w)) xs)) (block (map (stmt_of (λ w. w)) ys)) site s
    give (scoped (length s.locals) s'))
  what_if e xs ys = ap (λ w. what_of (λ w. w) w line site s) (sym (W.rolls-If e xs ys))
      ∙ ap (at_line line site s) (fold-roll-What (ℕ → StmtMeaning) StmtMeaning (what_step (λ w. w)) (stmt_step (λ w. w)) (F.If e xs ys))

  pub what_for : (name : List ℕ) (p : Place) (a b : Expr) (body : List Stmt) → what_of (λ w. w) (W.For name p a b body) line site s ≡ (do
    from ← value_of (λ w. w) a (view site s line)
    to ← value_of (λ w. w) b (view site s line)
    turns (λ w. w) (to - from) (length s.locals) line name from (block (map (stmt_of (λ w. w)) body)) site s)
  what_for name p a b body = ap (λ w. what_of (λ w. w) w line site s) (sym (W.rolls-For name p a b body))
      ∙ ap (at_line line site s) (fold-roll-What (ℕ → StmtMeaning) StmtMeaning (what_step (λ w. w)) (stmt_step (λ w. w)) (F.For name p a b body))

-- a fact on what was matched, at what it was matched with
pub at_what : (line : ℕ) (site : Site) (s : State) (m : Step State) (w w' : What) → w ≡ w' → what_of (λ w. w) w' line site s ≡ m → what_of (λ w. w) w line site s ≡ m
at_what line site s m w w' is e = ap (λ k. what_of (λ w. w) k line site s) is ∙ e

pub stmt_is : (x : Stmt) (site : Site) (s : State) → stmt_of (λ w. w) x site s ≡ (do
  s' ← step_at s.steps x.place.line s
  what_of (λ w. w) x.what x.place.line site s')
stmt_is x site s = ap (λ (m : StmtMeaning). m site s) (fold_out-Stmt (ℕ → StmtMeaning) StmtMeaning (what_step (λ w. w)) (stmt_step (λ w. w)) x)

pub either_none : (n : ℕ) (a b : StmtMeaning) → n ≡ 0 → either n a b ≡ b
either_none zero a b h = refl
either_none (suc n) a b h = absurd (omega arith)

pub either_some : (n : ℕ) (a b : StmtMeaning) → n ≢ 0 → either n a b ≡ a
either_some zero a b h = absurd (h refl)
either_some (suc n) a b h = refl

module _ (to v before line : ℕ) (name : List ℕ) (body : StmtMeaning) (site : Site) (s : State) where
  pub turns_none : to ≤ v → turns (λ w. w) (to - v) before line name v body site s ≡ give s
  turns_none h = let e : to - v ≡ 0 = omega arith in rw e

  pub turns_more : v < to → turns (λ w. w) (to - v) before line name v body site s ≡ (do
    s' ← step_at s.steps line s
    s'' ← named s' name v
    s''' ← body site s''
    turns (λ w. w) (to - (v + 1)) before line name (v + 1) body site (scoped before s'''))
  unfolding ◌>>=◌ give
  turns_more h = let e : to - v ≡ suc (to - (v + 1)) = omega arith in rw e

-- the statements behind the first i
block_next : (xs : List Stmt) (i : ℕ) (x : Stmt) (site : Site) (s : State) → i < length xs → x ≡ get_or xs i x → block (map (stmt_of (λ w. w)) (drop i xs)) site s ≡ (do
  s' ← stmt_of (λ w. w) x site s
  block (map (stmt_of (λ w. w)) (drop (suc i) xs)) site s')
block_next [] i x site s h is = absurd (omega arith)
block_next (y ∷ xs) zero x site s h is = rw is refl
block_next (y ∷ xs) (suc i) x site s h is = block_next xs i x site s (omega arith) is

pub block_more : (xs : List Stmt) (i : ℕ) (x : Stmt) (site : Site) (s : State) → i < length xs → x ≡ get_or xs i x → block (map (stmt_of (λ w. w)) (drop i xs)) site s ≡ (do
  s' ← stmt_of (λ w. w) x site s
  block (map (stmt_of (λ w. w)) (drop (i + 1) xs)) site s')
block_more xs i x site s h is = rw add-one (block_next xs i x site s h is)

pub block_none : (xs : List Stmt) (i : ℕ) (site : Site) (s : State) → length xs ≤ i → block (map (stmt_of (λ w. w)) (drop i xs)) site s ≡ give s
block_none xs i site s h = let e : drop i xs ≡ [] = grind (arith, common_steps) in rw e

module _ {S : Type 0} {at : S → Program → Job → List ℕ → ℕ → Type 0} {goes : S → Operation → S → Type 0} {halted : S → Type 0} where
  pub gives_err : {A : Type 0} (x : S) (m : Step A) (a : A) (e : Early) → Gives m a (Err e) → Ran at goes halted x m x (Err e)
  gives_err x m a (early.Fault law line) is = rw is (ran_stop x law line)
  gives_err x m a early.Halted is = absurd is

-- a step behind which the state is as it was
module _ {S : Type 0} (at : S → Program → Job → List ℕ → ℕ → Type 0) (goes : S → Operation → S → Type 0) (halted : S → Type 0) where
  pub ran_keeps : {A : Type 0} (x y : S) (m : Step (Unit {0})) (a : A) (r : Result (Unit {0}) Early) → Ran at goes halted x m y r
      → RanTo at goes halted x (m >>= (λ _. give a)) y a r
  ran_keeps x y m a (Ok done) q = ran_then m (λ _. give a) q (ran_give y a)
  ran_keeps x y m a (Err e) q = ran_err m (λ _. give a) q
