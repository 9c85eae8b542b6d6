-- A job whose program is refused has no run.
use Rattle.std.proofs.Common.{◌≡◌, ℕ, List, Result, Ok, Err, sym, subst}
use Rattle.std.specs.Prelude.{IfErr}
use Rattle.std.specs.Result.{IsErrAnd}
use Rattle.kt_open.specs.Answers.{Unopens}
use Rattle.kt_open.specs.Answers.{Unopens as U}
use Rattle.kt_open.specs.Unopened.{IsNoProgram, IsUnopened}
use Rattle.kt_open.specs.declared.opening.Unopened.{Unopened}
use Rattle.kt_open.specs.declared.opening.Unopened.TheVariants as V
use Rattle.kt_print.specs.declared.lines.Line.{Line}

pub no_program_is_unopened : (job : List ℕ) (u : Unopened) → IsNoProgram job u → IsUnopened job u
no_program_is_unopened job (V.Line line) h = (5, subst (λ (line : Line). Unopens job 5 line) (sym h.1) (U.refused h.2))
no_program_is_unopened job V.NoMemory h = tt

-- the error of a call that hands on this one
pub err_then : {A : Type 0} (job : List ℕ) (r : Result A Unopened) (u : Unopened) → IsErrAnd r (λ e. e ≡ u) → IsUnopened job u → IfErr r (IsUnopened job)
err_then job (Ok a) u h unopened = tt
err_then job (Err e) u h unopened = subst (IsUnopened job) (sym h) unopened
