-- What stands behind the least breach so far: whatever it breaks isn't answered.
use Rattle.std.specs.Prelude.{List, [], ◌∷◌, Bool, true, false, not, ◌&&◌, Option, Some, None}
use Rattle.kt_law.specs.declared.places.Place.{Place}
use Rattle.kt_law.specs.declared.places.Refusal.{Refusal}
use Rattle.kt_prog.specs.Declarations.{place_before, main_rules, family_rules, count_rules}
use Rattle.kt_prog.specs.Refusals.{noted}
use Rattle.kt_prog.specs.declared.programs.Program.{Program}
use Rattle.kt_prog.specs.declared.programs.Family.{Family}
use Rattle.kt_prog.specs.declared.programs.Task.{Task}
use Rattle.kt_prog.specs.declared.programs.Arg.{Arg}
use Rattle.kt_prog.specs.declared.programs.ArgWhat.{ArgWhat}
use Rattle.kt_prog.specs.declared.programs.ArgWhat.TheVariants as A
use Rattle.kt_prog.specs.declared.programs.Expr.{Expr, Expr-F, fold-Expr}
use Rattle.kt_prog.specs.declared.programs.Expr.TheOpen as E

-- none of the families stands before the place
abbrev pub families_from : Place → List Family → Bool
families_from place [] = true
families_from place (f ∷ families) = not (place_before f.place place) && families_from place families

-- none of the tasks and loops does
abbrev pub tasks_from : Place → List Task → Bool
tasks_from place [] = true
tasks_from place (t ∷ tasks) = not (place_before t.place place) && tasks_from place tasks

-- the first breach by what is too many, or by a `main` that is missing
abbrev pub too_many_of : Program → Option Refusal
too_many_of p = noted (noted (noted None (main_rules p.end p.mains)) (family_rules 0 0 p.families)) (count_rules 0 p.tasks)

-- where the least breach so far stands, or else this place
abbrev pub place_or : Option Refusal → Place → Place
place_or None end = end
place_or (Some least) end = least.place

abbrev pub place_late : Option Refusal → Place → Bool
place_late None place = false
place_late (Some least) place = place_before least.place place

abbrev pub late_step : Option Refusal → Expr-F Bool → Bool
late_step b (E.Num n) = true
late_step b (E.Var name place) = place_late b place
late_step b (E.Elem name place at) = place_late b place && at
late_step b (E.Bin op x y) = x && y

abbrev pub expr_late : Option Refusal → Expr → Bool
expr_late b = fold-Expr Bool (late_step b)

abbrev pub length_late : Option Refusal → Option Expr → Bool
length_late b None = true
length_late b (Some e) = expr_late b e

abbrev pub argument_late : Option Refusal → Place → ArgWhat → Bool
argument_late b at (A.Value e) = place_late b at && expr_late b e
argument_late b at (A.Span name place x y) = place_late b at && place_late b place && expr_late b x && expr_late b y

abbrev pub arguments_late : Option Refusal → List Arg → Bool
arguments_late b [] = true
arguments_late b (a ∷ args) = argument_late b a.place a.what && arguments_late b args

abbrev pub fork_late : Option Refusal → Place → Option Expr → List Arg → Bool
fork_late b place len args = place_late b place && length_late b len && arguments_late b args
