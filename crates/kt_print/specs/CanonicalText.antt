-- The canonical text of a program: all families, then all tasks and loops, then `main`, each in the order of the text, and
-- the word `data`.
use Rattle.std.specs.Prelude.{ℕ, List, [], ◌++◌, Bool, Option, Some, None, map, codes, if◌then◌else◌}
use Rattle.std.specs.Fmt.{decimal}
use Rattle.std.specs.List.{flat_map}
use Rattle.kt_law.specs.declared.modes.Mode.{Mode}
use Rattle.kt_law.specs.declared.modes.Mode.TheVariants as M
use Rattle.kt_prog.specs.declared.programs.Family.{Family}
use Rattle.kt_prog.specs.declared.programs.Index.{Index}
use Rattle.kt_prog.specs.declared.programs.Main.{Main}
use Rattle.kt_prog.specs.declared.programs.Param.{Param}
use Rattle.kt_prog.specs.declared.programs.Program.{Program}
use Rattle.kt_prog.specs.declared.programs.Sort.{Sort}
use Rattle.kt_prog.specs.declared.programs.Sort.TheVariants.{Int, One, Many}
use Rattle.kt_prog.specs.declared.programs.Stmt.{Stmt}
use Rattle.kt_prog.specs.declared.programs.Task.{Task}
use Rattle.kt_print.specs.CanonicalStatements.{block_text, text_of_stmt}
use Rattle.kt_print.specs.CanonicalWords.{op_word, line, listed}

-- a part that may be missing
abbrev pub where_set : Bool → List ℕ → List ℕ
where_set there text = if there then text else []

-- `[4]` of a range
abbrev pub members_text : Family → List ℕ
members_text f = where_set f.many (codes "[" ++ (decimal f.members ++ codes "]"))

-- ` of 3 input output;`
abbrev pub size_text : Family → List ℕ
size_text f = codes " of " ++ (decimal f.elements ++ (where_set f.input (codes " input") ++ (where_set f.output (codes " output") ++ codes ";")))

-- `object A of 3 input output;` or `object A[4] of 3;`
abbrev pub family_text : Family → List ℕ
family_text f = line 0 (codes "object " ++ (f.name ++ (members_text f ++ size_text f)))

abbrev pub mode_text : Mode → List ℕ
mode_text M.R = codes "r"
mode_text M.W = codes "w"
mode_text M.X = codes "x"
mode_text (M.Cw op) = codes "cw(" ++ (op_word op ++ codes ")")
mode_text M.Rp = codes "rp"
mode_text M.Wp = codes "wp"
mode_text M.Xp = codes "xp"
mode_text (M.Cwp op) = codes "cwp(" ++ (op_word op ++ codes ")")

-- `int v`, `r A`, `cw(add) A`, `xp A`, `xp A[]`
abbrev pub sort_text : Sort → List ℕ → List ℕ
sort_text Int name = codes "int " ++ name
sort_text (One mode) name = mode_text mode ++ (codes " " ++ name)
sort_text (Many mode) name = mode_text mode ++ (codes " " ++ (name ++ codes "[]"))

abbrev pub param_text : Param → List ℕ
param_text p = sort_text p.sort p.name

abbrev pub params_text : List ℕ → List Param → List ℕ
params_text lead params = listed lead (map param_text params)

-- `task NAME(P, P) {`, `loop NAME(i; P, P) {` or `loop NAME(i;) {`, without the `) {`
abbrev pub task_head : Option Index → List ℕ → List Param → List ℕ
task_head None name params = codes "task " ++ (name ++ (codes "(" ++ params_text [] params))
task_head (Some i) name params =
    codes "loop " ++ (name ++ (codes "(" ++ (i.name ++ (codes ";" ++ params_text (codes " ") params))))

-- a head, the statements, and a `}`
abbrev pub body_text : List ℕ → List Stmt → List ℕ
body_text head body = line 0 (head ++ codes " {") ++ (block_text (map text_of_stmt body) 0 ++ line 0 (codes "}"))

abbrev pub task_text : Task → List ℕ
task_text t = body_text (task_head t.index t.name t.params ++ codes ")") t.body

abbrev pub main_text : Main → List ℕ
main_text m = body_text (codes "main") m.body

abbrev pub canonical_text : Program → List ℕ
canonical_text p =
    flat_map family_text p.families ++ (flat_map task_text p.tasks ++ (flat_map main_text p.mains ++ line 0 (codes "data")))
