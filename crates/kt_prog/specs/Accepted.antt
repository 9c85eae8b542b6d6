-- The rules that a program breaks.
use Rattle.std.specs.Prelude.{◌≡◌, List, [], ◌∷◌, ◌++◌, map, true, false}
use Rattle.kt_prog.specs.Targets.{is_loop_of}
use Rattle.kt_prog.specs.Scope.{Scope, known_param, known_index}
use Rattle.kt_prog.specs.Rules.{Breaches}
use Rattle.kt_prog.specs.StatementRules.{block_rules, rules_of_stmt}
use Rattle.kt_prog.specs.Declarations.{declared_in, names_twice, main_rules, family_rules, count_rules, no_params, param_rules}
use Rattle.kt_prog.specs.declared.programs.Program.{Program}
use Rattle.kt_prog.specs.declared.programs.Task.{Task}
use Rattle.kt_prog.specs.declared.programs.Main.{Main}
use Rattle.kt_prog.specs.declared.programs.Stmt.{Stmt}

abbrev pub body_rules : Scope → List Stmt → Breaches
body_rules s body = block_rules (map rules_of_stmt body) s

-- what is in sight where a body begins
abbrev pub task_scope : Program → Task → Scope
task_scope p t = record {
  families = p.families;
  tasks = p.tasks;
  in_main = false;
  in_loop = is_loop_of t.index;
  names = known_index t.index ++ map known_param t.params;
  lets = 0;
}

abbrev pub main_scope : Program → Scope
main_scope p = record { families = p.families; tasks = p.tasks; in_main = true; in_loop = false; names = []; lets = 0 }

-- of each task or loop its parameters and its body
abbrev pub task_rules : Program → List Task → Breaches
task_rules p [] = []
task_rules p (t ∷ tasks) =
    param_rules (is_loop_of t.index) (known_index t.index) no_params t.params ++ body_rules (task_scope p t) t.body ++ task_rules p tasks

abbrev pub mains_rules : Program → List Main → Breaches
mains_rules p [] = []
mains_rules p (m ∷ mains) = body_rules (main_scope p) m.body ++ mains_rules p mains

-- all breaches
unfoldable pub broken : Program → Breaches
broken p =
    names_twice (declared_in p) (declared_in p) ++ main_rules p.end p.mains ++ family_rules 0 0 p.families ++ count_rules 0 p.tasks
    ++ task_rules p p.tasks ++ mains_rules p p.mains

abbrev pub IsAccepted : Program → Type 0
IsAccepted p = broken p ≡ []
