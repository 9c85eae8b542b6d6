-- What the check has in sight: the scope that its view of the text stands for.
use Rattle.std.specs.Prelude.{ℕ, ◌+◌, List, [], ◌∷◌, ◌++◌, length, map, Option, Some, None, if◌then◌else◌}
use Rattle.std.specs.Str.{bytes_eq}
use Rattle.kt_law.specs.declared.places.Place.{Place}
use Rattle.kt_prog.specs.Scope.{Scope, known_index, known_param}
use Rattle.kt_prog.specs.Rules.{Breaches}
use Rattle.kt_prog.specs.ForkRules.{wants_many, wants_other}
use Rattle.kt_prog.specs.declared.programs.Sort.{Sort}
use Rattle.kt_prog.specs.declared.programs.Sort.TheVariants as S
use Rattle.kt_prog.specs.Declarations.{Declared}
use Rattle.kt_check.specs.Lets.{let_names, lets_at}
use Rattle.kt_prog.specs.declared.programs.Family.{Family}
use Rattle.kt_prog.specs.declared.programs.Task.{Task}
use Rattle.kt_prog.specs.declared.programs.Param.{Param}
use Rattle.kt_prog.specs.declared.programs.Index.{Index}
use Rattle.kt_prog.specs.declared.programs.Stmt.{Stmt}
use Rattle.kt_prog.specs.declared.sight.Kind.{Kind}
use Rattle.kt_prog.specs.declared.sight.Kind.TheVariants as K
use Rattle.kt_prog.specs.declared.sight.Known.{Known}
use Rattle.kt_check.specs.declared.names.Names.{Names, Names-F, fold-Names}
use Rattle.kt_check.specs.declared.names.Names.TheOpen as N
use Rattle.kt_check.specs.declared.names.Sight.{Sight}

abbrev pub kind_index : Option Index → List ℕ → Option Kind
kind_index None name = None
kind_index (Some index) name = if bytes_eq index.name name then Some K.Index else None

abbrev pub names_step : Names-F (List Known) → List Known
names_step N.Nothing = []
names_step (N.Head task) = known_index task.now.index ++ map known_param task.now.params
names_step (N.Lets outer stmts places) = outer.now ++ lets_at stmts.now places.now
names_step (N.Block outer stmts) = outer.now ++ let_names stmts.now
names_step (N.Turn outer name) = outer.now ++ record { name = name.now; kind = K.Number } ∷ []

abbrev pub names_in : Names → List Known
names_in = fold-Names (List Known) names_step

abbrev pub lets_step : Names-F ℕ → ℕ
lets_step N.Nothing = 0
lets_step (N.Head task) = 0
lets_step (N.Lets outer stmts places) = outer.now + length places.now
lets_step (N.Block outer stmts) = outer.now + length (let_names stmts.now)
lets_step (N.Turn outer name) = outer.now + 1

abbrev pub lets_in : Names → ℕ
lets_in = fold-Names ℕ lets_step

abbrev pub scope_of : Sight → Scope
scope_of s = record {
  families = s.program.now.families;
  tasks = s.program.now.tasks;
  in_main = s.in_main;
  in_loop = s.in_loop;
  names = names_in s.names.now;
  lets = lets_in s.names.now;
}

-- how a parameter wants the name of a span
abbrev pub wants_span : Place → Sort → Option Kind → Place → Breaches
wants_span at S.Int = wants_other at
wants_span at (S.One want) = wants_other at
wants_span at (S.Many want) = wants_many at want

-- where a block stands behind these statements of it
abbrev pub behind : Scope → List Stmt → Scope
behind s stmts = record s { names = s.names ++ let_names stmts; lets = s.lets + length (let_names stmts) }

abbrev pub sort_of : Param → Sort
sort_of p = p.sort

abbrev pub declared_family : Family → Declared
declared_family f = record { name = f.name; place = f.place }

abbrev pub declared_task : Task → Declared
declared_task t = record { name = t.name; place = t.place }
