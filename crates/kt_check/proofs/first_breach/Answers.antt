use Rattle.std.proofs.Common.{None}
use Rattle.kt_prog.specs.Accepted.{broken, mains_rules, task_rules}
use Rattle.kt_prog.specs.Declarations.{count_rules, declared_in, family_rules, main_rules, names_twice}
use Rattle.kt_check.proofs.AnyOrder.{first_fourth}
use Rattle.kt_check.proofs.first_breach.Goals as goal

pub returns : goal.returns
unfolding broken
returns c =
    let p = c.args.program.now in
    rw (c.check_bodies.ensures, c.check_tasks.ensures, c.check_names_twice.ensures, c.mains.ensures, c.tasks.ensures, c.requires)
    (first_fourth None (names_twice (declared_in p) (declared_in p)) (main_rules p.end p.mains) (family_rules 0 0 p.families) (count_rules 0 p.tasks) (task_rules p p.tasks) (mains_rules p p.mains))
