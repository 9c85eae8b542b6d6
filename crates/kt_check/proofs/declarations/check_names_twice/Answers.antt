use Rattle.std.proofs.Common.{refl}
use Rattle.kt_check.proofs.Noted.{noted_append}
use Rattle.kt_check.proofs.Noting.{append_twice}
use Rattle.kt_check.proofs.declarations.check_names_twice.Goals as goal

pub returns : goal.returns
returns c = rw (c.check_task_names.ensures, c.check_family_names.ensures, c.families.ensures, c.tasks.ensures, append_twice, noted_append) refl
