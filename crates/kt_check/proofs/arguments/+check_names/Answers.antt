use Rattle.std.proofs.Common.{refl}
use Rattle.kt_check.proofs.Equations.{unknown_bin}
use Rattle.kt_check.proofs.Noted.{noted_append}
use Rattle.kt_check.proofs.arguments.+check_names.Goals as goal

pub returns-in-Bin : goal.returns-in-Bin
returns-in-Bin t c = rw (c.in-Bin.is, unknown_bin, noted_append, c.check_names-in-Bin-2.ensures, c.check_names-in-Bin.ensures, c.get-in-Bin.ensures, c.get-in-Bin-2.ensures) refl
