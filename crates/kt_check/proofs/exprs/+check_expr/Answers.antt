use Rattle.std.proofs.Common.{refl}
use Rattle.kt_check.proofs.Equations.{rules_bin}
use Rattle.kt_check.proofs.Noted.{noted_append}
use Rattle.kt_check.proofs.exprs.+check_expr.Goals as goal

pub returns-in-Bin : goal.returns-in-Bin
returns-in-Bin t c = rw (c.in-Bin.is, rules_bin, noted_append, c.check_expr-in-Bin-2.ensures, c.check_expr-in-Bin.ensures, c.get-in-Bin.ensures, c.get-in-Bin-2.ensures) refl
