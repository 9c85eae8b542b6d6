use Rattle.std.proofs.Common.{refl}
use Rattle.kt_prog.specs.declared.programs.Expr.TheViews.{outs-Bin}
use Rattle.kt_check.proofs.Noted.{noted_append}
use Rattle.kt_check.proofs.arguments.check_many.Goals as goal

pub returns-in-Bin : goal.returns-in-Bin
returns-in-Bin c = rw (c.in-Bin.is, outs-Bin, noted_append, noted_append, c.check_names-in-Bin.ensures, c.check_names.ensures, c.note-in-Bin.ensures, c.get-in-Bin.ensures, c.get-in-Bin-2.ensures) refl
