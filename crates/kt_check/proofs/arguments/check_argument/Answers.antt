use Rattle.std.proofs.Common.{refl}
use Rattle.kt_check.proofs.Equations.{rules_span}
use Rattle.kt_check.proofs.Noted.{noted_append}
use Rattle.kt_check.proofs.arguments.check_argument.Goals as goal

pub returns-in-Span : goal.returns-in-Span
returns-in-Span c = rw (c.in-Span.is, rules_span, noted_append, noted_append, c.check_expr-in-Span-2.ensures, c.check_expr-in-Span.ensures, c.note_span.ensures, c.kind_at-kind.ensures) refl
