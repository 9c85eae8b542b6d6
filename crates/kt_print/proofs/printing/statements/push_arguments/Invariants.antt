use denote.Shadow.{shadow}
use denote.Text.{Utf8}
use Rattle.std.proofs.Common.{◌≡◌, ◌++◌, drop, string_bytes}
use Rattle.kt_print.specs.CanonicalStatements.{arguments_text}
use Rattle.kt_print.proofs.printing.statements.push_arguments.Given as goal

-- the text so far and the arguments that are left are the whole text
abbrev pub invariant-loop-arg : goal.invariant-loop-arg
invariant-loop-arg l = (string_bytes l.text ++ arguments_text l.before (drop l.arg-index l.args) ≡ string_bytes l.initial.text ++ arguments_text l.lead l.args) × shadow (Utf8 l.before)
