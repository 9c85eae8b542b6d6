use Rattle.std.proofs.Common.{◌≡◌, ◌++◌, string_bytes}
use Rattle.kt_print.specs.CanonicalWords.{blanks}
use Rattle.kt_print.proofs.printing.statements.push_blanks.Given as goal

abbrev pub invariant-loop-blank : goal.invariant-loop-blank
invariant-loop-blank l = string_bytes l.text ≡ string_bytes l.initial.text ++ blanks l._blank
