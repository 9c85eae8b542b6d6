use denote.Shadow.{shadow}
use denote.Text.{Utf8}
use Rattle.std.proofs.Common.{◌≡◌, ◌++◌, drop, string_bytes}
use Rattle.kt_print.specs.CanonicalText.{params_text}
use Rattle.kt_print.proofs.printing.declarations.push_params.Given as goal

-- the text so far and the parameters that are left are the whole text
abbrev pub invariant-loop-param : goal.invariant-loop-param
invariant-loop-param l = (string_bytes l.text ++ params_text l.before (drop l.param-index l.params) ≡ string_bytes l.initial.text ++ params_text l.lead l.params) × shadow (Utf8 l.before)
