use Rattle.std.proofs.Common.{◌≡◌, ◌++◌, take, string_bytes}
use Rattle.std.specs.List.{flat_map}
use Rattle.kt_print.specs.CanonicalText.{main_text}
use Rattle.kt_print.proofs.printing.declarations.push_mains.Given as goal

abbrev pub invariant-loop-main : goal.invariant-loop-main
invariant-loop-main l = string_bytes l.text ≡ string_bytes l.initial.text ++ flat_map main_text (take l.main-index l.mains)
