use Rattle.std.proofs.Common.{◌≡◌, ◌++◌, take, string_bytes}
use Rattle.std.specs.List.{flat_map}
use Rattle.kt_print.specs.CanonicalText.{family_text}
use Rattle.kt_print.proofs.printing.declarations.push_families.Given as goal

abbrev pub invariant-loop-family : goal.invariant-loop-family
invariant-loop-family l = string_bytes l.text ≡ string_bytes l.initial.text ++ flat_map family_text (take l.family-index l.families)
