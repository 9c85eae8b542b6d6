use Rattle.std.proofs.Common.{◌≡◌, ◌++◌, take, string_bytes}
use Rattle.std.specs.List.{flat_map}
use Rattle.kt_print.specs.Rows.{number_text}
use Rattle.kt_gen.proofs.numbers.push_line.Given as goal

-- the numbers so far stand behind what was there
abbrev pub invariant-loop-value : goal.invariant-loop-value
invariant-loop-value l = string_bytes l.text ≡ string_bytes l.initial.text ++ flat_map number_text (take l.value-index l.rest)
