use Rattle.std.proofs.Common.{◌≡◌, ◌++◌, take, string_bytes}
use Rattle.std.specs.List.{flat_map}
use Rattle.kt_print.specs.Lines.{step_text}
use Rattle.kt_print.proofs.lines.push_steps.Given as goal

-- the numbers so far stand behind what was there
abbrev pub invariant-loop-step : goal.invariant-loop-step
invariant-loop-step l = string_bytes l.text ≡ string_bytes l.initial.text ++ flat_map step_text (take l.step-index l.steps)
