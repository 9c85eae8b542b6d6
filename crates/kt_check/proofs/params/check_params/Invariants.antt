use Rattle.std.proofs.Common.{◌≡◌, ◌≤◌, ◌++◌, drop, map, take}
use Rattle.kt_prog.specs.Declarations.{no_params, param_rules}
use Rattle.kt_prog.specs.Scope.{known_index, known_param}
use Rattle.kt_prog.specs.Targets.{is_loop_of}
use Rattle.kt_prog.specs.Refusals.{noted}
use Rattle.kt_check.proofs.params.check_params.Given as goal

abbrev pub invariant-loop-i : goal.invariant-loop-i
invariant-loop-i l = (l.ints ≤ l.i) × (l.objects ≤ l.i) × (l.in_loop ≡ is_loop_of l.index) × (noted l.fn.found (param_rules (is_loop_of l.index) (known_index l.index) no_params l.params) ≡ noted l.found (param_rules l.in_loop (known_index l.index ++ map known_param (take l.i l.params)) (record { ints = l.ints; objects = l.objects }) (drop l.i l.params)))
