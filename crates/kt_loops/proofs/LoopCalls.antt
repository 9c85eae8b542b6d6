-- What the core says of the call of a task.
use Rattle.std.proofs.Common.{◌≡◌, ◌≤◌, sym, subst, arith}
use mathlib.Core.Option.{some}
use Rattle.atomic_table.specs.Table.{State}
use Rattle.kt_law.specs.declared.limits.TheConstants.{LENGTH}
use Rattle.kt_order.specs.Forest.{Task}
use Rattle.kt_order.specs.Paths.{HasRoom}
use Rattle.kt_prog.specs.Calls.{CallTree}
use Rattle.kt_prog.specs.Fits.{Fits, FitsJob, is_main, is_call}
use Rattle.kt_prog.specs.Reference.{machine_of}
use Rattle.kt_prog.specs.declared.programs.Program.{Program}
use Rattle.kt_runs.specs.ByPath.{Path, levels}
use Rattle.kt_runs.proofs.PathCalls.{fits_at, fits_deep}
use Rattle.kt_runs.proofs.PathLists.{room_in}
use Rattle.kt_rule.specs.declared.views.Setup.{Setup}
use Rattle.kt_rule.specs.declared.views.View.{View}
use Rattle.kt_rule.specs.Lies.{Lie, Lies, core_of}
use Rattle.kt_rule.specs.Records.{layout_of, elements}
use Rattle.kt_rule.specs.Rule.{Slots, Facts}
use Rattle.kt_rule.proofs.Puts.{get_at}

-- its length is within the limit
call_few : (p : Program) (call : CallTree) → Fits p call → call.length ≤ LENGTH
call_few p call (is_main e) = subst (λ (c : CallTree). c.length ≤ LENGTH) (sym e) (omega arith)
call_few p call (is_call t at fits) = fits.long

module _ (j : Setup) (lies : Lies) (s : State Slots View) (f : Facts j lies s) (p : Path) (t : Lie) (is : lies p ≡ some t) where
  pub call_fits : Fits j.program t.berth.call
  call_fits = subst (λ (z : Task (machine_of j.program)). FitsJob j.program z.call.job) (get_at j lies p t is)
      (fits_at j.program j.input f.laws (core_of j lies (elements (layout_of j) s.words)) f.core.lawful p (f.core.there p t is))

  pub length_few : t.berth.call.length ≤ LENGTH
  length_few = call_few j.program t.berth.call call_fits

  -- there is room below it
  pub room_below : HasRoom levels p
  room_below = let a = fits_deep j.program t.berth.call call_fits in let b = (f.words.sound p t is).deep in room_in levels p (omega (arith, a, b))
