-- Why a program is not accepted, or was not tested.
use Rattle.std.specs.Prelude.{◌≡◌, Some}
use Rattle.kt_prog.specs.Refusals.{refusal_of}
use Rattle.kt_check.specs.declared.CheckRefusal.{CheckRefusal}
use Rattle.kt_check.specs.declared.CheckRefusal.TheVariants.{Refused, NoMemory}
use Rattle.kt_prog.specs.declared.programs.Program.{Program}

abbrev pub IsCheckRefusal : Program → CheckRefusal → Type 0
IsCheckRefusal p (Refused refusal) = refusal_of p ≡ Some refusal
IsCheckRefusal p NoMemory = Unit {0}
