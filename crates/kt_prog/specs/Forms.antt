-- Which form of body a call has, by its number.
use Rattle.std.specs.Prelude.{ℕ, nat_lt, if◌then◌else◌}
use Rattle.kt_law.specs.declared.limits.TheConstants.{DEFINITIONS}
use Rattle.kt_prog.specs.Operations.{is_loop_at}
use Rattle.kt_prog.specs.declared.form.Form.{Form}
use Rattle.kt_prog.specs.declared.form.Form.TheVariants.{Task, Loop, Kernel}
use Rattle.kt_prog.specs.declared.programs.Program.{Program}

-- a kernel's, a loop's, or else that of a task or of main
abbrev pub form_at : Program → ℕ → Form
form_at p number = if nat_lt DEFINITIONS number then Kernel else if is_loop_at p number then Loop else Task
